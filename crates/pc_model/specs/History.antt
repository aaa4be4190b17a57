-- The journal as contracts see it.
use Rattle.std.specs.Prelude.{ℕ, List}
use Rattle.pc_model.specs.declared.event.Event.{Event}

-- the events so far, the newest first, and for how many more there is room
pub record History : Type 0 where
  pub events : List Event
  pub room : ℕ
