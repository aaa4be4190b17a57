-- That an offset has not failed.
use Rattle.std.specs.Prelude.{ℕ, ◌≡◌, List}
use Rattle.pc_model.specs.declared.event.Event.{Event}
use Rattle.pc_model.specs.Retry.{failures_in, ready_in}

-- the offset of the part did not fail in the epoch, so it has no ready time to wait for
pub record IsUnfailed (h : List Event) (p e o : ℕ) : Type 0 where
  pub failures : failures_in h p e o ≡ 0
  pub ready : ready_in h p e o ≡ 0
