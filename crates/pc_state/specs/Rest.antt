-- Of one part, whether a run is at rest.
use Rattle.std.specs.Prelude.{ℕ, Bool, not, ◌&&◌, ◌||◌, ◌==◌, List}
use Rattle.pc_model.specs.declared.event.Event.{Event}
use Rattle.pc_model.specs.Given.{Given}
use Rattle.pc_model.specs.Epochs.{is_held}
use Rattle.pc_model.specs.Run.{is_part_at_rest}
use Rattle.pc_state.specs.OpenJobs.{out_of}

-- whether the part is not held, or no job of its present epoch is out and nothing is left to do of it
abbrev pub rests : Given → List Event → ℕ → Bool
rests given h p = not (is_held h p) || ((out_of h p == 0) && is_part_at_rest given h p)
