-- The history of a run by its steps, the first record of a part that is not finished, and that each
-- record of a part succeeds in time.
use Rattle.std.specs.Prelude.{ℕ, ◌≡◌, ◌<◌, true, List, ◌++◌, Some, slice_get}
use Rattle.pc_model.specs.declared.event.Event.{Event}
use Rattle.pc_model.specs.declared.step.Step.{Step}
use Rattle.pc_model.specs.Record.{Record}
use Rattle.pc_model.specs.Bound.{failing_attempts}
use Rattle.pc_model.specs.Given.{Given, records_of}
use Rattle.pc_model.specs.Known.{unpolled_records}
use Rattle.pc_model.specs.Lawful.{IsLegal}
use Rattle.pc_model.specs.Run.{open_records}
use Rattle.pc_model.specs.Steps.{follows}
use Rattle.pc_model.specs.Pace.{goes_with, is_paced}
use Rattle.pc_laws.specs.Lists.{In}

-- a run by the steps: legal, its parts move by the steps, and it keeps to the pace
pub record IsRun (given : Given) (steps : List Step) (h : List Event) : Type 0 where
  pub legal : IsLegal given h
  pub follows : follows given steps h ≡ true
  pub paced : is_paced given steps h ≡ true

-- the record is the first of the part that is incomplete or was not polled
abbrev pub IsFirstUnfinished : Given → List Event → ℕ → Record → Type 0
IsFirstUnfinished given h p r =
    slice_get (open_records given h p ++ unpolled_records given h p) 0 ≡ Some r

-- each record of the part has fewer bad attempts, one after the other, than it may have
abbrev pub SucceedsInTime : Given → ℕ → Type 0
SucceedsInTime given p = (r : Record) → In r (records_of given p)
    → failing_attempts given p r < given.setup.settings.give_up

-- the last event does not ask for a certain one right after it
abbrev pub AnyMayCome : Given → List Event → Type 0
AnyMayCome given h = (e : Event) → goes_with given h e ≡ true
