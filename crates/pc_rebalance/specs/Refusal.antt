-- When an act may be done, and what may still refuse it.
use Rattle.std.specs.Prelude.{ℕ, ◌≡◌, true, false, List}
use Rattle.std.specs.List.{list_all}
use Rattle.pc_model.specs.declared.event.Event.{Event}
use Rattle.pc_model.specs.declared.step.Act.{Act}
use Rattle.pc_model.specs.declared.step.Act.TheVariants as act
use Rattle.pc_model.specs.Given.{Given, has_log}
use Rattle.pc_model.specs.Jobs.{has_ended, is_draining}
use Rattle.pc_model.specs.Epochs.{is_held}
use Rattle.pc_model.specs.Lawful.{held_parts}
use Rattle.pc_engine.specs.declared.fault.EngineFault.{EngineFault}
use Rattle.pc_engine.specs.declared.fault.EngineFault.TheVariants.{BadMap, Client, JournalFull, NoMemory}

-- the part may be assigned: the history goes on, the part has a log, nothing drains, and it is free
pub record MayAssign (given : Given) (h : List Event) (p : ℕ) : Type 0 where
  pub goes_on : has_ended h ≡ false
  pub known : has_log given p ≡ true
  pub flows : is_draining h ≡ false
  pub free : is_held h p ≡ false

-- the part may be given back or lost: the history goes on, and the part has a log and is held
pub record MayLose (given : Given) (h : List Event) (p : ℕ) : Type 0 where
  pub goes_on : has_ended h ≡ false
  pub known : has_log given p ≡ true
  pub held : is_held h p ≡ true

-- all may crash: the history goes on, and each part that is held has a log
pub record MayCrash (given : Given) (h : List Event) : Type 0 where
  pub goes_on : has_ended h ≡ false
  pub known : list_all (has_log given) (held_parts given h) ≡ true

-- the act may be done
abbrev pub MayDo : Given → List Event → Act → Type 0
MayDo given h (act.Assign p) = MayAssign given h p
MayDo given h (act.Revoke p) = MayLose given h p
MayDo given h (act.Lose p) = MayLose given h p
MayDo given h act.Crash = MayCrash given h

-- what refuses also an act that may be done: the limit of events, the link, a stored map that does
-- not read, or memory
abbrev pub IsFromOutside : EngineFault → Type 0
IsFromOutside JournalFull = Unit {0}
IsFromOutside (Client failed) = Unit {0}
IsFromOutside (BadMap fault) = Unit {0}
IsFromOutside NoMemory = Unit {0}
IsFromOutside _ = ⊥
