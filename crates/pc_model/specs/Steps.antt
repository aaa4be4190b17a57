-- The steps of a run: the blocks of events in which its parts move, and when a block may begin.
use Rattle.std.specs.Prelude.{ℕ, ◌+◌, Bool, true, false, ◌&&◌, ◌||◌, ◌==◌, nat_le, List, [], ◌∷◌, drop, Option, slice_get}
use Rattle.std.specs.Option.{option_map_or}
use Rattle.pc_model.specs.declared.event.Event.{Event}
use Rattle.pc_model.specs.declared.event.Event.TheVariants.{Assign, Revoke, Lost, Crash}
use Rattle.pc_model.specs.declared.step.Act.{Act}
use Rattle.pc_model.specs.declared.step.Act.TheVariants as act
use Rattle.pc_model.specs.declared.step.Step.{Step}
use Rattle.pc_model.specs.Given.{Given}
use Rattle.pc_model.specs.Lawful.{held_parts, is_nil}
use Rattle.pc_model.specs.Run.{is_at_rest, success_count}

-- where a history stands in its steps: how many blocks were begun, and, where the last of them is
-- that of a crash, which parts it still has to assign again, in order
pub record Place : Type 0 where
  pub begun : ℕ
  pub left : List ℕ

-- an assignment goes on with the block of a crash, or is a block of its own
abbrev pub after_assign : ℕ → List ℕ → Place
after_assign begun [] = record { begun = begun + 1; left = [] }
after_assign begun (p ∷ left) = record { begun = begun; left = left }

-- the place after this event, which follows the history at this place
abbrev pub place_after : Given → Event → List Event → Place → Place
place_after given (Assign p epoch position text) h place = after_assign place.begun place.left
place_after given (Revoke p epoch) h place = record { begun = place.begun + 1; left = place.left }
place_after given (Lost p epoch) h place = record { begun = place.begun + 1; left = place.left }
place_after given Crash h place = record { begun = place.begun + 1; left = held_parts given h }
place_after given _ h place = place

abbrev pub place_of : Given → List Event → Place
place_of given [] = record { begun = 0; left = [] }
place_of given (e ∷ h) = place_after given e h (place_of given h)

-- whether the two acts are the same
abbrev pub same_act : Act → Act → Bool
same_act (act.Assign p) (act.Assign q) = p == q
same_act (act.Revoke p) (act.Revoke q) = p == q
same_act (act.Lose p) (act.Lose q) = p == q
same_act act.Crash act.Crash = true
same_act _ _ = false

-- whether the time of the step has come: so many records have succeeded, or the run is at rest
abbrev pub is_step_due : Given → Step → List Event → Bool
is_step_due given step h = nat_le step.count (success_count h) || is_at_rest given h

-- the step after those whose blocks were begun, if one is left
abbrev pub next_step : Given → List Step → List Event → Option Step
next_step given steps h = slice_get steps (place_of given h).begun

-- whether the block of this act may begin: no other is left unfinished, the next step has this act,
-- and its time has come
abbrev pub may_begin : Given → List Step → List Event → Act → Bool
may_begin given steps h act = is_nil (place_of given h).left
    && option_map_or (λ step. same_act step.act act && is_step_due given step h)
    (next_step given steps h) false

-- whether the part is the next that the block of a crash assigns again
abbrev pub is_next_part : List ℕ → ℕ → Bool
is_next_part [] p = false
is_next_part (q ∷ left) p = q == p

-- whether the event keeps to the steps. The block of an assignment is an Assign, that of a loss a
-- Lost, that of a revocation a commit of the part, stored or failed, and a Revoke, and that of a
-- crash a Crash and an Assign of each part that was held, in rising order. Each begins once its time
-- has come, and no other event stands in a block.
abbrev pub follows_at : Given → List Step → Event → List Event → Bool
follows_at given steps (Assign p epoch position text) h =
    is_next_part (place_of given h).left p || may_begin given steps h (act.Assign p)
follows_at given steps (Revoke p epoch) h = may_begin given steps (drop 1 h) (act.Revoke p)
follows_at given steps (Lost p epoch) h = may_begin given steps h (act.Lose p)
follows_at given steps Crash h = may_begin given steps h act.Crash
follows_at given steps _ h = is_nil (place_of given h).left

-- whether the parts of a history move by the steps: in blocks of the first of them, in order, the
-- last perhaps cut short
abbrev pub follows : Given → List Step → List Event → Bool
follows given steps [] = true
follows given steps (e ∷ h) = follows_at given steps e h && follows given steps h
