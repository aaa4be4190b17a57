-- How many events a run by its steps has at most, as a number of what the run is given.
use Rattle.std.specs.Prelude.{ℕ, zero, suc, ◌+◌, ◌*◌, Bool, true, false, ◌==◌, if◌then◌else◌, List, [], ◌∷◌, map, filter, length}
use Rattle.pc_model.specs.declared.outcome.Outcome.{Outcome}
use Rattle.pc_model.specs.declared.outcome.Outcome.TheVariants.{Good, Bad}
use Rattle.pc_model.specs.declared.step.Act.{Act}
use Rattle.pc_model.specs.declared.step.Act.TheVariants as act
use Rattle.pc_model.specs.declared.step.Step.{Step}
use Rattle.pc_model.specs.Given.{Given, has_log, parts_of, records_of}
use Rattle.pc_model.specs.Record.{Record}

-- one more than the number where the outcome is a failure, else 0
abbrev pub if_bad : Outcome → ℕ → ℕ
if_bad (Good answer) n = 0
if_bad (Bad code) n = suc n

-- how many attempts fail one after the other, from this one on, of so many
abbrev pub failing_from : (ℕ → Outcome) → ℕ → ℕ → ℕ
failing_from outcome attempt zero = 0
failing_from outcome attempt (suc n) = if_bad (outcome attempt) (failing_from outcome (suc attempt) n)

-- how often the record of the part fails before its first good attempt, at most `give_up` times
abbrev pub failing_attempts : Given → ℕ → Record → ℕ
failing_attempts given p r = failing_from (given.outcome p r) 1 given.setup.settings.give_up

-- the same of all these records
abbrev pub failing_sum : Given → ℕ → List Record → ℕ
failing_sum given p [] = 0
failing_sum given p (r ∷ rs) = failing_attempts given p r + failing_sum given p rs

-- whether an act assigns the part: by its own step, or again at a crash
abbrev pub may_assign : Act → ℕ → Bool
may_assign (act.Assign q) p = q == p
may_assign (act.Revoke q) p = false
may_assign (act.Lose q) p = false
may_assign act.Crash p = true

-- how often these steps may assign the part
abbrev pub assigns_in : List Step → ℕ → ℕ
assigns_in [] p = 0
assigns_in (step ∷ steps) p = if may_assign step.act p then assigns_in steps p + 1
    else assigns_in steps p

-- what a part brings into the bound: how often it may be assigned, its records, and their failures
pub record Load : Type 0 where
  pub assigns : ℕ
  pub records : ℕ
  pub failures : ℕ

abbrev pub load_of : Given → List Step → ℕ → Load
load_of given steps p = record {
  assigns = assigns_in steps p;
  records = length (records_of given p);
  failures = failing_sum given p (records_of given p);
}

-- how many records and failures the parts come to, in all epochs
abbrev pub total_load : List Load → ℕ
total_load [] = 0
total_load (load ∷ loads) = load.assigns * (load.records + load.failures) + total_load loads

-- the bound by the loads of the parts that have a log and the number of steps: for each record and
-- each failure in an epoch four events, for each step one more than there are parts, one for each
-- part, and four
abbrev pub bound_of : List Load → ℕ → ℕ
bound_of loads steps = 4 * total_load loads + steps * (length loads + 1) + length loads + 4

-- the parts that have a log
abbrev pub logged_parts : Given → List ℕ
logged_parts given = filter (has_log given) (parts_of given)

-- the bound of a run by these steps
abbrev pub event_bound : Given → List Step → ℕ
event_bound given steps = bound_of (map (load_of given steps) (logged_parts given)) (length steps)
