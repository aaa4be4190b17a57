-- The outcome of an attempt, and the outcomes of the program's functions, by the rules.
use Rattle.std.specs.Prelude.{ℕ, false, ◌&&◌, ◌==◌, nat_le, if◌then◌else◌, List, length, sum, decimal, codes, Option, Some, None, find, option_map, option_and_then}
use Rattle.std.specs.Option.{option_map_or}
use Rattle.hex.specs.Hex.{encode_lower}
use Rattle.pc_model.specs.declared.choices.Work.{Work}
use Rattle.pc_model.specs.declared.choices.Work.TheVariants.{Length, ByteSum, Hex}
use Rattle.pc_model.specs.declared.event.Event.{Event}
use Rattle.pc_model.specs.declared.outcome.FailRule.{FailRule}
use Rattle.pc_model.specs.declared.outcome.Rules.{Rules}
use Rattle.pc_model.specs.declared.outcome.Outcome.{Outcome}
use Rattle.pc_model.specs.declared.outcome.Outcome.TheVariants.{Good, Bad}
use Rattle.pc_model.specs.Record.{Record}
use Rattle.pc_model.specs.Given.{Given, record_at}
use Rattle.pc_model.specs.Jobs.{Job, job_of}

-- the function's answer to a value: how many bytes it has, or their sum, as a decimal, or the bytes
-- in lower-case hexadecimal; `null` to a null value
abbrev pub answer_of : Work → Option (List ℕ) → List ℕ
answer_of work None = codes "null"
answer_of Length (Some bytes) = decimal (length bytes)
answer_of ByteSum (Some bytes) = decimal (sum bytes)
answer_of Hex (Some bytes) = encode_lower bytes

-- the first rule for the part's record at the offset
abbrev pub fail_rule_of : List FailRule → ℕ → ℕ → Option FailRule
fail_rule_of fails p o = find (λ f. (f.part == p) && (f.offset == o)) fails

-- the outcome of an attempt by the rules, counted from 1: it fails with code 1 as often as the rule says, and
-- then succeeds
abbrev pub outcome_of : Rules → ℕ → Record → ℕ → Outcome
outcome_of rules p r attempt = if option_map_or (λ f. nat_le attempt f.times)
    (fail_rule_of rules.fails p r.offset) false
    then Bad 1 else Good (answer_of rules.work r.value)

-- the outcome of a job's attempt, if its record is in the log
abbrev pub job_outcome : Given → Job → Option Outcome
job_outcome given j = option_map (λ r. given.outcome j.part r j.attempt)
    (record_at given j.part j.offset)

-- the outcome of a ticket's attempt, if it was dispatched
unfoldable pub ticket_outcome : Given → List Event → ℕ → Option Outcome
ticket_outcome given h t = option_and_then (job_outcome given) (job_of h t)

-- which attempt the ticket is, and 0 where it was not dispatched
unfoldable pub ticket_attempt : List Event → ℕ → ℕ
ticket_attempt h t = option_map_or (λ j. j.attempt) (job_of h t) 0
