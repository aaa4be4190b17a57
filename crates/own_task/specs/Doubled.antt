-- The outcomes of the function, by the value and the attempt alone.
use Rattle.std.specs.Prelude.{ℕ, ◌*◌, ◌==◌, nat_le, if◌then◌else◌, List, Option, Some, None, option_and_then, decimal, codes}
use Rattle.std.specs.List.{after_first}
use Rattle.pc_model.specs.declared.outcome.Outcome.{Outcome}
use Rattle.pc_model.specs.declared.outcome.Outcome.TheVariants.{Good, Bad}
use Rattle.pc_model.specs.declared.outcome.Rules.{Rules}
use Rattle.pc_model.specs.Record.{Record}
use Rattle.pc_lines.specs.Decimal.{number_of}

-- the number of a value NAME=NUMBER: what stands after the first =
abbrev pub number_in : List ℕ → Option ℕ
number_in value = number_of (after_first (λ b. b == 61) value)

-- the number is doubled; without one the first attempt fails with code 2
abbrev pub doubled : Option ℕ → ℕ → Outcome
doubled (Some n) attempt = Good (decimal (2 * n))
doubled None attempt = if nat_le attempt 1 then Bad 2 else Good (codes "unread")

-- the outcome of an attempt at a record, whatever the rules and the part are
abbrev pub outcome_of : Rules → ℕ → Record → ℕ → Outcome
outcome_of rules part r attempt = doubled (option_and_then number_in r.value) attempt
