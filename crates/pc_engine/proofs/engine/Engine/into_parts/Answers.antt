-- What the link keeps for a part with a log is what an engine's type says of it.
use Rattle.std.proofs.Common.{◌≡◌, ℕ, ◌<◌, true, List, length, slice_get, Option, inl, inr}
use Rattle.std.specs.Prelude.{is_some}
use Rattle.std.specs.Option.{option_flatten}
use Rattle.std.proofs.lemmas.Bool.{cases_lt}
use Rattle.std.proofs.lemmas.Option.{slice_get_past}
use Rattle.pc_engine.proofs.engine.Engine.into_parts.Goals as goal

-- a part with a log is one of the logs' places
within : {X : Type 0} (logs : List (Option X)) (p : ℕ)
    → is_some (option_flatten (slice_get logs p)) ≡ true → p < length logs
within logs p has = elim (cases_lt p (length logs)) [
  | inl lt ↦ lt
  | inr ge ↦ let none = rw (slice_get_past logs p ge) at has in cc
]

pub returns-clause-stored : goal.returns-clause-stored
returns-clause-stored g c = rw (← c.self.view_is)
    (λ told p has. c.self.invariant.stored told p (within c.self.inside.state.logs.now p has))
