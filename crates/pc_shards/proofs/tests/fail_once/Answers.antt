-- The only record is the first of its key, and did not fail.
use Rattle.std.proofs.Common.{inl, inr, refl, arith, ap}
use Rattle.pc_shards.specs.Entries.{Entry}
use Rattle.pc_shards.proofs.tests.fail_once.Goals as goal

pub fail-requires-clause-first : goal.fail-requires-clause-first
fail-requires-clause-first c = rw c.requires refl

pub fail-requires-clause-fits : goal.fail-requires-clause-fits
fail-requires-clause-fits c = rw c.requires (λ e i at. elim i [
  | inl same ↦ let none = ap (λ (x : Entry). x.failures) same in omega (arith, none)
  | inr none ↦ elim none [ ]
])
