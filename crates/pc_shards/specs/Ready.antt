-- What clauses see of ready offsets.
use Rattle.std.specs.Prelude.{ℕ, List}
use Rattle.std.specs.Ordering.{nat_cmp}
use Rattle.std.specs.declared.cmp.Ordering.{Ordering}
use Rattle.std.specs.declared.cmp.Reverse.{Reverse}

-- the offsets in rising order, and for how many there is room
pub record Offsets : Type 0 where
  pub offsets : List ℕ
  pub places : ℕ

-- how two offsets compare, the lesser one as the greater
abbrev pub by_offset : Reverse ℕ → Reverse ℕ → Ordering
by_offset a b = nat_cmp b.0 a.0
