-- The offsets of a part's records that wait.
use Rattle.std.specs.Prelude.{ℕ, ◌+◌, ◌≡◌, ◌≤◌, Bool, false, ◌==◌, List, length, map, count_by}
use Rattle.std.specs.BinaryHeap.{IsHeap}
use Rattle.std.specs.Option.{option_map_or}
use Rattle.std.specs.Ordering.{nat_cmp}
use Rattle.std.specs.declared.cmp.Ordering.{Ordering}
use Rattle.std.specs.declared.cmp.Reverse.{Reverse}
use Rattle.pc_model.specs.Numbers.{least_of}

-- what is kept of some offsets: what was added, what of that is gone, and for how many more there
-- is room
pub record Kept : Type 0 where
  pub added : List ℕ
  pub gone : List ℕ
  pub room : ℕ

-- how two offsets compare, the lesser one as the greater
abbrev pub by_offset : Reverse ℕ → Reverse ℕ → Ordering
by_offset a b = nat_cmp b.0 a.0

-- offsets without the reversal
abbrev pub plain : List (Reverse ℕ) → List ℕ
plain offsets = map (λ o. o.0) offsets

-- how often the offset is among these
abbrev pub times : ℕ → List ℕ → ℕ
times o offsets = count_by (λ u. u == o) offsets

-- these offsets are what was added and is not gone
pub record HoldAt (offsets added gone : List ℕ) : Type 0 where
  pub each : (o : ℕ) → times o added ≡ times o offsets + times o gone
  pub count : length added ≡ length offsets + length gone

abbrev pub Hold : List ℕ → Kept → Type 0
Hold offsets kept = HoldAt offsets kept.added kept.gone

-- whether the least of both is the same
abbrev pub share_least : List ℕ → List ℕ → Bool
share_least xs ys = option_map_or (λ x. option_map_or (λ y. x == y) (least_of ys) false)
    (least_of xs) false

-- two heaps of which the least differs, and a place for each that was added to be gone
pub record IsTidy (all out : List (Reverse ℕ)) (places : ℕ) : Type 0 where
  pub added : IsHeap by_offset all
  pub gone : IsHeap by_offset out
  pub apart : share_least (plain all) (plain out) ≡ false
  pub fits : length all ≤ places
