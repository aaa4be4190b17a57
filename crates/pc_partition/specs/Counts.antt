-- How many runs there are up to an end, and how many of them are long.
use Rattle.std.specs.Prelude.{ℕ, ◌+◌, ◌-◌, ◌^◌, ◌≡◌, ◌<◌, ◌≤◌, ◌==◌, false, nat_le, nat_lt, if◌then◌else◌, List, [], ◌∷◌, ◌++◌, count_by, length, Option, Some, None, IfSome}
use Rattle.std.specs.List.{list_any}
use Rattle.pc_model.specs.Bits.{AreRuns}
use Rattle.pc_partition.specs.declared.counts.Counts.{Counts}
use Rattle.pc_partition.specs.Runs.{offsets_in}

-- from a place up to an end the lengths of the 1 bits before each run of 0 bits, of that run, and
-- of the 1 bits after the last
abbrev pub lengths_after : ℕ → ℕ → List (ℕ × ℕ) → List ℕ
lengths_after place end [] = if nat_lt place end then (end - place) ∷ [] else []
lengths_after place end (run ∷ runs) = (run.0 - place) ∷ run.1
    ∷ lengths_after (run.0 + run.1) end runs

-- the lengths from the first run of 0 bits on
abbrev pub lengths_upto : ℕ → List (ℕ × ℕ) → List ℕ
lengths_upto end [] = []
lengths_upto end (run ∷ runs) = run.1 ∷ lengths_after (run.0 + run.1) end runs

-- how many of the numbers are not below a limit
abbrev pub long_of : ℕ → List ℕ → ℕ
long_of limit lengths = count_by (λ n. nat_le limit n) lengths

-- the counts of runs of 0 bits, and of 1 bits between them and after them up to an end
abbrev pub counts_of : ℕ → List (ℕ × ℕ) → Counts
counts_of end runs = record {
  runs = length runs;
  long = long_of (2 ^ 15) (lengths_upto end runs);
  long_2 = long_of (2 ^ 31) (lengths_upto end runs);
}

-- the runs that begin at an offset or before it, where they come in order
abbrev pub runs_below : ℕ → List (ℕ × ℕ) → List (ℕ × ℕ)
runs_below high [] = []
runs_below high (run ∷ runs) = if nat_le run.0 high then run ∷ runs_below high runs else []

-- the same up to the greatest complete offset; none where there is no such offset
abbrev pub runs_upto : Option ℕ → List (ℕ × ℕ) → List (ℕ × ℕ)
runs_upto None runs = []
runs_upto (Some high) runs = runs_below high runs

-- where the bits end
abbrev pub end_of : Option ℕ → ℕ
end_of None = 0
end_of (Some high) = high + 1

-- the counts up to the greatest complete offset
abbrev pub counts_upto : Option ℕ → List (ℕ × ℕ) → Counts
counts_upto high runs = counts_of (end_of high) (runs_upto high runs)

-- the counts are those, of no more runs than memory can hold
pub record AreCounted (high : Option ℕ) (runs : List (ℕ × ℕ)) (counts : Counts) : Type 0 where
  pub are : counts ≡ counts_upto high runs
  pub few : counts.runs ≤ 2 ^ 59

-- where the first run begins, or else the end
abbrev pub start_of : ℕ → List (ℕ × ℕ) → ℕ
start_of end [] = end
start_of end (run ∷ runs) = run.0

-- the counts of the runs up to an end that stand after the first ones and before the last ones
abbrev pub IsPart : ℕ → ℕ → ℕ → List (ℕ × ℕ) → Counts → Type 0
IsPart first behind end runs counts = (front middle back : List (ℕ × ℕ))
    → runs ≡ front ++ (middle ++ back) → first ≡ length front → behind ≡ length back
    → counts ≡ counts_of (start_of end back) middle

-- the number of runs up to high, of which this many first ones and last ones can be left out
pub record HasPart (first behind : ℕ) (high : Option ℕ) (runs : List (ℕ × ℕ)) (count : ℕ)
    : Type 0 where
  pub in_order : AreRuns 0 (end_of high) (runs_upto high runs)
  pub small : end_of high ≤ 2 ^ 63
  pub count_is : count ≡ length (runs_upto high runs)
  pub within : first + behind ≤ count

-- a part of a count can give way to another
pub record GivesWay (all old new : ℕ) : Type 0 where
  pub less : old ≤ all
  pub fits : all - old + new < 2 ^ 64

-- runs in order, a greatest complete offset that is in none of them, and the counts
pub record IsCounted (runs : List (ℕ × ℕ)) (high : Option ℕ) (counts : Counts) : Type 0 where
  pub in_order : AreRuns 0 (2 ^ 63) runs
  pub small : end_of high ≤ 2 ^ 63
  pub apart : IfSome high (λ h. list_any (λ o. o == h) (offsets_in runs) ≡ false)
  pub counted : AreCounted high runs counts
