-- Completion bits: lists of truth values, false where an offset is incomplete, and their runs.
use Rattle.std.specs.Prelude.{ℕ, ◌+◌, ◌-◌, ◌^◌, ◌≤◌, ◌<◌, ◌==◌, Bool, true, false, not, if◌then◌else◌, List, [], ◌∷◌, ◌++◌, map, length, replicate}
use Rattle.std.specs.List.{list_any, range_with_len}

-- a truth value for each offset from low to high, false exactly at the incomplete ones
abbrev pub bits_between : ℕ → ℕ → List ℕ → List Bool
bits_between low high incomplete = map (λ offset. not (list_any (λ i. i == offset) incomplete))
    (range_with_len low (high + 1 - low))

-- the runs where one more 0 bit stands at this place, before them
abbrev pub with_false : ℕ → List (ℕ × ℕ) → List (ℕ × ℕ)
with_false at [] = (at, 1) ∷ []
with_false at (run ∷ runs) = if run.0 == at + 1 then (at, run.1 + 1) ∷ runs
    else (at, 1) ∷ run ∷ runs

-- the place and the length of each longest run of 0 bits, where the first bit has this place
abbrev pub zero_runs_from : ℕ → List Bool → List (ℕ × ℕ)
zero_runs_from at [] = []
zero_runs_from at (true ∷ bits) = zero_runs_from (at + 1) bits
zero_runs_from at (false ∷ bits) = with_false at (zero_runs_from (at + 1) bits)

-- the place and the length of each longest run of 0 bits
abbrev pub zero_runs : List Bool → List (ℕ × ℕ)
zero_runs bits = zero_runs_from 0 bits

-- the bits from a place up to a count that have these runs of 0 bits
abbrev pub bits_of : ℕ → ℕ → List (ℕ × ℕ) → List Bool
bits_of at count [] = replicate (count - at) true
bits_of at count (run ∷ runs) = replicate (run.0 - at) true
    ++ (replicate run.1 false ++ bits_of (run.0 + run.1) count runs)

-- runs in order from a least place on, none empty, no two touching, all below the count
abbrev pub AreRuns : ℕ → ℕ → List (ℕ × ℕ) → Type 0
AreRuns least count [] = Unit {0}
AreRuns least count (run ∷ runs) = (least ≤ run.0) × (0 < run.1) × (run.0 + run.1 ≤ count)
    × AreRuns (run.0 + run.1 + 1) count runs

-- what a count and its runs keep
pub record AreBits (count : ℕ) (runs : List (ℕ × ℕ)) : Type 0 where
  pub in_order : AreRuns 0 count runs
  pub few : length runs ≤ 2 ^ 59
  pub small : count < 2 ^ 63

-- the runs with one more of n 0 bits at this place, which joins the last where that ends there
abbrev pub add_run : List (ℕ × ℕ) → ℕ → ℕ → List (ℕ × ℕ)
add_run [] place n = (place, n) ∷ []
add_run (run ∷ []) place n = if run.0 + run.1 == place then (run.0, run.1 + n) ∷ []
    else run ∷ (place, n) ∷ []
add_run (run ∷ next ∷ runs) place n = run ∷ add_run (next ∷ runs) place n
