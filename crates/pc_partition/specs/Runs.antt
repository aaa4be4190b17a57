-- The offsets in runs.
use Rattle.std.specs.Prelude.{ℕ, zero, suc, ◌+◌, ◌≡◌, ◌<◌, ◌≤◌, ◌==◌, not, List, [], ◌∷◌, ◌++◌, filter, length, slice_index_or}
use Rattle.std.specs.List.{range_with_len}
use Rattle.pc_model.specs.Bits.{AreRuns}

-- the offsets in runs, each by its place and its length
abbrev pub offsets_in : List (ℕ × ℕ) → List ℕ
offsets_in [] = []
offsets_in (run ∷ runs) = range_with_len run.0 run.1 ++ offsets_in runs

-- the offsets without this one
abbrev pub without : ℕ → List ℕ → List ℕ
without offset offsets = filter (λ o. not (o == offset)) offsets

-- the offset stood once among the old offsets, and the new are the others in their order
pub record TakesOut (offset : ℕ) (old new : List ℕ) : Type 0 where
  pub front : List ℕ
  pub back : List ℕ
  pub old_is : old ≡ front ++ offset ∷ back
  pub new_is : new ≡ front ++ back
  pub front_apart : without offset front ≡ front
  pub back_apart : without offset back ≡ back

-- the run with this index has the offset
pub record IsCut (runs : List (ℕ × ℕ)) (at offset : ℕ) : Type 0 where
  pub within : at < length runs
  pub low : (d : ℕ × ℕ) → (slice_index_or runs at d).0 ≤ offset
  pub high : (d : ℕ × ℕ) → offset < (slice_index_or runs at d).0 + (slice_index_or runs at d).1

-- the runs with others in the place of the one with this index
abbrev pub splice : ℕ → List (ℕ × ℕ) → List (ℕ × ℕ) → List (ℕ × ℕ)
splice i others [] = []
splice zero others (run ∷ runs) = others ++ runs
splice (suc i) others (run ∷ runs) = run ∷ splice i others runs

-- others stand within the place of the run with this index
pub record IsSpliced (old : List (ℕ × ℕ)) (at : ℕ) (new : List (ℕ × ℕ)) : Type 0 where
  pub others : List (ℕ × ℕ)
  pub new_is : new ≡ splice at others old
  pub fit : (d : ℕ × ℕ) → AreRuns (slice_index_or old at d).0
      ((slice_index_or old at d).0 + (slice_index_or old at d).1) others
