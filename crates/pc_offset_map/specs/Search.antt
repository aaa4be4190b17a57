-- A search among the runs of 0 bits.
use Rattle.std.specs.Prelude.{◌≡◌, ℕ, ◌+◌, ◌<◌, ◌≤◌, Bool, List, length, Some}
use Rattle.std.specs.List.{slice_get}
use Rattle.pc_model.specs.Bits.{zero_runs}

-- the runs below one index end at the place or before, and those from another on begin after it
pub record IsBetween (bits : List Bool) (place low high : ℕ) : Type 0 where
  pub before : (i : ℕ) (run : ℕ × ℕ) → i < low → slice_get (zero_runs bits) i ≡ Some run
      → run.0 + run.1 ≤ place
  pub after : (i : ℕ) (run : ℕ × ℕ) → high ≤ i → slice_get (zero_runs bits) i ≡ Some run
      → place < run.0
  pub ends : high ≤ length (zero_runs bits)
