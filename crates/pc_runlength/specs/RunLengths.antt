-- The lengths of the runs of bits that are still to come.
use Rattle.std.specs.Prelude.{ℕ, ◌-◌, ◌^◌, min, Bool, List, drop, length, Result, Ok, Err}
use Rattle.pc_model.specs.declared.bits_fault.BitsFault.{BitsFault}
use Rattle.pc_model.specs.MapSpelling.{run_lengths_from}

-- the lengths of the runs from a place on, the first being one of 1 bits or of 0 bits
abbrev pub lengths_left : List Bool → ℕ → Bool → List ℕ
lengths_left bits place ones = run_lengths_from ones (drop place bits)

-- the number of the bits that were read, or 2^64 - 1 where it is more than that
abbrev pub checked_count : Result (List Bool) BitsFault → Result ℕ BitsFault
checked_count (Ok bits) = Ok (min (length bits) (2 ^ 64 - 1))
checked_count (Err fault) = Err fault
