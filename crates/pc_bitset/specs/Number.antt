-- The number in front of a BitSet's bits.
use Rattle.std.specs.Prelude.{ℕ, nat_lt, not, if◌then◌else◌, List, length, Result, Ok, Err}
use Rattle.byteorder.specs.Endian.{big_number}
use Rattle.pc_model.specs.declared.bits_fault.BitsFault.{BitsFault}
use Rattle.pc_model.specs.declared.bits_fault.BitsFault.TheVariants.{ShortNumber, NegativeNumber}
use Rattle.pc_model.specs.MapSpelling.{number_fits}

-- the number in the first bytes
abbrev pub number_reading : ℕ → List ℕ → Result ℕ BitsFault
number_reading width bytes = if nat_lt (length bytes) width then Err ShortNumber
    else if not (number_fits width (big_number width bytes)) then Err NegativeNumber
    else Ok (big_number width bytes)
