-- The reading of a map's text: no map, its bits, or the first fault from left to right.
use Rattle.std.specs.Prelude.{ℕ, ◌+◌, ◌*◌, ◌/◌, ◌%◌, ◌^◌, ◌==◌, nat_lt, Bool, false, not, if◌then◌else◌, ◌||◌, List, [], ◌∷◌, ◌++◌, map, length, drop, replicate, slice_index, Option, Some, None, Result, Ok, Err}
use Rattle.std.specs.List.{list_all, range_with_len}
use Rattle.base64.specs.declared.decode.DecodeError.{DecodeError}
use Rattle.base64.specs.Engines.{standard}
use Rattle.base64.specs.GeneralPurpose.{decode_of}
use Rattle.byteorder.specs.Endian.{big_number}
use Rattle.pc_model.specs.declared.bits_fault.BitsFault.{BitsFault}
use Rattle.pc_model.specs.declared.bits_fault.BitsFault.TheVariants.{ShortNumber, NegativeNumber, TooManyBytes, TooManyBits, NoMemory}
use Rattle.pc_model.specs.declared.map_fault.MapFault.{MapFault}
use Rattle.pc_model.specs.declared.map_fault.MapFault.TheVariants.{NotBase64, Compressed, UnknownLetter, PastLastOffset, ShortNumber as MapShortNumber, NegativeNumber as MapNegativeNumber, TooManyBytes as MapTooManyBytes, NoMemory as MapNoMemory}
use Rattle.pc_model.specs.declared.map_letter.TheConstants.{BITSET, BITSET_2, RUN_LENGTH, RUN_LENGTH_2}
use Rattle.pc_model.specs.MapSpelling.{byte_count, number_fits}

-- the bit at a place of the bytes, by division; missing bytes hold bits 0
abbrev pub is_bit : List ℕ → ℕ → Bool
is_bit bytes place = (slice_index bytes (place / 8) / 2 ^ (place % 8)) % 2 == 1

-- so many bits of the bytes
abbrev pub bits_in : ℕ → List ℕ → List Bool
bits_in count bytes = map (is_bit bytes) (range_with_len 0 count)

-- the bits of a BitSet: its count is the first number, and its bytes may be fewer than that needs
abbrev pub bitset_reading : ℕ → List ℕ → Result (List Bool) BitsFault
bitset_reading width bytes = if nat_lt (length bytes) width then Err ShortNumber
    else if not (number_fits width (big_number width bytes)) then Err NegativeNumber
    else if nat_lt (width + byte_count (big_number width bytes)) (length bytes)
    then Err TooManyBytes
    else Ok (bits_in (big_number width bytes) (drop width bytes))

-- the whole numbers in the bytes
abbrev pub numbers_in : ℕ → List ℕ → List ℕ
numbers_in width bytes = map (λ i. big_number width (drop (width * i) bytes))
    (range_with_len 0 (length bytes / width))

-- the bits of runs of these lengths, in turn of this bit and of the other
abbrev pub bits_in_turn : Bool → List ℕ → List Bool
bits_in_turn bit [] = []
bits_in_turn bit (n ∷ lengths) = replicate n bit ++ bits_in_turn (not bit) lengths

-- the bits of a RunLength: only its last number can be short, so a negative one stands before that
abbrev pub run_reading : ℕ → List ℕ → Result (List Bool) BitsFault
run_reading width bytes = if not (list_all (number_fits width) (numbers_in width bytes))
    then Err NegativeNumber
    else if nat_lt 0 (length bytes % width) then Err ShortNumber
    else Ok (bits_in_turn false (numbers_in width bytes))

-- the bits, unless a base plus their number passes 2^63 - 1
abbrev pub reading_from : ℕ → Result (List Bool) BitsFault → Result (List Bool) BitsFault
reading_from base (Err fault) = Err fault
reading_from base (Ok bits) = if nat_lt (base + length bits) (2 ^ 63) then Ok bits
    else Err TooManyBits

-- a fault of the bytes after the letter as a fault of the map
abbrev pub map_fault_of : BitsFault → MapFault
map_fault_of ShortNumber = MapShortNumber
map_fault_of NegativeNumber = MapNegativeNumber
map_fault_of TooManyBytes = MapTooManyBytes
map_fault_of TooManyBits = PastLastOffset
map_fault_of NoMemory = MapNoMemory

-- the bits of the bytes after the letter as those of a map
abbrev pub map_of : Result (List Bool) BitsFault → Result (Option (List Bool)) MapFault
map_of (Ok bits) = Ok (Some bits)
map_of (Err fault) = Err (map_fault_of fault)

-- the letters of the compressed forms: `a`, `J`, `s` and `p`
abbrev pub is_compressed : ℕ → Bool
is_compressed letter = letter == 0x61 || letter == 0x4A || letter == 0x73 || letter == 0x70

-- the reading of the bytes after a letter
abbrev pub letter_reading : ℕ → ℕ → List ℕ → Result (Option (List Bool)) MapFault
letter_reading base letter bytes = if is_compressed letter then Err (Compressed letter)
    else if letter == BITSET then map_of (reading_from base (bitset_reading 2 bytes))
    else if letter == RUN_LENGTH then map_of (reading_from base (run_reading 2 bytes))
    else if letter == BITSET_2 then map_of (reading_from base (bitset_reading 4 bytes))
    else if letter == RUN_LENGTH_2 then map_of (reading_from base (run_reading 4 bytes))
    else Err (UnknownLetter letter)

-- the reading of a map's bytes; only the empty text has none
abbrev pub bytes_reading : ℕ → Result (List ℕ) DecodeError → Result (Option (List Bool)) MapFault
bytes_reading base (Err fault) = Err NotBase64
bytes_reading base (Ok []) = Ok None
bytes_reading base (Ok (letter ∷ bytes)) = letter_reading base letter bytes

-- the reading of a map's text, which is base64 with padding (RFC 4648, section 4): bit i is that
-- of the offset base + i
unfoldable pub map_reading : ℕ → List ℕ → Result (Option (List Bool)) MapFault
map_reading base [] = Ok None
map_reading base (symbol ∷ text) = bytes_reading base (decode_of standard (symbol ∷ text))
