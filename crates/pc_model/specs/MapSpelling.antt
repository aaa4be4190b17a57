-- The spellings of a map: its bits as bytes, by the letter of the encoding. Numbers are big-endian.
use Rattle.std.specs.Prelude.{ℕ, ◌+◌, ◌-◌, ◌*◌, ◌/◌, ◌^◌, ◌==◌, nat_lt, Bool, true, false, if◌then◌else◌, List, [], ◌∷◌, ◌++◌, map, length, take, drop, Option, Some, None}
use Rattle.std.specs.List.{flat_map, list_all, range_with_len}
use Rattle.byteorder.specs.Endian.{big_bytes}
use Rattle.pc_model.specs.declared.map_letter.TheConstants.{BITSET, BITSET_2, RUN_LENGTH, RUN_LENGTH_2}

-- the top bit of a number of so many bytes is 0: at most 32,767 in two, 2,147,483,647 in four
abbrev pub number_fits : ℕ → ℕ → Bool
number_fits width n = nat_lt n (2 ^ (8 * width - 1))

-- bits as a number, the first of them the lowest: bit i has the mask 1 << i
abbrev pub low_first : List Bool → ℕ
low_first [] = 0
low_first (bit ∷ bits) = (if bit then 1 else 0) + 2 * low_first bits

-- byte i: the bit at place p is in byte p / 8 with the mask 1 << (p mod 8)
abbrev pub byte_of : List Bool → ℕ → ℕ
byte_of bits i = low_first (take 8 (drop (8 * i) bits))

-- as few bytes as hold so many bits
abbrev pub byte_count : ℕ → ℕ
byte_count bits = (bits + 7) / 8

-- the bits in bytes
abbrev pub bit_bytes : List Bool → List ℕ
bit_bytes bits = map (byte_of bits) (range_with_len 0 (byte_count (length bits)))

-- BitSet: the number of bits, and then the bits
abbrev pub bitset_spelling : ℕ → List Bool → Option (List ℕ)
bitset_spelling width bits = if number_fits width (length bits)
    then Some (big_bytes width (length bits) ++ bit_bytes bits) else None

-- one more bit in the first of the runs
abbrev pub one_longer : List ℕ → List ℕ
one_longer [] = 1 ∷ []
one_longer (n ∷ lengths) = (n + 1) ∷ lengths

-- the lengths of the runs in turn, the first being a run of this bit, which alone may be empty
abbrev pub run_lengths_from : Bool → List Bool → List ℕ
run_lengths_from bit [] = []
run_lengths_from false (false ∷ bits) = one_longer (run_lengths_from false bits)
run_lengths_from false (true ∷ bits) = 0 ∷ one_longer (run_lengths_from true bits)
run_lengths_from true (true ∷ bits) = one_longer (run_lengths_from true bits)
run_lengths_from true (false ∷ bits) = 0 ∷ one_longer (run_lengths_from false bits)

-- the lengths of the runs of 0 bits and of 1 bits in turn, beginning with a run of 0 bits
abbrev pub run_lengths : List Bool → List ℕ
run_lengths bits = run_lengths_from false bits

-- RunLength: the lengths of the runs
abbrev pub run_spelling : ℕ → List Bool → Option (List ℕ)
run_spelling width bits = if list_all (number_fits width) (run_lengths bits)
    then Some (flat_map (big_bytes width) (run_lengths bits)) else None

-- the bytes after the letter, where the encoding of that letter can hold the bits
unfoldable pub spelling_of : ℕ → List Bool → Option (List ℕ)
spelling_of letter bits = if letter == BITSET then bitset_spelling 2 bits
    else if letter == RUN_LENGTH then run_spelling 2 bits
    else if letter == BITSET_2 then bitset_spelling 4 bits
    else if letter == RUN_LENGTH_2 then run_spelling 4 bits
    else None
