-- The lengths of the encodings of bits.
use Rattle.std.specs.Prelude.{ℕ, ◌+◌, ◌*◌, ◌/◌, ◌^◌, ◌==◌, nat_lt, if◌then◌else◌, Bool, List, Option, Some, None, length}
use Rattle.std.specs.Option.{option_map}
use Rattle.pc_model.specs.declared.map_letter.TheConstants.{BITSET, BITSET_2, RUN_LENGTH, RUN_LENGTH_2}
use Rattle.pc_model.specs.MapSpelling.{spelling_of}
use Rattle.pc_partition.specs.declared.counts.Counts.{Counts}
use Rattle.pc_partition.specs.declared.lengths.Lengths.{Lengths}

-- how many bytes the bits have under a letter, where that encoding can hold them
abbrev pub length_of : ℕ → List Bool → Option ℕ
length_of letter bits = option_map length (spelling_of letter bits)

-- the same under each letter
abbrev pub lengths_of : List Bool → Lengths
lengths_of bits = record {
  bitset = length_of BITSET bits;
  runlength = length_of RUN_LENGTH bits;
  bitset2 = length_of BITSET_2 bits;
  runlength2 = length_of RUN_LENGTH_2 bits;
}

-- the length of a bit set by the number of bits, where that number is below a limit
abbrev pub bitset_by_count : ℕ → ℕ → ℕ → Option ℕ
bitset_by_count width limit count = if nat_lt count limit then Some (width + (count + 7) / 8)
    else None

-- the length of runs by their number, where none is long
abbrev pub runs_by_count : ℕ → ℕ → ℕ → Option ℕ
runs_by_count width runs long = if long == 0 then Some (width * (2 * runs)) else None

-- the lengths for this many bits, by the counts of their runs
abbrev pub lengths_by_counts : ℕ → Counts → Lengths
lengths_by_counts count counts = record {
  bitset = bitset_by_count 2 (2 ^ 15) count;
  runlength = runs_by_count 2 counts.runs counts.long;
  bitset2 = bitset_by_count 4 (2 ^ 31) count;
  runlength2 = runs_by_count 4 counts.runs counts.long_2;
}
