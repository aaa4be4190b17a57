-- How a batch of records is spelled, every number in its shortest spelling, or why it is not.
use Rattle.std.specs.Prelude.{◌≡◌, ◌≤◌, ◌<◌, ◌^◌, ℕ, ◌+◌, ◌-◌, ℤ, pos, ◌-ℤ◌, false, IsTrue, List, [], ◌∷◌, ◌++◌, length, map, fold, Option, Some, None, Result, Ok, Err, nat_lt, ◌||◌, ◌⊎◌, if◌then◌else◌}
use Rattle.std.proofs.Common.{negsuc}
use Rattle.std.specs.Int.{w16, w32, w64, int_max}
use Rattle.std.specs.List.{flat_map, list_all}
use Rattle.std.specs.Option.{option_copied}
use Rattle.byteorder.specs.Endian.{big_bytes}
use Rattle.pc_model.specs.Record.{Record}
use Rattle.pc_model.specs.Messages.{int_spelling}
use Rattle.pc_bytes.specs.Crc.{crc32c_of}
use Rattle.pc_bytes.specs.Fields.{◌>>=◌}
use Rattle.pc_bytes.specs.Varint.{shortest_of}
use Rattle.pc_batch.specs.Batch.{Contents}
use Rattle.pc_batch.specs.Record.{fits_64}
use Rattle.pc_batch_writer.specs.declared.fault.WriteFault.{WriteFault}
use Rattle.pc_batch_writer.specs.declared.fault.WriteFault.TheVariants.{Empty, OffsetsFall, OffsetTooLarge, TimeTooFar, TooLong, NoMemory}
use Rattle.pc_batch_writer.specs.declared.new_record.NewHeader.{NewHeader}
use Rattle.pc_batch_writer.specs.declared.new_record.NewRecord.{NewRecord}

-- ---- the records without where they lie in memory

abbrev pub plain_header : NewHeader → List ℕ × Option (List ℕ)
plain_header h = (h.key.now, option_copied h.value)

abbrev pub plain_new : NewRecord → Record
plain_new r = record { offset = r.offset; time = r.time; key = option_copied r.key; value = option_copied r.value; headers = map plain_header r.headers.now }

-- ---- a record

-- a length and the bytes
abbrev pub sized_spelling : List ℕ → List ℕ
sized_spelling part = shortest_of (pos (length part)) ++ part

-- the same, or the length -1 for null
abbrev pub nullable_spelling : Option (List ℕ) → List ℕ
nullable_spelling None = shortest_of (negsuc 0)
nullable_spelling (Some part) = sized_spelling part

abbrev pub header_spelling : List ℕ × Option (List ℕ) → List ℕ
header_spelling h = sized_spelling h.0 ++ nullable_spelling h.1

abbrev pub headers_spelling : List (List ℕ × Option (List ℕ)) → List ℕ
headers_spelling headers = flat_map header_spelling headers

-- a count and the headers
abbrev pub counted_spelling : List (List ℕ × Option (List ℕ)) → List ℕ
counted_spelling headers = shortest_of (pos (length headers)) ++ headers_spelling headers

-- attributes 0, and the deltas of a record in a batch that begins with this offset and this time
abbrev pub stamps_spelling : ℕ → ℤ → Record → List ℕ
stamps_spelling base first r = 0 ∷ (shortest_of (r.time -ℤ first) ++ shortest_of (pos (r.offset - base)))

abbrev pub contents_spelling : Record → List ℕ
contents_spelling r = nullable_spelling r.key ++ (nullable_spelling r.value ++ counted_spelling r.headers)

-- the fields of a record
abbrev pub body_spelling : ℕ → ℤ → Record → List ℕ
body_spelling base first r = stamps_spelling base first r ++ contents_spelling r

abbrev pub record_spelling : ℕ → ℤ → Record → List ℕ
record_spelling base first r = sized_spelling (body_spelling base first r)

-- ---- the batch

-- attributes 0, the last offset's delta, the first time and the greatest
unfoldable pub span_spelling : ℕ → ℤ → ℤ → List ℕ
span_spelling delta first greatest = int_spelling w16 (pos 0) ++ (int_spelling w32 (pos delta) ++ (int_spelling w64 first ++ int_spelling w64 greatest))

-- the producer's fields, each -1, and the count of the records
unfoldable pub producer_spelling : ℕ → List ℕ
producer_spelling count = int_spelling w64 (negsuc 0) ++ (int_spelling w16 (negsuc 0) ++ (int_spelling w32 (negsuc 0) ++ int_spelling w32 (pos count)))

abbrev pub greatest_of : ℤ → List Record → ℤ
greatest_of first rs = fold int_max first (map (λ (r : Record). r.time) rs)

-- the bytes that the checksum covers
abbrev pub covered_spelling : ℕ → ℕ → ℤ → List Record → List ℕ
covered_spelling base last first rs = span_spelling (last - base) first (greatest_of first rs) ++ (producer_spelling (length rs) ++ flat_map (record_spelling base first) rs)

-- The whole batch: its base offset, the length of what is after the length, leader epoch 0, the
-- format's version 2, the checksum, and what it covers.
unfoldable pub batch_spelling : ℕ → List ℕ → List ℕ
batch_spelling base covered =
    int_spelling w64 (pos base) ++ (int_spelling w32 (pos (9 + length covered)) ++ (int_spelling w32 (pos 0) ++ (2 ∷ (big_bytes 4 (crc32c_of covered) ++ covered))))

-- ---- the first fault

-- the last of the offsets, each of which is above the one before it
abbrev pub offsets_from : ℕ → List Record → Result ℕ WriteFault
offsets_from last [] = Ok last
offsets_from last (r ∷ rs) = if nat_lt last r.offset then offsets_from r.offset rs else Err (OffsetsFall last r.offset)

-- the last offset is the greatest, and offsets are below 2^63 - 1
abbrev pub in_range : ℕ → Result ℕ WriteFault
in_range last = if nat_lt (2 ^ 63 - 2) last then Err OffsetTooLarge else Ok last

-- each time minus the first is a number of 64 bits
abbrev pub near : ℤ → List Record → Result (List Record) WriteFault
near first rs = if list_all (λ (r : Record). fits_64 (r.time -ℤ first)) rs then Ok rs else Err TimeTooFar

-- The last delta is the greatest, and no length in a batch is above that of the batch.
abbrev pub short : ℕ → ℕ → List ℕ → Result (List ℕ) WriteFault
short base last covered = if nat_lt (2 ^ 31 - 1) (last - base) || nat_lt (2 ^ 31 - 1) (9 + length covered) then Err TooLong else Ok (batch_spelling base covered)

abbrev pub ranged_from : ℕ → List Record → Result ℕ WriteFault
ranged_from first rest = offsets_from first rest >>= in_range

-- the batch of the records, or the first fault
abbrev pub written_of : List Record → Result (List ℕ) WriteFault
written_of [] = Err Empty
written_of (first ∷ rest) = do
  last ← ranged_from first.offset rest
  rs ← near first.time (first ∷ rest)
  short first.offset last (covered_spelling first.offset last first.time rs)

-- the last of the offsets
abbrev pub last_of : ℕ → List Record → ℕ
last_of last [] = last
last_of last (r ∷ rs) = last_of r.offset rs

-- what a batch of the records says
abbrev pub contents_of : List Record → Contents
contents_of [] = record { base = 0; last = 0; control = false; records = [] }
contents_of (first ∷ rest) = record { base = first.offset; last = last_of first.offset rest; control = false; records = first ∷ rest }

-- ---- what is put

-- Why a text is not put: a length in it is too large, since its size is, or memory ran out.
abbrev pub Fails : ℕ → WriteFault → Type 0
Fails size Empty = ⊥
Fails size (OffsetsFall last next) = ⊥
Fails size OffsetTooLarge = ⊥
Fails size TimeTooFar = ⊥
Fails size TooLong = 2 ^ 31 ≤ size
Fails size NoMemory = Unit {0}

-- the text was put after what stood there
abbrev pub Puts : ℕ → List ℕ → List ℕ → List ℕ → Result (Unit {0}) WriteFault → Type 0
Puts size text old new (Ok done) = new ≡ old ++ text
Puts size text old new (Err fault) = Fails size fault

-- the text was made
abbrev pub Gives : {V : Type 0} → (V → List ℕ) → ℕ → List ℕ → Result V WriteFault → Type 0
Gives items size text (Ok made) = items made ≡ text
Gives items size text (Err fault) = Fails size fault

-- a record may be put: its offset and its time are near those of the first
pub record IsNear (base : ℕ) (first : ℤ) (r : NewRecord) : Type 0 where
  pub above : base ≤ r.offset
  pub moved : r.offset < base + 2 ^ 31
  pub time : IsTrue (fits_64 (r.time -ℤ first))

-- a record of a batch with these offsets
pub record IsWithin (base last : ℕ) (first : ℤ) (r : NewRecord) : Type 0 where
  pub above : base ≤ r.offset
  pub within : r.offset ≤ last
  pub time : IsTrue (fits_64 (r.time -ℤ first))

-- the call answers what is due, unless it ran out of memory
abbrev pub Answers : {V : Type 0} → (V → List ℕ) → Result (List ℕ) WriteFault → Result V WriteFault → Type 0
Answers items due (Ok made) = due ≡ Ok (items made)
Answers items due (Err fault) = (fault ≡ NoMemory) ⊎ (due ≡ Err fault)
