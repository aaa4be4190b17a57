-- A batch: its header's fields at their places, the grammar, and the first fault.
use Rattle.std.specs.Prelude.{◌≡◌, ◌≤◌, ◌<◌, ◌^◌, ℕ, ◌+◌, ◌-◌, ◌/◌, ◌%◌, ℤ, pos, Bool, List, [], ◌++◌, length, take, drop, Option, Result, Ok, Err, nat_lt, ◌==◌, if◌then◌else◌}
use Rattle.std.proofs.Common.{negsuc}
use Rattle.std.specs.Result.{result_err}
use Rattle.std.specs.Int.{Width, w8, w32, w64, byte_len, cast_signed}
use Rattle.byteorder.specs.Endian.{big_number}
use Rattle.pc_model.specs.Record.{Record}
use Rattle.pc_bytes.specs.Fields.{◌>>=◌}
use Rattle.pc_bytes.specs.Crc.{crc32c_of}
use Rattle.pc_batch.specs.declared.fault.RecordKind.{RecordKind}
use Rattle.pc_batch.specs.declared.fault.BatchFault.{BatchFault}
use Rattle.pc_batch.specs.declared.fault.BatchFault.TheVariants.{Short, BadMagic, BadLength, BadCrc, Compressed, OffsetRange, BadRecord, Count}
use Rattle.pc_batch.specs.declared.frame.Times.{Times}
use Rattle.pc_batch.specs.declared.frame.Times.TheVariants as times
use Rattle.pc_batch.specs.declared.frame.Frame.{Frame}
use Rattle.pc_batch.specs.Grammar.{AreRecords}
use Rattle.pc_batch.specs.Records.{records_at}

-- what a batch says: its base offset, its last offset, whether it is a control batch, and its records
pub record Contents : Type 0 where
  pub base : ℕ
  pub last : ℕ
  pub control : Bool
  pub records : List Record

-- a batch, and the place after it
pub record Placed : Type 0 where
  pub contents : Contents
  pub end : ℕ

-- the records that a batch gives: none of a control batch
abbrev pub given_by : Contents → List Record
given_by batch = if batch.control then [] else batch.records

-- ---- the header's fields, at their places

-- n bytes at a place as a number, and as two's complement of a width
abbrev pub number_from : ℕ → ℕ → List ℕ → ℕ
number_from n at bytes = big_number n (drop at bytes)

abbrev pub signed_from : Width → ℕ → List ℕ → ℤ
signed_from w at bytes = cast_signed w (number_from (byte_len w) at bytes)

abbrev pub base_offset : List ℕ → ℤ
base_offset bytes = signed_from w64 0 bytes

-- the bytes after the length field
abbrev pub batch_length : List ℕ → ℤ
batch_length bytes = signed_from w32 8 bytes

abbrev pub magic : List ℕ → ℕ
magic bytes = number_from 1 16 bytes

abbrev pub stored_crc : List ℕ → ℕ
stored_crc bytes = number_from 4 17 bytes

-- the crc covers the bytes from the attributes on
abbrev pub found_crc : List ℕ → ℕ
found_crc bytes = crc32c_of (drop 21 bytes)

abbrev pub attributes : List ℕ → ℕ
attributes bytes = number_from 2 21 bytes

-- attribute bits 0 to 2
abbrev pub compression : List ℕ → ℕ
compression bytes = attributes bytes % 8

-- attribute bit 5
abbrev pub is_control : List ℕ → Bool
is_control bytes = attributes bytes / 32 % 2 == 1

abbrev pub last_delta : List ℕ → ℤ
last_delta bytes = signed_from w32 23 bytes

-- attribute bit 3: all records have the greatest time
abbrev pub times_in : List ℕ → Times
times_in bytes = if attributes bytes / 8 % 2 == 1 then times.All (signed_from w64 35 bytes) else times.Each (signed_from w64 27 bytes)

abbrev pub record_count : List ℕ → ℤ
record_count bytes = signed_from w32 57 bytes

-- ---- the grammar

-- The bytes are a batch. Its offsets lie below 2^63 - 1.
pub record IsBatch (bytes : List ℕ) (batch : Contents) : Type 0 where
  pub whole : 61 ≤ length bytes
  pub is_magic : magic bytes ≡ 2
  pub is_length : batch_length bytes ≡ pos (length bytes - 12)
  pub is_crc : stored_crc bytes ≡ found_crc bytes
  pub is_plain : compression bytes ≡ 0
  pub is_base : base_offset bytes ≡ pos batch.base
  pub moved : ℕ
  pub is_delta : last_delta bytes ≡ pos moved
  pub is_last : batch.last ≡ batch.base + moved
  pub range : batch.last < 2 ^ 63 - 1
  pub is_control_bit : batch.control ≡ is_control bytes
  pub are_records : AreRecords (record { base = batch.base; last = batch.last; times = times_in bytes }) batch.base (drop 61 bytes) batch.records
  pub is_count : record_count bytes ≡ pos (length batch.records)

-- a batch begins at a place of the log
pub record IsBatchAt (log : List ℕ) (at : ℕ) (batch : Placed) : Type 0 where
  pub text : List ℕ
  pub rest : List ℕ
  pub parts : drop at log ≡ text ++ rest
  pub is_batch : IsBatch text batch.contents
  pub ends : batch.end ≡ at + length text

-- ---- the first fault

-- a batch's length from its length field
abbrev pub length_of : ℤ → Result ℕ BatchFault
length_of (pos n) = if nat_lt n 49 then Err (BadLength (pos n)) else Ok (12 + n)
length_of (negsuc n) = Err (BadLength (negsuc n))

-- this many bytes, from a place on
abbrev pub whole_of : ℕ → List ℕ → ℕ → Result (List ℕ) BatchFault
whole_of at bytes n = if nat_lt (length bytes) n then Err (Short at n) else Ok (take n bytes)

-- the bytes of the batch: the first four conditions
unfoldable pub whole_at : ℕ → List ℕ → Result (List ℕ) BatchFault
whole_at at bytes =
    if nat_lt (length bytes) 61 then Err (Short at 61)
    else if magic bytes == 2 then (length_of (batch_length bytes) >>= λ n. whole_of at bytes n)
    else Err (BadMagic (cast_signed w8 (magic bytes)))

-- the bytes are undamaged and not compressed: the next two
unfoldable pub intact : List ℕ → Result (List ℕ) BatchFault
intact bytes =
    if stored_crc bytes == found_crc bytes then (if compression bytes == 0 then Ok bytes else Err (Compressed (compression bytes)))
    else Err (BadCrc (stored_crc bytes) (found_crc bytes))

-- the range of the offsets: the seventh
abbrev pub range_of : ℤ → ℤ → Times → Result Frame BatchFault
range_of (pos base) (pos delta) stamps = if nat_lt (base + delta) (2 ^ 63 - 1) then Ok (record { base = base; last = base + delta; times = stamps }) else Err (OffsetRange (pos base) (pos delta))
range_of (pos base) (negsuc delta) stamps = Err (OffsetRange (pos base) (negsuc delta))
range_of (negsuc base) delta stamps = Err (OffsetRange (negsuc base) delta)

unfoldable pub frame_of : List ℕ → Result Frame BatchFault
frame_of bytes = range_of (base_offset bytes) (last_delta bytes) (times_in bytes)

-- the first record that does not read, at its place: the eighth
abbrev pub placed : ℕ → Result (List Record) (ℕ × RecordKind) → Result (List Record) BatchFault
placed end (Ok records) = Ok records
placed end (Err fault) = Err (BadRecord (end - fault.0) fault.1)

-- as many records as the header has: the last
abbrev pub same_count : ℤ → List Record → Result (List Record) BatchFault
same_count (pos n) records = if n == length records then Ok records else Err (Count (pos n) (length records))
same_count (negsuc n) records = Err (Count (negsuc n) (length records))

-- the batch at the front of the bytes, which begin at a place, or its first fault
unfoldable pub batch_at : ℕ → List ℕ → Result Placed BatchFault
batch_at at bytes = do
  whole ← whole_at at bytes
  text ← intact whole
  frame ← frame_of text
  records ← placed (at + length text) (records_at (length (drop 61 text)) frame frame.base (drop 61 text))
  counted ← same_count (record_count text) records
  Ok (record { contents = record { base = frame.base; last = frame.last; control = is_control text; records = counted }; end = at + length text })

-- the batch that begins at a place of the log, or its first fault
abbrev pub batch_from : List ℕ → ℕ → Result Placed BatchFault
batch_from log at = batch_at at (drop at log)

-- the first fault of what begins at a place of the log, if there is one
unfoldable pub batch_fault : List ℕ → ℕ → Option BatchFault
batch_fault log at = result_err (batch_from log at)
