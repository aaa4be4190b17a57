-- One record, from left to right, by what its batch says of each.
use Rattle.std.specs.Prelude.{◌≤◌, ◌<◌, ◌^◌, ℕ, ◌+◌, ℤ, pos, ◌+ℤ◌, Bool, List, Result, Ok, Err, nat_lt, ◌||◌, if◌then◌else◌}
use Rattle.std.proofs.Common.{negsuc}
use Rattle.std.specs.Option.{option_copied}
use Rattle.pc_model.specs.Record.{Record}
use Rattle.pc_bytes.specs.Fields.{◌>>=◌}
use Rattle.pc_batch.specs.declared.fault.RecordKind.{RecordKind}
use Rattle.pc_batch.specs.declared.fault.RecordKind.TheVariants.{Time, Delta, Length, KeyLength, ValueLength}
use Rattle.pc_batch.specs.declared.frame.Times.{Times}
use Rattle.pc_batch.specs.declared.frame.Times.TheVariants as times
use Rattle.pc_batch.specs.declared.frame.Frame.{Frame}
use Rattle.pc_batch.specs.declared.record.RecordRef.{RecordRef}
use Rattle.pc_batch.specs.Fields.{byte_at, int_at, long_at, sized_at, nullable_at}
use Rattle.pc_batch.specs.Headers.{all_headers_at, headers_left}

-- a record without where it lies in memory
abbrev pub plain : RecordRef → Record
plain r = record { offset = r.offset; time = r.time; key = option_copied r.key; value = option_copied r.value; headers = headers_left r.headers }

-- the offsets of a batch lie below 2^63
pub record IsSound (frame : Frame) : Type 0 where
  pub order : frame.base ≤ frame.last
  pub top : frame.last < 2 ^ 63

-- a number of 64 bits
abbrev pub fits_64 : ℤ → Bool
fits_64 (pos n) = nat_lt n (2 ^ 63)
fits_64 (negsuc n) = nat_lt n (2 ^ 63)

-- the record's time, from its delta
abbrev pub time_of : Times → ℤ → Result ℤ RecordKind
time_of (times.Each base) delta = if fits_64 (base +ℤ delta) then Ok (base +ℤ delta) else Err Time
time_of (times.All greatest) delta = Ok greatest

-- The record's offset, from its delta: not below the least that is allowed, and not above the last.
abbrev pub offset_of : Frame → ℕ → ℤ → Result ℕ RecordKind
offset_of frame least (pos n) = if nat_lt (frame.base + n) least || nat_lt frame.last (frame.base + n) then Err Delta else Ok (frame.base + n)
offset_of frame least (negsuc n) = Err Delta

-- the record that all of the bytes are, after its length
unfoldable pub body_at : Frame → ℕ → List ℕ → Result Record RecordKind
body_at frame least bytes = do
  attributes ← byte_at bytes
  stamp ← long_at attributes.1
  time ← time_of frame.times stamp.0
  delta ← int_at stamp.1
  offset ← offset_of frame least delta.0
  key ← nullable_at KeyLength delta.1
  value ← nullable_at ValueLength key.1
  headers ← all_headers_at value.1
  Ok (record { offset = offset; time = time; key = key.0; value = value.0; headers = headers })

-- a length, and a record of this many bytes
unfoldable pub record_at : Frame → ℕ → List ℕ → Result (Record × List ℕ) RecordKind
record_at frame least bytes = do
  part ← sized_at Length Length bytes
  found ← body_at frame least part.0
  Ok (found, part.1)
