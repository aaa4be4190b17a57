-- The fields of a record, from left to right: a value and the bytes after it, or the record's fault.
use Rattle.std.specs.Prelude.{◌≡◌, ℕ, zero, suc, ℤ, pos, List, length, take, drop, Option, Some, None, Result, Ok, Err, nat_lt, if◌then◌else◌}
use Rattle.std.proofs.Common.{negsuc}
use Rattle.pc_bytes.specs.Fields.{Gap, ◌>>=◌, number_at}
use Rattle.pc_bytes.specs.Varint.{varint_at, varlong_at}
use Rattle.pc_batch.specs.declared.fault.RecordKind.{RecordKind}
use Rattle.pc_batch.specs.declared.fault.RecordKind.TheVariants.{Varint, HeaderCount, Past}

-- What a call answered, seen by view, is what reading gives, and `after` are the bytes left then.
abbrev pub Reads : {X Y : Type 0} → (X → Y) → Result (Y × List ℕ) RecordKind → List ℕ → Result X RecordKind → Type 0
Reads view read after (Ok x) = read ≡ Ok (view x, after)
Reads view read after (Err kind) = read ≡ Err kind

-- a field that cannot be read is the fault of this kind
abbrev pub or_kind : {A : Type 0} → RecordKind → Result A Gap → Result A RecordKind
or_kind kind (Ok x) = Ok x
or_kind kind (Err gap) = Err kind

abbrev pub byte_at : List ℕ → Result (ℕ × List ℕ) RecordKind
byte_at bytes = or_kind Past (number_at 1 bytes)

abbrev pub int_at : List ℕ → Result (ℤ × List ℕ) RecordKind
int_at bytes = or_kind Varint (varint_at bytes)

abbrev pub long_at : List ℕ → Result (ℤ × List ℕ) RecordKind
long_at bytes = or_kind Varint (varlong_at bytes)

-- this many bytes: a negative length and one past the end are two faults
abbrev pub sized_of : RecordKind → RecordKind → ℤ → List ℕ → Result (List ℕ × List ℕ) RecordKind
sized_of negative outside (pos n) bytes = if nat_lt (length bytes) n then Err outside else Ok (take n bytes, drop n bytes)
sized_of negative outside (negsuc n) bytes = Err negative

-- a length, and as many bytes
unfoldable pub sized_at : RecordKind → RecordKind → List ℕ → Result (List ℕ × List ℕ) RecordKind
sized_at negative outside bytes = do
  n ← int_at bytes
  sized_of negative outside n.0 n.1

-- the length -1 is null
abbrev pub nullable_of : RecordKind → ℤ → List ℕ → Result (Option (List ℕ) × List ℕ) RecordKind
nullable_of below (pos n) bytes = if nat_lt (length bytes) n then Err Past else Ok (Some (take n bytes), drop n bytes)
nullable_of below (negsuc zero) bytes = Ok (None, bytes)
nullable_of below (negsuc (suc n)) bytes = Err below

-- a length, and as many bytes, or null
unfoldable pub nullable_at : RecordKind → List ℕ → Result (Option (List ℕ) × List ℕ) RecordKind
nullable_at below bytes = do
  n ← int_at bytes
  nullable_of below n.0 n.1

abbrev pub count_of : ℤ → List ℕ → Result (ℕ × List ℕ) RecordKind
count_of (pos n) bytes = Ok (n, bytes)
count_of (negsuc n) bytes = Err HeaderCount

-- the count of headers
unfoldable pub count_at : List ℕ → Result (ℕ × List ℕ) RecordKind
count_at bytes = do
  n ← int_at bytes
  count_of n.0 n.1
