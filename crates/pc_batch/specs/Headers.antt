-- The headers of a record, from left to right, and what an iterator over them has still to give.
use Rattle.std.specs.Prelude.{ℕ, zero, suc, List, [], ◌∷◌, length, Option, Result, Ok, Err, ◌==◌, if◌then◌else◌}
use Rattle.pc_bytes.specs.Fields.{◌>>=◌}
use Rattle.pc_batch.specs.declared.fault.RecordKind.{RecordKind}
use Rattle.pc_batch.specs.declared.fault.RecordKind.TheVariants.{Past, HeaderKeyLength, HeaderValueLength, Leftover}
use Rattle.pc_batch.specs.declared.headers.Headers.{Headers}
use Rattle.pc_batch.specs.Fields.{sized_at, nullable_at, count_at}

-- a header's key and value
unfoldable pub header_at : List ℕ → Result ((List ℕ × Option (List ℕ)) × List ℕ) RecordKind
header_at bytes = do
  key ← sized_at HeaderKeyLength Past bytes
  value ← nullable_at HeaderValueLength key.1
  Ok ((key.0, value.0), value.1)

-- this many headers
unfoldable pub headers_at : ℕ → List ℕ → Result (List (List ℕ × Option (List ℕ)) × List ℕ) RecordKind
headers_at zero bytes = Ok ([], bytes)
headers_at (suc n) bytes = do
  first ← header_at bytes
  others ← headers_at n first.1
  Ok (first.0 ∷ others.0, others.1)

-- the bytes after this many headers
unfoldable pub after_headers : ℕ → List ℕ → Result (List ℕ) RecordKind
after_headers n bytes = do
  found ← headers_at n bytes
  Ok found.1

-- a count, and as many headers, up to the end of the bytes
unfoldable pub all_headers_at : List ℕ → Result (List (List ℕ × Option (List ℕ))) RecordKind
all_headers_at bytes = do
  n ← count_at bytes
  found ← headers_at n.0 n.1
  if length found.1 == 0 then Ok found.0 else Err Leftover

-- the value, and what goes on after it; nothing where there is no value
abbrev pub and_on : {A : Type 0} → Result (A × List ℕ) RecordKind → (List ℕ → List A) → List A
and_on (Ok x) more = x.0 ∷ more x.1
and_on (Err kind) more = []

-- the headers up to the first that does not read, at most this many
unfoldable pub front_headers : ℕ → List ℕ → List (List ℕ × Option (List ℕ))
front_headers zero bytes = []
front_headers (suc n) bytes = and_on (header_at bytes) (front_headers n)

-- what an iterator has still to give
unfoldable pub headers_left : Headers → List (List ℕ × Option (List ℕ))
headers_left headers = front_headers headers.count headers.bytes.now
