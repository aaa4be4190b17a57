-- The reading of each message from left to right, with the first fault that is met.
use Rattle.std.specs.Prelude.{ℕ, zero, suc, ◌==◌, ℤ, pos, nat_lt, if◌then◌else◌, int_lt, List, [], ◌∷◌, length, take, drop, Option, Some, None, Result, Ok, Err}
use Rattle.std.proofs.Common.{negsuc}
use Rattle.std.specs.Int.{Width, w16, w32, w64, byte_len, cast_signed}
use Rattle.std.specs.Ordering.{int_eq}
use Rattle.std.specs.Str.{is_utf8}
use Rattle.byteorder.specs.Endian.{big_number}
use Rattle.pc_model.specs.declared.api.TheConstants.{OFFSET_COMMIT, OFFSET_COMMIT_VERSION, OFFSET_FETCH, OFFSET_FETCH_VERSION}
use Rattle.pc_model.specs.declared.wire_fault.WireFault.{WireFault}
use Rattle.pc_model.specs.declared.wire_fault.WireFault.TheVariants.{Short, Trailing, BadKey, BadVersion, NegativeLength, NotUtf8, BadOffset}
use Rattle.pc_model.specs.Messages.{Topic, CommitItem, CommitRequest, CommitCode, CommitReply, FetchRequest, FetchEntry, FetchReply}

infixl 10 ◌>>=◌
-- a field, and then the next with its value
abbrev pub ◌>>=◌ : {A B : Type 0} → Result A WireFault → (A → Result B WireFault) → Result B WireFault
(Ok x) >>= f = f x
(Err fault) >>= f = Err fault

-- ---- the fields: a value and the bytes after it, or the fault

-- so many bytes
abbrev pub part_at : ℕ → List ℕ → Result (List ℕ × List ℕ) WireFault
part_at n bytes = if nat_lt (length bytes) n then Err Short else Ok (take n bytes, drop n bytes)

-- a number of a width, as two's complement
abbrev pub int_at : Width → List ℕ → Result (ℤ × List ℕ) WireFault
int_at w bytes = if nat_lt (length bytes) (byte_len w) then Err Short
    else Ok (cast_signed w (big_number (byte_len w) bytes), drop (byte_len w) bytes)

-- a length or a count, which is not negative
abbrev pub size_of : ℤ × List ℕ → Result (ℕ × List ℕ) WireFault
size_of (pos n, rest) = Ok (n, rest)
size_of (negsuc n, rest) = Err NegativeLength

unfoldable pub size_at : Width → List ℕ → Result (ℕ × List ℕ) WireFault
size_at w bytes = do
  n ← int_at w bytes
  size_of n

-- a string's bytes, if they are UTF-8
abbrev pub text_of : List ℕ × List ℕ → Result (List ℕ × List ℕ) WireFault
text_of part = if is_utf8 part.0 then Ok part else Err NotUtf8

-- a string of so many bytes
unfoldable pub text_at : ℕ → List ℕ → Result (List ℕ × List ℕ) WireFault
text_at n bytes = do
  part ← part_at n bytes
  text_of part

unfoldable pub string_at : List ℕ → Result (List ℕ × List ℕ) WireFault
string_at bytes = do
  n ← size_at w16 bytes
  text_at n.0 n.1

abbrev pub some_text : List ℕ × List ℕ → Option (List ℕ) × List ℕ
some_text text = (Some text.0, text.1)

-- a string by its length, where -1 is null
unfoldable pub nullable_of : ℤ × List ℕ → Result (Option (List ℕ) × List ℕ) WireFault
nullable_of (pos n, rest) = do
  text ← text_at n rest
  Ok (some_text text)
nullable_of (negsuc zero, rest) = Ok (None, rest)
nullable_of (negsuc (suc n), rest) = Err NegativeLength

unfoldable pub nullable_at : List ℕ → Result (Option (List ℕ) × List ℕ) WireFault
nullable_at bytes = do
  n ← int_at w16 bytes
  nullable_of n

-- so many items
unfoldable pub items_at : {A : Type 0} → (List ℕ → Result (A × List ℕ) WireFault) → ℕ → List ℕ
    → Result (List A × List ℕ) WireFault
items_at item_at zero bytes = Ok ([], bytes)
items_at item_at (suc n) bytes = do
  first ← item_at bytes
  others ← items_at item_at n first.1
  Ok (first.0 ∷ others.0, others.1)

unfoldable pub array_at : {A : Type 0} → (List ℕ → Result (A × List ℕ) WireFault) → List ℕ
    → Result (List A × List ℕ) WireFault
array_at item_at bytes = do
  n ← size_at w32 bytes
  items_at item_at n.0 n.1

unfoldable pub topic_at : {A : Type 0} → (List ℕ → Result (A × List ℕ) WireFault) → List ℕ
    → Result (Topic A × List ℕ) WireFault
topic_at item_at bytes = do
  name ← string_at bytes
  items ← array_at item_at name.1
  Ok (record { name = name.0; items = items.0 }, items.1)

abbrev pub topics_at : {A : Type 0} → (List ℕ → Result (A × List ℕ) WireFault) → List ℕ
    → Result (List (Topic A) × List ℕ) WireFault
topics_at item_at bytes = array_at (topic_at item_at) bytes

-- the number that has to stand here
abbrev pub same_as : ℤ → WireFault → ℤ × List ℕ → Result (List ℕ) WireFault
same_as wanted fault n = if int_eq n.0 wanted then Ok n.1 else Err fault

unfoldable pub fixed_at : ℤ → WireFault → List ℕ → Result (List ℕ) WireFault
fixed_at wanted fault bytes = do
  n ← int_at w16 bytes
  same_as wanted fault n

-- a position that is not below the least
abbrev pub not_below : ℤ → ℤ × List ℕ → Result (ℤ × List ℕ) WireFault
not_below least n = if int_lt n.0 least then Err BadOffset else Ok n

unfoldable pub position_at : ℤ → List ℕ → Result (ℤ × List ℕ) WireFault
position_at least bytes = do
  n ← int_at w64 bytes
  not_below least n

-- ---- the items

unfoldable pub commit_item_at : List ℕ → Result (CommitItem × List ℕ) WireFault
commit_item_at bytes = do
  part ← int_at w32 bytes
  position ← position_at (pos 0) part.1
  metadata ← nullable_at position.1
  Ok (record { part = part.0; position = position.0; metadata = metadata.0 }, metadata.1)

unfoldable pub commit_code_at : List ℕ → Result (CommitCode × List ℕ) WireFault
commit_code_at bytes = do
  part ← int_at w32 bytes
  code ← int_at w16 part.1
  Ok (record { part = part.0; code = code.0 }, code.1)

unfoldable pub part_id_at : List ℕ → Result (ℤ × List ℕ) WireFault
part_id_at bytes = int_at w32 bytes

unfoldable pub entry_at : List ℕ → Result ((ℤ × FetchEntry) × List ℕ) WireFault
entry_at bytes = do
  part ← int_at w32 bytes
  position ← position_at (negsuc 0) part.1
  metadata ← nullable_at position.1
  code ← int_at w16 metadata.1
  Ok ((part.0, record { position = position.0; metadata = metadata.0; code = code.0 }), code.1)

-- ---- the messages

-- the bytes after the size, which has to be their number
unfoldable pub body_at : List ℕ → Result (List ℕ) WireFault
body_at frame = do
  n ← size_at w32 frame
  if nat_lt (length n.1) n.0 then Err Short
      else if nat_lt n.0 (length n.1) then Err Trailing
      else Ok n.1

-- the message, if no bytes remain after it
abbrev pub whole : {A : Type 0} → A × List ℕ → Result A WireFault
whole x = if length x.1 == 0 then Ok x.0 else Err Trailing

-- who asks, by the header of a request of a key and a version
unfoldable pub header_at : ℤ → ℤ → List ℕ → Result ((ℤ × Option (List ℕ)) × List ℕ) WireFault
header_at key version bytes = do
  after_key ← fixed_at key BadKey bytes
  after_version ← fixed_at version BadVersion after_key
  correlation ← int_at w32 after_version
  client ← nullable_at correlation.1
  Ok ((correlation.0, client.0), client.1)

unfoldable pub commit_request_at : List ℕ → Result (CommitRequest × List ℕ) WireFault
commit_request_at bytes = do
  header ← header_at OFFSET_COMMIT OFFSET_COMMIT_VERSION bytes
  group ← string_at header.1
  generation ← int_at w32 group.1
  member ← string_at generation.1
  retention ← int_at w64 member.1
  topics ← topics_at commit_item_at retention.1
  Ok (
    record {
      correlation = header.0.0;
      client = header.0.1;
      group = group.0;
      generation = generation.0;
      member = member.0;
      retention = retention.0;
      topics = topics.0;
    },
    topics.1,
  )

unfoldable pub commit_reply_at : List ℕ → Result (CommitReply × List ℕ) WireFault
commit_reply_at bytes = do
  correlation ← int_at w32 bytes
  topics ← topics_at commit_code_at correlation.1
  Ok (record { correlation = correlation.0; topics = topics.0 }, topics.1)

unfoldable pub fetch_request_at : List ℕ → Result (FetchRequest × List ℕ) WireFault
fetch_request_at bytes = do
  header ← header_at OFFSET_FETCH OFFSET_FETCH_VERSION bytes
  group ← string_at header.1
  topics ← topics_at part_id_at group.1
  Ok (
    record {
      correlation = header.0.0;
      client = header.0.1;
      group = group.0;
      topics = topics.0;
    },
    topics.1,
  )

unfoldable pub fetch_reply_at : List ℕ → Result (FetchReply × List ℕ) WireFault
fetch_reply_at bytes = do
  correlation ← int_at w32 bytes
  topics ← topics_at entry_at correlation.1
  Ok (record { correlation = correlation.0; topics = topics.0 }, topics.1)

-- the whole frame, by the reading of its body
unfoldable pub frame_reading : {A : Type 0} → (List ℕ → Result (A × List ℕ) WireFault) → List ℕ
    → Result A WireFault
frame_reading message_at frame = do
  body ← body_at frame
  found ← message_at body
  whole found

abbrev pub commit_request_reading : List ℕ → Result CommitRequest WireFault
commit_request_reading frame = frame_reading commit_request_at frame

abbrev pub commit_reply_reading : List ℕ → Result CommitReply WireFault
commit_reply_reading frame = frame_reading commit_reply_at frame

abbrev pub fetch_request_reading : List ℕ → Result FetchRequest WireFault
fetch_request_reading frame = frame_reading fetch_request_at frame

abbrev pub fetch_reply_reading : List ℕ → Result FetchReply WireFault
fetch_reply_reading frame = frame_reading fetch_reply_at frame
