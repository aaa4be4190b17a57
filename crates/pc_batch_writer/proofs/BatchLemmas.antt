-- What is written is a batch of the records.
use Rattle.std.proofs.Common.{◌≡◌, ℕ, zero, suc, ◌+◌, ◌-◌, ◌/◌, ◌%◌, ◌<◌, ◌≤◌, ◌^◌, ℤ, pos, negsuc, Bool, true, false, cond, IsTrue, List, [], ◌∷◌, ◌++◌, length, Option, None, Some, FitsSigned, refl, sym, ap, subst, ◌∙◌, append_assoc, length-append, lt-ltb, ltb-true, w32, w64, arith}
use mir.Val.{bits}
use Rattle.std.proofs.Math.Facts.{Fits-of_z}
use Rattle.std.specs.Prelude.{◌+ℤ◌, ◌-ℤ◌, ◌==◌, bit_xor}
use Rattle.std.specs.Int.{Width, byte_len, cast_signed, cast_unsigned}
use Rattle.std.specs.List.{flat_map}
use Rattle.std.proofs.lemmas.Int.{ints, to_z-of_z}
use Rattle.std.proofs.lemmas.Nat.{xor_lt}
use Rattle.byteorder.specs.Endian.{big_number, big_bytes}
use Rattle.byteorder.specs.Numbers.{big_number-reads_back}
use Rattle.pc_model.specs.Record.{Record}
use Rattle.pc_model.specs.Messages.{int_spelling}
use Rattle.pc_bytes.specs.Crc.{with_bit, with_bits, with_bytes, crc32c_of}
use Rattle.pc_bytes.specs.Varint.{zigzag_of, shortest_of, IsVarint}
use Rattle.pc_bytes.proofs.VarintLaws.{IsVarint-shortest_of, IsVarlong-shortest_of}
use Rattle.pc_batch.specs.declared.frame.Times.TheVariants as times
use Rattle.pc_batch.specs.declared.frame.Frame.{Frame}
use Rattle.pc_batch.specs.Record.{fits_64}
use Rattle.pc_batch.specs.Grammar.{IsSized, IsNullable, IsHeader, AreHeaders, IsBody, IsRecord, AreRecords}
use Rattle.pc_batch.specs.Batch.{IsBatch}
use Rattle.pc_batch_writer.specs.Writing.{sized_spelling, nullable_spelling, header_spelling, headers_spelling, stamps_spelling, contents_spelling, body_spelling, record_spelling, span_spelling, producer_spelling, greatest_of, covered_spelling, batch_spelling}
use Rattle.pc_batch_writer.proofs.PutLemmas.{sized-le, headers-le}

-- ---- the fields of a record

short-is : (n : ℕ) → n < 2 ^ 31 → IsVarint (shortest_of (pos n)) (pos n)
short-is n lt = IsVarint-shortest_of (pos n) (omega arith)

sized-is : (part : List ℕ) → length part < 2 ^ 31 → IsSized (sized_spelling part) part
sized-is part lt = record { head = shortest_of (pos (length part)); len = short-is (length part) lt; parts = refl }

nullable-is : (part : Option (List ℕ)) → length (nullable_spelling part) < 2 ^ 31 → IsNullable (nullable_spelling part) part
nullable-is None lt = IsVarint-shortest_of (negsuc 0) (omega arith)
nullable-is (Some part) lt = let le = sized-le part in sized-is part (omega arith)

header-is : (h : List ℕ × Option (List ℕ)) → length (header_spelling h) < 2 ^ 31 → IsHeader (header_spelling h) h
header-is h lt =
    let a = length-append (sized_spelling h.0) (nullable_spelling h.1) in let le = sized-le h.0 in record {
      key = sized_spelling h.0;
      value = nullable_spelling h.1;
      is_key = sized-is h.0 (omega arith);
      is_value = nullable-is h.1 (omega arith);
      parts = refl;
    }

headers-are : (hs : List (List ℕ × Option (List ℕ))) → length (headers_spelling hs) < 2 ^ 31 → AreHeaders (headers_spelling hs) hs
headers-are [] lt = refl
headers-are (h ∷ hs) lt =
    let a = length-append (header_spelling h) (headers_spelling hs) in
    (header_spelling h, headers_spelling hs, header-is h (omega arith), headers-are hs (omega arith), refl)

zigzag-fits : (z : ℤ) → IsTrue (fits_64 z) → zigzag_of z < 2 ^ 64
zigzag-fits (pos n) h = let lt : n < 2 ^ 63 = ltb-true _ _ h in omega arith
zigzag-fits (negsuc n) h = let lt : n < 2 ^ 63 = ltb-true _ _ h in omega arith

fits-from : (z : ℤ) → FitsSigned w64 z → IsTrue (fits_64 z)
fits-from (pos n) h = let k = h.sfits in lt-ltb _ _ (omega arith)
fits-from (negsuc n) h = let k = h.sfits in lt-ltb _ _ (omega arith)

add-sub : (a b : ℤ) → a ≡ b +ℤ (a -ℤ b)
add-sub a b = omega (arith, ints)

-- what holds of each record that is written
pub record Fits (base last : ℕ) (first : ℤ) (least : ℕ) (r : Record) : Type 0 where
  pub above : least ≤ r.offset
  pub within : r.offset ≤ last
  pub near : IsTrue (fits_64 (r.time -ℤ first))
  pub time : FitsSigned w64 r.time

abbrev frame_with : ℕ → ℕ → ℤ → Frame
frame_with base last first = record { base = base; last = last; times = times.Each first }

body-is : (base last : ℕ) (first : ℤ) (least : ℕ) (r : Record) → base ≤ least → last - base < 2 ^ 31 → Fits base last first least r → length (body_spelling base first r) < 2 ^ 31 → IsBody (frame_with base last first) least (body_spelling base first r) r
body-is base last first least r up moved fits lt =
    let stamp = shortest_of (r.time -ℤ first) in let delta = shortest_of (pos (r.offset - base)) in
    let key = nullable_spelling r.key in let value = nullable_spelling r.value in let count = shortest_of (pos (length r.headers)) in let headers = headers_spelling r.headers in
    let above = fits.above in let within = fits.within in
    let a = length-append (stamps_spelling base first r) (contents_spelling r) in let b = length-append key (value ++ (count ++ headers)) in let c = length-append value (count ++ headers) in
    let d = length-append count headers in let e = headers-le r.headers in record {
      attributes = 0;
      stamp = stamp;
      delta = delta;
      key = key;
      value = value;
      count = count;
      headers = headers;
      parts = ap (λ (x : List ℕ). 0 ∷ x) (append_assoc stamp delta (key ++ (value ++ (count ++ headers))));
      stamped = r.time -ℤ first;
      is_stamp = IsVarlong-shortest_of (r.time -ℤ first) (zigzag-fits (r.time -ℤ first) fits.near);
      is_time = (add-sub r.time first, fits-from r.time fits.time);
      moved = r.offset - base;
      is_delta = short-is (r.offset - base) (omega arith);
      is_offset = omega arith;
      above = fits.above;
      within = fits.within;
      is_key = nullable-is r.key (omega arith);
      is_value = nullable-is r.value (omega arith);
      is_count = short-is (length r.headers) (omega arith);
      are_headers = headers-are r.headers (omega arith);
    }

record-is : (base last : ℕ) (first : ℤ) (least : ℕ) (r : Record) → base ≤ least → last - base < 2 ^ 31 → Fits base last first least r → length (record_spelling base first r) < 2 ^ 31 → IsRecord (frame_with base last first) least (record_spelling base first r) r
record-is base last first least r up moved fits lt = let le = sized-le (body_spelling base first r) in record {
  body = body_spelling base first r;
  sized = sized-is (body_spelling base first r) (omega arith);
  fields = body-is base last first least r up moved fits (omega arith);
}

-- each record fits above the one before it
abbrev pub AllFit : ℕ → ℕ → ℤ → ℕ → List Record → Type 0
AllFit base last first least [] = Unit {0}
AllFit base last first least (r ∷ rs) = Fits base last first least r × AllFit base last first (r.offset + 1) rs

records-are : (base last : ℕ) (first : ℤ) (least : ℕ) (rs : List Record) → base ≤ least → last - base < 2 ^ 31 → AllFit base last first least rs → length (flat_map (record_spelling base first) rs) < 2 ^ 31
    → AreRecords (frame_with base last first) least (flat_map (record_spelling base first) rs) rs
records-are base last first least [] up moved fit lt = refl
records-are base last first least (r ∷ rs) up moved fit lt =
    let a = length-append (record_spelling base first r) (flat_map (record_spelling base first) rs) in let above = fit.0.above in
    (record_spelling base first r, flat_map (record_spelling base first) rs, record-is base last first least r up moved fit.0 (omega arith), records-are base last first (r.offset + 1) rs (omega arith) moved fit.1 (omega arith), refl)

-- ---- the checksum is a number of 32 bits

with_bit-lt : (register bit : ℕ) → register < 2 ^ 32 → with_bit register bit < 2 ^ 32
unfolding with_bit
with_bit-lt register bit lt = by_bit (register % 2 == bit)
  where
    by_bit : (b : Bool) → cond b (register / 2) (bit_xor (register / 2) 0x82F6_3B78) < 2 ^ 32
    by_bit true = omega arith
    by_bit false = xor_lt 32 (register / 2) 0x82F6_3B78 (omega arith) (omega arith)

with_bits-lt : (n register byte : ℕ) → register < 2 ^ 32 → with_bits n register byte < 2 ^ 32
unfolding with_bits
with_bits-lt zero register byte lt = lt
with_bits-lt (suc n) register byte lt = with_bits-lt n (with_bit register (byte % 2)) (byte / 2) (with_bit-lt register (byte % 2) lt)

with_bytes-lt : (register : ℕ) (bytes : List ℕ) → register < 2 ^ 32 → with_bytes register bytes < 2 ^ 32
unfolding with_bytes
with_bytes-lt register [] lt = lt
with_bytes-lt register (b ∷ bytes) lt = with_bytes-lt (with_bits 8 register b) bytes (with_bits-lt 8 register b lt)

crc-lt : (bytes : List ℕ) → crc32c_of bytes < 2 ^ 32
unfolding crc32c_of
crc-lt bytes = xor_lt 32 (with_bytes 0xFFFF_FFFF bytes) 0xFFFF_FFFF (with_bytes-lt 0xFFFF_FFFF bytes (omega arith)) (omega arith)

-- ---- the fields of the header

field : (w : Width) → 256 ^ byte_len w ≡ 2 ^ bits w → (z : ℤ) (rest : List ℕ) → FitsSigned w z → cast_signed w (big_number (byte_len w) (int_spelling w z ++ rest)) ≡ z
field w power z rest fits =
    let n = cast_unsigned w z in
    let small : n < 256 ^ byte_len w = subst (λ (m : ℕ). n < m) (sym power) (Fits-of_z fits).fits in
    rw (big_number-reads_back (byte_len w) n rest small, to_z-of_z w z fits) refl

few-fits : (n : ℕ) → n < 2 ^ 31 → FitsSigned w32 (pos n)
few-fits n lt = record { sfits = lt }

last_of-is : (base n : ℕ) → base ≤ n → n ≡ base + (n - base)
last_of-is base n le = omega arith

pub batch-is : (base last : ℕ) (first : ℤ) (rs : List Record) → base ≤ last → last < 2 ^ 63 - 1 → last - base < 2 ^ 31 → FitsSigned w64 first → AllFit base last first base rs
    → length rs ≤ length (flat_map (record_spelling base first) rs) → 9 + length (covered_spelling base last first rs) < 2 ^ 31
    → IsBatch (batch_spelling base (covered_spelling base last first rs)) (record { base = base; last = last; control = false; records = rs })
unfolding batch_spelling span_spelling producer_spelling
batch-is base last first rs above below moved fits fit some few =
    let covered = covered_spelling base last first rs in let records = flat_map (record_spelling base first) rs in let text = batch_spelling base covered in
    let rest = producer_spelling (length rs) ++ records in let stamps = int_spelling w64 (greatest_of first rs) ++ rest in
    let checked = int_spelling w32 (pos 0) ++ (2 ∷ (big_bytes 4 (crc32c_of covered) ++ covered)) in record {
      whole = omega arith;
      is_magic = refl;
      is_length = field w32 refl (pos (9 + length covered)) checked (few-fits (9 + length covered) few)
          ∙ ap pos (let e : 9 + length covered ≡ length text - 12 = omega arith in e);
      is_crc = big_number-reads_back 4 (crc32c_of covered) covered (crc-lt covered);
      is_plain = refl;
      is_base = field w64 refl (pos base) (int_spelling w32 (pos (9 + length covered)) ++ checked) (record { sfits = omega arith });
      moved = last - base;
      is_delta = field w32 refl (pos (last - base)) (int_spelling w64 first ++ stamps) (few-fits (last - base) moved);
      is_last = omega arith;
      range = below;
      is_control_bit = refl;
      are_records = subst (λ t. AreRecords (record { base = base; last = last; times = t }) base records rs)
          (ap times.Each (sym (field w64 refl first stamps fits))) (records-are base last first base rs (omega arith) moved fit (omega arith));
      is_count = field w32 refl (pos (length rs)) records (few-fits (length rs) (omega arith));
    }
