-- The records that are read are of the grammar, and what is of the grammar is read.
use Rattle.std.proofs.Common.{◌≡◌, ℕ, zero, suc, ◌+◌, ◌<◌, ◌≤◌, Bool, true, false, cond, ltb, List, [], ◌∷◌, ◌++◌, length, Result, Ok, Err, refl, sym, ap, subst, ◌∙◌, arith}
use Rattle.std.specs.Prelude.{ℤ, pos, ◌+ℤ◌, IsTrue, ◌||◌}
use Rattle.std.proofs.Common.{negsuc}
use Rattle.std.proofs.lemmas.Bool.{ltb-false, le-ltb}
use Rattle.std.proofs.lemmas.List.{length-append}
use Rattle.pc_model.specs.Record.{Record}
use Rattle.pc_bytes.specs.Fields.{◌>>=◌}
use Rattle.pc_bytes.specs.Varint.{IsVarint, SpelledBefore}
use Rattle.byteorder.specs.Endian.{big_number}
use Rattle.pc_bytes.proofs.VarintLaws.{bind_ok, IsGroups-some}
use Rattle.pc_batch.specs.declared.fault.RecordKind.{RecordKind}
use Rattle.pc_batch.specs.declared.fault.RecordKind.TheVariants.{Time, Delta, Length, KeyLength, ValueLength}
use Rattle.pc_batch.specs.declared.frame.Times.{Times}
use Rattle.pc_batch.specs.declared.frame.Times.TheVariants as times
use Rattle.pc_batch.specs.declared.frame.Frame.{Frame}
use Rattle.pc_batch.specs.Fields.{byte_at, int_at, long_at, sized_at, nullable_at}
use Rattle.pc_batch.specs.Headers.{all_headers_at}
use Rattle.pc_batch.specs.Grammar.{IsTime, IsBody, IsRecord, AreRecords}
use Rattle.pc_batch.specs.Record.{fits_64, time_of, offset_of, body_at, record_at}
use Rattle.pc_batch.specs.Records.{told_at, records_at}
use Rattle.pc_batch.proofs.FieldLaws.{ok_is, int-takes, int-again, long-takes, long-again, sized-takes, sized-again, nullable-takes, nullable-again}
use Rattle.pc_batch.proofs.HeadersLaws.{all_headers-takes, all_headers-again}
use Rattle.pc_batch.proofs.RecordsLemmas.{record_at-shorter, and_one, all_is}

-- ---- the attributes

byte_at-cons : (b : ℕ) (bytes : List ℕ) → byte_at (b ∷ bytes) ≡ Ok (big_number 1 (b ∷ bytes), bytes)
byte_at-cons b bytes = let some : ltb (suc (length bytes)) 1 ≡ false = le-ltb _ _ (omega arith) in rw some refl

byte_of : (bytes : List ℕ) (x : ℕ × List ℕ) → byte_at bytes ≡ Ok x → (b : ℕ) × (bytes ≡ b ∷ x.1)
byte_of [] x e = absurd cc
byte_of (b ∷ bytes) x e = (b, ap (λ (l : List ℕ). b ∷ l) (ap (λ (y : ℕ × List ℕ). y.1) (ok_is (big_number 1 (b ∷ bytes), bytes) x (sym (byte_at-cons b bytes) ∙ e))))

-- ---- the time

time-takes : (stamps : Times) (delta time : ℤ) → time_of stamps delta ≡ Ok time → IsTime stamps delta time
time-takes (times.Each base) delta time e = by_fit (fits_64 (base +ℤ delta)) refl e
  where
    by_fit : (b : Bool) → fits_64 (base +ℤ delta) ≡ b → ◌≡◌ {A = Result ℤ RecordKind} (cond b (Ok (base +ℤ delta)) (Err Time)) (Ok time) → (time ≡ base +ℤ delta) × IsTrue (fits_64 time)
    by_fit true f e = let same = sym (ok_is (base +ℤ delta) time e) in (same, ap fits_64 same ∙ f)
    by_fit false f e = absurd cc
time-takes (times.All greatest) delta time e = sym (ok_is greatest time e)

time-again : (stamps : Times) (delta time : ℤ) → IsTime stamps delta time → time_of stamps delta ≡ Ok time
time-again (times.Each base) delta time is =
    let fits : fits_64 (base +ℤ delta) ≡ true = ap fits_64 (sym is.0) ∙ is.1 in
    rw fits (ap (λ (t : ℤ). Ok t) (sym is.0))
time-again (times.All greatest) delta time is = ap (λ (t : ℤ). Ok t) (sym is)

-- ---- the offset

-- the offset is within its bounds
record IsOffset (frame : Frame) (least : ℕ) (delta : ℤ) (offset : ℕ) : Type 0 where
  moved : ℕ
  is_delta : delta ≡ pos moved
  is_offset : offset ≡ frame.base + moved
  above : least ≤ offset
  within : offset ≤ frame.last

offset_by : (frame : Frame) (least n offset : ℕ) (a b : Bool) → ltb (frame.base + n) least ≡ a → ltb frame.last (frame.base + n) ≡ b → ◌≡◌ {A = Result ℕ RecordKind} (cond (a || b) (Err Delta) (Ok (frame.base + n))) (Ok offset) → IsOffset frame least (pos n) offset
offset_by frame least n offset true b ea eb e = absurd cc
offset_by frame least n offset false true ea eb e = absurd cc
offset_by frame least n offset false false ea eb e =
    let same = ok_is (frame.base + n) offset e in
    record { moved = n; is_delta = refl; is_offset = sym same; above = omega (arith, same, ltb-false _ _ ea); within = omega (arith, same, ltb-false _ _ eb) }

offset-takes : (frame : Frame) (least : ℕ) (delta : ℤ) (offset : ℕ) → offset_of frame least delta ≡ Ok offset → IsOffset frame least delta offset
offset-takes frame least (pos n) offset e = offset_by frame least n offset (ltb (frame.base + n) least) (ltb frame.last (frame.base + n)) refl refl e
offset-takes frame least (negsuc n) offset e = absurd cc

offset-again : (frame : Frame) (least moved offset : ℕ) → offset ≡ frame.base + moved → least ≤ offset → offset ≤ frame.last → offset_of frame least (pos moved) ≡ Ok offset
offset-again frame least moved offset is above within =
    let low : ltb (frame.base + moved) least ≡ false = le-ltb _ _ (omega arith) in
    let high : ltb frame.last (frame.base + moved) ≡ false = le-ltb _ _ (omega arith) in
    rw (low, high) (ap (λ (n : ℕ). Ok n) (sym is))

-- ---- the fields

-- a byte and six texts, each behind the one before
joined : (bytes a b c d e : List ℕ) (x : ℕ) (s t u v w y : List ℕ) → bytes ≡ x ∷ a → a ≡ s ++ b → b ≡ t ++ c → c ≡ u ++ d → d ≡ v ++ e → e ≡ w ++ y → bytes ≡ x ∷ (s ++ (t ++ (u ++ (v ++ (w ++ y)))))
joined bytes a b c d e x s t u v w y ia ib ic id ie iy = rw (ia, ib, ic, id, ie, iy) refl

body-takes : (frame : Frame) (least : ℕ) (bytes : List ℕ) (r : Record) → body_at frame least bytes ≡ Ok r → IsBody frame least bytes r
unfolding body_at
body-takes frame least bytes r e =
    let attributes = bind_ok (byte_at bytes) _ r e in
    let stamp = bind_ok (long_at attributes.0.1) _ r attributes.2 in
    let time = bind_ok (time_of frame.times stamp.0.0) _ r stamp.2 in
    let delta = bind_ok (int_at stamp.0.1) _ r time.2 in
    let offset = bind_ok (offset_of frame least delta.0.0) _ r delta.2 in
    let key = bind_ok (nullable_at KeyLength delta.0.1) _ r offset.2 in
    let value = bind_ok (nullable_at ValueLength key.0.1) _ r key.2 in
    let headers = bind_ok (all_headers_at value.0.1) _ r value.2 in
    let first = byte_of bytes attributes.0 attributes.1 in
    let is_stamp = long-takes attributes.0.1 stamp.0 stamp.1 in
    let is_delta = int-takes stamp.0.1 delta.0 delta.1 in
    let is_offset = offset-takes frame least delta.0.0 offset.0 offset.1 in
    let is_key = nullable-takes KeyLength delta.0.1 key.0 key.1 in
    let is_value = nullable-takes ValueLength key.0.1 value.0 value.1 in
    let are = all_headers-takes value.0.1 headers.0 headers.1 in
    let made : IsBody frame least bytes (record { offset = offset.0; time = time.0; key = key.0.0; value = value.0.0; headers = headers.0 }) = record {
      attributes = first.0;
      stamp = is_stamp.text;
      delta = is_delta.text;
      key = is_key.text;
      value = is_value.text;
      count = are.count;
      headers = are.headers;
      parts = joined bytes attributes.0.1 stamp.0.1 delta.0.1 key.0.1 value.0.1 first.0 is_stamp.text is_delta.text is_key.text is_value.text are.count are.headers first.1 is_stamp.parts is_delta.parts is_key.parts is_value.parts are.parts;
      stamped = stamp.0.0;
      is_stamp = is_stamp.spelled;
      is_time = time-takes frame.times stamp.0.0 time.0 time.1;
      moved = is_offset.moved;
      is_delta = subst (IsVarint is_delta.text) is_offset.is_delta is_delta.spelled;
      is_offset = is_offset.is_offset;
      above = is_offset.above;
      within = is_offset.within;
      is_key = is_key.spelled;
      is_value = is_value.spelled;
      is_count = are.is_count;
      are_headers = are.are_headers;
    } in
    subst (IsBody frame least bytes) (ok_is (record { offset = offset.0; time = time.0; key = key.0.0; value = value.0.0; headers = headers.0 }) r headers.2) made

body-again : (frame : Frame) (least : ℕ) (bytes : List ℕ) (r : Record) → IsBody frame least bytes r → body_at frame least bytes ≡ Ok r
unfolding body_at
body-again frame least bytes r is =
    ap (body_at frame least) is.parts
    ∙ rw (
      byte_at-cons is.attributes (is.stamp ++ (is.delta ++ (is.key ++ (is.value ++ (is.count ++ is.headers))))),
      long-again is.stamp (is.delta ++ (is.key ++ (is.value ++ (is.count ++ is.headers)))) is.stamped is.is_stamp,
      time-again frame.times is.stamped r.time is.is_time,
      int-again is.delta (is.key ++ (is.value ++ (is.count ++ is.headers))) (pos is.moved) is.is_delta,
      offset-again frame least is.moved r.offset is.is_offset is.above is.within,
      nullable-again KeyLength is.key (is.value ++ (is.count ++ is.headers)) r.key is.is_key,
      nullable-again ValueLength is.value (is.count ++ is.headers) r.value is.is_value,
      all_headers-again is.count is.headers r.headers is.is_count is.are_headers,
    )
    refl

-- ---- one record, and all of them

record-takes : (frame : Frame) (least : ℕ) (bytes : List ℕ) (x : Record × List ℕ) → record_at frame least bytes ≡ Ok x → SpelledBefore (IsRecord frame least) bytes x.0 x.1
unfolding record_at
record-takes frame least bytes x e =
    let part = bind_ok (sized_at Length Length bytes) _ x e in
    let found = bind_ok (body_at frame least part.0.0) _ x part.2 in
    let text = sized-takes Length Length bytes part.0 part.1 in
    let made : SpelledBefore (IsRecord frame least) bytes found.0 part.0.1 = record {
      text = text.text;
      spelled = record { body = part.0.0; sized = text.spelled; fields = body-takes frame least part.0.0 found.0 found.1 };
      parts = text.parts;
    } in
    subst (λ (y : Record × List ℕ). SpelledBefore (IsRecord frame least) bytes y.0 y.1) (ok_is (found.0, part.0.1) x found.2) made

record-again : (frame : Frame) (least : ℕ) (text rest : List ℕ) (r : Record) → IsRecord frame least text r → record_at frame least (text ++ rest) ≡ Ok (r, rest)
unfolding record_at
record-again frame least text rest r is =
    rw (sized-again Length Length text is.body rest is.sized, body-again frame least is.body r is.fields) refl

records_by : (n left : ℕ) (frame : Frame) (least : ℕ) (bytes : List ℕ) (rs : List Record) (r : Result (Record × List ℕ) RecordKind) → record_at frame least bytes ≡ r
    → ((x : Record × List ℕ) (others : List Record) → r ≡ Ok x → records_at n frame (x.0.offset + 1) x.1 ≡ Ok others → AreRecords frame (x.0.offset + 1) x.1 others)
    → (told_at left r >>= λ x. records_at n frame (x.0.offset + 1) x.1 >>= λ others. and_one x.0 others) ≡ Ok rs → AreRecords frame least bytes rs
records_by n left frame least bytes rs (Err kind) h more e = absurd cc
records_by n left frame least bytes rs (Ok x) h more e =
    let others = bind_ok (records_at n frame (x.0.offset + 1) x.1) (λ others. and_one x.0 others) rs e in
    let first = record-takes frame least bytes x h in
    let made : AreRecords frame least bytes (x.0 ∷ others.0) = (first.text, x.1, first.spelled, more x others.0 refl others.1, first.parts) in
    subst (AreRecords frame least bytes) (all_is (x.0 ∷ others.0) rs others.2) made

pub records-takes : (n : ℕ) (frame : Frame) (least : ℕ) (bytes : List ℕ) (rs : List Record) → length bytes ≤ n → records_at n frame least bytes ≡ Ok rs → AreRecords frame least bytes rs
unfolding records_at
records-takes zero frame least [] rs short e = subst (AreRecords frame least []) (all_is [] rs e) refl
records-takes zero frame least (b ∷ bytes) rs short e = absurd (omega arith)
records-takes (suc n) frame least [] rs short e = subst (AreRecords frame least []) (all_is [] rs e) refl
records-takes (suc n) frame least (b ∷ bytes) rs short e =
    records_by n (length (b ∷ bytes)) frame least (b ∷ bytes) rs (record_at frame least (b ∷ bytes)) refl
    (λ x others h more. records-takes n frame (x.0.offset + 1) x.1 others (let k = record_at-shorter frame least (b ∷ bytes) x h in omega arith) more) e

no_records : (n : ℕ) (frame : Frame) (least : ℕ) → records_at n frame least [] ≡ Ok []
unfolding records_at
no_records zero frame least = refl
no_records (suc n) frame least = refl

-- a record has bytes
IsRecord-some : (frame : Frame) (least : ℕ) (text : List ℕ) (r : Record) → IsRecord frame least text r → 0 < length text
IsRecord-some frame least text r is =
    let some = IsGroups-some is.sized.head is.sized.len.groups in
    omega (arith, ap length is.sized.parts, length-append is.sized.head is.body)

records-one : (n : ℕ) (frame : Frame) (least : ℕ) (bytes rest : List ℕ) (r : Record) (others : List Record) → 0 < length bytes → record_at frame least bytes ≡ Ok (r, rest) → records_at n frame (r.offset + 1) rest ≡ Ok others
    → records_at (suc n) frame least bytes ≡ Ok (r ∷ others)
unfolding records_at
records-one n frame least [] rest r others some h more = absurd (omega arith)
records-one n frame least (b ∷ bytes) rest r others some h more = rw (h, more) refl

pub records-again : (rs : List Record) (n : ℕ) (frame : Frame) (least : ℕ) (bytes : List ℕ) → AreRecords frame least bytes rs → length bytes ≤ n → records_at n frame least bytes ≡ Ok rs
records-again [] n frame least bytes is short = ap (records_at n frame least) is ∙ no_records n frame least
records-again (r ∷ rs) zero frame least bytes is short =
    let some = IsRecord-some frame least is.0 r is.2 in
    absurd (omega (arith, ap length is.4, length-append is.0 is.1))
records-again (r ∷ rs) (suc n) frame least bytes is short =
    let some = IsRecord-some frame least is.0 r is.2 in
    let longer : length bytes ≡ length is.0 + length is.1 = ap length is.4 ∙ length-append is.0 is.1 in
    let first : record_at frame least bytes ≡ Ok (r, is.1) = ap (record_at frame least) is.4 ∙ record-again frame least is.0 is.1 r is.2 in
    records-one n frame least bytes is.1 r rs (omega arith) first (records-again rs n frame (r.offset + 1) is.1 is.3 (omega arith))
