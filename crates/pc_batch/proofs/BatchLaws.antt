-- A batch that is read is of the grammar, and what is of the grammar is read.
use Rattle.std.proofs.Common.{◌≡◌, ℕ, ◌+◌, ◌-◌, ◌<◌, ◌≤◌, ◌^◌, Bool, true, false, cond, eqb, ltb, List, ◌++◌, length, take, drop, length-drop, length-take, Some, None, Result, Ok, Err, refl, sym, ap, subst, ◌∙◌, arith}
use Rattle.std.specs.Prelude.{ℤ, pos, IfOk, IfErr, OnOk}
use Rattle.std.proofs.Common.{negsuc}
use Rattle.std.specs.Result.{result_err}
use Rattle.std.specs.Int.{Width, w8, w32, byte_len, cast_signed}
use Rattle.std.proofs.lemmas.Bool.{ltb-false, ltb-true, le-ltb, lt-ltb, eqb-true}
use Rattle.std.proofs.lemmas.List.{take-append-drop, take_at, drop-append-le, length-append}
use Rattle.byteorder.specs.Numbers.{big_from-append}
use Rattle.pc_model.specs.Record.{Record}
use Rattle.pc_bytes.specs.Fields.{◌>>=◌}
use Rattle.pc_bytes.proofs.VarintLaws.{bind_ok}
use Rattle.pc_batch.specs.declared.fault.RecordKind.{RecordKind}
use Rattle.pc_batch.specs.declared.fault.BatchFault.{BatchFault}
use Rattle.pc_batch.specs.declared.fault.BatchFault.TheVariants.{Short, BadMagic, BadLength, BadCrc, Compressed, OffsetRange, Count}
use Rattle.pc_batch.specs.declared.frame.Times.{Times}
use Rattle.pc_batch.specs.declared.frame.Frame.{Frame}
use Rattle.pc_batch.specs.Batch.{Contents, Placed, number_from, signed_from, base_offset, batch_length, magic, stored_crc, found_crc, compression, is_control, last_delta, times_in, record_count, IsBatch, IsBatchAt, length_of, whole_of, whole_at, intact, range_of, frame_of, placed, same_count, batch_at, batch_fault}
use Rattle.pc_batch.specs.Records.{records_at, front_records, counted}
use Rattle.pc_batch.specs.Grammar.{AreRecords}
use Rattle.pc_batch.proofs.RecordsLemmas.{counted_by, front-of_all}
use Rattle.pc_batch.proofs.RecordLaws.{records-takes, records-again}

abbrev pub done : {A : Type 0} → A → Result A BatchFault
done x = Ok x

ok_is : {A : Type 0} (x y : A) → done x ≡ done y → x ≡ y
ok_is x y e = cc

-- a number reads no byte past its end
number_from-append : (n at : ℕ) (text rest : List ℕ) → at + n ≤ length text → number_from n at (text ++ rest) ≡ number_from n at text
number_from-append n at text rest h =
    ap (λ (l : List ℕ). number_from n 0 l) (drop-append-le at text rest (omega arith))
    ∙ big_from-append n (drop at text) rest (omega (arith, length-drop at text))

signed_from-append : (w : Width) (at : ℕ) (text rest : List ℕ) → at + byte_len w ≤ length text → signed_from w at (text ++ rest) ≡ signed_from w at text
signed_from-append w at text rest h = ap (cast_signed w) (number_from-append (byte_len w) at text rest h)

-- ---- the bytes of the batch

record IsWhole (bytes text : List ℕ) : Type 0 where
  rest : List ℕ
  parts : bytes ≡ text ++ rest
  long : 61 ≤ length text
  is_magic : magic text ≡ 2
  is_length : batch_length text ≡ pos (length text - 12)

length_of-takes : (z : ℤ) (n : ℕ) → length_of z ≡ Ok n → (z ≡ pos (n - 12)) × (61 ≤ n)
length_of-takes (pos m) n e = by_test (ltb m 49) refl e
  where
    by_test : (b : Bool) → ltb m 49 ≡ b → ◌≡◌ {A = Result ℕ BatchFault} (cond b (Err (BadLength (pos m))) (Ok (12 + m))) (Ok n) → (pos m ≡ pos (n - 12)) × (61 ≤ n)
    by_test true t e = absurd cc
    by_test false t e =
        let same = ok_is (12 + m) n e in
        let low = ltb-false _ _ t in
        let less : m ≡ n - 12 = omega arith in
        (ap pos less, omega arith)
length_of-takes (negsuc m) n e = absurd cc

whole_by : (at : ℕ) (bytes text : List ℕ) (n : ℕ) → magic bytes ≡ 2 → batch_length bytes ≡ pos (n - 12) → 61 ≤ n → whole_of at bytes n ≡ Ok text → IsWhole bytes text
whole_by at bytes text n is_magic is_length long e = by_test (ltb (length bytes) n) refl e
  where
    by_test : (b : Bool) → ltb (length bytes) n ≡ b → ◌≡◌ {A = Result (List ℕ) BatchFault} (cond b (Err (Short at n)) (Ok (take n bytes))) (Ok text) → IsWhole bytes text
    by_test true t e = absurd cc
    by_test false t e =
        let within = ltb-false _ _ t in
        let same = ok_is (take n bytes) text e in
        let parts : bytes ≡ take n bytes ++ drop n bytes = sym (take-append-drop n bytes) in
        let len : length (take n bytes) ≡ n = omega (arith, length-take n bytes) in
        let at_magic : magic bytes ≡ magic (take n bytes) = ap magic parts ∙ number_from-append 1 16 (take n bytes) (drop n bytes) (omega arith) in
        let at_length : batch_length bytes ≡ batch_length (take n bytes) = ap batch_length parts ∙ signed_from-append w32 8 (take n bytes) (drop n bytes) (omega arith) in
        let made : IsWhole bytes (take n bytes) = record {
          rest = drop n bytes;
          parts = parts;
          long = omega arith;
          is_magic = sym at_magic ∙ is_magic;
          is_length = sym at_length ∙ is_length ∙ ap (λ (k : ℕ). pos (k - 12)) (sym len);
        } in
        subst (IsWhole bytes) same made

whole-takes : (at : ℕ) (bytes text : List ℕ) → whole_at at bytes ≡ Ok text → IsWhole bytes text
unfolding whole_at
whole-takes at bytes text e = by_tests (ltb (length bytes) 61) (eqb (magic bytes) 2) refl refl e
  where
    by_tests : (a b : Bool) → ltb (length bytes) 61 ≡ a → eqb (magic bytes) 2 ≡ b
        → cond a (Err (Short at 61)) (cond b (length_of (batch_length bytes) >>= λ n. whole_of at bytes n) (Err (BadMagic (cast_signed w8 (magic bytes))))) ≡ Ok text → IsWhole bytes text
    by_tests true b ea eb e = absurd cc
    by_tests false false ea eb e = absurd cc
    by_tests false true ea eb e =
        let n = bind_ok (length_of (batch_length bytes)) (λ n. whole_of at bytes n) text e in
        let len = length_of-takes (batch_length bytes) n.0 n.1 in
        whole_by at bytes text n.0 (eqb-true _ _ eb) len.0 len.1 n.2

whole-again : (at : ℕ) (text rest : List ℕ) → 61 ≤ length text → magic text ≡ 2 → batch_length text ≡ pos (length text - 12) → whole_at at (text ++ rest) ≡ Ok text
unfolding whole_at
whole-again at text rest long is_magic is_length =
    let bytes = text ++ rest in
    let more = length-append text rest in
    let some : ltb (length bytes) 61 ≡ false = le-ltb _ _ (omega arith) in
    let m : magic bytes ≡ 2 = number_from-append 1 16 text rest (omega arith) ∙ is_magic in
    let l : batch_length bytes ≡ pos (length text - 12) = signed_from-append w32 8 text rest (omega arith) ∙ is_length in
    let enough : ltb (length text - 12) 49 ≡ false = le-ltb _ _ (omega arith) in
    let back : 12 + (length text - 12) ≡ length text = omega arith in
    let within : ltb (length bytes) (length text) ≡ false = le-ltb _ _ (omega arith) in
    rw (some, m, l, enough, back, within, take_at text rest (length text) refl) refl

-- ---- the checks

intact-takes : (bytes text : List ℕ) → intact bytes ≡ Ok text → (bytes ≡ text) × (stored_crc bytes ≡ found_crc bytes) × (compression bytes ≡ 0)
unfolding intact
intact-takes bytes text e = by_tests (eqb (stored_crc bytes) (found_crc bytes)) (eqb (compression bytes) 0) refl refl e
  where
    by_tests : (a b : Bool) → eqb (stored_crc bytes) (found_crc bytes) ≡ a → eqb (compression bytes) 0 ≡ b
        → ◌≡◌ {A = Result (List ℕ) BatchFault} (cond a (cond b (Ok bytes) (Err (Compressed (compression bytes)))) (Err (BadCrc (stored_crc bytes) (found_crc bytes)))) (Ok text) → (bytes ≡ text) × (stored_crc bytes ≡ found_crc bytes) × (compression bytes ≡ 0)
    by_tests true true ea eb e = (ok_is bytes text e, eqb-true _ _ ea, eqb-true _ _ eb)
    by_tests true false ea eb e = absurd cc
    by_tests false b ea eb e = absurd cc

intact-again : (text : List ℕ) → stored_crc text ≡ found_crc text → compression text ≡ 0 → intact text ≡ Ok text
unfolding intact
intact-again text crc plain =
    let same : eqb (stored_crc text) (found_crc text) ≡ true = grind (arith, crc) in
    rw (same, plain) refl

-- ---- the range of the offsets

record IsRange (base delta : ℤ) (stamps : Times) (frame : Frame) : Type 0 where
  moved : ℕ
  is_base : base ≡ pos frame.base
  is_delta : delta ≡ pos moved
  is_last : frame.last ≡ frame.base + moved
  range : frame.last < 2 ^ 63 - 1
  is_times : frame.times ≡ stamps

range-takes : (base delta : ℤ) (stamps : Times) (frame : Frame) → range_of base delta stamps ≡ Ok frame → IsRange base delta stamps frame
range-takes (pos base) (pos delta) stamps frame e = by_test (ltb (base + delta) (2 ^ 63 - 1)) refl e
  where
    made : Frame
    made = record { base = base; last = base + delta; times = stamps }

    by_test : (b : Bool) → ltb (base + delta) (2 ^ 63 - 1) ≡ b → ◌≡◌ {A = Result Frame BatchFault} (cond b (Ok made) (Err (OffsetRange (pos base) (pos delta)))) (Ok frame) → IsRange (pos base) (pos delta) stamps frame
    by_test true t e =
        let is : IsRange (pos base) (pos delta) stamps made = record { moved = delta; is_base = refl; is_delta = refl; is_last = refl; range = ltb-true _ _ t; is_times = refl } in
        subst (IsRange (pos base) (pos delta) stamps) (ok_is made frame e) is
    by_test false t e = absurd cc
range-takes (pos base) (negsuc delta) stamps frame e = absurd cc
range-takes (negsuc base) delta stamps frame e = absurd cc

frame-again : (text : List ℕ) (base moved last : ℕ) → base_offset text ≡ pos base → last_delta text ≡ pos moved → last ≡ base + moved → last < 2 ^ 63 - 1 → frame_of text ≡ Ok (record { base = base; last = last; times = times_in text })
unfolding frame_of
frame-again text base moved last is_base is_delta is_last range =
    let fits : ltb (base + moved) (2 ^ 63 - 1) ≡ true = lt-ltb _ _ (omega arith) in
    let made : ℕ → Frame = λ n. record { base = base; last = n; times = times_in text } in
    ap (λ (z : ℤ). range_of z (last_delta text) (times_in text)) is_base
    ∙ ap (λ (z : ℤ). range_of (pos base) z (times_in text)) is_delta
    ∙ rw fits (ap (λ (n : ℕ). Ok (made n)) (sym is_last))

-- ---- the records, and their count

placed-ok : (end : ℕ) (r : Result (List Record) (ℕ × RecordKind)) (rs : List Record) → placed end r ≡ Ok rs → r ≡ Ok rs
placed-ok end (Ok xs) rs e = ap (λ (l : List Record). Ok l) (ok_is xs rs e)
placed-ok end (Err f) rs e = absurd cc

count-takes : (z : ℤ) (rs ys : List Record) → same_count z rs ≡ Ok ys → (z ≡ pos (length rs)) × (rs ≡ ys)
count-takes (pos n) rs ys e = by_test (eqb n (length rs)) refl e
  where
    by_test : (b : Bool) → eqb n (length rs) ≡ b → ◌≡◌ {A = Result (List Record) BatchFault} (cond b (Ok rs) (Err (Count (pos n) (length rs)))) (Ok ys) → (pos n ≡ pos (length rs)) × (rs ≡ ys)
    by_test true t e = (ap pos (eqb-true _ _ t), ok_is rs ys e)
    by_test false t e = absurd cc
count-takes (negsuc n) rs ys e = absurd cc

count-again : (z : ℤ) (rs : List Record) → z ≡ pos (length rs) → same_count z rs ≡ Ok rs
count-again z rs is = ap (λ (y : ℤ). same_count y rs) is ∙ same (eqb (length rs) (length rs)) (grind arith)
  where
    same : (b : Bool) → b ≡ true → ◌≡◌ {A = Result (List Record) BatchFault} (cond b (Ok rs) (Err (Count (pos (length rs)) (length rs)))) (Ok rs)
    same b e = rw e refl

-- ---- the batch

-- what the code finds, step by step
pub batch-is : (at : ℕ) (bytes text records : List ℕ) (frame : Frame) (found : ℕ) (control : Bool) → whole_at at bytes ≡ Ok text → intact text ≡ Ok text → frame_of text ≡ Ok frame → records ≡ drop 61 text
    → counted 0 (at + 61 + length records) (records_at (length records) frame frame.base records) ≡ Ok found → record_count text ≡ pos found → control ≡ is_control text
    → batch_at at bytes ≡ Ok (record { contents = record { base = frame.base; last = frame.last; control = control; records = front_records (length records) frame frame.base records }; end = at + length text })
unfolding batch_at
batch-is at bytes text records frame found control w i f d k n c =
    let t = counted_by 0 (at + 61 + length records) found (records_at (length records) frame frame.base records) k in
    let front : front_records (length records) frame frame.base records ≡ t.0 = front-of_all (length records) frame frame.base records t.0 (omega arith) t.1 in
    let all : records_at (length (drop 61 text)) frame frame.base (drop 61 text) ≡ Ok t.0 = ap (λ (l : List ℕ). records_at (length l) frame frame.base l) (sym d) ∙ t.1 in
    let many : found ≡ length t.0 = omega (arith, t.2) in
    rw (w, i, f, all, count-again (record_count text) t.0 (n ∙ ap pos many), front, c) refl

-- as many as were counted
pub found-is : (end n found : ℕ) (frame : Frame) (least : ℕ) (bytes : List ℕ) → length bytes ≤ n → counted 0 end (records_at n frame least bytes) ≡ Ok found → found ≡ length (front_records n frame least bytes)
found-is end n found frame least bytes short k =
    let t = counted_by 0 end found (records_at n frame least bytes) k in
    let front : front_records n frame least bytes ≡ t.0 = front-of_all n frame least bytes t.0 short t.1 in
    omega (arith, t.2, ap length front)

record Reads (at : ℕ) (bytes : List ℕ) (x : Placed) : Type 0 where
  text : List ℕ
  rest : List ℕ
  parts : bytes ≡ text ++ rest
  is_batch : IsBatch text x.contents
  ends : x.end ≡ at + length text

batch-takes : (at : ℕ) (bytes : List ℕ) (x : Placed) → batch_at at bytes ≡ Ok x → Reads at bytes x
unfolding batch_at frame_of
batch-takes at bytes x e =
    let whole = bind_ok (whole_at at bytes) _ x e in
    let same = bind_ok (intact whole.0) _ x whole.2 in
    let frame = bind_ok (frame_of same.0) _ x same.2 in
    let records = bind_ok (placed (at + length same.0) (records_at (length (drop 61 same.0)) frame.0 frame.0.base (drop 61 same.0))) _ x frame.2 in
    let counted = bind_ok (same_count (record_count same.0) records.0) _ x records.2 in
    let i = intact-takes whole.0 same.0 same.1 in
    let w : IsWhole bytes same.0 = subst (IsWhole bytes) i.0 (whole-takes at bytes whole.0 whole.1) in
    let crc : stored_crc same.0 ≡ found_crc same.0 = subst (λ (l : List ℕ). stored_crc l ≡ found_crc l) i.0 i.1 in
    let plain : compression same.0 ≡ 0 = subst (λ (l : List ℕ). compression l ≡ 0) i.0 i.2 in
    let range = range-takes (base_offset same.0) (last_delta same.0) (times_in same.0) frame.0 frame.1 in
    let n = count-takes (record_count same.0) records.0 counted.0 counted.1 in
    let all = placed-ok (at + length same.0) (records_at (length (drop 61 same.0)) frame.0 frame.0.base (drop 61 same.0)) records.0 records.1 in
    let are : AreRecords frame.0 frame.0.base (drop 61 same.0) records.0 = records-takes (length (drop 61 same.0)) frame.0 frame.0.base (drop 61 same.0) records.0 (omega arith) all in
    let made : Placed = record { contents = record { base = frame.0.base; last = frame.0.last; control = is_control same.0; records = counted.0 }; end = at + length same.0 } in
    let read : Reads at bytes (record { contents = record { base = frame.0.base; last = frame.0.last; control = is_control same.0; records = counted.0 }; end = at + length same.0 }) = record {
      text = same.0;
      rest = w.rest;
      parts = w.parts;
      is_batch = record {
        whole = w.long;
        is_magic = w.is_magic;
        is_length = w.is_length;
        is_crc = crc;
        is_plain = plain;
        is_base = range.is_base;
        moved = range.moved;
        is_delta = range.is_delta;
        is_last = range.is_last;
        range = range.range;
        is_control_bit = refl;
        are_records = subst (λ (stamps : Times). AreRecords (record { base = frame.0.base; last = frame.0.last; times = stamps }) frame.0.base (drop 61 same.0) counted.0) range.is_times (subst (AreRecords frame.0 frame.0.base (drop 61 same.0)) n.1 are);
        is_count = n.0 ∙ ap (λ (l : List Record). pos (length l)) n.1;
      };
      ends = refl;
    } in
    subst (Reads at bytes) (ok_is (record { contents = record { base = frame.0.base; last = frame.0.last; control = is_control same.0; records = counted.0 }; end = at + length same.0 }) x counted.2) read

batch-again : (at : ℕ) (text rest : List ℕ) (batch : Contents) → IsBatch text batch → batch_at at (text ++ rest) ≡ Ok (record { contents = batch; end = at + length text })
unfolding batch_at
batch-again at text rest batch is =
    let frame : Frame = record { base = batch.base; last = batch.last; times = times_in text } in
    let all = records-again batch.records (length (drop 61 text)) (record { base = batch.base; last = batch.last; times = times_in text }) batch.base (drop 61 text) is.are_records (omega arith) in
    rw (
      whole-again at text rest is.whole is.is_magic is.is_length,
      intact-again text is.is_crc is.is_plain,
      frame-again text batch.base is.moved batch.last is.is_base is.is_delta is.is_last is.range,
      all,
      count-again (record_count text) batch.records is.is_count,
      sym is.is_control_bit,
    )
    refl

-- ---- what a reader answered

pub read-found : (log left : List ℕ) (at : ℕ) (r : Result Placed BatchFault) → left ≡ drop at log → IfOk r (λ b. batch_at at left ≡ Ok b) → IfOk r (λ b. IsBatchAt log at b)
read-found log left at (Ok b) is read =
    let t = batch-takes at left b read in
    record { text = t.text; rest = t.rest; parts = sym is ∙ t.parts; is_batch = t.is_batch; ends = t.ends }
read-found log left at (Err f) is read = tt

pub read-only : (log left : List ℕ) (at : ℕ) (r : Result Placed BatchFault) → left ≡ drop at log → IfOk r (λ b. batch_at at left ≡ Ok b) → IfErr r (λ f. batch_at at left ≡ Err f) → (batch : Placed) → IsBatchAt log at batch → r ≡ Ok batch
read-only log left at r is read fault batch in_log =
    let again : batch_at at left ≡ Ok (record { contents = batch.contents; end = at + length in_log.text }) = ap (batch_at at) (is ∙ in_log.parts) ∙ batch-again at in_log.text in_log.rest batch.contents in_log.is_batch in
    let here : batch_at at left ≡ Ok batch = again ∙ ap (λ (n : ℕ). at_end n) (sym in_log.ends) in
    by_answer r read fault here
  where
    at_end : ℕ → Result Placed BatchFault
    at_end n = Ok (record { contents = batch.contents; end = n })

    by_answer : (r : Result Placed BatchFault) → IfOk r (λ b. batch_at at left ≡ Ok b) → IfErr r (λ f. batch_at at left ≡ Err f) → batch_at at left ≡ Ok batch → r ≡ Ok batch
    by_answer (Ok b) read fault here = sym read ∙ here
    by_answer (Err f) read fault here = sym fault ∙ here

pub read-value : (log left : List ℕ) (at : ℕ) (r : Result Placed BatchFault) → left ≡ drop at log → IfOk r (λ b. batch_at at left ≡ Ok b) → IfOk r (λ b. batch_at at (drop at log) ≡ Ok b)
read-value log left at (Ok b) is read = ap (batch_at at) (sym is) ∙ read
read-value log left at (Err f) is read = tt

pub read-sound : (log left : List ℕ) (at : ℕ) (r : Result Placed BatchFault) → left ≡ drop at log → IfOk r (λ b. batch_at at left ≡ Ok b) → OnOk r (batch_fault log at ≡ None)
unfolding batch_fault
read-sound log left at (Ok b) is read = ap result_err (ap (batch_at at) (sym is) ∙ read)
read-sound log left at (Err f) is read = tt

pub read-fault : (log left : List ℕ) (at : ℕ) (r : Result Placed BatchFault) → left ≡ drop at log → IfErr r (λ f. batch_at at left ≡ Err f) → IfErr r (λ f. batch_fault log at ≡ Some f)
unfolding batch_fault
read-fault log left at (Ok b) is fault = tt
read-fault log left at (Err f) is fault = ap result_err (ap (batch_at at) (sym is) ∙ fault)

-- ---- the same of a place of a log

pub batch_from-takes : (log : List ℕ) (at : ℕ) (batch : Placed) → batch_at at (drop at log) ≡ Ok batch → IsBatchAt log at batch
batch_from-takes log at batch e =
    let t = batch-takes at (drop at log) batch e in
    record { text = t.text; rest = t.rest; parts = t.parts; is_batch = t.is_batch; ends = t.ends }

pub batch_from-again : (log : List ℕ) (at : ℕ) (batch : Placed) → IsBatchAt log at batch → batch_at at (drop at log) ≡ Ok batch
batch_from-again log at batch is =
    ap (batch_at at) is.parts ∙ batch-again at is.text is.rest batch.contents is.is_batch ∙ ap (λ (n : ℕ). Ok (ended n)) (sym is.ends)
  where
    ended : ℕ → Placed
    ended n = record { contents = batch.contents; end = n }
