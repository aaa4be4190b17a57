-- What holds of the records of one batch: they are no more than its bytes, and their offsets rise
-- up to its last.
use Rattle.std.proofs.Common.{◌≡◌, ℕ, suc, ◌+◌, ◌-◌, ◌<◌, ◌≤◌, ◌^◌, Bool, true, false, cond, ◌&&◌, leb, List, [], ◌∷◌, ◌++◌, length, length-drop, refl, ap, subst, arith, add-one}
use Rattle.std.proofs.lemmas.List.{length-append}
use Rattle.std.proofs.lemmas.Bool.{leb-true, le-leb, lt-ltb, lt-leb}
use Rattle.pc_bytes.proofs.VarintLaws.{IsGroups-some}
use Rattle.pc_model.specs.Record.{Record}
use Rattle.pc_model.specs.Given.{rises_from}
use Rattle.pc_batch.specs.declared.frame.Frame.{Frame}
use Rattle.pc_batch.specs.Grammar.{AreRecords}
use Rattle.pc_batch.specs.Batch.{Contents, Placed, IsBatch, IsBatchAt, given_by}
use Rattle.pc_cursor.specs.Cursor.{not_below}

-- ---- offsets that rise

pub rises-cons : (n : ℕ) (r : Record) (rs : List Record) → n ≤ r.offset → r.offset < 2 ^ 63 - 1
    → rises_from (suc r.offset) rs ≡ true → rises_from n (r ∷ rs) ≡ true
rises-cons n r rs above top more = rw (
  le-leb n r.offset above,
  lt-ltb r.offset (2 ^ 63 - 1) top,
  more,
) refl

pub and-left : (a b : Bool) → (a && b) ≡ true → a ≡ true
and-left true b e = refl
and-left false b e = e

pub and-right : (a b : Bool) → (a && b) ≡ true → b ≡ true
and-right true b e = e
and-right false b e = absurd cc

pub rises-lower : (m n : ℕ) (rs : List Record) → m ≤ n → rises_from n rs ≡ true
    → rises_from m rs ≡ true
rises-lower m n [] le e = refl
rises-lower m n (r ∷ rs) le e =
    let first = leb-true n r.offset (and-left _ _ e) in
    let rest = and-right (leb n r.offset) _ e in
    rw (le-leb m r.offset (omega arith)) rest

-- ---- the records of a batch

few : (frame : Frame) (least : ℕ) (bytes : List ℕ) (rs : List Record)
    → AreRecords frame least bytes rs → length rs ≤ length bytes
few frame least bytes [] are = omega arith
few frame least bytes (r ∷ rs) are =
    let sized = are.2.sized in
    let some = IsGroups-some sized.head sized.len.groups in
    let rest = few frame (r.offset + 1) are.1 rs are.3 in
    omega (
      arith,
      rest,
      some,
      ap length are.4,
      length-append are.0 are.1,
      ap length sized.parts,
      length-append sized.head are.2.body,
    )

given-length : (b : Contents) → length (given_by b) ≤ length b.records
given-length b = by_control b.control
  where
    by_control : (t : Bool) → length (cond t [] b.records) ≤ length b.records
    by_control true = omega arith
    by_control false = omega arith

-- a batch gives no more records than it has bytes
pub given-few : (log : List ℕ) (place : ℕ) (b : Placed) → IsBatchAt log place b
    → place + length (given_by b.contents) ≤ b.end
given-few log place b is =
    let are = few _ _ _ _ is.is_batch.are_records in
    omega (arith, are, given-length b.contents, is.ends, length-drop 61 is.text)

records-rise : (frame : Frame) (least : ℕ) (bytes : List ℕ) (rs more : List Record)
    → AreRecords frame least bytes rs → frame.last < 2 ^ 63 - 1 → least ≤ suc frame.last
    → rises_from (suc frame.last) more ≡ true → rises_from least (rs ++ more) ≡ true
records-rise frame least bytes [] more are top le e = rises-lower least (suc frame.last) more le e
records-rise frame least bytes (r ∷ rs) more are top le e =
    let f = are.2.fields in
    let within = f.within in
    let rest = records-rise frame (r.offset + 1) are.1 rs more are.3 top
    (omega (arith, within)) e in
    rises-cons least r (rs ++ more) f.above (omega (arith, within))
    (subst (λ (n : ℕ). rises_from n (rs ++ more) ≡ true) (add-one r.offset) rest)

-- the records of a batch, and those of batches behind it
pub given-rise : (text : List ℕ) (b : Contents) (more : List Record) → IsBatch text b
    → rises_from (suc b.last) more ≡ true → rises_from b.base (given_by b ++ more) ≡ true
given-rise text b more is e =
    by_control b.control (rises-lower b.base (suc b.last) more (omega (arith, is.is_last)) e)
    (records-rise _ b.base _ b.records more is.are_records is.range
    (omega (arith, is.is_last)) e)
  where
    by_control : (t : Bool) → rises_from b.base more ≡ true
        → rises_from b.base (b.records ++ more) ≡ true
        → rises_from b.base (cond t [] b.records ++ more) ≡ true
    by_control true none all = none
    by_control false none all = all

records-below : (frame : Frame) (least : ℕ) (bytes : List ℕ) (rs : List Record) (offset : ℕ)
    → AreRecords frame least bytes rs → frame.last < offset → not_below offset rs ≡ []
records-below frame least bytes [] offset are lt = refl
records-below frame least bytes (r ∷ rs) offset are lt =
    let within : r.offset ≤ frame.last = are.2.fields.within in
    let no : leb offset r.offset ≡ false = lt-leb offset r.offset (omega arith) in
    rw no (records-below frame (r.offset + 1) are.1 rs offset are.3 lt)

-- a batch whose last offset is below gives no record that is not
pub given-below : (text : List ℕ) (b : Contents) (offset : ℕ) → IsBatch text b → b.last < offset
    → not_below offset (given_by b) ≡ []
given-below text b offset is lt = by_control b.control
    (records-below _ _ _ b.records offset is.are_records lt)
  where
    by_control : (t : Bool) → not_below offset b.records ≡ []
        → not_below offset (cond t [] b.records) ≡ []
    by_control true e = refl
    by_control false e = e
