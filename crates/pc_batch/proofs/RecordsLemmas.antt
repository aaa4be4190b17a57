-- Reading records one after the other, as the iterator and the count do.
use Rattle.std.proofs.Common.{◌≡◌, ℕ, zero, suc, ◌+◌, ◌-◌, ◌<◌, ◌≤◌, List, [], ◌∷◌, length, Result, Ok, Err, refl, sym, ap, ◌∙◌, arith}
use Rattle.pc_model.specs.Record.{Record}
use Rattle.pc_bytes.specs.Fields.{◌>>=◌}
use Rattle.pc_bytes.proofs.VarintLaws.{bind_ok}
use Rattle.std.proofs.lemmas.List.{length-append}
use Rattle.pc_batch.specs.declared.fault.RecordKind.{RecordKind}
use Rattle.pc_batch.specs.declared.fault.RecordKind.TheVariants.{Length}
use Rattle.pc_batch.specs.declared.fault.BatchFault.{BatchFault}
use Rattle.pc_batch.specs.declared.fault.BatchFault.TheVariants.{BadRecord}
use Rattle.pc_batch.specs.declared.frame.Frame.{Frame}
use Rattle.pc_batch.specs.Fields.{sized_at}
use Rattle.pc_batch.specs.Record.{body_at, record_at}
use Rattle.pc_batch.specs.Records.{told_at, records_at, front_records, and_on, counted}
use Rattle.pc_batch.proofs.FieldLaws.{ok_is, sized-takes}
use Rattle.pc_bytes.proofs.VarintLaws.{IsGroups-some}

-- one record more in front
abbrev pub and_one : Record → List Record → Result (List Record) (ℕ × RecordKind)
and_one r others = Ok (r ∷ others)

pub all_is : (x y : List Record) → ◌≡◌ {A = Result (List Record) (ℕ × RecordKind)} (Ok x) (Ok y) → x ≡ y
all_is x y e = cc

-- a record takes a byte at least
pub record_at-shorter : (frame : Frame) (least : ℕ) (bytes : List ℕ) (x : Record × List ℕ) → record_at frame least bytes ≡ Ok x → length x.1 < length bytes
unfolding record_at
record_at-shorter frame least bytes x e =
    let a = bind_ok (sized_at Length Length bytes) (λ part. body_at frame least part.0 >>= λ found. Ok (found, part.1)) x e in
    let b = bind_ok (body_at frame least a.0.0) (λ found. Ok (found, a.0.1)) x a.2 in
    let text = sized-takes Length Length bytes a.0 a.1 in
    let some = IsGroups-some text.spelled.head text.spelled.len.groups in
    let same = ap (λ (y : Record × List ℕ). length y.1) (ok_is (b.0, a.0.1) x b.2) in
    omega (arith, same, ap length text.parts, length-append text.text a.0.1, ap length text.spelled.parts, length-append text.spelled.head a.0.0)

-- ---- the records up to the first that is none

-- more turns than bytes change nothing
front_by : (frame : Frame) (bytes : List ℕ) (least : ℕ) (r : Result (Record × List ℕ) RecordKind) (f g : Record × List ℕ → List Record)
    → ((x : Record × List ℕ) → r ≡ Ok x → f x ≡ g x) → and_on r f ≡ and_on r g
front_by frame bytes least (Ok x) f g same = ap (λ (l : List Record). x.0 ∷ l) (same x refl)
front_by frame bytes least (Err kind) f g same = refl

front_none : (frame : Frame) (bytes : List ℕ) (least : ℕ) (r : Result (Record × List ℕ) RecordKind) (f : Record × List ℕ → List Record)
    → ((x : Record × List ℕ) → r ≡ Ok x → ⊥) → and_on r f ≡ []
front_none frame bytes least (Ok x) f none = absurd (none x refl)
front_none frame bytes least (Err kind) f none = refl

front-turns : (m n : ℕ) (frame : Frame) (least : ℕ) (bytes : List ℕ) → length bytes ≤ m → length bytes ≤ n → front_records m frame least bytes ≡ front_records n frame least bytes
unfolding front_records
front-turns zero zero frame least bytes a b = refl
front-turns zero (suc n) frame least bytes a b =
    sym (front_none frame bytes least (record_at frame least bytes) _ (λ x e. absurd (let h = record_at-shorter frame least bytes x e in omega arith)))
front-turns (suc m) zero frame least bytes a b =
    front_none frame bytes least (record_at frame least bytes) _ (λ x e. absurd (let h = record_at-shorter frame least bytes x e in omega arith))
front-turns (suc m) (suc n) frame least bytes a b =
    front_by frame bytes least (record_at frame least bytes) _ _ (λ x e. front-turns m n frame (x.0.offset + 1) x.1 (let h = record_at-shorter frame least bytes x e in omega arith) (let h = record_at-shorter frame least bytes x e in omega arith))

pub front-fails : (n : ℕ) (frame : Frame) (least : ℕ) (bytes : List ℕ) (kind : RecordKind) → record_at frame least bytes ≡ Err kind → front_records n frame least bytes ≡ []
unfolding front_records
front-fails zero frame least bytes kind e = refl
front-fails (suc n) frame least bytes kind e = rw e refl

front-suc : (n : ℕ) (frame : Frame) (least : ℕ) (bytes : List ℕ) (x : Record × List ℕ) → record_at frame least bytes ≡ Ok x → front_records (suc n) frame least bytes ≡ x.0 ∷ front_records n frame (x.0.offset + 1) x.1
unfolding front_records
front-suc n frame least bytes x e = rw e refl

pub front-step : (frame : Frame) (least : ℕ) (bytes : List ℕ) (x : Record × List ℕ) → record_at frame least bytes ≡ Ok x
    → front_records (length bytes) frame least bytes ≡ x.0 ∷ front_records (length x.1) frame (x.0.offset + 1) x.1
front-step frame least bytes x e =
    let h = record_at-shorter frame least bytes x e in
    let turns : length bytes ≡ suc (length bytes - 1) = omega arith in
    ap (λ (n : ℕ). front_records n frame least bytes) turns
    ∙ front-suc (length bytes - 1) frame least bytes x e
    ∙ ap (λ (l : List Record). x.0 ∷ l) (front-turns (length bytes - 1) (length x.1) frame (x.0.offset + 1) x.1 (omega arith) (omega arith))

-- ---- all records

records_by : (left : ℕ) (r : Result (Record × List ℕ) RecordKind) (f g : Record × List ℕ → Result (List Record) (ℕ × RecordKind))
    → ((x : Record × List ℕ) → r ≡ Ok x → f x ≡ g x) → (told_at left r >>= λ x. f x >>= λ others. and_one x.0 others) ≡ (told_at left r >>= λ x. g x >>= λ others. and_one x.0 others)
records_by left (Ok x) f g same = ap (λ (r : Result (List Record) (ℕ × RecordKind)). r >>= λ others. and_one x.0 others) (same x refl)
records_by left (Err kind) f g same = refl

-- more turns than bytes change nothing
records-turns : (m n : ℕ) (frame : Frame) (least : ℕ) (bytes : List ℕ) → length bytes ≤ m → length bytes ≤ n → records_at m frame least bytes ≡ records_at n frame least bytes
unfolding records_at
records-turns zero zero frame least bytes a b = refl
records-turns zero (suc n) frame least [] a b = refl
records-turns zero (suc n) frame least (c ∷ bytes) a b = absurd (omega arith)
records-turns (suc m) zero frame least [] a b = refl
records-turns (suc m) zero frame least (c ∷ bytes) a b = absurd (omega arith)
records-turns (suc m) (suc n) frame least [] a b = refl
records-turns (suc m) (suc n) frame least (c ∷ bytes) a b =
    records_by (length (c ∷ bytes)) (record_at frame least (c ∷ bytes)) _ _ (λ x e. records-turns m n frame (x.0.offset + 1) x.1 (let h = record_at-shorter frame least (c ∷ bytes) x e in omega arith) (let h = record_at-shorter frame least (c ∷ bytes) x e in omega arith))

counted-one : (found end : ℕ) (x : Record) (r : Result (List Record) (ℕ × RecordKind)) → counted found end (r >>= λ others. and_one x others) ≡ counted (found + 1) end r
counted-one found end x (Ok others) = let more : found + suc (length others) ≡ found + 1 + length others = omega arith in ap (λ (n : ℕ). Ok n) more
counted-one found end x (Err e) = refl

-- the count goes on behind one more record
pub counts-one : (found end : ℕ) (frame : Frame) (least : ℕ) (bytes : List ℕ) (x : Record × List ℕ) → 0 < length bytes → record_at frame least bytes ≡ Ok x
    → counted found end (records_at (length bytes) frame least bytes) ≡ counted (found + 1) end (records_at (length x.1) frame (x.0.offset + 1) x.1)
unfolding records_at
counts-one found end frame least [] x some e = absurd (omega arith)
counts-one found end frame least (b ∷ bytes) x some e =
    let h = record_at-shorter frame least (b ∷ bytes) x e in
    ap (λ (r : Result (Record × List ℕ) RecordKind). counted found end (told_at (length (b ∷ bytes)) r >>= λ y. records_at (length bytes) frame (y.0.offset + 1) y.1 >>= λ others. and_one y.0 others)) e
    ∙ counted-one found end x.0 (records_at (length bytes) frame (x.0.offset + 1) x.1)
    ∙ ap (counted (found + 1) end) (records-turns (length bytes) (length x.1) frame (x.0.offset + 1) x.1 (omega arith) (omega arith))

-- the count ends at the first record that is none
pub count-fails : (found end : ℕ) (frame : Frame) (least : ℕ) (bytes : List ℕ) (kind : RecordKind) → 0 < length bytes → record_at frame least bytes ≡ Err kind
    → counted found end (records_at (length bytes) frame least bytes) ≡ Err (BadRecord (end - length bytes) kind)
unfolding records_at
count-fails found end frame least [] kind some e = absurd (omega arith)
count-fails found end frame least (b ∷ bytes) kind some e = rw e refl

-- nothing is left to count
pub counted-all : (found end : ℕ) (frame : Frame) (least : ℕ) (bytes : List ℕ) → length bytes ≤ 0 → counted found end (records_at (length bytes) frame least bytes) ≡ Ok found
unfolding records_at
counted-all found end frame least [] none = let same : found + 0 ≡ found = omega arith in ap (λ (n : ℕ). Ok n) same
counted-all found end frame least (b ∷ bytes) none = absurd (omega arith)

pub counted_by : (found end n : ℕ) (r : Result (List Record) (ℕ × RecordKind)) → counted found end r ≡ Ok n → (rs : List Record) × (r ≡ Ok rs) × (found + length rs ≡ n)
counted_by found end n (Ok rs) e = (rs, refl, same (found + length rs) n e)
  where
    same : (a b : ℕ) → ◌≡◌ {A = Result ℕ BatchFault} (Ok a) (Ok b) → a ≡ b
    same a b e = cc
counted_by found end n (Err x) e = absurd cc

-- where all are records, they are those that the iterator gives
front_of : (left : ℕ) (r : Result (Record × List ℕ) RecordKind) (f : Record × List ℕ → Result (List Record) (ℕ × RecordKind)) (g : Record × List ℕ → List Record) (rs : List Record)
    → ((x : Record × List ℕ) (others : List Record) → r ≡ Ok x → f x ≡ Ok others → g x ≡ others) → (told_at left r >>= λ x. f x >>= λ others. and_one x.0 others) ≡ Ok rs → and_on r g ≡ rs
front_of left (Err kind) f g rs more e = absurd cc
front_of left (Ok x) f g rs more e =
    let a = bind_ok (f x) (λ others. and_one x.0 others) rs e in
    ap (λ (l : List Record). x.0 ∷ l) (more x a.0 refl a.1) ∙ all_is (x.0 ∷ a.0) rs a.2

pub front-of_all : (n : ℕ) (frame : Frame) (least : ℕ) (bytes : List ℕ) (rs : List Record) → length bytes ≤ n → records_at n frame least bytes ≡ Ok rs → front_records n frame least bytes ≡ rs
unfolding records_at front_records
front-of_all zero frame least bytes rs short e = all_is [] rs e
front-of_all (suc n) frame least [] rs short e =
    front_none frame [] least (record_at frame least []) _ (λ x h. absurd (let k = record_at-shorter frame least [] x h in omega arith)) ∙ all_is [] rs e
front-of_all (suc n) frame least (b ∷ bytes) rs short e =
    front_of (length (b ∷ bytes)) (record_at frame least (b ∷ bytes)) _ _ rs (λ x others h more. front-of_all n frame (x.0.offset + 1) x.1 others (let k = record_at-shorter frame least (b ∷ bytes) x h in omega arith) more) e
