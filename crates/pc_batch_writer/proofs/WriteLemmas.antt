-- What is written, step by step, is what is due.
use Rattle.std.proofs.Common.{◌≡◌, ◌⊎◌, ℕ, zero, suc, ◌+◌, ◌-◌, ◌<◌, ◌≤◌, ◌^◌, ℤ, Bool, true, false, cond, IsTrue, nat_lt, List, [], ◌∷◌, ◌++◌, length, map, get_or, fold, Result, Ok, Err, IfOk, IfErr, OnOk, refl, sym, ap, subst, ◌∙◌, inl, inr, ⊎_elim, append_assoc, length-append, lt-ltb, le-ltb, ltb-true, ltb-false, arith}
use Rattle.std.specs.Prelude.{All, ◌-ℤ◌, ◌||◌, ◌&&◌, FitsSigned}
use Rattle.std.specs.Int.{int_max, w64}
use Rattle.std.specs.List.{flat_map, list_all}
use Rattle.std.proofs.lemmas.List.{length-map}
use Rattle.std.proofs.lemmas.List.Folds.{list_all-map}
use Rattle.std.proofs.lemmas.List.Sums.{AllPass-from_list_all}
use Rattle.pc_model.specs.Record.{Record}
use Rattle.pc_bytes.specs.Fields.{◌>>=◌}
use Rattle.pc_batch.specs.Record.{fits_64}
use Rattle.pc_batch_writer.specs.declared.fault.WriteFault.{WriteFault}
use Rattle.pc_batch_writer.specs.declared.fault.WriteFault.TheVariants.{Empty, OffsetsFall, OffsetTooLarge, TimeTooFar, TooLong, NoMemory}
use Rattle.pc_batch_writer.specs.declared.new_record.NewRecord.{NewRecord}
use Rattle.pc_batch_writer.specs.Writing.{plain_new, span_spelling, producer_spelling, covered_spelling, record_spelling, batch_spelling, greatest_of, offsets_from, in_range, ranged_from, near, short, written_of, last_of, Fails, Gives, Answers, IsNear, IsWithin}
use Rattle.pc_batch.specs.Batch.{Contents, IsBatch}
use Rattle.pc_batch_writer.specs.Writing.{contents_of}
use Rattle.pc_batch_writer.proofs.BatchLemmas.{Fits, AllFit, batch-is}
use Rattle.pc_batch_writer.proofs.PutLemmas.{Fails-more, records-le}

pub OnOk-then : {A E : Type 0} (r : Result A E) (P Q : Type 0) → (P → Q) → OnOk r P → OnOk r Q
OnOk-then (Ok x) P Q f h = f h
OnOk-then (Err e) P Q f h = tt

-- four texts one after the other
pub four-put : (old a b c new p q r s : List ℕ) → a ≡ old ++ p → b ≡ a ++ q → c ≡ b ++ r → new ≡ c ++ s → new ≡ old ++ (p ++ (q ++ (r ++ s)))
four-put old a b c new p q r s ea eb ec e =
    e ∙ ap (λ x. x ++ s) (ec ∙ ap (λ x. x ++ r) (eb ∙ ap (λ x. x ++ q) ea))
    ∙ append_assoc ((old ++ p) ++ q) r s ∙ append_assoc (old ++ p) q (r ++ s) ∙ append_assoc old p (q ++ (r ++ s))

-- three texts one after the other, from nothing on
three-put : (out a b new p q r : List ℕ) → out ≡ [] → a ≡ out ++ p → b ≡ a ++ q → new ≡ b ++ r → new ≡ p ++ (q ++ r)
three-put out a b new p q r none ea eb e =
    e ∙ ap (λ x. x ++ r) (eb ∙ ap (λ x. x ++ q) (ea ∙ ap (λ x. x ++ p) none)) ∙ append_assoc p q r

map-plain : {X : Type 0} (f : Record → X) (records : List NewRecord) → map f (map plain_new records) ≡ map (λ r. f (plain_new r)) records
map-plain f [] = refl
map-plain f (r ∷ records) = ap (λ xs. f (plain_new r) ∷ xs) (map-plain f records)

pub covered-put : (out a b new : List ℕ) (base last : ℕ) (first greatest : ℤ) (records : List NewRecord) → out ≡ [] → a ≡ out ++ span_spelling (last - base) first greatest → greatest ≡ fold int_max first (map (λ (r : NewRecord). r.time) records)
    → b ≡ a ++ producer_spelling (length records) → new ≡ b ++ flat_map (record_spelling base first) (map plain_new records) → new ≡ covered_spelling base last first (map plain_new records)
covered-put out a b new base last first greatest records none wide most many e =
    three-put out a b new _ _ _ none
    (wide ∙ ap (λ z. out ++ span_spelling (last - base) first z) (most ∙ ap (fold int_max first) (sym (map-plain (λ (r : Record). r.time) records))))
    (many ∙ ap (λ n. a ++ producer_spelling n) (sym (length-map records plain_new))) e

-- ---- lengths

records-within : (base last : ℕ) (first : ℤ) (rs : List Record) → length (flat_map (record_spelling base first) rs) ≤ length (covered_spelling base last first rs)
records-within base last first rs =
    let records = flat_map (record_spelling base first) rs in let producer = producer_spelling (length rs) in let span = span_spelling (last - base) first (greatest_of first rs) in
    let a = length-append producer records in let b = length-append span (producer ++ records) in omega arith

pub covered-fails : (fault : WriteFault) (base last : ℕ) (first : ℤ) (rs : List Record) → Fails (length (flat_map (record_spelling base first) rs)) fault → Fails (length (covered_spelling base last first rs)) fault
covered-fails fault base last first rs h = Fails-more fault _ _ (records-within base last first rs) h

pub covered-many : (base last : ℕ) (first : ℤ) (records : List NewRecord) → 2 ^ 31 ≤ length records → 2 ^ 31 ≤ length (covered_spelling base last first (map plain_new records))
covered-many base last first records many =
    let rs = map plain_new records in let a = records-within base last first rs in let b = records-le base first rs in let c = length-map records plain_new in omega arith

-- ---- the last step

short-far : (base last : ℕ) (covered : List ℕ) → 2 ^ 31 ≤ last - base → short base last covered ≡ Err TooLong
short-far base last covered far = let e : nat_lt (2 ^ 31 - 1) (last - base) ≡ true = lt-ltb _ _ (omega arith) in rw e refl

long-if : (a b : Bool) (text : List ℕ) → b ≡ true → (let due : Result (List ℕ) WriteFault = cond (a || b) (Err TooLong) (Ok text) in due) ≡ Err TooLong
long-if true b text e = refl
long-if false true text e = refl
long-if false false text e = absurd cc

short-long : (base last : ℕ) (covered : List ℕ) → 2 ^ 31 ≤ 9 + length covered → short base last covered ≡ Err TooLong
short-long base last covered long = long-if (nat_lt (2 ^ 31 - 1) (last - base)) (nat_lt (2 ^ 31 - 1) (9 + length covered)) (batch_spelling base covered) (lt-ltb _ _ (omega arith))

pub short-ok : (base last : ℕ) (covered : List ℕ) → last - base < 2 ^ 31 → 9 + length covered < 2 ^ 31 → short base last covered ≡ Ok (batch_spelling base covered)
short-ok base last covered close few =
    let a : nat_lt (2 ^ 31 - 1) (last - base) ≡ false = le-ltb _ _ (omega arith) in let b : nat_lt (2 ^ 31 - 1) (9 + length covered) ≡ false = le-ltb _ _ (omega arith) in rw (a, b) refl

-- the bytes that are covered were too many by themselves, or memory ran out
short-fails : {V : Type 0} (items : V → List ℕ) (fault : WriteFault) (base last : ℕ) (covered : List ℕ) → Fails (length covered) fault → Answers items (short base last covered) (Err fault)
short-fails items Empty base last covered h = absurd h
short-fails items (OffsetsFall a b) base last covered h = absurd h
short-fails items OffsetTooLarge base last covered h = absurd h
short-fails items TimeTooFar base last covered h = absurd h
short-fails items TooLong base last covered h = inr (short-long base last covered (omega arith))
short-fails items NoMemory base last covered h = inl refl

short-gives : {V : Type 0} (items : V → List ℕ) (r : Result V WriteFault) (base last : ℕ) (made covered : List ℕ) → made ≡ covered → last - base < 2 ^ 31
    → Gives items (9 + length made) (batch_spelling base made) r → IfOk r (λ _. 9 + length made < 2 ^ 31) → Answers items (short base last covered) r
short-gives items (Ok v) base last made covered e near h few = subst (λ c. short base last c ≡ Ok (items v)) e (short-ok base last made near few ∙ ap (λ t. Ok t) (sym h))
short-gives items (Err Empty) base last made covered e near h few = absurd h
short-gives items (Err (OffsetsFall a b)) base last made covered e near h few = absurd h
short-gives items (Err OffsetTooLarge) base last made covered e near h few = absurd h
short-gives items (Err TimeTooFar) base last made covered e near h few = absurd h
short-gives items (Err TooLong) base last made covered e near h few = inr (subst (λ c. short base last c ≡ Err TooLong) e (short-long base last made h))
short-gives items (Err NoMemory) base last made covered e near h few = inl refl

within-near : (base last : ℕ) (first : ℤ) (records : List NewRecord) → last < base + 2 ^ 31 → All (IsWithin base last first) records → All (IsNear base first) records
within-near base last first records near all k d lt = let w = all k d lt in let a = w.within in record { above = w.above; moved = omega arith; time = w.time }

-- ---- the offsets

pub record Rises (first last : ℕ) (rest : List NewRecord) : Type 0 where
  pub above : first ≤ last
  pub each : (k : ℕ) (d : NewRecord) → k < length rest → (first ≤ (get_or rest k d).offset) × ((get_or rest k d).offset ≤ last)

step : (b : Bool) (a c : Result ℕ WriteFault) (f : WriteFault) (last : ℕ) → c ≡ Err f → cond b a c ≡ Ok last → (b ≡ true) × (a ≡ Ok last)
step true a c f last e h = (refl, h)
step false a c f last e h = absurd cc

rises-each : (first last : ℕ) (r : NewRecord) (rest : List NewRecord) → first < r.offset → r.offset ≤ last
    → ((k : ℕ) (d : NewRecord) → k < length rest → (r.offset ≤ (get_or rest k d).offset) × ((get_or rest k d).offset ≤ last))
    → (k : ℕ) (d : NewRecord) → k < length (r ∷ rest) → (first ≤ (get_or (r ∷ rest) k d).offset) × ((get_or (r ∷ rest) k d).offset ≤ last)
rises-each first last r rest up top more zero d lt = (omega arith, top)
rises-each first last r rest up top more (suc k) d lt = let m = more k d (omega arith) in let a = m.0 in (omega arith, m.1)

pub rises : (first last : ℕ) (rest : List NewRecord) → offsets_from first (map plain_new rest) ≡ Ok last → Rises first last rest
rises first last [] e = let k : first ≡ last = cc in record { above = omega arith; each = λ i d lt. absurd (omega arith) }
rises first last (r ∷ rest) e =
    let s = step (nat_lt first r.offset) (offsets_from r.offset (map plain_new rest)) (Err (OffsetsFall first r.offset)) (OffsetsFall first r.offset) last refl e in
    let up : first < r.offset = ltb-true _ _ s.0 in
    let more = rises r.offset last rest s.1 in let top = more.above in
    record { above = omega arith; each = rises-each first last r rest up top more.each }

ranged-is : (r : Result ℕ WriteFault) (last : ℕ) → (r >>= in_range) ≡ Ok last → (r ≡ Ok last) × (last < 2 ^ 63 - 1)
ranged-is (Ok n) last e = in_range-is (nat_lt (2 ^ 63 - 2) n) n last refl e
  where
    in_range-is : (b : Bool) (n last : ℕ) → nat_lt (2 ^ 63 - 2) n ≡ b → (let due : Result ℕ WriteFault = cond b (Err OffsetTooLarge) (Ok n) in due) ≡ Ok last → ((let due : Result ℕ WriteFault = Ok n in due) ≡ Ok last) × (last < 2 ^ 63 - 1)
    in_range-is true n last t e = absurd cc
    in_range-is false n last t e = let le : n ≤ 2 ^ 63 - 2 = ltb-false _ _ t in let k : n ≡ last = cc in (e, omega arith)
ranged-is (Err f) last e = absurd cc

last_of-ends : (lo last : ℕ) (rs : List Record) → offsets_from lo rs ≡ Ok last → last_of lo rs ≡ last
last_of-ends lo last [] e = cc
last_of-ends lo last (r ∷ rs) e = last_of-ends r.offset last rs (step (nat_lt lo r.offset) (offsets_from r.offset rs) (Err (OffsetsFall lo r.offset)) (OffsetsFall lo r.offset) last refl e).1

and-true : (a b : Bool) → (a && b) ≡ true → (a ≡ true) × (b ≡ true)
and-true true b e = (refl, e)
and-true false b e = absurd cc

-- the records after one fit the batch
fit-rest : (base last : ℕ) (first : ℤ) (lo : ℕ) (rest : List NewRecord) → offsets_from lo (map plain_new rest) ≡ Ok last → list_all (λ (r : NewRecord). fits_64 (r.time -ℤ first)) rest ≡ true
    → All (λ (r : NewRecord). FitsSigned w64 r.time) rest → AllFit base last first (lo + 1) (map plain_new rest)
fit-rest base last first lo [] e near times = tt
fit-rest base last first lo (r ∷ rest) e near times =
    let s = step (nat_lt lo r.offset) (offsets_from r.offset (map plain_new rest)) (Err (OffsetsFall lo r.offset)) (OffsetsFall lo r.offset) last refl e in
    let up : lo < r.offset = ltb-true _ _ s.0 in let split = and-true (fits_64 (r.time -ℤ first)) _ near in (
      record { above = omega arith; within = (rises r.offset last rest s.1).above; near = split.0; time = times 0 r (omega arith) },
      fit-rest base last first r.offset rest s.1 split.1 (λ k d lt. times (suc k) d (omega arith)),
    )

long-takes : (a b : Bool) (text made : List ℕ) → (let due : Result (List ℕ) WriteFault = cond (a || b) (Err TooLong) (Ok text) in due) ≡ Ok made → (a ≡ false) × (b ≡ false) × (text ≡ made)
long-takes true b text made e = absurd cc
long-takes false true text made e = absurd cc
long-takes false false text made e = (refl, refl, cc)

-- a batch that is short enough has short fields
short-takes : (base last : ℕ) (covered made : List ℕ) → short base last covered ≡ Ok made → (last - base < 2 ^ 31) × (9 + length covered < 2 ^ 31) × (batch_spelling base covered ≡ made)
short-takes base last covered made e =
    let t = long-takes (nat_lt (2 ^ 31 - 1) (last - base)) (nat_lt (2 ^ 31 - 1) (9 + length covered)) (batch_spelling base covered) made e in
    let a : last - base ≤ 2 ^ 31 - 1 = ltb-false _ _ t.0 in let b : 9 + length covered ≤ 2 ^ 31 - 1 = ltb-false _ _ t.1 in
    (omega arith, omega arith, t.2)

-- ---- the whole

module _ (records : List NewRecord) (first : NewRecord) (rest : List NewRecord) (last : ℕ) (all : records ≡ first ∷ rest) (ranged : ranged_from first.offset (map plain_new rest) ≡ Ok last) where
  pub batch-above : first.offset ≤ last
  batch-above = (rises first.offset last rest (ranged-is (offsets_from first.offset (map plain_new rest)) last ranged).0).above

  batch-below : last < 2 ^ 63 - 1
  batch-below = (ranged-is (offsets_from first.offset (map plain_new rest)) last ranged).1

  near-same : list_all (λ (r : Record). fits_64 (r.time -ℤ first.time)) (map plain_new records) ≡ list_all (λ (r : NewRecord). fits_64 (r.time -ℤ first.time)) records
  near-same = list_all-map (λ (r : Record). fits_64 (r.time -ℤ first.time)) plain_new records

  due-then : written_of (map plain_new records) ≡ (near first.time (map plain_new records) >>= λ rs. short first.offset last (covered_spelling first.offset last first.time rs))
  due-then = ap (λ rs. written_of (map plain_new rs)) all
      ∙ ap (λ (r : Result ℕ WriteFault). r >>= λ n. near first.time (map plain_new (first ∷ rest)) >>= λ rs. short first.offset n (covered_spelling first.offset n first.time rs)) ranged
      ∙ ap (λ rs. near first.time (map plain_new rs) >>= λ rs. short first.offset last (covered_spelling first.offset last first.time rs)) (sym all)

  -- a time is too far from the first
  pub due-far : list_all (λ (r : NewRecord). fits_64 (r.time -ℤ first.time)) records ≡ false → written_of (map plain_new records) ≡ Err TimeTooFar
  due-far far = due-then ∙ (let e = near-same ∙ far in rw e refl)

  -- no time is
  due-near : list_all (λ (r : NewRecord). fits_64 (r.time -ℤ first.time)) records ≡ true → written_of (map plain_new records) ≡ short first.offset last (covered_spelling first.offset last first.time (map plain_new records))
  due-near near = due-then ∙ (let e = near-same ∙ near in rw e refl)

  -- each record is within the batch
  pub batch-within : list_all (λ (r : NewRecord). fits_64 (r.time -ℤ first.time)) records ≡ true → All (IsWithin first.offset last first.time) records
  batch-within near k d lt =
      let at : IsTrue (fits_64 ((get_or records k d).time -ℤ first.time)) = AllPass-from_list_all (λ (r : NewRecord). fits_64 (r.time -ℤ first.time)) records near k d lt in
      let r = rises first.offset last rest (ranged-is (offsets_from first.offset (map plain_new rest)) last ranged).0 in
      let both : (first.offset ≤ (get_or records k d).offset) × ((get_or records k d).offset ≤ last) =
      subst (λ (l : List NewRecord). k < length l → (first.offset ≤ (get_or l k d).offset) × ((get_or l k d).offset ≤ last)) (sym all) (within-all first.offset last first rest refl r k d) lt in
      record { above = both.0; within = both.1; time = at }
    where
      within-all : (least last : ℕ) (r : NewRecord) (rest : List NewRecord) → r.offset ≡ least → Rises least last rest → (k : ℕ) (d : NewRecord) → k < length (r ∷ rest)
          → (least ≤ (get_or (r ∷ rest) k d).offset) × ((get_or (r ∷ rest) k d).offset ≤ last)
      within-all least last r rest is rises zero d lt = let a = rises.above in (omega arith, omega arith)
      within-all least last r rest is rises (suc k) d lt = rises.each k d (omega arith)

  -- what the last step answered is what is due
  pub due-ok : {V : Type 0} (items : V → List ℕ) (r : Result V WriteFault) → list_all (λ (r : NewRecord). fits_64 (r.time -ℤ first.time)) records ≡ true
      → Answers items (short first.offset last (covered_spelling first.offset last first.time (map plain_new records))) r → IfOk r (λ v. written_of (map plain_new records) ≡ Ok (items v))
  due-ok items (Ok v) near h = due-near near ∙ h
  due-ok items (Err f) near h = tt

  pub due-err : {V : Type 0} (items : V → List ℕ) (r : Result V WriteFault) → list_all (λ (r : NewRecord). fits_64 (r.time -ℤ first.time)) records ≡ true
      → Answers items (short first.offset last (covered_spelling first.offset last first.time (map plain_new records))) r → IfErr r (λ f. (f ≡ NoMemory) ⊎ (written_of (map plain_new records) ≡ Err f))
  due-err items (Ok v) near h = tt
  due-err items (Err f) near h = ⊎_elim (λ x. inl x) (λ x. inr (due-near near ∙ x)) h

  -- what is written is a batch of the records
  pub due-batch : {V : Type 0} (items : V → List ℕ) (r : Result V WriteFault) → list_all (λ (r : NewRecord). fits_64 (r.time -ℤ first.time)) records ≡ true
      → Answers items (short first.offset last (covered_spelling first.offset last first.time (map plain_new records))) r → FitsSigned w64 first.time → OnOk r (All (λ (r : NewRecord). FitsSigned w64 r.time) records)
      → IfOk r (λ v. IsBatch (items v) (contents_of (map plain_new records)))
  due-batch items (Ok v) near h time times =
      let covered = covered_spelling first.offset last first.time (map plain_new records) in
      let inside = short-takes first.offset last covered (items v) h in
      let rising = (ranged-is (offsets_from first.offset (map plain_new rest)) last ranged).0 in
      let rs : map plain_new records ≡ plain_new first ∷ map plain_new rest = ap (map plain_new) all in
      let contents : (let c : Contents = record { base = first.offset; last = last; control = false; records = map plain_new records } in c) ≡ contents_of (map plain_new records)
      = ap (λ (l : List Record). record { base = first.offset; last = last; control = false; records = l }) rs
      ∙ ap (λ (n : ℕ). record { base = first.offset; last = n; control = false; records = plain_new first ∷ map plain_new rest }) (sym (last_of-ends first.offset last (map plain_new rest) rising))
      ∙ ap contents_of (sym rs) in
      let near' : list_all (λ (r : NewRecord). fits_64 (r.time -ℤ first.time)) (first ∷ rest) ≡ true = ap (list_all (λ (r : NewRecord). fits_64 (r.time -ℤ first.time))) (sym all) ∙ near in
      let times' : All (λ (r : NewRecord). FitsSigned w64 r.time) (first ∷ rest) = subst (All (λ (r : NewRecord). FitsSigned w64 r.time)) all times in
      let split = and-true (fits_64 (first.time -ℤ first.time)) _ near' in
      let head : Fits first.offset last first.time first.offset (plain_new first) = record { above = omega arith; within = batch-above; near = split.0; time = time } in
      let tail = fit-rest first.offset last first.time first.offset rest rising split.1 (λ k d lt. times' (suc k) d (omega arith)) in
      let fit : AllFit first.offset last first.time first.offset (map plain_new records) = subst (AllFit first.offset last first.time first.offset) (sym rs) (head, tail) in
      subst (λ (y : List ℕ × Contents). IsBatch y.0 y.1) (λ i. (inside.2 i, contents i))
      (batch-is first.offset last first.time (map plain_new records) batch-above batch-below inside.0 time fit (records-le first.offset first.time (map plain_new records)) inside.1)
  due-batch items (Err f) near h time times = tt
