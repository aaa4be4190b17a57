-- A made-up log is batches, one after the other, which give the records of its part.
use Rattle.std.proofs.Common.{◌≡◌, ◌≢◌, ℕ, zero, suc, ◌+◌, ◌-◌, ◌*◌, ◌/◌, ◌%◌, ◌<◌, ◌≤◌, ◌^◌, ℤ, pos, Bool, true, false, cond, nat_lt, Option, Some, None, IfSome, option_map, List, [], ◌∷◌, ◌++◌, length, Result, Ok, Err, FitsSigned, w64, refl, sym, ap, subst, ◌∙◌, append_assoc, length-append, lt-ltb, le-ltb, ltb-true, eq-eqb, ne_eqb, arith}
use Rattle.std.specs.Prelude.{◌-ℤ◌}
use Rattle.std.specs.List.{flat_map, list_all, AllByRecursion}
use Rattle.std.proofs.lemmas.List.{append-nil, length-replicate}
use Rattle.std.proofs.lemmas.Fmt.{length-decimal-le}
use mathlib.Core.Logic.{dite}
use native.Mathlib.Decide.{ℕ_discrete}
use Rattle.pc_model.specs.Record.{Record}
use Rattle.pc_bytes.specs.Fields.{◌>>=◌}
use Rattle.pc_bytes.specs.Varint.{zigzag_of, shortest_of}
use Rattle.pc_bytes.proofs.VarintLaws.{length-groups_of-le}
use Rattle.pc_batch.specs.Record.{fits_64}
use Rattle.pc_batch.specs.Batch.{Contents, IsBatch, given_by}
use Rattle.pc_batch_writer.specs.declared.fault.WriteFault.{WriteFault}
use Rattle.pc_batch_writer.specs.declared.fault.WriteFault.TheVariants.{OffsetsFall}
use Rattle.pc_batch_writer.specs.Writing.{sized_spelling, counted_spelling, stamps_spelling, contents_spelling, body_spelling, record_spelling, span_spelling, producer_spelling, covered_spelling, batch_spelling, offsets_from, in_range, ranged_from, near, short, written_of}
use Rattle.pc_batch_writer.specs.Generator.{key_of, value_of, record_of, batch_text, text_of, log_from, numbers_from, next_number, generated_log, records_from, AreBatches}
use Rattle.pc_batch_writer.proofs.PutLemmas.{records-le}
use Rattle.pc_batch_writer.proofs.BatchLemmas.{Fits, AllFit, batch-is}
use Rattle.pc_batch_writer.proofs.WriteLemmas.{short-ok}
use Rattle.pc_batch_writer.proofs.GeneratorLemmas.{log-other, log-full, log-waits, log-ends}

-- ---- batches, one after the other

batches-none : AreBatches [] []
batches-none = record { parts = []; each = tt; text = refl; gives = refl }

batches-more : (front back : List ℕ) (batch : Contents) (rs : List Record) → IsBatch front batch → AreBatches back rs → AreBatches (front ++ back) (given_by batch ++ rs)
batches-more front back batch rs is more = record {
  parts = (front, batch) ∷ more.parts;
  each = (is, more.each);
  text = ap (λ l. front ++ l) more.text;
  gives = ap (λ l. given_by batch ++ l) more.gives;
}

-- ---- records that wait

abbrev IsDrawn : Record → Type 0
IsDrawn r = (offset : ℕ) × (x : ℕ) × (r ≡ record_of offset x)

-- their offsets rise, and the last is of a place below i
abbrev Rising : ℕ → ℕ → List Record → Type 0
Rising part i [] = Unit {0}
Rising part i (r ∷ rs) = (last : ℕ) × (offsets_from r.offset rs ≡ Ok last) × (8 * last + part < i)

record Run (part i : ℕ) (waiting : List Record) : Type 0 where
  pub drawn : AllByRecursion IsDrawn waiting
  pub rising : Rising part i waiting

rising-later : (part i : ℕ) (waiting : List Record) → Rising part i waiting → Rising part (i + 1) waiting
rising-later part i [] h = tt
rising-later part i (r ∷ rs) h = let lt = h.2 in (h.0, h.1, omega arith)

step : (b : Bool) (a c : Result ℕ WriteFault) (f : WriteFault) (last : ℕ) → c ≡ Err f → cond b a c ≡ Ok last → (b ≡ true) × (a ≡ Ok last)
step true a c f last e h = (refl, h)
step false a c f last e h = absurd cc

ok-is : (a b : ℕ) → (let r : Result ℕ WriteFault = Ok a in r) ≡ Ok b → a ≡ b
ok-is a b e = cc

offsets-snoc : (lo last : ℕ) (rs : List Record) (r : Record) → offsets_from lo rs ≡ Ok last → last < r.offset → offsets_from lo (rs ++ r ∷ []) ≡ Ok r.offset
offsets-snoc lo last [] r e lt = let k = ok-is lo last e in let t : nat_lt lo r.offset ≡ true = lt-ltb _ _ (omega arith) in rw t refl
offsets-snoc lo last (q ∷ rs) r e lt =
    let s = step (nat_lt lo q.offset) (offsets_from q.offset rs) (Err (OffsetsFall lo q.offset)) (OffsetsFall lo q.offset) last refl e in
    let t = s.0 in rw t (offsets-snoc q.offset last rs r s.1 lt)

offsets-above : (lo last : ℕ) (rs : List Record) → offsets_from lo rs ≡ Ok last → lo ≤ last
offsets-above lo last [] e = let k = ok-is lo last e in omega arith
offsets-above lo last (r ∷ rs) e =
    let s = step (nat_lt lo r.offset) (offsets_from r.offset rs) (Err (OffsetsFall lo r.offset)) (OffsetsFall lo r.offset) last refl e in
    let up : lo < r.offset = ltb-true _ _ s.0 in let more = offsets-above r.offset last rs s.1 in omega arith

rising-more : (part i : ℕ) (waiting : List Record) (x : ℕ) → i % 8 ≡ part → Rising part i waiting → Rising part (i + 1) (waiting ++ record_of (i / 8) x ∷ [])
rising-more part i [] x own h = (i / 8, refl, omega arith)
rising-more part i (r ∷ rs) x own h = let lt = h.2 in
    (i / 8, offsets-snoc r.offset h.0 rs (record_of (i / 8) x) h.1 (omega arith), omega arith)

drawn-more : (waiting : List Record) (offset x : ℕ) → AllByRecursion IsDrawn waiting → AllByRecursion IsDrawn (waiting ++ record_of offset x ∷ [])
drawn-more [] offset x h = ((offset, x, refl), tt)
drawn-more (r ∷ rs) offset x h = (h.0, drawn-more rs offset x h.1)

-- ---- their times and sizes

near-zero : (a t : ℤ) → a ≡ pos 0 → t ≡ pos 0 → fits_64 (a -ℤ t) ≡ true
near-zero a t ea et = subst (λ (y : ℤ × ℤ). fits_64 (y.0 -ℤ y.1) ≡ true) (λ i. (sym ea i, sym et i)) refl

time-zero : (r : Record) → IsDrawn r → r.time ≡ pos 0
time-zero r d = ap (λ (q : Record). q.time) d.2

zero-fits : (z : ℤ) → z ≡ pos 0 → FitsSigned w64 z
zero-fits z e = subst (FitsSigned w64) (sym e) (record { sfits = omega arith })

all-near : (t : ℤ) (rs : List Record) → t ≡ pos 0 → AllByRecursion IsDrawn rs → list_all (λ (r : Record). fits_64 (r.time -ℤ t)) rs ≡ true
all-near t [] e h = refl
all-near t (r ∷ rs) e h = let a = near-zero r.time t (time-zero r h.0) e in rw a (all-near t rs e h.1)

shortest_of-le : (n : ℤ) → length (shortest_of n) ≤ 10
unfolding shortest_of
shortest_of-le n = length-groups_of-le 9 (zigzag_of n)

sized-size : (part : List ℕ) → length (sized_spelling part) ≤ 10 + length part
sized-size part = let a = length-append (shortest_of (pos (length part))) part in let b = shortest_of-le (pos (length part)) in omega arith

drawn-size : (base offset x : ℕ) (t : ℤ) → length (record_spelling base t (record_of offset x)) ≤ 200
drawn-size base offset x t =
    let r = record_of offset x in let key = key_of x in let value = value_of x in let body = body_spelling base t r in
    let small : x / 2 ^ 33 % 1000 < 1000 = omega arith in
    let k = length-decimal-le 3 (x / 2 ^ 33 % 1000) (omega arith) (omega arith) (omega arith) in
    let v = length-replicate (x / 2 ^ 20 % 64) (97 + x / 2 ^ 40 % 26) in let few : x / 2 ^ 20 % 64 < 64 = omega arith in
    let a = shortest_of-le (r.time -ℤ t) in let b = shortest_of-le (pos (offset - base)) in let c = shortest_of-le (pos 0) in
    let d = length-append (shortest_of (r.time -ℤ t)) (shortest_of (pos (offset - base))) in
    let e = sized-size key in let f = sized-size value in
    let g = length-append (sized_spelling value) (counted_spelling []) in let h = length-append (sized_spelling key) (sized_spelling value ++ counted_spelling []) in
    let i = length-append (stamps_spelling base t r) (contents_spelling r) in let j = sized-size body in
    let l = length-append (shortest_of (pos 0)) [] in
    omega arith

size-of : (base : ℕ) (t : ℤ) (r : Record) → IsDrawn r → length (record_spelling base t r) ≤ 200
size-of base t r d = subst (λ (q : Record). length (record_spelling base t q) ≤ 200) (sym d.2) (drawn-size base d.0 d.1 t)

sizes : (base : ℕ) (t : ℤ) (rs : List Record) → AllByRecursion IsDrawn rs → length (flat_map (record_spelling base t) rs) ≤ 200 * length rs
sizes base t [] h = omega arith
sizes base t (r ∷ rs) h =
    let a = size-of base t r h.0 in let b = sizes base t rs h.1 in let c = length-append (record_spelling base t r) (flat_map (record_spelling base t) rs) in omega arith

covered-size : (base last : ℕ) (t : ℤ) (rs : List Record) → length (covered_spelling base last t rs) ≡ 40 + length (flat_map (record_spelling base t) rs)
unfolding span_spelling producer_spelling
covered-size base last t rs = omega arith

-- ---- they make a batch

fits-run : (base last lo : ℕ) (t : ℤ) (rs : List Record) → t ≡ pos 0 → offsets_from lo rs ≡ Ok last → AllByRecursion IsDrawn rs → AllFit base last t (lo + 1) rs
fits-run base last lo t [] z e h = tt
fits-run base last lo t (r ∷ rs) z e h =
    let s = step (nat_lt lo r.offset) (offsets_from r.offset rs) (Err (OffsetsFall lo r.offset)) (OffsetsFall lo r.offset) last refl e in
    let up : lo < r.offset = ltb-true _ _ s.0 in (
      record { above = omega arith; within = offsets-above r.offset last rs s.1; near = near-zero r.time t (time-zero r h.0) z; time = zero-fits r.time (time-zero r h.0) },
      fits-run base last r.offset t rs z s.1 h.1,
    )

in_range-ok : (n : ℕ) → n ≤ 2 ^ 63 - 2 → in_range n ≡ Ok n
in_range-ok n le = let e : nat_lt (2 ^ 63 - 2) n ≡ false = le-ltb _ _ le in rw e refl

batch-of : (part i : ℕ) (r : Record) (rs : List Record) → Run part i (r ∷ rs) → length (r ∷ rs) ≤ 100 → i ≤ 2 ^ 32 → (batch : Contents) × (given_by batch ≡ r ∷ rs) × IsBatch (batch_text (r ∷ rs)) batch
batch-of part i r rs run few small =
    let base = r.offset in let t = r.time in let last = run.rising.0 in let e = run.rising.1 in let lt = run.rising.2 in let z = time-zero r run.drawn.0 in
    let covered = covered_spelling base last t (r ∷ rs) in
    let above : base ≤ last = offsets-above base last rs e in
    let below : last < 2 ^ 63 - 1 = omega arith in
    let moved : last - base < 2 ^ 31 = omega arith in
    let size = sizes base t (r ∷ rs) run.drawn in let whole = covered-size base last t (r ∷ rs) in
    let fit : 9 + length covered < 2 ^ 31 = omega arith in
    let ranged : ranged_from base rs ≡ Ok last = ap (λ (q : Result ℕ WriteFault). q >>= in_range) e ∙ in_range-ok last (omega arith) in
    let close : near t (r ∷ rs) ≡ Ok (r ∷ rs) = (let a = all-near t (r ∷ rs) z run.drawn in rw a refl) in
    let written : written_of (r ∷ rs) ≡ Ok (batch_spelling base covered) =
    ap (λ (q : Result ℕ WriteFault). q >>= λ n. near t (r ∷ rs) >>= λ ws. short base n (covered_spelling base n t ws)) ranged
    ∙ ap (λ (q : Result (List Record) WriteFault). q >>= λ ws. short base last (covered_spelling base last t ws)) close
    ∙ short-ok base last covered moved fit in
    let head : Fits base last t base r = record { above = omega arith; within = above; near = near-zero t t z z; time = zero-fits t z } in
    let is = batch-is base last t (r ∷ rs) above below moved (zero-fits t z) (head, fits-run base last base t rs z e run.drawn.1) (records-le base t (r ∷ rs)) fit in
    (record { base = base; last = last; control = false; records = r ∷ rs }, refl, subst (λ b. IsBatch b (record { base = base; last = last; control = false; records = r ∷ rs })) (sym (ap text_of written)) is)

batch-some : (part i : ℕ) (waiting : List Record) → 0 < length waiting → Run part i waiting → length waiting ≤ 100 → i ≤ 2 ^ 32 → (batch : Contents) × (given_by batch ≡ waiting) × IsBatch (batch_text waiting) batch
batch-some part i [] some run few small = absurd (omega arith)
batch-some part i (r ∷ rs) some run few small = batch-of part i r rs run few small

-- ---- the log

records-none : (part i : ℕ) → records_from part i [] ≡ []
unfolding records_from
records-none part i = refl

records-own : (part i x : ℕ) (xs : List ℕ) → i % 8 ≡ part → records_from part i (x ∷ xs) ≡ record_of (i / 8) x ∷ records_from part (i + 1) xs
unfolding records_from
records-own part i x xs own = let e = eq-eqb (i % 8) part own in rw e refl

records-other : (part i x : ℕ) (xs : List ℕ) → i % 8 ≢ part → records_from part i (x ∷ xs) ≡ records_from part (i + 1) xs
unfolding records_from
records-other part i x xs other = let e = ne_eqb (i % 8) part other in rw e refl

moved-to : (a b : List ℕ) (rs qs : List Record) → a ≡ b → rs ≡ qs → AreBatches a rs → AreBatches b qs
moved-to a b rs qs e d = subst (λ (y : List ℕ × List Record). AreBatches y.0 y.1) (λ k. (e k, d k))

log-reads : (part i : ℕ) (waiting : List Record) (xs : List ℕ) → Run part i waiting → length waiting < 100 → i + length xs ≤ 2 ^ 32 → AreBatches (log_from part i waiting xs) (waiting ++ records_from part i xs)
log-reads part i [] [] run few small = moved-to [] _ [] _ (sym (log-ends part i [])) (sym (records-none part i)) batches-none
log-reads part i (r ∷ rs) [] run few small =
    let b = batch-of part i r rs run (omega arith) (omega arith) in
    moved-to _ _ _ _ (append-nil (batch_text (r ∷ rs)) ∙ sym (log-ends part i (r ∷ rs))) (ap (λ l. l ++ []) b.1 ∙ ap (λ l. (r ∷ rs) ++ l) (sym (records-none part i)))
    (batches-more (batch_text (r ∷ rs)) [] b.0 [] b.2 batches-none)
log-reads part i waiting (x ∷ xs) run few small =
    let more : List Record = waiting ++ record_of (i / 8) x ∷ [] in let long = length-append waiting (record_of (i / 8) x ∷ []) in
    dite (ℕ_discrete (i % 8) part)
    (λ own.
    let next : Run part (i + 1) more = record { drawn = drawn-more waiting (i / 8) x run.drawn; rising = rising-more part i waiting x own run.rising } in
    let given : waiting ++ records_from part i (x ∷ xs) ≡ more ++ records_from part (i + 1) xs
    = ap (λ l. waiting ++ l) (records-own part i x xs own) ∙ sym (append_assoc waiting (record_of (i / 8) x ∷ []) (records_from part (i + 1) xs)) in
    dite (ℕ_discrete (length waiting) 99)
    (λ full.
    let b = batch-some part (i + 1) more (omega arith) next (omega arith) (omega arith) in
    moved-to _ _ _ _ (sym (log-full part i waiting x xs own full)) (ap (λ l. l ++ records_from part (i + 1) xs) b.1 ∙ sym given)
    (batches-more (batch_text more) (log_from part (i + 1) [] xs) b.0 (records_from part (i + 1) xs) b.2
    (log-reads part (i + 1) [] xs (record { drawn = tt; rising = tt }) (omega arith) (omega arith))))
    (λ part_full. moved-to _ _ _ _ (sym (log-waits part i waiting x xs own (omega arith))) (sym given) (log-reads part (i + 1) more xs next (omega arith) (omega arith))))
    (λ other. moved-to _ _ _ _ (sym (log-other part i waiting x xs other)) (ap (λ l. waiting ++ l) (sym (records-other part i x xs other)))
    (log-reads part (i + 1) waiting xs (record { drawn = run.drawn; rising = rising-later part i waiting run.rising }) few (omega arith)))

length-numbers : (n x : ℕ) → length (numbers_from n x) ≡ n
length-numbers zero x = refl
length-numbers (suc n) x = ap suc (length-numbers n (next_number x))

pub generated-reads : (seed n part : ℕ) → n < 2 ^ 32 → AreBatches (generated_log seed n part) (records_from part 0 (numbers_from n seed))
generated-reads seed n part small = let k = length-numbers n seed in
    log-reads part 0 [] (numbers_from n seed) (record { drawn = tt; rising = tt }) (omega arith) (omega arith)

pub some-reads : {V : Type 0} (items : V → List ℕ) (o : Option V) (bytes : List ℕ) (rs : List Record) → option_map items o ≡ Some bytes → AreBatches bytes rs → IfSome o (λ v. AreBatches (items v) rs)
some-reads items None bytes rs e is = tt
some-reads items (Some v) bytes rs e is = let k : bytes ≡ items v = cc in subst (λ b. AreBatches b rs) k is
