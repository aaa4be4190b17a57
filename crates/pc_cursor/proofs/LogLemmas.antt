-- Reading the batches of a log one after the other.
use Rattle.std.proofs.Common.{◌≡◌, ℕ, zero, suc, ◌+◌, ◌-◌, ◌<◌, ◌≤◌, Bool, true, false, cond, leb, List, [], ◌∷◌, ◌++◌, length, Option, Some, None, Result, Ok, Err, refl, sym, ap, subst, ◌∙◌, append_assoc, arith}
use Rattle.std.proofs.lemmas.List.{append-nil, length-append}
use Rattle.std.proofs.lemmas.List.Concat.{flat_map-cons}
use Rattle.std.specs.Result.{result_err}
use Rattle.pc_bytes.specs.Fields.{◌>>=◌}
use Rattle.pc_bytes.proofs.VarintLaws.{bind_ok}
use Rattle.pc_batch.specs.declared.fault.BatchFault.{BatchFault}
use Rattle.pc_batch.specs.Batch.{Placed, IsBatchAt, batch_from, batch_fault, given_by}
use Rattle.pc_batch.proofs.BatchLaws.{batch_from-takes}
use Rattle.pc_cursor.specs.declared.fault.LogFault.{LogFault}
use Rattle.pc_cursor.specs.declared.entry.Entry.{Entry}
use Rattle.pc_cursor.specs.Log.{told_at, above_of, next_batch, batches_at, all_batches, records_of, contents_of}
use Rattle.pc_cursor.specs.Entries.{entries_from}
use Rattle.pc_cursor.proofs.BatchFacts.{given-few}

err_of : (r : Result Placed BatchFault) (f : BatchFault) → result_err r ≡ Some f → r ≡ Err f
err_of (Ok b) f e = absurd cc
err_of (Err g) f e = ap (λ (h : BatchFault). Err h) (same g f e)
  where
    same : (a b : BatchFault) → ◌≡◌ {A = Option BatchFault} (Some a) (Some b) → a ≡ b
    same a b e = cc

pub batch_from-fault : (log : List ℕ) (at : ℕ) (f : BatchFault) → batch_fault log at ≡ Some f
    → batch_from log at ≡ Err f
unfolding batch_fault
batch_from-fault log at f e = err_of (batch_from log at) f e

-- ---- the next batch

abbrev done : {A : Type 0} → A → Result A LogFault
done x = Ok x

pub ok_is : {A : Type 0} (x y : A) → done x ≡ done y → x ≡ y
ok_is x y e = cc

-- a batch that is above the one before it
pub above-ok : (place : ℕ) (before : Option ℕ) (b x : Placed) → above_of place before b ≡ Ok x
    → b ≡ x
above-ok place None b x e = ok_is b x e
above-ok place (Some last) b x e = by_test (leb b.contents.base last) _ e
  where
    by_test : (t : Bool) (f : LogFault) → ◌≡◌ {A =
        Result Placed LogFault} (cond t (Err f) (Ok b)) (Ok x) → b ≡ x
    by_test true f e = absurd cc
    by_test false f e = ok_is b x e

told-ok : (place : ℕ) (r : Result Placed BatchFault) (x : Placed) → told_at place r ≡ Ok x
    → r ≡ Ok x
told-ok place (Ok b) x e = ap (λ (y : Placed). Ok y) (ok_is b x e)
told-ok place (Err f) x e = absurd cc

-- the next batch is a batch of the log
pub next-is : (log : List ℕ) (place : ℕ) (before : Option ℕ) (b : Placed)
    → next_batch log place before ≡ Ok b → IsBatchAt log place b
next-is log place before b e =
    let a = bind_ok (told_at place (batch_from log place)) (above_of place before) b e in
    let same = above-ok place before a.0 b a.2 in
    subst (IsBatchAt log place) same (batch_from-takes log place a.0
    (told-ok place (batch_from log place) a.0 a.1))

-- and it ends further on
pub next-moves : (log : List ℕ) (place : ℕ) (before : Option ℕ) (b : Placed)
    → next_batch log place before ≡ Ok b → place < b.end
next-moves log place before b e =
    let is = next-is log place before b e in
    let long = is.is_batch.whole in
    omega (arith, is.ends)

-- ---- the walk over a log

-- what was read before, and what is still read
abbrev pub joined : List Placed → Result (List Placed) LogFault → Result (List Placed) LogFault
joined front r = r >>= λ others. Ok (front ++ others)

-- the place after batches of which the first begins at a place
abbrev pub end_of : ℕ → List Placed → ℕ
end_of place [] = place
end_of place (b ∷ bs) = end_of b.end bs

-- how many records batches give
abbrev pub count_of : List Placed → ℕ
count_of bs = length (records_of (contents_of bs))

pub count_of-cons : (b : Placed) (bs : List Placed)
    → count_of (b ∷ bs) ≡ length (given_by b.contents) + count_of bs
count_of-cons b bs = ap length (flat_map-cons given_by b.contents (contents_of bs))
    ∙ length-append (given_by b.contents) (records_of (contents_of bs))

count_of-push : (front : List Placed) (b : Placed)
    → count_of (front ++ b ∷ []) ≡ count_of front + length (given_by b.contents)
count_of-push [] b = count_of-cons b [] ∙ (let e : length (given_by b.contents) + 0
    ≡ 0 + length (given_by b.contents) = omega arith in e)
count_of-push (f ∷ front) b =
    let one = count_of-cons f (front ++ b ∷ []) in
    let two = count_of-cons f front in
    let more = count_of-push front b in
    omega (arith, one, two, more)

entries_from-push : (place before : ℕ) (front : List Placed) (b : Placed)
    → entries_from place before (front ++ b ∷ [])
    ≡ entries_from place before front ++ record {
      place = end_of place front;
      base =
          b.contents.base;
      last = b.contents.last;
      before = before + count_of front;
    } ∷ []
entries_from-push place before [] b =
    let e : before ≡ before + 0 = omega arith in ap
    (λ (n : ℕ). record {
      place = place;
      base = b.contents.base;
      last = b.contents.last;
      before =
          n;
    } ∷ []) e
entries_from-push place before (f ∷ front) b =
    let e : before + length (given_by f.contents) + count_of front ≡ before + count_of (f ∷ front) =
    omega (arith, count_of-cons f front) in
    ap (λ (l : List Entry). record {
      place = place;
      base = f.contents.base;
      last = f.contents.last;
      before = before;
    } ∷ l)
    (entries_from-push f.end (before + length (given_by f.contents)) front b
    ∙ ap (λ (n : ℕ). entries_from f.end (before + length (given_by f.contents)) front
    ++ record {
      place = end_of f.end front;
      base = b.contents.base;
      last = b.contents.last;
      before = n;
    } ∷ []) e)

end_of-push : (place : ℕ) (front : List Placed) (b : Placed)
    → end_of place (front ++ b ∷ []) ≡ b.end
end_of-push place [] b = refl
end_of-push place (f ∷ front) b = end_of-push f.end front b

-- the batches that were read, of which entries are kept
pub record Walks (log : List ℕ) (entries : List Entry) (place : ℕ) (before : Option ℕ)
    (records : ℕ) : Type 0 where
  pub front : List Placed
  pub turns : ℕ
  pub enough : length log ≤ turns + place
  pub told : joined front (batches_at turns log place before) ≡ all_batches log
  pub kept : entries ≡ entries_from 0 0 front
  pub ends : end_of 0 front ≡ place
  pub counted : records ≡ count_of front
  pub few : records ≤ place

pub walk-none : (log : List ℕ) → Walks log [] 0 None 0
walk-none log = record {
  front = [];
  turns = length log;
  enough = omega arith;
  told =
      whole (all_batches log);
  kept = refl;
  ends = refl;
  counted = refl;
  few = omega arith;
}
  where
    whole : (r : Result (List Placed) LogFault) → joined [] r ≡ r
    whole (Ok bs) = refl
    whole (Err f) = refl

joined-one : (front : List Placed) (b : Placed) (r : Result (List Placed) LogFault)
    → joined front (r >>= λ others. Ok (b ∷ others)) ≡ joined (front ++ b ∷ []) r
joined-one front b (Ok others) = ap (λ (l : List Placed). Ok l)
    (sym (append_assoc front (b ∷ []) others))
joined-one front b (Err f) = refl

pub batches-step : (n : ℕ) (log : List ℕ) (place : ℕ) (before : Option ℕ) → place < length log
    → batches_at (suc n) log place before ≡ (next_batch log place before >>= λ first. batches_at n
    log first.end (Some first.contents.last) >>= λ others. Ok (first ∷ others))
unfolding batches_at
batches-step n log place before lt = let more : leb (length log) place ≡ false =
    grind (arith, lt) in rw more refl

-- one batch more
pub walk-more : (log : List ℕ) (entries : List Entry) (place : ℕ) (before : Option ℕ) (records : ℕ)
    (b : Placed) → Walks log entries place before records → place < length log
    → next_batch log place before ≡ Ok b
    → Walks log (entries ++ record {
      place = place;
      base = b.contents.base;
      last = b.contents.last;
      before = records;
    } ∷ []) b.end (Some b.contents.last)
    (records + length (given_by b.contents))
walk-more log entries place before records b w lt e =
    let moves = next-moves log place before b e in
    let n = w.turns - 1 in
    let counted : w.turns ≡ suc n = omega (arith, w.enough) in
    let one : batches_at w.turns log place before ≡
    (batches_at n log b.end (Some b.contents.last) >>= λ others. Ok (b ∷ others)) =
    ap (λ (t : ℕ). batches_at t log place before) counted ∙ batches-step n log place before lt
    ∙ ap (λ (r : Result Placed LogFault). r >>= λ first. batches_at n log first.end
    (Some first.contents.last) >>= λ others. Ok (first ∷ others)) e in
    record {
      front = w.front ++ b ∷ [];
      turns = n;
      enough = omega (arith, w.enough, counted, moves);
      told = sym (joined-one w.front b (batches_at n log b.end (Some b.contents.last)))
          ∙ ap (joined w.front) (sym one) ∙ w.told;
      kept = ap (λ (l : List Entry). l ++ record {
        place = place;
        base = b.contents.base;
        last =
            b.contents.last;
        before = records;
      } ∷ []) w.kept
          ∙ ap (λ (p : ℕ). entries_from 0 0 w.front
          ++ record {
            place = p;
            base = b.contents.base;
            last = b.contents.last;
            before =
                records;
          } ∷ []) (sym w.ends)
          ∙ ap (λ (m : ℕ). entries_from 0 0 w.front
          ++ record {
            place = end_of 0 w.front;
            base = b.contents.base;
            last = b.contents.last;
            before = m;
          } ∷ []) (let e : records ≡ 0 + count_of w.front =
          omega (arith, w.counted) in e)
          ∙ sym (entries_from-push 0 0 w.front b);
      ends = end_of-push 0 w.front b;
      counted = omega (arith, w.counted, count_of-push w.front b);
      few = let m = given-few log place b (next-is log place before b e) in omega (arith, w.few, m);
    }

-- the walk ends at the first fault
pub walk-fails : (log : List ℕ) (entries : List Entry) (place : ℕ) (before : Option ℕ) (records : ℕ)
    (f : LogFault) → Walks log entries place before records → place < length log
    → next_batch log place before ≡ Err f → all_batches log ≡ Err f
walk-fails log entries place before records f w lt e =
    let n = w.turns - 1 in
    let counted : w.turns ≡ suc n = omega (arith, w.enough) in
    let one : batches_at w.turns log place before ≡ Err f =
    ap (λ (t : ℕ). batches_at t log place before) counted ∙ batches-step n log place before lt
    ∙ ap (λ (r : Result Placed LogFault). r >>= λ first. batches_at n log first.end
    (Some first.contents.last) >>= λ others. Ok (first ∷ others)) e in
    sym w.told ∙ ap (joined w.front) one

pub batches-end : (n : ℕ) (log : List ℕ) (place : ℕ) (before : Option ℕ) → length log ≤ place
    → batches_at n log place before ≡ Ok []
unfolding batches_at
batches-end zero log place before le = refl
batches-end (suc n) log place before le = let none : leb (length log) place ≡ true =
    grind (arith, le) in rw none refl

-- the walk over all
pub walk-all : (log : List ℕ) (entries : List Entry) (place : ℕ) (before : Option ℕ) (records : ℕ)
    → (w : Walks log entries place before records) → length log ≤ place
    → all_batches log ≡ Ok w.front
walk-all log entries place before records w le =
    sym w.told ∙ ap (joined w.front) (batches-end w.turns log place before le)
    ∙ ap (λ (l : List Placed). Ok l) (append-nil w.front)

-- what is left falls
pub left-falls : (len place end : ℕ) → place < len → place < end → len - end < len - place
left-falls len place end lt moves = omega arith
