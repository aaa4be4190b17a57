-- What the entries of a checked log tell: where to seek an offset, and which batch is the last.
use Rattle.std.proofs.Common.{◌≡◌, ℕ, zero, suc, ◌+◌, ◌-◌, ◌<◌, ◌≤◌, Bool, true, false, cond, leb, ltb, eqb, get_or, List, [], ◌∷◌, ◌++◌, length, Option, Some, None, Ok, refl, sym, ap, subst, ◌∙◌, arith}
use Rattle.std.specs.Prelude.{find, is_some, slice_get, map, option_map}
use Rattle.std.specs.List.{AllWithin, last_or}
use Rattle.std.specs.List.Sorted.{IsNonDecreasingBy, IsPartitionedBy}
use Rattle.std.specs.Iterator.{Drains, YieldsFirstBy}
use Rattle.std.proofs.lemmas.Iterator.Consumers.{YieldsList-from_first, YieldsList-end}
use Rattle.std.proofs.lemmas.List.Sorted.{IsPartitionedBy-ltb}
use Rattle.std.proofs.lemmas.Bool.{leb-true, leb-false, ltb-true, ltb-false, le-leb}
use Rattle.std.proofs.lemmas.List.{append-nil, length-append}
use Rattle.std.proofs.lemmas.List.Concat.{flat_map-cons}
use Rattle.std.proofs.lemmas.List.Elements.{filter-append}
use Rattle.pc_model.specs.Record.{Record}
use Rattle.pc_model.specs.Given.{rises_from}
use Rattle.pc_batch.specs.declared.record.RecordRef.{RecordRef}
use Rattle.pc_batch.specs.Record.{plain}
use Rattle.pc_batch.specs.Batch.{Placed, batch_from, given_by}
use Rattle.pc_batch.proofs.BatchLaws.{batch_from-again}
use Rattle.pc_cursor.specs.declared.entry.Entry.{Entry}
use Rattle.pc_cursor.specs.Entries.{entries_from, IsIndex}
use Rattle.pc_cursor.specs.Log.{contents_of, records_of, batches_of, all_records}
use Rattle.pc_cursor.specs.Cursor.{not_below, records_from}
use Rattle.pc_cursor.proofs.BatchFacts.{given-below, and-left, and-right}
use Rattle.pc_cursor.proofs.CursorLemmas.{front-past}
use Rattle.pc_cursor.proofs.LogLemmas.{next-is, count_of, count_of-cons}
use Rattle.pc_cursor.proofs.LogLaws.{next-above}
use Rattle.pc_cursor.proofs.Standing.{Stand, stand-records, checked-stand}

-- ---- the entries in order

lasts-above : (bs : List Placed) (log : List ℕ) (place last n : ℕ) → Stand log place (Some last) bs
    → (j : ℕ) (d : Entry) → j < length (entries_from place n bs)
    → last < (get_or (entries_from place n bs) j d).last
lasts-above [] log place last n s j d lt = absurd (omega arith)
lasts-above (b ∷ bs) log place last n s zero d lt =
    let is = next-is log place (Some last) b s.0 in
    let above : last < b.contents.base = next-above log place (Some last) b s.0 in
    omega (arith, is.is_batch.is_last)
lasts-above (b ∷ bs) log place last n s (suc j) d lt =
    let is = next-is log place (Some last) b s.0 in
    let above : last < b.contents.base = next-above log place (Some last) b s.0 in
    let rest = lasts-above bs log b.end b.contents.last (n + length (given_by b.contents)) s.1 j d
    (omega arith) in
    omega (arith, is.is_batch.is_last, rest)

-- the last offsets rise
lasts-rise : (bs : List Placed) (log : List ℕ) (place : ℕ) (before : Option ℕ) (n : ℕ)
    → Stand log place before bs → IsNonDecreasingBy (λ (e : Entry). e.last)
    (entries_from place n bs)
lasts-rise [] log place before n s i j d le lt = absurd (omega arith)
lasts-rise (b ∷ bs) log place before n s zero zero d le lt = omega arith
lasts-rise (b ∷ bs) log place before n s zero (suc j) d le lt = let h =
    lasts-above bs log b.end b.contents.last (n + length (given_by b.contents)) s.1 j d
    (omega arith) in omega (arith, h)
lasts-rise (b ∷ bs) log place before n s (suc i) zero d le lt = absurd (omega arith)
lasts-rise (b ∷ bs) log place before n s (suc i) (suc j) d le lt =
    lasts-rise bs log b.end (Some b.contents.last) (n + length (given_by b.contents)) s.1 i j d
    (omega arith) (omega arith)

befores-above : (bs : List Placed) (place n : ℕ) (j : ℕ) (d : Entry)
    → j < length (entries_from place n bs) → n ≤ (get_or (entries_from place n bs) j d).before
befores-above [] place n j d lt = absurd (omega arith)
befores-above (b ∷ bs) place n zero d lt = omega arith
befores-above (b ∷ bs) place n (suc j) d lt = let h =
    befores-above bs b.end (n + length (given_by b.contents)) j d (omega arith) in omega (arith, h)

-- the numbers of records before them do not fall
befores-rise : (bs : List Placed) (place n : ℕ)
    → IsNonDecreasingBy (λ (e : Entry). e.before) (entries_from place n bs)
befores-rise [] place n i j d le lt = absurd (omega arith)
befores-rise (b ∷ bs) place n zero zero d le lt = omega arith
befores-rise (b ∷ bs) place n zero (suc j) d le lt = let h =
    befores-above bs b.end (n + length (given_by b.contents)) j d (omega arith) in omega (arith, h)
befores-rise (b ∷ bs) place n (suc i) zero d le lt = absurd (omega arith)
befores-rise (b ∷ bs) place n (suc i) (suc j) d le lt =
    befores-rise bs b.end (n + length (given_by b.contents)) i j d (omega arith) (omega arith)

-- ---- where to seek an offset

-- the place of an entry, or the end of the log
abbrev pub place_at : List ℕ → Option Entry → ℕ
place_at log None = length log
place_at log (Some e) = e.place

-- the batches that are passed over have no record that is not below
seek-skips : (bs : List Placed) (p : ℕ) (log : List ℕ) (place : ℕ) (before : Option ℕ)
    (n offset : ℕ) → Stand log place before bs
    → AllWithin (λ (e : Entry). ltb e.last offset ≡ true) (entries_from place n bs) 0 p
    → not_below offset (records_from log (place_at log (slice_get (entries_from place n bs) p)))
    ≡ not_below offset (records_of (contents_of bs))
seek-skips [] p log place before n offset s all = ap (not_below offset)
    (front-past (length log) log (length log) (omega arith))
seek-skips (b ∷ bs) zero log place before n offset s all =
    ap (not_below offset) (stand-records (b ∷ bs) log place before s)
seek-skips (b ∷ bs) (suc p) log place before n offset s all =
    let is = next-is log place before b s.0 in
    let none = given-below is.text b.contents offset is.is_batch
    (ltb-true b.contents.last offset (all 0 (record {
      place = 0;
      base = 0;
      last = 0;
      before =
          0;
    }) (omega arith) (omega arith))) in
    let more = seek-skips bs p log b.end (Some b.contents.last)
    (n + length (given_by b.contents)) offset s.1
    (λ k d low high. all (suc k) d (omega arith) (omega arith)) in
    more
    ∙ ap (λ (l : List Record). l ++ not_below offset (records_of (contents_of bs))) (sym none)
    ∙ sym (filter-append (λ (r : Record). leb offset r.offset) (given_by b.contents)
    (records_of (contents_of bs)))
    ∙ ap (not_below offset) (sym (flat_map-cons given_by b.contents (contents_of bs)))

-- ---- which batch is the last that has a record

-- the batch at a place gives the last of the records
pub record HasLast (log : List ℕ) (place : ℕ) (records : List Record) : Type 0 where
  pub batch : Placed
  pub read : batch_from log place ≡ Ok batch
  pub same : slice_get (given_by batch.contents) (length (given_by batch.contents) - 1)
      ≡ slice_get records (length records - 1)

get-behind : (xs ys : List Record) → 0 < length ys
    → slice_get (xs ++ ys) (length (xs ++ ys) - 1) ≡ slice_get ys (length ys - 1)
get-behind xs ys some =
    let e : length (xs ++ ys) - 1 ≡ length xs + (length ys - 1) =
    omega (arith, length-append xs ys) in
    ap (slice_get (xs ++ ys)) e ∙ behind xs (length ys - 1)
  where
    behind : (xs : List Record) (k : ℕ) → slice_get (xs ++ ys) (length xs + k) ≡ slice_get ys k
    behind [] k = let e : 0 + k ≡ k = omega arith in ap (slice_get ys) e
    behind (x ∷ xs) k = let e : suc (length xs) + k ≡ suc (length xs + k) = omega arith in
        ap (slice_get (x ∷ (xs ++ ys))) e ∙ behind xs k

no-records : (rs : List Record) → length rs ≤ 0 → rs ≡ []
no-records [] le = refl
no-records (r ∷ rs) le = absurd (omega arith)

-- where no batch has a record behind it, there is none
pub none-behind : (bs : List Placed) (place n total : ℕ) → total ≡ n + count_of bs
    → AllWithin (λ (e : Entry). ltb e.before total
    ≡ false) (entries_from place n bs) 0 (length (entries_from place n bs))
    → records_of (contents_of bs) ≡ []
none-behind [] place n total e all = refl
none-behind (b ∷ bs) place n total e all =
    let first = ltb-false n total (all 0 (record { place = 0; base = 0; last = 0; before = 0 })
    (omega arith) (omega arith)) in
    no-records (records_of (contents_of (b ∷ bs))) (omega arith)

last-batch : (bs : List Placed) (q : ℕ) (log : List ℕ) (place : ℕ) (before : Option ℕ)
    (n total : ℕ) (d : Entry) → Stand log place before bs → total ≡ n + count_of bs
    → AllWithin (λ (e : Entry). ltb e.before total ≡ true) (entries_from place n bs) 0 (suc q)
    → AllWithin (λ (e : Entry). ltb e.before total
    ≡ false) (entries_from place n bs) (suc q) (length (entries_from place n bs))
    → q < length (entries_from place n bs) → HasLast log
    (get_or (entries_from place n bs) q d).place (records_of (contents_of bs))
last-batch [] q log place before n total d s e below above lt = absurd (omega arith)
last-batch (b ∷ bs) zero log place before n total d s e below above lt =
    let none = none-behind bs b.end (n + length (given_by b.contents)) total
    (omega (arith, e, count_of-cons b bs)) (λ k x low high. above (suc k) x (omega arith)
    (omega arith)) in
    let same : records_of (contents_of (b ∷ bs)) ≡ given_by b.contents =
    flat_map-cons given_by b.contents (contents_of bs)
    ∙ ap (λ (l : List Record). given_by b.contents ++ l) none
    ∙ append-nil (given_by b.contents) in
    record {
      batch = b;
      read = batch_from-again log place b (next-is log place before b s.0);
      same = ap (λ (l : List Record). slice_get l (length l - 1)) (sym same);
    }
last-batch (b ∷ bs) (suc q) log place before n total d s e below above lt =
    let f : Entry = record { place = 0; base = 0; last = 0; before = 0 } in
    let here = ltb-true (get_or (entries_from b.end
    (n + length (given_by b.contents)) bs) q f).before total
    (below (suc q) f (omega arith) (omega arith)) in
    let least = befores-above bs b.end (n + length (given_by b.contents)) q f (omega arith) in
    let some : 0 < count_of bs = omega (arith, here, least, e, count_of-cons b bs) in
    let rest = last-batch bs q log b.end (Some b.contents.last)
    (n + length (given_by b.contents)) total d s.1 (omega (arith, e, count_of-cons b bs))
    (λ k x low high. below (suc k) x (omega arith) (omega arith))
    (λ k x low high. above (suc k) x (omega arith) (omega arith)) (omega arith) in
    record {
      batch = rest.batch;
      read = rest.read;
      same = rest.same ∙ sym (get-behind (given_by b.contents) (records_of (contents_of bs)) some)
          ∙ ap (λ (l : List Record). slice_get l (length l - 1))
          (sym (flat_map-cons given_by b.contents (contents_of bs)));
    }

-- ---- whether a record stands at an offset

-- whether the first of the records has the offset
abbrev pub begins_at : ℕ → List Record → Bool
begins_at offset [] = false
begins_at offset (r ∷ rs) = eqb r.offset offset

none-above : (n offset : ℕ) (rs : List Record) → offset < n → rises_from n rs ≡ true
    → is_some (find (λ r. eqb r.offset offset) rs) ≡ false
none-above n offset [] lt e = refl
none-above n offset (r ∷ rs) lt e =
    let first = leb-true n r.offset (and-left _ _ e) in
    let rest = and-right (ltb r.offset _) _ (and-right (leb n r.offset) _ e) in
    let other : eqb r.offset offset ≡ false = grind (arith, first, lt) in
    rw other (none-above (suc r.offset) offset rs (omega arith) rest)

-- where the offsets rise, a record stands at the offset if the first that is not below has it
pub find-sought : (n offset : ℕ) (rs : List Record) → rises_from n rs ≡ true
    → is_some (find (λ r. eqb r.offset offset) rs) ≡ begins_at offset (not_below offset rs)
find-sought n offset [] e = refl
find-sought n offset (r ∷ rs) e = by_test (leb offset r.offset) refl
    (find-sought (suc r.offset) offset rs rest)
  where
    rest : rises_from (suc r.offset) rs ≡ true
    rest = and-right (ltb r.offset _) _ (and-right (leb n r.offset) _ e)

    by_same : (t : Bool) → eqb r.offset offset ≡ t → offset ≤ r.offset
        → is_some (cond t (Some r) (find (λ r. eqb r.offset offset) rs)) ≡ t
    by_same true h le = refl
    by_same false h le = none-above (suc r.offset) offset rs (grind (arith, h, le)) rest

    by_test : (t : Bool) → leb offset r.offset ≡ t
        → is_some (find (λ r. eqb r.offset offset) rs) ≡ begins_at offset (not_below offset rs)
        → is_some (find (λ r. eqb r.offset offset) (r ∷ rs))
        ≡ begins_at offset (cond t (r ∷ not_below offset rs) (not_below offset rs))
    by_test true h more = by_same (eqb r.offset offset) refl (leb-true offset r.offset h)
    by_test false h more = let lt = leb-false offset r.offset h in
        let other : eqb r.offset offset ≡ false = grind (arith, lt) in rw other more

pub not_below-zero : (rs : List Record) → not_below 0 rs ≡ rs
not_below-zero [] = refl
not_below-zero (r ∷ rs) = let yes : leb 0 r.offset ≡ true = le-leb 0 r.offset (omega arith) in
    rw yes (ap (λ (l : List Record). r ∷ l) (not_below-zero rs))

-- what a cursor has left, behind one record that it gave from its batch, and behind none
gives-one : (least : ℕ) (xs ys more : List Record) (r : Record)
    → not_below least xs ≡ r ∷ not_below least ys → not_below least (xs ++ more)
    ≡ r ∷ not_below least (ys ++ more)
gives-one least xs ys more r e =
    filter-append (λ (q : Record). leb least q.offset) xs more
    ∙ ap (λ (l : List Record). l ++ not_below least more) e
    ∙ ap (λ (l : List Record). r ∷ l) (sym (filter-append
    (λ (q : Record). leb least q.offset) ys more))

pub gives-none : (least : ℕ) (xs more : List Record) → not_below least xs ≡ []
    → not_below least (xs ++ more) ≡ not_below least more
gives-none least xs more e = filter-append (λ (q : Record). leb least q.offset) xs more
    ∙ ap (λ (l : List Record). l ++ not_below least more) e

-- ---- the same of a log's own entries

pub lasts-part : (log : List ℕ) (entries : List Entry) (offset : ℕ) → IsIndex log entries
    → IsPartitionedBy (λ (e : Entry). ltb e.last offset) entries
lasts-part log entries offset is =
    subst (λ (l : List Entry). IsPartitionedBy (λ (e : Entry). ltb e.last offset) l) (sym is.kept)
    (IsPartitionedBy-ltb (λ (e : Entry). e.last) (entries_from 0 0 (batches_of log)) offset
    (lasts-rise (batches_of log) log 0 None 0 (checked-stand log is.checked)))

pub befores-part : (log : List ℕ) (entries : List Entry) (count : ℕ) → IsIndex log entries
    → IsPartitionedBy (λ (e : Entry). ltb e.before count) entries
befores-part log entries count is =
    subst (λ (l : List Entry). IsPartitionedBy (λ (e : Entry). ltb e.before count) l) (sym is.kept)
    (IsPartitionedBy-ltb (λ (e : Entry). e.before) (entries_from 0 0 (batches_of log)) count
    (befores-rise (batches_of log) 0 0))

pub seek-place : (log : List ℕ) (entries : List Entry) (offset i : ℕ) → IsIndex log entries
    → AllWithin (λ (e : Entry). ltb e.last offset ≡ true) entries 0 i
    → not_below offset (records_from log (place_at log (slice_get entries i)))
    ≡ not_below offset (all_records log)
seek-place log entries offset i is all =
    ap (λ (l : List Entry). not_below offset (records_from log (place_at log (slice_get l i))))
    is.kept
    ∙ seek-skips (batches_of log) i log 0 None 0 offset (checked-stand log is.checked)
    (subst (λ (l : List Entry). AllWithin (λ (e : Entry). ltb e.last offset
    ≡ true) l 0 i) is.kept all)

pub no-last : (log : List ℕ) (entries : List Entry) (count : ℕ) → IsIndex log entries
    → count ≡ length (all_records log) → AllWithin (λ (e : Entry). ltb e.before count
    ≡ false) entries 0 (length entries) → all_records log ≡ []
no-last log entries count is counted all =
    none-behind (batches_of log) 0 0 count (let e : count ≡ 0 + count_of (batches_of log) =
    omega (arith, counted) in e) (subst (λ (l : List Entry). AllWithin
    (λ (e : Entry). ltb e.before count ≡ false) l 0 (length l)) is.kept all)

pub one-last : (log : List ℕ) (entries : List Entry) (count q : ℕ) (d : Entry) → IsIndex log entries
    → count ≡ length (all_records log) → q < length entries
    → AllWithin (λ (e : Entry). ltb e.before count ≡ true) entries 0 (suc q)
    → AllWithin (λ (e : Entry). ltb e.before count ≡ false) entries (suc q) (length entries)
    → HasLast log (get_or entries q d).place (all_records log)
one-last log entries count q d is counted lt below above =
    subst (λ (l : List Entry). HasLast log (get_or l q d).place (all_records log)) (sym is.kept)
    (last-batch (batches_of log) q log 0 None 0 count d (checked-stand log is.checked)
    (let e : count ≡ 0 + count_of (batches_of log) = omega (arith, counted) in e)
    (subst (λ (l : List Entry). AllWithin (λ (e : Entry). ltb e.before count
    ≡ true) l 0 (suc q)) is.kept below)
    (subst (λ (l : List Entry). AllWithin (λ (e : Entry). ltb e.before count
    ≡ false) l (suc q) (length l)) is.kept above)
    (subst (λ (l : List Entry). q < length l) is.kept lt))

-- ---- the last item of an iterator

last-get : (x : RecordRef) (xs : List RecordRef) → option_map plain (last_or (Some x) xs)
    ≡ slice_get (map plain (x ∷ xs)) (length (map plain xs))
last-get x [] = refl
last-get x (y ∷ ys) = last-get y ys

pub last-given : (left : List Record) (r : Option RecordRef)
    → ((xs : List RecordRef) × Drains (YieldsFirstBy plain (λ (l : List Record). l)) left xs
    × (r ≡ last_or None xs)) → option_map plain r ≡ slice_get left (length left - 1)
last-given left r ran =
    let s = ran.1 in
    let then = s.1 in
    let same = (YieldsList-end (YieldsList-from_first plain
    (λ (l : List Record). l) left refl) ran.0 then.0 then.1 None s.0 refl then.2).0 in
    ap (option_map plain) ran.2 ∙ of_all ran.0 ∙ ap
    (λ (l : List Record). slice_get l (length l - 1)) same
  where
    of_all : (xs : List RecordRef) → option_map plain (last_or None xs)
        ≡ slice_get (map plain xs) (length (map plain xs) - 1)
    of_all [] = refl
    of_all (x ∷ xs) = last-get x xs ∙ (let e : length (map plain xs)
        ≡ suc (length (map plain xs)) - 1 = omega arith in ap (slice_get (map plain (x ∷ xs))) e)
