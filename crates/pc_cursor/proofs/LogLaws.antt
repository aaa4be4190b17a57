-- A log that is read is of the grammar, and what is of the grammar is read.
use Rattle.std.proofs.Common.{◌≡◌, ℕ, zero, suc, ◌+◌, ◌-◌, ◌<◌, ◌≤◌, Bool, true, false, cond, leb, List, [], ◌∷◌, ◌++◌, length, drop, length-drop, drop-drop, Option, Some, None, Result, Ok, Err, refl, sym, ap, subst, ◌∙◌, arith}
use Rattle.std.proofs.lemmas.List.{drop_all, drop_at, length-append}
use Rattle.pc_bytes.specs.Fields.{◌>>=◌}
use Rattle.pc_bytes.proofs.VarintLaws.{bind_ok}
use Rattle.pc_batch.specs.Batch.{Contents, Placed, IsBatchAt, batch_from}
use Rattle.pc_batch.proofs.BatchLaws.{batch_from-again}
use Rattle.pc_cursor.specs.declared.fault.LogFault.{LogFault}
use Rattle.pc_cursor.specs.Log.{IsAbove, AreBatches, IsLog, contents_of, told_at, above_of, next_batch, batches_at, all_batches, list_of, batches_of}
use Rattle.pc_cursor.proofs.LogLemmas.{ok_is, next-is, next-moves, above-ok, batches-step, batches-end}

-- ---- the next batch

above-is : (place : ℕ) (before : Option ℕ) (b x : Placed) → above_of place before b ≡ Ok x
    → IsAbove before b.contents.base
above-is place None b x e = tt
above-is place (Some last) b x e = by_test (leb b.contents.base last) refl _ e
  where
    by_test : (t : Bool) → leb b.contents.base last ≡ t → (f : LogFault)
        → ◌≡◌ {A = Result Placed LogFault} (cond t (Err f) (Ok b)) (Ok x) → last < b.contents.base
    by_test true h f e = absurd cc
    by_test false h f e = grind (arith, h)

pub next-above : (log : List ℕ) (place : ℕ) (before : Option ℕ) (b : Placed)
    → next_batch log place before ≡ Ok b → IsAbove before b.contents.base
next-above log place before b e =
    let a = bind_ok (told_at place (batch_from log place)) (above_of place before) b e in
    subst (λ (x : Placed). IsAbove before x.contents.base) (above-ok place before a.0 b a.2)
    (above-is place before a.0 b a.2)

above-again : (place : ℕ) (before : Option ℕ) (b : Placed) → IsAbove before b.contents.base
    → above_of place before b ≡ Ok b
above-again place None b is = refl
above-again place (Some last) b is = let more : leb b.contents.base last ≡ false =
    grind (arith, is) in rw more refl

next-again : (log : List ℕ) (place : ℕ) (before : Option ℕ) (b : Placed) → IsBatchAt log place b
    → IsAbove before b.contents.base → next_batch log place before ≡ Ok b
next-again log place before b is above =
    ap (λ r. told_at place r >>= above_of place before) (batch_from-again log place b is)
    ∙ above-again place before b above

-- what stands after a batch
after-is : (log : List ℕ) (place end : ℕ) (text rest : List ℕ) → drop place log ≡ text ++ rest
    → end ≡ place + length text → drop end log ≡ rest
after-is log place end text rest parts ends =
    ap (λ (n : ℕ). drop n log) ends ∙ sym (drop-drop (length text) place log)
    ∙ ap (drop (length text)) parts ∙ drop_at text rest (length text) refl

-- ---- all batches

takes_by : (n : ℕ) (log : List ℕ) (place : ℕ) (before : Option ℕ) (bs : List Placed)
    → ((b : Placed) (others : List Placed) → next_batch log place before ≡ Ok b
    → batches_at n log b.end (Some b.contents.last) ≡ Ok others
    → AreBatches (Some b.contents.last) (drop b.end log) (contents_of others))
    → (next_batch log place before >>= λ first. batches_at n log first.end
    (Some first.contents.last) >>= λ others. Ok (first ∷ others)) ≡ Ok bs
    → AreBatches before (drop place log) (contents_of bs)
takes_by n log place before bs more e =
    let first = bind_ok (next_batch log place before) _ bs e in
    let others = bind_ok (batches_at n log first.0.end (Some first.0.contents.last)) _ bs first.2 in
    let is = next-is log place before first.0 first.1 in
    let rest = after-is log place first.0.end is.text is.rest is.parts is.ends in
    let are : AreBatches (Some first.0.contents.last) is.rest (contents_of others.0) =
    subst (λ (l : List ℕ). AreBatches (Some first.0.contents.last) l
    (contents_of others.0)) rest (more first.0 others.0 first.1 others.1) in
    let made : AreBatches before (drop place log) (contents_of (first.0 ∷ others.0)) = (
      is.text,
      is.rest,
      is.is_batch,
      next-above log place before first.0 first.1,
      are,
      is.parts,
    ) in
    subst (λ (l : List Placed). AreBatches before (drop place log) (contents_of l))
    (ok_is (first.0 ∷ others.0) bs others.2) made

batches-takes : (n : ℕ) (log : List ℕ) (place : ℕ) (before : Option ℕ) (bs : List Placed)
    → length log ≤ n + place → batches_at n log place before ≡ Ok bs
    → AreBatches before (drop place log) (contents_of bs)
unfolding batches_at
batches-takes zero log place before bs enough e =
    subst (λ (l : List Placed). AreBatches before (drop place log) (contents_of l)) (ok_is [] bs e)
    (drop_all place log (omega arith))
batches-takes (suc n) log place before bs enough e =
    by_end (leb (length log) place) refl e (takes_by n log place before bs
    (λ b others h more. batches-takes n log b.end (Some b.contents.last) others (let m =
    next-moves log place before b h in omega arith) more))
  where
    by_end : (t : Bool) → leb (length log) place ≡ t
        → cond t (Ok []) (next_batch log place before >>= λ first. batches_at n log first.end
        (Some first.contents.last) >>= λ others. Ok (first ∷ others)) ≡ Ok bs
        → ((next_batch log place before >>= λ first. batches_at n log first.end
        (Some first.contents.last) >>= λ others. Ok (first ∷ others)) ≡ Ok bs
        → AreBatches before (drop place log) (contents_of bs))
        → AreBatches before (drop place log) (contents_of bs)
    by_end true h e go = subst (λ (l : List Placed). AreBatches before (drop place log)
        (contents_of l)) (ok_is [] bs e) (drop_all place log (grind (arith, h)))
    by_end false h e go = go e

-- batches that are read, and what they say
record ReadsAll (n : ℕ) (log : List ℕ) (place : ℕ) (before : Option ℕ)
    (cs : List Contents) : Type 0 where
  batches : List Placed
  read : batches_at n log place before ≡ Ok batches
  same : contents_of batches ≡ cs

batches-one : (n : ℕ) (log : List ℕ) (place : ℕ) (before : Option ℕ) (b : Placed)
    (others : List Placed) → place < length log → next_batch log place before ≡ Ok b
    → batches_at n log b.end (Some b.contents.last) ≡ Ok others
    → batches_at (suc n) log place before ≡ Ok (b ∷ others)
batches-one n log place before b others lt e more = batches-step n log place before lt
    ∙ rw (e, more) refl

batches-again : (cs : List Contents) (n : ℕ) (log : List ℕ) (place : ℕ) (before : Option ℕ)
    → length log ≤ n + place → AreBatches before (drop place log) cs
    → ReadsAll n log place before cs
batches-again [] n log place before enough are =
    let ended : length log ≤ place = omega (arith, ap length are, length-drop place log) in
    record { batches = []; read = batches-end n log place before ended; same = refl }
batches-again (c ∷ cs) n log place before enough are =
    let b : Placed = record { contents = c; end = place + length are.0 } in
    let is : IsBatchAt log place (record { contents = c; end = place + length are.0 }) =
    record { text = are.0; rest = are.1; parts = are.5; is_batch = are.2; ends = refl } in
    let long = is.is_batch.whole in
    let inside : place < length log = omega (
      arith,
      ap length are.5,
      length-append are.0 are.1,
      length-drop place log,
      long,
    ) in
    let m = n - 1 in
    let counted : n ≡ suc (n - 1) = omega arith in
    let after = after-is log place (place + length are.0) are.0 are.1 are.5 refl in
    let rest = batches-again cs (n - 1) log (place + length are.0) (Some c.last)
    (omega (arith, long)) (subst (λ (l : List ℕ). AreBatches (Some c.last) l cs)
    (sym after) are.4) in
    record {
      batches = record { contents = c; end = place + length are.0 } ∷ rest.batches;
      read = ap (λ (t : ℕ). batches_at t log place before) counted
          ∙ batches-one (n - 1) log place before (record {
            contents = c;
            end =
                place + length are.0;
          }) rest.batches inside
          (next-again log place before (record {
            contents = c;
            end =
                place + length are.0;
          }) is are.3) rest.read;
      same = ap (λ (l : List Contents). c ∷ l) rest.same;
    }

-- ---- a whole log

pub log-found : (log : List ℕ) (bs : List Placed) → all_batches log ≡ Ok bs
    → IsLog log (contents_of bs)
log-found log bs e = batches-takes (length log) log 0 None bs (omega arith) e

pub log-only : (log : List ℕ) (bs : List Placed) (cs : List Contents) → all_batches log ≡ Ok bs
    → IsLog log cs → contents_of bs ≡ cs
log-only log bs cs e is =
    let read = batches-again cs (length log) log 0 None (omega arith) is in
    ap contents_of (ok_is bs read.batches (sym e ∙ read.read)) ∙ read.same

pub log-unread : (log : List ℕ) (f : LogFault) (cs : List Contents) → all_batches log ≡ Err f
    → IsLog log cs → ⊥
log-unread log f cs e is =
    let read = batches-again cs (length log) log 0 None (omega arith) is in
    not_both f read.batches (sym e ∙ read.read)
  where
    not_both : (f : LogFault) (bs : List Placed) → ◌≡◌ {A =
        Result (List Placed) LogFault} (Err f) (Ok bs) → ⊥
    not_both f bs e = cc

pub batches_of-is : (log : List ℕ) (bs : List Placed) → all_batches log ≡ Ok bs
    → batches_of log ≡ bs
unfolding batches_of
batches_of-is log bs e = ap list_of e
