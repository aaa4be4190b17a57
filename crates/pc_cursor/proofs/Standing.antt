-- The batches of a checked log stand one after the other, up to its end.
use Rattle.std.proofs.Common.{◌≡◌, ℕ, zero, suc, ◌+◌, ◌≤◌, Bool, true, false, cond, leb, List, [], ◌∷◌, ◌++◌, length, Option, Some, None, Ok, refl, sym, ap, subst, ◌∙◌, arith}
use Rattle.std.proofs.lemmas.List.Concat.{flat_map-cons}
use Rattle.std.proofs.lemmas.Bool.{leb-true}
use Rattle.pc_bytes.specs.Fields.{◌>>=◌}
use Rattle.pc_bytes.proofs.VarintLaws.{bind_ok}
use Rattle.pc_model.specs.Record.{Record}
use Rattle.pc_model.specs.Given.{rises_from}
use Rattle.pc_batch.specs.Batch.{Placed, given_by}
use Rattle.pc_batch.proofs.BatchLaws.{batch_from-again}
use Rattle.pc_cursor.specs.Log.{IsAbove, contents_of, next_batch, batches_at, batches_of, records_of, all_records, IsChecked}
use Rattle.pc_cursor.specs.Cursor.{records_from}
use Rattle.pc_cursor.proofs.BatchFacts.{given-rise, rises-lower}
use Rattle.pc_cursor.proofs.CursorLemmas.{front-past, from-step}
use Rattle.pc_cursor.proofs.LogLemmas.{ok_is, next-is, next-moves}
use Rattle.pc_cursor.proofs.LogLaws.{next-above}

-- these batches stand from a place on, up to the end of the log
abbrev pub Stand : List ℕ → ℕ → Option ℕ → List Placed → Type 0
Stand log place before [] = length log ≤ place
Stand log place before (b ∷ bs) = (next_batch log place before ≡ Ok b)
    × Stand log b.end (Some b.contents.last) bs

stands_by : (n : ℕ) (log : List ℕ) (place : ℕ) (before : Option ℕ) (bs : List Placed)
    → ((b : Placed) (others : List Placed) → next_batch log place before ≡ Ok b
    → batches_at n log b.end (Some b.contents.last) ≡ Ok others
    → Stand log b.end (Some b.contents.last) others)
    → (next_batch log place before >>= λ first. batches_at n log first.end
    (Some first.contents.last) >>= λ others. Ok (first ∷ others)) ≡ Ok bs
    → Stand log place before bs
stands_by n log place before bs more e =
    let first = bind_ok (next_batch log place before) _ bs e in
    let others = bind_ok (batches_at n log first.0.end (Some first.0.contents.last)) _ bs first.2 in
    let made : Stand log place before (first.0 ∷ others.0) =
    (first.1, more first.0 others.0 first.1 others.1) in
    subst (λ (l : List Placed). Stand log place before l)
    (ok_is (first.0 ∷ others.0) bs others.2) made

stands : (n : ℕ) (log : List ℕ) (place : ℕ) (before : Option ℕ) (bs : List Placed)
    → length log ≤ n + place → batches_at n log place before ≡ Ok bs → Stand log place before bs
unfolding batches_at
stands zero log place before bs enough e = subst (λ (l : List Placed). Stand log place before l)
    (ok_is [] bs e) (let h : length log ≤ place = omega arith in h)
stands (suc n) log place before bs enough e =
    by_end (leb (length log) place) refl e (stands_by n log place before bs
    (λ b others h more. stands n log b.end (Some b.contents.last) others (let m =
    next-moves log place before b h in omega arith) more))
  where
    by_end : (t : Bool) → leb (length log) place ≡ t
        → cond t (Ok []) (next_batch log place before >>= λ first. batches_at n log first.end
        (Some first.contents.last) >>= λ others. Ok (first ∷ others)) ≡ Ok bs
        → ((next_batch log place before >>= λ first. batches_at n log first.end
        (Some first.contents.last) >>= λ others. Ok (first ∷ others)) ≡ Ok bs
        → Stand log place before bs) → Stand log place before bs
    by_end true h e go = subst (λ (l : List Placed). Stand log place before l) (ok_is [] bs e)
        (leb-true (length log) place h)
    by_end false h e go = go e

-- those of a checked log
pub checked-stand : (log : List ℕ) → IsChecked log → Stand log 0 None (batches_of log)
checked-stand log c = stands (length log) log 0 None (batches_of log) (omega arith) c.whole

-- ---- their records

pub stand-records : (bs : List Placed) (log : List ℕ) (place : ℕ) (before : Option ℕ)
    → Stand log place before bs → records_from log place ≡ records_of (contents_of bs)
stand-records [] log place before s = front-past (length log) log place s
stand-records (b ∷ bs) log place before s =
    from-step log place b (batch_from-again log place b (next-is log place before b s.0))
    ∙ ap (λ (l : List Record). given_by b.contents
    ++ l) (stand-records bs log b.end (Some b.contents.last) s.1)
    ∙ sym (flat_map-cons given_by b.contents (contents_of bs))

-- what the bytes give from the start on
pub checked-records : (log : List ℕ) → IsChecked log → records_from log 0 ≡ all_records log
checked-records log c = stand-records (batches_of log) log 0 None (checked-stand log c)

-- the least offset that may come next
abbrev least_after : Option ℕ → ℕ
least_after None = 0
least_after (Some last) = suc last

above-least : (before : Option ℕ) (base : ℕ) → IsAbove before base → least_after before ≤ base
above-least None base a = omega arith
above-least (Some last) base a = omega arith

stand-rise : (bs : List Placed) (log : List ℕ) (place : ℕ) (before : Option ℕ)
    → Stand log place before bs → rises_from (least_after before) (records_of (contents_of bs))
    ≡ true
stand-rise [] log place before s = refl
stand-rise (b ∷ bs) log place before s =
    let is = next-is log place before b s.0 in
    let above = above-least before b.contents.base (next-above log place before b s.0) in
    let both = given-rise is.text b.contents (records_of (contents_of bs)) is.is_batch
    (stand-rise bs log b.end (Some b.contents.last) s.1) in
    subst (λ (l : List Record). rises_from (least_after before) l
    ≡ true) (sym (flat_map-cons given_by b.contents (contents_of bs)))
    (rises-lower (least_after before) b.contents.base _ above both)

-- the offsets of a checked log rise
pub checked-rise : (log : List ℕ) → IsChecked log → rises_from 0 (all_records log) ≡ true
checked-rise log c = stand-rise (batches_of log) log 0 None (checked-stand log c)
