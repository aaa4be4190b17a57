-- The record at an offset is the first that is not below it, where that one is there.
use Rattle.std.proofs.Common.{◌≡◌, ℕ, suc, ◌<◌, Bool, true, false, ◌==◌, cond, leb, ltb, List, [], ◌∷◌, Some, None, refl, ap, subst, ◌∙◌, arith}
use Rattle.std.specs.Bool.{then_some}
use Rattle.std.specs.Prelude.{find, option_map, slice_get}
use Rattle.std.proofs.lemmas.Bool.{leb-true, leb-false}
use Rattle.std.proofs.lemmas.Bool.Decides.{nat_tests}
use Rattle.pc_model.specs.Record.{Record}
use Rattle.pc_model.specs.Given.{rises_from}
use Rattle.pc_batch.specs.declared.record.RecordRef.{RecordRef}
use Rattle.pc_batch.specs.Record.{plain}
use Rattle.pc_cursor.specs.Cursor.{not_below}
use Rattle.pc_cursor.proofs.BatchFacts.{and-left, and-right}
use Rattle.pc_broker_log.proofs.NextRecords.{get-above}
use Rattle.pc_broker_log.proofs.PolledLemmas.{rises-filter}

other-offset : (m n : ℕ) → n < m → (m == n) ≡ false
other-offset m n h = grind (arith, nat_tests)

below-other : (m n : ℕ) → m < n → (m == n) ≡ false
below-other m n h = grind (arith, nat_tests)

-- records above an offset have none at it
none-above : (o n : ℕ) (rs : List Record) → o < n → rises_from n rs ≡ true
    → find (λ r. r.offset == o) rs ≡ None
none-above o n [] lt rise = refl
none-above o n (r ∷ rs) lt rise =
    let first = leb-true n r.offset (and-left _ _ rise) in
    let rest = and-right (ltb r.offset _) _ (and-right (leb n r.offset) _ rise) in
    rw (other-offset r.offset o (omega (arith, first, lt)))
    (none-above o (suc r.offset) rs (omega (arith, first, lt)) rest)

-- those below an offset are not at it
find-not_below : (o : ℕ) (rs : List Record)
    → find (λ r. r.offset == o) rs ≡ find (λ r. r.offset == o) (not_below o rs)
find-not_below o [] = refl
find-not_below o (r ∷ rs) = by_test (leb o r.offset) refl (find-not_below o rs)
  where
    by_test : (t : Bool) → leb o r.offset ≡ t
        → find (λ r. r.offset == o) rs ≡ find (λ r. r.offset == o) (not_below o rs)
        → find (λ r. r.offset == o) (r ∷ rs)
        ≡ find (λ r. r.offset == o) (cond t (r ∷ not_below o rs) (not_below o rs))
    by_test true h more = ap (λ x. cond (r.offset == o) (Some r) x) more
    by_test false h more = rw (below-other r.offset o (leb-false o r.offset h)) more

pub found-none : (o : ℕ) (log : List Record) → not_below o log ≡ []
    → find (λ r. r.offset == o) log ≡ None
found-none o log none = find-not_below o log ∙ ap (find (λ r. r.offset == o)) none

pub found-first : (o : ℕ) (log left : List Record) (r : Record) → rises_from 0 log ≡ true
    → not_below o log ≡ r ∷ left
    → find (λ q. q.offset == o) log ≡ cond (r.offset == o) (Some r) None
found-first o log left r rise first =
    let rises : rises_from 0 (r ∷ left) ≡ true = subst (λ rs. rises_from 0 rs ≡ true) first
    (rises-filter (λ (q : Record). leb o q.offset) 0 log rise) in
    let rest = and-right (ltb r.offset _) _ (and-right (leb 0 r.offset) _ rises) in
    let above = get-above o log 0 r (ap (λ (rs : List Record). slice_get rs 0) first) in
    find-not_below o log ∙ ap (find (λ q. q.offset == o)) first
    ∙ ap (λ x. cond (r.offset == o) (Some r) x)
    (none-above o (suc r.offset) left (omega (arith, above)) rest)

pub plain-then_some : (b : Bool) (r : RecordRef)
    → option_map plain (then_some b r) ≡ cond b (Some (plain r)) None
plain-then_some true r = refl
plain-then_some false r = refl
