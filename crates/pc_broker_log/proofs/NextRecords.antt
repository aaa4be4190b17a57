-- What a part's log gives from an offset on.
use Rattle.std.proofs.Common.{◌≡◌, ℕ, zero, suc, ◌≤◌, Bool, true, false, cond, leb, List, [], ◌∷◌, Some, refl, subst}
use Rattle.std.specs.Prelude.{slice_get}
use Rattle.std.proofs.lemmas.Bool.{leb-true}
use Rattle.pc_model.specs.Record.{Record}
use Rattle.pc_cursor.specs.Cursor.{not_below}

-- a record from an offset on is not below it
pub get-above : (least : ℕ) (rs : List Record) (j : ℕ) (r : Record)
    → slice_get (not_below least rs) j ≡ Some r → least ≤ r.offset
get-above least [] j r at = absurd cc
get-above least (q ∷ qs) j r at = by_test (leb least q.offset) refl j at
    (λ k e. get-above least qs k r e)
  where
    by_test : (t : Bool) → leb least q.offset ≡ t → (j : ℕ)
        → slice_get (cond t (q ∷ not_below least qs) (not_below least qs)) j ≡ Some r
        → ((k : ℕ) → slice_get (not_below least qs) k ≡ Some r → least ≤ r.offset)
        → least ≤ r.offset
    by_test true h zero at more = let same : q ≡ r = cc in
        subst (λ (x : Record). least ≤ x.offset) same (leb-true least q.offset h)
    by_test true h (suc j) at more = more j at
    by_test false h j at more = more j at
