-- The views of all passes, and what holds of them after one of them changes.
use Rattle.std.proofs.Common.{◌≡◌, ◌≢◌, ℕ, ◌+◌, ◌<◌, ◌≤◌, List, [], ◌∷◌, ◌++◌, length, set, zero, suc, refl, sym, ap, ◌∙◌, subst, ⊎_elim, arith, Option}
use mathlib.Core.Logic.{dite}
use mathlib.Core.Option.{some, some-injective, some-ne-none}
use native.Mathlib.Decide.{ℕ_discrete}
use lib.ListN.{get_elem?}
use Rattle.atomic_table.proofs.Lists.{at_set, at_snoc, at_longer, set_else, set_here}
use Rattle.pc_state_lock.specs.Rule.{IsAway, total}
use Rattle.pc_state_lock.specs.declared.view.Stage.TheVariants.{Turns}
use Rattle.pc_state_lock.specs.declared.view.View.{View}

module _ {V : Type 0} where
  -- a view's number is part of the sum
  pub total-le : (f : View V → ℕ) (views : List (View V)) (id : ℕ) (v : View V)
      → get_elem? views id ≡ some v → f v ≤ total f views
  total-le f [] id v at = absurd (some-ne-none v (sym at))
  total-le f (x ∷ views) zero v at = let e : f x ≡ f v = ap f (some-injective x v at) in omega arith
  total-le f (x ∷ views) (suc id) v at = let l = total-le f views id v at in omega arith

  -- the sum where one view changes
  pub total-set : (f : View V → ℕ) (views : List (View V)) (id : ℕ) (v w : View V)
      → get_elem? views id ≡ some v → total f (set views id w) + f v ≡ total f views + f w
  total-set f [] id v w at = absurd (some-ne-none v (sym at))
  total-set f (x ∷ views) zero v w at = let e : f x ≡ f v = ap f (some-injective x v at) in omega arith
  total-set f (x ∷ views) (suc id) v w at = let l = total-set f views id v w at in omega arith

  -- the sum where a view comes
  pub total-snoc : (f : View V → ℕ) (views : List (View V)) (w : View V)
      → total f (views ++ w ∷ []) ≡ total f views + f w
  total-snoc f [] w = omega arith
  total-snoc f (x ∷ views) w = let l = total-snoc f views w in omega arith

  -- the sum of nothing but zeros
  pub total-none : (f : View V → ℕ) (views : List (View V)) → ((id : ℕ) (v : View V)
      → get_elem? views id ≡ some v → f v ≡ 0) → total f views ≡ 0
  total-none f [] none_has = refl
  total-none f (x ∷ views) none_has = let a = none_has 0 x refl in
      let b = total-none f views (λ id v at. none_has (suc id) v at) in omega arith

  -- a fact of each view stays where one view changes
  pub each-set : (F : ℕ → View V → Type 0) (views : List (View V)) (id : ℕ) (w : View V) → F id w
      → ((j : ℕ) (v : View V) → j ≢ id → get_elem? views j ≡ some v → F j v)
      → (j : ℕ) (v : View V) → get_elem? (set views id w) j ≡ some v → F j v
  each-set F views id w here others j v at = ⊎_elim
      (λ (t : (j ≡ id) × (w ≡ v)). subst (λ (x : ℕ × View V). F x.0 x.1) (λ i. (sym t.0 i, t.1 i)) here)
      (λ (t : (j ≢ id) × (get_elem? views j ≡ some v)). others j v t.0 t.1)
      (at_set views id j w v at)

  -- a fact of each view holds with one more
  pub each-snoc : (F : ℕ → View V → Type 0) (views : List (View V)) (w : View V) → ((j : ℕ) → F j w)
      → ((j : ℕ) (v : View V) → get_elem? views j ≡ some v → F j v)
      → (j : ℕ) (v : View V) → get_elem? (views ++ w ∷ []) j ≡ some v → F j v
  each-snoc F views w here all j v at = ⊎_elim (all j v) (λ (t : w ≡ v). subst (F j) t (here j))
      (at_snoc views w v j at)

  -- there is such a place
  pub at_within : (views : List (View V)) (id : ℕ) (v : View V) → get_elem? views id ≡ some v
      → id < length views
  at_within [] id v at = absurd (some-ne-none v (sym at))
  at_within (x ∷ views) zero v at = omega arith
  at_within (x ∷ views) (suc id) v at = let l = at_within views id v at in omega arith

  -- who has the turn still has it where another view changes, or where this one keeps its stage
  pub IsAway-set : (serving : ℕ) (homes : List (mathlib.Core.Option.Option (Option V)))
      (views : List (View V)) (id : ℕ) (v w : View V) → get_elem? views id ≡ some v
      → (v.stage ≡ Turns serving → w.stage ≡ Turns serving) → IsAway serving homes views
      → IsAway serving homes (set views id w)
  IsAway-set serving homes views id v w at keeps r = dite (ℕ_discrete r.holder id)
      (λ e. let same : r.view ≡ v = some-injective r.view v (sym r.there ∙ (ap (get_elem? views) e ∙ at)) in
      record {
        empty = r.empty;
        holder = id;
        view = w;
        there = set_here views id w (at_within views id v at);
        turns = keeps (ap (λ (u : View V). u.stage) (sym same) ∙ r.turns);
      })
      (λ other. record {
        empty = r.empty;
        holder = r.holder;
        view = r.view;
        there =
            set_else views id r.holder w other ∙ r.there;
        turns = r.turns;
      })

  pub IsAway-snoc : (serving : ℕ) (homes : List (mathlib.Core.Option.Option (Option V)))
      (views : List (View V)) (w : View V) → IsAway serving homes views
      → IsAway serving homes (views ++ w ∷ [])
  IsAway-snoc serving homes views w r = record {
    empty = r.empty;
    holder = r.holder;
    view = r.view;
    there =
        at_longer views (w ∷ []) r.holder r.view r.there;
    turns = r.turns;
  }
