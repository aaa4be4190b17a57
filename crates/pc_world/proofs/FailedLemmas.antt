-- Counting one more name.
use Rattle.std.proofs.Common.{◌≡◌, ◌<◌, ◌∙◌, ℕ, ◌+◌, Bool, true, false, List, [], ◌∷◌, ◌++◌, ap, inl, inr, arith}
use Rattle.std.specs.Prelude.{bytes_eq, if◌then◌else◌}
use Rattle.std.specs.List.{sum_by}
use Rattle.std.proofs.lemmas.Bool.{cases_Bool}
use Rattle.std.proofs.lemmas.List.Sums.{sum_by_push}
use Rattle.std.proofs.lemmas.Slice.Eq.{bytes_eq-Decides}

-- one name more
one-more : {X : Type 0} (p : X → Bool) (xs ys : List X) (x : X) (b : Bool) → p x ≡ b
    → ys ≡ xs ++ x ∷ []
    → sum_by (λ s. if p s then 1 else 0) ys
    ≡ sum_by (λ s. if p s then 1 else 0) xs + (if b then 1 else 0)
one-more p xs ys x b is pushed =
    ap (sum_by (λ s. if p s then 1 else 0)) pushed
    ∙ sum_by_push (λ s. if p s then 1 else 0) xs x
    ∙ ap (λ (c : Bool). sum_by (λ s. if p s then 1 else 0) xs + (if c then 1 else 0)) is

pub counts-it : {X : Type 0} (p : X → Bool) (xs ys : List X) (x : X) → p x ≡ true
    → ys ≡ xs ++ x ∷ []
    → sum_by (λ s. if p s then 1 else 0) xs < sum_by (λ s. if p s then 1 else 0) ys
counts-it p xs ys x is pushed = omega (arith, one-more p xs ys x true is pushed)

pub leaves-it : {X : Type 0} (p : X → Bool) (xs ys : List X) (x : X) → p x ≡ false
    → ys ≡ xs ++ x ∷ []
    → sum_by (λ s. if p s then 1 else 0) ys ≡ sum_by (λ s. if p s then 1 else 0) xs
leaves-it p xs ys x is pushed = omega (arith, one-more p xs ys x false is pushed)

-- two other texts
pub is-not : (xs ys : List ℕ) → (xs ≡ ys → ⊥) → bytes_eq xs ys ≡ false
is-not xs ys other = elim (cases_Bool (bytes_eq xs ys)) [
  | inl same ↦ absurd (other ((bytes_eq-Decides xs ys).0 same))
  | inr differ ↦ differ
]
