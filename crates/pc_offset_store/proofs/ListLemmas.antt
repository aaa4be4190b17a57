-- Lists that are put together piece by piece.
use Rattle.std.proofs.Common.{◌≡◌, List, [], ◌∷◌, ◌++◌, map, refl, sym, ap, ◌∙◌, append_assoc}
use Rattle.std.specs.List.{flat_map}
use Rattle.std.proofs.lemmas.List.{append-nil}

module _ {A B : Type 0} (f : A → List B) where
  -- one more piece was put
  pub pieces-one : (whole now new : List B) (left others : List A) (x : A) → left ≡ x ∷ others
      → new ≡ now ++ f x → now ++ flat_map f left ≡ whole → new ++ flat_map f others ≡ whole
  pieces-one whole now new left others x e put so_far =
      ap (λ (bs : List B). bs ++ flat_map f others) put ∙ append_assoc now (f x) (flat_map f others)
      ∙ sym (ap (λ (xs : List A). now ++ flat_map f xs) e) ∙ so_far

  -- no piece is left
  pub pieces-none : (whole now : List B) (left : List A) → left ≡ []
      → now ++ flat_map f left ≡ whole → now ≡ whole
  pieces-none whole now left e so_far =
      sym (append-nil now) ∙ sym (ap (λ (xs : List A). now ++ flat_map f xs) e) ∙ so_far

-- a piece of one element
pub flat-single : {A B : Type 0} (f : A → B) (xs : List A) → flat_map (λ x. f x ∷ []) xs ≡ map f xs
flat-single f [] = refl
flat-single f (x ∷ xs) = ap (λ (ys : List _). f x ∷ ys) (flat-single f xs)
