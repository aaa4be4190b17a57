-- Items of a list, and the front of one.
use Rattle.std.specs.Prelude.{◌≡◌, ◌⊎◌, List, [], ◌∷◌, ◌++◌}

-- the item stands in the list
abbrev pub In : {X : Type 0} → X → List X → Type 0
In x [] = ⊥
In x (y ∷ ys) = (x ≡ y) ⊎ In x ys

-- the first list is a front of the second
pub record IsFront {X : Type 0} (xs ys : List X) : Type 0 where
  pub rest : List X
  pub whole : xs ++ rest ≡ ys
