-- Rising numbers.
use Rattle.std.specs.Prelude.{ℕ, ◌<◌, ◌≡◌, ◌⊎◌, ◌==◌, not, nat_le, if◌then◌else◌, filter, List, [], ◌∷◌}
use Rattle.std.specs.List.{AllByRecursion}

-- that the item is in the list
abbrev pub In : {X : Type 0} → X → List X → Type 0
In x [] = ⊥
In x (y ∷ ys) = (x ≡ y) ⊎ In x ys

-- that each number is below those after it
abbrev pub Rises : List ℕ → Type 0
Rises [] = Unit {0}
Rises (x ∷ xs) = AllByRecursion (λ y. x < y) xs × Rises xs

-- the numbers with one more, before those that are not below it
abbrev pub put : ℕ → List ℕ → List ℕ
put n [] = n ∷ []
put n (x ∷ xs) = if nat_le n x then n ∷ x ∷ xs else x ∷ put n xs

-- the numbers without this one
abbrev pub but : ℕ → List ℕ → List ℕ
but n xs = filter (λ x. not (x == n)) xs

-- the numbers in rising order
abbrev pub rising : List ℕ → List ℕ
rising [] = []
rising (x ∷ xs) = put x (rising xs)
