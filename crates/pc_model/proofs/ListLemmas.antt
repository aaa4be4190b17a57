-- Lemmas on lists and tests.
use Rattle.std.proofs.Common.{◌≡◌, ℕ, zero, suc, ◌+◌, Bool, true, false, not, ◌&&◌, ◌||◌, ◌==◌, List, [], ◌∷◌, ◌++◌, map, take, drop, refl, ap, cond, eq-eqb, zero-add}
use Rattle.std.proofs.Math.Nat.{suc-add}
use Rattle.std.specs.Prelude.{filter}
use Rattle.std.specs.List.{list_any, list_all}

-- a number is the same as itself
pub same_number : (n : ℕ) → (n == n) ≡ true
same_number n = eq-eqb n n refl

-- nothing is left of no items
take-nil : {X : Type 0} (n : ℕ) → take {A = X} n [] ≡ []
take-nil zero = refl
take-nil (suc n) = refl

-- the first m + n items are the first m, and then the first n of the rest
pub take-add : {X : Type 0} (xs : List X) (m n : ℕ) → take (m + n) xs ≡ take m xs ++ take n
    (drop m xs)
take-add xs zero n = rw zero-add
take-add [] (suc m) n = rw (suc-add, take-nil n) refl
take-add (x ∷ xs) (suc m) n = rw suc-add (ap (λ ys. x ∷ ys) (take-add xs m n))

-- a filter by the same test keeps the same
pub filter-same : {X : Type 0} (f g : X → Bool) → ((x : X) → f x ≡ g x) →
    (xs : List X) → filter f xs ≡ filter g xs
filter-same f g same [] = refl
filter-same f g same (x ∷ xs) = rw (same x, filter-same f g same xs)

-- a map by the same function gives the same
pub map-same : {X Y : Type 0} (f g : X → Y) → ((x : X) → f x ≡ g x) →
    (xs : List X) → map f xs ≡ map g xs
map-same f g same [] = refl
map-same f g same (x ∷ xs) = rw (same x, map-same f g same xs)

pub list_any-same : {X : Type 0} (f g : X → Bool) → ((x : X) → f x ≡ g x) →
    (xs : List X) → list_any f xs ≡ list_any g xs
list_any-same f g same [] = refl
list_any-same f g same (x ∷ xs) = rw (same x, list_any-same f g same xs)

pub list_all-same : {X : Type 0} (f g : X → Bool) → ((x : X) → f x ≡ g x) →
    (xs : List X) → list_all f xs ≡ list_all g xs
list_all-same f g same [] = refl
list_all-same f g same (x ∷ xs) = rw (same x, list_all-same f g same xs)

-- what is neither of two things
pub not-or : (a b : Bool) → not (a || b) ≡ (not b && not a)
not-or true true = refl
not-or true false = refl
not-or false true = refl
not-or false false = refl

pub or-assoc : (a b c : Bool) → ((a || b) || c) ≡ (a || (b || c))
or-assoc true b c = refl
or-assoc false b c = refl

-- a filter of a filter keeps what passes both tests
pub filter-filter : {X : Type 0} (f g : X → Bool) (xs : List X) → filter f (filter g xs) ≡ filter
    (λ x. g x && f x) xs
filter-filter f g [] = refl
filter-filter f g (x ∷ xs) = elim (g x) as
    (λ b. filter f (cond b (x ∷ filter g xs) (filter g xs)) ≡ cond (b && f x)
    (x ∷ filter (λ y. g y && f y) xs) (filter (λ y. g y && f y) xs))
    [ true ↦ rw (filter-filter f g xs) | false ↦ filter-filter f g xs ]

-- a map of a map
pub map-map : {X Y Z : Type 0} (f : Y → Z) (g : X → Y) (xs : List X) → map f (map g xs) ≡ map
    (λ x. f (g x)) xs
map-map f g [] = refl
map-map f g (x ∷ xs) = rw (map-map f g xs)
