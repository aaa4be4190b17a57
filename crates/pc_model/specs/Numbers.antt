-- Words on lists.
--     least_of, greatest_of      the least and the greatest of some numbers, if there are any
--     first_some f xs      what f gives at the first item at which it gives something
use Rattle.std.specs.Prelude.{ℕ, min, max, List, [], ◌∷◌, Option, Some, None}
use Rattle.std.specs.Option.{option_map_or, option_or}

-- the least of some numbers, if there are any
abbrev pub least_of : List ℕ → Option ℕ
least_of [] = None
least_of (x ∷ xs) = Some (option_map_or (min x) (least_of xs) x)

-- the greatest of some numbers, if there are any
abbrev pub greatest_of : List ℕ → Option ℕ
greatest_of [] = None
greatest_of (x ∷ xs) = Some (option_map_or (max x) (greatest_of xs) x)

-- what the function gives at the first item at which it gives something
abbrev pub first_some : {X Y : Type 0} → (X → Option Y) → List X → Option Y
first_some f [] = None
first_some f (x ∷ xs) = option_or (f x) (first_some f xs)
