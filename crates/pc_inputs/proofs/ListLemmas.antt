-- What a loop over a list has gone through.
use Rattle.std.proofs.Common.{◌≡◌, ◌≤◌, ◌<◌, ◌+◌, ℕ, suc, List, [], ◌∷◌, ◌++◌, map, length, take, drop, get_or, ap, sym, ◌∙◌, add-one}
use Rattle.std.proofs.lemmas.List.{map-append, take-append-drop, take_all}
use Rattle.std.proofs.Math.Seq.{take-suc, drop-cons}

-- one item more
pub map-next : {X Y : Type 0} (f : X → Y) (xs : List X) (i : ℕ) (x : X) → i < length xs
    → x ≡ get_or xs i x → map f (take (i + 1) xs) ≡ map f (take i xs) ++ f x ∷ []
map-next f xs i x below is =
    ap (λ (n : ℕ). map f (take n xs)) (add-one i)
    ∙ ap (map f) (take-suc xs i x below ∙ ap (λ y. take i xs ++ y ∷ []) (sym is))
    ∙ map-append f (take i xs) (x ∷ [])

-- the items so far, one, and those behind it
pub map-around : {X Y : Type 0} (f : X → Y) (xs : List X) (i : ℕ) (x : X) → i < length xs
    → x ≡ get_or xs i x → map f (take i xs) ++ f x ∷ map f (drop (suc i) xs) ≡ map f xs
map-around f xs i x below is =
    sym (map-append f (take i xs) (x ∷ drop (suc i) xs))
    ∙ ap (λ ys. map f (take i xs ++ ys))
    (ap (λ y. y ∷ drop (suc i) xs) is ∙ sym (drop-cons xs i x below))
    ∙ ap (map f) (take-append-drop i xs)

-- all items
pub map-all : {X Y : Type 0} (f : X → Y) (xs : List X) (i : ℕ) → length xs ≤ i
    → map f (take i xs) ≡ map f xs
map-all f xs i all = ap (map f) (take_all i xs all)
