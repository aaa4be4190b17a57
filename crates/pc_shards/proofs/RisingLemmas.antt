-- Rising numbers: one more, one less, how many there are, and the least.
use Rattle.std.proofs.Common.{◌≡◌, ◌⊎◌, ℕ, zero, suc, ◌<◌, ◌≤◌, min, Bool, true, false, not, ◌==◌, cond, List, [], ◌∷◌, ◌++◌, map, length, drop, get_or, leb, Some, None, refl, ap, sym, subst, inl, inr, arith}
use Rattle.std.specs.Prelude.{filter, slice_get}
use Rattle.std.specs.List.Sorted.{IsNonDecreasingBy}
use Rattle.std.specs.Option.{option_map_or}
use Rattle.std.proofs.lemmas.Bool.{cases_lt}
use Rattle.std.proofs.lemmas.Bool.Decides.{nat_tests}
use Rattle.pc_model.specs.Numbers.{least_of}
use Rattle.pc_shards.specs.Rising.{In, Rises, but, put}
use Rattle.pc_shards.proofs.Lists.{AllByRecursion-In, AllByRecursion-each, In-append, In-map, In-mapped, In-filter, In-filtered, filter-all, number-same, not-false, not-true}

le-true : (m n : ℕ) → m ≤ n → leb m n ≡ true
le-true m n h = grind (arith, nat_tests)

le-false : (m n : ℕ) → n < m → leb m n ≡ false
le-false m n h = grind (arith, nat_tests)

pub In-get_or : {X : Type 0} (xs : List X) (k : ℕ) (d : X) → k < length xs → In (get_or xs k d) xs
In-get_or [] k d h = absurd (omega arith)
In-get_or (x ∷ xs) zero d h = inl refl
In-get_or (x ∷ xs) (suc k) d h = inr (In-get_or xs k d (omega arith))

-- items whose numbers rise do not fall
pub rises-non_decreasing : {X : Type 0} (f : X → ℕ) (xs : List X) → Rises (map f xs)
    → IsNonDecreasingBy f xs
rises-non_decreasing f [] r i j d le h = absurd (omega arith)
rises-non_decreasing f (x ∷ xs) r zero zero d le h = omega arith
rises-non_decreasing f (x ∷ xs) r zero (suc j) d le h =
    let more = AllByRecursion-In (λ y. f x < y) (f (get_or xs j d)) (map f xs) r.0
    (In-map f (get_or xs j d) xs (In-get_or xs j d (omega arith))) in omega (arith, more)
rises-non_decreasing f (x ∷ xs) r (suc i) zero d le h = absurd (omega arith)
rises-non_decreasing f (x ∷ xs) r (suc i) (suc j) d le h =
    rises-non_decreasing f xs r.1 i j d (omega arith) (omega arith)

map-id : (xs : List ℕ) → map (λ x. x) xs ≡ xs
map-id [] = refl
map-id (x ∷ xs) = ap (λ ys. x ∷ ys) (map-id xs)

-- ---- one more

pub In-put : (u n : ℕ) (xs : List ℕ) → In u (put n xs) → (u ≡ n) ⊎ In u xs
In-put u n [] (inl e) = inl e
In-put u n [] (inr i) = elim i [ ]
In-put u n (x ∷ xs) i = elim (cases_lt x n) [
  | inl lt ↦ elim (subst (λ b. In u (cond b (n ∷ x ∷ xs) (x ∷ put n xs))) (le-false n x lt) i) [
    | inl e ↦ inr (inl e)
    | inr j ↦ elim (In-put u n xs j) [ inl e ↦ inl e | inr k ↦ inr (inr k) ]
  ]
  | inr le ↦ elim (subst (λ b. In u (cond b (n ∷ x ∷ xs) (x ∷ put n xs))) (le-true n x le) i) [
    | inl e ↦ inl e
    | inr j ↦ inr j
  ]
]

pub put-In : (u n : ℕ) (xs : List ℕ) → (u ≡ n) ⊎ In u xs → In u (put n xs)
put-In u n [] (inl e) = inl e
put-In u n [] (inr i) = elim i [ ]
put-In u n (x ∷ xs) is = elim (cases_lt x n) [
  | inl lt ↦ rw (le-false n x lt) (elim is [
    | inl e ↦ inr (put-In u n xs (inl e))
    | inr i ↦ elim i [ inl e ↦ inl e | inr j ↦ inr (put-In u n xs (inr j)) ]
  ])
  | inr le ↦ rw (le-true n x le) (elim is [ inl e ↦ inl e | inr i ↦ inr i ])
]

pub Rises-put : (n : ℕ) (xs : List ℕ) → Rises xs → (In n xs → ⊥) → Rises (put n xs)
Rises-put n [] r apart = (tt, tt)
Rises-put n (x ∷ xs) r apart = elim (cases_lt x n) [
  | inl lt ↦ rw (le-false n x lt) (
    AllByRecursion-each (λ y. x < y) (put n xs) (λ y i. elim (In-put y n xs i) [
      | inl e ↦ rw e lt
      | inr j ↦ AllByRecursion-In (λ y. x < y) y xs r.0 j
    ]),
    Rises-put n xs r.1 (λ i. apart (inr i)),
  )
  | inr le ↦ let below : n < x = (elim (cases_lt n x) [
    | inl lt ↦ lt
    | inr ge ↦ absurd (apart (inl (omega arith)))
  ]) in rw (le-true n x le) (
    AllByRecursion-each (λ y. n < y) (x ∷ xs) (λ y i. elim i [
      | inl e ↦ rw e below
      | inr j ↦ let more = AllByRecursion-In (λ y. x < y) y xs r.0 j in omega (arith, more, below)
    ]),
    r,
  )
]

pub length-put : (n : ℕ) (xs : List ℕ) → length (put n xs) ≡ suc (length xs)
length-put n [] = refl
length-put n (x ∷ xs) = elim (leb n x) as
    (λ b. length (cond b (n ∷ x ∷ xs) (x ∷ put n xs)) ≡ suc (suc (length xs)))
    [ true ↦ refl | false ↦ ap suc (length-put n xs) ]

-- ---- one less

pub In-but : (u n : ℕ) (xs : List ℕ) → In u (but n xs) → In u xs × ((u == n) ≡ false)
In-but u n xs i = let r = In-filtered (λ x. not (x == n)) u xs i in (r.0, not-true (u == n) r.1)

pub but-In : (u n : ℕ) (xs : List ℕ) → In u xs → (u == n) ≡ false → In u (but n xs)
but-In u n xs i e = In-filter (λ x. not (x == n)) u xs i (not-false (u == n) e)

pub Rises-filter : (f : ℕ → Bool) (xs : List ℕ) → Rises xs → Rises (filter f xs)
Rises-filter f [] r = tt
Rises-filter f (x ∷ xs) r = elim (f x) as (λ b. Rises (cond b (x ∷ filter f xs) (filter f xs))) [
  | true ↦ (
    AllByRecursion-each (λ y. x < y) (filter f xs) (λ y i. AllByRecursion-In (λ y. x < y) y xs r.0
        (In-filtered f y xs i).0),
    Rises-filter f xs r.1,
  )
  | false ↦ Rises-filter f xs r.1
]

-- what is not among the numbers leaves them
pub but-none : (n : ℕ) (xs : List ℕ) → ((x : ℕ) → In x xs → (x == n) ≡ false) → but n xs ≡ xs
but-none n xs none = filter-all (λ x. not (x == n)) xs (λ x i. not-false (x == n) (none x i))

apart-above : (n x : ℕ) → n < x → (x == n) ≡ false
apart-above n x h = grind (arith, nat_tests)

apart-below : (n x : ℕ) → x < n → (x == n) ≡ false
apart-below n x h = grind (arith, nat_tests)

-- ---- how many

-- rising numbers among others are not more than these
pub length-among : (xs ys : List ℕ) → Rises xs → Rises ys → ((x : ℕ) → In x xs → In x ys)
    → length xs ≤ length ys
length-among [] ys r s among = omega arith
length-among (x ∷ xs) [] r s among = elim (among x (inl refl)) [ ]
length-among (x ∷ xs) (y ∷ ys) r s among =
    let tail : (z : ℕ) → In z xs → In z ys = λ z i. elim (among z (inr i)) [
      | inl e ↦ absurd (elim (among x (inl refl)) [
        | inl f ↦ let more = AllByRecursion-In (λ z. x < z) z xs r.0 i in omega (arith, more, e, f)
        | inr j ↦ let more = AllByRecursion-In (λ z. x < z) z xs r.0 i in
            let over = AllByRecursion-In (λ z. y < z) x ys s.0 j in omega (arith, more, e, over)
      ])
      | inr j ↦ j
    ] in
    let le = length-among xs ys r.1 s.1 tail in omega (arith, le)

-- and fewer where one of these is not among them
pub length-but_one : (n : ℕ) (xs ys : List ℕ) → Rises xs → Rises ys → ((x : ℕ) → In x xs → In x ys)
    → In n ys → (In n xs → ⊥) → length xs < length ys
length-but_one n xs ys r s among has apart =
    let le = length-among (put n xs) ys (Rises-put n xs r apart) s (λ x i. elim (In-put x n xs i) [
      | inl e ↦ rw e has
      | inr j ↦ among x j
    ]) in
    let more = length-put n xs in omega (arith, le, more)

-- ---- the least

least-above : (n x : ℕ) (ys : List ℕ) → n ≤ x → ((y : ℕ) → In y ys → n ≤ y)
    → n ≤ option_map_or (min x) (least_of ys) x
least-above n x [] here all = here
least-above n x (y ∷ ys) here all =
    let e = least-above n y ys (all y (inl refl)) (λ z i. all z (inr i)) in omega (arith, e)

least-has : (n x : ℕ) (ys : List ℕ) → In n (x ∷ ys) → option_map_or (min x) (least_of ys) x ≤ n
least-has n x [] (inl e) = omega (arith, e)
least-has n x [] (inr i) = elim i [ ]
least-has n x (y ∷ ys) (inl e) = omega (arith, e)
least-has n x (y ∷ ys) (inr i) = let le = least-has n y ys i in omega (arith, le)

-- one that is among the numbers and below none of them is their least
pub least_of-is : (n : ℕ) (xs : List ℕ) → In n xs → ((x : ℕ) → In x xs → n ≤ x)
    → least_of xs ≡ Some n
least_of-is n [] i all = elim i [ ]
least_of-is n (x ∷ xs) i all =
    let low = least-above n x xs (all x (inl refl)) (λ z j. all z (inr j)) in
    let high = least-has n x xs i in
    let same : option_map_or (min x) (least_of xs) x ≡ n = omega (arith, low, high) in
    ap Some same

-- the least of numbers is the first of the rising ones among which the same numbers are
pub least_of-first : (xs : List ℕ) (first : ℕ) (rest : List ℕ) → Rises (first ∷ rest)
    → ((n : ℕ) → In n (first ∷ rest) → In n xs) → ((n : ℕ) → In n xs → In n (first ∷ rest))
    → least_of xs ≡ Some first
least_of-first xs first rest r sound whole = least_of-is first xs (sound first (inl refl)) (λ x i.
    elim (whole x i) [
      | inl e ↦ omega (arith, e)
      | inr j ↦ let more = AllByRecursion-In (λ y. first < y) x rest r.0 j in omega (arith, more)
    ])

pub least_of-none : (xs : List ℕ) → ((n : ℕ) → In n xs → ⊥) → least_of xs ≡ None
least_of-none [] none = refl
least_of-none (x ∷ xs) none = absurd (none x (inl refl))

-- ---- lists of items by rising numbers

pub Rises-push : (n : ℕ) (xs : List ℕ) → Rises xs → ((x : ℕ) → In x xs → x < n)
    → Rises (xs ++ n ∷ [])
Rises-push n [] r below = (tt, tt)
Rises-push n (x ∷ xs) r below = (
  AllByRecursion-each (λ y. x < y) (xs ++ n ∷ []) (λ y i. elim (In-append y xs (n ∷ []) i) [
    | inl j ↦ AllByRecursion-In (λ y. x < y) y xs r.0 j
    | inr j ↦ elim j [ inl e ↦ rw e (below x (inl refl)) | inr none ↦ elim none [ ] ]
  ]),
  Rises-push n xs r.1 (λ y i. below y (inr i)),
)

pub Rises-map-filter : {X : Type 0} (f : X → ℕ) (t : X → Bool) (xs : List X) → Rises (map f xs)
    → Rises (map f (filter t xs))
Rises-map-filter f t [] r = tt
Rises-map-filter f t (x ∷ xs) r = elim (t x) as
    (λ b. Rises (map f (cond b (x ∷ filter t xs) (filter t xs)))) [
      | true ↦ (
        AllByRecursion-each (λ y. f x < y) (map f (filter t xs)) (λ y i.
            let m = In-mapped f y (filter t xs) i in
            let more = AllByRecursion-In (λ y. f x < y) (f m.0) (map f xs) r.0
            (In-map f m.0 xs (In-filtered t m.0 xs m.1).0) in
            rw m.2 more),
        Rises-map-filter f t xs r.1,
      )
      | false ↦ Rises-map-filter f t xs r.1
    ]

-- one that is among rising numbers and below none of them is the first
pub head-is : (n : ℕ) (xs : List ℕ) → Rises xs → In n xs → ((x : ℕ) → In x xs → n ≤ x)
    → slice_get xs 0 ≡ Some n
head-is n [] r i low = elim i [ ]
head-is n (x ∷ xs) r (inl e) low = ap Some (sym e)
head-is n (x ∷ xs) r (inr i) low =
    let more = AllByRecursion-In (λ y. x < y) n xs r.0 i in
    let le = low x (inl refl) in absurd (omega (arith, more, le))

-- and the first is among them and below none
pub head-In : (n : ℕ) (xs : List ℕ) → slice_get xs 0 ≡ Some n → In n xs
head-In n [] e = cc
head-In n (x ∷ xs) e = let is : x ≡ n = cc in inl (sym is)

pub head-low : (n : ℕ) (xs : List ℕ) → Rises xs → slice_get xs 0 ≡ Some n → (x : ℕ) → In x xs
    → n ≤ x
head-low n [] r e x i = elim i [ ]
head-low n (y ∷ xs) r e x (inl f) = let is : y ≡ n = cc in omega (arith, is, f)
head-low n (y ∷ xs) r e x (inr i) = let is : y ≡ n = cc in
    let more = AllByRecursion-In (λ z. y < z) x xs r.0 i in omega (arith, is, more)

-- without the first, the rest is left
pub but-head : (n : ℕ) (xs : List ℕ) → Rises xs → slice_get xs 0 ≡ Some n → but n xs ≡ drop 1 xs
but-head n [] r e = cc
but-head n (x ∷ xs) r e = let is : x ≡ n = cc in rw (number-same x n is) (but-none n xs (λ y i.
    let more = AllByRecursion-In (λ z. x < z) y xs r.0 i in apart-above n y (omega (
      arith,
      more,
      is,
    ))))

pub In-some : {X : Type 0} (x : X) (xs : List X) → In x xs → 0 < length xs
In-some x [] i = elim i [ ]
In-some x (y ∷ ys) i = omega arith

pub some-In : {X : Type 0} (xs : List X) → 0 < length xs → (x : X) × In x xs
some-In [] h = absurd (omega arith)
some-In (x ∷ xs) h = (x, inl refl)
