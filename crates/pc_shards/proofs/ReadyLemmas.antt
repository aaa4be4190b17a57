-- Numbers in rising order, whatever order they are kept in.
use Rattle.std.proofs.Common.{◌≡◌, ℕ, suc, ◌<◌, ◌≤◌, Bool, true, false, not, ◌==◌, leb, cond, List, [], ◌∷◌, ◌++◌, map, length, get_or, slice_get, Some, refl, ap, sym, subst, inl, inr, ◌∙◌, arith}
use Rattle.std.specs.Prelude.{filter}
use Rattle.std.specs.List.{IsDistinct, list_any}
use Rattle.std.specs.List.Sorted.{IsPermutation}
use Rattle.std.specs.Ordering.{is_lt}
use Rattle.std.specs.BinaryHeap.{IsUpperBound}
use Rattle.std.specs.declared.cmp.Reverse.{Reverse}
use Rattle.std.proofs.lemmas.Bool.{cases_Bool}
use Rattle.std.proofs.lemmas.Bool.Decides.{nat_tests}
use Rattle.std.proofs.lemmas.List.Sorted.{list_any-IsPermutation}
use Rattle.std.proofs.lemmas.Map.Keys.{IsDistinct-IsPermutation}
use Rattle.pc_shards.specs.Ready.{by_offset}
use Rattle.pc_shards.specs.Rising.{In, Rises, but, put, rising}
use Rattle.pc_shards.proofs.Lists.{AllByRecursion-In, AllByRecursion-each, In-filter, In-filtered, In-list_any, In-mapped, list_any-In, number-is, number-is_not, number-other, number-same}
use Rattle.pc_shards.proofs.RisingLemmas.{In-but, In-put, Rises-filter, Rises-put, but-In, but-none, head-is, length-put, put-In}

-- two lists that rise are the same where they have the same members
pub rises-same : (xs ys : List ℕ) → Rises xs → Rises ys → ((u : ℕ) → In u xs → In u ys)
    → ((u : ℕ) → In u ys → In u xs) → xs ≡ ys
rises-same [] [] r s to from = refl
rises-same [] (y ∷ ys) r s to from = elim (from y (inl refl)) [ ]
rises-same (x ∷ xs) [] r s to from = elim (to x (inl refl)) [ ]
rises-same (x ∷ xs) (y ∷ ys) r s to from =
    let low : y ≤ x = elim (to x (inl refl)) [
      | inl e ↦ omega (arith, e)
      | inr i ↦ let lt = AllByRecursion-In (λ z. y < z) x ys s.0 i in omega (arith, lt)
    ] in
    let high : x ≤ y = elim (from y (inl refl)) [
      | inl e ↦ omega (arith, e)
      | inr i ↦ let lt = AllByRecursion-In (λ z. x < z) y xs r.0 i in omega (arith, lt)
    ] in
    let same : x ≡ y = omega (arith, low, high) in
    ap (λ z. z ∷ xs) same ∙ ap (λ zs. y ∷ zs) (rises-same xs ys r.1 s.1
    (λ u i. elim (to u (inr i)) [
      | inl e ↦ let lt = AllByRecursion-In (λ z. x < z) u xs r.0 i in
          absurd (omega (arith, lt, e, same))
      | inr j ↦ j
    ])
    (λ u i. elim (from u (inr i)) [
      | inl e ↦ let lt = AllByRecursion-In (λ z. y < z) u ys s.0 i in
          absurd (omega (arith, lt, e, same))
      | inr j ↦ j
    ]))

pub In-rising : (u : ℕ) (xs : List ℕ) → In u (rising xs) → In u xs
In-rising u [] i = elim i [ ]
In-rising u (x ∷ xs) i = elim (In-put u x (rising xs) i)
    [ inl e ↦ inl e | inr j ↦ inr (In-rising u xs j) ]

pub rising-In : (u : ℕ) (xs : List ℕ) → In u xs → In u (rising xs)
rising-In u [] i = elim i [ ]
rising-In u (x ∷ xs) (inl e) = put-In u x (rising xs) (inl e)
rising-In u (x ∷ xs) (inr i) = put-In u x (rising xs) (inr (rising-In u xs i))

-- what rises with a number more rises without it, and does not have it
pub put-rises : (n : ℕ) (xs : List ℕ) → Rises (put n xs) → Rises xs × (In n xs → ⊥)
put-rises n [] r = (tt, λ i. elim i [ ])
put-rises n (x ∷ xs) r = elim (cases_Bool (leb n x)) [
  | inl le ↦ let s : Rises (n ∷ x ∷ xs) = subst (λ b. Rises (cond b (n ∷ x ∷ xs) (x ∷ put n xs)))
      le r in
      (s.1, λ i. let lt = AllByRecursion-In (λ z. n < z) n (x ∷ xs) s.0 i in omega (arith, lt))
  | inr gt ↦ let s : Rises (x ∷ put n xs) = subst (λ b. Rises (cond b (n ∷ x ∷ xs)
      (x ∷ put n xs))) gt r in
      let rest = put-rises n xs s.1 in
      let above : x < n = grind (arith, nat_tests) in (
        (
          AllByRecursion-each (λ z. x < z) xs (λ u i. AllByRecursion-In (λ z. x < z) u (put n xs) s.0
              (put-In u n xs (inr i))),
          rest.0,
        ),
        λ i. elim i [ inl e ↦ omega (arith, e, above) | inr j ↦ rest.1 j ],
      )
]

abbrev same_number : ℕ → ℕ → Bool
same_number a b = a == b

distinct-rises : (xs : List ℕ) → IsDistinct same_number xs → Rises (rising xs)
unfolding IsDistinct
distinct-rises [] d = tt
distinct-rises (x ∷ xs) d = Rises-put x (rising xs) (distinct-rises xs d.1) (λ i.
    number-is_not x x (AllByRecursion-In (λ y. same_number x y ≡ false) x xs d.0
    (In-rising x xs i)) refl)

rises-distinct : (xs : List ℕ) → Rises (rising xs) → IsDistinct same_number xs
unfolding IsDistinct
rises-distinct [] r = tt
rises-distinct (x ∷ xs) r = let p = put-rises x (rising xs) r in (
  AllByRecursion-each (λ y. same_number x y ≡ false) xs (λ u i. number-other x u (λ same.
      p.1 (rising-In x xs (subst (λ v. In v xs) (sym same) i)))),
  rises-distinct xs p.0,
)

-- another order makes no other list
pub rising-permuted : (xs ys : List ℕ) → IsPermutation xs ys → Rises (rising xs)
    → rising ys ≡ rising xs
rising-permuted xs ys moved r =
    let any : (u : ℕ) → list_any (λ y. y == u) xs ≡ list_any (λ y. y == u) ys =
    λ u. list_any-IsPermutation (λ y. y == u) xs ys moved in
    rises-same (rising ys) (rising xs)
    (distinct-rises ys (IsDistinct-IsPermutation same_number flips xs ys moved
    (rises-distinct xs r))) r
    (λ u i. rising-In u xs (has u xs (any u ∙ got u ys (In-rising u ys i))))
    (λ u i. rising-In u ys (has u ys (sym (any u) ∙ got u xs (In-rising u xs i))))
  where
    flips : (x y : ℕ) → same_number x y ≡ same_number y x
    flips x y = grind (arith, nat_tests)

    got : (u : ℕ) (zs : List ℕ) → In u zs → list_any (λ y. y == u) zs ≡ true
    got u zs i = list_any-In (λ y. y == u) u zs i (number-same u u refl)

    has : (u : ℕ) (zs : List ℕ) → list_any (λ y. y == u) zs ≡ true → In u zs
    has u zs is = let m = In-list_any (λ y. y == u) zs is in
        subst (λ v. In v zs) (number-is m.0 u m.2) m.1

-- what is kept of them rises too
pub rises-filtered : (f : ℕ → Bool) (xs : List ℕ) → Rises (rising xs) → Rises (rising (filter f xs))
rises-filtered f [] r = tt
rises-filtered f (x ∷ xs) r = let p = put-rises x (rising xs) r in
    elim (f x) as (λ b. Rises (rising (cond b (x ∷ filter f xs) (filter f xs)))) [
      | true ↦ Rises-put x (rising (filter f xs)) (rises-filtered f xs p.0) (λ i.
          p.1 (rising-In x xs (In-filtered f x xs (In-rising x (filter f xs) i)).0))
      | false ↦ rises-filtered f xs p.0
    ]

pub rising-filtered : (f : ℕ → Bool) (xs : List ℕ) → Rises (rising xs)
    → rising (filter f xs) ≡ filter f (rising xs)
rising-filtered f xs r = rises-same (rising (filter f xs)) (filter f (rising xs))
    (rises-filtered f xs r) (Rises-filter f (rising xs) r)
    (λ u i. let m = In-filtered f u xs (In-rising u (filter f xs) i) in
    In-filter f u (rising xs) (rising-In u xs m.0) m.1)
    (λ u i. let m = In-filtered f u (rising xs) i in
    rising-In u (filter f xs) (In-filter f u xs (In-rising u xs m.0) m.1))

-- a number more, and without it again
pub but-put : (n : ℕ) (xs : List ℕ) → Rises (put n xs) → but n (put n xs) ≡ xs
but-put n xs r = let p = put-rises n xs r in
    rises-same (but n (put n xs)) xs (Rises-filter (λ x. not (x == n)) (put n xs) r) p.0
    (λ u i. let j = In-but u n (put n xs) i in elim (In-put u n xs j.0)
    [ inl e ↦ number-is_not u n j.1 e | inr k ↦ k ])
    (λ u i. but-In u n (put n xs) (put-In u n xs (inr i)) (number-other u n (λ same.
    p.1 (subst (λ v. In v xs) same i))))

pub length-rising : (xs : List ℕ) → length (rising xs) ≡ length xs
length-rising [] = refl
length-rising (x ∷ xs) = length-put x (rising xs) ∙ ap suc (length-rising xs)

-- without a number that is not there
pub but-apart : (n : ℕ) (xs : List ℕ) → (In n xs → ⊥) → but n xs ≡ xs
but-apart n xs apart = but-none n xs (λ x i. number-other x n (λ same.
    apart (subst (λ v. In v xs) same i)))

-- a number above all comes last
pub put-last : (n : ℕ) (xs : List ℕ) → ((u : ℕ) → In u xs → u < n) → put n xs ≡ xs ++ n ∷ []
put-last n [] above = refl
put-last n (x ∷ xs) above =
    let lt = above x (inl refl) in
    let gt : leb n x ≡ false = grind (arith, nat_tests) in
    rw gt (ap (λ zs. x ∷ zs) (put-last n xs (λ u i. above u (inr i))))

-- ---- heaps

-- the first of a heap in order is the least
pub heap-least : (x : Reverse ℕ) (xs : List (Reverse ℕ)) → 0 < length xs
    → x ≡ get_or xs 0 x → IsUpperBound by_offset x xs → Rises (rising (map (λ o. o.0) xs))
    → slice_get (rising (map (λ o. o.0) xs)) 0 ≡ Some x.0
heap-least x [] some is bound r = absurd (omega arith)
heap-least x (y ∷ ys) some is bound r = head-is x.0 (rising (map (λ o. o.0) (y ∷ ys))) r
    (rising-In x.0 (map (λ o. o.0) (y ∷ ys)) (inl (ap (λ (o : Reverse ℕ). o.0) is)))
    (λ u i. let m = In-mapped (λ (o : Reverse ℕ). o.0) u (y ∷ ys)
    (In-rising u (map (λ o. o.0) (y ∷ ys)) i) in
    let low = AllByRecursion-In (λ (z : Reverse ℕ). is_lt (by_offset x z) ≡ false) m.0 (y ∷ ys)
    bound m.1 in
    let at = m.2 in not_above x.0 m.0.0 u low at)
  where
    not_above : (a b u : ℕ) → is_lt (by_offset (record { 0 = a }) (record { 0 = b })) ≡ false
        → u ≡ b → a ≤ u
    not_above a b u low at = grind (arith, nat_tests)

pub map-reversed : (f : ℕ → Bool) (xs : List (Reverse ℕ))
    → map (λ o. o.0) (filter (λ o. f o.0) xs) ≡ filter f (map (λ o. o.0) xs)
map-reversed f [] = refl
map-reversed f (x ∷ xs) = elim (f x.0) as (λ b. map (λ o. o.0)
    (cond b (x ∷ filter (λ o. f o.0) xs) (filter (λ o. f o.0) xs))
    ≡ cond b (x.0 ∷ filter f (map (λ o. o.0) xs)) (filter f (map (λ o. o.0) xs))) [
      | true ↦ ap (λ os. x.0 ∷ os) (map-reversed f xs)
      | false ↦ map-reversed f xs
    ]

-- without offsets there is no first
pub no-first : {P : Type 0} (xs : List (Reverse ℕ)) (n : ℕ) → length xs ≡ 0
    → slice_get (rising (map (λ o. o.0) xs)) 0 ≡ Some n → P
no-first [] n none first = cc
no-first (x ∷ xs) n none first = absurd (omega (arith, none))
