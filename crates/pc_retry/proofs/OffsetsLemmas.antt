-- What is kept of offsets while some are added and some are gone, and the least of them.
use Rattle.std.proofs.Common.{◌≡◌, ◌⊎◌, ℕ, zero, suc, ◌+◌, ◌<◌, ◌≤◌, min, Bool, true, false, ◌==◌, cond, List, [], ◌∷◌, length, get_or, Option, Some, None, IfSome, IfNone, refl, sym, ap, subst, ◌∙◌, arith, inl, inr, eq-eqb}
use Rattle.std.specs.List.Sorted.{IsPermutation}
use Rattle.std.specs.Option.{option_map_or}
use Rattle.std.specs.Ordering.{is_lt}
use Rattle.std.specs.BinaryHeap.{IsHeap, IsUpperBound, PopsGreatest}
use Rattle.std.specs.declared.cmp.Reverse.{Reverse}
use Rattle.std.proofs.lemmas.Bool.{cases_Bool, cases_lt, eqb-true}
use Rattle.std.proofs.lemmas.Bool.Decides.{nat_tests}
use Rattle.std.proofs.lemmas.List.{length-map}
use Rattle.std.proofs.lemmas.List.Sums.{count_by-le-length, sum_by-cons}
use Rattle.std.proofs.lemmas.List.Sorted.{IsPermutation-map, length_permutation, sum_by-IsPermutation}
use Rattle.pc_model.specs.Numbers.{least_of}
use Rattle.pc_retry.specs.Offsets.{HoldAt, by_offset, plain, share_least, times}

-- ---- how often an offset is there

times-cons : (o x : ℕ) (xs : List ℕ) → times o (x ∷ xs) ≡ cond (x == o) 1 0 + times o xs
times-cons o x xs = sum_by-cons (λ u. cond (u == o) 1 0) x xs

pub times-permuted : (o : ℕ) (xs ys : List ℕ) → IsPermutation xs ys → times o ys ≡ times o xs
times-permuted o xs ys moved = sum_by-IsPermutation (λ u. cond (u == o) 1 0) xs ys moved

times-le : (o : ℕ) (xs : List ℕ) → times o xs ≤ length xs
times-le o xs = count_by-le-length (λ u. u == o) xs

-- the offsets in another order
pub hold-permuted : (offsets others all out : List ℕ) → IsPermutation offsets others
    → HoldAt offsets all out → HoldAt others all out
hold-permuted offsets others all out moved hold = record {
  each = λ o. hold.each o ∙ ap (λ (n : ℕ). n + times o out)
      (sym (times-permuted o offsets others moved));
  count = hold.count ∙ ap (λ (n : ℕ). n + length out) (sym (length_permutation offsets others moved));
}

-- one more is added
pub hold-put : (x : ℕ) (offsets all more out : List ℕ) → IsPermutation (x ∷ all) more
    → HoldAt offsets all out → HoldAt (x ∷ offsets) more out
hold-put x offsets all more out moved hold = record {
  each = λ o. let here = hold.each o in let now = times-permuted o (x ∷ all) more moved in
      omega (arith, here, now, times-cons o x all, times-cons o x offsets);
  count = let here = hold.count in let now = length_permutation (x ∷ all) more moved in
      omega (arith, here, now);
}

-- one of them is gone
pub hold-taken : (x : ℕ) (offsets all out more : List ℕ) → IsPermutation (x ∷ out) more
    → HoldAt (x ∷ offsets) all out → HoldAt offsets all more
hold-taken x offsets all out more moved hold = record {
  each = λ o. let here = hold.each o in let now = times-permuted o (x ∷ out) more moved in
      omega (arith, here, now, times-cons o x out, times-cons o x offsets);
  count = let here = hold.count in let now = length_permutation (x ∷ out) more moved in
      omega (arith, here, now);
}

-- one is dropped from both
pub hold-dropped : (x : ℕ) (offsets all less out fewer : List ℕ) → IsPermutation all (x ∷ less)
    → IsPermutation out (x ∷ fewer) → HoldAt offsets all out → HoldAt offsets less fewer
hold-dropped x offsets all less out fewer moved drawn hold = record {
  each = λ o. let here = hold.each o in
      let one = times-permuted o all (x ∷ less) moved in
      let two = times-permuted o out (x ∷ fewer) drawn in
      omega (arith, here, one, two, times-cons o x less, times-cons o x fewer);
  count = let here = hold.count in let one = length_permutation all (x ∷ less) moved in
      let two = length_permutation out (x ∷ fewer) drawn in omega (arith, here, one, two);
}

-- ---- the least

-- the number is one of these, and none of them is below it
pub record IsLeast (x : ℕ) (xs : List ℕ) : Type 0 where
  pub there : 0 < times x xs
  pub least : (o : ℕ) → 0 < times o xs → x ≤ o

first-there : (x : ℕ) (xs : List ℕ) → 0 < times x (x ∷ xs)
first-there x xs =
    let more = times-cons x x xs ∙ ap (λ (b : Bool). cond b 1 0 + times x xs) (eq-eqb x x refl) in
    omega (arith, more)

later-there : (o x : ℕ) (xs : List ℕ) → 0 < times o xs → 0 < times o (x ∷ xs)
later-there o x xs there = omega (arith, there, times-cons o x xs)

there-cases : (o x : ℕ) (xs : List ℕ) → 0 < times o (x ∷ xs) → (x ≡ o) ⊎ (0 < times o xs)
there-cases o x xs there = elim (cases_Bool (x == o)) [
  | inl same ↦ inl (eqb-true x o same)
  | inr apart ↦ inr (let more = times-cons o x xs
      ∙ ap (λ (b : Bool). cond b 1 0 + times o xs) apart in omega (arith, more, there))
]

least-cons : (x m : ℕ) (xs : List ℕ) → IsLeast m xs → IsLeast (min x m) (x ∷ xs)
least-cons x m xs is = record {
  there = elim (cases_lt m x) [
    | inl below ↦ let at : min x m ≡ m = omega (arith, below) in
        subst (λ (u : ℕ). 0 < times u (x ∷ xs)) (sym at) (later-there m x xs is.there)
    | inr above ↦ let at : min x m ≡ x = omega (arith, above) in
        subst (λ (u : ℕ). 0 < times u (x ∷ xs)) (sym at) (first-there x xs)
  ];
  least = λ o there. elim (there-cases o x xs there) [
    | inl same ↦ omega (arith, same)
    | inr more ↦ let le = is.least o more in omega (arith, le)
  ];
}

least-one : (x : ℕ) → IsLeast x (x ∷ [])
least-one x = record {
  there = first-there x [];
  least = λ o there. elim (there-cases o x [] there) [
    | inl same ↦ omega (arith, same)
    | inr none ↦ absurd (omega (arith, none))
  ];
}

-- what is least of some numbers, as the definition has it
least-of : (x : ℕ) (xs : List ℕ) → IsLeast (option_map_or (min x) (least_of xs) x) (x ∷ xs)
least-of x [] = least-one x
least-of x (y ∷ ys) = least-cons x (option_map_or (min y) (least_of ys) y) (y ∷ ys) (least-of y ys)

least-same : (x y : ℕ) (xs : List ℕ) → IsLeast x xs → IsLeast y xs → x ≡ y
least-same x y xs a b =
    let low = a.least y b.there in let high = b.least x a.there in omega (arith, low, high)

pub least-is : (x : ℕ) (xs : List ℕ) → IsLeast x xs → least_of xs ≡ Some x
least-is x [] is = let nothing = is.there in absurd (omega (arith, nothing))
least-is x (y ∷ ys) is =
    ap Some (least-same (option_map_or (min y) (least_of ys) y) x (y ∷ ys) (least-of y ys) is)

pub is-least : (x : ℕ) (xs : List ℕ) → least_of xs ≡ Some x → IsLeast x xs
is-least x [] is = cc
is-least x (y ∷ ys) is =
    let same : option_map_or (min y) (least_of ys) y ≡ x = cc in
    subst (λ (m : ℕ). IsLeast m (y ∷ ys)) same (least-of y ys)

least-none : (xs : List ℕ) → least_of xs ≡ None → length xs ≡ 0
least-none [] none = refl
least-none (x ∷ xs) none = cc

none-least : (xs : List ℕ) → length xs ≡ 0 → least_of xs ≡ None
none-least [] none = refl
none-least (x ∷ xs) none = absurd (omega (arith, none))

option_cases : (o : Option ℕ) → (o ≡ None) ⊎ ((n : ℕ) × (o ≡ Some n))
option_cases None = inl refl
option_cases (Some n) = inr (n, refl)

zero-or-more : (n : ℕ) → (n ≡ 0) ⊎ (0 < n)
zero-or-more zero = inl refl
zero-or-more (suc n) = inr (omega arith)

-- where the least of what was added is not the least that is gone, it is the least that is there
pub hold-least : (offsets all out : List ℕ) → HoldAt offsets all out
    → share_least all out ≡ false → least_of offsets ≡ least_of all
hold-least offsets all out hold apart = elim (option_cases (least_of all)) [
  | inl none ↦ none-least offsets
      (let here = hold.count in let none_there = least-none all none in
      omega (arith, here, none_there)) ∙ sym none
  | inr some ↦ least-is some.0 offsets (record {
    there = let here = hold.each some.0 in
        let there = (is-least some.0 all some.1).there in
        let stays = not-gone some.0 some.1 in omega (arith, here, there, stays);
    least = λ o there. (is-least some.0 all some.1).least o
        (let here = hold.each o in omega (arith, here, there));
  }) ∙ sym some.1
]
  where
    not-gone : (x : ℕ) → least_of all ≡ Some x → times x out ≡ 0
    not-gone x is = elim (zero-or-more (times x out)) [
      | inl none ↦ none
      | inr some ↦ elim (option_cases (least_of out)) [
        | inl nothing ↦ let empty = least-none out nothing in
            absurd (omega (arith, some, times-le x out, empty))
        | inr other ↦
            let gone = is-least other.0 out other.1 in
            let low = (is-least x all is).least other.0
            (let here = hold.each other.0 in let at = gone.there in omega (arith, here, at)) in
            let high = gone.least x some in
            let same : (x == other.0) ≡ true = eq-eqb x other.0 (omega (arith, low, high)) in
            let shared : share_least all out ≡ true = rw (is, other.1) same in
            let nothing : true ≡ false = sym shared ∙ apart in cc nothing
      ]
    ]

-- ---- heaps

bounded : (x : Reverse ℕ) (xs : List (Reverse ℕ)) → IsUpperBound by_offset x xs → (o : ℕ)
    → 0 < times o (plain xs) → x.0 ≤ o
bounded x [] bound o there = absurd (omega arith)
bounded x (y ∷ ys) bound o there = elim (there-cases o y.0 (plain ys) there) [
  | inl same ↦ let le = not_above x y bound.0 in omega (arith, le, same)
  | inr more ↦ bounded x ys bound.1 o more
]
  where
    not_above : (a b : Reverse ℕ) → is_lt (by_offset a b) ≡ false → a.0 ≤ b.0
    not_above a b low = grind (arith, nat_tests)

-- the first of a heap in order is the least
pub heap-least : (x : Reverse ℕ) (xs : List (Reverse ℕ)) → 0 < length xs → x ≡ get_or xs 0 x
    → IsUpperBound by_offset x xs → least_of (plain xs) ≡ Some x.0
heap-least x [] some is bound = absurd (omega arith)
heap-least x (y ∷ ys) some is bound = least-is x.0 (plain (y ∷ ys)) (record {
  there = ap-there;
  least = bounded x (y ∷ ys) bound;
})
  where
    ap-there : 0 < times x.0 (plain (y ∷ ys))
    ap-there = subst (λ (z : Reverse ℕ). 0 < times x.0 (z.0 ∷ plain ys)) is
        (first-there x.0 (plain ys))

-- what a pop takes out is the least
pub popped : (r : Option (Reverse ℕ)) (items left : List (Reverse ℕ)) (n : ℕ) → n ≡ length items
    → IfSome r (λ x. x ≡ get_or items 0 x) → IfSome r (λ x. IsPermutation items (x ∷ left))
    → IfSome r (λ x. PopsGreatest by_offset items x left) → IsHeap by_offset items
    → IfNone r (n ≡ 0) → (o : ℕ) → least_of (plain items) ≡ Some o
    → IsPermutation (plain items) (o ∷ plain left)
popped None [] left n count top moved bound heap none o first = cc
popped None (x ∷ xs) left n count top moved bound heap none o first = absurd (omega (arith, count, none))
popped (Some y) [] left n count top moved bound heap none o first = cc
popped (Some y) (x ∷ xs) left n count top moved bound heap none o first =
    let at : Some y.0 ≡ Some o = sym (heap-least y (x ∷ xs) (omega arith) top (bound heap).1)
    ∙ first in
    let same : y.0 ≡ o = cc in
    subst (λ (u : ℕ). IsPermutation (plain (x ∷ xs)) (u ∷ plain left)) same
    (IsPermutation-map (λ (z : Reverse ℕ). z.0) (x ∷ xs) (y ∷ left) moved)

-- ---- while both lose the same

-- the heaps while what is the least of both is dropped
pub record IsTidying (all_before out_before all out : List (Reverse ℕ)) : Type 0 where
  pub added : IsHeap by_offset all
  pub gone : IsHeap by_offset out
  pub same : (offsets : List ℕ) → HoldAt offsets (plain all_before) (plain out_before)
      → HoldAt offsets (plain all) (plain out)
  pub fewer : length all ≤ length all_before

abbrev Drops : List (Reverse ℕ) → List (Reverse ℕ) → Type 0
Drops old new = (o : ℕ) → least_of (plain old) ≡ Some o
    → IsPermutation (plain old) (o ∷ plain new)

share-both : (xs ys : List ℕ) → share_least xs ys ≡ true
    → (x : ℕ) × (least_of xs ≡ Some x) × (least_of ys ≡ Some x)
share-both xs ys is = elim (option_cases (least_of xs)) [
  | inl none ↦ let nothing : false ≡ true = rw none at is in cc nothing
  | inr one ↦ elim (option_cases (least_of ys)) [
    | inl none ↦ let nothing : false ≡ true = rw (one.1, none) at is in cc nothing
    | inr two ↦ let same : (one.0 == two.0) ≡ true = rw (one.1, two.1) at is in
        (one.0, one.1, two.1 ∙ ap Some (sym (eqb-true one.0 two.0 same)))
  ]
]

-- both drop the same
pub tidying-step : (all_before out_before all out less fewer : List (Reverse ℕ))
    → IsTidying all_before out_before all out → IsHeap by_offset less → IsHeap by_offset fewer
    → Drops all less → Drops out fewer → length less ≤ length all
    → share_least (plain all) (plain out) ≡ true → IsTidying all_before out_before less fewer
tidying-step all_before out_before all out less fewer tidying added gone drops draws le shared =
    let both = share-both (plain all) (plain out) shared in record {
      added = added;
      gone = gone;
      same = λ offsets hold. hold-dropped both.0 offsets (plain all) (plain less) (plain out)
          (plain fewer) (drops both.0 both.1) (draws both.0 both.2) (tidying.same offsets hold);
      fewer = let before = tidying.fewer in omega (arith, before, le);
    }

-- and one less is gone
pub tidying-less : (out fewer : List (Reverse ℕ)) (all : List ℕ) → Drops out fewer
    → share_least all (plain out) ≡ true → length fewer < length out
tidying-less out fewer all draws shared =
    let both = share-both all (plain out) shared in
    let moved = length_permutation (plain out) (both.0 ∷ plain fewer) (draws both.0 both.2) in
    omega (
      arith,
      moved,
      length-map out (λ (z : Reverse ℕ). z.0),
      length-map fewer (λ (z : Reverse ℕ). z.0),
    )
