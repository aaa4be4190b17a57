-- Members of lists, the least and the greatest of numbers, and rising logs.
use Rattle.std.proofs.Common.{◌≡◌, ◌⊎◌, ℕ, ◌≤◌, min, max, Bool, true, false, not, ◌&&◌, ◌||◌, cond, List, [], ◌∷◌, ◌++◌, map, Option, Some, None, refl, ap, sym, subst, arith, inl, inr}
use Rattle.std.specs.Prelude.{filter, find}
use Rattle.std.specs.List.{list_any, list_all}
use Rattle.std.specs.Option.{option_map_or}
use Rattle.std.proofs.lemmas.Bool.{cases_Bool, cases_lt}
use Rattle.pc_model.specs.Numbers.{least_of, greatest_of}
pub use Rattle.pc_laws.specs.Lists.{In}

-- ---- tests

pub and-left : (a b : Bool) → (a && b) ≡ true → a ≡ true
and-left true b e = refl
and-left false b e = cc

pub and-right : (a b : Bool) → (a && b) ≡ true → b ≡ true
and-right true b e = e
and-right false b e = cc

pub or-cases : (a b : Bool) → (a || b) ≡ true → (a ≡ true) ⊎ (b ≡ true)
or-cases true b e = inl refl
or-cases false b e = inr e

pub or-left : (a b : Bool) → a ≡ true → (a || b) ≡ true
or-left true b e = refl
or-left false b e = cc

pub or-right : (a b : Bool) → b ≡ true → (a || b) ≡ true
or-right true b e = refl
or-right false b e = e

pub not-true : (a : Bool) → not a ≡ true → a ≡ false
not-true true e = cc
not-true false e = refl

pub not-false : (a : Bool) → not a ≡ false → a ≡ true
not-false true e = refl
not-false false e = cc

pub true-not-false : {P : Type 0} (a : Bool) → a ≡ true → a ≡ false → P
true-not-false a e f = cc

-- two tests are the same where each is passed with the other
pub same_test : (a b : Bool) → (a ≡ true → b ≡ true) → (b ≡ true → a ≡ true) → a ≡ b
same_test true true f g = refl
same_test true false f g = sym (f refl)
same_test false true f g = g refl
same_test false false f g = refl

-- ---- members

module _ {X : Type 0} where
  pub In-append_left : (x : X) (xs ys : List X) → In x xs → In x (xs ++ ys)
  In-append_left x [] ys i = elim i [ ]
  In-append_left x (z ∷ xs) ys (inl e) = inl e
  In-append_left x (z ∷ xs) ys (inr i) = inr (In-append_left x xs ys i)

  pub In-append_right : (x : X) (xs ys : List X) → In x ys → In x (xs ++ ys)
  In-append_right x [] ys i = i
  In-append_right x (z ∷ xs) ys i = inr (In-append_right x xs ys i)

  pub In-append : (x : X) (xs ys : List X) → In x (xs ++ ys) → In x xs ⊎ In x ys
  In-append x [] ys i = inr i
  In-append x (z ∷ xs) ys (inl e) = inl (inl e)
  In-append x (z ∷ xs) ys (inr i) = elim (In-append x xs ys i)
      [ inl a ↦ inl (inr a) | inr b ↦ inr b ]

  -- what passes a test stays in the filter, and what is in it stands in the list and passes
  pub In-filter : (f : X → Bool) (x : X) (xs : List X) → In x xs → f x ≡ true → In x (filter f xs)
  In-filter f x [] i e = elim i [ ]
  In-filter f x (y ∷ ys) (inl same) e =
      let at : f y ≡ true = rw (← same) e in rw at (inl same)
  In-filter f x (y ∷ ys) (inr i) e = elim (f y) as
      (λ b. In x (cond b (y ∷ filter f ys) (filter f ys)))
      [ true ↦ inr (In-filter f x ys i e) | false ↦ In-filter f x ys i e ]

  pub In-filtered : (f : X → Bool) (x : X) (xs : List X) → In x (filter f xs) → In x xs ×
      (f x ≡ true)
  In-filtered f x [] i = elim i [ ]
  In-filtered f x (y ∷ ys) i = elim (cases_Bool (f y)) [
    | inl t ↦ elim (subst (λ b. In x (cond b (y ∷ filter f ys) (filter f ys))) t i) [
      | inl e ↦ (inl e, rw e t)
      | inr j ↦ let r = In-filtered f x ys j in (inr r.0, r.1)
    ]
    | inr n ↦ let j : In x (filter f ys) = subst
        (λ b. In x (cond b (y ∷ filter f ys) (filter f ys))) n i in
        let r = In-filtered f x ys j in (inr r.0, r.1)
  ]

  pub In-find : (f : X → Bool) (x : X) (xs : List X) → find f xs ≡ Some x → In x xs × (f x ≡ true)
  In-find f x [] e = cc
  In-find f x (y ∷ ys) e = elim (cases_Bool (f y)) [
    | inl t ↦ let same : Some y ≡ Some x = subst (λ b. cond b (Some y) (find f ys) ≡ Some x) t e in
        let is : y ≡ x = cc in (inl (sym is), rw (← is) t)
    | inr n ↦ let r = In-find f x ys (subst (λ b. cond b (Some y) (find f ys) ≡ Some x) n e) in
        (inr r.0, r.1)
  ]

  pub In-list_any : (f : X → Bool) (xs : List X) → list_any f xs ≡ true →
      (x : X) × In x xs × (f x ≡ true)
  In-list_any f [] e = cc
  In-list_any f (y ∷ ys) e = elim (or-cases (f y) (list_any f ys) e) [
    | inl t ↦ (y, inl refl, t)
    | inr r ↦ let m = In-list_any f ys r in (m.0, inr m.1, m.2)
  ]

  pub list_any-In : (f : X → Bool) (x : X) (xs : List X) → In x xs → f x ≡ true → list_any f xs
      ≡ true
  list_any-In f x [] i e = elim i [ ]
  list_any-In f x (y ∷ ys) (inl same) e = or-left (f y) (list_any f ys) (rw (← same) e)
  list_any-In f x (y ∷ ys) (inr i) e = or-right (f y) (list_any f ys) (list_any-In f x ys i e)

  -- tests that agree on each item find the same
  pub list_any-each : (f g : X → Bool) (xs : List X) →
      ((x : X) → In x xs → f x ≡ g x) → list_any f xs ≡ list_any g xs
  list_any-each f g [] same = refl
  list_any-each f g (y ∷ ys) same = rw (
    same y (inl refl),
    list_any-each f g ys (λ x i. same x (inr i)),
  ) refl

  pub list_all-In : (f : X → Bool) (x : X) (xs : List X) → list_all f xs ≡ true → In x xs → f x
      ≡ true
  list_all-In f x [] e i = elim i [ ]
  list_all-In f x (y ∷ ys) e (inl same) = rw same (and-left (f y) (list_all f ys) e)
  list_all-In f x (y ∷ ys) e (inr i) = list_all-In f x ys (and-right (f y) (list_all f ys) e) i

  -- a test that each item passes is passed by all
  pub list_all-each : (f : X → Bool) (xs : List X) →
      ((x : X) → In x xs → f x ≡ true) → list_all f xs ≡ true
  list_all-each f [] each = refl
  list_all-each f (y ∷ ys) each = rw (each y (inl refl))
      (list_all-each f ys (λ x i. each x (inr i)))

pub In-map : {X Y : Type 0} (f : X → Y) (x : X) (xs : List X) → In x xs → In (f x) (map f xs)
In-map f x [] i = elim i [ ]
In-map f x (y ∷ ys) (inl e) = inl (ap f e)
In-map f x (y ∷ ys) (inr i) = inr (In-map f x ys i)

pub In-mapped : {X Y : Type 0} (f : X → Y) (y : Y) (xs : List X) → In y (map f xs) →
    (x : X) × In x xs × (f x ≡ y)
In-mapped f y [] i = elim i [ ]
In-mapped f y (x ∷ xs) (inl e) = (x, inl refl, sym e)
In-mapped f y (x ∷ xs) (inr i) = let m = In-mapped f y xs i in (m.0, inr m.1, m.2)

-- ---- the least and the greatest

least_of-In-step : (m x : ℕ) (xs : List ℕ) (o : Option ℕ) → ((k : ℕ) → o ≡ Some k → In k xs)
    → Some (option_map_or (min x) o x) ≡ Some m → In m (x ∷ xs)
least_of-In-step m x xs None rest e = let is : x ≡ m = cc in inl (sym is)
least_of-In-step m x xs (Some k) rest e = let is : min x k ≡ m = cc in elim (cases_lt x k) [
  | inl lt ↦ let same : m ≡ x = omega arith in inl same
  | inr le ↦ let same : m ≡ k = omega arith in inr
      (subst (λ (u : ℕ). In u xs) (sym same) (rest k refl))
]

pub least_of-In : (m : ℕ) (xs : List ℕ) → least_of xs ≡ Some m → In m xs
least_of-In m [] e = cc
least_of-In m (x ∷ xs) e = least_of-In-step m x xs (least_of xs) (λ k. least_of-In k xs) e

least_of-least-step : (m x y : ℕ) (ys : List ℕ) (o : Option ℕ)
    → ((k z : ℕ) → o ≡ Some k → In z ys → k ≤ z) → (o ≡ None → (z : ℕ) → In z ys → ⊥)
    → Some (option_map_or (min y) o y) ≡ Some m → In x (y ∷ ys) → m ≤ x
least_of-least-step m x y ys None least nothing e (inl same) = let is : y ≡ m = cc in omega arith
least_of-least-step m x y ys None least nothing e (inr i) = absurd (nothing refl x i)
least_of-least-step m x y ys (Some k) least nothing e (inl same) = let is : min y k ≡ m = cc
    in omega arith
least_of-least-step m x y ys (Some k) least nothing e (inr i) =
    let is : min y k ≡ m = cc in let below : k ≤ x = least k x refl i in omega arith

pub least_of-none : (x : ℕ) (xs : List ℕ) → least_of xs ≡ None → In x xs → ⊥
least_of-none x [] e i = i
least_of-none x (y ∷ ys) e i = cc

pub least_of-least : (m x : ℕ) (xs : List ℕ) → least_of xs ≡ Some m → In x xs → m ≤ x
least_of-least m x [] e i = elim i [ ]
least_of-least m x (y ∷ ys) e i =
    least_of-least-step m x y ys (least_of ys) (λ k z. least_of-least k z ys)
    (λ n z. least_of-none z ys n) e i

greatest_of-In-step : (m x : ℕ) (xs : List ℕ) (o : Option ℕ) → ((k : ℕ) → o ≡ Some k → In k xs)
    → Some (option_map_or (max x) o x) ≡ Some m → In m (x ∷ xs)
greatest_of-In-step m x xs None rest e = let is : x ≡ m = cc in inl (sym is)
greatest_of-In-step m x xs (Some k) rest e = let is : max x k ≡ m = cc in elim (cases_lt x k) [
  | inl lt ↦ let same : m ≡ k = omega arith in inr
      (subst (λ (u : ℕ). In u xs) (sym same) (rest k refl))
  | inr le ↦ let same : m ≡ x = omega arith in inl same
]

pub greatest_of-In : (m : ℕ) (xs : List ℕ) → greatest_of xs ≡ Some m → In m xs
greatest_of-In m [] e = cc
greatest_of-In m (x ∷ xs) e = greatest_of-In-step m x xs (greatest_of xs)
    (λ k. greatest_of-In k xs) e

pub greatest_of-none : (x : ℕ) (xs : List ℕ) → greatest_of xs ≡ None → In x xs → ⊥
greatest_of-none x [] e i = i
greatest_of-none x (y ∷ ys) e i = cc

greatest_of-greatest-step : (m x y : ℕ) (ys : List ℕ) (o : Option ℕ)
    → ((k z : ℕ) → o ≡ Some k → In z ys → z ≤ k) → (o ≡ None → (z : ℕ) → In z ys → ⊥)
    → Some (option_map_or (max y) o y) ≡ Some m → In x (y ∷ ys) → x ≤ m
greatest_of-greatest-step m x y ys None most nothing e (inl same) = let is : y ≡ m = cc
    in omega arith
greatest_of-greatest-step m x y ys None most nothing e (inr i) = absurd (nothing refl x i)
greatest_of-greatest-step m x y ys (Some k) most nothing e (inl same) = let is : max y k ≡ m = cc
    in omega arith
greatest_of-greatest-step m x y ys (Some k) most nothing e (inr i) =
    let is : max y k ≡ m = cc in let above : x ≤ k = most k x refl i in omega arith

pub greatest_of-greatest : (m x : ℕ) (xs : List ℕ) → greatest_of xs ≡ Some m → In x xs → x ≤ m
greatest_of-greatest m x [] e i = elim i [ ]
greatest_of-greatest m x (y ∷ ys) e i =
    greatest_of-greatest-step m x y ys (greatest_of ys) (λ k z. greatest_of-greatest k z ys)
    (λ n z. greatest_of-none z ys n) e i
