-- Tests, and members of lists.
use Rattle.std.proofs.Common.{◌≡◌, ◌⊎◌, ℕ, Bool, true, false, not, ◌&&◌, ◌||◌, ◌==◌, cond, List, [], ◌∷◌, ◌++◌, map, refl, ap, sym, subst, inl, inr}
use Rattle.std.specs.Prelude.{filter, OnErr, OnOk, Result, Ok, Err}
use Rattle.std.specs.List.{AllByRecursion, list_any, list_all}
use Rattle.std.proofs.lemmas.Bool.{cases_Bool}
use Rattle.std.proofs.lemmas.Bool.Decides.{Decides-eqb}
use Rattle.pc_shards.specs.Rising.{In}

-- ---- tests

pub and-left : (a b : Bool) → (a && b) ≡ true → a ≡ true
and-left true b e = refl
and-left false b e = cc

pub and-right : (a b : Bool) → (a && b) ≡ true → b ≡ true
and-right true b e = e
and-right false b e = cc

pub and-both : (a b : Bool) → a ≡ true → b ≡ true → (a && b) ≡ true
and-both true b e f = f
and-both false b e f = cc

pub and-off : (a b : Bool) → b ≡ false → (a && b) ≡ false
and-off true b e = e
and-off false b e = refl

pub or-cases : (a b : Bool) → (a || b) ≡ true → (a ≡ true) ⊎ (b ≡ true)
or-cases true b e = inl refl
or-cases false b e = inr e

pub or-left : (a b : Bool) → a ≡ true → (a || b) ≡ true
or-left true b e = refl
or-left false b e = cc

pub or-right : (a b : Bool) → b ≡ true → (a || b) ≡ true
or-right true b e = refl
or-right false b e = e

pub not-true : (a : Bool) → not a ≡ true → a ≡ false
not-true true e = cc
not-true false e = refl

pub not-false : (a : Bool) → a ≡ false → not a ≡ true
not-false true e = cc
not-false false e = refl

pub true-false : {P : Type 0} (a : Bool) → a ≡ true → a ≡ false → P
true-false a e f = cc

-- two tests are the same where each is passed with the other
pub same_test : (a b : Bool) → (a ≡ true → b ≡ true) → (b ≡ true → a ≡ true) → a ≡ b
same_test true true f g = refl
same_test true false f g = sym (f refl)
same_test false true f g = g refl
same_test false false f g = refl

pub number-same : (m n : ℕ) → m ≡ n → (m == n) ≡ true
number-same m n e = (Decides-eqb m n).1 e

pub number-other : (m n : ℕ) → (m ≡ n → ⊥) → (m == n) ≡ false
number-other m n other = elim (cases_Bool (m == n)) [
  | inl t ↦ absurd (other ((Decides-eqb m n).0 t))
  | inr f ↦ f
]

pub number-is : (m n : ℕ) → (m == n) ≡ true → m ≡ n
number-is m n e = (Decides-eqb m n).0 e

pub number-is_not : {P : Type 0} (m n : ℕ) → (m == n) ≡ false → m ≡ n → P
number-is_not m n e f = true-false (m == n) (number-same m n f) e

-- ---- members

module _ {X : Type 0} where
  pub In-append_left : (x : X) (xs ys : List X) → In x xs → In x (xs ++ ys)
  In-append_left x [] ys i = elim i [ ]
  In-append_left x (z ∷ xs) ys (inl e) = inl e
  In-append_left x (z ∷ xs) ys (inr i) = inr (In-append_left x xs ys i)

  pub In-append_right : (x : X) (xs ys : List X) → In x ys → In x (xs ++ ys)
  In-append_right x [] ys i = i
  In-append_right x (z ∷ xs) ys i = inr (In-append_right x xs ys i)

  pub In-append : (x : X) (xs ys : List X) → In x (xs ++ ys) → In x xs ⊎ In x ys
  In-append x [] ys i = inr i
  In-append x (z ∷ xs) ys (inl e) = inl (inl e)
  In-append x (z ∷ xs) ys (inr i) = elim (In-append x xs ys i)
      [ inl a ↦ inl (inr a) | inr b ↦ inr b ]

  -- what passes a test stays in the filter, and what is in it stands in the list and passes
  pub In-filter : (f : X → Bool) (x : X) (xs : List X) → In x xs → f x ≡ true → In x (filter f xs)
  In-filter f x [] i e = elim i [ ]
  In-filter f x (y ∷ ys) (inl same) e =
      let at : f y ≡ true = rw (← same) e in rw at (inl same)
  In-filter f x (y ∷ ys) (inr i) e = elim (f y) as
      (λ b. In x (cond b (y ∷ filter f ys) (filter f ys)))
      [ true ↦ inr (In-filter f x ys i e) | false ↦ In-filter f x ys i e ]

  pub In-filtered : (f : X → Bool) (x : X) (xs : List X) → In x (filter f xs) → In x xs ×
      (f x ≡ true)
  In-filtered f x [] i = elim i [ ]
  In-filtered f x (y ∷ ys) i = elim (cases_Bool (f y)) [
    | inl t ↦ elim (subst (λ b. In x (cond b (y ∷ filter f ys) (filter f ys))) t i) [
      | inl e ↦ (inl e, rw e t)
      | inr j ↦ let r = In-filtered f x ys j in (inr r.0, r.1)
    ]
    | inr n ↦ let j : In x (filter f ys) = subst
        (λ b. In x (cond b (y ∷ filter f ys) (filter f ys))) n i in
        let r = In-filtered f x ys j in (inr r.0, r.1)
  ]

  pub In-list_any : (f : X → Bool) (xs : List X) → list_any f xs ≡ true →
      (x : X) × In x xs × (f x ≡ true)
  In-list_any f [] e = cc
  In-list_any f (y ∷ ys) e = elim (or-cases (f y) (list_any f ys) e) [
    | inl t ↦ (y, inl refl, t)
    | inr r ↦ let m = In-list_any f ys r in (m.0, inr m.1, m.2)
  ]

  pub list_any-In : (f : X → Bool) (x : X) (xs : List X) → In x xs → f x ≡ true → list_any f xs
      ≡ true
  list_any-In f x [] i e = elim i [ ]
  list_any-In f x (y ∷ ys) (inl same) e = or-left (f y) (list_any f ys) (rw (← same) e)
  list_any-In f x (y ∷ ys) (inr i) e = or-right (f y) (list_any f ys) (list_any-In f x ys i e)

  pub list_all-In : (f : X → Bool) (x : X) (xs : List X) → list_all f xs ≡ true → In x xs → f x
      ≡ true
  list_all-In f x [] e i = elim i [ ]
  list_all-In f x (y ∷ ys) e (inl same) = rw same (and-left (f y) (list_all f ys) e)
  list_all-In f x (y ∷ ys) e (inr i) = list_all-In f x ys (and-right (f y) (list_all f ys) e) i

  -- a test that each item passes is passed by all
  pub list_all-each : (f : X → Bool) (xs : List X) →
      ((x : X) → In x xs → f x ≡ true) → list_all f xs ≡ true
  list_all-each f [] each = refl
  list_all-each f (y ∷ ys) each = rw (each y (inl refl))
      (list_all-each f ys (λ x i. each x (inr i)))

  pub AllByRecursion-In : (P : X → Type 0) (x : X) (xs : List X) → AllByRecursion P xs → In x xs
      → P x
  AllByRecursion-In P x [] all i = elim i [ ]
  AllByRecursion-In P x (y ∷ ys) all (inl e) = subst P (sym e) all.0
  AllByRecursion-In P x (y ∷ ys) all (inr i) = AllByRecursion-In P x ys all.1 i

  pub AllByRecursion-each : (P : X → Type 0) (xs : List X) → ((x : X) → In x xs → P x)
      → AllByRecursion P xs
  AllByRecursion-each P [] each = tt
  AllByRecursion-each P (y ∷ ys) each = (
    each y (inl refl),
    AllByRecursion-each P ys (λ x i. each x
        (inr i)),
  )

  -- a filter that all pass is the list
  pub filter-all : (f : X → Bool) (xs : List X) → ((x : X) → In x xs → f x ≡ true)
      → filter f xs ≡ xs
  filter-all f [] each = refl
  filter-all f (y ∷ ys) each = rw (each y (inl refl))
      (ap (λ zs. y ∷ zs) (filter-all f ys (λ x i. each x (inr i))))

pub In-map : {X Y : Type 0} (f : X → Y) (x : X) (xs : List X) → In x xs → In (f x) (map f xs)
In-map f x [] i = elim i [ ]
In-map f x (y ∷ ys) (inl e) = inl (ap f e)
In-map f x (y ∷ ys) (inr i) = inr (In-map f x ys i)

pub In-mapped : {X Y : Type 0} (f : X → Y) (y : Y) (xs : List X) → In y (map f xs)
    → (x : X) × In x xs × (y ≡ f x)
In-mapped f y [] i = elim i [ ]
In-mapped f y (x ∷ xs) (inl e) = (x, inl refl, e)
In-mapped f y (x ∷ xs) (inr i) = let r = In-mapped f y xs i in (r.0, inr r.1, r.2)

-- ---- answers

-- what holds in any case holds at an error
pub on_err : {T E P : Type 0} (r : Result T E) → P → OnErr r P
on_err (Ok x) p = tt
on_err (Err e) p = p

pub on_ok : {V E : Type 0} {A B C : Type 0} (r : Result V E) → OnOk r A → OnOk r B → (A → B → C)
    → OnOk r C
on_ok (Ok v) a b f = f a b
on_ok (Err e) a b f = tt
