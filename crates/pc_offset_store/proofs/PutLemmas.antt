-- A list where an element is put in the place of the first that is for the same, or at the end.
use Rattle.std.proofs.Common.{◌≡◌, ℕ, suc, ◌+◌, ◌<◌, Bool, true, false, cond, ltb, List, [], ◌∷◌, ◌++◌, length, set, map, Option, Some, None, refl, sym, ap, inl, inr, ◌∙◌, arith}
use Rattle.std.specs.Prelude.{find, option_map}
use Rattle.std.specs.List.{AllByRecursion, position, position_or_len}
use Rattle.std.proofs.lemmas.Bool.{cases_Bool, ltb-true, ltb-false}
use Rattle.pc_model.specs.Broker.{Stored, is_for, put_stored}
use Rattle.pc_offset_store.specs.Store.{put_each}

-- ---- a look-up

-- the first of the views that passes is the view of the first
pub find-map : {A B : Type 0} (view : A → B) (p : B → Bool) (xs : List A)
    → find p (map view xs) ≡ option_map view (find (λ x. p (view x)) xs)
find-map view p [] = refl
find-map view p (x ∷ xs) = elim (cases_Bool (p (view x))) [
  | inl here ↦ rw here refl
  | inr other ↦ rw other (find-map view p xs)
]

-- ---- the place of the first that passes

module _ {A : Type 0} (p : A → Bool) where
  found : (below : Bool) (n i : ℕ) → (cond {A = Option ℕ} below (Some n) None) ≡ Some i
      → (below ≡ true) × (i ≡ n)
  found true n i e = (refl, cc)
  found false n i e = absurd cc

  not_found : (below : Bool) (n : ℕ) → (cond {A = Option ℕ} below (Some n) None) ≡ None
      → below ≡ false
  not_found true n e = absurd cc
  not_found false n e = refl

  position-found : (xs : List A) (i : ℕ) → position p xs ≡ Some i
      → (position_or_len p xs < length xs) × (i ≡ position_or_len p xs)
  position-found xs i e =
      let f = found (ltb (position_or_len p xs) (length xs)) (position_or_len p xs) i e in
      (ltb-true _ _ f.0, f.1)

  pub position-none : (xs : List A) → position p xs ≡ None
      → (position_or_len p xs < length xs → ⊥)
  position-none xs e =
      let f = not_found (ltb (position_or_len p xs) (length xs)) (position_or_len p xs) e in
      let le = ltb-false _ _ f in λ lt. absurd (omega arith)

-- ---- what is put

module _ {A S : Type 0} (view : A → S) (same : S → S → Bool) (put : S → List S → List S)
    (put-none : (s : S) → put s [] ≡ s ∷ [])
    (put-one : (s t : S) (ts : List S) → put s (t ∷ ts) ≡ cond (same s t) (s ∷ ts) (t ∷ put s ts))
    (x : A) where
  abbrev is_place : A → Bool
  is_place y = same (view x) (view y)

  in_place : (xs : List A) → position_or_len is_place xs < length xs
      → map view (set xs (position_or_len is_place xs) x) ≡ put (view x) (map view xs)
  in_place [] lt = absurd (omega arith)
  in_place (y ∷ ys) lt = elim (cases_Bool (is_place y)) [
    | inl here ↦ rw (put-one (view x) (view y) (map view ys), here) refl
    | inr other ↦
        let lt' = rw other at lt in
        let n = position_or_len is_place ys in
        let one : 1 + n ≡ suc n = omega arith in
        rw (put-one (view x) (view y) (map view ys), other, one)
        (ap (λ (ts : List S). view y ∷ ts) (in_place ys (omega (arith, lt'))))
  ]

  at_end : (xs : List A) → (position_or_len is_place xs < length xs → ⊥)
      → map view (xs ++ x ∷ []) ≡ put (view x) (map view xs)
  at_end [] none = sym (put-none (view x))
  at_end (y ∷ ys) none = elim (cases_Bool (is_place y)) [
    | inl here ↦ absurd (none (rw here (omega arith)))
    | inr other ↦
        rw (put-one (view x) (view y) (map view ys), other)
        (ap (λ (ts : List S). view y ∷ ts) (at_end ys (λ lt. none (rw other (omega arith)))))
  ]

  pub put-found : (xs : List A) (i : ℕ) → position is_place xs ≡ Some i
      → map view (set xs i x) ≡ put (view x) (map view xs)
  put-found xs i e =
      let f = position-found is_place xs i e in
      ap (λ (k : ℕ). map view (set xs k x)) f.1 ∙ in_place xs f.0

  pub put-new : (xs : List A) → position is_place xs ≡ None
      → map view (xs ++ x ∷ []) ≡ put (view x) (map view xs)
  put-new xs e = at_end xs (position-none is_place xs e)

-- ---- what holds of all that is stored

module _ (Holds : Stored → Type 0) where
  all-one : (here : Bool) (s t : Stored) (ts us : List Stored) → Holds s
      → AllByRecursion Holds (t ∷ ts) → AllByRecursion Holds us
      → AllByRecursion Holds (cond here (s ∷ ts) (t ∷ us))
  all-one true s t ts us one all others = (one, all.1)
  all-one false s t ts us one all others = (all.0, others)

  pub all-put : (s : Stored) (ts : List Stored) → Holds s → AllByRecursion Holds ts
      → AllByRecursion Holds (put_stored s ts)
  all-put s [] one all = (one, tt)
  all-put s (t ∷ ts) one all =
      all-one (is_for s.group s.part t) s t ts (put_stored s ts) one all (all-put s ts one all.1)

  pub all-put_each : (ss ts : List Stored) → AllByRecursion Holds ss → AllByRecursion Holds ts
      → AllByRecursion Holds (put_each ss ts)
  all-put_each [] ts these all = all
  all-put_each (s ∷ ss) ts these all = all-put_each ss (put_stored s ts) these.1 (all-put s ts these.0 all)
