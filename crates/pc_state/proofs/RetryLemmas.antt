-- Retries, and items of a list in another order.
use Rattle.std.proofs.Common.{◌≡◌, ◌==◌, Bool, true, false, ℕ, zero, suc, List, [], ◌∷◌, cond, refl, sym, ◌∙◌, arith, inl, inr, eq-eqb}
use Rattle.std.specs.List.{AllByRecursion, Contains, IsDistinct, filter}
use Rattle.std.specs.List.Sorted.{IsPermutation}
use Rattle.std.proofs.lemmas.List.Sorted.{Contains-permutation}
use Rattle.std.proofs.lemmas.Bool.{cases_Bool, eqb-true}
use Rattle.pc_laws.specs.Lists.{In}
use Rattle.pc_laws.proofs.Lists.{true-not-false}
use Rattle.pc_retry.specs.declared.queue.Retry.{Retry}
use Rattle.pc_state.specs.State.{same_place}

contains-in : {X : Type 0} (x : X) (xs : List X) → In x xs → Contains xs x
contains-in x [] i = absurd i
contains-in x (y ∷ ys) (inl same) = (0, omega arith, sym same)
contains-in x (y ∷ ys) (inr i) = let more = contains-in x ys i in
    (suc more.0, omega (arith, more.1), more.2)

in-contains : {X : Type 0} (x : X) (xs : List X) → Contains xs x → In x xs
in-contains x [] c = absurd (omega (arith, c.1))
in-contains x (y ∷ ys) (zero, below, is) = inl (sym is)
in-contains x (y ∷ ys) (suc k, below, is) = inr (in-contains x ys (k, omega (arith, below), is))

-- what stands in a list stands in it in another order
pub In-permuted : {X : Type 0} (xs ys : List X) (x : X) → IsPermutation xs ys → In x xs → In x ys
In-permuted xs ys x order i = in-contains x ys
    (Contains-permutation xs ys x order (contains-in x xs i))

-- ---- retries of one record

eqb-flips : (m n : ℕ) → (m == n) ≡ (n == m)
eqb-flips m n = elim (cases_Bool (m == n)) [
  | inl same ↦ same ∙ sym (eq-eqb n m (sym (eqb-true m n same)))
  | inr apart ↦ elim (cases_Bool (n == m)) [
    | inl same ↦ true-not-false (m == n) (eq-eqb m n (sym (eqb-true n m same))) apart
    | inr other ↦ apart ∙ sym other
  ]
]

pub same_place-flips : (v w : Retry) → same_place v w ≡ same_place w v
same_place-flips v w = rw (eqb-flips v.part w.part, eqb-flips v.offset w.offset) refl

pub distinct-none : IsDistinct same_place []
unfolding IsDistinct
distinct-none = tt

all-filter : (P : Retry → Type 0) (keep : Retry → Bool) (ws : List Retry) → AllByRecursion P ws
    → AllByRecursion P (filter keep ws)
all-filter P keep [] all = tt
all-filter P keep (w ∷ ws) all = elim (keep w) as (λ b. AllByRecursion P (cond b (w ∷ filter keep ws) (filter keep ws))) [
  | true ↦ (all.0, all-filter P keep ws all.1)
  | false ↦ all-filter P keep ws all.1
]

pub distinct-filter : (keep : Retry → Bool) (ws : List Retry) → IsDistinct same_place ws
    → IsDistinct same_place (filter keep ws)
unfolding IsDistinct
distinct-filter keep [] once = tt
distinct-filter keep (w ∷ ws) once = elim (keep w) as (λ b. IsDistinct same_place (cond b (w ∷ filter keep ws) (filter keep ws))) [
  | true ↦ (all-filter (λ v. same_place w v ≡ false) keep ws once.0, distinct-filter keep ws once.1)
  | false ↦ distinct-filter keep ws once.1
]
