-- Lists that grow, and spans of places.
use Rattle.std.proofs.Common.{◌≡◌, ℕ, ◌+◌, ◌<◌, ◌≤◌, ◌⊎◌, Bool, true, false, if◌then◌else◌, List, [], ◌∷◌, ◌++◌, length, refl, sym, ap, ◌∙◌, subst, inl, inr, ⊎_elim, arith, append_assoc, append-nil, length-append}
use Rattle.std.proofs.lemmas.Bool.{ltb-true, ltb-false}
use Rattle.std.proofs.lemmas.Bool.Decides.{nat_tests}
use Rattle.std.specs.Prelude.{nat_lt}
use Rattle.pc_state_lock.specs.History.{Continues, longer, covers, times_covered}

-- a test holds or does not
true_or_false : (b : Bool) → (b ≡ true) ⊎ (b ≡ false)
true_or_false true = inl refl
true_or_false false = inr refl

module _ {A : Type 0} where
  pub Continues-same : (xs : List A) → Continues xs xs
  Continues-same xs = record { added = []; is = refl }

  -- one more entry, added to a list that is the earlier one
  pub Continues-one : (zs ys xs : List A) (x : A) → zs ≡ x ∷ ys → ys ≡ xs → Continues zs xs
  Continues-one zs ys xs x e f = record { added = x ∷ []; is = e ∙ ap (λ l. x ∷ l) f }

  pub Continues-none : (xs : List A) → Continues xs []
  Continues-none xs = record { added = xs; is = sym (append-nil xs) }

  pub Continues-further : (zs ys xs : List A) → Continues zs ys → Continues ys xs → Continues zs xs
  Continues-further zs ys xs f g = record {
    added = f.added ++ g.added;
    is = f.is ∙ (ap (λ l. f.added ++ l) g.is ∙ sym (append_assoc f.added g.added xs));
  }

  pub Continues-length : (ys xs : List A) → Continues ys xs → length xs ≤ length ys
  Continues-length ys xs f = omega (arith, ap length f.is, length-append f.added xs)

  nothing_added : (added ys xs : List A) → ys ≡ added ++ xs → length ys ≤ length xs → ys ≡ xs
  nothing_added [] ys xs e l = e
  nothing_added (x ∷ added) ys xs e l = absurd (omega (arith, ap length e, length-append added xs))

  -- a list that is no longer than one it continues is that one
  Continues-whole : (ys xs : List A) → Continues ys xs → length ys ≤ length xs → ys ≡ xs
  Continues-whole ys xs f l = nothing_added f.added ys xs f.is l

  overlap : (p q ys xs : List A) → p ++ ys ≡ q ++ xs → length xs ≤ length ys → Continues ys xs
  overlap [] q ys xs e l = record { added = q; is = e }
  overlap (x ∷ p) [] ys xs e l = absurd (omega (arith, ap length e, length-append p ys))
  overlap (x ∷ p) (y ∷ q) ys xs e l = let same : p ++ ys ≡ q ++ xs = cc in overlap p q ys xs same l

  -- of two lists that one list continues, the longer continues the shorter
  Continues-between : (zs ys xs : List A) → Continues zs ys → Continues zs xs → length xs ≤ length ys
      → Continues ys xs
  Continues-between zs ys xs f g l = overlap f.added g.added ys xs (sym f.is ∙ g.is) l

  longer-cases : (xs ys : List A) → ((length xs < length ys)
      × (longer xs ys ≡ ys)) ⊎ ((length ys ≤ length xs) × (longer xs ys ≡ xs))
  longer-cases xs ys = ⊎_elim
      (λ (e : nat_lt (length xs) (length ys) ≡ true). inl (
        ltb-true (length xs) (length ys) e,
        ap
            (λ (b : Bool). if b then ys else xs) e,
      ))
      (λ (e : nat_lt (length xs) (length ys) ≡ false). inr (
        ltb-false (length xs) (length ys) e,
        ap
            (λ (b : Bool). if b then ys else xs) e,
      ))
      (true_or_false (nat_lt (length xs) (length ys)))

  pub longer-own : (zs xs ys : List A) → Continues zs xs → Continues zs ys → Continues (longer xs ys) xs
  longer-own zs xs ys f g = let P : List A → Type 0 = λ l. Continues l xs in ⊎_elim
      (λ (t : (length xs < length ys) × (longer xs ys ≡ ys)). let l = t.0 in
      subst P (sym t.1) (Continues-between zs ys xs g f (omega arith)))
      (λ (t : (length ys ≤ length xs) × (longer xs ys ≡ xs)). subst P (sym t.1) (Continues-same xs))
      (longer-cases xs ys)

  pub longer-other : (zs xs ys : List A) → Continues zs xs → Continues zs ys → Continues (longer xs ys) ys
  longer-other zs xs ys f g = let P : List A → Type 0 = λ l. Continues l ys in ⊎_elim
      (λ (t : (length xs < length ys) × (longer xs ys ≡ ys)). subst P (sym t.1) (Continues-same ys))
      (λ (t : (length ys ≤ length xs) × (longer xs ys ≡ xs)). subst P (sym t.1)
      (Continues-between zs xs ys f g t.0))
      (longer-cases xs ys)

  pub longer-within : (zs xs ys : List A) → Continues zs xs → Continues zs ys → Continues zs (longer xs ys)
  longer-within zs xs ys f g = let P : List A → Type 0 = λ l. Continues zs l in ⊎_elim
      (λ (t : (length xs < length ys) × (longer xs ys ≡ ys)). subst P (sym t.1) g)
      (λ (t : (length ys ≤ length xs) × (longer xs ys ≡ xs)). subst P (sym t.1) f)
      (longer-cases xs ys)

  -- where the one is the whole list already, it is the longer
  pub longer-whole : (zs xs ys : List A) → xs ≡ zs → Continues zs ys → longer xs ys ≡ zs
  longer-whole zs xs ys e g = ⊎_elim
      (λ (t : (length xs < length ys) × (longer xs ys ≡ ys)). let l = t.0 in
      let m = Continues-length zs ys g in absurd (omega (arith, ap length e)))
      (λ (t : (length ys ≤ length xs) × (longer xs ys ≡ xs)). t.1 ∙ e)
      (longer-cases xs ys)

  longer-either : (xs ys : List A) → (longer xs ys ≡ xs) ⊎ (longer xs ys ≡ ys)
  longer-either xs ys = ⊎_elim
      (λ (t : (length xs < length ys) × (longer xs ys ≡ ys)). inr t.1)
      (λ (t : (length ys ≤ length xs) × (longer xs ys ≡ xs)). inl t.1)
      (longer-cases xs ys)

pub times_covered-append : (place : ℕ) (xs ys : List (ℕ × ℕ))
    → times_covered place (xs ++ ys) ≡ times_covered place xs + times_covered place ys
times_covered-append place [] ys = omega arith
times_covered-append place (x ∷ xs) ys = omega (arith, times_covered-append place xs ys)

pub covers-most : (place from to : ℕ) → covers place (from, to) ≤ 1
covers-most place from to = grind arith

pub covers-before : (place from to : ℕ) → place < from → covers place (from, to) ≡ 0
covers-before place from to l = grind (arith, nat_tests)

pub covers-behind : (place from to : ℕ) → to ≤ place → covers place (from, to) ≡ 0
covers-behind place from to l = grind (arith, nat_tests)
