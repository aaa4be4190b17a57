-- The parts, from 0 on.
use Rattle.std.proofs.Common.{◌≡◌, ◌⊎◌, ℕ, zero, suc, ◌+◌, ◌-◌, ◌≤◌, ◌<◌, Bool, true, ◌&&◌, length, refl, ap, arith, inl, inr}
use Rattle.std.specs.List.{list_all, range_with_len}
use Rattle.pc_model.specs.Given.{Given, parts_of}
use Rattle.pc_laws.specs.Lists.{In}

range-In : (a n p : ℕ) → a ≤ p → p < a + n → In p (range_with_len a n)
range-In a zero p from upto = absurd (omega (arith, from, upto))
range-In a (suc n) p from upto = elim (cases (p - a)) [
  | inl none ↦ inl (omega (arith, from, none))
  | inr some ↦ inr (range-In (a + 1) n p (omega (arith, from, some)) (omega (arith, upto)))
]
  where
    cases : (n : ℕ) → (n ≡ 0) ⊎ (0 < n)
    cases zero = inl refl
    cases (suc n) = inr (omega arith)

-- each part with a place is one of them
pub parts-In : (given : Given) (p : ℕ) → p < length given.logs → In p (parts_of given)
parts-In given p below = range-In 0 (length given.logs) p (omega arith) (omega (arith, below))

-- ---- a test of each

pub all-step : (f : ℕ → Bool) (a b : ℕ) → a < b → list_all f (range_with_len a (b - a))
    ≡ (f a && list_all f (range_with_len (a + 1) (b - (a + 1))))
all-step f a b lt =
    let more : b - a ≡ suc (b - (a + 1)) = omega (arith, lt) in
    ap (λ (n : ℕ). list_all f (range_with_len a n)) more

pub all-empty : (f : ℕ → Bool) (a b : ℕ) → b ≤ a → list_all f (range_with_len a (b - a)) ≡ true
all-empty f a b le =
    let none : b - a ≡ 0 = omega (arith, le) in
    ap (λ (n : ℕ). list_all f (range_with_len a n)) none
