-- The retry that is due: it is in the queue, and its time has come; where none is due, no time has.
use Rattle.std.proofs.Common.{◌≡◌, ℕ, ◌≤◌, ◌<◌, true, false, List, [], ◌∷◌, Option, Some, None, refl, ap, sym, subst, ◌∙◌, arith, inl, inr}
use Rattle.std.specs.Prelude.{nat_le}
use Rattle.std.specs.Ordering.{is_lt}
use Rattle.std.specs.Option.{option_map, option_map_or}
use Rattle.std.proofs.lemmas.Bool.{cases_Bool}
use Rattle.std.proofs.lemmas.Bool.Decides.{nat_tests}
use Rattle.pc_laws.specs.Lists.{In}
use Rattle.pc_retry.specs.declared.queue.Retry.{Retry}
use Rattle.pc_retry.specs.Waiting.{compare_retries, due_retry, least_retry, lesser, not_after}
use Rattle.pc_state.proofs.AtWork.{some-same}

least-In_step : (m x : Retry) (xs : List Retry) (o : Option Retry)
    → ((k : Retry) → o ≡ Some k → In k xs) → Some (option_map_or (lesser x) o x) ≡ Some m
    → In m (x ∷ xs)
least-In_step m x xs None rest e = let is : x ≡ m = cc in inl (sym is)
least-In_step m x xs (Some k) rest e = elim (cases_Bool (is_lt (compare_retries k x))) [
  | inl less ↦ let is : k ≡ m = let at : Some k ≡ Some m = rw less at e in cc in
      inr (subst (λ (y : Retry). In y xs) is (rest k refl))
  | inr more ↦ let is : x ≡ m = let at : Some x ≡ Some m = rw more at e in cc in inl (sym is)
]

least_retry-In : (m : Retry) (xs : List Retry) → least_retry xs ≡ Some m → In m xs
least_retry-In m [] e = cc
least_retry-In m (x ∷ xs) e =
    least-In_step m x xs (least_retry xs) (λ k is. least_retry-In k xs is) e

lesser-first : (a b : Retry) → (lesser a b).ready_at ≤ a.ready_at
lesser-first a b = elim (cases_Bool (is_lt (compare_retries b a))) [
  | inl less ↦ rw less (before less)
  | inr more ↦ rw more (omega arith)
]
  where
    before : is_lt (compare_retries b a) ≡ true → b.ready_at ≤ a.ready_at
    before less = grind (arith, nat_tests)

lesser-second : (a b : Retry) → (lesser a b).ready_at ≤ b.ready_at
lesser-second a b = elim (cases_Bool (is_lt (compare_retries b a))) [
  | inl less ↦ rw less (omega arith)
  | inr more ↦ rw more (not_before more)
]
  where
    not_before : is_lt (compare_retries b a) ≡ false → a.ready_at ≤ b.ready_at
    not_before more = grind (arith, nat_tests)

least-step : (m x y : Retry) (ys : List Retry) (o : Option Retry)
    → ((k z : Retry) → o ≡ Some k → In z ys → k.ready_at ≤ z.ready_at)
    → (o ≡ None → (z : Retry) → In z ys → ⊥)
    → Some (option_map_or (lesser y) o y) ≡ Some m → In x (y ∷ ys) → m.ready_at ≤ x.ready_at
least-step m x y ys None least nothing e (inl same) =
    let is : y ≡ m = cc in
    let at : x.ready_at ≡ m.ready_at = ap (λ (r : Retry). r.ready_at) (same ∙ is) in
    omega (arith, at)
least-step m x y ys None least nothing e (inr i) = absurd (nothing refl x i)
least-step m x y ys (Some k) least nothing e (inl same) =
    let is : (lesser y k).ready_at ≡ m.ready_at = ap (λ (o : Option Retry).
    option_map_or (λ r. r.ready_at) o 0) e in
    let at : x.ready_at ≡ y.ready_at = ap (λ (r : Retry). r.ready_at) same in
    omega (arith, is, at, lesser-first y k)
least-step m x y ys (Some k) least nothing e (inr i) =
    let is : (lesser y k).ready_at ≡ m.ready_at = ap (λ (o : Option Retry).
    option_map_or (λ r. r.ready_at) o 0) e in
    omega (arith, is, lesser-second y k, least k x refl i)

least_retry-none : (x : Retry) (xs : List Retry) → least_retry xs ≡ None → In x xs → ⊥
least_retry-none x [] e i = i
least_retry-none x (y ∷ ys) e i = cc

least_retry-least : (m x : Retry) (xs : List Retry) → least_retry xs ≡ Some m → In x xs
    → m.ready_at ≤ x.ready_at
least_retry-least m x [] e i = absurd i
least_retry-least m x (y ∷ ys) e i = least-step m x y ys (least_retry ys)
    (λ k z is j. least_retry-least k z ys is j) (λ none z j. least_retry-none z ys none j) e i

not_after-some : (now : ℕ) (m w : Retry) → not_after now m ≡ Some w → (m ≡ w) × (w.ready_at ≤ now)
not_after-some now m w e = elim (cases_Bool (nat_le m.ready_at now)) [
  | inl come ↦
      let is : m ≡ w = let at : Some m ≡ Some w = rw come at e in cc in
      (is, subst (λ (x : Retry). x.ready_at ≤ now) is (grind (arith, nat_tests)))
  | inr late ↦ let nothing : ◌≡◌ {A = Option Retry} None (Some w) = rw late at e in cc nothing
]

not_after-none : (now : ℕ) (m : Retry) → not_after now m ≡ None → now < m.ready_at
not_after-none now m e = elim (cases_Bool (nat_le m.ready_at now)) [
  | inl come ↦ let nothing : ◌≡◌ {A = Option Retry} (Some m) None = rw come at e in cc nothing
  | inr late ↦ grind (arith, nat_tests)
]

-- the due retry is there, and its time has come
due-some_step : (now : ℕ) (w : Retry) (xs : List Retry) (o : Option Retry)
    → ((k : Retry) → o ≡ Some k → In k xs) → option_map_or (not_after now) o None ≡ Some w
    → In w xs × (w.ready_at ≤ now)
due-some_step now w xs None there e = cc
due-some_step now w xs (Some m) there e = let at = not_after-some now m w e in
    (subst (λ (x : Retry). In x xs) at.0 (there m refl), at.1)

pub due-some : (now : ℕ) (w : Retry) (xs : List Retry) → due_retry now xs ≡ Some w
    → In w xs × (w.ready_at ≤ now)
due-some now w xs e = due-some_step now w xs (least_retry xs) (λ k is. least_retry-In k xs is) e

-- where none is due, no time has come
due-none_step : (now : ℕ) (w : Retry) (xs : List Retry) (o : Option Retry)
    → ((k : Retry) → o ≡ Some k → k.ready_at ≤ w.ready_at) → (o ≡ None → ⊥)
    → option_map_or (not_after now) o None ≡ None → now < w.ready_at
due-none_step now w xs None least nothing e = absurd (nothing refl)
due-none_step now w xs (Some m) least nothing e =
    omega (arith, not_after-none now m e, least m refl)

pub due-none : (now : ℕ) (w : Retry) (xs : List Retry) → due_retry now xs ≡ None → In w xs
    → now < w.ready_at
due-none now w xs e i = due-none_step now w xs (least_retry xs)
    (λ k is. least_retry-least k w xs is i) (λ none. least_retry-none w xs none i) e

-- ---- what the queue answers

abbrev place_of : Retry → ℕ × ℕ
place_of r = (r.part, r.offset)

pub none-due : (o : Option Retry) → option_map place_of o ≡ None → o ≡ None
none-due None e = refl
none-due (Some w) e = cc

-- one is due, of this record
pub one-due : (o : Option Retry) (p u : ℕ) → option_map place_of o ≡ Some (p, u)
    → (w : Retry) × (o ≡ Some w) × (p ≡ w.part) × (u ≡ w.offset)
one-due None p u e = cc
one-due (Some w) p u e = let at : place_of w ≡ (p, u) = some-same e in
    (w, refl, ap (λ x. x.0) (sym at), ap (λ x. x.1) (sym at))
