-- The parts in cyclic order, after that of the last dispatch.
use Rattle.std.proofs.Common.{◌≡◌, ℕ, suc, ◌+◌, ◌-◌, ◌≤◌, ◌<◌, min, List, [], ◌∷◌, ◌++◌, length, Option, Some, None, refl, ap, sym, ◌∙◌, arith, inl, inr}
use Rattle.std.specs.List.{range_with_len}
use Rattle.std.specs.Option.{option_or}
use Rattle.std.proofs.lemmas.Bool.{cases_lt}
use Rattle.pc_model.specs.declared.event.Event.{Event}
use Rattle.pc_model.specs.Numbers.{first_some}
use Rattle.pc_model.specs.Given.{Given}
use Rattle.pc_model.specs.Next.{cyclic_order, last_part, next_of_part, next_record}
use Rattle.pc_state.specs.declared.state.State.{State}
use Rattle.pc_state.specs.State.{Knows}

-- the first that gives something, of numbers from the first on
pub first-step : {Y : Type 0} (f : ℕ → Option Y) (a b : ℕ) → a < b
    → first_some f (range_with_len a (b - a))
    ≡ option_or (f a) (first_some f (range_with_len (a + 1) (b - (a + 1))))
first-step f a b lt =
    let more : b - a ≡ suc (b - (a + 1)) = omega (arith, lt) in
    ap (λ (n : ℕ). first_some f (range_with_len a n)) more

pub first-empty : {Y : Type 0} (f : ℕ → Option Y) (a b : ℕ) → b ≤ a
    → first_some f (range_with_len a (b - a)) ≡ None
first-empty f a b le =
    let none : b - a ≡ 0 = omega (arith, le) in
    ap (λ (n : ℕ). first_some f (range_with_len a n)) none

first-append : {Y : Type 0} (f : ℕ → Option Y) (xs ys : List ℕ)
    → first_some f (xs ++ ys) ≡ option_or (first_some f xs) (first_some f ys)
first-append f [] ys = refl
first-append f (x ∷ xs) ys = ap (λ o. option_or (f x) o) (first-append f xs ys)
    ∙ or-assoc (f x) (first_some f xs) (first_some f ys)
  where
    or-assoc : {Y : Type 0} (a b c : Option Y) → option_or a (option_or b c) ≡ option_or
        (option_or a b) c
    or-assoc None b c = refl
    or-assoc (Some y) b c = refl

-- after a part, the parts behind it and then those up to it
cyclic-after : {Y : Type 0} (f : ℕ → Option Y) (n p from : ℕ) → from ≡ min n (p + 1)
    → first_some f (cyclic_order n (Some p))
    ≡ option_or (first_some f (range_with_len from (n - from)))
    (first_some f (range_with_len 0 (from - 0)))
cyclic-after f n p from is =
    first-append f (range_with_len (p + 1) (n - (p + 1))) (range_with_len 0 (min n (p + 1)))
    ∙ ap (λ o. option_or o (first_some f (range_with_len 0 (min n (p + 1))))) behind
    ∙ ap (λ k. option_or (first_some f (range_with_len from (n - from)))
    (first_some f (range_with_len 0 k)))
    upto
  where
    upto : min n (p + 1) ≡ from - 0
    upto = omega (arith, is)

    behind : first_some f (range_with_len (p + 1) (n - (p + 1)))
        ≡ first_some f (range_with_len from (n - from))
    behind = elim (cases_lt (p + 1) n) [
      | inl lt ↦ ap (λ k. first_some f (range_with_len k (n - k)))
          (let same : from ≡ p + 1 = omega (arith, is, lt) in sym same)
      | inr le ↦
          let same : from ≡ n = omega (arith, is, le) in
          first-empty f (p + 1) n le ∙ sym (first-empty f from n (omega (arith, same)))
    ]

-- from the first part on, where none was dispatched
cyclic-none : {Y : Type 0} (f : ℕ → Option Y) (n : ℕ) → first_some f (cyclic_order n None)
    ≡ option_or (first_some f (range_with_len 0 (n - 0))) (first_some f (range_with_len 0 (0 - 0)))
cyclic-none f n = or-none (first_some f (range_with_len 0 n))
    ∙ ap (λ k. option_or (first_some f (range_with_len 0 k)) None) whole
  where
    whole : n ≡ n - 0
    whole = omega arith

    or-none : {Y : Type 0} (o : Option Y) → o ≡ option_or o None
    or-none None = refl
    or-none (Some y) = refl

-- the part to begin with, after that of the last dispatch
abbrev pub from_of : ℕ → Option ℕ → ℕ
from_of n None = 0
from_of n (Some p) = min n (p + 1)

cyclic-from : {Y : Type 0} (f : ℕ → Option Y) (n from : ℕ) (last : Option ℕ) → from ≡ from_of n last
    → first_some f (cyclic_order n last) ≡ option_or (first_some f (range_with_len from (n - from)))
    (first_some f (range_with_len 0 (from - 0)))
cyclic-from f n from None is = rw is (cyclic-none f n)
cyclic-from f n from (Some p) is = cyclic-after f n p from is

-- the next record is of those parts, and else of those before them
pub next-is : (given : Given) (h : List Event) (s : State) (n from : ℕ) (a b : Option (ℕ × ℕ))
    → Knows given h s → n ≡ length s.logs.now → from ≡ from_of n s.last
    → a ≡ first_some (next_of_part given h) (range_with_len from (n - from))
    → b ≡ first_some (next_of_part given h) (range_with_len 0 (from - 0))
    → option_or a b ≡ next_record given h
unfolding next_record
next-is given h s n from a b knows count is behind upto =
    let length_is : n ≡ length given.logs = count ∙ ap length (sym knows.logs) in
    let last_is : from ≡ from_of n (last_part h) = is ∙ ap (from_of n) knows.last in
    ap (λ o. option_or o b) behind
    ∙ ap (λ o. option_or (first_some (next_of_part given h) (range_with_len from (n - from))) o)
    upto
    ∙ sym (cyclic-from (next_of_part given h) n from (last_part h) last_is)
    ∙ ap (λ k. first_some (next_of_part given h) (cyclic_order k (last_part h))) length_is

pub from-within : (n from : ℕ) (last : Option ℕ) → from ≡ from_of n last → from ≤ n
from-within n from None is = omega (arith, is)
from-within n from (Some p) is = omega (arith, is)

pub from-some : (n p from most next : ℕ) (last : Option ℕ) → last ≡ Some p → from ≡ most
    → most ≡ min n next → next ≡ min (p + 1) 4294967295 → n < 4294967296 → from ≡ from_of n last
from-some n p from most next last some is most_is next_is small =
    rw some (omega (arith, is, most_is, next_is, small))

pub from-none : (n from : ℕ) (last : Option ℕ) → last ≡ None → from ≡ 0 → from ≡ from_of n last
from-none n from last none is = rw none is
