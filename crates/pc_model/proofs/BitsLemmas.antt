-- Runs of 0 bits and the bits that have them.
use Rattle.std.proofs.Common.{◌≡◌, ◌⊎◌, ◌^◌, ℕ, zero, suc, ◌+◌, ◌-◌, ◌<◌, ◌≤◌, Bool, true, false, List, [], ◌∷◌, ◌++◌, length, replicate, refl, sym, ap, subst, ◌∙◌, arith, inl, inr, add-zero, add-one}
use Rattle.std.proofs.lemmas.List.{append_assoc, append-nil, length-append, length-replicate, replicate-append-replicate}
use Rattle.std.proofs.lemmas.Option.{slice_get-get_or, slice_get_past, slice_get_read, slice_get_within}
use Rattle.std.proofs.lemmas.Bool.{ltb-false, ltb-true, cases_eq, ne_eqb, eq-eqb}
use Rattle.std.specs.List.{slice_get, slice_set}
use Rattle.std.specs.Option.{option_copied}
use denote.Ref.{Bor}
use Rattle.std.specs.Slice.{IsItemAt}
use Rattle.std.specs.declared.option.Option.{Option}
use Rattle.std.specs.declared.option.Option.TheVariants.{None, Some}
use Rattle.pc_model.specs.Bits.{AreBits, AreRuns, add_run, bits_of, with_false, zero_runs, zero_runs_from}

-- a copy of the element that `get` lends
pub item-copied : (runs : List (ℕ × ℕ)) (i : ℕ) (item : Option (Bor (ℕ × ℕ))) → IsItemAt runs i item → option_copied item ≡ slice_get runs i
item-copied runs i None is = sym (slice_get_past runs i (ltb-false i (length runs) (sym is.0)))
item-copied runs i (Some x) is =
    sym (slice_get_read runs (length runs) i x.now refl (ltb-true i (length runs) (sym is.0)) is.1)

-- ---- bits_of

-- the bits reach from the place to the count
pub length-bits_of : (at least count : ℕ) (runs : List (ℕ × ℕ)) → at ≤ least → at ≤ count → AreRuns least count runs
    → length (bits_of at count runs) + at ≡ count
length-bits_of at least count [] h fits are = let e = length-replicate (count - at) true in omega (arith, e)
length-bits_of at least count (run ∷ runs) h fits are =
    let ih = length-bits_of (run.0 + run.1) (run.0 + run.1 + 1) count runs (omega arith) are.2 are.3 in
    let gap = length-replicate (run.0 - at) true in
    let zeros = length-replicate run.1 false in
    let outer = length-append (replicate (run.0 - at) true) (replicate run.1 false ++ bits_of (run.0 + run.1) count runs) in
    let inner = length-append (replicate run.1 false) (bits_of (run.0 + run.1) count runs) in
    let lo = are.0 in
    omega (arith, ih, gap, zeros, outer, inner, lo)

-- one more piece after two others
last_piece : {A : Type 0} (a b c d e : List A) → c ≡ d ++ e → a ++ (b ++ c) ≡ (a ++ (b ++ d)) ++ e
last_piece a b c d e h = rw (h, append_assoc, append_assoc) refl

-- more 1 bits at the end
bits_of-more : (at least count n : ℕ) (runs : List (ℕ × ℕ)) → at ≤ least → at ≤ count → AreRuns least count runs
    → bits_of at (count + n) runs ≡ bits_of at count runs ++ replicate n true
bits_of-more at least count n [] h fits are =
    let e : count + n - at ≡ count - at + n = omega arith in
    rw e (sym (replicate-append-replicate (count - at) n true))
bits_of-more at least count n (run ∷ runs) h fits are =
    last_piece _ _ _ _ _
    (bits_of-more (run.0 + run.1) (run.0 + run.1 + 1) count n runs (omega arith) are.2 are.3)

-- the same runs below a greater count
pub AreRuns-more : (least count n : ℕ) (runs : List (ℕ × ℕ)) → AreRuns least count runs → AreRuns least (count + n) runs
AreRuns-more least count n [] are = tt
AreRuns-more least count n (run ∷ runs) are =
    (are.0, are.1, omega (arith, are.2), AreRuns-more (run.0 + run.1 + 1) count n runs are.3)

-- the same runs from a lower place on
pub AreRuns-lower : (low least count : ℕ) (runs : List (ℕ × ℕ)) → low ≤ least → AreRuns least count runs → AreRuns low count runs
AreRuns-lower low least count [] h are = tt
AreRuns-lower low least count (run ∷ runs) h are = (omega (arith, h, are.0), are.1, are.2, are.3)

-- a run ends at the count at the latest
pub AreRuns-slice_get : (least count : ℕ) (runs : List (ℕ × ℕ)) (i : ℕ) (run : ℕ × ℕ) → AreRuns least count runs → slice_get runs i ≡ Some run
    → (least ≤ run.0) × (0 < run.1) × (run.0 + run.1 ≤ count)
AreRuns-slice_get least count [] i run are is = cc is
AreRuns-slice_get least count (first ∷ runs) zero run are is =
    let same : first ≡ run = cc is in
    subst (λ (r : ℕ × ℕ). (least ≤ r.0) × (0 < r.1) × (r.0 + r.1 ≤ count)) same (are.0, are.1, are.2)
AreRuns-slice_get least count (first ∷ runs) (suc i) run are is =
    let later = AreRuns-slice_get (first.0 + first.1 + 1) count runs i run are.3 is in
    (omega (arith, later.0, are.0), later.1, later.2)

-- ---- one more run

-- the bits with one more run of 0 bits at the end
bits_of-add_run : (at least count n : ℕ) (runs : List (ℕ × ℕ)) → at ≤ least → at ≤ count → AreRuns least count runs
    → bits_of at (count + n) (add_run runs count n) ≡ bits_of at count runs ++ replicate n false
bits_of-add_run at least count n [] h fits are =
    let none : count + n - (count + n) ≡ 0 = omega arith in
    rw (none, append-nil) refl
bits_of-add_run at least count n (run ∷ []) h fits are = elim (cases_eq (run.0 + run.1) count) [
  | inl touches ↦
      let joined : run.0 + (run.1 + n) ≡ count + n = omega arith in
      let none : count + n - (count + n) ≡ 0 = omega arith in
      let empty : count - (run.0 + run.1) ≡ 0 = omega arith in
      rw (eq-eqb (run.0 + run.1) count touches, joined, none, empty, append-nil, append-nil, append_assoc, replicate-append-replicate) refl
  | inr apart ↦
      let none : count + n - (count + n) ≡ 0 = omega arith in
      rw (ne_eqb (run.0 + run.1) count apart, none, append-nil)
      (last_piece (replicate (run.0 - at) true) (replicate run.1 false) _ (replicate (count - (run.0 + run.1)) true) (replicate n false) refl)
]
bits_of-add_run at least count n (run ∷ next ∷ runs) h fits are =
    last_piece _ _ _ _ _
    (bits_of-add_run (run.0 + run.1) (run.0 + run.1 + 1) count n (next ∷ runs) (omega arith) are.2 are.3)

-- one more run at the count keeps the order
pub AreRuns-add_run : (least count n : ℕ) (runs : List (ℕ × ℕ)) → 0 < n → least ≤ count → AreRuns least count runs
    → AreRuns least (count + n) (add_run runs count n)
AreRuns-add_run least count n [] pos fits are = (fits, pos, omega arith, tt)
AreRuns-add_run least count n (run ∷ []) pos fits are = elim (cases_eq (run.0 + run.1) count) [
  | inl touches ↦ rw (eq-eqb (run.0 + run.1) count touches) (are.0, omega (arith, are.1), omega arith, tt)
  | inr apart ↦
      rw (ne_eqb (run.0 + run.1) count apart) (are.0, are.1, omega (arith, are.2), (omega (arith, are.2, apart), pos, omega arith, tt))
]
AreRuns-add_run least count n (run ∷ next ∷ runs) pos fits are =
    (are.0, are.1, omega (arith, are.2), AreRuns-add_run (run.0 + run.1 + 1) count n (next ∷ runs) pos (omega (arith, are.3.0, are.3.1, are.3.2)) are.3)

-- no run joins another in an empty list
pub add_run-none : (runs : List (ℕ × ℕ)) (place n : ℕ) → slice_get runs (length runs - 1) ≡ None → runs ++ (place, n) ∷ [] ≡ add_run runs place n
add_run-none [] place n is = refl
add_run-none (first ∷ runs) place n is =
    let within : length (first ∷ runs) - 1 < length (first ∷ runs) = omega arith in
    let has = slice_get-get_or (first ∷ runs) (length (first ∷ runs) - 1) first within in
    cc (is, has)

-- the last run grows where it ends at the place
add_run-joins : (runs : List (ℕ × ℕ)) (place n i : ℕ) (run : ℕ × ℕ) → suc i ≡ length runs → slice_get runs i ≡ Some run → run.0 + run.1 ≡ place
    → slice_set runs i (run.0, run.1 + n) ≡ add_run runs place n
add_run-joins [] place n i run len is touches = cc is
add_run-joins (first ∷ []) place n zero run len is touches =
    let same : first ≡ run = cc is in
    rw (same, eq-eqb (run.0 + run.1) place touches) refl
add_run-joins (first ∷ []) place n (suc i) run len is touches = cc is
add_run-joins (first ∷ next ∷ runs) place n zero run len is touches = absurd (omega arith)
add_run-joins (first ∷ next ∷ runs) place n (suc i) run len is touches =
    ap (λ (l : List (ℕ × ℕ)). first ∷ l) (add_run-joins (next ∷ runs) place n i run (omega arith) is touches)

-- a run of its own where the last does not end at the place
add_run-apart : (runs : List (ℕ × ℕ)) (place n i : ℕ) (run : ℕ × ℕ) → suc i ≡ length runs → slice_get runs i ≡ Some run → (run.0 + run.1 ≡ place → ⊥)
    → runs ++ (place, n) ∷ [] ≡ add_run runs place n
add_run-apart [] place n i run len is apart = refl
add_run-apart (first ∷ []) place n zero run len is apart =
    let same : first ≡ run = cc is in
    rw (same, ne_eqb (run.0 + run.1) place apart) refl
add_run-apart (first ∷ []) place n (suc i) run len is apart = cc is
add_run-apart (first ∷ next ∷ runs) place n zero run len is apart = absurd (omega arith)
add_run-apart (first ∷ next ∷ runs) place n (suc i) run len is apart =
    ap (λ (l : List (ℕ × ℕ)). first ∷ l) (add_run-apart (next ∷ runs) place n i run (omega arith) is apart)

-- the index of the last run
last_index : (runs : List (ℕ × ℕ)) (run : ℕ × ℕ) → slice_get runs (length runs - 1) ≡ Some run → suc (length runs - 1) ≡ length runs
last_index runs run is = let within = slice_get_within runs (length runs - 1) run is in omega (arith, within)

-- the last run grows where it ends at the place
pub add_run-last_joins : (runs : List (ℕ × ℕ)) (place n i : ℕ) (run : ℕ × ℕ) → i ≡ length runs - 1 → slice_get runs (length runs - 1) ≡ Some run → run.0 + run.1 ≡ place
    → slice_set runs i (run.0, run.1 + n) ≡ add_run runs place n
add_run-last_joins runs place n i run last is touches =
    rw last (add_run-joins runs place n (length runs - 1) run (last_index runs run is) is touches)

-- a run of its own where the last does not end at the place
pub add_run-last_apart : (runs : List (ℕ × ℕ)) (place n : ℕ) (run : ℕ × ℕ) → slice_get runs (length runs - 1) ≡ Some run → (run.0 + run.1 ≡ place → ⊥)
    → runs ++ (place, n) ∷ [] ≡ add_run runs place n
add_run-last_apart runs place n run is apart =
    add_run-apart runs place n (length runs - 1) run (last_index runs run is) is apart

-- ---- zero_runs

-- 1 bits begin no run
zero_runs_from-true : (at n : ℕ) (bits : List Bool) → zero_runs_from at (replicate n true ++ bits) ≡ zero_runs_from (at + n) bits
zero_runs_from-true at zero bits = rw add-zero refl
zero_runs_from-true at (suc n) bits =
    let e : at + 1 + n ≡ at + suc n = omega arith in
    zero_runs_from-true (at + 1) n bits ∙ ap (λ (p : ℕ). zero_runs_from p bits) e

-- a run of one bit, before runs that it does not touch
with_false-apart : (at count : ℕ) (runs : List (ℕ × ℕ)) → AreRuns (at + 2) count runs → with_false at runs ≡ (at, 1) ∷ runs
with_false-apart at count [] are = refl
with_false-apart at count (run ∷ runs) are =
    let apart : (run.0 ≡ at + 1) → ⊥ = λ (e : run.0 ≡ at + 1). omega (arith, are.0, e) in
    rw (ne_eqb run.0 (at + 1) apart) refl

-- 0 bits are one run, before runs that they do not touch
zero_runs_from-false : (at n count : ℕ) (bits : List Bool) (runs : List (ℕ × ℕ)) → zero_runs_from (at + suc n) bits ≡ runs → AreRuns (at + suc n + 1) count runs
    → zero_runs_from at (replicate (suc n) false ++ bits) ≡ (at, suc n) ∷ runs
zero_runs_from-false at zero count bits runs is are =
    let two : at + 1 + 1 ≡ at + 2 = omega arith in
    rw is (with_false-apart at count runs (subst (λ (p : ℕ). AreRuns p count runs) two are))
zero_runs_from-false at (suc n) count bits runs is are =
    let e : at + suc (suc n) ≡ at + 1 + suc n = omega arith in
    let is' : zero_runs_from (at + 1 + suc n) bits ≡ runs = ap (λ (p : ℕ). zero_runs_from p bits) (sym e) ∙ is in
    let ih = zero_runs_from-false (at + 1) n count bits runs is' (subst (λ (p : ℕ). AreRuns (p + 1) count runs) e are) in
    rw (ih, eq-eqb (at + 1) (at + 1) refl, add-one) refl

-- the runs of the bits that have these runs
zero_runs_from-bits_of : (at least count : ℕ) (runs : List (ℕ × ℕ)) → at ≤ least → AreRuns least count runs → zero_runs_from at (bits_of at count runs) ≡ runs
zero_runs_from-bits_of at least count [] h are =
    rw (← append-nil (replicate (count - at) true)) (zero_runs_from-true at (count - at) [])
zero_runs_from-bits_of at least count ((place, zero) ∷ runs) h are = absurd (omega (arith, are.1))
zero_runs_from-bits_of at least count ((place, suc n) ∷ runs) h are =
    let ih = zero_runs_from-bits_of (place + suc n) (place + suc n + 1) count runs (omega arith) are.3 in
    let gap = zero_runs_from-true at (place - at) (replicate (suc n) false ++ bits_of (place + suc n) count runs) in
    let e : at + (place - at) ≡ place = omega (arith, are.0) in
    gap ∙ rw e (zero_runs_from-false place n count (bits_of (place + suc n) count runs) runs ih are.3)

-- ---- what a count and its runs keep

-- the number of the bits
pub length-view : (count : ℕ) (runs : List (ℕ × ℕ)) → AreBits count runs → length (bits_of 0 count runs) ≡ count
length-view count runs are = let e = length-bits_of 0 0 count runs (omega arith) (omega arith) are.in_order in omega (arith, e)

-- the runs of the bits
pub zero_runs-view : (count : ℕ) (runs : List (ℕ × ℕ)) → AreBits count runs → zero_runs (bits_of 0 count runs) ≡ runs
zero_runs-view count runs are = zero_runs_from-bits_of 0 0 count runs (omega arith) are.in_order

-- n more bits, of which there are none or which are 1 bits
pub bits_of-push : (count n : ℕ) (runs : List (ℕ × ℕ)) (bit : Bool) → (bit ≡ true) ⊎ (n ≡ 0) → AreBits count runs
    → bits_of 0 (count + n) runs ≡ bits_of 0 count runs ++ replicate n bit
bits_of-push count n runs bit (inl one) are =
    rw one (bits_of-more 0 0 count n runs (omega arith) (omega arith) are.in_order)
bits_of-push count n runs bit (inr none) are = rw (none, add-zero, append-nil) refl

-- n more bits that leave the runs
pub AreBits-push : (count n : ℕ) (runs : List (ℕ × ℕ)) → count + n < 2 ^ 63 → AreBits count runs → AreBits (count + n) runs
AreBits-push count n runs small are =
    record { in_order = AreRuns-more 0 count n runs are.in_order; few = are.few; small = small }

-- n more 0 bits
pub bits_of-push_zeros : (count n : ℕ) (runs : List (ℕ × ℕ)) → AreBits count runs
    → bits_of 0 (count + n) (add_run runs count n) ≡ bits_of 0 count runs ++ replicate n false
bits_of-push_zeros count n runs are = bits_of-add_run 0 0 count n runs (omega arith) (omega arith) are.in_order

-- n more 0 bits
pub AreBits-push_zeros : (count n : ℕ) (runs : List (ℕ × ℕ)) → 0 < n → length (add_run runs count n) ≤ 2 ^ 59 → count + n < 2 ^ 63 → AreBits count runs
    → AreBits (count + n) (add_run runs count n)
AreBits-push_zeros count n runs pos few small are =
    record { in_order = AreRuns-add_run 0 count n runs pos (omega arith) are.in_order; few = few; small = small }
