-- A walk over the runs of 0 bits, from one run's end to the next.
use Rattle.std.proofs.Common.{◌≡◌, ℕ, zero, suc, ◌+◌, ◌-◌, ◌<◌, ◌≤◌, Bool, true, false, List, [], ◌∷◌, ◌++◌, length, take, drop, replicate, refl, sym, ap, subst, ◌∙◌, arith, inl, inr, add-one, zero-add}
use Rattle.std.proofs.lemmas.List.{append_assoc, drop_at, length-append, length-replicate, length-take-le, take-append-drop, take_at}
use Rattle.std.proofs.lemmas.Bool.{cases_eq, eq-eqb, ne_eqb}
use Rattle.std.proofs.lemmas.Option.{slice_get_within}
use Rattle.std.specs.List.{slice_get}
use Rattle.std.specs.declared.option.Option.TheVariants.{None, Some}
use Rattle.pc_model.proofs.BitsLemmas.{AreRuns-lower}
use Rattle.pc_model.specs.Bits.{AreRuns, bits_of, with_false, zero_runs, zero_runs_from}

-- ---- the runs of any bits

-- one more 0 bit in front
AreRuns-with_false : (at count : ℕ) (runs : List (ℕ × ℕ)) → at + 1 ≤ count → AreRuns (at + 1) count runs → AreRuns at count (with_false at runs)
AreRuns-with_false at count [] fits are = (omega arith, omega arith, omega arith, tt)
AreRuns-with_false at count (run ∷ runs) fits are = elim (cases_eq run.0 (at + 1)) [
  | inl touches ↦
      let end : at + (run.1 + 1) ≡ run.0 + run.1 = omega arith in
      rw (eq-eqb run.0 (at + 1) touches, end) (omega arith, omega arith, are.2, are.3)
  | inr apart ↦
      rw (ne_eqb run.0 (at + 1) apart) (omega arith, omega arith, omega arith, (omega (arith, are.0, apart), are.1, are.2, are.3))
]

-- the runs are in order
pub AreRuns-zero_runs_from : (at : ℕ) (bits : List Bool) → AreRuns at (at + length bits) (zero_runs_from at bits)
AreRuns-zero_runs_from at [] = tt
AreRuns-zero_runs_from at (true ∷ bits) =
    let e : at + 1 + length bits ≡ at + suc (length bits) = omega arith in
    let ih = subst (λ (c : ℕ). AreRuns (at + 1) c (zero_runs_from (at + 1) bits)) e (AreRuns-zero_runs_from (at + 1) bits) in
    AreRuns-lower at (at + 1) (at + suc (length bits)) (zero_runs_from (at + 1) bits) (omega arith) ih
AreRuns-zero_runs_from at (false ∷ bits) =
    let e : at + 1 + length bits ≡ at + suc (length bits) = omega arith in
    let ih = subst (λ (c : ℕ). AreRuns (at + 1) c (zero_runs_from (at + 1) bits)) e (AreRuns-zero_runs_from (at + 1) bits) in
    AreRuns-with_false at (at + suc (length bits)) (zero_runs_from (at + 1) bits) (omega arith) ih

-- one more 1 bit in front
bits_of-true : (at count : ℕ) (runs : List (ℕ × ℕ)) → at + 1 ≤ count → AreRuns (at + 1) count runs → bits_of at count runs ≡ true ∷ bits_of (at + 1) count runs
bits_of-true at count [] fits are =
    let e : count - at ≡ suc (count - (at + 1)) = omega arith in
    rw e refl
bits_of-true at count (run ∷ runs) fits are =
    let e : run.0 - at ≡ suc (run.0 - (at + 1)) = omega (arith, are.0) in
    rw e refl

-- one more 0 bit in front
bits_of-with_false : (at count : ℕ) (runs : List (ℕ × ℕ)) → at + 1 ≤ count → AreRuns (at + 1) count runs → bits_of at count (with_false at runs) ≡ false ∷ bits_of (at + 1) count runs
bits_of-with_false at count [] fits are =
    let none : at - at ≡ 0 = omega arith in
    rw none refl
bits_of-with_false at count (run ∷ runs) fits are = elim (cases_eq run.0 (at + 1)) [
  | inl touches ↦
      let none : at - at ≡ 0 = omega arith in
      let gap : run.0 - (at + 1) ≡ 0 = omega arith in
      let end : at + (run.1 + 1) ≡ run.0 + run.1 = omega arith in
      rw (eq-eqb run.0 (at + 1) touches, none, gap, end, add-one) refl
  | inr apart ↦
      let none : at - at ≡ 0 = omega arith in
      rw (ne_eqb run.0 (at + 1) apart, none) refl
]

-- the bits that have the runs of the bits are the bits
pub bits_of-zero_runs_from : (at : ℕ) (bits : List Bool) → bits_of at (at + length bits) (zero_runs_from at bits) ≡ bits
bits_of-zero_runs_from at [] =
    let none : at + 0 - at ≡ 0 = omega arith in
    rw none refl
bits_of-zero_runs_from at (true ∷ bits) =
    let e : at + 1 + length bits ≡ at + suc (length bits) = omega arith in
    let are = subst (λ (c : ℕ). AreRuns (at + 1) c (zero_runs_from (at + 1) bits)) e (AreRuns-zero_runs_from (at + 1) bits) in
    bits_of-true at (at + suc (length bits)) (zero_runs_from (at + 1) bits) (omega arith) are
    ∙ ap (λ (l : List Bool). true ∷ l) (rw e at (bits_of-zero_runs_from (at + 1) bits))
bits_of-zero_runs_from at (false ∷ bits) =
    let e : at + 1 + length bits ≡ at + suc (length bits) = omega arith in
    let are = subst (λ (c : ℕ). AreRuns (at + 1) c (zero_runs_from (at + 1) bits)) e (AreRuns-zero_runs_from (at + 1) bits) in
    bits_of-with_false at (at + suc (length bits)) (zero_runs_from (at + 1) bits) (omega arith) are
    ∙ ap (λ (l : List Bool). false ∷ l) (rw e at (bits_of-zero_runs_from (at + 1) bits))

-- ---- the walk

-- the place is where run i - 1 ends, or the start
pub record IsAtRun (bits : List Bool) (i place : ℕ) : Type 0 where
  pub rest : drop place bits ≡ bits_of place (length bits) (drop i (zero_runs bits))
  pub in_order : AreRuns place (length bits) (drop i (zero_runs bits))
  pub within : place ≤ length bits

-- what a run adds to the bits before it
pub record IsNextRun (bits : List Bool) (i place start size : ℕ) : Type 0 where
  pub left : i < length (zero_runs bits)
  pub few : i ≤ length bits
  pub after : place ≤ start
  pub some : 0 < size
  pub within : start + size ≤ length bits
  pub ones : take start bits ≡ take place bits ++ replicate (start - place) true
  pub zeros : take (start + size) bits ≡ take start bits ++ replicate size false
  pub rest_ones : drop place bits ≡ replicate (start - place) true ++ drop start bits
  pub rest_zeros : drop start bits ≡ replicate size false ++ drop (start + size) bits
  pub next : IsAtRun bits (i + 1) (start + size)
  pub apart : AreRuns (start + size + 1) (length bits) (drop (i + 1) (zero_runs bits))
  pub same : drop i (zero_runs bits) ≡ (start, size) ∷ drop (i + 1) (zero_runs bits)

-- the walk begins before the first run
pub IsAtRun-start : (bits : List Bool) → IsAtRun bits 0 0
IsAtRun-start bits = record {
  rest = drop_at [] bits 0 refl ∙ sym (rw (drop_at [] (zero_runs bits) 0 refl, ← zero-add (length bits)) (bits_of-zero_runs_from 0 bits));
  in_order = rw (drop_at [] (zero_runs bits) 0 refl, ← zero-add (length bits)) (AreRuns-zero_runs_from 0 bits);
  within = omega arith;
}

-- a list from an element on
drop-slice_get : {X : Type 0} (xs : List X) (i : ℕ) (x : X) → slice_get xs i ≡ Some x → drop i xs ≡ x ∷ drop (suc i) xs
drop-slice_get [] i x is = cc is
drop-slice_get (y ∷ ys) zero x is = let same : y ≡ x = cc is in rw same refl
drop-slice_get (y ∷ ys) (suc i) x is = drop-slice_get ys i x is

-- a list after its last element
pub drop-slice_get_none : {X : Type 0} (xs : List X) (i : ℕ) → slice_get xs i ≡ None → drop i xs ≡ []
drop-slice_get_none [] zero is = refl
drop-slice_get_none [] (suc i) is = refl
drop-slice_get_none (y ∷ ys) zero is = cc is
drop-slice_get_none (y ∷ ys) (suc i) is = drop-slice_get_none ys i is

-- a front with what follows it
take-more : (bits piece rest : List Bool) (place n : ℕ) → place ≤ length bits → drop place bits ≡ piece ++ rest → length piece ≡ n
    → (take (place + n) bits ≡ take place bits ++ piece) × (drop (place + n) bits ≡ rest)
take-more bits piece rest place n within is len =
    let whole : bits ≡ (take place bits ++ piece) ++ rest = sym (take-append-drop place bits) ∙ rw (is, append_assoc) refl in
    let front : length (take place bits ++ piece) ≡ place + n = length-append (take place bits) piece ∙ rw (length-take-le place bits within, len) refl in
    (ap (take (place + n)) whole ∙ take_at (take place bits ++ piece) rest (place + n) front, ap (drop (place + n)) whole ∙ drop_at (take place bits ++ piece) rest (place + n) front)

-- there are not many more runs than bits
length-AreRuns : (least count : ℕ) (runs : List (ℕ × ℕ)) → least ≤ count + 1 → AreRuns least count runs → length runs + least ≤ count + 1
length-AreRuns least count [] fits are = omega arith
length-AreRuns least count (run ∷ runs) fits are =
    let ih = length-AreRuns (run.0 + run.1 + 1) count runs (omega (arith, are.2)) are.3 in omega (arith, ih, are.0, are.1)

-- the walk goes on to the next run
pub IsNextRun-at : (bits : List Bool) (i place start size : ℕ) → IsAtRun bits i place → slice_get (zero_runs bits) i ≡ Some (start, size) → IsNextRun bits i place start size
IsNextRun-at bits i place start size at is =
    let later : List (ℕ × ℕ) = drop (suc i) (zero_runs bits) in
    let runs : drop i (zero_runs bits) ≡ (start, size) ∷ later = drop-slice_get (zero_runs bits) i (start, size) is in
    let are : AreRuns place (length bits) ((start, size) ∷ later) = rw runs at at.in_order in
    let rest : drop place bits ≡ replicate (start - place) true ++ (replicate size false ++ bits_of (start + size) (length bits) later) = rw runs at at.rest in
    let gap : place + (start - place) ≡ start = omega (arith, are.0) in
    let ones = take-more bits (replicate (start - place) true) (replicate size false ++ bits_of (start + size) (length bits) later) place (start - place) at.within rest (length-replicate (start - place) true) in
    let ones_at : drop start bits ≡ replicate size false ++ bits_of (start + size) (length bits) later = rw gap at ones.1 in
    let zeros = take-more bits (replicate size false) (bits_of (start + size) (length bits) later) start size (omega (arith, are.2)) ones_at (length-replicate size false) in
    let next : suc i ≡ i + 1 = omega arith in
    let left = slice_get_within (zero_runs bits) i (start, size) is in
    let count = length-AreRuns 0 (length bits) (zero_runs bits) (omega arith) (rw (drop_at [] (zero_runs bits) 0 refl) at (IsAtRun-start bits).in_order) in
    record {
      left = left;
      few = omega (arith, left, count);
      after = are.0;
      some = are.1;
      within = are.2;
      ones = rw gap at ones.0;
      zeros = zeros.0;
      rest_ones = rw ones_at rest;
      rest_zeros = rw zeros.1 ones_at;
      apart = rw (← next) are.3;
      same = rw (← next) runs;
      next = record {
        rest = rw (← next) zeros.1;
        in_order = rw (← next) (AreRuns-lower (start + size) (start + size + 1) (length bits) later (omega arith) are.3);
        within = are.2;
      };
    }

-- the walk ends after the last run
pub IsAtRun-end : (bits : List Bool) (i place : ℕ) → IsAtRun bits i place → slice_get (zero_runs bits) i ≡ None → bits ≡ take place bits ++ replicate (length bits - place) true
IsAtRun-end bits i place at is =
    let rest : drop place bits ≡ replicate (length bits - place) true = rw (drop-slice_get_none (zero_runs bits) i is) at at.rest in
    sym (take-append-drop place bits) ∙ rw rest refl
