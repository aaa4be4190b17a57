-- The lengths of runs of bits that are written as runs.
use Rattle.std.proofs.Common.{◌≡◌, ℕ, zero, suc, ◌+◌, ◌-◌, ◌*◌, ◌<◌, ◌≤◌, Bool, true, false, not, if◌then◌else◌, List, [], ◌∷◌, ◌++◌, length, drop, replicate, refl, sym, ap, ◌∙◌, arith, inl, inr, add-one}
use Rattle.std.proofs.lemmas.Bool.{cases_lt, le-ltb, lt-ltb}
use Rattle.std.proofs.lemmas.List.{append-nil, drop_all, length-append, length-drop, length-replicate}
use Rattle.std.specs.List.{slice_get}
use Rattle.std.specs.Prelude.{nat_lt}
use Rattle.std.specs.declared.option.Option.TheVariants.{None, Some}
use Rattle.pc_model.proofs.BitsLemmas.{AreRuns-lower}
use Rattle.pc_model.proofs.RunsAt.{AreRuns-zero_runs_from, IsAtRun, IsNextRun, bits_of-zero_runs_from, drop-slice_get_none}
use Rattle.pc_model.specs.Bits.{AreRuns, bits_of, zero_runs}
use Rattle.pc_model.specs.MapSpelling.{run_lengths, run_lengths_from}

-- the bits do not begin with this bit
abbrev BeginsApart : Bool → List Bool → Type 0
BeginsApart bit [] = Unit {0}
BeginsApart true (true ∷ bits) = ⊥
BeginsApart true (false ∷ bits) = Unit {0}
BeginsApart false (false ∷ bits) = ⊥
BeginsApart false (true ∷ bits) = Unit {0}

-- the lengths where a run stands before other bits
pub run_lengths_from-run : (bit : Bool) (n : ℕ) (bits : List Bool) → BeginsApart bit bits → 0 < n + length bits
    → run_lengths_from bit (replicate n bit ++ bits) ≡ n ∷ run_lengths_from (not bit) bits
run_lengths_from-run bit zero [] apart some = absurd (omega arith)
run_lengths_from-run true zero (true ∷ bits) apart some = absurd apart
run_lengths_from-run true zero (false ∷ bits) apart some = refl
run_lengths_from-run false zero (false ∷ bits) apart some = absurd apart
run_lengths_from-run false zero (true ∷ bits) apart some = refl
run_lengths_from-run true (suc zero) [] apart some = refl
run_lengths_from-run false (suc zero) [] apart some = refl
run_lengths_from-run true (suc zero) (bit ∷ bits) apart some =
    rw (run_lengths_from-run true zero (bit ∷ bits) apart (omega arith)) refl
run_lengths_from-run false (suc zero) (bit ∷ bits) apart some =
    rw (run_lengths_from-run false zero (bit ∷ bits) apart (omega arith)) refl
run_lengths_from-run true (suc (suc n)) bits apart some =
    rw (run_lengths_from-run true (suc n) bits apart (omega arith), add-one) refl
run_lengths_from-run false (suc (suc n)) bits apart some =
    rw (run_lengths_from-run false (suc n) bits apart (omega arith), add-one) refl

-- ---- how many lengths there are

-- the lengths by the runs of 0 bits, from a run of 1 bits on
abbrev pub lengths_by_runs : ℕ → ℕ → List (ℕ × ℕ) → List ℕ
lengths_by_runs at count [] = if nat_lt at count then (count - at) ∷ [] else []
lengths_by_runs at count (run ∷ runs) = (run.0 - at) ∷ run.1 ∷ lengths_by_runs (run.0 + run.1) count runs

-- bits that begin with a run of 0 bits, or end
BeginsApart-zeros : (n : ℕ) (bits : List Bool) → 0 < n → BeginsApart true (replicate n false ++ bits)
BeginsApart-zeros zero bits some = absurd (omega arith)
BeginsApart-zeros (suc n) bits some = tt

-- bits that begin with a run of 1 bits, or end
pub BeginsApart-bits_of : (at count : ℕ) (runs : List (ℕ × ℕ)) → AreRuns (at + 1) count runs → BeginsApart false (bits_of at count runs)
BeginsApart-bits_of at count [] are = go (count - at) where
  go : (n : ℕ) → BeginsApart false (replicate n true)
  go zero = tt
  go (suc n) = tt
BeginsApart-bits_of at count (run ∷ runs) are =
    let gap : run.0 - at ≡ suc (run.0 - (at + 1)) = omega (arith, are.0) in
    rw gap tt

-- the lengths of bits that have these runs
pub run_lengths_from-bits_of : (at count : ℕ) (runs : List (ℕ × ℕ)) → AreRuns at count runs → run_lengths_from true (bits_of at count runs) ≡ lengths_by_runs at count runs
run_lengths_from-bits_of at count [] are = elim (cases_lt at count) [
  | inl less ↦
      rw (lt-ltb at count less) (ap (run_lengths_from true) (sym (append-nil (replicate (count - at) true))) ∙ run_lengths_from-run true (count - at) [] tt (omega arith))
  | inr more ↦
      let none : count - at ≡ 0 = omega arith in
      rw (le-ltb at count more, none) refl
]
run_lengths_from-bits_of at count (run ∷ runs) are =
    let later : List Bool = bits_of (run.0 + run.1) count runs in
    let len = length-append (replicate run.1 false) later in
    let zeros = length-replicate run.1 false in
    let first = run_lengths_from-run true (run.0 - at) (replicate run.1 false ++ later) (BeginsApart-zeros run.1 later are.1) (omega (arith, len, zeros, are.1)) in
    let second = run_lengths_from-run false run.1 later (BeginsApart-bits_of (run.0 + run.1) count runs are.3) (omega (arith, are.1)) in
    let rest = run_lengths_from-bits_of (run.0 + run.1) count runs (AreRuns-lower (run.0 + run.1) (run.0 + run.1 + 1) count runs (omega arith) are.3) in
    first ∙ rw (second, rest) refl

-- two for a run of 0 bits, and one more
length-lengths_by_runs : (at count : ℕ) (runs : List (ℕ × ℕ)) → length (lengths_by_runs at count runs) ≤ 2 * length runs + 1
length-lengths_by_runs at count [] = elim (cases_lt at count) [
  | inl less ↦ rw (lt-ltb at count less) (omega arith)
  | inr more ↦ rw (le-ltb at count more) (omega arith)
]
length-lengths_by_runs at count (run ∷ runs) = omega (arith, length-lengths_by_runs (run.0 + run.1) count runs)

-- a first run of the other bit is at most one more
length-run_lengths_from : (bits : List Bool) → length (run_lengths_from false bits) ≤ length (run_lengths_from true bits) + 1
length-run_lengths_from [] = omega arith
length-run_lengths_from (true ∷ bits) = omega arith
length-run_lengths_from (false ∷ bits) = omega arith

-- at most two lengths for a run of 0 bits, and two more
pub length-run_lengths : (bits : List Bool) → length (run_lengths bits) ≤ 2 * length (zero_runs bits) + 2
length-run_lengths bits =
    let by_runs = run_lengths_from-bits_of 0 (0 + length bits) (zero_runs bits) (AreRuns-zero_runs_from 0 bits) in
    let is : run_lengths_from true bits ≡ lengths_by_runs 0 (0 + length bits) (zero_runs bits) = ap (run_lengths_from true) (sym (bits_of-zero_runs_from 0 bits)) ∙ by_runs in
    let few = length-lengths_by_runs 0 (0 + length bits) (zero_runs bits) in
    let same = ap (length {A = ℕ}) is in
    omega (arith, few, same, length-run_lengths_from bits)

-- ---- the walk, one length at a time

-- a run of 0 bits at the place
pub run_lengths_from-zeros : (bits : List Bool) (i place size : ℕ) → IsNextRun bits i place place size
    → run_lengths_from false (drop place bits) ≡ size ∷ run_lengths_from true (drop (place + size) bits)
run_lengths_from-zeros bits i place size next =
    let later : List Bool = drop (place + size) bits in
    let apart : BeginsApart false later = rw next.next.rest (BeginsApart-bits_of (place + size) (length bits) (drop (i + 1) (zero_runs bits)) next.apart) in
    ap (run_lengths_from false) next.rest_zeros ∙ run_lengths_from-run false size later apart (omega (arith, next.some))

-- an element from the list that begins with it
slice_get-drop : {X : Type 0} (xs : List X) (i : ℕ) (x : X) (rest : List X) → drop i xs ≡ x ∷ rest → slice_get xs i ≡ Some x
slice_get-drop [] zero x rest is = cc is
slice_get-drop [] (suc i) x rest is = cc is
slice_get-drop (y ∷ ys) zero x rest is = let same : y ≡ x = cc is in rw same refl
slice_get-drop (y ∷ ys) (suc i) x rest is = slice_get-drop ys i x rest is

-- no run of 0 bits at the place
pub run_lengths_from-no_zeros : (bits : List Bool) (i place : ℕ) → IsAtRun bits i place → place < length bits → ((size : ℕ) → slice_get (zero_runs bits) i ≡ Some (place, size) → ⊥)
    → run_lengths_from false (drop place bits) ≡ 0 ∷ run_lengths_from true (drop place bits)
run_lengths_from-no_zeros bits i place at some none =
    let apart : BeginsApart false (drop place bits) = rw at.rest (BeginsApart-bits_of place (length bits) (drop i (zero_runs bits)) (go (drop i (zero_runs bits)) refl)) in
    run_lengths_from-run false 0 (drop place bits) apart (omega (arith, length-drop place bits)) where
      go : (runs : List (ℕ × ℕ)) → drop i (zero_runs bits) ≡ runs → AreRuns (place + 1) (length bits) runs
      go [] is = tt
      go (run ∷ runs) is =
          let are : AreRuns place (length bits) (run ∷ runs) = rw is at at.in_order in
          let later : (run.0 ≡ place) → ⊥ = λ (same : run.0 ≡ place).
          none run.1 (slice_get-drop (zero_runs bits) i run runs is ∙ ap (λ (p : ℕ). Some (p, run.1)) same) in
          (omega (arith, are.0, later), are.1, are.2, are.3)

-- 1 bits up to the next run
pub run_lengths_from-ones : (bits : List Bool) (i place start size : ℕ) → IsNextRun bits i place start size
    → run_lengths_from true (drop place bits) ≡ (start - place) ∷ run_lengths_from false (drop start bits)
run_lengths_from-ones bits i place start size next =
    let apart : BeginsApart true (drop start bits) = rw next.rest_zeros (BeginsApart-zeros size (drop (start + size) bits) next.some) in
    ap (run_lengths_from true) next.rest_ones ∙ run_lengths_from-run true (start - place) (drop start bits) apart (omega (arith, next.some, next.within, length-drop start bits))

-- the walk at the next run
pub IsAtRun-ones : (bits : List Bool) (i place start size : ℕ) → IsNextRun bits i place start size → IsAtRun bits i start
IsAtRun-ones bits i place start size next =
    let none : start - start ≡ 0 = omega arith in
    record {
      rest = rw (next.same, none, ← next.next.rest) next.rest_zeros;
      in_order = rw next.same (omega arith, next.some, next.within, next.apart);
      within = omega (arith, next.within);
    }

-- 1 bits up to the end
pub run_lengths_from-last_ones : (bits : List Bool) (i place : ℕ) → IsAtRun bits i place → place < length bits → slice_get (zero_runs bits) i ≡ None
    → run_lengths_from true (drop place bits) ≡ (length bits - place) ∷ run_lengths_from false (drop (length bits) bits)
run_lengths_from-last_ones bits i place at some is =
    let ones : drop place bits ≡ replicate (length bits - place) true = rw (drop-slice_get_none (zero_runs bits) i is) at at.rest in
    let none : drop (length bits) bits ≡ [] = drop_all (length bits) bits (omega arith) in
    ap (run_lengths_from true) (ones ∙ sym (append-nil (replicate (length bits - place) true)))
    ∙ rw none (run_lengths_from-run true (length bits - place) [] tt (omega arith))

-- the walk at the end
pub IsAtRun-last_ones : (bits : List Bool) (i place : ℕ) → IsAtRun bits i place → slice_get (zero_runs bits) i ≡ None → IsAtRun bits i (length bits)
IsAtRun-last_ones bits i place at is =
    let runs = drop-slice_get_none (zero_runs bits) i is in
    let none : drop (length bits) bits ≡ [] = drop_all (length bits) bits (omega arith) in
    let zero_left : length bits - length bits ≡ 0 = omega arith in
    record {
      rest = none ∙ rw (runs, zero_left) refl;
      in_order = rw runs tt;
      within = omega arith;
    }
