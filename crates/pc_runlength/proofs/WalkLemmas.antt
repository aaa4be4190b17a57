-- The lengths of the runs, one step at a time.
use Rattle.std.proofs.Common.{◌≡◌, ℕ, ◌+◌, ◌-◌, ◌<◌, Bool, true, false, not, List, ◌∷◌, length, sym, ◌∙◌, arith}
use Rattle.std.proofs.lemmas.Option.{some_pair_parts}
use Rattle.std.specs.List.{slice_get}
use Rattle.std.specs.declared.option.Option.TheVariants.{None, Some}
use Rattle.pc_model.proofs.RunLemmas.{run_lengths_from-last_ones, run_lengths_from-no_zeros, run_lengths_from-ones, run_lengths_from-zeros}
use Rattle.pc_model.proofs.RunsAt.{IsAtRun, IsNextRun}
use Rattle.pc_model.specs.Bits.{zero_runs}
use Rattle.pc_runlength.specs.RunLengths.{lengths_left}

-- a run of 1 bits
pub lengths_left-ones : (bits : List Bool) (i place start size : ℕ) (ones : Bool) → ones ≡ true → IsNextRun bits i place start size
    → lengths_left bits place ones ≡ (start - place) ∷ lengths_left bits start (not ones)
lengths_left-ones bits i place start size ones is next =
    rw is (run_lengths_from-ones bits i place start size next)

-- the last run of 1 bits
pub lengths_left-last_ones : (bits : List Bool) (i place count : ℕ) (ones : Bool) → ones ≡ true → count ≡ length bits → IsAtRun bits i place → place < length bits → None ≡ slice_get (zero_runs bits) i
    → lengths_left bits place ones ≡ (count - place) ∷ lengths_left bits count (not ones)
lengths_left-last_ones bits i place count ones is all at within none =
    rw (is, all) (run_lengths_from-last_ones bits i place at within (sym none))

-- a run of 0 bits
pub lengths_left-zeros : (bits : List Bool) (i place start size : ℕ) (ones : Bool) → ones ≡ false → start ≡ place → IsNextRun bits i place start size
    → lengths_left bits place ones ≡ (start + size - place) ∷ lengths_left bits (start + size) (not ones)
lengths_left-zeros bits i place start size ones is here next =
    let count : place + size - place ≡ size = omega arith in
    let at : IsNextRun bits i place place size = rw here at next in
    rw (is, here, count) (run_lengths_from-zeros bits i place size at)

-- no run of 0 bits before the next one
pub lengths_left-none_here : (bits : List Bool) (i place start size : ℕ) (ones : Bool) → ones ≡ false → (start ≡ place → ⊥) → IsAtRun bits i place → place < length bits
    → Some (start, size) ≡ slice_get (zero_runs bits) i → lengths_left bits place ones ≡ (place - place) ∷ lengths_left bits place (not ones)
lengths_left-none_here bits i place start size ones is later at within run =
    let count : place - place ≡ 0 = omega arith in
    rw (is, count) (run_lengths_from-no_zeros bits i place at within (λ n here. later (some_pair_parts start place size n (run ∙ here)).0))

-- no run of 0 bits before the end
pub lengths_left-none_left : (bits : List Bool) (i place : ℕ) (ones : Bool) → ones ≡ false → IsAtRun bits i place → place < length bits → None ≡ slice_get (zero_runs bits) i
    → lengths_left bits place ones ≡ (place - place) ∷ lengths_left bits place (not ones)
lengths_left-none_left bits i place ones is at within none =
    let count : place - place ≡ 0 = omega arith in
    rw (is, count) (run_lengths_from-no_zeros bits i place at within (λ n here. let wrong = none ∙ here in cc wrong))
