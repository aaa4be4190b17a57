-- The bit at a place, by the runs of 0 bits.
use Rattle.std.proofs.Common.{◌≡◌, ◌⊎◌, ℕ, zero, suc, ◌+◌, ◌-◌, ◌<◌, ◌≤◌, Bool, true, false, List, [], ◌∷◌, ◌++◌, length, replicate, get_or, refl, sym, ap, subst, ◌∙◌, arith, inl, inr}
use Rattle.std.proofs.lemmas.List.{get_or-append_right, get_or-replicate, get_or_append_left, length-replicate}
use Rattle.std.specs.List.{slice_get}
use Rattle.std.specs.declared.option.Option.TheVariants.{Some}
use Rattle.pc_model.proofs.BitsLemmas.{AreRuns-slice_get}
use Rattle.pc_model.proofs.RunsAt.{AreRuns-zero_runs_from, bits_of-zero_runs_from}
use Rattle.pc_model.specs.Bits.{AreRuns, bits_of, zero_runs}

-- ---- the order of the runs

-- a run ends before a later one begins
AreRuns-order : (least count : ℕ) (runs : List (ℕ × ℕ)) (i j : ℕ) (a b : ℕ × ℕ) → AreRuns least count runs → i < j → slice_get runs i ≡ Some a → slice_get runs j ≡ Some b
    → a.0 + a.1 < b.0
AreRuns-order least count [] i j a b are less is_a is_b = cc is_a
AreRuns-order least count (run ∷ runs) zero zero a b are less is_a is_b = absurd (omega arith)
AreRuns-order least count (run ∷ runs) zero (suc j) a b are less is_a is_b =
    let same : run ≡ a = cc is_a in
    let later = AreRuns-slice_get (run.0 + run.1 + 1) count runs j b are.3 is_b in
    subst (λ (r : ℕ × ℕ). r.0 + r.1 < b.0) same (omega (arith, later.0))
AreRuns-order least count (run ∷ runs) (suc i) zero a b are less is_a is_b = absurd (omega arith)
AreRuns-order least count (run ∷ runs) (suc i) (suc j) a b are less is_a is_b =
    AreRuns-order (run.0 + run.1 + 1) count runs i j a b are.3 (omega arith) is_a is_b

-- the same of the runs of bits
pub zero_runs-order : (bits : List Bool) (i j : ℕ) (a b : ℕ × ℕ) → i < j → slice_get (zero_runs bits) i ≡ Some a → slice_get (zero_runs bits) j ≡ Some b → a.0 + a.1 < b.0
zero_runs-order bits i j a b less is_a is_b =
    AreRuns-order 0 (0 + length bits) (zero_runs bits) i j a b (AreRuns-zero_runs_from 0 bits) less is_a is_b

-- ---- the bit at a place

-- a bit after two pieces
get_or-after : (a b c : List Bool) (i n : ℕ) → length a + length b ≡ n → n ≤ i → get_or (a ++ (b ++ c)) i false ≡ get_or c (i - n) false
get_or-after a b c i n len past =
    let first = get_or-append_right a (b ++ c) (length a) i false refl (omega arith) in
    let second = get_or-append_right b c (length b) (i - length a) false refl (omega arith) in
    let at : i - length a - length b ≡ i - n = omega arith in
    first ∙ second ∙ ap (λ (k : ℕ). get_or c k false) at

-- a place in a run has a 0 bit
get_or-bits_of_in : (at least count : ℕ) (runs : List (ℕ × ℕ)) (i : ℕ) (run : ℕ × ℕ) (place : ℕ) → at ≤ least → AreRuns least count runs → slice_get runs i ≡ Some run
    → run.0 ≤ place → place < run.0 + run.1 → get_or (bits_of at count runs) (place - at) false ≡ false
get_or-bits_of_in at least count [] i run place h are is low high = cc is
get_or-bits_of_in at least count (first ∷ runs) zero run place h are is low high =
    let same : first ≡ run = cc is in
    let from : first.0 ≤ place = subst (λ (r : ℕ × ℕ). r.0 ≤ place) (sym same) low in
    let to : place < first.0 + first.1 = subst (λ (r : ℕ × ℕ). place < r.0 + r.1) (sym same) high in
    let gap = length-replicate (first.0 - at) true in
    let zeros = length-replicate first.1 false in
    let rest : List Bool = bits_of (first.0 + first.1) count runs in
    get_or-append_right (replicate (first.0 - at) true) (replicate first.1 false ++ rest) (first.0 - at) (place - at) false gap (omega (arith, are.0))
    ∙ get_or_append_left (replicate first.1 false) rest false (place - at - (first.0 - at)) (omega (arith, are.0, zeros))
    ∙ get_or-replicate first.1 (place - at - (first.0 - at)) false false (omega (arith, are.0))
get_or-bits_of_in at least count (first ∷ runs) (suc i) run place h are is low high =
    let later = AreRuns-slice_get (first.0 + first.1 + 1) count runs i run are.3 is in
    let gap = length-replicate (first.0 - at) true in
    let zeros = length-replicate first.1 false in
    let len : length (replicate (first.0 - at) true) + length (replicate first.1 false) ≡ first.0 + first.1 - at = omega (arith, gap, zeros, are.0) in
    let at_later : place - at - (first.0 + first.1 - at) ≡ place - (first.0 + first.1) = omega (arith, are.0, later.0) in
    get_or-after (replicate (first.0 - at) true) (replicate first.1 false) (bits_of (first.0 + first.1) count runs) (place - at) (first.0 + first.1 - at) len (omega (arith, are.0, later.0))
    ∙ rw at_later (get_or-bits_of_in (first.0 + first.1) (first.0 + first.1 + 1) count runs i run place (omega arith) are.3 is low high)

-- a place in no run has a 1 bit
get_or-bits_of_out : (at least count : ℕ) (runs : List (ℕ × ℕ)) (place : ℕ) → at ≤ least → at ≤ place → place < count → AreRuns least count runs
    → ((i : ℕ) (run : ℕ × ℕ) → slice_get runs i ≡ Some run → (run.0 + run.1 ≤ place) ⊎ (place < run.0)) → get_or (bits_of at count runs) (place - at) false ≡ true
get_or-bits_of_out at least count [] place h low high are out =
    get_or-replicate (count - at) (place - at) true false (omega arith)
get_or-bits_of_out at least count (first ∷ runs) place h low high are out = elim (out 0 first refl) [
  | inr before ↦
      let gap = length-replicate (first.0 - at) true in
      get_or_append_left (replicate (first.0 - at) true) (replicate first.1 false ++ bits_of (first.0 + first.1) count runs) false (place - at) (omega (arith, gap, before))
      ∙ get_or-replicate (first.0 - at) (place - at) true false (omega (arith, before))
  | inl after ↦
      let gap = length-replicate (first.0 - at) true in
      let zeros = length-replicate first.1 false in
      let len : length (replicate (first.0 - at) true) + length (replicate first.1 false) ≡ first.0 + first.1 - at = omega (arith, gap, zeros, are.0) in
      let at_later : place - at - (first.0 + first.1 - at) ≡ place - (first.0 + first.1) = omega (arith, are.0, after) in
      get_or-after (replicate (first.0 - at) true) (replicate first.1 false) (bits_of (first.0 + first.1) count runs) (place - at) (first.0 + first.1 - at) len (omega (arith, are.0, after))
      ∙ rw at_later (get_or-bits_of_out (first.0 + first.1) (first.0 + first.1 + 1) count runs place (omega arith) after high are.3 (λ i run is. out (suc i) run is))
]

-- a place in a run has a 0 bit
pub get_or-in_zero_run : (bits : List Bool) (i : ℕ) (run : ℕ × ℕ) (place : ℕ) → slice_get (zero_runs bits) i ≡ Some run → run.0 ≤ place → place < run.0 + run.1 → get_or bits place false ≡ false
get_or-in_zero_run bits i run place is low high =
    let from_zero : place - 0 ≡ place = omega arith in
    ap (λ (l : List Bool). get_or l place false) (sym (bits_of-zero_runs_from 0 bits))
    ∙ rw from_zero at (get_or-bits_of_in 0 0 (0 + length bits) (zero_runs bits) i run place (omega arith) (AreRuns-zero_runs_from 0 bits) is low high)

-- a place in no run has a 1 bit
pub get_or-in_no_zero_run : (bits : List Bool) (place : ℕ) → place < length bits → ((i : ℕ) (run : ℕ × ℕ) → slice_get (zero_runs bits) i ≡ Some run → (run.0 + run.1 ≤ place) ⊎ (place < run.0))
    → get_or bits place false ≡ true
get_or-in_no_zero_run bits place within out =
    let from_zero : place - 0 ≡ place = omega arith in
    ap (λ (l : List Bool). get_or l place false) (sym (bits_of-zero_runs_from 0 bits))
    ∙ rw from_zero at (get_or-bits_of_out 0 0 (0 + length bits) (zero_runs bits) place (omega arith) (omega arith) (omega (arith, within)) (AreRuns-zero_runs_from 0 bits) out)
