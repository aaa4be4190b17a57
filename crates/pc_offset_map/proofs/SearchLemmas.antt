-- A binary search among the runs of 0 bits.
use Rattle.std.proofs.Common.{◌≡◌, ℕ, ◌+◌, ◌-◌, ◌<◌, ◌≤◌, Bool, true, false, not, List, length, get_or, refl, sym, ap, ◌∙◌, arith, inl, inr}
use Rattle.std.proofs.lemmas.Bool.{cases_lt, cases_order}
use Rattle.std.proofs.lemmas.Option.{slice_get_within}
use Rattle.std.specs.List.{slice_get}
use Rattle.std.specs.declared.option.Option.TheVariants.{Some}
use Rattle.pc_model.proofs.BitAtLemmas.{get_or-in_no_zero_run, get_or-in_zero_run, zero_runs-order}
use Rattle.pc_model.specs.Bits.{zero_runs}
use Rattle.pc_offset_map.specs.Search.{IsBetween}

-- the search begins with all runs
IsBetween-all : (bits : List Bool) (place count : ℕ) → count ≡ length (zero_runs bits) → IsBetween bits place 0 count
IsBetween-all bits place count is = record {
  before = λ i run low here. absurd (omega (arith, low));
  after = λ i run high here. let within = slice_get_within (zero_runs bits) i run here in absurd (omega (arith, high, within, is));
  ends = omega (arith, is);
}

-- a run with its place is one with it
same_start : (start size : ℕ) (run : ℕ × ℕ) → Some (start, size) ≡ Some run → start ≡ run.0
same_start start size run is = let same : (start, size) ≡ run = cc is in ap (λ (r : ℕ × ℕ). r.0) same

-- a run with its end is one with it
same_end : (start size : ℕ) (run : ℕ × ℕ) → Some (start, size) ≡ Some run → start + size ≡ run.0 + run.1
same_end start size run is = let same : (start, size) ≡ run = cc is in ap (λ (r : ℕ × ℕ). r.0 + r.1) same

-- the place lies before a run
pub IsBetween-before : (bits : List Bool) (place low high middle start size : ℕ) → IsBetween bits place low high → middle < high → Some (start, size) ≡ slice_get (zero_runs bits) middle → place < start
    → IsBetween bits place low middle
IsBetween-before bits place low high middle start size between below is less = record {
  before = between.before;
  after = λ i run high here. elim (cases_order middle i) [
    | inl same ↦ let start_is = same_start start size run (is ∙ ap (slice_get (zero_runs bits)) same ∙ here) in omega (arith, start_is, less)
    | inr (inl later) ↦
        let order = zero_runs-order bits middle i (start, size) run later (sym is) here in omega (arith, order, less)
    | inr (inr earlier) ↦ absurd (omega (arith, high, earlier))
  ];
  ends = omega (arith, between.ends, below);
}

-- the place lies after a run
pub IsBetween-after : (bits : List Bool) (place low high middle start size : ℕ) → IsBetween bits place low high → Some (start, size) ≡ slice_get (zero_runs bits) middle → start + size ≤ place
    → IsBetween bits place (middle + 1) high
IsBetween-after bits place low high middle start size between is more = record {
  before = λ i run low here. elim (cases_order middle i) [
    | inl same ↦ let end_is = same_end start size run (is ∙ ap (slice_get (zero_runs bits)) same ∙ here) in omega (arith, end_is, more)
    | inr (inl later) ↦ absurd (omega (arith, low, later))
    | inr (inr earlier) ↦
        let order = zero_runs-order bits i middle run (start, size) earlier here (sym is) in omega (arith, order, more)
  ];
  after = between.after;
  ends = between.ends;
}

-- the place lies in a run
pub not-in_run : (bits : List Bool) (place middle start size : ℕ) → Some (start, size) ≡ slice_get (zero_runs bits) middle → start ≤ place → place - start < size → true ≡ not (get_or bits place false)
not-in_run bits place middle start size is low high =
    let zero = get_or-in_zero_run bits middle (start, size) place (sym is) low (omega (arith, low, high)) in rw zero refl

-- the place lies in no run
pub not-in_no_run : (bits : List Bool) (place low high : ℕ) → IsBetween bits place low high → high ≤ low → place < length bits → false ≡ not (get_or bits place false)
not-in_no_run bits place low high between none within =
    let one = get_or-in_no_zero_run bits place within (λ i run here. elim (cases_lt i low) [
      | inl less ↦ inl (between.before i run less here)
      | inr more ↦ inr (between.after i run (omega (arith, none, more)) here)
    ]) in
    rw one refl
