-- The lengths of the encodings, by the runs up to an offset that is in none.
use Rattle.std.proofs.Common.{◌≡◌, ℕ, zero, suc, ◌+◌, ◌-◌, ◌*◌, ◌/◌, ◌^◌, ◌<◌, ◌≤◌, Bool, true, false, not, ◌||◌, ◌&&◌, cond, eqb, ltb, leb, List, [], ◌∷◌, ◌++◌, length, map, replicate, Option, Some, None, refl, sym, ap, ◌∙◌, arith, inl, inr}
use Rattle.std.specs.List.{flat_map, list_all, list_any, range_with_len}
use Rattle.std.specs.Option.{option_map, unwrap_or}
use Rattle.std.proofs.lemmas.Bool.{cases_lt, le-ltb, lt-ltb}
use Rattle.std.proofs.lemmas.List.{length-append, length-replicate, map-append}
use Rattle.std.proofs.lemmas.List.Folds.{sum_by-zero}
use Rattle.byteorder.specs.Endian.{big_bytes}
use Rattle.byteorder.specs.Numbers.{length-bytes_high_first}
use Rattle.pc_model.specs.Bits.{AreRuns, bits_between, bits_of}
use Rattle.pc_model.specs.MapSpelling.{bit_bytes, bitset_spelling, run_lengths, run_spelling, spelling_of}
use Rattle.pc_model.proofs.BitsLemmas.{AreRuns-lower, AreRuns-more, length-bits_of}
use Rattle.pc_model.proofs.BytesLemmas.{length-bit_bytes}
use Rattle.pc_model.proofs.ReadingLemmas.{length-flat_map-big_bytes}
use Rattle.pc_model.proofs.RunLemmas.{BeginsApart-bits_of, lengths_by_runs, run_lengths_from-bits_of, run_lengths_from-run}
use Rattle.pc_model.specs.Numbers.{least_of}
use Rattle.pc_model.proofs.ListLemmas.{list_all-same}
use Rattle.pc_partition.specs.declared.counts.Counts.{Counts}
use Rattle.pc_partition.specs.declared.lengths.Lengths.{Lengths}
use Rattle.pc_partition.specs.Counts.{counts_upto, lengths_after, lengths_upto, long_of, runs_below}
use Rattle.pc_partition.specs.Lengths.{bitset_by_count, lengths_by_counts, lengths_of, runs_by_count}
use Rattle.pc_partition.specs.Runs.{offsets_in}
use Rattle.pc_partition.proofs.BitsUpto.{AreRuns-position, is_done}
use Rattle.pc_partition.proofs.CountsLemmas.{AreRuns-below, above-test, apart-end, apart-rest, upto-test}
use Rattle.pc_partition.proofs.RunsLemmas.{is_in, is_in-below, list_any-offsets_in, range-append}
use Rattle.pc_partition.proofs.StateLemmas.{least-runs}

-- ---- the bits of the runs

map-range-eq : (f g : ℕ → Bool) (a n : ℕ) → ((o : ℕ) → a ≤ o → o < a + n → f o ≡ g o)
    → map f (range_with_len a n) ≡ map g (range_with_len a n)
map-range-eq f g a zero same = refl
map-range-eq f g a (suc n) same = rw (same a (omega arith) (omega arith))
    (ap (λ (l : List Bool). g a ∷ l) (map-range-eq f g (a + 1) n (λ o low high. same o (omega (arith, low)) (omega (arith, high)))))

map-range-const : (v : Bool) (a n : ℕ) → map (λ o. v) (range_with_len a n) ≡ replicate n v
map-range-const v a zero = refl
map-range-const v a (suc n) = ap (λ (l : List Bool). v ∷ l) (map-range-const v (a + 1) n)

-- whether the offset is in none of the runs
abbrev apart_of : List (ℕ × ℕ) → ℕ → Bool
apart_of runs o = not (is_in o runs)

inside : (o : ℕ) (run : ℕ × ℕ) (runs : List (ℕ × ℕ)) → run.0 ≤ o → o < run.0 + run.1 → is_in o (run ∷ runs) ≡ true
inside o run runs low less = rw (upto-test run.0 o low, lt-ltb o (run.0 + run.1) less) refl

past-or : (a x : Bool) → ((a && false) || x) ≡ x
past-or true x = refl
past-or false x = refl

past : (o : ℕ) (run : ℕ × ℕ) (runs : List (ℕ × ℕ)) → run.0 + run.1 ≤ o → is_in o (run ∷ runs) ≡ is_in o runs
past o run runs end = rw (le-ltb o (run.0 + run.1) end) (past-or (leb run.0 o) (is_in o runs))

-- the bits are those of the runs below
bits-below : (at high : ℕ) (runs : List (ℕ × ℕ)) → AreRuns at (2 ^ 63) runs → at ≤ high → is_in high runs ≡ false
    → map (apart_of runs) (range_with_len at (high + 1 - at)) ≡ bits_of at (high + 1) (runs_below high runs)
bits-below at high [] are le apart = map-range-const true at (high + 1 - at)
bits-below at high (run ∷ runs) are le apart = elim (cases_lt high run.0) [
  | inl less ↦ rw (above-test run.0 high less)
      (map-range-eq (apart_of (run ∷ runs)) (λ o. true) at (high + 1 - at)
      (λ o low before. ap not (is_in-below o run.0 (2 ^ 63) (run ∷ runs) (omega arith, are.1, are.2, are.3) (omega (arith, less, before, le))))
      ∙ map-range-const true at (high + 1 - at))
  | inr more ↦
      let end = apart-end high run runs apart more in
      let split : high + 1 - at ≡ (run.0 - at) + (run.1 + (high + 1 - (run.0 + run.1))) = omega (arith, are.0, end) in
      let at_run : at + (run.0 - at) ≡ run.0 = omega (arith, are.0) in
      let ones = map-range-eq (apart_of (run ∷ runs)) (λ o. true) at (run.0 - at)
      (λ o low before. ap not (is_in-below o run.0 (2 ^ 63) (run ∷ runs) (omega arith, are.1, are.2, are.3) (omega (arith, before, at_run))))
      ∙ map-range-const true at (run.0 - at) in
      let zeros = map-range-eq (apart_of (run ∷ runs)) (λ o. false) run.0 run.1
      (λ o low before. ap not (inside o run runs low before)) ∙ map-range-const false run.0 run.1 in
      let rest = map-range-eq (apart_of (run ∷ runs)) (apart_of runs) (run.0 + run.1) (high + 1 - (run.0 + run.1))
      (λ o low before. ap not (past o run runs low))
      ∙ bits-below (run.0 + run.1) high runs (AreRuns-lower (run.0 + run.1) (run.0 + run.1 + 1) (2 ^ 63) runs (omega arith) are.3) end
      (apart-rest high run runs apart) in
      rw (upto-test run.0 high more)
      (ap (λ n. map (apart_of (run ∷ runs)) (range_with_len at n)) split
      ∙ ap (map (apart_of (run ∷ runs))) (range-append at (run.0 - at) (run.1 + (high + 1 - (run.0 + run.1))))
      ∙ map-append (apart_of (run ∷ runs)) (range_with_len at (run.0 - at)) (range_with_len (at + (run.0 - at)) (run.1 + (high + 1 - (run.0 + run.1))))
      ∙ rw (
        at_run,
        range-append run.0 run.1 (high + 1 - (run.0 + run.1)),
        map-append (apart_of (run ∷ runs)) (range_with_len run.0 run.1) (range_with_len (run.0 + run.1) (high + 1 - (run.0 + run.1))),
        ones,
        zeros,
        rest,
      ) refl)
]

bits_between-below : (position high : ℕ) (runs : List (ℕ × ℕ)) → AreRuns position (2 ^ 63) runs → position ≤ high
    → is_in high runs ≡ false → bits_between position high (offsets_in runs) ≡ bits_of position (high + 1) (runs_below high runs)
bits_between-below position high runs are le apart =
    map-range-eq (is_done runs) (apart_of runs) position (high + 1 - position) (λ o low less. ap not (list_any-offsets_in o runs))
    ∙ bits-below position high runs are le apart

-- ---- the lengths of the runs

-- two for each run, after the first
length-after : (at high : ℕ) (runs : List (ℕ × ℕ)) → AreRuns at high runs → at ≤ high
    → length (lengths_after at (high + 1) runs) ≡ 2 * length runs + 1
length-after at high [] are le = rw (lt-ltb at (high + 1) (omega arith)) refl
length-after at high (run ∷ runs) are le =
    let ih = length-after (run.0 + run.1) high runs (AreRuns-lower (run.0 + run.1) (run.0 + run.1 + 1) high runs (omega arith) are.3) are.2 in
    omega (arith, ih)

after-by_runs : (at end : ℕ) (runs : List (ℕ × ℕ)) → lengths_by_runs at end runs ≡ lengths_after at end runs
after-by_runs at end [] = refl
after-by_runs at end (run ∷ runs) =
    ap (λ (l : List ℕ). (run.0 - at) ∷ run.1 ∷ l) (after-by_runs (run.0 + run.1) end runs)

-- the lengths of bits that begin with a run
run_lengths-below : (position high : ℕ) (run : ℕ × ℕ) (runs : List (ℕ × ℕ)) → AreRuns position high (run ∷ runs) → run.0 ≡ position
    → run_lengths (bits_of position (high + 1) (run ∷ runs)) ≡ lengths_upto (high + 1) (run ∷ runs)
run_lengths-below position high run runs are first =
    let gap : run.0 - position ≡ 0 = omega arith in
    let later : List Bool = bits_of (run.0 + run.1) (high + 1) runs in
    let more : AreRuns (run.0 + run.1 + 1) (high + 1) runs = AreRuns-more (run.0 + run.1 + 1) high 1 runs are.3 in
    let len = length-replicate {A = Bool} run.1 false in
    let zeros = run_lengths_from-run false run.1 later (BeginsApart-bits_of (run.0 + run.1) (high + 1) runs more) (omega (arith, are.1)) in
    let rest = run_lengths_from-bits_of (run.0 + run.1) (high + 1) runs
    (AreRuns-lower (run.0 + run.1) (run.0 + run.1 + 1) (high + 1) runs (omega arith) more) in
    rw gap (zeros ∙ ap (λ (l : List ℕ). run.1 ∷ l) (rest ∙ after-by_runs (run.0 + run.1) (high + 1) runs))

long-test : (limit n : ℕ) → ltb n limit ≡ eqb (cond (leb limit n) 1 0) 0
long-test limit n = elim (cases_lt n limit) [
  | inl less ↦ rw (lt-ltb n limit less, above-test limit n less) refl
  | inr more ↦ rw (le-ltb n limit more, upto-test limit n more) refl
]

-- all are short where none is long
short-none : (limit : ℕ) (ns : List ℕ) → list_all (λ n. ltb n limit) ns ≡ eqb (long_of limit ns) 0
short-none limit ns = list_all-same (λ n. ltb n limit) (λ n. eqb (cond (leb limit n) 1 0) 0) (long-test limit) ns
    ∙ sym (sum_by-zero (λ n. cond (leb limit n) 1 0) ns)

-- ---- the lengths of the spellings

sized-bitset : (width : ℕ) (bits : List Bool) → option_map length (bitset_spelling width bits)
    ≡ bitset_by_count width (2 ^ (8 * width - 1)) (length bits)
sized-bitset width bits =
    let n : ℕ = length bits in
    let len : length (big_bytes width n ++ bit_bytes bits) ≡ width + (n + 7) / 8 =
    length-append (big_bytes width n) (bit_bytes bits) ∙ rw (length-bytes_high_first width n, length-bit_bytes bits) refl in
    elim (ltb n (2 ^ (8 * width - 1))) as (λ t. option_map length (cond t (Some (big_bytes width n ++ bit_bytes bits)) None)
    ≡ cond t (Some (width + (n + 7) / 8)) None) [ true ↦ ap Some len | false ↦ refl ]

sized-runs : (width count : ℕ) (bits : List Bool) → length (run_lengths bits) ≡ 2 * count
    → option_map length (run_spelling width bits)
    ≡ runs_by_count width count (long_of (2 ^ (8 * width - 1)) (run_lengths bits))
sized-runs width count bits len = rw (short-none (2 ^ (8 * width - 1)) (run_lengths bits)) (
    let size : length (flat_map (big_bytes width) (run_lengths bits)) ≡ width * (2 * count) =
    length-flat_map-big_bytes width (run_lengths bits) ∙ ap (λ n. width * n) len in
    elim (eqb (long_of (2 ^ (8 * width - 1)) (run_lengths bits)) 0)
    as (λ t. option_map length (cond t (Some (flat_map (big_bytes width) (run_lengths bits))) None)
    ≡ cond t (Some (width * (2 * count))) None) [ true ↦ ap Some size | false ↦ refl ])

-- what is known of the bits from a position, where the first run begins
record AreBitsUpto (position high : ℕ) (runs : List (ℕ × ℕ)) (bits : List Bool) : Type 0 where
  pub count : length bits ≡ high + 1 - position
  pub numbers : run_lengths bits ≡ lengths_upto (high + 1) (runs_below high runs)
  pub size : length (run_lengths bits) ≡ 2 * length (runs_below high runs)

AreBitsUpto-runs : (position high : ℕ) (run : ℕ × ℕ) (runs : List (ℕ × ℕ)) → AreRuns position (2 ^ 63) (run ∷ runs)
    → run.0 ≡ position → position ≤ high → list_any (λ x. eqb x high) (offsets_in (run ∷ runs)) ≡ false
    → AreBitsUpto position high (run ∷ runs) (bits_between position high (offsets_in (run ∷ runs)))
AreBitsUpto-runs position high run runs are first le apart =
    let out = sym (list_any-offsets_in high (run ∷ runs)) ∙ apart in
    let test = upto-test run.0 high (omega (arith, first, le)) in
    let order : AreRuns position high (run ∷ runs_below high runs) = rw test at (AreRuns-below position high (run ∷ runs) are out) in
    let bits : bits_between position high (offsets_in (run ∷ runs)) ≡ bits_of position (high + 1) (run ∷ runs_below high runs) =
    bits_between-below position high (run ∷ runs) are le out ∙ rw test refl in
    let numbers = run_lengths-below position high run (runs_below high runs) order first in
    let rest = length-after (run.0 + run.1) high (runs_below high runs)
    (AreRuns-lower (run.0 + run.1) (run.0 + run.1 + 1) high (runs_below high runs) (omega arith) order.3) order.2 in
    let size = ap (λ (l : List ℕ). length l) numbers in
    let len = length-bits_of position position (high + 1) (run ∷ runs_below high runs) (omega arith) (omega arith) (AreRuns-more position high 1 (run ∷ runs_below high runs) order) in
    rw bits (record {
      count = omega (arith, len, le);
      numbers = rw test numbers;
      size = rw test (omega (arith, size, rest));
    })

same-lengths : (a b c d a' b' c' d' : Option ℕ) → a ≡ a' → b ≡ b' → c ≡ c' → d ≡ d'
    → ◌≡◌ {A = Lengths} (record { bitset = a; runlength = b; bitset2 = c; runlength2 = d })
    (record { bitset = a'; runlength = b'; bitset2 = c'; runlength2 = d' })
same-lengths a b c d a' b' c' d' p q r s = rw (p, q, r, s) refl

lengths_of-bits : (position high : ℕ) (runs : List (ℕ × ℕ)) (bits : List Bool) → AreBitsUpto position high runs bits
    → lengths_by_counts (high + 1 - position) (counts_upto (Some high) runs) ≡ lengths_of bits
unfolding spelling_of
lengths_of-bits position high runs bits are =
    let below = runs_below high runs in
    let a = sized-bitset 2 bits in
    let b = sized-runs 2 (length below) bits are.size in
    let c = sized-bitset 4 bits in
    let d = sized-runs 4 (length below) bits are.size in
    rw (← are.count, ← are.numbers) (same-lengths _ _ _ _ _ _ _ _ (sym a) (sym b) (sym c) (sym d))

-- the counts give the lengths, where the first run begins at the position
pub lengths_of-counts : (position high after : ℕ) (runs : List (ℕ × ℕ)) (counts : Counts) → AreRuns 0 after runs → after < 2 ^ 63
    → position ≡ unwrap_or (least_of (offsets_in runs)) after → position ≤ high → high < after
    → list_any (λ x. eqb x high) (offsets_in runs) ≡ false → counts ≡ counts_upto (Some high) runs
    → lengths_by_counts (high + 1 - position) counts ≡ lengths_of (bits_between position high (offsets_in runs))
lengths_of-counts position high after [] counts are small first le below apart counts_are =
    let at : position ≡ after = first in absurd (omega (arith, at, le, below))
lengths_of-counts position high after (run ∷ runs) counts are small first le below apart counts_are =
    let at : position ≡ run.0 = first ∙ ap (λ o. unwrap_or o after) (least-runs 0 after run runs are) in
    let all = AreRuns-position after (run ∷ runs) position are small first in
    ap (λ (c : Counts). lengths_by_counts (high + 1 - position) c) counts_are
    ∙ lengths_of-bits position high (run ∷ runs) _ (AreBitsUpto-runs position high run runs all (sym at) le apart)
