-- What is counted of runs up to an end, where some of the runs are replaced.
use Rattle.std.proofs.Common.{◌≡◌, ℕ, zero, suc, ◌+◌, ◌-◌, ◌*◌, ◌^◌, ◌<◌, ◌≤◌, ◌⊎◌, max, min, Bool, true, false, ◌&&◌, cond, eqb, ltb, leb, List, [], ◌∷◌, ◌++◌, length, get_or, take, drop, Option, Some, None, IfSome, refl, sym, ap, subst, ◌∙◌, arith, inl, inr, add-one, zero-add}
use Rattle.std.specs.List.{AllWithin, list_any, slice_get}
use Rattle.std.specs.Option.{option_map_or}
use Rattle.std.proofs.lemmas.Bool.{cases_Bool, cases_eq, cases_lt, eq-eqb, le-ltb, lt-ltb, ne_eqb}
use Rattle.std.proofs.lemmas.Bool.Decides.{nat_tests}
use Rattle.std.proofs.lemmas.List.{append_assoc, append-nil, drop_all, drop_at, get_or-take, length-append, length-drop, length-take-le, take-append-drop, take_at}
use Rattle.std.proofs.lemmas.List.Folds.{drop_split}
use Rattle.std.proofs.lemmas.List.Sums.{count_by-le-length, sum_by-append, sum_by-cons}
use Rattle.std.proofs.Math.Seq.{drop-cons}
use Rattle.pc_model.specs.Bits.{AreRuns, add_run}
use Rattle.pc_model.proofs.BitsLemmas.{AreRuns-lower, AreRuns-more}
use Rattle.pc_partition.specs.declared.counts.Counts.{Counts}
use Rattle.pc_partition.specs.Counts.{GivesWay, IsCounted, end_of, lengths_after, lengths_upto, long_of, runs_below, runs_upto, start_of}
use Rattle.pc_partition.specs.Runs.{IsCut, IsSpliced, offsets_in, splice}
use Rattle.pc_partition.proofs.RunsLemmas.{AreRuns-get_or, is_in, list_any-offsets_in}

-- ---- the runs up to an offset

pub upto-test : (a b : ℕ) → a ≤ b → leb a b ≡ true
upto-test a b le = grind (arith, nat_tests)

pub above-test : (a b : ℕ) → b < a → leb a b ≡ false
above-test a b lt = grind (arith, nat_tests)

-- so many runs begin at the offset or before it
pub take-below : (high k : ℕ) (runs : List (ℕ × ℕ)) → k ≤ length runs
    → AllWithin (λ (run : ℕ × ℕ). run.0 ≤ high) runs 0 k → AllWithin (λ (run : ℕ × ℕ). high < run.0) runs k (length runs)
    → take k runs ≡ runs_below high runs
take-below high zero [] le upto above = refl
take-below high zero (run ∷ runs) le upto above =
    sym (rw (above-test run.0 high (above 0 run (omega arith) (omega arith))) refl)
take-below high (suc k) [] le upto above = refl
take-below high (suc k) (run ∷ runs) le upto above =
    rw (upto-test run.0 high (upto 0 run (omega arith) (omega arith)))
    (ap (λ (l : List (ℕ × ℕ)). run ∷ l) (take-below high k runs (omega arith)
    (λ j d low less. upto (suc j) d (omega arith) (omega (arith, less)))
    (λ j d low less. above (suc j) d (omega (arith, low)) (omega (arith, less)))))

pub count-below : (high k : ℕ) (runs : List (ℕ × ℕ)) → k ≤ length runs
    → AllWithin (λ (run : ℕ × ℕ). run.0 ≤ high) runs 0 k → AllWithin (λ (run : ℕ × ℕ). high < run.0) runs k (length runs)
    → k ≡ length (runs_below high runs)
count-below high k runs le upto above =
    sym (length-take-le k runs le) ∙ ap (λ (l : List (ℕ × ℕ)). length l) (take-below high k runs le upto above)

below-take : (high : ℕ) (runs : List (ℕ × ℕ)) → take (length (runs_below high runs)) runs ≡ runs_below high runs
below-take high [] = refl
below-take high (run ∷ runs) = elim (cases_Bool (leb run.0 high)) [
  | inl t ↦ rw t (ap (λ (l : List (ℕ × ℕ)). run ∷ l) (below-take high runs))
  | inr f ↦ rw f refl
]

-- they are the first ones
pub upto-take : (high : Option ℕ) (runs : List (ℕ × ℕ)) → take (length (runs_upto high runs)) runs ≡ runs_upto high runs
upto-take None runs = refl
upto-take (Some high) runs = below-take high runs

below-few : (high : ℕ) (runs : List (ℕ × ℕ)) → length (runs_below high runs) ≤ length runs
below-few high [] = omega arith
below-few high (run ∷ runs) = let ih = below-few high runs in elim (cases_Bool (leb run.0 high)) [
  | inl t ↦ rw t (omega (arith, ih))
  | inr f ↦ rw f (omega arith)
]

pub upto-few : (high : Option ℕ) (runs : List (ℕ × ℕ)) → length (runs_upto high runs) ≤ length runs
upto-few None runs = omega arith
upto-few (Some high) runs = below-few high runs

-- all runs that end there are among them
below-front : (least count high : ℕ) (others runs : List (ℕ × ℕ)) → AreRuns least count others → count ≤ high
    → runs_below high (others ++ runs) ≡ others ++ runs_below high runs
below-front least count high [] runs are le = refl
below-front least count high (run ∷ others) runs are le =
    rw (upto-test run.0 high (omega (arith, are.2, le)))
    (ap (λ (l : List (ℕ × ℕ)). run ∷ l) (below-front (run.0 + run.1 + 1) count high others runs are.3 le))

below-all : (least high : ℕ) (runs : List (ℕ × ℕ)) → AreRuns least high runs → runs_below high runs ≡ runs
below-all least high runs are =
    ap (runs_below high) (sym (append-nil runs)) ∙ below-front least high high runs [] are (omega arith) ∙ append-nil runs

-- ---- runs that do not have the offset

pub apart-rest : (o : ℕ) (run : ℕ × ℕ) (runs : List (ℕ × ℕ)) → is_in o (run ∷ runs) ≡ false → is_in o runs ≡ false
apart-rest o run runs apart = elim (cases_Bool (leb run.0 o && ltb o (run.0 + run.1))) [
  | inl t ↦ let e = rw t at apart in cc
  | inr f ↦ rw f at apart
]

pub apart-end : (o : ℕ) (run : ℕ × ℕ) (runs : List (ℕ × ℕ)) → is_in o (run ∷ runs) ≡ false → run.0 ≤ o → run.0 + run.1 ≤ o
apart-end o run runs apart low = elim (cases_lt o (run.0 + run.1)) [
  | inl less ↦ let t : is_in o (run ∷ runs) ≡ true = rw (upto-test run.0 o low, lt-ltb o (run.0 + run.1) less) refl in cc
  | inr more ↦ more
]

-- the runs below end before the offset
pub AreRuns-below : (at high : ℕ) (runs : List (ℕ × ℕ)) → AreRuns at (2 ^ 63) runs → is_in high runs ≡ false
    → AreRuns at high (runs_below high runs)
AreRuns-below at high [] are apart = tt
AreRuns-below at high (run ∷ runs) are apart = elim (cases_lt high run.0) [
  | inl less ↦ rw (above-test run.0 high less) tt
  | inr more ↦ rw (upto-test run.0 high more) (
    are.0,
    are.1,
    apart-end high run runs apart more,
    AreRuns-below (run.0 + run.1 + 1) high runs are.3 (apart-rest high run runs apart),
  )
]

-- they are in order up to where the bits end
pub AreRuns-runs_upto : (high : Option ℕ) (runs : List (ℕ × ℕ)) → AreRuns 0 (2 ^ 63) runs
    → IfSome high (λ h. list_any (λ x. eqb x h) (offsets_in runs) ≡ false)
    → AreRuns 0 (end_of high) (runs_upto high runs)
AreRuns-runs_upto None runs are apart = tt
AreRuns-runs_upto (Some high) runs are apart = AreRuns-more 0 high 1 (runs_below high runs)
    (AreRuns-below 0 high runs are (sym (list_any-offsets_in high runs) ∙ apart))

-- ---- the lengths of runs before and behind others

-- the lengths before a run that begins here, from a place on
abbrev lengths_between : ℕ → List (ℕ × ℕ) → ℕ → List ℕ
lengths_between place [] start = (start - place) ∷ []
lengths_between place (run ∷ runs) start = (run.0 - place) ∷ run.1 ∷ lengths_between (run.0 + run.1) runs start

-- the same from the first run on
abbrev lengths_before : List (ℕ × ℕ) → ℕ → List ℕ
lengths_before [] start = []
lengths_before (run ∷ runs) start = run.1 ∷ lengths_between (run.0 + run.1) runs start

after-front : (place end : ℕ) (front : List (ℕ × ℕ)) (run : ℕ × ℕ) (runs : List (ℕ × ℕ))
    → lengths_after place end (front ++ run ∷ runs) ≡ lengths_between place front run.0 ++ lengths_upto end (run ∷ runs)
after-front place end [] run runs = refl
after-front place end (one ∷ front) run runs =
    ap (λ (l : List ℕ). (one.0 - place) ∷ one.1 ∷ l) (after-front (one.0 + one.1) end front run runs)

upto-front : (end : ℕ) (front : List (ℕ × ℕ)) (run : ℕ × ℕ) (runs : List (ℕ × ℕ))
    → lengths_upto end (front ++ run ∷ runs) ≡ lengths_before front run.0 ++ lengths_upto end (run ∷ runs)
upto-front end [] run runs = refl
upto-front end (one ∷ front) run runs =
    ap (λ (l : List ℕ). one.1 ∷ l) (after-front (one.0 + one.1) end front run runs)

after-behind : (place end : ℕ) (middle back : List (ℕ × ℕ)) → AreRuns (place + 1) end (middle ++ back)
    → lengths_after place end (middle ++ back) ≡ lengths_after place (start_of end back) middle ++ lengths_upto end back
after-behind place end [] [] are = sym (append-nil (lengths_after place end []))
after-behind place end [] (run ∷ back) are = rw (lt-ltb place run.0 (omega (arith, are.0))) refl
after-behind place end (one ∷ middle) back are =
    ap (λ (l : List ℕ). (one.0 - place) ∷ one.1 ∷ l) (after-behind (one.0 + one.1) end middle back are.3)

upto-behind : (least end : ℕ) (middle back : List (ℕ × ℕ)) → AreRuns least end (middle ++ back)
    → lengths_upto end (middle ++ back) ≡ lengths_upto (start_of end back) middle ++ lengths_upto end back
upto-behind least end [] back are = refl
upto-behind least end (one ∷ middle) back are =
    ap (λ (l : List ℕ). one.1 ∷ l) (after-behind (one.0 + one.1) end middle back are.3)

AreRuns-behind : (least count : ℕ) (front runs : List (ℕ × ℕ)) → AreRuns least count (front ++ runs) → AreRuns least count runs
AreRuns-behind least count [] runs are = are
AreRuns-behind least count (run ∷ front) runs are =
    AreRuns-lower least (run.0 + run.1 + 1) count runs (omega (arith, are.0))
    (AreRuns-behind (run.0 + run.1 + 1) count front runs are.3)

-- the runs in the middle end where those behind begin
AreRuns-middle : (least end : ℕ) (middle back : List (ℕ × ℕ)) → AreRuns least end (middle ++ back)
    → AreRuns least (start_of end back) middle
AreRuns-middle least end [] back are = tt
AreRuns-middle least end (run ∷ middle) back are = (
  are.0,
  are.1,
  first-end (run.0 + run.1) end middle back are.2 are.3,
  AreRuns-middle (run.0 + run.1 + 1) end middle back are.3,
) where
  first-end : (place end : ℕ) (middle back : List (ℕ × ℕ)) → place ≤ end → AreRuns (place + 1) end (middle ++ back)
      → place ≤ start_of end back
  first-end place end [] [] le are = le
  first-end place end [] (one ∷ back) le are = omega (arith, are.0)
  first-end place end (one ∷ middle) back le are =
      let ih = first-end (one.0 + one.1) end middle back are.2 are.3 in omega (arith, ih, are.0)

-- ---- parts of runs

-- what stands behind the first ones and before the last ones
pub middle-of : (first behind : ℕ) (runs front middle back : List (ℕ × ℕ)) → runs ≡ front ++ (middle ++ back)
    → first ≡ length front → behind ≡ length back → take (length runs - behind - first) (drop first runs) ≡ middle
middle-of first behind runs front middle back is first_is behind_is =
    let size = ap (λ (l : List (ℕ × ℕ)). length l) is in
    let a = length-append front (middle ++ back) in
    let b = length-append middle back in
    ap (take (length runs - behind - first)) (ap (drop first) is ∙ drop_at front (middle ++ back) first (sym first_is))
    ∙ take_at middle back (length runs - behind - first) (omega (arith, size, a, b, first_is, behind_is))

pub back-of : (first behind : ℕ) (runs front middle back : List (ℕ × ℕ)) → runs ≡ front ++ (middle ++ back)
    → first ≡ length front → behind ≡ length back → drop (length runs - behind) runs ≡ back
back-of first behind runs front middle back is first_is behind_is =
    let size = ap (λ (l : List (ℕ × ℕ)). length l) is in
    let a = length-append (front ++ middle) back in
    let whole = is ∙ sym (append_assoc front middle back) in
    let size = ap (λ (l : List (ℕ × ℕ)). length l) whole in
    ap (drop (length runs - behind)) whole ∙ drop_at (front ++ middle) back (length runs - behind) (omega (arith, size, a, behind_is))

-- runs cut at two places
pub record IsCutTwice (first behind end : ℕ) (runs : List (ℕ × ℕ)) : Type 0 where
  pub in_order : AreRuns 0 (start_of end (drop (length runs - behind) runs)) (take (length runs - behind - first) (drop first runs))
  pub small : start_of end (drop (length runs - behind) runs) ≤ end

start-le : (least end : ℕ) (runs : List (ℕ × ℕ)) → AreRuns least end runs → start_of end runs ≤ end
start-le least end [] are = omega arith
start-le least end (run ∷ runs) are = omega (arith, are.2)

pub IsCutTwice-runs : (first behind end : ℕ) (runs : List (ℕ × ℕ)) → AreRuns 0 end runs → first + behind ≤ length runs
    → IsCutTwice first behind end runs
IsCutTwice-runs first behind end runs are within =
    let front = take first runs in
    let middle = take (length runs - behind - first) (drop first runs) in
    let back = drop (length runs - behind) runs in
    let split : drop first runs ≡ middle ++ back = drop_split runs first (length runs - behind) (omega (arith, within)) in
    let whole : runs ≡ front ++ (middle ++ back) = sym (take-append-drop first runs) ∙ ap (λ (l : List (ℕ × ℕ)). front ++ l) split in
    let later : AreRuns 0 end (middle ++ back) = AreRuns-behind 0 end front (middle ++ back) (subst (AreRuns 0 end) whole are) in
    record {
      in_order = AreRuns-middle 0 end middle back later;
      small = start-le 0 end back (AreRuns-behind 0 end middle back later);
    }

-- ---- counts

long_of-append : (limit : ℕ) (xs ys : List ℕ) → long_of limit (xs ++ ys) ≡ long_of limit xs + long_of limit ys
long_of-append limit xs ys = sum_by-append (λ n. cond (leb limit n) 1 0) xs ys

long_of-cons : (limit n : ℕ) (ns : List ℕ) → long_of limit (n ∷ ns) ≡ cond (leb limit n) 1 0 + long_of limit ns
long_of-cons limit n ns = sum_by-cons (λ n. cond (leb limit n) 1 0) n ns

once-at-most : (b : Bool) → cond b 1 0 ≤ 1
once-at-most true = omega arith
once-at-most false = omega arith

length-after : (place end : ℕ) (runs : List (ℕ × ℕ)) → length (lengths_after place end runs) ≤ 2 * length runs + 1
length-after place end [] = elim (cases_Bool (ltb place end)) [ inl t ↦ rw t (omega arith) | inr f ↦ rw f (omega arith) ]
length-after place end (run ∷ runs) = let ih = length-after (run.0 + run.1) end runs in omega (arith, ih)

-- at most two lengths for a run
long_of-few : (limit end : ℕ) (runs : List (ℕ × ℕ)) → long_of limit (lengths_upto end runs) ≤ 2 * length runs
long_of-few limit end [] = omega arith
long_of-few limit end (run ∷ runs) =
    let few = count_by-le-length (λ n. leb limit n) (lengths_upto end (run ∷ runs)) in
    let len = length-after (run.0 + run.1) end runs in
    omega (arith, few, len)

-- runs do not touch
length-apart : (least count : ℕ) (runs : List (ℕ × ℕ)) → AreRuns least count runs → least ≤ count + 1
    → 2 * length runs + least ≤ count + 1
length-apart least count [] are le = omega (arith, le)
length-apart least count (run ∷ runs) are le =
    let ih = length-apart (run.0 + run.1 + 1) count runs are.3 (omega (arith, are.2)) in
    omega (arith, ih, are.0, are.1)

-- the first runs are counted, and the 1 bits up to the last of them
pub record IsCounting (limit end place count i : ℕ) (runs : List (ℕ × ℕ)) : Type 0 where
  pub all : count + long_of limit (lengths_after place end (drop i runs)) ≡ long_of limit (lengths_upto end runs)
  pub few : count ≤ 2 * i
  pub in_order : AreRuns place end (drop i runs)
  pub upto : place ≤ end

IsCounting-start : (limit end : ℕ) (runs : List (ℕ × ℕ)) (run : ℕ × ℕ) → AreRuns 0 end runs → 0 < limit
    → slice_get runs 0 ≡ Some run → IsCounting limit end run.0 0 0 runs
IsCounting-start limit end [] run are some first = cc
IsCounting-start limit end (one ∷ runs) run are some first =
    let same : one ≡ run = cc in
    let short : leb limit (one.0 - one.0) ≡ false = above-test limit (one.0 - one.0) (omega (arith, some)) in
    subst (λ (r : ℕ × ℕ). IsCounting limit end r.0 0 0 (one ∷ runs)) same (record {
      all = let e = rw short at (long_of-cons limit (one.0 - one.0) (lengths_upto end (one ∷ runs))) in omega (arith, e);
      few = omega arith;
      in_order = (omega arith, are.1, are.2, are.3);
      upto = omega (arith, are.2);
    })

pub record IsCountingNext (limit end place count i : ℕ) (runs : List (ℕ × ℕ)) (run : ℕ × ℕ) : Type 0 where
  pub low : place ≤ run.0
  pub high : run.0 + run.1 ≤ end
  pub few : count + 2 < 2 ^ 64
  pub next : IsCounting limit end (run.0 + run.1) (count + (cond (leb limit (run.0 - place)) 1 0 + cond (leb limit run.1) 1 0)) (i + 1) runs

pub IsCountingNext-one : (limit end place count i : ℕ) (runs : List (ℕ × ℕ)) (d : ℕ × ℕ)
    → IsCounting limit end place count i runs → AreRuns 0 end runs → end ≤ 2 ^ 63 → i < length runs
    → IsCountingNext limit end place count i runs (get_or runs i d)
IsCountingNext-one limit end place count i runs d is are small within =
    let run = get_or runs i d in
    let here : drop i runs ≡ run ∷ drop (suc i) runs = drop-cons runs i d within in
    let left = subst (AreRuns place end) here is.in_order in
    let all = subst (λ (l : List (ℕ × ℕ)). count + long_of limit (lengths_after place end l) ≡ long_of limit (lengths_upto end runs)) here is.all in
    let one = long_of-cons limit (run.0 - place) (run.1 ∷ lengths_after (run.0 + run.1) end (drop (suc i) runs)) in
    let two = long_of-cons limit run.1 (lengths_after (run.0 + run.1) end (drop (suc i) runs)) in
    let len = length-apart 0 end runs are (omega arith) in
    record {
      low = left.0;
      high = left.2;
      few = omega (arith, is.few, within, len, small);
      next = record {
        all = rw (add-one i) (omega (arith, all, one, two));
        few = omega (arith, is.few, once-at-most (leb limit (run.0 - place)), once-at-most (leb limit run.1));
        in_order = rw (add-one i) (AreRuns-lower (run.0 + run.1) (run.0 + run.1 + 1) end (drop (suc i) runs) (omega arith) left.3);
        upto = left.2;
      };
    }

-- where no more runs are left
IsCounting-end : (limit end place count i : ℕ) (runs : List (ℕ × ℕ)) → IsCounting limit end place count i runs
    → length runs ≤ i → 0 < limit
    → count + cond (leb limit (end - place)) 1 0 ≡ long_of limit (lengths_upto end runs)
IsCounting-end limit end place count i runs is all some =
    let none = drop_all i runs all in
    let left = subst (λ (l : List (ℕ × ℕ)). count + long_of limit (lengths_after place end l) ≡ long_of limit (lengths_upto end runs)) none is.all in
    elim (cases_lt place end) [
      | inl less ↦
          let one = long_of-cons limit (end - place) [] in
          let last = rw (lt-ltb place end less) at left in
          omega (arith, one, last)
      | inr more ↦
          let zero_left : end - place ≡ 0 = omega (arith, more) in
          let last = rw (le-ltb place end more) at left in
          rw (zero_left, above-test limit 0 some) last
    ]

-- the middle begins here where anything stands before it
abbrev HasStart : ℕ → List (ℕ × ℕ) → List (ℕ × ℕ) → Type 0
HasStart start [] middle = Unit {0}
HasStart start (run ∷ front) [] = ⊥
HasStart start (run ∷ front) (one ∷ middle) = one.0 ≡ start

-- a count has three parts
long-parts : (limit end start : ℕ) (front middle back : List (ℕ × ℕ)) → HasStart start front middle
    → AreRuns 0 end (front ++ (middle ++ back))
    → long_of limit (lengths_upto end (front ++ (middle ++ back))) ≡ long_of limit (lengths_before front start)
    + (long_of limit (lengths_upto (start_of end back) middle) + long_of limit (lengths_upto end back))
long-parts limit end start [] middle back has are =
    ap (long_of limit) (upto-behind 0 end middle back are)
    ∙ long_of-append limit (lengths_upto (start_of end back) middle) (lengths_upto end back) ∙ rw zero-add refl
long-parts limit end start (run ∷ front) [] back has are = absurd has
long-parts limit end start (run ∷ front) (one ∷ middle) back has are =
    let later = AreRuns-behind 0 end (run ∷ front) (one ∷ (middle ++ back)) are in
    ap (long_of limit) (upto-front end (run ∷ front) one (middle ++ back))
    ∙ long_of-append limit (lengths_before (run ∷ front) one.0) (lengths_upto end (one ∷ (middle ++ back)))
    ∙ ap (λ n. n + long_of limit (lengths_upto end (one ∷ (middle ++ back)))) (ap (λ s. long_of limit (lengths_before (run ∷ front) s)) has)
    ∙ ap (λ n. long_of limit (lengths_before (run ∷ front) start) + n)
    (ap (long_of limit) (upto-behind 0 end (one ∷ middle) back later)
    ∙ long_of-append limit (lengths_upto (start_of end back) (one ∷ middle)) (lengths_upto end back))

-- of runs up to an end, all but those before an index and so many of the last were replaced
pub record IsReplaced (first behind end end' : ℕ) (old new : List (ℕ × ℕ)) : Type 0 where
  pub front : List (ℕ × ℕ)
  pub middle : List (ℕ × ℕ)
  pub middle' : List (ℕ × ℕ)
  pub back : List (ℕ × ℕ)
  pub old_is : old ≡ front ++ (middle ++ back)
  pub new_is : new ≡ front ++ (middle' ++ back)
  pub first_is : first ≡ length front
  pub behind_is : behind ≡ length back
  pub start : ℕ
  pub has : HasStart start front middle
  pub has' : HasStart start front middle'
  pub same : (back ≡ []) ⊎ (end ≡ end')

-- a count of the new ones
pub record IsRecount (all old new sum : ℕ) : Type 0 where
  pub gives : GivesWay all old new
  pub is : all - old + new ≡ sum

pub IsRecount-long : (limit first behind end end' : ℕ) (old new : List (ℕ × ℕ)) → (r : IsReplaced first behind end end' old new)
    → AreRuns 0 end old → AreRuns 0 end' new → end' ≤ 2 ^ 63
    → IsRecount (long_of limit (lengths_upto end old)) (long_of limit (lengths_upto (start_of end r.back) r.middle))
    (long_of limit (lengths_upto (start_of end' r.back) r.middle')) (long_of limit (lengths_upto end' new))
IsRecount-long limit first behind end end' old new r are are' small =
    let a = ap (λ (l : List (ℕ × ℕ)). long_of limit (lengths_upto end l)) r.old_is
    ∙ long-parts limit end r.start r.front r.middle r.back r.has (subst (AreRuns 0 end) r.old_is are) in
    let b = ap (λ (l : List (ℕ × ℕ)). long_of limit (lengths_upto end' l)) r.new_is
    ∙ long-parts limit end' r.start r.front r.middle' r.back r.has' (subst (AreRuns 0 end') r.new_is are') in
    let same : long_of limit (lengths_upto end r.back) ≡ long_of limit (lengths_upto end' r.back) = elim r.same [
      | inl none ↦ rw none refl
      | inr e ↦ rw e refl
    ] in
    let few = long_of-few limit end' new in
    let count = length-apart 0 end' new are' (omega arith) in
    record {
      gives = record {
        less = omega (arith, a);
        fits = omega (arith, a, b, same, few, count, small);
      };
      is = omega (arith, a, b, same);
    }

-- ---- which runs are replaced

record IsLast (runs : List (ℕ × ℕ)) : Type 0 where
  pub front : List (ℕ × ℕ)
  pub last : ℕ × ℕ
  pub is : runs ≡ front ++ last ∷ []

last-of : (run : ℕ × ℕ) (runs : List (ℕ × ℕ)) → IsLast (run ∷ runs)
last-of run [] = record { front = []; last = run; is = refl }
last-of run (next ∷ runs) = let ih = last-of next runs in
    record { front = run ∷ ih.front; last = ih.last; is = ap (λ (l : List (ℕ × ℕ)). run ∷ l) ih.is }

HasStart-cons : (front : List (ℕ × ℕ)) (run : ℕ × ℕ) (runs : List (ℕ × ℕ)) → HasStart run.0 front (run ∷ runs)
HasStart-cons [] run runs = tt
HasStart-cons (one ∷ front) run runs = refl

-- all but those before the last of the front
IsReplaced-behind : (first behind end end' : ℕ) (old new front middle middle' back : List (ℕ × ℕ))
    → first ≡ length front - 1 → behind ≡ length back → old ≡ front ++ (middle ++ back) → new ≡ front ++ (middle' ++ back)
    → (back ≡ []) ⊎ (end ≡ end') → IsReplaced first behind end end' old new
IsReplaced-behind first behind end end' old new [] middle middle' back first_is behind_is old_is new_is same = record {
  front = [];
  middle = middle;
  middle' = middle';
  back = back;
  old_is = old_is;
  new_is = new_is;
  first_is = first_is;
  behind_is = behind_is;
  start = 0;
  has = tt;
  has' = tt;
  same = same;
}
IsReplaced-behind first behind end end' old new (run ∷ front) middle middle' back first_is behind_is old_is new_is same =
    let l = last-of run front in
    let len = ap (λ (l : List (ℕ × ℕ)). length l) l.is in
    let two = length-append l.front (l.last ∷ []) in
    record {
      front = l.front;
      middle = l.last ∷ middle;
      middle' = l.last ∷ middle';
      back = back;
      old_is = old_is ∙ ap (λ (f : List (ℕ × ℕ)). f ++ (middle ++ back)) l.is ∙ append_assoc l.front (l.last ∷ []) (middle ++ back);
      new_is = new_is ∙ ap (λ (f : List (ℕ × ℕ)). f ++ (middle' ++ back)) l.is ∙ append_assoc l.front (l.last ∷ []) (middle' ++ back);
      first_is = omega (arith, first_is, len, two);
      behind_is = behind_is;
      start = l.last.0;
      has = HasStart-cons l.front l.last middle;
      has' = HasStart-cons l.front l.last middle';
      same = same;
    }

-- others in the place of one of the runs below
below-splice : (high at : ℕ) (others runs : List (ℕ × ℕ)) (d : ℕ × ℕ) → at < length (runs_below high runs)
    → AreRuns (get_or runs at d).0 ((get_or runs at d).0 + (get_or runs at d).1) others
    → (get_or runs at d).0 + (get_or runs at d).1 ≤ high
    → runs_below high (splice at others runs)
    ≡ take at (runs_below high runs) ++ (others ++ drop (suc at) (runs_below high runs))
below-splice high at others [] d within fit le = absurd (omega arith)
below-splice high zero others (run ∷ runs) d within fit le =
    rw (upto-test run.0 high (omega (arith, le))) (below-front run.0 (run.0 + run.1) high others runs fit le)
below-splice high (suc at) others (run ∷ runs) d within fit le = elim (cases_Bool (leb run.0 high)) [
  | inl t ↦
      let less : suc at < suc (length (runs_below high runs)) = rw t at within in
      rw t (ap (λ (l : List (ℕ × ℕ)). run ∷ l) (below-splice high at others runs d (omega (arith, less)) fit le))
  | inr f ↦ let less : suc at < 0 = rw f at within in absurd (omega (arith, less))
]

-- others in the place of a run above
record IsGrown (old new : List (ℕ × ℕ)) : Type 0 where
  pub more : List (ℕ × ℕ)
  pub is : new ≡ old ++ more

below-splice_above : (high high' at : ℕ) (others runs : List (ℕ × ℕ)) → length (runs_below high runs) ≤ at → high ≤ high'
    → IsGrown (runs_below high runs) (runs_below high' (splice at others runs))
below-splice_above high high' at others [] above le = record { more = []; is = refl }
below-splice_above high high' zero others (run ∷ runs) above le = elim (cases_lt high run.0) [
  | inl less ↦ rw (above-test run.0 high less) (record { more = _; is = refl })
  | inr more ↦ let some : suc (length (runs_below high runs)) ≤ 0 = rw (upto-test run.0 high more) at above in
      absurd (omega (arith, some))
]
below-splice_above high high' (suc at) others (run ∷ runs) above le = elim (cases_lt high run.0) [
  | inl less ↦ rw (above-test run.0 high less) (record { more = _; is = refl })
  | inr more ↦
      let some : suc (length (runs_below high runs)) ≤ suc at = rw (upto-test run.0 high more) at above in
      let ih = below-splice_above high high' at others runs (omega (arith, some)) le in
      rw (upto-test run.0 high more, upto-test run.0 high' (omega (arith, more, le)))
      (record { more = ih.more; is = ap (λ (l : List (ℕ × ℕ)). run ∷ l) ih.is })
]

-- others in the place of the run that has an offset, which is complete from now on
pub IsReplaced-cut : (runs new : List (ℕ × ℕ)) (high : Option ℕ) (counts : Counts) (at o : ℕ) → IsCounted runs high counts
    → IsCut runs at o → IsSpliced runs at new
    → IsReplaced (min at counts.runs - 1) (counts.runs - (at + 1)) (end_of high) (option_map_or (max o) high o + 1)
    (runs_upto high runs) (runs_below (option_map_or (max o) high o) new)
IsReplaced-cut runs new None counts at o is cut spliced =
    let none = ap (λ (c : Counts). c.runs) is.counted.are in
    IsReplaced-behind _ _ _ _ _ _ [] [] (runs_below o new) [] (omega (arith, none)) (omega (arith, none)) refl
    (sym (append-nil (runs_below o new))) (inl refl)
IsReplaced-cut runs new (Some high) counts at o is cut spliced =
    let count = ap (λ (c : Counts). c.runs) is.counted.are in
    let below = runs_below high runs in
    let d : ℕ × ℕ = (0, 0) in
    let run = get_or runs at d in
    elim (cases_lt at (length below)) [
      | inl less ↦
          let out = sym (list_any-offsets_in high runs) ∙ is.apart in
          let order = AreRuns-below 0 high runs is.in_order out in
          let front_take = below-take high runs in
          let here : get_or below at d ≡ run = ap (λ (l : List (ℕ × ℕ)). get_or l at d) (sym front_take) ∙ get_or-take (length below) runs at d less in
          let end : run.0 + run.1 ≤ high = subst (λ (r : ℕ × ℕ). r.0 + r.1 ≤ high) here (AreRuns-get_or 0 high below at d order less) in
          let inside = cut.high d in
          let top : max o high ≡ high = omega (arith, inside, end) in
          let len = length-take-le at below (omega (arith, less)) in
          let rest = length-drop (suc at) below in
          let spliced_is : runs_below high new ≡ take at below ++ (spliced.others ++ drop (suc at) below) =
          ap (runs_below high) spliced.new_is ∙ below-splice high at spliced.others runs d less (spliced.fit d) end in
          rw top (IsReplaced-behind _ _ _ _ _ _ (take at below) (get_or below at d ∷ []) spliced.others (drop (suc at) below)
          (omega (arith, count, less, len)) (omega (arith, count, less, rest))
          (sym (take-append-drop at below) ∙ ap (λ (l : List (ℕ × ℕ)). take at below ++ l) (drop-cons below at d less))
          spliced_is (inr refl))
      | inr more ↦
          let grown = below-splice_above high (max o high) at spliced.others runs more (omega arith) in
          IsReplaced-behind _ _ _ _ _ _ below [] grown.more [] (omega (arith, count, more)) (omega (arith, count, more))
          (sym (append-nil below))
          (ap (runs_below (max o high)) spliced.new_is ∙ grown.is ∙ ap (λ (l : List (ℕ × ℕ)). below ++ l) (sym (append-nil grown.more)))
          (inl refl)
    ]

-- all runs lie below an offset that is complete from now on
pub IsReplaced-above : (runs : List (ℕ × ℕ)) (high : Option ℕ) (counts : Counts) (o : ℕ) → IsCounted runs high counts
    → AreRuns 0 o runs → IsReplaced (counts.runs - 1) 0 (end_of high) (o + 1) (runs_upto high runs) (runs_below o runs)
IsReplaced-above runs high counts o is are =
    let count = ap (λ (c : Counts). c.runs) is.counted.are in
    let upto = runs_upto high runs in
    let rest = drop (length upto) runs in
    IsReplaced-behind _ _ _ _ _ _ upto [] rest [] (omega (arith, count)) refl (sym (append-nil upto))
    (below-all 0 o runs are ∙ sym (take-append-drop (length upto) runs)
    ∙ ap (λ (l : List (ℕ × ℕ)). l ++ rest) (upto-take high runs) ∙ ap (λ (l : List (ℕ × ℕ)). upto ++ l) (sym (append-nil rest)))
    (inl refl)

-- ---- one more incomplete offset

below-add_run : (least high o : ℕ) (runs : List (ℕ × ℕ)) → AreRuns least o runs → high < o → is_in high runs ≡ false
    → runs_below high (add_run runs o 1) ≡ runs_below high runs
below-add_run least high o [] are less apart = rw (above-test o high less) refl
below-add_run least high o (run ∷ []) are less apart = elim (cases_eq (run.0 + run.1) o) [
  | inl touches ↦ elim (cases_lt high run.0) [
    | inl before ↦ rw (eq-eqb (run.0 + run.1) o touches, above-test run.0 high before) refl
    | inr more ↦ let end = apart-end high run [] apart more in absurd (omega (arith, end, touches, less))
  ]
  | inr ne ↦ rw (ne_eqb (run.0 + run.1) o ne, above-test o high less) refl
]
below-add_run least high o (run ∷ next ∷ runs) are less apart = ap (λ (l : List (ℕ × ℕ)). cond (leb run.0 high) (run ∷ l) [])
    (below-add_run (run.0 + run.1 + 1) high o (next ∷ runs) are.3 less (apart-rest high run (next ∷ runs) apart))

-- the runs up to high stay
pub upto-add_run : (high : Option ℕ) (o : ℕ) (runs : List (ℕ × ℕ)) → AreRuns 0 o runs → IfSome high (λ h. h < o)
    → IfSome high (λ h. list_any (λ x. eqb x h) (offsets_in runs) ≡ false)
    → runs_upto high (add_run runs o 1) ≡ runs_upto high runs
upto-add_run None o runs are less apart = refl
upto-add_run (Some high) o runs are less apart = below-add_run 0 high o runs are less (sym (list_any-offsets_in high runs) ∙ apart)
