-- What is counted where an offset is complete from now on.
use Rattle.std.proofs.Common.{◌≡◌, ℕ, ◌+◌, ◌-◌, ◌^◌, ◌<◌, ◌≤◌, max, min, List, ◌++◌, length, Option, Some, None, IfSome, refl, ap, ◌∙◌, arith}
use Rattle.std.specs.Option.{option_map_or}
use Rattle.std.proofs.lemmas.List.{length-append}
use Rattle.pc_model.specs.Bits.{AreRuns}
use Rattle.pc_partition.specs.declared.counts.Counts.{Counts}
use Rattle.pc_partition.specs.Counts.{AreCounted, HasPart, IsCounted, IsPart, counts_upto, end_of, runs_below, runs_upto}
use Rattle.pc_partition.specs.Runs.{IsCut, IsSpliced, TakesOut, offsets_in}
use Rattle.pc_partition.proofs.CountsLemmas.{AreRuns-runs_upto, IsRecount, IsRecount-long, IsReplaced, IsReplaced-above, IsReplaced-cut}
use Rattle.pc_partition.proofs.RunsLemmas.{AreRuns-get_or, is_in-above, list_any-offsets_in}
use Rattle.pc_partition.proofs.StateLemmas.{high-taken}

same-counts : (a b c a' b' c' : ℕ) → a ≡ a' → b ≡ b' → c ≡ c'
    → ◌≡◌ {A = Counts} (record { runs = a; long = b; long_2 = c }) (record { runs = a'; long = b'; long_2 = c' })
same-counts a b c a' b' c' p q r = rw (p, q, r) refl

-- the runs up to high before and after have all in common but what stands behind the first and before the last ones
pub record IsNext (first behind : ℕ) (high : Option ℕ) (high' : ℕ) (runs new : List (ℕ × ℕ)) : Type 0 where
  pub in_order : AreRuns 0 (end_of high) (runs_upto high runs)
  pub in_order' : AreRuns 0 (high' + 1) (runs_below high' new)
  pub small : high' + 1 ≤ 2 ^ 63
  pub replaced : IsReplaced first behind (end_of high) (high' + 1) (runs_upto high runs) (runs_below high' new)
  pub within : first + behind ≤ length (runs_below high' new)

within-replaced : (first behind end end' : ℕ) (old new : List (ℕ × ℕ)) → IsReplaced first behind end end' old new
    → first + behind ≤ length new
within-replaced first behind end end' old new r =
    let size = ap (λ (l : List (ℕ × ℕ)). length l) r.new_is in
    let a = length-append r.front (r.middle' ++ r.back) in
    let b = length-append r.middle' r.back in
    omega (arith, size, a, b, r.first_is, r.behind_is)

end-below : (high : Option ℕ) → end_of high ≤ 2 ^ 63 → IfSome high (λ h. h < 2 ^ 63)
end-below None small = tt
end-below (Some high) small = omega (arith, small)

-- an offset taken out of its run
pub IsNext-cut : (first behind : ℕ) (runs new : List (ℕ × ℕ)) (high : Option ℕ) (counts : Counts) (at o high' : ℕ)
    → IsCounted runs high counts → IsCut runs at o → IsSpliced runs at new → TakesOut o (offsets_in runs) (offsets_in new)
    → AreRuns 0 (2 ^ 63) new → high' ≡ option_map_or (max o) high o
    → first ≡ min at counts.runs - 1 → behind ≡ counts.runs - (at + 1) → IsNext first behind high high' runs new
IsNext-cut first behind runs new high counts at o high' is cut spliced takes are high_is first_is behind_is =
    let d : ℕ × ℕ = (0, 0) in
    let end = AreRuns-get_or 0 (2 ^ 63) runs at d is.in_order cut.within in
    let inside = cut.high d in
    let top = high-taken o (2 ^ 63) high (offsets_in runs) (offsets_in new) takes (omega (arith, end, inside))
    (end-below high is.small) is.apart in
    let replaced = IsReplaced-cut runs new high counts at o is cut spliced in
    rw (high_is, first_is, behind_is) (record {
      in_order = AreRuns-runs_upto high runs is.in_order is.apart;
      in_order' = AreRuns-runs_upto (Some (option_map_or (max o) high o)) new are top.1;
      small = omega (arith, top.0);
      replaced = replaced;
      within = within-replaced _ _ _ _ _ _ replaced;
    })

-- an offset above all runs
pub IsNext-above : (first : ℕ) (runs : List (ℕ × ℕ)) (high : Option ℕ) (counts : Counts) (o : ℕ) → IsCounted runs high counts
    → AreRuns 0 o runs → o < 2 ^ 63 → first ≡ counts.runs - 1 → IsNext first 0 high o runs runs
IsNext-above first runs high counts o is are small first_is =
    let replaced = IsReplaced-above runs high counts o is are in
    rw first_is (record {
      in_order = AreRuns-runs_upto high runs is.in_order is.apart;
      in_order' = AreRuns-runs_upto (Some o) runs is.in_order (list_any-offsets_in o runs ∙ is_in-above o 0 o runs are (omega arith));
      small = omega (arith, small);
      replaced = replaced;
      within = within-replaced _ _ _ _ _ _ replaced;
    })

-- the part before
pub HasPart-old : (first behind : ℕ) (runs : List (ℕ × ℕ)) (high : Option ℕ) (counts : Counts) → IsCounted runs high counts
    → first + behind ≤ counts.runs → HasPart first behind high runs counts.runs
HasPart-old first behind runs high counts is within = record {
  in_order = AreRuns-runs_upto high runs is.in_order is.apart;
  small = is.small;
  count_is = ap (λ (c : Counts). c.runs) is.counted.are;
  within = within;
}

-- a state with a new high, where only the runs up to it are counted anew
pub record IsPassed (high' : ℕ) (new : List (ℕ × ℕ)) (counts : Counts) (high_now : Option ℕ) (list_now : List (ℕ × ℕ)) (counts_now : Counts)
    : Type 0 where
  pub high : high_now ≡ Some high'
  pub list : list_now ≡ new
  pub runs : counts_now.runs ≡ length (runs_below high' new)
  pub few : counts_now.runs ≤ 2 ^ 59
  pub long : counts_now.long ≡ counts.long
  pub long_2 : counts_now.long_2 ≡ counts.long_2

-- the part after
pub HasPart-new : (first behind high' : ℕ) (high : Option ℕ) (runs new : List (ℕ × ℕ)) (counts : Counts)
    (high_now : Option ℕ) (list_now : List (ℕ × ℕ)) (counts_now : Counts)
    → IsNext first behind high high' runs new → IsPassed high' new counts high_now list_now counts_now
    → HasPart first behind high_now list_now counts_now.runs
HasPart-new first behind high' high runs new counts high_now list_now counts_now next passed =
    rw (passed.high, passed.list, passed.runs) (record {
      in_order = next.in_order';
      small = next.small;
      count_is = refl;
      within = next.within;
    })

-- the counts, of which the old part gives way to the new one
pub record IsAnew (counts old new sum : Counts) : Type 0 where
  pub long : IsRecount counts.long old.long new.long sum.long
  pub long_2 : IsRecount counts.long_2 old.long_2 new.long_2 sum.long_2

pub IsAnew-next : (first behind high' : ℕ) (high : Option ℕ) (runs new : List (ℕ × ℕ)) (counts old now : Counts)
    (high_now : Option ℕ) (list_now : List (ℕ × ℕ)) (counts_now : Counts)
    → IsNext first behind high high' runs new → IsPassed high' new counts high_now list_now counts_now
    → counts ≡ counts_upto high runs
    → IsPart first behind (end_of high) (runs_upto high runs) old → IsPart first behind (end_of high_now) (runs_upto high_now list_now) now
    → IsAnew counts_now old now (counts_upto high_now list_now)
IsAnew-next first behind high' high runs new counts old now high_now list_now counts_now next passed counts_are old_part new_part =
    let r = next.replaced in
    let old_is = old_part r.front r.middle r.back r.old_is r.first_is r.behind_is in
    let part = rw (passed.high, passed.list) at new_part in
    let new_is = part r.front r.middle' r.back r.new_is r.first_is r.behind_is in
    rw (passed.high, passed.list, passed.long, passed.long_2, counts_are, old_is, new_is) (record {
      long = IsRecount-long (2 ^ 15) first behind (end_of high) (high' + 1) (runs_upto high runs) (runs_below high' new) r next.in_order next.in_order' next.small;
      long_2 = IsRecount-long (2 ^ 31) first behind (end_of high) (high' + 1) (runs_upto high runs) (runs_below high' new) r next.in_order next.in_order' next.small;
    })

-- what is counted in the end
pub counts-anew : (high' : ℕ) (new : List (ℕ × ℕ)) (counts old now : Counts) (high_now : Option ℕ) (list_now : List (ℕ × ℕ)) (counts_now last : Counts)
    → IsPassed high' new counts high_now list_now counts_now → IsAnew counts_now old now (counts_upto high_now list_now)
    → last.runs ≡ counts_now.runs → last.long ≡ counts_now.long - old.long + now.long
    → last.long_2 ≡ counts_now.long_2 - old.long_2 + now.long_2 → AreCounted high_now list_now last
counts-anew high' new counts old now high_now list_now counts_now last passed anew runs long long_2 =
    let count : last.runs ≡ length (runs_upto high_now list_now) = rw (passed.high, passed.list) (runs ∙ passed.runs) in
    record {
      are = same-counts _ _ _ _ _ _ count (long ∙ anew.long.is) (long_2 ∙ anew.long_2.is);
      few = omega (arith, runs, passed.few);
    }
