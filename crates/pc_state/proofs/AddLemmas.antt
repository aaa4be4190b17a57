-- Records whose offsets rise: each is above the entries that were there and those added before it.
use Rattle.std.proofs.Common.{◌≡◌, ℕ, ◌+◌, ◌<◌, ◌≤◌, Bool, true, false, cond, List, [], ◌∷◌, ◌++◌, map, get_or, ap, subst, inl, inr, refl, arith}
use Rattle.std.specs.Prelude.{filter}
use Rattle.std.specs.List.{All}
use Rattle.pc_model.specs.Record.{Record}
use Rattle.pc_partition.specs.Window.{RisesFrom}
use Rattle.pc_shards.specs.Entries.{Entry, new_entry}
use Rattle.pc_shards.specs.Rising.{In}
use Rattle.pc_shards.proofs.Lists.{In-append, In-mapped}
use Rattle.pc_shards.proofs.RisingLemmas.{In-get_or}
use Rattle.pc_shards.proofs.ShardsAdded.{All-In}
use Rattle.pc_state.specs.Polls.{new_entries}

-- rising offsets are not below where they begin
least-below : (n : ℕ) (taken more : List Record) (r : Record)
    → RisesFrom n (map (λ r. r.offset) (taken ++ r ∷ more)) → n ≤ r.offset
least-below n [] more r rises = rises.0
least-below n (x ∷ xs) more r rises =
    let le = least-below (x.offset + 1) xs more r rises.2 in omega (arith, le, rises.0)

-- those before a record are below it
kept-below : (f : Record → Bool) (n : ℕ) (taken more : List Record) (r t : Record)
    → RisesFrom n (map (λ r. r.offset) (taken ++ r ∷ more)) → In t (filter f taken)
    → t.offset < r.offset
kept-below f n [] more r t rises i = elim i [ ]
kept-below f n (x ∷ xs) more r t rises i =
    by_test (f x) i (λ j. kept-below f (x.offset + 1) xs more r t rises.2 j)
  where
    by_test : (b : Bool) → In t (cond b (x ∷ filter f xs) (filter f xs))
        → (In t (filter f xs) → t.offset < r.offset) → t.offset < r.offset
    by_test true (inl same) others =
        let le = least-below (x.offset + 1) xs more r rises.2 in
        omega (arith, le, ap (λ (q : Record). q.offset) same)
    by_test true (inr i) others = others i
    by_test false i others = others i

In-middle : (taken more : List Record) (r : Record) → In r (taken ++ r ∷ more)
In-middle [] more r = inl refl
In-middle (x ∷ xs) more r = inr (In-middle xs more r)

pub above-those-before : (es : List Entry) (f : Record → Bool) (n : ℕ)
    (all taken more : List Record) (r : Record) → RisesFrom n (map (λ r. r.offset) all)
    → All (λ r. All (λ e. e.record.offset < r.offset) es) all → all ≡ taken ++ r ∷ more
    → All (λ e. e.record.offset < r.offset) (es ++ new_entries (filter f taken))
above-those-before es f n all taken more r rises above is = λ k d lt.
    let e : Entry = get_or (es ++ new_entries (filter f taken)) k d in
    let each = subst (λ (rs : List Record). All (λ r. All (λ e. e.record.offset < r.offset) es) rs)
    is above in
    elim (In-append e es (new_entries (filter f taken))
    (In-get_or (es ++ new_entries (filter f taken)) k d lt)) [
      | inl i ↦ All-In (λ (e : Entry). e.record.offset < r.offset) e es
          (All-In (λ (r : Record). All (λ (e : Entry). e.record.offset < r.offset) es) r
          (taken ++ r ∷ more) each (In-middle taken more r)) i
      | inr i ↦ let m = In-mapped (λ (r : Record). new_entry r) e (filter f taken) i in
          let below = kept-below f n taken more r m.0 (subst (λ (rs : List Record).
          RisesFrom n (map (λ r. r.offset) rs)) is rises) m.1 in
          let at = ap (λ (e : Entry). e.record.offset) m.2 in omega (arith, below, at)
    ]
