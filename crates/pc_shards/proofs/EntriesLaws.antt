-- What callers cite of offsets that are the first of their ordering key.
use Rattle.std.proofs.Common.{◌≡◌, ℕ, min, Bool, true, ◌&&◌, ◌==◌, List, [], ◌∷◌, Some, refl, sym, subst, inl, inr, ◌∙◌, arith}
use Rattle.std.specs.Option.{option_map_or}
use Rattle.std.proofs.lemmas.Bool.{cases_lt}
use Rattle.pc_model.specs.declared.choices.Order.{Order}
use Rattle.pc_model.specs.Numbers.{least_of}
use Rattle.pc_shards.specs.Entries.{Entry, has_entry_at, is_first, is_first_offset, least_ready_of, marked, ready_offsets, with_busy}
use Rattle.pc_shards.specs.Rising.{In}
use Rattle.pc_shards.proofs.Lists.{In-map, and-both, list_any-In, number-same}
use Rattle.pc_shards.proofs.EntriesLemmas.{In-ready, first-entry}
use Rattle.pc_shards.proofs.MarkedEntries.{first-marked, marked-offset}

-- an entry that is the first of its key makes its offset one
offset-first : (order : Order) (p : ℕ) (es : List Entry) (o : ℕ) (e : Entry) → In e es
    → e.record.offset ≡ o
    → is_first order p es e ≡ true → is_first_offset order p es o ≡ true
offset-first order p es o e i at first = list_any-In (λ (e : Entry).
    (e.record.offset == o) && is_first order p es e)
    e es i (and-both (e.record.offset == o) (is_first order p es e) (number-same e.record.offset o at) first)

least-In : (x : ℕ) (xs : List ℕ) → In (option_map_or (min x) (least_of xs) x) (x ∷ xs)
least-In x [] = inl refl
least-In x (y ∷ ys) = elim (cases_lt x (option_map_or (min y) (least_of ys) y)) [
  | inl lt ↦ inl (omega (arith, lt))
  | inr ge ↦ let least : min x (option_map_or (min y) (least_of ys) y)
      ≡ option_map_or (min y) (least_of ys) y
      = omega (arith, ge) in inr (subst (λ n. In n (y ∷ ys)) (sym least) (least-In y ys))
]

least_of-In : (n : ℕ) (xs : List ℕ) → least_of xs ≡ Some n → In n xs
least_of-In n [] e = cc
least_of-In n (x ∷ xs) e = let is : option_map_or (min x) (least_of xs) x ≡ n = cc in
    subst (λ m. In m (x ∷ xs)) is (least-In x xs)

-- the least ready offset is the first of its ordering key
pub least_ready-first_offset : (order : Order) (p : ℕ) (es : List Entry) (o : ℕ)
    → least_ready_of order p es ≡ Some o → is_first_offset order p es o ≡ true
least_ready-first_offset order p es o least =
    let r = In-ready order p es o (least_of-In o (ready_offsets order p es) least) in
    offset-first order p es o r.entry r.has r.at r.first

-- so it is that of an entry
pub first_offset-there : (order : Order) (p : ℕ) (es : List Entry) (o : ℕ)
    → is_first_offset order p es o ≡ true → has_entry_at o es ≡ true
first_offset-there order p es o first =
    let e = first-entry order p es o first in
    list_any-In (λ (x : Entry). x.record.offset == o) e.0 es e.1 (number-same e.0.record.offset o e.2)

-- what is busy or not changes no first
pub first_offset-with_busy : (order : Order) (p : ℕ) (es : List Entry) (u : ℕ) (b : Bool) (o : ℕ)
    → is_first_offset order p es o ≡ true → is_first_offset order p (with_busy u b es) o ≡ true
first_offset-with_busy order p es u b o first =
    let e = first-entry order p es o first in
    offset-first order p (with_busy u b es) o (marked u b e.0) (In-map (marked u b) e.0 es e.1)
    (marked-offset u b e.0 ∙ e.2) (first-marked order p es u b e.0 e.3)
