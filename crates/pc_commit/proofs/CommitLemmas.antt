-- The commit of marks in each of its cases.
use Rattle.std.proofs.Common.{◌≡◌, ℕ, suc, ◌≤◌, inl, inr, Bool, List, [], ◌∷◌, length, Option, Some, None, refl, sym, ap, arith}
use Rattle.std.specs.Prelude.{nat_le}
use Rattle.std.specs.Option.{option_map}
use Rattle.pc_model.specs.declared.commit.SizedCommit.{SizedCommit}
use Rattle.pc_model.specs.BestMap.{BestMap, best_map, limited, shortest_text}
use Rattle.pc_model.specs.Marks.{Mark, bits_at, commit_at, position_at}
use Rattle.pc_choice.specs.Sizes.{sized}
use Rattle.std.proofs.lemmas.Bool.{cases_Bool, le-leb, leb-true}
use Rattle.std.proofs.lemmas.Option.{same_Some, some_pair_parts}
use Rattle.pc_choice.proofs.ChoiceLemmas.{HasNoLetter-best_map}
use Rattle.pc_partition.specs.declared.lengths.Lengths.{Lengths}
use Rattle.pc_partition.specs.Lengths.{lengths_of}
use Rattle.pc_partition.specs.Window.{some_bits}

-- the commit by the best map
commit_at-best : (limit b : ℕ) (marks : List Mark) (best : BestMap) → best_map (bits_at b marks) limit ≡ best
    → commit_at limit b marks ≡ record { commit = record { position = position_at b marks; map = best.text }; size = best.size }
unfolding commit_at
commit_at-best limit b marks best is = rw is refl

-- a commit that has the parts of the best map
pub commit-is : (c : SizedCommit) (limit b : ℕ) (marks : List Mark) (best : BestMap) → best_map (bits_at b marks) limit ≡ best
    → c.commit.position ≡ position_at b marks → c.commit.map ≡ best.text → c.size ≡ best.size → c ≡ commit_at limit b marks
commit-is c limit b marks best is position text size =
    rw (← position, ← text, ← size) at (sym (commit_at-best limit b marks best is))

-- ---- the text of the best map is within the limit

limited-short : (limit : ℕ) (o : Option (ℕ × List ℕ)) → length (limited limit o).text ≤ limit
limited-short limit None = omega arith
limited-short limit (Some best) = elim (cases_Bool (nat_le (length best.1) limit)) [
  | inl fits ↦ rw fits (leb-true (length best.1) limit fits)
  | inr long ↦ rw long (let le : 0 ≤ limit = omega arith in le)
]

pub best_map-short : (bits : List Bool) (limit : ℕ) → length (best_map bits limit).text ≤ limit
unfolding best_map
best_map-short [] limit = let le : 0 ≤ limit = omega arith in le
best_map-short (bit ∷ bits) limit = limited-short limit (shortest_text (bit ∷ bits))

-- ---- the bits

pub bits-none : (xs : List Bool) → None ≡ some_bits xs → xs ≡ []
bits-none [] is = refl
bits-none (x ∷ xs) is = cc

pub bits-some : (xs bits : List Bool) → Some bits ≡ some_bits xs → (xs ≡ bits) × (length xs ≡ 0 → ⊥)
bits-some [] bits is = cc
bits-some (x ∷ xs) bits is = (cc, λ (e : suc (length xs) ≡ 0). omega arith)

pub lengths-none : (xs : List Bool) → None ≡ option_map lengths_of (some_bits xs) → xs ≡ []
lengths-none [] is = refl
lengths-none (x ∷ xs) is = cc

pub lengths-some : (xs : List Bool) (l : Lengths) → Some l ≡ option_map lengths_of (some_bits xs)
    → (l ≡ lengths_of xs) × (length xs ≡ 0 → ⊥)
lengths-some [] l is = cc
lengths-some (x ∷ xs) l is = (same_Some l (lengths_of (x ∷ xs)) is, λ (e : suc (length xs) ≡ 0). omega arith)

-- no bits have no map
pub best-none : (xs : List Bool) (limit : ℕ) → xs ≡ [] → best_map xs limit ≡ record { letter = None; text = []; size = 0 }
unfolding best_map
best-none xs limit is = rw is refl

-- a text within the limit is not empty
limited-some : (limit letter size : ℕ) (best : Option (ℕ × List ℕ)) → Some (letter, size) ≡ option_map sized best → size ≤ limit
    → (limited limit best).letter ≡ Some letter
limited-some limit letter size None is fits = cc
limited-some limit letter size (Some best) is fits =
    let parts = some_pair_parts letter best.0 size (length best.1) is in
    let same : size ≡ length best.1 = parts.1 in
    rw (le-leb (length best.1) limit (omega (arith, same, fits))) (ap Some (sym parts.0))

pub text-some : (xs : List Bool) (limit letter size : ℕ) → (length xs ≡ 0 → ⊥)
    → Some (letter, size) ≡ option_map sized (shortest_text xs) → size ≤ limit
    → (best_map xs limit).text ≡ [] → ⊥
unfolding best_map
text-some [] limit letter size some is fits none = some refl
text-some (x ∷ xs) limit letter size some is fits none =
    let has = limited-some limit letter size (shortest_text (x ∷ xs)) is fits in
    let gone = (HasNoLetter-best_map (x ∷ xs) limit).1 none in
    cc (has, gone)

pub map-some : (limit b : ℕ) (marks : List Mark) → (commit_at limit b marks).commit.map ≡ (best_map (bits_at b marks) limit).text
unfolding commit_at
map-some limit b marks = refl
