-- The records of which a stored map says something.
use Rattle.std.proofs.Common.{◌≡◌, ℕ, suc, ◌+◌, ◌-◌, ◌^◌, ◌<◌, ◌≤◌, Bool, true, false, ◌&&◌, cond, ltb, leb, List, [], ◌∷◌, ◌++◌, length, map, filter, Option, Some, None, IfSome, Ok, Err, refl, sym, ap, ◌∙◌, arith, add-one, add-zero, inl, inr}
use Rattle.std.specs.List.{AllByRecursion}
use Rattle.std.specs.Option.{option_map}
use Rattle.std.proofs.lemmas.Bool.{cases_Bool, cases_lt, le-ltb, lt-ltb, le-leb, lt-leb, leb-true, ltb-true}
use Rattle.std.proofs.lemmas.List.{append_assoc, append-nil}
use Rattle.pc_model.specs.declared.commit.Commit.{Commit}
use Rattle.pc_model.specs.declared.map_fault.MapFault.{MapFault}
use Rattle.pc_model.specs.MapReading.{map_reading}
use Rattle.pc_model.specs.Marks.{Mark}
use Rattle.pc_model.specs.Record.{Record}
use Rattle.pc_model.specs.Given.{rises_from}
use Rattle.pc_model.specs.Stored.{map_bits, map_end, passes}
use Rattle.pc_offset_map.specs.Offsets.{is_passed}
use Rattle.pc_offset_map.specs.declared.map.OffsetMap.{OffsetMap}
use Rattle.pc_partition.specs.Window.{RisesFrom, marks_of_pairs}
use Rattle.pc_model.specs.declared.choices.BadMapRule.{BadMapRule}
use Rattle.pc_model.specs.declared.choices.BadMapRule.TheVariants.{Redo, Refuse}
use Rattle.pc_model.specs.declared.map_fault.MapFault.TheVariants.{NoMemory}
use Rattle.pc_commit.specs.Resume.{IsMapOf, refusal_of, mapped_records, resumed_marks, resumed_pairs}

-- ---- rising records

and-left : (a b : Bool) → (a && b) ≡ true → a ≡ true
and-left true b e = refl
and-left false b e = cc

and-right : (a b : Bool) → (a && b) ≡ true → b ≡ true
and-right true b e = e
and-right false b e = cc

-- a record that is the first of rising ones
record IsFirst (n : ℕ) (r : Record) (rs : List Record) : Type 0 where
  pub low : n ≤ r.offset
  pub small : r.offset < 2 ^ 63 - 1
  pub rest : rises_from (suc r.offset) rs ≡ true

first-of : (n : ℕ) (r : Record) (rs : List Record) → rises_from n (r ∷ rs) ≡ true → IsFirst n r rs
first-of n r rs rises =
    let more = and-right (leb n r.offset) _ rises in
    record {
      low = leb-true n r.offset (and-left (leb n r.offset) _ rises);
      small = ltb-true r.offset (2 ^ 63 - 1) (and-left (ltb r.offset (2 ^ 63 - 1)) _ more);
      rest = and-right (ltb r.offset (2 ^ 63 - 1)) _ more;
    }

rises-lower : (m n : ℕ) (rs : List Record) → m ≤ n → rises_from n rs ≡ true → rises_from m rs ≡ true
rises-lower m n [] le rises = refl
rises-lower m n (r ∷ rs) le rises =
    let first = first-of n r rs rises in
    rw (le-leb m r.offset (omega (arith, first.low, le)), lt-ltb r.offset (2 ^ 63 - 1) first.small) first.rest

RisesFrom-lower : (b n : ℕ) (os : List ℕ) → b ≤ n → RisesFrom n os → RisesFrom b os
RisesFrom-lower b n [] le rises = omega (arith, rises)
RisesFrom-lower b n (o ∷ os) le rises = (omega (arith, rises.0), rises.1, rises.2)

rises-kept : (f : Record → Bool) (n : ℕ) (rs : List Record) → n < 2 ^ 63 → rises_from n rs ≡ true
    → RisesFrom n (map (λ r. r.offset) (filter f rs))
rises-kept f n [] small rises = small
rises-kept f n (r ∷ rs) small rises =
    let first = first-of n r rs rises in
    let ih : RisesFrom (r.offset + 1) (map (λ r. r.offset) (filter f rs)) = rises-kept f (r.offset + 1) rs (omega (arith, first.small)) (rw (add-one r.offset) first.rest) in
    elim (f r) as (λ b. RisesFrom n (map (λ r. r.offset) (cond b (r ∷ filter f rs) (filter f rs)))) [
      | true ↦ (first.low, first.small, ih)
      | false ↦ RisesFrom-lower n (r.offset + 1) _ (omega (arith, first.low)) ih
    ]

RisesFrom-filters : (f : Record → Bool) (b n : ℕ) (rs : List Record) → n < 2 ^ 63 → rises_from n rs ≡ true
    → RisesFrom n (map (λ r. r.offset) (filter f (filter (λ r. leb b r.offset) rs)))
RisesFrom-filters f b n [] small rises = small
RisesFrom-filters f b n (r ∷ rs) small rises =
    let first = first-of n r rs rises in
    let ih : RisesFrom (r.offset + 1) (map (λ r. r.offset) (filter f (filter (λ r. leb b r.offset) rs))) =
    RisesFrom-filters f b (r.offset + 1) rs (omega (arith, first.small)) (rw (add-one r.offset) first.rest) in
    elim (leb b r.offset) as (λ t. RisesFrom n (map (λ r. r.offset) (filter f (cond t (r ∷ filter (λ r. leb b r.offset) rs) (filter (λ r. leb b r.offset) rs))))) [
      | true ↦ elim (f r) as (λ t. RisesFrom n (map (λ r. r.offset) (cond t (r ∷ filter f (filter (λ r. leb b r.offset) rs)) (filter f (filter (λ r. leb b r.offset) rs))))) [
        | true ↦ (first.low, first.small, ih)
        | false ↦ RisesFrom-lower n (r.offset + 1) _ (omega (arith, first.low)) ih
      ]
      | false ↦ RisesFrom-lower n (r.offset + 1) _ (omega (arith, first.low)) ih
    ]

-- those from an offset on rise from there
rises-above : (f : Record → Bool) (b n : ℕ) (rs : List Record) → b < 2 ^ 63 → rises_from n rs ≡ true
    → RisesFrom b (map (λ r. r.offset) (filter f (filter (λ r. leb b r.offset) rs)))
rises-above f b n [] small rises = small
rises-above f b n (r ∷ rs) small rises =
    let first = first-of n r rs rises in
    elim (cases_lt r.offset b) [
      | inl less ↦ rw (lt-leb b r.offset less) (rises-above f b (suc r.offset) rs small first.rest)
      | inr more ↦
          let ih : RisesFrom (r.offset + 1) (map (λ r. r.offset) (filter f (filter (λ r. leb b r.offset) rs))) =
          RisesFrom-filters f b (r.offset + 1) rs (omega (arith, first.small)) (rw (add-one r.offset) first.rest) in
          rw (le-leb b r.offset more) (elim (f r) as (λ t. RisesFrom b (map (λ r. r.offset) (cond t (r ∷ filter f (filter (λ r. leb b r.offset) rs)) (filter f (filter (λ r. leb b r.offset) rs))))) [
            | true ↦ (more, first.small, ih)
            | false ↦ RisesFrom-lower b (r.offset + 1) _ (omega (arith, more)) ih
          ])
    ]

pair-offsets : (c : Commit) (rs : List Record) → map (λ (pair : ℕ × Bool). pair.0) (map (λ (r : Record). (r.offset, passes c r.offset)) rs) ≡ map (λ r. r.offset) rs
pair-offsets c [] = refl
pair-offsets c (r ∷ rs) = ap (λ (l : List ℕ). r.offset ∷ l) (pair-offsets c rs)

pub pairs-rise : (c : Commit) (rs : List Record) → c.position < 2 ^ 63 → rises_from 0 rs ≡ true
    → RisesFrom c.position (map (λ pair. pair.0) (resumed_pairs c rs))
pairs-rise c rs small rises = rw (pair-offsets c (mapped_records c rs))
    (rises-above (λ r. ltb r.offset (map_end c)) c.position 0 rs small rises)

pub marks-of-pairs : (c : Commit) (rs : List Record) → marks_of_pairs (resumed_pairs c rs) ≡ resumed_marks c rs
marks-of-pairs c rs = go (mapped_records c rs) where
  go : (rs : List Record) → marks_of_pairs (map (λ (r : Record). (r.offset, passes c r.offset)) rs)
      ≡ map (λ r. record { offset = r.offset; is_complete = passes c r.offset }) rs
  go [] = refl
  go (r ∷ rs) = ap (λ (l : List Mark). record { offset = r.offset; is_complete = passes c r.offset } ∷ l) (go rs)

-- ---- the map

pub IsMapOf-read : (c : Commit) (m : Option OffsetMap) → map_reading c.position c.map ≡ Ok (option_map (λ m. m.bits) m)
    → IfSome m (λ m. m.base ≡ c.position) → IsMapOf c m
unfolding map_bits
IsMapOf-read c None is base = record { bits = rw is refl; base = tt }
IsMapOf-read c (Some m) is base = record { bits = rw is refl; base = base }

pub IsMapOf-refused : (c : Commit) (fault : MapFault) → map_reading c.position c.map ≡ Err fault → IsMapOf c None
unfolding map_bits
IsMapOf-refused c fault is = record { bits = rw is refl; base = tt }

none-between : (b : ℕ) (rs : List Record) → filter (λ r. ltb r.offset b) (filter (λ r. leb b r.offset) rs) ≡ []
none-between b [] = refl
none-between b (r ∷ rs) = elim (cases_lt r.offset b) [
  | inl less ↦ rw (lt-leb b r.offset less) (none-between b rs)
  | inr more ↦ rw (le-leb b r.offset more, le-ltb r.offset b more) (none-between b rs)
]

pub pairs-none : (c : Commit) (rs : List Record) → IsMapOf c None → resumed_pairs c rs ≡ []
unfolding map_end
pairs-none c rs is = rw (← is.bits, add-zero c.position, none-between c.position rs) refl

-- ---- the walk

-- what a walk up to some records has found
pub record IsWalked (c : Commit) (all left : List Record) (pairs : List (ℕ × Bool)) : Type 0 where
  pub whole : pairs ++ map (λ r. (r.offset, passes c r.offset)) (filter (λ r. ltb r.offset (map_end c)) left) ≡ resumed_pairs c all
  pub rises : rises_from 0 left ≡ true
  pub from : AllByRecursion (λ r. c.position ≤ r.offset) left

rises-not_below : (b n : ℕ) (rs : List Record) → rises_from n rs ≡ true → rises_from n (filter (λ r. leb b r.offset) rs) ≡ true
rises-not_below b n [] rises = refl
rises-not_below b n (r ∷ rs) rises =
    let first = first-of n r rs rises in
    let ih = rises-not_below b (suc r.offset) rs first.rest in
    elim (leb b r.offset) as (λ t. rises_from n (cond t (r ∷ filter (λ r. leb b r.offset) rs) (filter (λ r. leb b r.offset) rs)) ≡ true) [
      | true ↦ rw (le-leb n r.offset first.low, lt-ltb r.offset (2 ^ 63 - 1) first.small) ih
      | false ↦ rises-lower n (suc r.offset) _ (omega (arith, first.low)) ih
    ]

from-not_below : (b : ℕ) (rs : List Record) → AllByRecursion (λ r. b ≤ r.offset) (filter (λ r. leb b r.offset) rs)
from-not_below b [] = tt
from-not_below b (r ∷ rs) = elim (cases_Bool (leb b r.offset)) [
  | inl t ↦ rw t (leb-true b r.offset t, from-not_below b rs)
  | inr f ↦ rw f (from-not_below b rs)
]

pub IsWalked-start : (c : Commit) (all left : List Record) (base : ℕ) → rises_from 0 all ≡ true → base ≡ c.position
    → left ≡ filter (λ r. leb base r.offset) all → IsWalked c all left []
IsWalked-start c all left base rises at is = rw (is, at) (record {
  whole = refl;
  rises = rises-not_below c.position 0 all rises;
  from = from-not_below c.position all;
})

-- the next record, of which the map says something
pub IsWalked-next : (c : Commit) (all left rest : List Record) (pairs : List (ℕ × Bool)) (r : Record) → IsWalked c all left pairs
    → left ≡ r ∷ rest → r.offset < map_end c → IsWalked c all rest (pairs ++ (r.offset, passes c r.offset) ∷ [])
IsWalked-next c all left rest pairs r walked is less =
    let at = rw is at walked.rises in
    let from = rw is at walked.from in
    record {
      whole = append_assoc pairs ((r.offset, passes c r.offset) ∷ []) _
          ∙ rw (is, lt-ltb r.offset (map_end c) less) at walked.whole;
      rises = rises-lower 0 (suc r.offset) rest (omega arith) (first-of 0 r rest at).rest;
      from = from.1;
    }

none-above : (end n : ℕ) (rs : List Record) → rises_from n rs ≡ true → end ≤ n → filter (λ r. ltb r.offset end) rs ≡ []
none-above end n [] rises le = refl
none-above end n (r ∷ rs) rises le =
    let first = first-of n r rs rises in
    rw (le-ltb r.offset end (omega (arith, first.low, le))) (none-above end (suc r.offset) rs first.rest (omega (arith, first.low, le)))

-- the next record, of which the map says nothing
pub IsWalked-stop : (c : Commit) (all left rest : List Record) (pairs : List (ℕ × Bool)) (r : Record) → IsWalked c all left pairs
    → left ≡ r ∷ rest → map_end c ≤ r.offset → pairs ≡ resumed_pairs c all
IsWalked-stop c all left rest pairs r walked is more =
    let first = first-of 0 r rest (rw is at walked.rises) in
    let none = none-above (map_end c) (suc r.offset) rest first.rest (omega (arith, more)) in
    sym (append-nil pairs) ∙ rw (is, le-ltb r.offset (map_end c) more, none) at walked.whole

pub IsWalked-end : (c : Commit) (all left : List Record) (pairs : List (ℕ × Bool)) → IsWalked c all left pairs → left ≡ []
    → pairs ≡ resumed_pairs c all
IsWalked-end c all left pairs walked is = sym (append-nil pairs) ∙ rw is at walked.whole

-- the map passes what the commit passes
pub passes-map : (c : Commit) (m : OffsetMap) (o : ℕ) → m.base ≡ c.position → m.bits ≡ map_bits c → c.position ≤ o
    → is_passed m.base m.bits o ≡ passes c o
unfolding passes
passes-map c m o base bits low = rw (base, bits, le-leb c.position o low, le-ltb o c.position low) refl

pub end-map : (c : Commit) (m : OffsetMap) → m.base ≡ c.position → m.bits ≡ map_bits c → m.base + length m.bits ≡ map_end c
unfolding map_end
end-map c m base bits = rw (base, bits) refl

-- ---- a map that does not read

pub refusal-none : (rule : BadMapRule) (fault : MapFault) → None ≡ refusal_of rule fault → fault ≡ NoMemory → ⊥
refusal-none Redo fault is memory = let other : None ≡ refusal_of Redo NoMemory = is ∙ ap (refusal_of Redo) memory in cc
refusal-none Refuse fault is memory = let other : None ≡ refusal_of Refuse NoMemory = is ∙ ap (refusal_of Refuse) memory in cc
