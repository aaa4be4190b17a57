-- The first record of a part that is incomplete or was not polled.
use Rattle.std.proofs.Common.{◌≡◌, ◌⊎◌, ◌-◌, ◌==◌, ℕ, Bool, true, false, cond, inl, inr, subst, List, [], ◌∷◌, ◌++◌, map, length, slice_get, Option, Some, None, refl, sym, ap, ◌∙◌, arith}
use Rattle.std.specs.Prelude.{filter, if◌then◌else◌, not, option_map}
use Rattle.std.specs.List.{range_with_len}
use Rattle.pc_model.specs.Numbers.{first_some}
use Rattle.pc_model.specs.declared.event.Event.{Event}
use Rattle.pc_model.specs.Record.{Record}
use Rattle.pc_model.specs.Given.{Given}
use Rattle.pc_model.specs.Epochs.{is_held}
use Rattle.pc_model.specs.Known.{unpolled_records}
use Rattle.pc_model.specs.Retry.{failures_of}
use Rattle.pc_model.specs.Run.{open_records}
use Rattle.pc_shards.specs.Entries.{Entry, of_part}
use Rattle.pc_shards.specs.OpenEntries.{entry_of}
use Rattle.pc_state.specs.declared.state.State.{State}
use Rattle.std.specs.Prelude.{find}
use Rattle.std.specs.List.{list_all}
use Rattle.std.specs.Option.{option_map_or}
use Rattle.std.proofs.lemmas.Bool.{cases_Bool}
use Rattle.pc_model.specs.declared.commit.Commit.{Commit}
use Rattle.pc_model.specs.Given.{parts_of}
use Rattle.pc_model.specs.Known.{is_complete, known_records, marks_of, polled_records, position_of}
use Rattle.pc_model.specs.Lawful.{held_parts, is_finished, is_nil, is_stored}
use Rattle.pc_model.specs.Marks.{incomplete_offsets}
use Rattle.pc_model.specs.Stored.{may_store}
use Rattle.pc_laws.specs.Lists.{In}
use Rattle.pc_laws.specs.Stall.{HasWork}
use Rattle.pc_laws.proofs.Lists.{In-filtered}
use Rattle.pc_laws.proofs.Passing.{option_cases}
use Rattle.pc_state.specs.Queries.{other_stored, first_uncommitted, first_unfinished, uncommitted_at, unfinished, unfinished_at}
use Rattle.pc_state.specs.State.{Knows, is_kept_back}
use Rattle.pc_state.proofs.StateLemmas.{entries-held}

-- an entry is that of an open record
first-open : (busy : Record → Bool) (failures : Record → ℕ) (rs left : List Record) (e : Entry)
    → slice_get (map (entry_of busy failures) rs) 0 ≡ Some e
    → option_map (λ (r : Record). r.offset) (slice_get (rs ++ left) 0) ≡ Some e.record.offset
first-open busy failures [] left e is = cc
first-open busy failures (r ∷ rs) left e is =
    let same : entry_of busy failures r ≡ e = cc in
    ap (λ (x : Entry). Some x.record.offset) same

-- without an entry there is none
no-open : (busy : Record → Bool) (failures : Record → ℕ) (rs left : List Record)
    → slice_get (map (entry_of busy failures) rs) 0 ≡ None → rs ++ left ≡ left
no-open busy failures [] left is = refl
no-open busy failures (r ∷ rs) left is = cc

module _ (given : Given) (h : List Event) (s : State) (p : ℕ) (knows : Knows given h s)
    (held : is_held h p ≡ true) where
  pub entries-are : of_part s.shards p ≡ map (entry_of (λ r. is_kept_back given h p r.offset)
      (λ r. failures_of h p r.offset)) (open_records given h p)
  unfolding open_records
  entries-are = knows.entries p ∙ entries-held given h p held

  pub unfinished-open : (e : Entry) → slice_get (of_part s.shards p) 0 ≡ Some e
      → Some e.record.offset ≡ unfinished given h p
  unfinished-open e is = sym (first-open _ _ (open_records given h p) (unpolled_records given h p) e
      (rw entries-are at is))

  pub unfinished-left : (o : Option ℕ) → slice_get (of_part s.shards p) 0 ≡ None
      → o ≡ option_map (λ (r : Record). r.offset) (slice_get (unpolled_records given h p) 0)
      → o ≡ unfinished given h p
  unfinished-left o none is = is ∙ ap (λ (rs : List Record). option_map
      (λ (r : Record). r.offset) (slice_get rs 0))
      (sym (no-open _ _ (open_records given h p) (unpolled_records given h p)
      (rw entries-are at none)))

-- both questions ask the parts from the first on
module _ (given : Given) (h : List Event) (s : State) (knows : Knows given h s) (n : ℕ)
    (parts : n ≡ length s.logs.now) where
  count : length given.logs ≡ n - 0
  count = let same = ap length knows.logs ∙ sym parts in omega (arith, same)

  pub unfinished-from : first_unfinished given h
      ≡ first_some (unfinished_at given h) (range_with_len 0 (n - 0))
  unfolding first_unfinished
  unfinished-from = ap (λ (k : ℕ). first_some (unfinished_at given h) (range_with_len 0 k)) count

  pub uncommitted-from : first_uncommitted given h
      ≡ first_some (uncommitted_at given h) (range_with_len 0 (n - 0))
  unfolding first_uncommitted
  uncommitted-from = ap (λ (k : ℕ). first_some (uncommitted_at given h) (range_with_len 0 k)) count

-- ---- that nothing is unfinished

-- nothing is given of any of them
none-given : {Y : Type 0} (f : ℕ → Option Y) (ps : List ℕ) → first_some f ps ≡ None
    → (p : ℕ) → In p ps → f p ≡ None
none-given f [] none p i = absurd i
none-given f (q ∷ ps) none p i = elim (option_cases (f q)) [
  | inl nothing ↦ let rest : first_some f ps ≡ None = rw nothing at none in elim i [
    | inl same ↦ ap f same ∙ nothing
    | inr j ↦ none-given f ps rest p j
  ]
  | inr some ↦ let out = rw some.1 at none in cc out
]

-- what is none of a pair is none
unpaired : (p : ℕ) (o : Option ℕ) → ◌≡◌ {A = Option (ℕ × ℕ)} (option_map (λ n. (p, n)) o) None
    → o ≡ None
unpaired p None is = refl
unpaired p (Some n) is = cc

no-first : (rs : List Record) → option_map (λ (r : Record). r.offset) (slice_get rs 0) ≡ None
    → rs ≡ []
no-first [] is = refl
no-first (r ∷ rs) is = cc

both-none : (rs ls : List Record) → rs ++ ls ≡ [] → (rs ≡ []) × (ls ≡ [])
both-none [] ls is = (refl, is)
both-none (r ∷ rs) ls is = cc

append-none : (rs : List Record) → rs ++ [] ≡ rs
append-none [] = refl
append-none (r ∷ rs) = ap (λ (xs : List Record). r ∷ xs) (append-none rs)

-- without open records no mark is incomplete
no-mark : (f : ℕ → Bool) (rs : List Record) → filter (λ (r : Record). not (f r.offset)) rs ≡ []
    → is_nil (incomplete_offsets (map (λ (r : Record). record
    { offset = r.offset; is_complete = f r.offset }) rs)) ≡ true
no-mark f [] none = refl
no-mark f (r ∷ rs) none = elim (cases_Bool (f r.offset)) [
  | inl done ↦ let rest : filter (λ (r : Record). not (f r.offset)) rs ≡ [] = rw done at none in
      rw done (no-mark f rs rest)
  | inr left ↦ let out = rw left at none in cc out
]

all-hold : (f : ℕ → Bool) (ps : List ℕ) → ((p : ℕ) → In p ps → f p ≡ true) → list_all f ps ≡ true
all-hold f [] each = refl
all-hold f (p ∷ ps) each = rw (each p (inl refl)) (all-hold f ps (λ q i. each q (inr i)))

all-stored : (cs : List Commit) (n : ℕ) → option_map (λ (c : Commit). c.position)
    (find (λ (c : Commit). not (c.position == n)) cs) ≡ None
    → list_all (λ (c : Commit). c.position == n) cs ≡ true
all-stored [] n is = refl
all-stored (c ∷ cs) n is = elim (cases_Bool (c.position == n)) [
  | inl same ↦ let rest : option_map (λ (c : Commit). c.position)
      (find (λ (c : Commit). not (c.position == n)) cs) ≡ None = rw same at is in
      rw same (all-stored cs n rest)
  | inr apart ↦ let out = rw apart at is in cc out
]

module _ (given : Given) (h : List Event) (p : ℕ) where
  no-incomplete : open_records given h p ≡ [] → unpolled_records given h p ≡ []
      → is_nil (incomplete_offsets (marks_of given h p)) ≡ true
  unfolding open_records marks_of known_records
  no-incomplete none left = rw (left, append-none (polled_records given h p))
      (no-mark (is_complete h p) (polled_records given h p) none)

  stored-all : other_stored given h p ≡ None → is_stored given h p ≡ true
  unfolding is_stored
  stored-all none = all-stored (may_store given h p) (position_of given h p) none

  -- a part of which nothing is unfinished and no other commit may be stored is finished
  part-finished : unfinished given h p ≡ None → other_stored given h p ≡ None
      → is_finished given h p ≡ true
  unfolding is_finished
  part-finished none stored =
      let lists = both-none (open_records given h p) (unpolled_records given h p)
      (no-first (open_records given h p ++ unpolled_records given h p) none) in
      rw (lists.1, no-incomplete lists.0 lists.1) (stored-all stored)

held-none : (b : Bool) (o : Option ℕ) → b ≡ true → cond b o None ≡ None → o ≡ None
held-none b o held is = rw held at is

pub all-finished : (given : Given) (h : List Event) → first_unfinished given h ≡ None
    → first_uncommitted given h ≡ None
    → list_all (is_finished given h) (held_parts given h) ≡ true
unfolding first_unfinished first_uncommitted
all-finished given h undone unstored = all-hold (is_finished given h) (held_parts given h)
    (λ p i. let at = In-filtered (is_held h) p (parts_of given) i in
    part-finished given h p
    (held-none (is_held h p) (unfinished given h p) at.1
    (unpaired p _ (none-given (unfinished_at given h) (parts_of given) undone p at.0)))
    (held-none (is_held h p) (other_stored given h p) at.1
    (unpaired p _ (none-given (uncommitted_at given h) (parts_of given) unstored p at.0))))

-- ---- that what is found is of a held part

module _ (h : List Event) (rest : ℕ → Option ℕ) (p n : ℕ) where
  abbrev of_held : ℕ → Option (ℕ × ℕ)
  of_held q = option_map (λ o. (q, o)) (if is_held h q then rest q else None)

  pair-part : (q : ℕ) (o : Option ℕ)
      → ◌≡◌ {A = Option (ℕ × ℕ)} (option_map (λ m. (q, m)) o) (Some (p, n)) → q ≡ p
  pair-part q None is = cc
  pair-part q (Some m) is = ap (λ (x : Option (ℕ × ℕ)). option_map_or (λ (it : ℕ × ℕ). it.0) x q) is

  pair-held : (q : ℕ) (b : Bool) (o : Option ℕ)
      → ◌≡◌ {A = Option (ℕ × ℕ)} (option_map (λ m. (q, m)) (cond b o None)) (Some (p, n))
      → (b ≡ true) × (o ≡ Some n)
  pair-held q true None is = cc
  pair-held q true (Some m) is = (
    refl,
    ap (λ (x : Option (ℕ × ℕ)). option_map (λ (it : ℕ × ℕ). it.1) x) is,
  )
  pair-held q false o is = cc

  found-held : (ps : List ℕ) → first_some of_held ps ≡ Some (p, n)
      → (is_held h p ≡ true) × (rest p ≡ Some n)
  found-held [] is = cc
  found-held (q ∷ ps) is = elim (option_cases (of_held q)) [
    | inl none ↦ let more : first_some of_held ps ≡ Some (p, n) = rw none at is in found-held ps more
    | inr some ↦
        let here : of_held q ≡ Some (p, n) = some.1 ∙ (rw some.1 at is) in
        subst (λ (u : ℕ). (is_held h u ≡ true) × (rest u ≡ Some n)) (pair-part q _ here)
        (pair-held q (is_held h q) (rest q) here)
  ]

-- a part of which another commit may be stored is held
pub uncommitted-held : (given : Given) (h : List Event) (p stored : ℕ)
    → Some (p, stored) ≡ first_uncommitted given h → is_held h p ≡ true
unfolding first_uncommitted
uncommitted-held given h p stored is =
    (found-held h (other_stored given h) p stored (parts_of given) (sym is)).0

-- a part with a record that is incomplete or was not polled is held, and has work left
pub unfinished-held : (given : Given) (h : List Event) (p o : ℕ)
    → Some (p, o) ≡ first_unfinished given h → (is_held h p ≡ true) × HasWork given h p
unfolding first_unfinished
unfinished-held given h p o is =
    let found = found-held h (unfinished given h) p o (parts_of given) (sym is) in
    (found.0, left (open_records given h p) (unpolled_records given h p) found.1)
  where
    left : (rs ls : List Record)
        → option_map (λ (r : Record). r.offset) (slice_get (rs ++ ls) 0) ≡ Some o
        → ((r : Record) × In r ls) ⊎ ((r : Record) × In r rs)
    left (r ∷ rs) ls first = inr (r, inl refl)
    left [] (l ∷ ls) first = inl (l, inl refl)
    left [] [] first = cc
