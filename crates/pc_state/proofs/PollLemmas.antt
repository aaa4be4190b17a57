-- What a poll adds to the marks of a part: the next offsets, of which those that were not known are
-- incomplete.
use Rattle.std.proofs.Common.{◌≡◌, ℕ, zero, suc, ◌+◌, ◌-◌, ◌^◌, ◌≤◌, ◌<◌, true, false, not, ◌||◌, ◌==◌, List, [], ◌∷◌, map, length, take, drop, Some, refl, ap, sym, subst, ◌∙◌, arith, inl}
use Rattle.std.specs.Prelude.{nat_le, nat_lt, option_map, slice_get}
use Rattle.std.specs.List.{list_any}
use Rattle.std.proofs.lemmas.Bool.{leb-true, ltb-false, le-ltb}
use Rattle.std.proofs.lemmas.List.{length-map, length-take-le, get_or_past}
use Rattle.pc_model.specs.declared.event.Event.{Event}
use Rattle.pc_model.specs.declared.event.Event.TheVariants.{Poll}
use Rattle.pc_model.specs.declared.commit.Commit.{Commit}
use Rattle.pc_model.specs.Record.{Record}
use Rattle.pc_model.specs.Given.{Given, records_of}
use Rattle.pc_model.specs.Epochs.{is_held}
use Rattle.pc_model.specs.Stored.{map_bits, map_end, passes}
use Rattle.pc_model.specs.Marks.{Mark, offsets_of, incomplete_offsets, end_at}
use Rattle.pc_model.specs.Known.{assigned_commit, begin_of, polled_count, records_from_begin, polled_records, unpolled_records, known_records, is_complete, marks_of}
use Rattle.pc_model.specs.Lawful.{IsLegal, PollIsLawful}
use Rattle.pc_model.proofs.KnownLaws.{polled_count-poll}
use Rattle.pc_laws.specs.Lists.{In}
use Rattle.pc_laws.proofs.Lists.{In-filtered}
use Rattle.pc_laws.proofs.Rising.{Rises, Rises-In, known_of}
use Rattle.pc_laws.proofs.Passing.{marks_by}
use Rattle.pc_laws.proofs.Blocked.{drop-In}
use Rattle.pc_laws.proofs.PositionLaw.{from_begin-rises}
use Rattle.pc_laws.proofs.SucceededLaw.{unpolled-unsucceeded}
use Rattle.pc_partition.specs.Window.{Window, RisesFrom, StandsFor, AreNext, with_polled}
use Rattle.pc_partition.proofs.WindowLemmas.{begin-small as rising-small}
use Rattle.pc_state.proofs.PollMarks.{offsets, Rises-from, polled-length, rises-known, poll-known, next-known, complete-known}

-- nothing is said of what lies from the map's end on
passes-behind : (c : Commit) (o : ℕ) → nat_lt o (map_end c) ≡ false → passes c o ≡ false
unfolding map_end passes
passes-behind c o out =
    let ge : c.position + length (map_bits c) ≤ o = ltb-false o _ out in
    rw (
      le-ltb o c.position (omega (arith, ge)),
      get_or_past (map_bits c) (o - c.position) false (omega (arith, ge)),
    ) refl

-- the offsets of the next records that were not polled
abbrev pub next_offsets : Given → List Event → ℕ → ℕ → List ℕ
next_offsets given h p count = map (λ r. r.offset) (take count (unpolled_records given h p))

-- there are so many of them where so many records are left
pub length-next_offsets : (given : Given) (h : List Event) (p count : ℕ)
    → count ≤ length (unpolled_records given h p) → length (next_offsets given h p count) ≡ count
length-next_offsets given h p count le =
    length-map (take count (unpolled_records given h p)) (λ (r : Record). r.offset)
    ∙ length-take-le count (unpolled_records given h p) le

last-within : (n o : ℕ) (rs : List Record)
    → option_map (λ (r : Record). r.offset) (slice_get rs n) ≡ Some o → n < length rs
last-within n o [] is = cc
last-within zero o (r ∷ rs) is = omega arith
last-within (suc n) o (r ∷ rs) is = let more = last-within n o rs is in omega (arith, more)

last-of : (n : ℕ) (rs : List Record) → n < length rs
    → slice_get (offsets (take (suc n) rs)) n
    ≡ option_map (λ (r : Record). r.offset) (slice_get rs n)
last-of n [] less = absurd (omega (arith, less))
last-of zero (r ∷ rs) less = refl
last-of (suc n) (r ∷ rs) less = last-of n rs (omega (arith, less))

-- and the last of them is that of the last record
pub last-next_offsets : (given : Given) (h : List Event) (p count : ℕ) → 0 < count
    → count ≤ length (unpolled_records given h p)
    → slice_get (next_offsets given h p count) (count - 1)
    ≡ option_map (λ r. r.offset) (slice_get (unpolled_records given h p) (count - 1))
last-next_offsets given h p count some le =
    let is : suc (count - 1) ≡ count = omega (arith, some) in
    subst (λ (n : ℕ). slice_get (offsets (take n (unpolled_records given h p))) (count - 1)
    ≡ option_map (λ (r : Record). r.offset) (slice_get (unpolled_records given h p) (count - 1))) is
    (last-of (count - 1) (unpolled_records given h p) (omega (arith, some, le)))

-- a lawful poll is one of records that are left
pub poll-within : (given : Given) (h : List Event) (p count last : ℕ)
    → PollIsLawful given h p count last → count ≤ length (unpolled_records given h p)
poll-within given h p count last lawful =
    let less = last-within (count - 1) last (unpolled_records given h p) lawful.last_is in
    omega (arith, less, lawful.some)

first-item : (rs : List Record) → 0 < length rs → (r : Record) × In r rs
first-item [] some = absurd (omega (arith, some))
first-item (r ∷ rs) some = (r, inl refl)

module _ (given : Given) (h : List Event) (legal : IsLegal given h) (p : ℕ) where
  -- the records from the begin on lie there
  from-begin : (r : Record) → In r (records_from_begin given h p) → begin_of h p ≤ r.offset
  from-begin r i = leb-true (begin_of h p) r.offset
      (In-filtered (λ (q : Record). nat_le (begin_of h p) q.offset) r (records_of given p) i).1

  begin-rises : Rises (begin_of h p) (records_from_begin given h p)
  begin-rises = Rises-from (begin_of h p) 0 (records_from_begin given h p)
      (from_begin-rises given h legal p) from-begin

  -- where a record is left, the begin is that of a log
  pub begin-small : 0 < length (unpolled_records given h p) → begin_of h p < 2 ^ 63
  unfolding unpolled_records
  begin-small some =
      let r = first-item (drop (polled_count h p) (records_from_begin given h p)) some in
      let at = drop-In (polled_count h p) r.0 (records_from_begin given h p) r.1 in
      let le = from-begin r.0 at in
      let least = Rises-In 0 r.0 (records_from_begin given h p)
      (from_begin-rises given h legal p) at in
      omega (arith, le, least.1)

  module _ (few : polled_count h p ≤ length (marks_of given h p)) where
    pub polled_records-length : length (polled_records given h p) ≡ polled_count h p
    unfolding polled_records marks_of known_records unpolled_records
    polled_records-length = polled-length (is_complete h p) (polled_count h p)
        (map_end (assigned_commit h p)) (records_from_begin given h p) few

    pub AreNext-poll : (count : ℕ) → AreNext (polled_count h p) (marks_of given h p)
        (next_offsets given h p count)
    unfolding polled_records marks_of known_records unpolled_records
    AreNext-poll count = next-known (is_complete h p) (polled_count h p)
        (map_end (assigned_commit h p)) (records_from_begin given h p) few 0 count
        (from_begin-rises given h legal p)

    pub rises-poll : (count : ℕ) → begin_of h p < 2 ^ 63 → RisesFrom
        (end_at (begin_of h p) (take (polled_count h p) (marks_of given h p)))
        (next_offsets given h p count)
    unfolding polled_records marks_of known_records unpolled_records
    rises-poll count small = rises-known (is_complete h p) (polled_count h p)
        (map_end (assigned_commit h p)) (records_from_begin given h p) few (begin_of h p) count
        small begin-rises

  module _ (held : is_held h p ≡ true) where
    -- a record of which nothing is said is incomplete
    new-incomplete : (r : Record) → In r (unpolled_records given h p)
        → nat_lt r.offset (map_end (assigned_commit h p)) ≡ false
        → is_complete h p r.offset ≡ false
    unfolding is_complete
    new-incomplete r i out = rw (
      unpolled-unsucceeded given h legal p held r i,
      passes-behind (assigned_commit h p) r.offset out,
    ) refl

    -- a record that was not polled is incomplete where it is not known, and else where its mark
    -- says so
    pub open-poll : (r : Record) → In r (unpolled_records given h p) → is_complete h p r.offset
        ≡ not (nat_le (end_at (begin_of h p) (marks_of given h p)) r.offset
        || list_any (λ o. o == r.offset) (incomplete_offsets (marks_of given h p)))
    unfolding polled_records marks_of known_records unpolled_records
    open-poll r i = complete-known (is_complete h p) (polled_count h p)
        (map_end (assigned_commit h p)) 0 (begin_of h p) (records_from_begin given h p)
        (from_begin-rises given h legal p) r i
        (from-begin r (drop-In (polled_count h p) r (records_from_begin given h p) i))
        (λ out. new-incomplete r i out)

    pub marks_of-poll : (count last : ℕ) → polled_count h p ≤ length (marks_of given h p)
        → marks_of given (Poll p count last ∷ h) p ≡ with_polled (polled_count h p)
        (marks_of given h p) (next_offsets given h p count)
    unfolding polled_records marks_of known_records unpolled_records is_complete
    marks_of-poll count last few =
        ap (λ (n : ℕ). marks_by (is_complete h p)
        (known_of n (map_end (assigned_commit h p)) (records_from_begin given h p)))
        (polled_count-poll given h p count last)
        ∙ poll-known (is_complete h p) (polled_count h p)
        (map_end (assigned_commit h p)) (records_from_begin given h p) few 0 count
        (from_begin-rises given h legal p) (λ r i out. new-incomplete r i out)

-- ---- the same of a window that stands for what a part knows

module _ (given : Given) (h : List Event) (legal : IsLegal given h) (p : ℕ) (w : Window)
    (stands : StandsFor w (begin_of h p) (polled_count h p) (marks_of given h p)) where
  -- the next offsets may be polled
  pub window-rises : (count : ℕ) → RisesFrom w.polled_to (next_offsets given h p count)
  window-rises count = rw stands.polled_to (rises-poll given h legal p stands.polled count
      (rising-small (begin_of h p) (offsets_of (marks_of given h p)) stands.rises))

  pub window-next : (count : ℕ)
      → AreNext (polled_count h p) (marks_of given h p) (next_offsets given h p count)
  window-next count = AreNext-poll given h legal p stands.polled count

  module _ (held : is_held h p ≡ true) where
    -- the window tells which of their records are complete
    pub window-open : (r : Record) → In r (unpolled_records given h p) → is_complete h p r.offset
        ≡ not (nat_le w.after r.offset || list_any (λ o. o == r.offset) w.incomplete)
    window-open r i = rw (stands.after, stands.incomplete) (open-poll given h legal p held r i)

    -- and the window with them stands for what the part knows after the poll
    pub window-poll : (count last : ℕ) (new : Window)
        → count ≤ length (unpolled_records given h p)
        → StandsFor new (begin_of h p)
        (polled_count h p + length (next_offsets given h p count))
        (with_polled (polled_count h p) (marks_of given h p) (next_offsets given h p count))
        → StandsFor new (begin_of (Poll p count last ∷ h) p)
        (polled_count (Poll p count last ∷ h) p) (marks_of given (Poll p count last ∷ h) p)
    window-poll count last new le polled =
        subst (λ (ms : List Mark). StandsFor new (begin_of h p)
        (polled_count (Poll p count last ∷ h) p) ms)
        (sym (marks_of-poll given h legal p held count last stands.polled))
        (subst (λ (n : ℕ). StandsFor new (begin_of h p) n
        (with_polled (polled_count h p) (marks_of given h p) (next_offsets given h p count)))
        (ap (λ (n : ℕ). polled_count h p + n) (length-next_offsets given h p count le)
        ∙ sym (polled_count-poll given h p count last)) polled)
