-- The poll of the next records of a part: they are a front of those that were not polled, and the
-- poll of them is lawful.
use Rattle.std.proofs.Common.{◌≡◌, ℕ, zero, suc, ◌+◌, ◌-◌, ◌≤◌, ◌<◌, Bool, true, false, not, ◌&&◌, ◌||◌, List, [], ◌∷◌, ◌++◌, length, take, Option, Some, None, Result, Ok, Err, refl, ap, sym, subst, ◌∙◌, arith, inl, inr}
use Rattle.std.specs.Prelude.{filter, if◌then◌else◌, nat_le, option_map, slice_get, unwrap_or}
use Rattle.std.specs.Option.{option_map_or}
use Rattle.std.proofs.lemmas.Bool.{cases_Bool, le-leb, leb-true}
use Rattle.pc_model.specs.declared.commit.Commit.{Commit}
use Rattle.pc_model.specs.declared.event.Event.{Event}
use Rattle.pc_model.specs.declared.event.Event.TheVariants.{Poll}
use Rattle.pc_model.specs.Record.{Record}
use Rattle.pc_model.specs.Given.{Given, has_log}
use Rattle.pc_model.specs.Jobs.{has_ended, is_draining, open_jobs}
use Rattle.pc_model.specs.Epochs.{is_held}
use Rattle.pc_model.specs.Known.{high_of, polled_count, records_from_begin, unpolled_records}
use Rattle.pc_model.specs.Pressure.{is_blocked, is_upto_high}
use Rattle.pc_model.specs.Lawful.{IsLegal}
use Rattle.pc_laws.proofs.Lists.{true-not-false}
use Rattle.pc_laws.proofs.Rising.{Rises}
use Rattle.pc_laws.proofs.Blocked.{Rises-drop}
use Rattle.pc_laws.proofs.HighLaw.{blocked_has_high}
use Rattle.pc_laws.proofs.PositionLaw.{from_begin-rises}
use Rattle.pc_task.specs.Jobs.{Outcomes}
use Rattle.pc_engine.specs.declared.fault.EngineFault.{EngineFault}
use Rattle.pc_engine.specs.declared.fault.EngineFault.TheVariants.{JournalFull, Pressed}
use Rattle.pc_state.specs.declared.state.State.{State}
use Rattle.pc_state.specs.Calls.{next_records, pollable_records}
use Rattle.pc_engine.specs.Effect.{Does, Step, is_full, last_offset, poll_left, poll_refusal, poll_step, polls, refuses}
use Rattle.pc_engine.specs.Engine.{IsEngine}
use Rattle.pc_state.specs.State.{Knows, MayCome}
use Rattle.pc_engine.proofs.EngineEvents.{room-limit}
use Rattle.pc_engine.proofs.EngineTake.{not-full}
use Rattle.pc_engine.proofs.EngineStep.{given_to, given-event, keeps-event}

-- the last of two or more is the last of those behind the first
last-more : (r q : Record) (rs : List Record) → last_offset (r ∷ q ∷ rs) ≡ last_offset (q ∷ rs)
last-more r q rs = ap (λ (n : ℕ). option_map_or (λ (x : Record). x.offset) (slice_get (r ∷ q ∷ rs) n) 0)
    (let at : length (r ∷ q ∷ rs) - 1 ≡ suc (length (q ∷ rs) - 1) = omega arith in at)

-- ---- the front of a list by a test of offsets that holds below each for which it holds

module _ (test : ℕ → Bool) (falls : (a b : ℕ) → a ≤ b → test b ≡ true → test a ≡ true) where
  none-behind : (n : ℕ) (o : ℕ) (rs : List Record) → o ≤ n → test o ≡ false → Rises n rs
      → filter (λ r. test r.offset) rs ≡ []
  none-behind n o [] le out rises = refl
  none-behind n o (r ∷ rs) le out rises = elim (cases_Bool (test r.offset)) [
    | inl passed ↦ absurd (true-not-false (test o)
        (falls o r.offset (let above : n ≤ r.offset = rises.0 in omega (arith, le, above)) passed) out)
    | inr failed ↦ let above : n ≤ r.offset = rises.0 in rw failed
        (none-behind (suc r.offset) o rs (omega (arith, le, above)) out rises.2)
  ]

  filter-front : (n : ℕ) (rs : List Record) → Rises n rs → filter (λ r. test r.offset) rs
      ≡ take (length (filter (λ r. test r.offset) rs)) rs
  filter-front n [] rises = refl
  filter-front n (r ∷ rs) rises = elim (cases_Bool (test r.offset)) [
    | inl passed ↦ rw passed (ap (λ (l : List Record). r ∷ l) (filter-front (suc r.offset) rs rises.2))
    | inr failed ↦ rw (failed, none-behind (suc r.offset) r.offset rs (omega arith) failed rises.2) refl
  ]

  -- the last of some that pass passes
  last-passes : (m : ℕ) (rs : List Record) → 0 < length (take m (filter (λ r. test r.offset) rs))
      → test (last_offset (take m (filter (λ r. test r.offset) rs))) ≡ true
  last-passes m rs some = passes-at (take m (filter (λ r. test r.offset) rs)) (passing m rs) some
    where
      Passing : List Record → Type 0
      Passing [] = Unit {0}
      Passing (r ∷ rs) = (test r.offset ≡ true) × Passing rs

      passing-take : (m : ℕ) (rs : List Record) → Passing rs → Passing (take m rs)
      passing-take zero rs all = tt
      passing-take (suc m) [] all = tt
      passing-take (suc m) (r ∷ rs) all = (all.0, passing-take m rs all.1)

      passing-filter : (rs : List Record) → Passing (filter (λ r. test r.offset) rs)
      passing-filter [] = tt
      passing-filter (r ∷ rs) = elim (cases_Bool (test r.offset)) [
        | inl passed ↦ rw passed (passed, passing-filter rs)
        | inr failed ↦ rw failed (passing-filter rs)
      ]

      passing : (m : ℕ) (rs : List Record) → Passing (take m (filter (λ r. test r.offset) rs))
      passing m rs = passing-take m (filter (λ r. test r.offset) rs) (passing-filter rs)

      passes-at : (rs : List Record) → Passing rs → 0 < length rs → test (last_offset rs) ≡ true
      passes-at [] all some = absurd (omega (arith, some))
      passes-at (r ∷ []) all some = all.0
      passes-at (r ∷ q ∷ rs) all some = rw (last-more r q rs) (passes-at (q ∷ rs) all.1 (omega arith))

take-take : (m k : ℕ) (rs : List Record) → take m (take k rs) ≡ take (length (take m (take k rs))) rs
take-take zero k rs = refl
take-take (suc m) zero rs = refl
take-take (suc m) (suc k) [] = refl
take-take (suc m) (suc k) (r ∷ rs) = ap (λ (l : List Record). r ∷ l) (take-take m k rs)

-- the last of the first records is that of the list at that place
last-front : (n : ℕ) (rs : List Record) → length (take (suc n) rs) ≡ suc n
    → option_map (λ r. r.offset) (slice_get rs n) ≡ Some (last_offset (take (suc n) rs))
last-front n [] all = absurd (omega (arith, all))
last-front zero (r ∷ rs) all = refl
last-front (suc n) (r ∷ []) all = absurd (omega (arith, all))
last-front (suc n) (r ∷ q ∷ rs) all = last-front n (q ∷ rs) (omega (arith, all))
    ∙ ap (λ (o : ℕ). Some o) (sym (last-more r q (take n rs)))

-- ---- the next records

-- whether a poll may take the record at an offset
abbrev pub may_poll : Given → List Event → ℕ → ℕ → Bool
may_poll given h p o = not (is_blocked given h p) || is_upto_high given h p o

upto-falls : (blocked : Bool) (high : Option ℕ) (a b : ℕ) → a ≤ b
    → (not blocked || option_map_or (nat_le b) high false) ≡ true
    → (not blocked || option_map_or (nat_le a) high false) ≡ true
upto-falls false high a b le is = refl
upto-falls true None a b le is = cc
upto-falls true (Some m) a b le is = let below : b ≤ m = leb-true b m is in
    le-leb a m (omega (arith, le, below))

upto-when : (a b : Bool) → a ≡ true → (not a || b) ≡ true → b ≡ true
upto-when true b on is = is
upto-when false b on is = cc

module _ (given : Given) (h : List Event) (p : ℕ) (legal : IsLegal given h) where
  unpolled-rises : Rises 0 (unpolled_records given h p)
  unfolding unpolled_records
  unpolled-rises = Rises-drop (polled_count h p) 0 (records_from_begin given h p)
      (from_begin-rises given h legal p)

  next-front : (max : ℕ) → next_records given h p max
      ≡ take (length (next_records given h p max)) (unpolled_records given h p)
  unfolding pollable_records
  next-front max =
      let front = filter-front (may_poll given h p)
      (λ a b. upto-falls (is_blocked given h p) (high_of given h p) a b) 0
      (unpolled_records given h p) unpolled-rises in
      let pollable = filter (λ r. may_poll given h p r.offset) (unpolled_records given h p) in
      ap (take max) front ∙ take-take max (length pollable) (unpolled_records given h p)
      ∙ ap (λ (rs : List Record). take (length (take max rs)) (unpolled_records given h p)) (sym front)

-- the first record that is left, if none presses it
first-taken : (given : Given) (h : List Event) (p max first : ℕ) → 0 < max
    → option_map (λ r. r.offset) (slice_get (unpolled_records given h p) 0) ≡ Some first
    → may_poll given h p first ≡ true → 0 < length (next_records given h p max)
unfolding pollable_records
first-taken given h p max first some is may =
    taken max (unpolled_records given h p) some is
  where
    some-injective : (a b : ℕ) → Some a ≡ Some b → a ≡ b
    some-injective a b e = cc

    taken : (m : ℕ) (rs : List Record) → 0 < m
        → option_map (λ r. r.offset) (slice_get rs 0) ≡ Some first
        → 0 < length (take m (filter (λ r. may_poll given h p r.offset) rs))
    taken zero rs some is = absurd (omega (arith, some))
    taken (suc m) [] some is = cc
    taken (suc m) (r ∷ rs) some is =
        let at : r.offset ≡ first = some-injective r.offset first is in
        let passed : may_poll given h p r.offset ≡ true = ap (may_poll given h p) at ∙ may in
        rw passed (omega arith)

-- ---- what a poll that was not refused does

pub record MayPoll (given : Given) (h : List Event) (p : ℕ) : Type 0 where
  pub held : is_held h p ≡ true
  pub flows : is_draining h ≡ false
  pub runs : has_ended h ≡ false

pub may-poll : (given : Given) (h : List Event) (p : ℕ) → poll_refusal given h p ≡ None
    → MayPoll given h p
may-poll given h p none = elim (cases_Bool (has_ended h)) [
  | inl ended ↦ let out = rw ended at none in cc out
  | inr runs ↦ elim (cases_Bool (has_log given p)) [
    | inr unknown ↦ let out = rw (runs, unknown) at none in cc out
    | inl known ↦ elim (cases_Bool (is_held h p)) [
      | inr free ↦ let out = rw (runs, known, free) at none in cc out
      | inl held ↦ elim (cases_Bool (is_draining h)) [
        | inl draining ↦ let out = rw (runs, known, held, draining) at none in cc out
        | inr flows ↦ record { held = held; flows = flows; runs = runs }
      ]
    ]
  ]
]

-- a blocked part presses a record exactly where that is above its high
pressed-above : (given : Given) (h : List Event) (p o high : ℕ)
    → Some high ≡ (if is_blocked given h p then high_of given h p else None)
    → ◌≡◌ {A = Result (Unit {0}) EngineFault}
    (if nat_le o high then Ok tt else Err (Pressed high))
    (if is_blocked given h p && not (is_upto_high given h p o)
    then Err (Pressed (unwrap_or (high_of given h p) 0)) else Ok tt)
pressed-above given h p o high is = elim (cases_Bool (is_blocked given h p)) [
  | inr unpressed ↦ let out = rw unpressed at is in cc out
  | inl pressed ↦ let at = rw pressed at is in rw (pressed, ← at) (same (nat_le o high))
]
  where
    same : (b : Bool) → ◌≡◌ {A = Result (Unit {0}) EngineFault}
        (if b then Ok tt else Err (Pressed high)) (if not b then Err (Pressed high) else Ok tt)
    same true = refl
    same false = refl

pub pressed-none : (given : Given) (h : List Event) (p o : ℕ) → IsLegal given h
    → is_held h p ≡ true → None ≡ (if is_blocked given h p then high_of given h p else None)
    → ◌≡◌ {A = Result (Unit {0}) EngineFault} (Ok tt)
    (if is_blocked given h p && not (is_upto_high given h p o)
    then Err (Pressed (unwrap_or (high_of given h p) 0)) else Ok tt)
pressed-none given h p o legal held is = elim (cases_Bool (is_blocked given h p)) [
  | inl pressed ↦ let high = blocked_has_high given h p legal held pressed in
      let out = rw (pressed, high.1) at is in cc out
  | inr unpressed ↦ rw unpressed refl
]

-- a record that a poll may take
pub free-first : (given : Given) (h : List Event) (p o : ℕ) (u : Unit {0})
    → ◌≡◌ {A = Result (Unit {0}) EngineFault} (Ok u)
    (if is_blocked given h p && not (is_upto_high given h p o)
    then Err (Pressed (unwrap_or (high_of given h p) 0)) else Ok tt)
    → may_poll given h p o ≡ true
free-first given h p o u is = free (is_blocked given h p) (is_upto_high given h p o) is
  where
    free : (a b : Bool) → ◌≡◌ {A = Result (Unit {0}) EngineFault} (Ok u)
        (if a && not b then Err (Pressed (unwrap_or (high_of given h p) 0)) else Ok tt)
        → (not a || b) ≡ true
    free false b is = refl
    free true true is = refl
    free true false is = cc

-- one that it may not is refused
poll-pressed : (given : Given) (h : List Event) (p max first : ℕ) (r : Result ℕ EngineFault)
    (f : EngineFault) → poll_refusal given h p ≡ None
    → Some first ≡ option_map (λ r. r.offset) (slice_get (unpolled_records given h p) 0)
    → r ≡ Err f → ◌≡◌ {A = Result (Unit {0}) EngineFault} (Err f)
    (if is_blocked given h p && not (is_upto_high given h p first)
    then Err (Pressed (unwrap_or (high_of given h p) 0)) else Ok tt)
    → Does r (poll_step given h p max) h h
poll-pressed given h p max first r f none left was is =
    rw none (pressed-left (unpolled_records given h p) left)
  where
    same : (a b : ℕ) → Some a ≡ Some b → a ≡ b
    same a b e = cc

    fault-is : (f : EngineFault) (high : ℕ)
        → ◌≡◌ {A = Result (Unit {0}) EngineFault} (Err f) (Err (Pressed high)) → f ≡ Pressed high
    fault-is f high e = cc

    does : (b : Bool) (s : Step ℕ) → ◌≡◌ {A = Result (Unit {0}) EngineFault} (Err f)
        (if b then Err (Pressed (unwrap_or (high_of given h p) 0)) else Ok tt)
        → Does r (if b then refuses (Pressed (unwrap_or (high_of given h p) 0)) else s) h h
    does true s e = rw (was, fault-is f (unwrap_or (high_of given h p) 0) e) (refl, refl)
    does false s e = cc

    pressed-left : (rs : List Record)
        → Some first ≡ option_map (λ r. r.offset) (slice_get rs 0)
        → Does r (poll_left given h p max rs) h h
    pressed-left [] e = cc
    pressed-left (q ∷ rs) e = let at : first ≡ q.offset = same first q.offset e in
        does (is_blocked given h p && not (is_upto_high given h p q.offset)) _ (rw at at is)

module _ (given : Given) (h : List Event) (p max first : ℕ)
    (none : poll_refusal given h p ≡ None)
    (left : Some first ≡ option_map (λ r. r.offset) (slice_get (unpolled_records given h p) 0))
    (free : may_poll given h p first ≡ true) where
  poll-is : poll_step given h p max ≡ (if is_full h 1 then refuses JournalFull
      else polls p (next_records given h p max))
  poll-is = rw none (left-is (unpolled_records given h p) left)
    where
      unpressed : (a b : Bool) → (not a || b) ≡ true → (a && not b) ≡ false
      unpressed false b is = refl
      unpressed true true is = refl
      unpressed true false is = cc

      same : (a b : ℕ) → Some a ≡ Some b → a ≡ b
      same a b e = cc

      left-is : (rs : List Record) → Some first ≡ option_map (λ r. r.offset) (slice_get rs 0)
          → poll_left given h p max rs ≡ (if is_full h 1 then refuses JournalFull
          else polls p (next_records given h p max))
      left-is [] is = cc
      left-is (r ∷ rs) is = rw (unpressed (is_blocked given h p) (is_upto_high given h p r.offset)
          (subst (λ (o : ℕ). may_poll given h p o ≡ true) (same first r.offset is) free)) refl

  -- without a place it is refused
  poll-full : (r : Result ℕ EngineFault) (f : EngineFault) (h' : List Event) → r ≡ Err f
      → ◌≡◌ {A = Result (Unit {0}) EngineFault} (Err f)
      (if is_full h 1 then Err JournalFull else Ok tt) → h' ≡ h
      → Does r (poll_step given h p max) h h'
  poll-full r f h' was is same = elim (cases_Bool (is_full h 1)) [
    | inr room ↦ let out = rw room at is in cc out
    | inl full ↦ let fault = rw full at is in
        rw (was, poll-is, full, fault-is f fault) (refl, same)
  ]
    where
      fault-is : (f : EngineFault)
          → ◌≡◌ {A = Result (Unit {0}) EngineFault} (Err f) (Err JournalFull) → f ≡ JournalFull
      fault-is f e = cc

  poll-does : (count last : ℕ) (h1 h' : List Event) (u : Unit {0})
      → ◌≡◌ {A = Result (Unit {0}) EngineFault} (Ok u)
      (if is_full h 1 then Err JournalFull else Ok tt)
      → count ≡ length (next_records given h p max)
      → last ≡ last_offset (next_records given h p max) → h1 ≡ h → h' ≡ Poll p count last ∷ h1
      → (◌≡◌ {A = Result ℕ EngineFault} (Ok count) (poll_step given h p max).answer)
      × (h' ≡ (poll_step given h p max).events ++ h)
  poll-does count last h1 h' u room_left is end same after =
      rw (poll-is, not-full u (is_full h 1) room_left) (
        ap (λ (n : ℕ). Ok n) is,
        after ∙ ap (λ (k : List Event). Poll p count last ∷ k) same
            ∙ ap (λ (n : ℕ). Poll p n last ∷ h) is
            ∙ ap (λ (o : ℕ). Poll p (length (next_records given h p max)) o ∷ h) end,
      )

module _ (state : State) (h : List Event) (told : Bool) (outcomes : Outcomes) (kept : ℕ → Commit) (room : ℕ)
    (keeps : IsEngine (given_to state h told outcomes kept) kept state room h) (p max first : ℕ)
    (none : poll_refusal (given_to state h told outcomes kept) h p ≡ None) (some : 0 < max)
    (left : Some first
    ≡ option_map (λ r. r.offset) (slice_get (unpolled_records (given_to state h told outcomes kept) h p) 0))
    (free : may_poll (given_to state h told outcomes kept) h p first ≡ true) where
  abbrev given : Given
  given = given_to state h told outcomes kept

  abbrev records : List Record
  records = next_records given h p max

  some-taken : 0 < length records
  some-taken = first-taken given h p max first some (sym left) free

  may-come : is_full h 1 ≡ false → MayCome given (Poll p (length records) (last_offset records)) h
  unfolding pollable_records
  may-come room_left = record {
    legal = (
      record {
        held = (may-poll given h p none).held;
        running = (may-poll given h p none).flows;
        some = some-taken;
        last_is = last-at;
        pressed = λ blocked. pressed-at blocked;
      },
      (may-poll given h p none).runs,
      keeps.knows.legal,
    );
    limit = let fits = room-limit h 1 room_left in omega (arith, fits);
  }
    where
      last-at : option_map (λ r. r.offset)
          (slice_get (unpolled_records given h p) (length records - 1))
          ≡ Some (last_offset (next_records given h p max))
      last-at = let front = next-front given h p keeps.knows.legal max in
          let n : suc (length records - 1) ≡ length records = omega (arith, some-taken) in
          let whole : take (suc (length records - 1)) (unpolled_records given h p)
          ≡ next_records given h p max =
          ap (λ (k : ℕ). take k (unpolled_records given h p)) n ∙ sym front in
          last-front (length records - 1) (unpolled_records given h p) (ap length whole ∙ sym n)
          ∙ ap (λ (rs : List Record). Some (last_offset rs)) whole

      pressed-at : is_blocked given h p ≡ true
          → is_upto_high given h p (last_offset (next_records given h p max)) ≡ true
      pressed-at blocked = upto-when (is_blocked given h p)
          (is_upto_high given h p (last_offset (next_records given h p max))) blocked
          (last-passes (may_poll given h p)
          (λ a b. upto-falls (is_blocked given h p) (high_of given h p) a b) max
          (unpolled_records given h p)
          (let taken = first-taken given h p max first some (sym left) free in taken))

  module _ (new : State) (h1 h' : List Event) (room1 room' n m last : ℕ) (u : Unit {0})
      (room_left : ◌≡◌ {A = Result (Unit {0}) EngineFault} (Ok u)
      (if is_full h 1 then Err JournalFull else Ok tt)) (many : m ≡ length records)
      (knows : MayCome given (Poll p m last) h → Knows given (Poll p m last ∷ h) new)
      (end : last ≡ last_offset records) (same : h1 ≡ h)
      (after : h' ≡ Poll p m last ∷ h1) (count : n ≡ length (open_jobs h))
      (enough : n + 1 ≤ room1) (less : room' + 1 ≡ room1) where
    event-is : h' ≡ Poll p m last ∷ h
    event-is = after ∙ ap (λ (k : List Event). Poll p m last ∷ k) same

    known : Knows given (Poll p m last ∷ h) new
    known = knows (subst (λ (k : ℕ). MayCome given (Poll p k last) h) (sym many)
        (subst (λ (o : ℕ). MayCome given (Poll p (length records) o) h) (sym end)
        (may-come (not-full u (is_full h 1) room_left))))

    pub polled-keeps : IsEngine (given_to new h' told outcomes kept) kept new room' h'
    polled-keeps = keeps-event state new h h' told outcomes kept room room' (Poll p m last) keeps (λ q. refl) known
        (λ q. refl) (omega (arith, count, enough, less)) event-is

    pub polled-does : (◌≡◌ {A = Result ℕ EngineFault} (Ok m) (poll_step given h p max).answer)
        × (h' ≡ (poll_step given h p max).events ++ h)
    polled-does = poll-does given h p max first none left free m last h1 h' u room_left
        many end same after

    pub polled-given : given_to new h' told outcomes kept ≡ given
    polled-given = given-event state new h h' told outcomes kept (Poll p m last) (λ q. refl) known event-is
