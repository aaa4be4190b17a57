-- Whether a part's poll is open.
use Rattle.std.proofs.Common.{◌≡◌, ℕ, ◌-◌, min, Bool, true, false, not, ◌&&◌, cond, List, length, slice_get, Option, Some, None, refl, ap, sym, ◌∙◌, arith, inl, inr}
use Rattle.std.specs.Prelude.{nat_le, nat_lt, if◌then◌else◌, option_map}
use Rattle.std.proofs.lemmas.Bool.{cases_Bool, le-ltb, lt-ltb}
use Rattle.std.proofs.lemmas.List.{length-map}
use Rattle.pc_model.specs.declared.event.Event.{Event}
use Rattle.pc_model.specs.Record.{Record}
use Rattle.pc_model.specs.Given.{Given}
use Rattle.pc_model.specs.Jobs.{is_draining}
use Rattle.pc_model.specs.Epochs.{is_held}
use Rattle.pc_model.specs.Known.{high_of, unpolled_records}
use Rattle.pc_model.specs.Lawful.{IsLegal}
use Rattle.pc_model.specs.Pressure.{is_blocked}
use Rattle.pc_model.specs.Retry.{failures_of}
use Rattle.pc_model.specs.Run.{may_poll_next, open_records, poll_number}
use Rattle.pc_laws.proofs.HighLaw.{blocked_has_high}
use Rattle.pc_laws.proofs.Passing.{option_cases}
use Rattle.pc_shards.specs.Entries.{of_part}
use Rattle.pc_shards.specs.OpenEntries.{entry_of}
use Rattle.pc_state.specs.declared.state.State.{State}
use Rattle.pc_state.specs.State.{Knows, is_kept_back}
use Rattle.pc_state.proofs.UnfinishedLemmas.{entries-are}

-- ---- whether the next record may be polled

abbrev pub first_offset : Given → List Event → ℕ → Option ℕ
first_offset given h p = option_map (λ r. r.offset) (slice_get (unpolled_records given h p) 0)

-- as a state asks it
abbrev pub MayPoll : Given → List Event → ℕ → Bool
MayPoll given h p = is_held h p
    && may_poll_next given h p (slice_get (unpolled_records given h p) 0)

pub none-free : (given : Given) (h : List Event) (p : ℕ) → is_held h p ≡ false
    → false ≡ MayPoll given h p
none-free given h p free = rw free refl

module _ (given : Given) (h : List Event) (p : ℕ) (held : is_held h p ≡ true) where
  pub none-left : ◌≡◌ {A = Option ℕ} None (first_offset given h p) → false ≡ MayPoll given h p
  none-left none = elim (option_cases (slice_get (unpolled_records given h p) 0)) [
    | inl nothing ↦ rw (held, nothing) refl
    | inr some ↦ let out : ◌≡◌ {A = Option ℕ} None (Some some.0.offset) = rw some.1 at none in cc out
  ]

  -- the first that is left
  module _ (o : ℕ) (first : Some o ≡ first_offset given h p) where
    found : (r : Record) × (slice_get (unpolled_records given h p) 0 ≡ Some r) × (r.offset ≡ o)
    found = elim (option_cases (slice_get (unpolled_records given h p) 0)) [
      | inl nothing ↦ let out : ◌≡◌ {A = Option ℕ} (Some o) None = rw nothing at first in cc out
      | inr some ↦ let at : Some o ≡ Some some.0.offset = rw some.1 at first in
          (some.0, some.1, let same : some.0.offset ≡ o = cc in same)
    ]

    pub one-pressed : (g : ℕ) → Some g ≡ (if is_blocked given h p then high_of given h p else None)
        → nat_le o g ≡ MayPoll given h p
    one-pressed g press = elim (cases_Bool (is_blocked given h p)) [
      | inr free ↦ let out : ◌≡◌ {A = Option ℕ} (Some g) None = rw free at press in cc out
      | inl blocked ↦
          let high : high_of given h p ≡ Some g = sym (rw blocked at press) in
          rw (held, found.1, blocked, high) (ap (λ (n : ℕ). nat_le n g) (sym found.2))
    ]

    pub one-free : IsLegal given h
        → ◌≡◌ {A = Option ℕ} None (if is_blocked given h p then high_of given h p else None)
        → true ≡ MayPoll given h p
    one-free legal press = elim (cases_Bool (is_blocked given h p)) [
      | inr unblocked ↦ rw (held, found.1, unblocked) refl
      | inl blocked ↦
          let high = blocked_has_high given h p legal held blocked in
          let out : ◌≡◌ {A = Option ℕ} None (Some high.0) = rw (blocked, high.1) at press in cc out
    ]

-- ---- how many records to poll

none-open : (a b c : Bool) (n m x : ℕ) → nat_lt n m ≡ false
    → ◌≡◌ {A = Option ℕ} None (cond (a && b && c && nat_lt n m) (Some x) None)
none-open true true true n m x less = rw less refl
none-open true true false n m x less = refl
none-open true false c n m x less = refl
none-open false b c n m x less = refl

none-drains : (a b c d : Bool) (x : ℕ) → b ≡ true
    → ◌≡◌ {A = Option ℕ} None (cond (a && not b && c && d) (Some x) None)
none-drains true true c d x is = refl
none-drains true false c d x is = cc
none-drains false b c d x is = refl

none-may : (a b c d : Bool) (x : ℕ) → (a && c) ≡ false
    → ◌≡◌ {A = Option ℕ} None (cond (a && b && c && d) (Some x) None)
none-may true true true d x is = cc
none-may true true false d x is = refl
none-may true false c d x is = refl
none-may false b c d x is = refl

some-open : (a b c d : Bool) (x y : ℕ) → b ≡ false → (a && c) ≡ true → d ≡ true → x ≡ y
    → Some x ≡ cond (a && not b && c && d) (Some y) None
some-open true b true d x y running may less same = rw (running, less) (ap (λ (n : ℕ). Some n) same)
some-open true b false d x y running may less same = cc
some-open false b c d x y running may less same = cc

module _ (given : Given) (h : List Event) (s : State) (p count : ℕ) (knows : Knows given h s)
    (counted : count ≡ length (of_part s.shards p)) where
  -- of a held part there is an entry for each open record
  pub count-open : is_held h p ≡ true → count ≡ length (open_records given h p)
  count-open held = counted ∙ ap length (entries-are given h s p knows held)
      ∙ length-map (open_records given h p) (entry_of (λ r. is_kept_back given h p r.offset)
      (λ r. failures_of h p r.offset))

  pub none-room : given.setup.settings.buffer - count ≡ 0 → ◌≡◌ {A = Option ℕ} None (poll_number given h p)
  unfolding poll_number
  none-room none = elim (cases_Bool (is_held h p)) [
    | inr free ↦ rw free refl
    | inl held ↦ let is = count-open held in
        none-open (is_held h p) (not (is_draining h))
        (may_poll_next given h p (slice_get (unpolled_records given h p) 0))
        (length (open_records given h p)) given.setup.settings.buffer _
        (le-ltb (length (open_records given h p)) given.setup.settings.buffer (omega (arith, is, none)))
  ]

  pub some-room : is_draining h ≡ false → MayPoll given h p ≡ true
      → (given.setup.settings.buffer - count ≡ 0 → ⊥) → (n : ℕ)
      → n ≡ min given.setup.settings.poll_max (given.setup.settings.buffer - count)
      → Some n ≡ poll_number given h p
  unfolding poll_number
  some-room running may room n is =
      let held : is_held h p ≡ true = first (is_held h p) _ may in
      let same = count-open held in
      some-open (is_held h p) (is_draining h)
      (may_poll_next given h p (slice_get (unpolled_records given h p) 0))
      (nat_lt (length (open_records given h p)) given.setup.settings.buffer) n _ running may
      (lt-ltb (length (open_records given h p)) given.setup.settings.buffer
      (omega (arith, same, room))) (is ∙ ap (λ (k : ℕ). min given.setup.settings.poll_max (given.setup.settings.buffer - k)) same)
    where
      first : (a b : Bool) → (a && b) ≡ true → a ≡ true
      first true b is = refl
      first false b is = is

module _ (given : Given) (h : List Event) (p : ℕ) where
  pub none-draining : is_draining h ≡ true → ◌≡◌ {A = Option ℕ} None (poll_number given h p)
  unfolding poll_number
  none-draining drains = none-drains (is_held h p) (is_draining h)
      (may_poll_next given h p (slice_get (unpolled_records given h p) 0)) _ _ drains

  pub none-next : MayPoll given h p ≡ false → ◌≡◌ {A = Option ℕ} None (poll_number given h p)
  unfolding poll_number
  none-next may = none-may (is_held h p) (not (is_draining h))
      (may_poll_next given h p (slice_get (unpolled_records given h p) 0)) _ _ may
