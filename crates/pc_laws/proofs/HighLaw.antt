-- A part that is held and blocked has a greatest complete offset.
use Rattle.std.proofs.Common.{◌≡◌, ℕ, Bool, ◌*◌, ◌<◌, ◌||◌, ◌==◌, true, List, [], ◌∷◌, Some, None, refl, ap, sym, subst, ◌∙◌, arith, inl, inr}
use Rattle.std.proofs.lemmas.Bool.{cases_Bool, eqb-true, ltb-true}
use Rattle.pc_model.specs.declared.event.Event.{Event}
use Rattle.pc_model.specs.declared.event.Event.TheVariants.{Assign, Poll, Success, Commit as Committed, CommitFailed, Revoke, Lost, Crash}
use Rattle.pc_model.specs.declared.commit.SizedCommit.{SizedCommit}
use Rattle.pc_model.specs.Record.{Record}
use Rattle.pc_model.specs.Given.{Given}
use Rattle.pc_model.specs.Jobs.{job_of}
use Rattle.pc_model.specs.Epochs.{epoch_of, is_held}
use Rattle.pc_model.specs.Stored.{passes, map_end}
use Rattle.pc_model.specs.Marks.{Mark, high_at, bits_at, complete_offsets}
use Rattle.pc_model.specs.BestMap.{is_pressed}
use Rattle.pc_model.specs.Known.{assigned_commit, begin_of, polled_count, records_from_begin, polled_records, unpolled_records, known_records, is_job_at, has_succeeded, is_complete, marks_of, high_of, commit_of}
use Rattle.pc_model.specs.Pressure.{is_blocked}
use Rattle.pc_model.specs.Lawful.{IsLegal, CommitIsLawful}
use Rattle.pc_model.proofs.SamePart.{other_part}
use Rattle.pc_model.proofs.KnownLaws.{is_blocked-same, high_of-same, polled_count-poll}
use Rattle.pc_model.specs.OneMore.{SamePart}
use Rattle.pc_laws.specs.Lists.{In}
use Rattle.pc_laws.proofs.Lists.{In-map, In-filter, or-cases, or-left, or-right, greatest_of-none}
use Rattle.pc_laws.proofs.Rising.{known_of}
use Rattle.pc_laws.proofs.Position.{known_of-more}
use Rattle.pc_laws.proofs.Passing.{option_cases, marks_by}
use Rattle.pc_laws.proofs.PositionLaw.{known_by, held_apart}
use Rattle.pc_laws.proofs.Blocked.{high_of-In}
use Rattle.pc_laws.proofs.StallLaw.{size-none}

-- ---- a complete known record

-- the part knows a record that is complete
record HasComplete (given : Given) (h : List Event) (p : ℕ) : Type 0 where
  r : Record
  known : In r (known_by given h p)
  complete : is_complete h p r.offset ≡ true

complete-high : (f : ℕ → Bool) (rs : List Record) (r : Record) → In r rs → f r.offset ≡ true
    → (g : ℕ) × (high_at (marks_by f rs) ≡ Some g)
unfolding high_at
complete-high f rs r i done = elim (option_cases (high_at (marks_by f rs))) [
  | inr high ↦ high
  | inl none ↦ absurd (greatest_of-none r.offset (complete_offsets (marks_by f rs)) none
      (In-map (λ (m : Mark). m.offset) (record { offset = r.offset; is_complete = f r.offset }) _
      (In-filter (λ (m : Mark). m.is_complete)
      (record { offset = r.offset; is_complete = f r.offset }) _
      (In-map (λ (q : Record). record { offset = q.offset; is_complete = f q.offset }) r rs i)
      done)))
]

has-high : (given : Given) (h : List Event) (p : ℕ) → HasComplete given h p
    → (g : ℕ) × (high_of given h p ≡ Some g)
unfolding marks_of known_records polled_records unpolled_records
has-high given h p has = complete-high (is_complete h p) (known_by given h p) has.r has.known
    has.complete

high-complete : (given : Given) (h : List Event) (p g : ℕ) → high_of given h p ≡ Some g
    → HasComplete given h p
high-complete given h p g is =
    let at = high_of-In given h p g is in
    record {
      r = at.0;
      known = at.1;
      complete = ap (is_complete h p) at.2 ∙ at.3;
    }

-- ---- one more event of the epoch leaves it complete

complete-poll : (given : Given) (h : List Event) (p count last : ℕ) → HasComplete given h p
    → HasComplete given (Poll p count last ∷ h) p
unfolding is_complete
complete-poll given h p count last has = record {
  r = has.r;
  known = subst (λ (n : ℕ). In has.r
      (known_of n (map_end (assigned_commit h p)) (records_from_begin given h p)))
      (sym (polled_count-poll given h p count last))
      (known_of-more (polled_count h p) count _ (records_from_begin given h p) has.r has.known);
  complete = has.complete;
}

complete-success : (given : Given) (h : List Event) (p t : ℕ) (answer : List ℕ)
    → HasComplete given h p → HasComplete given (Success t answer ∷ h) p
unfolding is_complete
complete-success given h p t answer has = record {
  r = has.r;
  known = has.known;
  complete = elim (or-cases (has_succeeded h p (epoch_of h p) has.r.offset)
      (passes (assigned_commit h p) has.r.offset) has.complete) [
        | inl succeeded ↦ or-left _ (passes (assigned_commit h p) has.r.offset)
            (or-right (is_job_at (job_of h t) p (epoch_of h p) has.r.offset)
            (has_succeeded h p (epoch_of h p) has.r.offset) succeeded)
        | inr passed ↦ or-right (is_job_at (job_of h t) p (epoch_of h p) has.r.offset
            || has_succeeded h p (epoch_of h p) has.r.offset)
            (passes (assigned_commit h p) has.r.offset) passed
      ];
}

-- ---- the commit of a part without a complete record has no size

no-high-size : (given : Given) (h : List Event) (p : ℕ) → high_of given h p ≡ None
    → (commit_of given h p).size ≡ 0
unfolding bits_at
no-high-size given h p none = size-none given.setup.settings.map_limit (begin_of h p) (marks_of given h p)
    (rw none refl)

pressed-some : (given : Given) (h : List Event) (p position size : ℕ) (text : List ℕ)
    → CommitIsLawful given h p position text size
    → is_pressed size given.setup.settings.map_limit given.setup.settings.press_percent ≡ true
    → (g : ℕ) × (high_of given h p ≡ Some g)
pressed-some given h p position size text lawful pressed =
    elim (option_cases (high_of given h p)) [
      | inr high ↦ high
      | inl none ↦
          let size_is : size ≡ 0 = sym (ap (λ (c : SizedCommit). c.size) lawful.commit_is)
          ∙ no-high-size given h p none in
          let lt : given.setup.settings.map_limit * given.setup.settings.press_percent < 0 * 100 = ltb-true _ _
          (rw size_is at pressed) in
          absurd (omega arith)
    ]

-- ---- a blocked part

-- a part that is held and blocked has a greatest complete offset
abbrev HasHigh : Given → List Event → ℕ → Type 0
HasHigh given h p = is_held h p ≡ true → is_blocked given h p ≡ true
    → (g : ℕ) × (high_of given h p ≡ Some g)

-- an event that leaves what is said of the part
same-high : (given : Given) (v : Event) (h : List Event) (p : ℕ) → SamePart given p h (v ∷ h)
    → HasHigh given h p → HasHigh given (v ∷ h) p
same-high given v h p same has held blocked =
    let high = has (sym same.held ∙ held) (sym (is_blocked-same given p h (v ∷ h) same) ∙ blocked) in
    (high.0, high_of-same given p h (v ∷ h) same ∙ high.1)

pub blocked_has_high : (given : Given) (h : List Event) (p : ℕ) → IsLegal given h
    → HasHigh given h p
unfolding marks_of known_records polled_records unpolled_records is_complete
blocked_has_high given [] p legal held blocked = cc
blocked_has_high given (Assign q epoch position text ∷ h) p legal held blocked =
    elim (cases_Bool (q == p)) [
      | inl same ↦ let nothing = rw same at blocked in cc nothing
      | inr apart ↦ same-high given (Assign q epoch position text) h p
          (other_part given p (Assign q epoch position text) h apart)
          (blocked_has_high given h p legal.2) held blocked
    ]
blocked_has_high given (Committed q position text size ∷ h) p legal held blocked =
    elim (cases_Bool (q == p)) [
      | inl same ↦
          let part : q ≡ p = eqb-true q p same in
          pressed-some given h p position size text
          (subst (λ (u : ℕ). CommitIsLawful given h u position text size) part legal.0)
          (rw same at blocked)
      | inr apart ↦ same-high given (Committed q position text size) h p
          (other_part given p (Committed q position text size) h apart)
          (blocked_has_high given h p legal.2) held blocked
    ]
blocked_has_high given (CommitFailed q position text size ∷ h) p legal held blocked =
    elim (cases_Bool (q == p)) [
      | inl same ↦
          let part : q ≡ p = eqb-true q p same in
          pressed-some given h p position size text
          (subst (λ (u : ℕ). CommitIsLawful given h u position text size) part legal.0)
          (rw same at blocked)
      | inr apart ↦ same-high given (CommitFailed q position text size) h p
          (other_part given p (CommitFailed q position text size) h apart)
          (blocked_has_high given h p legal.2) held blocked
    ]
blocked_has_high given (Poll q count last ∷ h) p legal held blocked =
    elim (cases_Bool (q == p)) [
      | inl same ↦
          let part : q ≡ p = eqb-true q p same in
          let high = blocked_has_high given h p legal.2 held blocked in
          subst (λ (u : ℕ). (g : ℕ) × (high_of given (Poll u count last ∷ h) p ≡ Some g)) (sym part)
          (has-high given (Poll p count last ∷ h) p
          (complete-poll given h p count last (high-complete given h p high.0 high.1)))
      | inr apart ↦ same-high given (Poll q count last) h p
          (other_part given p (Poll q count last) h apart)
          (blocked_has_high given h p legal.2) held blocked
    ]
blocked_has_high given (Success t answer ∷ h) p legal held blocked =
    let high = blocked_has_high given h p legal.2 held blocked in
    has-high given (Success t answer ∷ h) p
    (complete-success given h p t answer (high-complete given h p high.0 high.1))
blocked_has_high given (Revoke q epoch ∷ h) p legal held blocked =
    let at = held_apart (q == p) (is_held h p) held in
    same-high given (Revoke q epoch) h p (other_part given p (Revoke q epoch) h at.0)
    (blocked_has_high given h p legal.2) held blocked
blocked_has_high given (Lost q epoch ∷ h) p legal held blocked =
    let at = held_apart (q == p) (is_held h p) held in
    same-high given (Lost q epoch) h p (other_part given p (Lost q epoch) h at.0)
    (blocked_has_high given h p legal.2) held blocked
blocked_has_high given (Crash ∷ h) p legal held blocked = cc
blocked_has_high given (v ∷ h) p legal held blocked = blocked_has_high given h p legal.2 held blocked
