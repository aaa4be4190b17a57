-- A part that was not assigned has its start alone in the store. So over a link that tells its store
-- its first assignment has the start.
use Rattle.std.proofs.Common.{◌≡◌, ℕ, true, false, ◌==◌, List, [], ◌∷◌, Option, Some, None, refl, sym, subst, ◌∙◌, inl, inr}
use Rattle.std.specs.Option.{option_or}
use Rattle.std.proofs.lemmas.Bool.{cases_Bool, eqb-true}
use Rattle.pc_model.specs.declared.event.Event.{Event}
use Rattle.pc_model.specs.declared.event.Event.TheVariants.{Assign, Revoke, Lost, Crash}
use Rattle.pc_model.specs.declared.commit.Commit.{Commit}
use Rattle.pc_model.specs.Given.{Given, start_of}
use Rattle.pc_model.specs.Epochs.{is_held}
use Rattle.pc_model.specs.Known.{assigned_by}
use Rattle.pc_model.specs.Lawful.{IsLawful, IsLegal}
use Rattle.pc_model.specs.Stored.{is_entry, may_store}
use Rattle.pc_laws.specs.Kept.{is_assign_of}
use Rattle.pc_laws.specs.Lists.{In}
use Rattle.pc_laws.proofs.HeldLaw.{stored-stays}
use Rattle.pc_laws.proofs.Passing.{option_cases}
use Rattle.pc_laws.proofs.PositionLaw.{held_apart}
use Rattle.pc_laws.proofs.SoundLaw.{entry-In}
use Rattle.pc_run_laws.specs.Assigned.{first_assigned}

-- ---- the first of two

or-some : (a b : Option Commit) (c : Commit) → a ≡ Some c → option_or a b ≡ Some c
or-some a b c is = rw is refl

or-none : (a b : Option Commit) → option_or a b ≡ None → (a ≡ None) × (b ≡ None)
or-none None b e = (refl, e)
or-none (Some c) b e = cc

or-first : (a b : Option Commit) (c d : Commit) → a ≡ Some d → option_or a b ≡ Some c → a ≡ Some c
or-first (Some x) b c d is e = e
or-first None b c d is e = cc

or-second : (a b : Option Commit) (c : Commit) → a ≡ None → option_or a b ≡ Some c → b ≡ Some c
or-second None b c none e = e
or-second (Some x) b c none e = cc

-- ---- a part that is held was assigned

-- after an assignment of the part there is a first one
first-now : (a b : Option Commit) (c : Commit) → b ≡ Some c → (d : Commit) × (option_or a b ≡ Some d)
first-now None b c is = (c, is)
first-now (Some d) b c is = (d, refl)

-- and after any other event it is that of before
still-first : (e : Event) (h : List Event) (p : ℕ) → (c : Commit) × (first_assigned h p ≡ Some c)
    → (c : Commit) × (first_assigned (e ∷ h) p ≡ Some c)
still-first e h p first = (first.0, or-some (first_assigned h p) (assigned_by e p) first.0 first.1)

pub held-assigned : (h : List Event) (p : ℕ) → is_held h p ≡ true
    → (c : Commit) × (first_assigned h p ≡ Some c)
held-assigned [] p held = cc
held-assigned (Assign q epoch position text ∷ h) p held = elim (cases_Bool (q == p)) [
  | inl same ↦ first-now (first_assigned h p) (assigned_by (Assign q epoch position text) p)
      (record { position = position; map = text }) (rw same refl)
  | inr apart ↦ still-first (Assign q epoch position text) h p (held-assigned h p (rw apart at held))
]
held-assigned (Revoke q epoch ∷ h) p held =
    still-first (Revoke q epoch) h p (held-assigned h p (held_apart (q == p) (is_held h p) held).1)
held-assigned (Lost q epoch ∷ h) p held =
    still-first (Lost q epoch) h p (held-assigned h p (held_apart (q == p) (is_held h p) held).1)
held-assigned (Crash ∷ h) p held = cc
held-assigned (e ∷ h) p held = still-first e h p (held-assigned h p held)

unassigned-free : (h : List Event) (p : ℕ) → first_assigned h p ≡ None → is_held h p ≡ false
unassigned-free h p none = elim (cases_Bool (is_held h p)) [
  | inr free ↦ free
  | inl held ↦
      let first = held-assigned h p held in
      let both : Some first.0 ≡ None = sym first.1 ∙ none in cc both
]

-- ---- what may be stored before the first assignment

unassigned : (e : Event) (p : ℕ) → assigned_by e p ≡ None → is_assign_of e p ≡ false
unassigned (Assign q epoch position text) p none = elim (cases_Bool (q == p)) [
  | inr apart ↦ apart
  | inl same ↦ let nothing = rw same at none in cc nothing
]
unassigned e p none = refl

pub start-alone : (given : Given) (h : List Event) (p : ℕ) → IsLegal given h
    → first_assigned h p ≡ None → may_store given h p ≡ start_of given p ∷ []
start-alone given [] p legal none = refl
start-alone given (e ∷ h) p legal none =
    let before = or-none (first_assigned h p) (assigned_by e p) none in
    stored-stays given e h p legal (unassigned-free h p before.0) (unassigned e p before.1)
    ∙ start-alone given h p legal.2 before.0

-- ---- the first assignment

some-same : (c d : Commit) → ◌≡◌ {A = Option Commit} (Some c) (Some d) → c ≡ d
some-same c d e = cc

-- an assignment has what may be stored
assigned-start : (given : Given) (e : Event) (h : List Event) (p : ℕ) (c : Commit)
    → given.is_told ≡ true → IsLawful given e h → may_store given h p ≡ start_of given p ∷ []
    → assigned_by e p ≡ Some c → c ≡ start_of given p
assigned-start given (Assign q epoch position text) h p c told lawful alone now =
    elim (cases_Bool (q == p)) [
      | inr apart ↦ let nothing = rw apart at now in cc nothing
      | inl same ↦
          let is : Some (record { position = position; map = text }) ≡ Some c = rw same at now in
          let stored : is_entry (may_store given h q) (record { position = position; map = text }) ≡ true =
          lawful.stored told in
          let entry : In (record { position = position; map = text }) (may_store given h p) =
          entry-In (may_store given h p) (record { position = position; map = text })
          (subst (λ (x : ℕ). is_entry (may_store given h x) (record { position = position; map = text }) ≡ true)
          (eqb-true q p same) stored) in
          elim (subst (λ (cs : List Commit). In (record { position = position; map = text }) cs) alone entry) [
            | inl start ↦ sym (some-same (record { position = position; map = text }) c is) ∙ start
            | inr none ↦ absurd none
          ]
    ]
assigned-start given e h p c told lawful alone now = cc

pub begins-with-start : (given : Given) (h : List Event) (p : ℕ) (c : Commit) → given.is_told ≡ true
    → IsLegal given h → first_assigned h p ≡ Some c → c ≡ start_of given p
begins-with-start given [] p c told legal first = cc
begins-with-start given (e ∷ h) p c told legal first = elim (option_cases (first_assigned h p)) [
  | inr earlier ↦ begins-with-start given h p c told legal.2
      (or-first (first_assigned h p) (assigned_by e p) c earlier.0 earlier.1 first)
  | inl none ↦ assigned-start given e h p c told legal.0 (start-alone given h p legal.2 none)
      (or-second (first_assigned h p) (assigned_by e p) c none first)
]
