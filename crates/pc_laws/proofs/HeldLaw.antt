-- A held part has a log. What may be stored for a part changes only while it is held, or by its
-- assignment.
use Rattle.std.proofs.Common.{◌≡◌, ℕ, zero, suc, ◌<◌, ◌==◌, true, false, List, [], ◌∷◌, length, Option, refl, ap, sym, subst, ◌∙◌, arith, inl, inr}
use Rattle.std.specs.Prelude.{is_some, slice_get}
use Rattle.std.specs.Option.{option_flatten}
use Rattle.std.proofs.lemmas.Bool.{cases_Bool, eqb-true}
use Rattle.pc_model.specs.declared.event.Event.{Event}
use Rattle.pc_model.specs.declared.event.Event.TheVariants.{Assign, Commit as Committed, CommitFailed, Revoke, Lost, Crash}
use Rattle.pc_model.specs.Record.{Record}
use Rattle.pc_model.specs.Given.{Given, has_log}
use Rattle.pc_model.specs.Epochs.{is_held}
use Rattle.pc_model.specs.Stored.{may_store}
use Rattle.pc_model.specs.Lawful.{IsLegal}
use Rattle.pc_laws.specs.Kept.{is_assign_of}
use Rattle.pc_laws.proofs.Lists.{true-not-false}
use Rattle.pc_laws.proofs.PositionLaw.{held_apart}

-- a commit of a part that is not held is one of another part
other-part : (h : List Event) (q p : ℕ) → is_held h q ≡ true → is_held h p ≡ false
    → (q == p) ≡ false
other-part h q p held unheld = elim (cases_Bool (q == p)) [
  | inl same ↦ absurd (true-not-false (is_held h p)
      (subst (λ (u : ℕ). is_held h u ≡ true) (eqb-true q p same) held) unheld)
  | inr apart ↦ apart
]

pub stored-stays : (given : Given) (v : Event) (h : List Event) (p : ℕ) → IsLegal given (v ∷ h)
    → is_held h p ≡ false → is_assign_of v p ≡ false
    → may_store given (v ∷ h) p ≡ may_store given h p
stored-stays given (Assign q epoch position text) h p legal unheld apart = rw apart refl
stored-stays given (Committed q position text size) h p legal unheld apart =
    rw (other-part h q p legal.0.held unheld) refl
stored-stays given (CommitFailed q position text size) h p legal unheld apart =
    rw (other-part h q p legal.0.held unheld) refl
stored-stays given v h p legal unheld apart = refl

-- a part that has a log is one of the parts
pub log-below : (logs : List (Option (List Record))) (p : ℕ)
    → is_some (option_flatten (slice_get logs p)) ≡ true → p < length logs
log-below [] p is = cc
log-below (log ∷ logs) zero is = omega arith
log-below (log ∷ logs) (suc p) is = let below : p < length logs = log-below logs p is in omega arith

-- a part that is held has a log
pub held-has_log : (given : Given) (h : List Event) (p : ℕ) → IsLegal given h → is_held h p ≡ true
    → has_log given p ≡ true
held-has_log given [] p legal held = cc
held-has_log given (Assign q epoch position text ∷ h) p legal held = elim (cases_Bool (q == p)) [
  | inl same ↦ ap (has_log given) (sym (eqb-true q p same)) ∙ legal.0.known
  | inr apart ↦ held-has_log given h p legal.2 (rw apart at held)
]
held-has_log given (Revoke q epoch ∷ h) p legal held =
    held-has_log given h p legal.2 (held_apart (q == p) (is_held h p) held).1
held-has_log given (Lost q epoch ∷ h) p legal held =
    held-has_log given h p legal.2 (held_apart (q == p) (is_held h p) held).1
held-has_log given (Crash ∷ h) p legal held = cc
held-has_log given (v ∷ h) p legal held = held-has_log given h p legal.2 held
