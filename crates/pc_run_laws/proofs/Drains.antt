-- The end of a run: it drains once, is done once, and each part has at most one commit that saves.
use Rattle.std.proofs.Common.{◌≡◌, ℕ, suc, ◌+◌, ◌≤◌, Bool, true, false, not, ◌&&◌, ◌==◌, List, [], ◌∷◌, drop, refl, ap, sym, subst, ◌∙◌, arith, inl, inr, eq-eqb}
use Rattle.std.proofs.lemmas.Bool.{cases_Bool, eqb-true}
use Rattle.pc_model.specs.declared.event.Event.{Event}
use Rattle.pc_model.specs.declared.event.Event.TheVariants.{Assign, Poll, Dispatch, Success, Failure, Stale, Commit as Committed, CommitFailed, Revoke, Lost, Crash, Tick, Drain, Done, Closed}
use Rattle.pc_model.specs.declared.commit.SizedCommit.{SizedCommit}
use Rattle.pc_model.specs.declared.step.Act.TheVariants as act
use Rattle.pc_model.specs.declared.step.Step.{Step}
use Rattle.pc_model.specs.Given.{Given}
use Rattle.pc_model.specs.Jobs.{has_ended, is_draining, is_outstanding}
use Rattle.pc_model.specs.Epochs.{epoch_of, is_current_ticket}
use Rattle.pc_model.specs.Known.{polled_records, unpolled_records, known_records, is_complete, marks_of, position_of}
use Rattle.pc_model.specs.Marks.{commit_at, position_at}
use Rattle.pc_model.specs.Lawful.{IsLegal, CommitIsLawful, DispatchIsLawful, is_stored}
use Rattle.pc_model.specs.Run.{is_at_rest, is_commit_due, is_unsaved}
use Rattle.pc_model.specs.OneMore.{SamePart}
use Rattle.pc_model.specs.Steps.{may_begin, follows}
use Rattle.pc_model.specs.Pace.{goes_with, is_paced, is_revoke_of, saves_at_rest}
use Rattle.pc_model.proofs.SamePart.{other_part}
use Rattle.pc_model.proofs.KnownLaws.{is_stored-same}
use Rattle.pc_laws.proofs.Lists.{and-left, and-right, or-cases, true-not-false}
use Rattle.pc_laws.proofs.JobsLaw.{out-job}
use Rattle.pc_laws.proofs.OrderlyLaw.{next_record-In}
use Rattle.pc_laws.proofs.StaleLaw.{same_part-stale}
use Rattle.pc_run_laws.proofs.RestLaw.{IsAtEnd, at-end, ends-in, moves-before, moves-now, no-job, none-begins, none-eligible, not-due, paced-before, paced-with, part-rests}
use Rattle.pc_run_laws.proofs.Tally.{Test, add_if, add_if-one, never, tally}
use Rattle.pc_run_laws.proofs.Moves.{held-part}

abbrev pub drains : Test
drains Drain h = true
drains _ h = false

abbrev pub finishes : Test
finishes Done h = true
finishes _ h = false

-- a commit of the part that was not due and saves
abbrev pub saves_of : Given → ℕ → Test
saves_of given p (Committed q position text size) h =
    (q == p) && (not (is_commit_due given h p) && saves_at_rest given h p)
saves_of given p (CommitFailed q position text size) h =
    (q == p) && (not (is_commit_due given h p) && saves_at_rest given h p)
saves_of given p _ h = false

-- ---- a run is done once

pub finishes-once : (given : Given) (h : List Event) → IsLegal given h
    → tally never finishes h ≤ add_if (has_ended h) 0
finishes-once given [] legal = omega arith
finishes-once given (Done ∷ h) legal =
    let before : tally never finishes h ≤ add_if (has_ended h) 0 = finishes-once given h legal.2 in
    let none : add_if (has_ended h) 0 ≡ 0 = rw legal.1 refl in omega arith
finishes-once given (Closed ∷ h) legal =
    let before : tally never finishes h ≤ add_if (has_ended h) 0 = finishes-once given h legal.2 in
    let none : add_if (has_ended h) 0 ≡ 0 = rw legal.1 refl in omega arith
finishes-once given (v ∷ h) legal = finishes-once given h legal.2

-- ---- a crash never ends a drain

no-crash : (given : Given) (steps : List Step) (h : List Event) → IsLegal given h → follows given steps h ≡ true
    → is_paced given steps h ≡ true → may_begin given steps h act.Crash ≡ true → is_draining h ≡ false
no-crash given steps h legal follow pace may = elim (cases_Bool (is_draining h)) [
  | inr running ↦ running
  | inl draining ↦ absurd (none-begins given steps h act.Crash (at-end given steps h legal follow pace draining).used may)
]

-- a run drains once
pub drains-once : (given : Given) (steps : List Step) (h : List Event) → IsLegal given h
    → follows given steps h ≡ true → is_paced given steps h ≡ true
    → tally never drains h ≤ add_if (is_draining h) 0
drains-once given steps [] legal follow pace = omega arith
drains-once given steps (Drain ∷ h) legal follow pace =
    let before : tally never drains h ≤ add_if (is_draining h) 0 =
    drains-once given steps h legal.2 (moves-before given steps Drain h follow) (paced-before given steps Drain h pace) in
    let none : add_if (is_draining h) 0 ≡ 0 = rw legal.0 refl in omega arith
drains-once given steps (Crash ∷ h) legal follow pace =
    let before : tally never drains h ≤ add_if (is_draining h) 0 =
    drains-once given steps h legal.2 (moves-before given steps Crash h follow) (paced-before given steps Crash h pace) in
    let running : is_draining h ≡ false = no-crash given steps h legal.2 (moves-before given steps Crash h follow)
    (paced-before given steps Crash h pace) (moves-now given steps Crash h follow) in
    let none : add_if (is_draining h) 0 ≡ 0 = rw running refl in omega arith
drains-once given steps (Assign q epoch position text ∷ h) legal follow pace =
    drains-once given steps h legal.2 (moves-before given steps (Assign q epoch position text) h follow) (paced-before given steps (Assign q epoch position text) h pace)
drains-once given steps (Poll q count last ∷ h) legal follow pace =
    drains-once given steps h legal.2 (moves-before given steps (Poll q count last) h follow) (paced-before given steps (Poll q count last) h pace)
drains-once given steps (Dispatch t w q o e a ∷ h) legal follow pace =
    drains-once given steps h legal.2 (moves-before given steps (Dispatch t w q o e a) h follow) (paced-before given steps (Dispatch t w q o e a) h pace)
drains-once given steps (Success t answer ∷ h) legal follow pace =
    drains-once given steps h legal.2 (moves-before given steps (Success t answer) h follow) (paced-before given steps (Success t answer) h pace)
drains-once given steps (Failure t code ready ∷ h) legal follow pace =
    drains-once given steps h legal.2 (moves-before given steps (Failure t code ready) h follow) (paced-before given steps (Failure t code ready) h pace)
drains-once given steps (Stale t ∷ h) legal follow pace =
    drains-once given steps h legal.2 (moves-before given steps (Stale t) h follow) (paced-before given steps (Stale t) h pace)
drains-once given steps (Committed q position text size ∷ h) legal follow pace =
    drains-once given steps h legal.2 (moves-before given steps (Committed q position text size) h follow) (paced-before given steps (Committed q position text size) h pace)
drains-once given steps (CommitFailed q position text size ∷ h) legal follow pace =
    drains-once given steps h legal.2 (moves-before given steps (CommitFailed q position text size) h follow) (paced-before given steps (CommitFailed q position text size) h pace)
drains-once given steps (Revoke q epoch ∷ h) legal follow pace =
    drains-once given steps h legal.2 (moves-before given steps (Revoke q epoch) h follow) (paced-before given steps (Revoke q epoch) h pace)
drains-once given steps (Lost q epoch ∷ h) legal follow pace =
    drains-once given steps h legal.2 (moves-before given steps (Lost q epoch) h follow) (paced-before given steps (Lost q epoch) h pace)
drains-once given steps (Tick now ∷ h) legal follow pace =
    drains-once given steps h legal.2 (moves-before given steps (Tick now) h follow) (paced-before given steps (Tick now) h pace)
drains-once given steps (Done ∷ h) legal follow pace =
    drains-once given steps h legal.2 (moves-before given steps Done h follow) (paced-before given steps Done h pace)
drains-once given steps (Closed ∷ h) legal follow pace =
    drains-once given steps h legal.2 (moves-before given steps Closed h follow) (paced-before given steps Closed h pace)

-- ---- commits that save

is_unsaved-same : (given : Given) (p : ℕ) (h k : List Event) → SamePart given p h k
    → is_unsaved given k p ≡ is_unsaved given h p
is_unsaved-same given p h k same =
    rw (same.held, is_stored-same given p h k same, same.epoch, same.unstored (epoch_of h p)) refl

-- after its commit was stored the part has nothing left to save
saved : (given : Given) (h : List Event) (p position : ℕ) (text : List ℕ) (size : ℕ)
    → CommitIsLawful given h p position text size → is_unsaved given (Committed p position text size ∷ h) p ≡ false
unfolding is_stored polled_records unpolled_records known_records marks_of is_complete position_at commit_at
saved given h p position text size lawful =
    let is : position_of given h p ≡ position = ap (λ (c : SizedCommit). c.commit.position) lawful.commit_is in
    let stored : (position == position_of given h p) ≡ true = eq-eqb position (position_of given h p) (sym is) in
    rw (eq-eqb p p refl, lawful.held, stored) refl

-- whether the last event is a commit that failed
abbrev ends_in_failed : List Event → Bool
ends_in_failed (CommitFailed q position text size ∷ h) = true
ends_in_failed _ = false

-- how far the commits that save have come: one of a part that has nothing left to save, or the last
-- event, which failed
record SavesAt (given : Given) (h : List Event) (p : ℕ) : Type 0 where
  once : tally never (saves_of given p) h ≤ 1
  none : is_draining h ≡ false → tally never (saves_of given p) h ≡ 0
  saved_one : is_draining h ≡ true → ends_in_failed h ≡ false
      → tally never (saves_of given p) h + add_if (is_unsaved given h p) 0 ≤ 1

-- while the run drains nothing follows a failed commit
no-failed : (given : Given) (steps : List Step) (h : List Event) (e : Event) → IsLegal given h
    → follows given steps h ≡ true → is_paced given steps h ≡ true → is_draining h ≡ true
    → goes_with given h e ≡ true → ((q : ℕ) → is_revoke_of e q ≡ false) → ends_in_failed h ≡ false
no-failed given steps [] e legal follow pace draining goes other = refl
no-failed given steps (CommitFailed q position text size ∷ h) e legal follow pace draining goes other =
    let v : Event = CommitFailed q position text size in
    let end = at-end given steps h legal.2 (moves-before given steps v h follow) (paced-before given steps v h pace) draining in
    elim (or-cases (is_commit_due given h q) (is_revoke_of e q) goes) [
      | inl due ↦ true-not-false _ due
          (not-due given h q (part-rests given h end.rests q (held-part given h q legal.2 legal.0.held)))
      | inr revoke ↦ true-not-false _ revoke (other q)
    ]
no-failed given steps (v ∷ h) e legal follow pace draining goes other = refl

-- at rest no result comes, and nothing is dispatched
no-result : {P : Type 0} (given : Given) (h : List Event) (t : ℕ) → is_at_rest given h ≡ true
    → is_outstanding h t ≡ true → is_current_ticket h t ≡ true → P
no-result given h t rests out current =
    let job = out-job h t out current in no-job given h rests job.0 job.2 job.3

no-dispatch : {P : Type 0} (given : Given) (h : List Event) (q o t w e a : ℕ) → IsLegal given h
    → is_at_rest given h ≡ true → DispatchIsLawful given h t w q o e a → P
no-dispatch given h q o t w e a legal rests lawful =
    let next = next_record-In given h q o lawful.record_is in
    absurd (none-eligible given h q next.1.0 legal (part-rests given h rests q (held-part given h q legal next.0))
    next.1.1 next.1.3)

add_if-zero : (b : Bool) → b ≡ false → add_if b 0 ≡ 0
add_if-zero b e = rw e refl

module _ (given : Given) (steps : List Step) (e : Event) (h : List Event) (p : ℕ) (legal : IsLegal given h)
    (follow : follows given steps h ≡ true) (pace : is_paced given steps h ≡ true)
    (goes : goes_with given h e ≡ true) (other : (q : ℕ) → is_revoke_of e q ≡ false)
    (draining : is_draining (e ∷ h) ≡ is_draining h) (so_far : SavesAt given h p) where
  -- an event that is no commit of the part
  other-saves : saves_of given p e h ≡ false → (is_draining h ≡ true → SamePart given p h (e ∷ h))
      → SavesAt given (e ∷ h) p
  other-saves apart same = record {
    once = rw apart so_far.once;
    none = λ running. rw apart (so_far.none (sym draining ∙ running));
    saved_one = λ drains_now kept.
        let is : is_draining h ≡ true = sym draining ∙ drains_now in
        let before : tally never (saves_of given p) h + add_if (is_unsaved given h p) 0 ≤ 1 =
        so_far.saved_one is (no-failed given steps h e legal follow pace is goes other) in
        let unsaved : is_unsaved given (e ∷ h) p ≡ is_unsaved given h p = is_unsaved-same given p h (e ∷ h) (same is) in
        rw (apart, unsaved) before;
  }

  -- a commit of the part, stored or failed
  own-saves : (test : saves_of given p e h ≡ (not (is_commit_due given h p) && saves_at_rest given h p))
      → (ends_in_failed (e ∷ h) ≡ false → is_unsaved given (e ∷ h) p ≡ false) → SavesAt given (e ∷ h) p
  own-saves test after = elim (cases_Bool (saves_of given p e h)) [
    | inr apart ↦
        let same : tally never (saves_of given p) (e ∷ h) ≡ tally never (saves_of given p) h = rw apart refl in
        record {
          once = let le : tally never (saves_of given p) h ≤ 1 = so_far.once in rw apart le;
          none = λ running. rw apart (so_far.none (sym draining ∙ running));
          saved_one = λ drains_now kept.
              let le : tally never (saves_of given p) h ≤ 1 = so_far.once in
              let zero_of : add_if (is_unsaved given (e ∷ h) p) 0 ≡ 0 = add_if-zero _ (after kept) in
              let all : tally never (saves_of given p) (e ∷ h) + add_if (is_unsaved given (e ∷ h) p) 0 ≤ 1 = omega arith in
              all;
        }
    | inl saves ↦
        let rest : saves_at_rest given h p ≡ true = and-right (not (is_commit_due given h p)) _ (sym test ∙ saves) in
        let is : is_draining h ≡ true = and-left _ _ (and-left _ _ rest) in
        let unsaved : is_unsaved given h p ≡ true = and-right (is_draining h && is_at_rest given h) _ rest in
        let before : tally never (saves_of given p) h + add_if (is_unsaved given h p) 0 ≤ 1 =
        so_far.saved_one is (no-failed given steps h e legal follow pace is goes other) in
        let one : add_if (is_unsaved given h p) 0 ≡ 1 = rw unsaved refl in
        let more : tally never (saves_of given p) (e ∷ h) ≡ suc (tally never (saves_of given p) h) = rw saves refl in
        record {
          once = let le : tally never (saves_of given p) (e ∷ h) ≤ 1 = omega arith in le;
          none = λ running. true-not-false _ is (sym draining ∙ running);
          saved_one = λ drains_now kept.
              let zero_of : add_if (is_unsaved given (e ∷ h) p) 0 ≡ 0 = add_if-zero _ (after kept) in
              let all : tally never (saves_of given p) (e ∷ h) + add_if (is_unsaved given (e ∷ h) p) 0 ≤ 1 = omega arith in
              all;
        }
  ]

saves-at : (given : Given) (steps : List Step) (h : List Event) (p : ℕ) → IsLegal given h
    → follows given steps h ≡ true → is_paced given steps h ≡ true → SavesAt given h p
saves-at given steps [] p legal follow pace = record {
  once = omega arith;
  none = λ running. refl;
  saved_one = λ draining kept. cc;
}
saves-at given steps (Drain ∷ h) p legal follow pace =
    let so_far = saves-at given steps h p legal.2 (moves-before given steps Drain h follow) (paced-before given steps Drain h pace) in
    let none : tally never (saves_of given p) h ≡ 0 = so_far.none legal.0 in
    record {
      once = let le : tally never (saves_of given p) (Drain ∷ h) ≤ 1 = omega arith in le;
      none = λ running. cc;
      saved_one = λ draining kept.
          let one : add_if (is_unsaved given (Drain ∷ h) p) 0 ≤ 1 = add_if-one _ in
          let le : tally never (saves_of given p) (Drain ∷ h) + add_if (is_unsaved given (Drain ∷ h) p) 0 ≤ 1 = omega arith in le;
    }
saves-at given steps (Crash ∷ h) p legal follow pace =
    let so_far = saves-at given steps h p legal.2 (moves-before given steps Crash h follow) (paced-before given steps Crash h pace) in
    let running : is_draining h ≡ false = no-crash given steps h legal.2 (moves-before given steps Crash h follow)
    (paced-before given steps Crash h pace) (moves-now given steps Crash h follow) in
    let none : tally never (saves_of given p) h ≡ 0 = so_far.none running in
    record {
      once = let le : tally never (saves_of given p) (Crash ∷ h) ≤ 1 = omega arith in le;
      none = λ still. none;
      saved_one = λ draining kept. cc;
    }
saves-at given steps (Revoke q epoch ∷ h) p legal follow pace =
    let e : Event = Revoke q epoch in
    let so_far = saves-at given steps h p legal.2 (moves-before given steps e h follow) (paced-before given steps e h pace) in
    let tail = ends-in given h q legal.0.after_commit in
    elim (cases_Bool (is_draining h)) [
      | inl draining ↦
          let end = at-end given steps h legal.2 (moves-before given steps e h follow) (paced-before given steps e h pace) draining in
          absurd (none-begins given steps (drop 1 h) (act.Revoke q) (rw tail end.used) (moves-now given steps e h follow))
      | inr running ↦
          let none : tally never (saves_of given p) h ≡ 0 = so_far.none running in
          record {
            once = let le : tally never (saves_of given p) (Revoke q epoch ∷ h) ≤ 1 = omega arith in le;
            none = λ still. none;
            saved_one = λ draining kept. true-not-false _ draining running;
          }
    ]
saves-at given steps (Committed q position text size ∷ h) p legal follow pace =
    let e : Event = Committed q position text size in
    let before = moves-before given steps e h follow in
    let paced = paced-before given steps e h pace in
    let so_far = saves-at given steps h p legal.2 before paced in
    elim (cases_Bool (q == p)) [
      | inr apart ↦ other-saves given steps e h p legal.2 before paced (paced-with given steps e h pace) (λ x. refl) refl
          so_far (rw apart refl) (λ draining. other_part given p e h apart)
      | inl own ↦ own-saves given steps e h p legal.2 before paced (paced-with given steps e h pace) (λ x. refl) refl
          so_far (rw own refl) (λ kept. subst
          (λ (x : ℕ). is_unsaved given (Committed q position text size ∷ h) x ≡ false) (eqb-true q p own)
          (saved given h q position text size legal.0))
    ]
saves-at given steps (CommitFailed q position text size ∷ h) p legal follow pace =
    let e : Event = CommitFailed q position text size in
    let before = moves-before given steps e h follow in
    let paced = paced-before given steps e h pace in
    let so_far = saves-at given steps h p legal.2 before paced in
    elim (cases_Bool (q == p)) [
      | inr apart ↦ other-saves given steps e h p legal.2 before paced (paced-with given steps e h pace) (λ x. refl) refl
          so_far (rw apart refl) (λ draining. other_part given p e h apart)
      | inl own ↦ own-saves given steps e h p legal.2 before paced (paced-with given steps e h pace) (λ x. refl) refl
          so_far (rw own refl) (λ kept. cc)
    ]
saves-at given steps (Assign q epoch position text ∷ h) p legal follow pace =
    let e : Event = Assign q epoch position text in
    let before = moves-before given steps e h follow in
    let paced = paced-before given steps e h pace in
    let end : is_draining h ≡ true → IsAtEnd given steps h = λ draining. at-end given steps h legal.2 before paced draining in
    other-saves given steps e h p legal.2 before paced (paced-with given steps e h pace) (λ x. refl) refl
    (saves-at given steps h p legal.2 before paced) refl
    (λ draining. true-not-false _ draining legal.0.running)
saves-at given steps (Poll q count last ∷ h) p legal follow pace =
    let e : Event = Poll q count last in
    let before = moves-before given steps e h follow in
    let paced = paced-before given steps e h pace in
    let end : is_draining h ≡ true → IsAtEnd given steps h = λ draining. at-end given steps h legal.2 before paced draining in
    other-saves given steps e h p legal.2 before paced (paced-with given steps e h pace) (λ x. refl) refl
    (saves-at given steps h p legal.2 before paced) refl
    (λ draining. true-not-false _ draining legal.0.running)
saves-at given steps (Lost q epoch ∷ h) p legal follow pace =
    let e : Event = Lost q epoch in
    let before = moves-before given steps e h follow in
    let paced = paced-before given steps e h pace in
    let end : is_draining h ≡ true → IsAtEnd given steps h = λ draining. at-end given steps h legal.2 before paced draining in
    other-saves given steps e h p legal.2 before paced (paced-with given steps e h pace) (λ x. refl) refl
    (saves-at given steps h p legal.2 before paced) refl
    (λ draining. absurd (none-begins given steps h (act.Lose q) (end draining).used (moves-now given steps (Lost q epoch) h follow)))
saves-at given steps (Dispatch t w q o e' a ∷ h) p legal follow pace =
    let e : Event = Dispatch t w q o e' a in
    let before = moves-before given steps e h follow in
    let paced = paced-before given steps e h pace in
    let end : is_draining h ≡ true → IsAtEnd given steps h = λ draining. at-end given steps h legal.2 before paced draining in
    other-saves given steps e h p legal.2 before paced (paced-with given steps e h pace) (λ x. refl) refl
    (saves-at given steps h p legal.2 before paced) refl
    (λ draining. no-dispatch given h q o t w e' a legal.2 (end draining).rests legal.0)
saves-at given steps (Success t answer ∷ h) p legal follow pace =
    let e : Event = Success t answer in
    let before = moves-before given steps e h follow in
    let paced = paced-before given steps e h pace in
    let end : is_draining h ≡ true → IsAtEnd given steps h = λ draining. at-end given steps h legal.2 before paced draining in
    other-saves given steps e h p legal.2 before paced (paced-with given steps e h pace) (λ x. refl) refl
    (saves-at given steps h p legal.2 before paced) refl
    (λ draining. no-result given h t (end draining).rests legal.0.outstanding legal.0.current)
saves-at given steps (Failure t code ready ∷ h) p legal follow pace =
    let e : Event = Failure t code ready in
    let before = moves-before given steps e h follow in
    let paced = paced-before given steps e h pace in
    let end : is_draining h ≡ true → IsAtEnd given steps h = λ draining. at-end given steps h legal.2 before paced draining in
    other-saves given steps e h p legal.2 before paced (paced-with given steps e h pace) (λ x. refl) refl
    (saves-at given steps h p legal.2 before paced) refl
    (λ draining. no-result given h t (end draining).rests legal.0.outstanding legal.0.current)
saves-at given steps (Stale t ∷ h) p legal follow pace =
    let e : Event = Stale t in
    let before = moves-before given steps e h follow in
    let paced = paced-before given steps e h pace in
    let end : is_draining h ≡ true → IsAtEnd given steps h = λ draining. at-end given steps h legal.2 before paced draining in
    other-saves given steps e h p legal.2 before paced (paced-with given steps e h pace) (λ x. refl) refl
    (saves-at given steps h p legal.2 before paced) refl
    (λ draining. same_part-stale given h t legal p)
saves-at given steps (Tick now ∷ h) p legal follow pace =
    let e : Event = Tick now in
    let before = moves-before given steps e h follow in
    let paced = paced-before given steps e h pace in
    let end : is_draining h ≡ true → IsAtEnd given steps h = λ draining. at-end given steps h legal.2 before paced draining in
    other-saves given steps e h p legal.2 before paced (paced-with given steps e h pace) (λ x. refl) refl
    (saves-at given steps h p legal.2 before paced) refl
    (λ draining. other_part given p (Tick now) h refl)
saves-at given steps (Done ∷ h) p legal follow pace =
    let e : Event = Done in
    let before = moves-before given steps e h follow in
    let paced = paced-before given steps e h pace in
    let end : is_draining h ≡ true → IsAtEnd given steps h = λ draining. at-end given steps h legal.2 before paced draining in
    other-saves given steps e h p legal.2 before paced (paced-with given steps e h pace) (λ x. refl) refl
    (saves-at given steps h p legal.2 before paced) refl
    (λ draining. other_part given p Done h refl)
saves-at given steps (Closed ∷ h) p legal follow pace =
    let e : Event = Closed in
    let before = moves-before given steps e h follow in
    let paced = paced-before given steps e h pace in
    let end : is_draining h ≡ true → IsAtEnd given steps h = λ draining. at-end given steps h legal.2 before paced draining in
    other-saves given steps e h p legal.2 before paced (paced-with given steps e h pace) (λ x. refl) refl
    (saves-at given steps h p legal.2 before paced) refl
    (λ draining. other_part given p Closed h refl)

pub saves-once : (given : Given) (steps : List Step) (h : List Event) (p : ℕ) → IsLegal given h
    → follows given steps h ≡ true → is_paced given steps h ≡ true → tally never (saves_of given p) h ≤ 1
saves-once given steps h p legal follow pace = (saves-at given steps h p legal follow pace).once
