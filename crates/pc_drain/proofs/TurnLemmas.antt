-- What a control turn keeps of a run, by its action or by the result that it found.
use Rattle.std.proofs.Common.{◌≡◌, ◌∙◌, ℕ, ◌+◌, ◌≤◌, Bool, true, false, ◌&&◌, ◌||◌, inl, inr, ◌⊎◌, List, [], ◌∷◌, length, Option, Some, None, Result, Ok, Err, refl, ap, sym, subst, arith}
use Rattle.std.specs.Prelude.{nat_le}
use Rattle.std.specs.Option.{option_map_or}
use Rattle.std.proofs.lemmas.Bool.{and_from, le-leb}
use Rattle.pc_model.specs.declared.commit.SizedCommit.{SizedCommit}
use Rattle.pc_model.specs.declared.event.Event.{Event}
use Rattle.pc_model.specs.declared.event.Event.TheVariants.{Poll as Polled, Commit as Committed, CommitFailed, Tick, Drain, Done as AllDone}
use Rattle.pc_model.specs.declared.outcome.Outcome.{Outcome}
use Rattle.pc_model.specs.declared.outcome.Outcome.TheVariants.{Good, Bad}
use Rattle.pc_model.specs.declared.step.Act.TheVariants as act
use Rattle.pc_model.specs.declared.step.Step.{Step as RunStep}
use Rattle.pc_model.specs.Given.{Given}
use Rattle.pc_model.specs.Jobs.{is_draining}
use Rattle.pc_model.specs.Known.{commit_of}
use Rattle.pc_model.specs.Pace.{is_commit_paced, is_failed_result, is_revoke_of, is_time, may_commit, saves_at_rest}
use Rattle.pc_model.specs.Run.{is_at_rest, is_commit_due, is_unsaved, poll_number}
use Rattle.pc_model.specs.Steps.{may_begin, place_of}
use Rattle.pc_laws.proofs.Lists.{and-left, or-left, or-right}
use Rattle.pc_state.specs.Calls.{IsExpected}
use Rattle.pc_task.specs.Jobs.{PlainJob}
use Rattle.pc_offset_client.specs.declared.fault.ClientFault.{ClientFault}
use Rattle.pc_engine.specs.declared.engine.Committed.{Committed as Receipt}
use Rattle.pc_engine.specs.declared.fault.EngineFault.{EngineFault}
use Rattle.pc_engine.specs.declared.fault.EngineFault.TheVariants.{Client as CallFailed}
use Rattle.pc_engine.specs.Effect.{settle_event, tick_step}
use Rattle.pc_engine.specs.Stand.{DoesAlone, Stand}
use Rattle.pc_drain.specs.declared.action.Action.{Action}
use Rattle.pc_drain.specs.declared.action.Action.TheVariants.{MoveClock, Commit, Poll, BeginDrain, Save, Finish, Rest}
use Rattle.pc_drain.specs.declared.turn.Turn.{Turn}
use Rattle.pc_drain.specs.declared.turn.Turn.TheVariants.{Done}
use Rattle.pc_drain.specs.Turn.{AfterClock, Commits, Concludes, DoesAction, EndsUnsaved, Fails, SettlesFound, commit_turn, finish_turn, outcome_for, save_turn}
use Rattle.pc_drain.proofs.ActionLemmas.{IsReason}
use Rattle.pc_drain.proofs.FailingLemmas.{one-fails, result-fails}
use Rattle.pc_drain.proofs.ResultLemmas.{Grows, tick-grows}
use Rattle.pc_drain.proofs.ResultLemmas.Grows.{Same, More}
use Rattle.pc_drain.proofs.RunLemmas.{Adds, Keeps, keeps-failure, keeps-grown, keeps-more, keeps-result, keeps-same}
use Rattle.pc_drain.proofs.StepLemmas.{CommitComes, commit-comes, drain-grows, finish-comes, poll-grows, tick-dropped}
use Rattle.pc_drain.proofs.StepLemmas.CommitComes.{Failed, Stored, Unmade}

-- ---- the events of the actions

module _ (given : Given) (last : Bool) (h : List Event) (turn : Turn) where
  adds-tick : (now : ℕ) → is_time given h now ≡ true → Adds given last 0 h (Tick now) turn
  adds-tick now time = record {
    place = refl;
    follow = λ steps. refl;
    paced = λ steps used. or-left (is_time given h now) _ time;
    any = λ ends v. or-left (is_time given h now) (is_failed_result given (Tick now ∷ h) v) time;
    goes_on = λ done. refl;
    settled = omega arith;
    workers = refl;
  }

  adds-poll : (p count offset n : ℕ) → poll_number given h p ≡ Some n → nat_le count n ≡ true
      → Adds given last 0 h (Polled p count offset) turn
  adds-poll p count offset n number few = record {
    place = refl;
    follow = λ steps. refl;
    paced = λ steps used. ap (λ (o : Option ℕ). option_map_or (nat_le count) o false) number ∙ few;
    any = λ ends v. refl;
    goes_on = λ done. refl;
    settled = omega arith;
    workers = refl;
  }

  adds-drain : last ≡ true → is_at_rest given h ≡ true → Adds given last 0 h Drain turn
  adds-drain is rests = record {
    place = refl;
    follow = λ steps. refl;
    paced = λ steps used. and_from (nat_le (length steps) (place_of given h).begun)
        (is_at_rest given h) (le-leb (length steps) (place_of given h).begun (used is)) rests;
    any = λ ends v. refl;
    goes_on = λ done. refl;
    settled = omega arith;
    workers = refl;
  }

  adds-end : is_draining h ≡ true → turn ≡ Done → Adds given last 0 h AllDone turn
  adds-end drains is = record {
    place = refl;
    follow = λ steps. refl;
    paced = λ steps used. drains;
    any = λ ends v. refl;
    goes_on = λ done. absurd (done is);
    settled = omega arith;
    workers = refl;
  }

  -- a commit that is due or saves
  adds-commit : (p position : ℕ) (text : List ℕ) (size : ℕ) → is_commit_paced given h p ≡ true
      → Adds given last 0 h (Committed p position text size) turn
  adds-commit p position text size may = record {
    place = refl;
    follow = λ steps. refl;
    paced = λ steps used. or-left (is_commit_paced given h p) (may_begin given steps h (act.Revoke p))
        may;
    any = λ ends v. or-left (is_commit_paced given h p) (is_revoke_of v p) may;
    goes_on = λ done. refl;
    settled = omega arith;
    workers = refl;
  }

  -- one that failed: it was due, or no turn comes after it
  adds-failed : (p position : ℕ) (text : List ℕ) (size : ℕ) → is_commit_paced given h p ≡ true
      → ((EndsUnsaved turn → ⊥) → is_commit_due given h p ≡ true)
      → Adds given last 0 h (CommitFailed p position text size) turn
  adds-failed p position text size may due = record {
    place = refl;
    follow = λ steps. refl;
    paced = λ steps used. or-left (is_commit_paced given h p) (may_begin given steps h (act.Revoke p))
        may;
    any = λ ends v. or-left (is_commit_due given h p) (is_revoke_of v p) (due ends);
    goes_on = λ done. refl;
    settled = omega arith;
    workers = refl;
  }

  keeps-commit : (p : ℕ) (c : SizedCommit) (h' : List Event) (asked : Result (Unit {0}) ClientFault)
      (r : Result Receipt EngineFault) → is_commit_paced given h p ≡ true
      → ((failed : ClientFault) → r ≡ Err (CallFailed failed) → (EndsUnsaved turn → ⊥)
      → is_commit_due given h p ≡ true)
      → CommitComes p c h h' asked r → Keeps given last 0 h h' turn
  keeps-commit p c h' asked r may due (Unmade other same) = keeps-same given last 0 h turn h' same
  keeps-commit p c h' asked r may due (Stored other same) = keeps-more given last 0 h turn
      (Committed p c.commit.position c.commit.map c.size) h'
      (adds-commit p c.commit.position c.commit.map c.size may) same
  keeps-commit p c h' asked r may due (Failed failed is asked-is memory same) =
      keeps-more given last 0 h turn (CommitFailed p c.commit.position c.commit.map c.size) h'
      (adds-failed p c.commit.position c.commit.map c.size may (due failed is)) same

-- ---- the actions

-- a commit that was to save and failed ends the run
unsaved-end : (failed : ClientFault) (r : Result Receipt EngineFault) (turn : Turn)
    → r ≡ Err (CallFailed failed) → turn ≡ save_turn r → EndsUnsaved turn
unsaved-end failed r turn is turned = subst EndsUnsaved (sym (turned ∙ ap save_turn is)) tt

module _ (told : Bool) (given : Given) (now : ℕ) (last : Bool) (before after : Stand)
    (turn : Turn) where
  finished : (r : Result (Unit {0}) EngineFault) → turn ≡ finish_turn before.history r
      → is_draining before.history ≡ true
      → (after.history ≡ before.history) ⊎ ((r ≡ Ok tt) × (after.history ≡ AllDone ∷ before.history))
      → Keeps given last 0 before.history after.history turn
  finished r turned drains (inl same) =
      keeps-same given last 0 before.history turn after.history same
  finished r turned drains (inr ends) = keeps-more given last 0 before.history turn AllDone
      after.history (adds-end given last before.history turn drains
      (turned ∙ ap (finish_turn before.history) ends.0)) ends.1

  pub keeps-action : (a : Action) → IsReason given before.history now last a
      → DoesAction told given now a before after turn
      → Keeps given last 0 before.history after.history turn
  keeps-action MoveClock due calls = keeps-grown given last 0 before.history turn (Tick now)
      after.history (adds-tick given last before.history turn now
      (and-left (is_time given before.history now) _ due))
      (tick-grows before.history after.history now calls.answer calls.does.does)
  keeps-action (Commit p) due commits = keeps-commit given last before.history turn p
      (commit_of given before.history p) after.history commits.asked commits.answer
      (or-left (is_commit_due given before.history p) (saves_at_rest given before.history p) due)
      (λ failed is ends. due)
      (commit-comes given before.history after.history p commits.asked commits.answer commits.does)
  keeps-action (Poll p n) number calls =
      let grows = poll-grows given before.history after.history p n calls.answer calls.does.does in
      keeps-grown given last 0 before.history turn (Polled p grows.0 grows.1) after.history
      (adds-poll given last before.history turn p grows.0 grows.1 n number grows.2) grows.3
  keeps-action BeginDrain why calls = keeps-grown given last 0 before.history turn Drain
      after.history (adds-drain given last before.history turn why.0.last_is why.0.rests)
      (drain-grows before.history after.history calls.answer calls.does.does)
  keeps-action (Save p) why commits = keeps-commit given last before.history turn p
      (commit_of given before.history p) after.history commits.asked commits.answer
      (or-right (is_commit_due given before.history p) (saves_at_rest given before.history p)
      (and_from (is_draining before.history && is_at_rest given before.history)
      (is_unsaved given before.history p)
      (and_from (is_draining before.history) (is_at_rest given before.history) why.1 why.0.rests)
      why.2))
      (λ failed is ends. absurd (ends (unsaved-end failed commits.answer turn is commits.turn_is)))
      (commit-comes given before.history after.history p commits.asked commits.answer commits.does)
  keeps-action Finish why finishes = finished finishes.answer finishes.turn_is why.1
      (finish-comes given before.history after.history finishes.answer finishes.does.does)
  keeps-action Rest why rests = keeps-same given last 0 before.history turn after.history
      (ap (λ (s : Stand). s.history) rests.0)

-- ---- a result

module _ (given : Given) (now : ℕ) (last : Bool) (job : PlainJob) (before after : Stand)
    (turn : Turn) where
  concluded : (outcome : Outcome) → Concludes given job outcome before after
      → Keeps given last 1 before.history after.history turn
  concluded outcome concludes = keeps-result given last before.history turn job outcome
      after.history concludes.history

  -- the clock was moved, or stood there already
  moved : (code : ℕ) (between : Stand) → IsExpected given before.history job
      → outcome_for given job ≡ Bad code → Grows (Tick now) before.history between.history
      → Concludes given job (Bad code) between after
      → Keeps given last 1 before.history after.history turn
  moved code between expected due (Same same) concludes = keeps-result given last before.history
      turn job (Bad code) after.history
      (subst (λ (k : List Event). after.history ≡ settle_event given k job (Bad code) ∷ k) same
      concludes.history)
  moved code between expected due (More more) concludes = keeps-failure given last before.history
      turn now job code after.history (one-fails given before.history job code expected due)
      (result-fails given before.history job code expected due now)
      (subst (λ (k : List Event). after.history ≡ settle_event given k job (Bad code) ∷ k) more
      concludes.history)

  failed : (code : ℕ) (between : Stand) (r : Result Bool EngineFault)
      → IsExpected given before.history job → outcome_for given job ≡ Bad code
      → DoesAlone (tick_step before.history now) before between r
      → AfterClock given job (Bad code) between after turn r
      → Keeps given last 1 before.history after.history turn
  failed code between (Ok it) expected due clock rest = moved code between expected due
      (tick-grows before.history between.history now (Ok it) clock.does) rest.0
  failed code between (Err fault) expected due clock rest =
      keeps-same given last 1 before.history turn after.history
      (ap (λ (s : Stand). s.history) rest.0
      ∙ tick-dropped before.history between.history now fault clock.does)

  pub keeps-found : (expected : Bool) (outcome : Outcome)
      → (expected ≡ true → IsExpected given before.history job)
      → (expected ≡ true → outcome ≡ outcome_for given job)
      → SettlesFound given now expected job outcome before after turn
      → Keeps given last 1 before.history after.history turn
  keeps-found false outcome is due found = keeps-same given last 1 before.history turn
      after.history (ap (λ (s : Stand). s.history) found.0)
  keeps-found true (Good answer) is due found = concluded (Good answer) found.0
  keeps-found true (Bad code) is due found = failed code found.between found.answer (is refl)
      (sym (due refl)) found.clock found.rest
