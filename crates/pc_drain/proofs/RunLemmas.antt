-- What the events of a control turn keep of a run by its steps.
use Rattle.std.proofs.Common.{◌≡◌, ◌∙◌, ℕ, ◌+◌, ◌≤◌, Bool, true, false, ◌&&◌, ◌||◌, ◌==◌, List, [], ◌∷◌, length, inl, inr, refl, ap, sym, subst, arith}
use Rattle.std.specs.Prelude.{if◌then◌else◌}
use Rattle.std.specs.List.{list_any}
use Rattle.std.proofs.lemmas.Bool.{and_from, cases_Bool}
use Rattle.pc_model.specs.declared.event.Event.{Event}
use Rattle.pc_model.specs.declared.event.Event.TheVariants.{Tick}
use Rattle.pc_model.specs.declared.outcome.Outcome.{Outcome}
use Rattle.pc_model.specs.declared.outcome.Outcome.TheVariants.{Good, Bad}
use Rattle.pc_model.specs.declared.step.Step.{Step as RunStep}
use Rattle.pc_model.specs.Given.{Given}
use Rattle.pc_model.specs.Jobs.{has_ended, is_end, open_jobs}
use Rattle.pc_model.specs.Epochs.{epoch_of, is_held}
use Rattle.pc_model.specs.Lawful.{is_nil}
use Rattle.pc_model.specs.Outcomes.{job_outcome}
use Rattle.pc_model.specs.Pace.{goes_with, is_failed_result, is_failing, is_paced, is_paced_at, is_time}
use Rattle.pc_model.specs.Steps.{follows, follows_at, place_of}
use Rattle.pc_laws.proofs.Lists.{or-right}
use Rattle.pc_run_laws.specs.Run.{AnyMayCome}
use Rattle.pc_task.specs.Jobs.{PlainJob}
use Rattle.pc_engine.specs.Effect.{settle_event, settled_event}
use Rattle.pc_drain.specs.declared.turn.Turn.{Turn}
use Rattle.pc_drain.specs.declared.turn.Turn.TheVariants.{Done}
use Rattle.pc_drain.specs.Counts.{dispatch_workers, settled_count}
use Rattle.pc_drain.specs.Turn.{EndsUnsaved}
use Rattle.pc_drain.proofs.ResultLemmas.{Grows}
use Rattle.pc_drain.proofs.ResultLemmas.Grows.{Same, More}

-- ---- what is kept

-- What a turn keeps, which settles at most so many results. Of the steps it uses that they are used
-- up where it was told so.
pub record Keeps (given : Given) (last : Bool) (more : ℕ) (h h' : List Event) (turn : Turn)
    : Type 0 where
  pub place : place_of given h' ≡ place_of given h
  pub follow : (steps : List RunStep) → (place_of given h).left ≡ []
      → follows given steps h ≡ true → follows given steps h' ≡ true
  pub paced : (steps : List RunStep) → (last ≡ true → length steps ≤ (place_of given h).begun)
      → AnyMayCome given h → is_paced given steps h ≡ true → is_paced given steps h' ≡ true
  pub any : AnyMayCome given h → (EndsUnsaved turn → ⊥) → AnyMayCome given h'
  pub goes_on : has_ended h ≡ false → (turn ≡ Done → ⊥) → has_ended h' ≡ false
  pub settled : settled_count h' ≤ settled_count h + more
  pub workers : dispatch_workers h' ≡ dispatch_workers h

-- an event of a turn: it moves no part, and keeps to the pace
pub record Adds (given : Given) (last : Bool) (more : ℕ) (h : List Event) (e : Event) (turn : Turn)
    : Type 0 where
  pub place : place_of given (e ∷ h) ≡ place_of given h
  pub follow : (steps : List RunStep)
      → follows_at given steps e h ≡ is_nil (place_of given h).left
  pub paced : (steps : List RunStep) → (last ≡ true → length steps ≤ (place_of given h).begun)
      → is_paced_at given steps e h ≡ true
  pub any : (EndsUnsaved turn → ⊥) → (v : Event) → goes_with given (e ∷ h) v ≡ true
  pub goes_on : (turn ≡ Done → ⊥) → is_end e ≡ false
  pub settled : settled_count (e ∷ h) ≤ settled_count h + more
  pub workers : dispatch_workers (e ∷ h) ≡ dispatch_workers h

module _ (given : Given) (last : Bool) (more : ℕ) (h : List Event) (turn : Turn) where
  keeps-none : Keeps given last more h h turn
  keeps-none = record {
    place = refl;
    follow = λ steps none goes. goes;
    paced = λ steps used any paced. paced;
    any = λ any ends. any;
    goes_on = λ runs done. runs;
    settled = omega arith;
    workers = refl;
  }

  keeps-one : (e : Event) → Adds given last more h e turn → Keeps given last more h (e ∷ h) turn
  keeps-one e adds = record {
    place = adds.place;
    follow = λ steps none goes. and_from (follows_at given steps e h) (follows given steps h)
        (adds.follow steps ∙ ap (λ (left : List ℕ). is_nil left) none) goes;
    paced = λ steps used any paced. and_from (is_paced_at given steps e h)
        (goes_with given h e && is_paced given steps h) (adds.paced steps used)
        (and_from (goes_with given h e) (is_paced given steps h) (any e) paced);
    any = λ any ends. adds.any ends;
    goes_on = λ runs done. rw (adds.goes_on done) runs;
    settled = adds.settled;
    workers = adds.workers;
  }

  pub keeps-same : (h' : List Event) → h' ≡ h → Keeps given last more h h' turn
  keeps-same h' same =
      subst (λ (k : List Event). Keeps given last more h k turn) (sym same) keeps-none

  pub keeps-more : (e : Event) (h' : List Event) → Adds given last more h e turn → h' ≡ e ∷ h
      → Keeps given last more h h' turn
  keeps-more e h' adds same = subst (λ (k : List Event). Keeps given last more h k turn) (sym same)
      (keeps-one e adds)

  pub keeps-grown : (e : Event) (h' : List Event) → Adds given last more h e turn → Grows e h h'
      → Keeps given last more h h' turn
  keeps-grown e h' adds (Same same) = keeps-same h' same
  keeps-grown e h' adds (More same) = keeps-more e h' adds same

-- ---- a result

-- an event that settles a result
record IsResult (given : Given) (h : List Event) (v : Event) : Type 0 where
  place : place_of given (v ∷ h) ≡ place_of given h
  follow : (steps : List RunStep) → follows_at given steps v h ≡ is_nil (place_of given h).left
  paced : (steps : List RunStep) → is_paced_at given steps v h ≡ true
  any : (e : Event) → goes_with given (v ∷ h) e ≡ true
  goes_on : is_end v ≡ false
  settled : settled_count (v ∷ h) ≡ settled_count h + 1
  workers : dispatch_workers (v ∷ h) ≡ dispatch_workers h

result-of : (given : Given) (h : List Event) (job : PlainJob) (outcome : Outcome)
    → IsResult given h (settle_event given h job outcome)
result-of given h job outcome =
    elim (cases_Bool (is_held h job.part && (job.epoch == epoch_of h job.part))) [
      | inl current ↦ rw current (by-outcome outcome)
      | inr past ↦ rw past (record {
        place = refl;
        follow = λ steps. refl;
        paced = λ steps. refl;
        any = λ e. refl;
        goes_on = refl;
        settled = refl;
        workers = refl;
      })
    ]
  where
    by-outcome : (due : Outcome) → IsResult given h (settled_event given h job due)
    by-outcome (Good answer) = record {
      place = refl;
      follow = λ steps. refl;
      paced = λ steps. refl;
      any = λ e. refl;
      goes_on = refl;
      settled = refl;
      workers = refl;
    }
    by-outcome (Bad code) = record {
      place = refl;
      follow = λ steps. refl;
      paced = λ steps. refl;
      any = λ e. refl;
      goes_on = refl;
      settled = refl;
      workers = refl;
    }

module _ (given : Given) (last : Bool) (h : List Event) (turn : Turn) where
  adds-result : (v : Event) → IsResult given h v → Adds given last 1 h v turn
  adds-result v is = record {
    place = is.place;
    follow = is.follow;
    paced = λ steps used. is.paced steps;
    any = λ ends. is.any;
    goes_on = λ done. is.goes_on;
    settled = let one : settled_count (v ∷ h) ≡ settled_count h + 1 = is.settled in omega (arith, one);
    workers = is.workers;
  }

  -- a result alone
  pub keeps-result : (job : PlainJob) (outcome : Outcome) (h' : List Event)
      → h' ≡ settle_event given h job outcome ∷ h → Keeps given last 1 h h' turn
  keeps-result job outcome h' same = keeps-more given last 1 h turn
      (settle_event given h job outcome) h'
      (adds-result (settle_event given h job outcome) (result-of given h job outcome)) same

  -- that of a failure after a tick
  module _ (now : ℕ) (v : Event) (is : IsResult given (Tick now ∷ h) v)
      (failing : list_any (λ j. is_failing (job_outcome given j)) (open_jobs h) ≡ true)
      (failed : is_failed_result given (Tick now ∷ h) v ≡ true) where
    keeps-two : Keeps given last 1 h (v ∷ Tick now ∷ h) turn
    keeps-two = record {
      place = is.place;
      follow = λ steps none goes. and_from (follows_at given steps v (Tick now ∷ h))
          (follows given steps (Tick now ∷ h))
          (is.follow steps ∙ ap (λ (left : List ℕ). is_nil left) none)
          (and_from (is_nil (place_of given h).left) (follows given steps h)
          (ap (λ (left : List ℕ). is_nil left) none) goes);
      paced = λ steps used any paced. and_from (is_paced_at given steps v (Tick now ∷ h))
          (goes_with given (Tick now ∷ h) v && is_paced given steps (Tick now ∷ h))
          (is.paced steps)
          (and_from (goes_with given (Tick now ∷ h) v) (is_paced given steps (Tick now ∷ h))
          (or-right (is_time given h now) (is_failed_result given (Tick now ∷ h) v) failed)
          (and_from (is_paced_at given steps (Tick now) h)
          (goes_with given h (Tick now) && is_paced given steps h)
          (or-right (is_time given h now)
          (list_any (λ j. is_failing (job_outcome given j)) (open_jobs h)) failing)
          (and_from (goes_with given h (Tick now)) (is_paced given steps h) (any (Tick now))
          paced)));
      any = λ any ends. is.any;
      goes_on = λ runs done. rw is.goes_on runs;
      settled = let one : settled_count (v ∷ Tick now ∷ h) ≡ settled_count h + 1 = is.settled in
          omega (arith, one);
      workers = is.workers;
    }

  pub keeps-failure : (now : ℕ) (job : PlainJob) (code : ℕ) (h' : List Event)
      → list_any (λ j. is_failing (job_outcome given j)) (open_jobs h) ≡ true
      → is_failed_result given (Tick now ∷ h) (settle_event given (Tick now ∷ h) job (Bad code)) ≡ true
      → h' ≡ settle_event given (Tick now ∷ h) job (Bad code) ∷ Tick now ∷ h
      → Keeps given last 1 h h' turn
  keeps-failure now job code h' failing failed same =
      subst (λ (k : List Event). Keeps given last 1 h k turn) (sym same)
      (keeps-two now (settle_event given (Tick now ∷ h) job (Bad code))
      (result-of given (Tick now ∷ h) job (Bad code)) failing failed)
