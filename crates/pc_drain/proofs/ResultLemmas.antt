-- What becomes of a result.
use Rattle.std.proofs.Common.{◌≡◌, ◌∙◌, ℕ, Bool, true, false, List, [], ◌∷◌, ◌++◌, Option, Some, None, Result, Ok, Err, refl, ap, sym, subst}
use Rattle.std.specs.Prelude.{if◌then◌else◌, nat_le}
use Rattle.pc_model.specs.declared.event.Event.{Event}
use Rattle.pc_model.specs.declared.event.Event.TheVariants.{Tick}
use Rattle.pc_model.specs.declared.outcome.Outcome.{Outcome}
use Rattle.pc_model.specs.declared.outcome.Outcome.TheVariants.{Bad}
use Rattle.pc_model.specs.declared.outcome.Rules.{Rules}
use Rattle.pc_model.specs.Broker.{Broker}
use Rattle.pc_model.specs.Given.{Given}
use Rattle.pc_model.specs.Retry.{now_of}
use Rattle.pc_state.specs.Calls.{IsExpected}
use Rattle.pc_state.specs.OpenJobs.{open_job}
use Rattle.pc_task.specs.declared.finished.Finished.{Finished}
use Rattle.pc_task.specs.declared.task.Task.{Ghosts}
use Rattle.pc_task.specs.Jobs.{Outcomes, PlainJob, due_outcome}
use Rattle.pc_task.specs.Results.{finished_job}
use Rattle.pc_engine.specs.declared.fault.EngineFault.{EngineFault}
use Rattle.pc_engine.specs.declared.fault.EngineFault.TheVariants.{NoMemory}
use Rattle.pc_engine.specs.Effect.{Step, Does, tick_after, tick_refusal, tick_step}
use Rattle.pc_engine.specs.Engine.{EngineView, Expects, Keeps, given_of}
use Rattle.pc_engine.specs.Stand.{DoesAlone, Stand, stand_of}
use Rattle.pc_drain.specs.declared.turn.Turn.TheVariants.{Went}
use Rattle.pc_drain.specs.Turn.{Concludes, Fails, refused_turn}

-- ---- the engine's calls

module _ {L T : Type 0} (store : L → Broker) (faults : L → ℕ) (outcome : T → Outcomes)
    (old new : EngineView L T) where
  -- a call that asks nothing
  pub alone-of : {A : Type 0} (step : Step A) (r : Result A EngineFault)
      → Does r step old.journal.events new.journal.events → Keeps outcome old new
      → DoesAlone step (stand_of store faults old) (stand_of store faults new) r
  alone-of step r does keeps = record {
    does = does;
    store = ap store keeps.link;
    faults = ap faults keeps.link;
  }

-- what is said of the given and the outcome stays so where they do
concludes-over : (given given' : Given) (job : PlainJob) (due : Outcome) (code : ℕ) (a b : Stand)
    → given' ≡ given → due ≡ Bad code → Concludes given' job due a b
    → Concludes given job (Bad code) a b
concludes-over given given' job due code a b same bad concludes =
    subst (λ (x : Given). Concludes x job (Bad code) a b) same
    (subst (λ (x : Outcome). Concludes given' job x a b) bad concludes)

-- ---- the clock

-- a step that adds nothing or this event
pub data IsOf {A : Type 0} (e : Event) (step : Step A) : Type 0 where
  Nothing : step.events ≡ [] → IsOf e step
  This : step.events ≡ e ∷ [] → IsOf e step

-- a history with nothing more, or with this event
pub data Grows (e : Event) (h h' : List Event) : Type 0 where
  Same : h' ≡ h → Grows e h h'
  More : h' ≡ e ∷ h → Grows e h h'

pub grows-of : {A : Type 0} (e : Event) (step : Step A) (r : Result A EngineFault) (h h' : List Event)
    → IsOf e step → Does r step h h' → Grows e h h'
grows-of e step (Err NoMemory) h h' is does = Same does
grows-of e step (Ok it) h h' (Nothing none) does =
    Same (does.1 ∙ ap (λ (es : List Event). es ++ h) none)
grows-of e step (Ok it) h h' (This one) does =
    More (does.1 ∙ ap (λ (es : List Event). es ++ h) one)
grows-of e step (Err fault) h h' (Nothing none) does =
    Same (does.1 ∙ ap (λ (es : List Event). es ++ h) none)
grows-of e step (Err fault) h h' (This one) does =
    More (does.1 ∙ ap (λ (es : List Event). es ++ h) one)

tick-by : (h : List Event) (now : ℕ) (b : Bool) → IsOf (Tick now)
    (if b then record { answer = Ok false; events = [] }
    else record { answer = Ok true; events = Tick now ∷ [] })
tick-by h now true = Nothing refl
tick-by h now false = This refl

tick-of : (h : List Event) (now : ℕ) (x : Option EngineFault) → IsOf (Tick now) (tick_after h now x)
tick-of h now (Some fault) = Nothing refl
tick-of h now None = tick-by h now (nat_le now (now_of h))

pub tick-grows : (h h' : List Event) (now : ℕ) (r : Result Bool EngineFault)
    → Does r (tick_step h now) h h' → Grows (Tick now) h h'
tick-grows h h' now r does =
    grows-of (Tick now) (tick_step h now) r h h' (tick-of h now (tick_refusal h now)) does

-- a result that is expected is so after a tick too
tick-expected : (given : Given) (h : List Event) (now : ℕ) (job : PlainJob)
    → IsExpected given h job → IsExpected given (Tick now ∷ h) job
unfolding open_job
tick-expected given h now job is = record { out = is.out; entry = is.entry; rules = is.rules }

grown-expected : (given : Given) (h h' : List Event) (now : ℕ) (job : PlainJob)
    → Grows (Tick now) h h' → IsExpected given h job → IsExpected given h' job
grown-expected given h h' now job (Same same) is =
    subst (λ (k : List Event). IsExpected given k job) (sym same) is
grown-expected given h h' now job (More more) is =
    subst (λ (k : List Event). IsExpected given k job) (sym more)
    (tick-expected given h now job is)

pub still-expects : {L T : Type 0} {function : Ghosts T} (outcome : T → Outcomes)
    (same : T → T → Bool) (old new : EngineView L T) (done : Finished T function) (now : ℕ)
    (r : Result Bool EngineFault) → Does r (tick_step old.journal.events now) old.journal.events
    new.journal.events → Keeps outcome old new → Expects outcome same old done
    → Expects outcome same new done
still-expects outcome same old new done now r does keeps is = record {
  job = subst (λ (given : Given). IsExpected given new.journal.events (finished_job done))
      (sym keeps.given) (grown-expected (given_of outcome old) old.journal.events
      new.journal.events now (finished_job done)
      (tick-grows old.journal.events new.journal.events now r does) is.job);
  task = ap (same done.task.now) keeps.task ∙ is.task;
}

-- ---- a failure

module _ {L T : Type 0} (store : L → Broker) (faults : L → ℕ) (outcome : T → Outcomes)
    (old new last : EngineView L T) (now : ℕ) (job : PlainJob) (code : ℕ) where
  pub fails-settled : (moved : Bool) (due : Outcome) → due ≡ Bad code
      → Does (Ok moved) (tick_step old.journal.events now) old.journal.events new.journal.events
      → Keeps outcome old new → Concludes (given_of outcome new) job due
      (stand_of store faults new) (stand_of store faults last)
      → Fails (given_of outcome old) now job code (stand_of store faults old)
      (stand_of store faults last) Went
  fails-settled moved due bad does keeps concludes = record {
    between = stand_of store faults new;
    answer = Ok moved;
    clock = alone-of store faults outcome old new (tick_step old.journal.events now) (Ok moved) does
        keeps;
    rest = (
      concludes-over (given_of outcome old) (given_of outcome new) job due code
          (stand_of store faults new) (stand_of store faults last) keeps.given bad concludes,
      refl,
    );
  }

  pub fails-dropped : (fault : EngineFault)
      → Does (Err fault) (tick_step old.journal.events now) old.journal.events new.journal.events
      → Keeps outcome old new
      → Fails (given_of outcome old) now job code (stand_of store faults old)
      (stand_of store faults new) (refused_turn fault)
  fails-dropped fault does keeps = record {
    between = stand_of store faults new;
    answer = Err fault;
    clock = alone-of store faults outcome old new (tick_step old.journal.events now) (Err fault) does
        keeps;
    rest = (refl, refl);
  }

-- ---- what is taken

-- the outcome by one function is that by another with the same outcomes
pub due-outcome : (mine theirs : Outcomes) (rules : Rules) (job : PlainJob) (outcome : Outcome)
    → theirs ≡ mine → job.rules ≡ rules → outcome ≡ due_outcome theirs job
    → outcome ≡ mine rules job.part job.entry job.attempt
due-outcome mine theirs rules job outcome same same-rules due = due
    ∙ ap (λ (f : Outcomes). due_outcome f job) same
    ∙ ap (λ (r : Rules). mine r job.part job.entry job.attempt) same-rules
