-- What is kept of a run when a worker takes a job.
use Rattle.std.proofs.Common.{◌≡◌, ◌∙◌, ℕ, ◌+◌, ◌≤◌, ◌<◌, Bool, true, false, ◌||◌, List, [], ◌∷◌, ◌++◌, length, Option, Some, None, Result, Ok, Err, refl, ap, sym, subst, arith}
use Rattle.std.specs.Prelude.{if◌then◌else◌, IfErr, nat_le, nat_lt}
use Rattle.std.specs.List.{list_all}
use Rattle.std.specs.Option.{option_map_or}
use Rattle.std.proofs.lemmas.Bool.{and_from, leb-false, lt-ltb, ltb-true}
use Rattle.pc_model.specs.declared.event.Event.{Event}
use Rattle.pc_model.specs.declared.event.Event.TheVariants.{Dispatch}
use Rattle.pc_model.specs.declared.limits.TheConstants.{MAX_EVENTS}
use Rattle.pc_model.specs.declared.step.Step.{Step as RunStep}
use Rattle.pc_model.specs.Bound.{event_bound}
use Rattle.pc_model.specs.Broker.{Broker}
use Rattle.pc_model.specs.Epochs.{epoch_of}
use Rattle.pc_model.specs.Given.{Given, parts_of}
use Rattle.pc_model.specs.Jobs.{dispatch_count, open_jobs}
use Rattle.pc_model.specs.Lawful.{IsLegal, is_nil}
use Rattle.pc_model.specs.Next.{next_record}
use Rattle.pc_model.specs.Pace.{is_tended}
use Rattle.pc_model.specs.Retry.{failures_of}
use Rattle.pc_model.specs.Run.{is_at_rest, success_count}
use Rattle.pc_model.specs.Steps.{is_step_due, next_step}
use Rattle.pc_run_laws.specs.Run.{IsRun}
use Rattle.pc_drain.specs.Counts.{dispatch_workers, settled_count}
use Rattle.pc_task.specs.Jobs.{Outcomes, PlainJob}
use Rattle.pc_engine.specs.Engine.{EngineView, Keeps, given_of}
use Rattle.pc_engine.specs.declared.fault.EngineFault.{EngineFault}
use Rattle.pc_engine.specs.declared.fault.EngineFault.TheVariants.{Closed, JournalFull as Full, NoMemory as Forgot}
use Rattle.pc_engine.specs.Effect.{Does, Step, is_full, take_after, take_next, take_refusal, take_step}
use Rattle.pc_state.specs.Calls.{job_to_do}
use Rattle.pc_drain.proofs.RefusalLemmas.{does-refused}
use Rattle.pc_state_lock.specs.Heading.{Heading}
use Rattle.pc_pool.specs.declared.ending.Ending.{Ending}
use Rattle.pc_pool.specs.declared.ending.Ending.TheVariants.{JournalFull, NoMemory}
use Rattle.pc_pool.specs.Run.{GoesOn, IsConsuming, IsIdle, heading_by, IsTakeRefusal, is_due_at, take_ending}
use Rattle.pc_pool.proofs.KeepLemmas.{IsKeptBy, ends-with, goes-on-with, kept-after}

-- the law of the bound
abbrev pub AreBounded : Type 0
AreBounded = (given : Given) (steps : List RunStep) (h : List Event) → IsRun given steps h
    → length h + length (open_jobs h) + 2 ≤ event_bound given steps

-- where so many events more are too many, the run's steps allow more than the limit
pub full-bound : AreBounded → (given : Given) (steps : List RunStep) (h : List Event) (more : ℕ)
    → IsRun given steps h → more ≤ 2 → is_full h more ≡ true → MAX_EVENTS < event_bound given steps
full-bound law given steps h more is_run few full =
    let over = ltb-true MAX_EVENTS (length h + length (open_jobs h) + more) full in
    let bounded = law given steps h is_run in omega (arith, over, bounded, few)

-- a step that is not due waits for more successes
undue-waits : (given : Given) (h : List Event) (step : Option RunStep)
    → option_map_or (λ s. is_step_due given s h) step false ≡ false
    → option_map_or (λ s. nat_lt (success_count h) s.count) step true ≡ true
undue-waits given h None undue = refl
undue-waits given h (Some s) undue = waits (nat_le s.count (success_count h)) refl undue
  where
    waits : (b : Bool) → nat_le s.count (success_count h) ≡ b → (b || is_at_rest given h) ≡ false
        → nat_lt (success_count h) s.count ≡ true
    waits true is undue = cc
    waits false is undue = lt-ltb (success_count h) s.count
        (leb-false s.count (success_count h) is)

module _ (run : Heading) (told : Bool) (h : List Event) (store : Broker) (faults used worker : ℕ)
    (keeps : IsConsuming run told h store faults used None) (undue : is_due_at run h used ≡ false)
    (tended : list_all (is_tended run.given h) (parts_of run.given) ≡ true)
    (asked : worker < run.workers) where
  goes : GoesOn run.given h used
  goes = keeps.goes_on refl

  abbrev event : ℕ × ℕ → Event
  event next = Dispatch (dispatch_count h + 1) worker next.0 next.1 (epoch_of h next.0)
      (failures_of h next.0 next.1 + 1)

  dispatched : (next : ℕ × ℕ) → IsLegal run.given (event next ∷ h)
      → IsConsuming run told (event next ∷ h) store faults used None
  dispatched next legal = goes-on-with run told h store faults used (event next) keeps legal refl
      (ap (λ left. is_nil left) goes.whole)
      (and_from (list_all (is_tended run.given h) (parts_of run.given))
      (option_map_or (λ step. nat_lt (success_count h) step.count) (next_step run.given run.steps h) true)
      tended
      (undue-waits run.given h (next_step run.given run.steps h)
      (ap (λ (k : ℕ). is_due_at run h k) goes.begun ∙ undue)))
      (λ e. refl) goes.runs
      (and_from (nat_lt worker run.workers) (list_all (λ w. nat_lt w run.workers) (dispatch_workers h))
      (lt-ltb worker run.workers asked) keeps.workers)
      (λ refuses. refl)

  after-next : (h' : List Event) (x : Option PlainJob) (next : Option (ℕ × ℕ))
      → Does (Ok x) (take_next run.given h worker next) h h' → IsLegal run.given h'
      → IsConsuming run told h' store faults used None
  after-next h' x None does legal =
      subst (λ (k : List Event). IsConsuming run told k store faults used None) (sym does.1) keeps
  after-next h' x (Some next) does legal =
      subst (λ (k : List Event). IsConsuming run told k store faults used None) (sym does.1)
      (dispatched next (subst (λ (k : List Event). IsLegal run.given k) does.1 legal))

  after-refusal : (h' : List Event) (x : Option PlainJob) (refusal : Option EngineFault)
      → Does (Ok x) (take_after run.given h worker refusal) h h' → IsLegal run.given h'
      → IsConsuming run told h' store faults used None
  after-refusal h' x None does legal = after-next h' x (next_record run.given h) does legal
  after-refusal h' x (Some fault) does legal = let is : Ok x ≡ Err fault = does.0 in cc

  -- a job was taken, or there was none
  pub taken-keeps : (h' : List Event) (x : Option PlainJob)
      → Does (Ok x) (take_step run.given h worker) h h' → IsLegal run.given h'
      → IsConsuming run told h' store faults used None
  taken-keeps h' x does legal = after-refusal h' x (take_refusal h) does legal

  -- ---- refusals

  -- the step is a take, or refused by the limit
  data Shape (step : Step (Option PlainJob)) : Type 0 where
    Takes : (x : Option PlainJob) → step.answer ≡ Ok x → Shape step
    IsFull : step.answer ≡ Err Full → step.events ≡ [] → is_full h 2 ≡ true → Shape step

  shape-next : (next : Option (ℕ × ℕ)) → Shape (take_next run.given h worker next)
  shape-next None = Takes None refl
  shape-next (Some next) = Takes (Some (job_to_do run.given h worker next.0 next.1)) refl

  shape-full : (full : Bool) → is_full h 2 ≡ full
      → Shape (take_after run.given h worker (if full then Some Full else None))
  shape-full true is = IsFull refl refl is
  shape-full false is = shape-next (next_record run.given h)

  shape : Shape (take_step run.given h worker)
  shape = subst (λ (b : Bool). Shape (take_after run.given h worker
      (if b then Some Closed else if is_full h 2 then Some Full else None))) (sym goes.runs)
      (shape-full (is_full h 2) refl)

  -- nothing was taken, since there is no place for it
  full-keeps : AreBounded → (h' : List Event) → Does (Err Full) (take_step run.given h worker) h h'
      → IsConsuming run told h' store faults used (Some JournalFull)
  full-keeps law h' does = elim shape [
    | Takes x is ↦ let e : Err Full ≡ Ok x = does.0 ∙ is in cc
    | IsFull is none full ↦
        subst (λ (k : List Event). IsConsuming run told k store faults used (Some JournalFull))
        (sym (does.1 ∙ ap (λ (es : List Event). es ++ h) none))
        (ends-with run told h store faults used JournalFull keeps
        (full-bound law run.given run.steps h 2 keeps.is_run (omega arith) full))
  ]

  -- a take is refused for no other cause
  pub taken-refused : (r : Result (Option PlainJob) EngineFault) (h' : List Event)
      → Does r (take_step run.given h worker) h h' → IfErr r IsTakeRefusal
  taken-refused r h' does = does-refused IsTakeRefusal r (take_step run.given h worker) h h' tt
      (elim shape [
        | Takes x is ↦ subst (λ (a : Result (Option PlainJob) EngineFault). IfErr a IsTakeRefusal)
            (sym is) tt
        | IsFull is none full ↦ subst
            (λ (a : Result (Option PlainJob) EngineFault). IfErr a IsTakeRefusal) (sym is) tt
      ]) does

  -- nothing was taken, and the run ends
  pub refused-keeps : AreBounded → (fault : EngineFault) (h' : List Event)
      → Does (Err fault) (take_step run.given h worker) h h'
      → IsConsuming run told h' store faults used (Some (take_ending fault))
  refused-keeps law Full h' does = full-keeps law h' does
  refused-keeps law Forgot h' does =
      subst (λ (k : List Event). IsConsuming run told k store faults used (Some NoMemory)) (sym does)
      (ends-with run told h store faults used NoMemory keeps tt)
  refused-keeps law fault h' does = absurd (taken-refused (Err fault) h' does)

-- ---- what a take counts

counted-next : (given : Given) (h h' : List Event) (worker : ℕ) (r : Result (Option PlainJob) EngineFault)
    (next : Option (ℕ × ℕ)) → (h' ≡ (take_next given h worker next).events ++ h)
    → settled_count h' ≡ settled_count h
counted-next given h h' worker r None is = ap settled_count is
counted-next given h h' worker r (Some next) is = ap settled_count is

counted-after : (given : Given) (h h' : List Event) (worker : ℕ) (r : Result (Option PlainJob) EngineFault)
    (refusal : Option EngineFault) → (h' ≡ (take_after given h worker refusal).events ++ h)
    → settled_count h' ≡ settled_count h
counted-after given h h' worker r None is = counted-next given h h' worker r (next_record given h) is
counted-after given h h' worker r (Some fault) is = ap settled_count is

pub taken-counted : (given : Given) (h h' : List Event) (worker : ℕ)
    (r : Result (Option PlainJob) EngineFault) → Does r (take_step given h worker) h h'
    → settled_count h' ≡ settled_count h
taken-counted given h h' worker (Ok x) does =
    counted-after given h h' worker (Ok x) (take_refusal h) does.1
taken-counted given h h' worker (Err Forgot) does = ap settled_count does
taken-counted given h h' worker (Err fault) does =
    counted-after given h h' worker (Err fault) (take_refusal h) does.1

-- ---- the same of a run and its engine

module _ {L T : Type 0} (outcome_of : T → Outcomes) (told : L → Bool) (store : L → Broker)
    (faults : L → ℕ) (e e' : EngineView L T) (entry : L) (steps : List RunStep)
    (workers used worker : ℕ) (ended : Option Ending)
    (keeps : IsKeptBy outcome_of told store faults e entry steps workers used ended)
    (idle : IsIdle (heading_by outcome_of store faults e entry steps workers) e.journal.events used ended)
    (asked : worker < workers) (call : Keeps outcome_of e e')
    (legal : IsLegal (given_of outcome_of e') e'.journal.events) where
  abbrev run : Heading
  run = heading_by outcome_of store faults e entry steps workers

  abbrev now : IsConsuming run (told e.link) e.journal.events (store e.link) (faults e.link) used None
  now = subst (λ (o : Option Ending). IsConsuming run (told e.link) e.journal.events (store e.link)
      (faults e.link) used o) idle.goes_on keeps

  pub run-takes : (x : Option PlainJob)
      → Does (Ok x) (take_step (given_of outcome_of e) e.journal.events worker) e.journal.events
      e'.journal.events → IsKeptBy outcome_of told store faults e' entry steps workers used ended
  run-takes x does = kept-after outcome_of told store faults e e' entry steps workers used ended
      call.given call.link
      (subst (λ (o : Option Ending). IsConsuming run (told e.link) e'.journal.events (store e.link)
      (faults e.link) used o) (sym idle.goes_on)
      (taken-keeps run (told e.link) e.journal.events (store e.link) (faults e.link) used worker now
      idle.undue idle.tended asked e'.journal.events x does
      (subst (λ (given : Given). IsLegal given e'.journal.events) call.given legal)))

  pub run-refuses : AreBounded → (fault : EngineFault)
      → Does (Err fault) (take_step (given_of outcome_of e) e.journal.events worker) e.journal.events
      e'.journal.events
      → IsKeptBy outcome_of told store faults e' entry steps workers used (Some (take_ending fault))
  run-refuses law fault does = kept-after outcome_of told store faults e e' entry steps workers used
      (Some (take_ending fault)) call.given call.link
      (refused-keeps run (told e.link) e.journal.events (store e.link) (faults e.link) used worker now
      idle.undue idle.tended asked law fault e'.journal.events does)

  pub refusal : (r : Result (Option PlainJob) EngineFault)
      → Does r (take_step (given_of outcome_of e) e.journal.events worker) e.journal.events
      e'.journal.events → IfErr r IsTakeRefusal
  refusal r does = taken-refused run (told e.link) e.journal.events (store e.link) (faults e.link) used
      worker now idle.undue idle.tended asked r e'.journal.events does
