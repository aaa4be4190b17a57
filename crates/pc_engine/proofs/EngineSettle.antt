-- What an engine's type keeps after a result that it expects.
use Rattle.std.proofs.Common.{◌≡◌, ℕ, zero, suc, ◌+◌, ◌<◌, Bool, true, false, ◌&&◌, ◌==◌, List, [], ◌∷◌, length, Option, Some, None, refl, ap, sym, ◌∙◌, arith, inl, inr}
use Rattle.std.specs.Prelude.{find, if◌then◌else◌, is_none, is_some, option_map}
use Rattle.std.specs.Option.{option_or}
use Rattle.std.proofs.lemmas.Bool.{eqb-true}
use Rattle.pc_model.specs.declared.commit.Commit.{Commit}
use Rattle.pc_model.specs.declared.event.Event.{Event}
use Rattle.pc_model.specs.declared.event.Event.TheVariants.{Dispatch, Failure, Stale, Success}
use Rattle.pc_model.specs.declared.outcome.Outcome.{Outcome}
use Rattle.pc_model.specs.declared.setup.Setup.{Setup}
use Rattle.pc_model.specs.declared.setup.SetupFault.{SetupFault}
use Rattle.pc_model.specs.declared.setup.SetupField.TheVariants.{Delays}
use Rattle.pc_model.specs.Ranges.{delays_fault, number_fault, range_fault, settings_fault}
use Rattle.pc_model.specs.declared.outcome.Outcome.TheVariants.{Bad, Good}
use Rattle.pc_model.specs.Given.{Given, records_of}
use Rattle.pc_model.specs.Jobs.{Job, has_ended, is_outstanding, is_settled, job_of, jobs_of, open_jobs}
use Rattle.pc_model.specs.Lawful.{IsLegal}
use Rattle.pc_model.specs.Epochs.{epoch_of, is_current_ticket, is_held}
use Rattle.pc_model.specs.Outcomes.{ticket_attempt, ticket_outcome}
use Rattle.pc_model.specs.declared.outcome.Rules.{Rules}
use Rattle.pc_model.specs.Retry.{now_of, ready_after}
use Rattle.pc_laws.specs.Lists.{In}
use Rattle.pc_laws.proofs.JobsLaw.{job-of}
use Rattle.pc_laws.proofs.Lists.{and-left, and-right}
use Rattle.pc_laws.proofs.Passing.{option_cases}
use Rattle.pc_task.specs.declared.task.Task.{Ghosts}
use Rattle.pc_task.specs.Jobs.{Outcomes, PlainJob, due_outcome}
use Rattle.pc_state.specs.declared.jobs.OpenJob.{OpenJob}
use Rattle.pc_state.specs.declared.state.State.{State}
use Rattle.pc_state.specs.Calls.{IsExpected, kept_of}
use Rattle.pc_engine.specs.Effect.{Settles, settle_step}
use Rattle.pc_engine.specs.declared.settled.Settled.TheVariants.{Failed}
use Rattle.pc_engine.specs.Engine.{IsEngine}
use Rattle.pc_state.specs.OpenJobs.{kept_job, open_job}
use Rattle.pc_state.specs.State.{Knows, MayCome}
use Rattle.pc_engine.proofs.EngineStep.{given_to, given-event, keeps-event}
use Rattle.pc_laws.proofs.TicketLaw.{find-open_jobs, open_jobs-failure, open_jobs-stale, open_jobs-success, outstanding-find}

-- ---- a setup has a delay

first-none : (a b : Option SetupFault) → is_none (option_or a b) ≡ true
    → (is_none a ≡ true) × (is_none b ≡ true)
first-none None b is = (refl, is)
first-none (Some f) b is = cc

within-least : (n : ℕ) → is_none (range_fault Delays n) ≡ true → 0 < n
within-least zero is = cc
within-least (suc n) is = omega arith

pub delays-some : (setup : Setup) → 0 < length setup.settings.delays
unfolding settings_fault
delays-some setup =
    let rest = (first-none (number_fault setup.settings) _ setup.in_range).1 in
    let delays = (first-none (delays_fault setup.settings.delays) _ rest).0 in
    within-least (length setup.settings.delays)
    (first-none (range_fault Delays (length setup.settings.delays)) _ delays).0

-- ---- the job of an expected result

unsettled-job : (o : Option Job) (settled : Bool) (j : Job) → (if settled then None else o) ≡ Some j
    → o ≡ Some j
unsettled-job o true j is = cc
unsettled-job o false j is = is

-- the job of its ticket, as it is kept
out-job : (h : List Event) (t : ℕ) (kept : OpenJob) → option_map kept_job (open_job h t) ≡ Some kept
    → (j : Job) × (job_of h t ≡ Some j) × (kept_job j ≡ kept) × (is_outstanding h t ≡ true)
unfolding open_job
out-job h t kept out = elim (option_cases (open_job h t)) [
  | inl none ↦ let nothing = rw none at out in cc nothing
  | inr some ↦
      let is : Some (kept_job some.0) ≡ Some kept = ap (option_map kept_job) (sym some.1) ∙ out in (
        some.0,
        unsettled-job (job_of h t) (is_settled h t) some.0 (sym (find-open_jobs h t) ∙ some.1),
        cc,
        outstanding-find h t ∙ ap is_some some.1,
      )
]

module _ (given : Given) (h : List Event) (job : PlainJob)
    (expected : IsExpected given h job) where
  out : (j : Job) × (job_of h job.ticket ≡ Some j) × (kept_job j ≡ kept_of job)
      × (is_outstanding h job.ticket ≡ true)
  out = out-job h job.ticket (kept_of job) expected.out

  -- it is current where its epoch is that of its part
  ticket-current : is_current_ticket h job.ticket
      ≡ (is_held h job.part && (job.epoch == epoch_of h job.part))
  ticket-current = rw out.1
      (ap (λ (k : OpenJob). is_held h k.part && (k.epoch == epoch_of h k.part)) out.2)

  -- its outcome is the one that the function gives
  ticket-due : ticket_outcome given h job.ticket
      ≡ Some (given.outcome job.part job.entry job.attempt)
  unfolding ticket_outcome
  ticket-due = rw out.1 (ap (λ (k : OpenJob). option_map
      (λ r. given.outcome k.part r k.attempt)
      (find (λ r. r.offset == k.offset) (records_of given k.part))) out.2
      ∙ rw expected.entry refl)

-- its attempt, which is at least the first where it is current
module _ (given : Given) (h : List Event) (job : PlainJob) (expected : IsExpected given h job) where
  pub ticket-attempt : ticket_attempt h job.ticket ≡ job.attempt
  unfolding ticket_attempt
  ticket-attempt = let j = out given h job expected in
      rw j.1 (ap (λ (k : OpenJob). k.attempt) j.2)

attempts-some : (given : Given) (h : List Event) → IsLegal given h → (j : Job) → In j (jobs_of h)
    → 0 < j.attempt
attempts-some given [] legal j i = absurd i
attempts-some given (Dispatch t w p o e a ∷ h) legal j (inl same) =
    let at : j.attempt ≡ a = ap (λ (k : Job). k.attempt) same in
    omega (arith, at, legal.0.attempt_is)
attempts-some given (Dispatch t w p o e a ∷ h) legal j (inr i) = attempts-some given h legal.2 j i
attempts-some given (v ∷ h) legal j i = attempts-some given h legal.2 j i

pub attempt-some : (given : Given) (h : List Event) → IsLegal given h → (job : PlainJob)
    → IsExpected given h job → 0 < job.attempt
attempt-some given h legal job expected =
    let j = out given h job expected in
    let some = attempts-some given h legal j.0 (job-of h job.ticket j.0 j.1).0 in
    let same = ap (λ (k : OpenJob). k.attempt) j.2 in omega (arith, some, same)

-- the outcome by one function is that by another with the same outcomes
pub due-same : (mine theirs : Outcomes) (job : PlainJob) (outcome : Outcome) → theirs ≡ mine
    → outcome ≡ due_outcome theirs job → outcome ≡ due_outcome mine job
due-same mine theirs job outcome same due = due
    ∙ ap (λ (f : Outcomes). due_outcome f job) same

-- ---- its event

module _ (state new : State) (h h' : List Event) (told : Bool) (outcomes : Outcomes) (kept : ℕ → Commit) (room room' : ℕ)
    (keeps : IsEngine (given_to state h told outcomes kept) kept state room h) (job : PlainJob)
    (expected : IsExpected (given_to state h told outcomes kept) h job) (less : room' + 1 ≡ room)
    (runs : has_ended h ≡ false) where
  abbrev given : Given
  given = given_to state h told outcomes kept

  outstanding : is_outstanding h job.ticket ≡ true
  outstanding = (out given h job expected).3

  due-of : ticket_outcome given h job.ticket ≡ Some (due_outcome outcomes job)
  due-of = ticket-due given h job expected
      ∙ ap (λ (rules : Rules). Some (outcomes rules job.part job.entry job.attempt))
      (sym expected.rules)

  -- a job that is current
  module _ (current : (is_held h job.part && (job.epoch == epoch_of h job.part)) ≡ true)
      (answer : List ℕ) (outcome : Outcome) (due : outcome ≡ due_outcome outcomes job)
      (good : outcome ≡ Good answer)
      (does : (given : Given) (h : List Event) (k : OpenJob) (answer : List ℕ)
      → Knows given h state → option_map kept_job (open_job h job.ticket) ≡ Some k
      → k.part ≡ job.part → k.offset ≡ job.entry.offset → k.epoch ≡ epoch_of h job.part
      → is_held h job.part ≡ true → MayCome given (Success job.ticket answer) h
      → Knows given (Success job.ticket answer ∷ h) new)
      (after : h' ≡ Success job.ticket answer ∷ h) where
    fewer : length (open_jobs (Success job.ticket answer ∷ h)) + 1 ≡ length (open_jobs h)
    fewer = open_jobs-success given h keeps.knows.legal job.ticket outstanding answer

    may-succeed : MayCome given (Success job.ticket answer) h
    may-succeed = record {
      legal = (
        record {
          outstanding = outstanding;
          current = ticket-current given h job expected ∙ current;
          outcome = due-of
              ∙ ap (λ (x : Outcome). Some x) (sym due ∙ good);
        },
        runs,
        keeps.knows.legal,
      );
      limit = omega (arith, fewer, keeps.knows.limit);
    }

    knows-settled : Knows given (Success job.ticket answer ∷ h) new
    knows-settled = does given h (kept_of job) answer keeps.knows expected.out refl refl
        (eqb-true job.epoch (epoch_of h job.part) (and-right (is_held h job.part) _ current))
        (and-left (is_held h job.part) _ current) may-succeed

    pub settled-given : given_to new h' told outcomes kept ≡ given
    settled-given = given-event state new h h' told outcomes kept (Success job.ticket answer) (λ q. refl)
        knows-settled after

    pub settled-keeps : IsEngine (given_to new h' told outcomes kept) kept new room' h'
    settled-keeps = keeps-event state new h h' told outcomes kept room room' (Success job.ticket answer)
        keeps (λ q. refl) knows-settled (λ q. refl) (omega (arith, fewer, less, keeps.room)) after

  -- a failure of a job that is current
  module _ (current : (is_held h job.part && (job.epoch == epoch_of h job.part)) ≡ true)
      (code ready : ℕ) (outcome : Outcome) (due : outcome ≡ due_outcome outcomes job)
      (bad : outcome ≡ Bad code) (at : ready ≡ ready_after state.setup.now.settings.delays job.attempt state.clock)
      (does : (given : Given) (h : List Event) (k : OpenJob) (code : ℕ)
      → Knows given h state → option_map kept_job (open_job h job.ticket) ≡ Some k
      → k.part ≡ job.part → k.offset ≡ job.entry.offset → k.epoch ≡ epoch_of h job.part
      → is_held h job.part ≡ true → MayCome given (Failure job.ticket code ready) h
      → Knows given (Failure job.ticket code ready ∷ h) new)
      (after : h' ≡ Failure job.ticket code ready ∷ h) where
    fewer-failed : length (open_jobs (Failure job.ticket code ready ∷ h)) + 1 ≡ length (open_jobs h)
    fewer-failed = open_jobs-failure given h keeps.knows.legal job.ticket outstanding code ready

    pub failed-ready : ready ≡ ready_after given.setup.settings.delays job.attempt (now_of h)
    failed-ready = at ∙ ap (λ (n : ℕ). ready_after given.setup.settings.delays job.attempt n)
        keeps.knows.clock

    may-fail : MayCome given (Failure job.ticket code ready) h
    may-fail = record {
      legal = (
        record {
          outstanding = outstanding;
          current = ticket-current given h job expected ∙ current;
          outcome = due-of
              ∙ ap (λ (x : Outcome). Some x) (sym due ∙ bad);
          ready_is = failed-ready
              ∙ ap (λ (n : ℕ). ready_after given.setup.settings.delays n (now_of h))
              (sym (ticket-attempt given h job expected));
        },
        runs,
        keeps.knows.legal,
      );
      limit = omega (arith, fewer-failed, keeps.knows.limit);
    }

    knows-failed : Knows given (Failure job.ticket code ready ∷ h) new
    knows-failed = does given h (kept_of job) code keeps.knows expected.out refl refl
        (eqb-true job.epoch (epoch_of h job.part) (and-right (is_held h job.part) _ current))
        (and-left (is_held h job.part) _ current) may-fail

    pub failed-given : given_to new h' told outcomes kept ≡ given
    failed-given = given-event state new h h' told outcomes kept (Failure job.ticket code ready) (λ q. refl)
        knows-failed after

    pub failed-keeps : IsEngine (given_to new h' told outcomes kept) kept new room' h'
    failed-keeps = keeps-event state new h h' told outcomes kept room room' (Failure job.ticket code ready)
        keeps (λ q. refl) knows-failed (λ q. refl) (omega (arith, fewer-failed, less, keeps.room)) after

    pub failed-settles : {T : Type 0} {function : Ghosts T}
        → Settles {T = T} {task = function} (Failed ready) (settle_step given h job outcome) h h'
    failed-settles = rw (current, bad) (
      (ap (λ (n : ℕ). Failed n) failed-ready),
      after ∙ ap (λ (n : ℕ). Failure job.ticket code n ∷ h) failed-ready,
    )

  -- a job whose epoch is over
  module _ (past : (is_held h job.part && (job.epoch == epoch_of h job.part)) ≡ false)
      (does : (given : Given) (h : List Event) → Knows given h state
      → MayCome given (Stale job.ticket) h → Knows given (Stale job.ticket ∷ h) new)
      (after : h' ≡ Stale job.ticket ∷ h) where
    fewer-stale : length (open_jobs (Stale job.ticket ∷ h)) + 1 ≡ length (open_jobs h)
    fewer-stale = open_jobs-stale given h keeps.knows.legal job.ticket outstanding

    may-forget : MayCome given (Stale job.ticket) h
    may-forget = record {
      legal = (
        record {
          outstanding = outstanding;
          past = ticket-current given h job expected ∙ past;
        },
        runs,
        keeps.knows.legal,
      );
      limit = omega (arith, fewer-stale, keeps.knows.limit);
    }

    knows-stale : Knows given (Stale job.ticket ∷ h) new
    knows-stale = does given h keeps.knows may-forget

    pub stale-given : given_to new h' told outcomes kept ≡ given
    stale-given = given-event state new h h' told outcomes kept (Stale job.ticket) (λ q. refl) knows-stale
        after

    pub stale-keeps : IsEngine (given_to new h' told outcomes kept) kept new room' h'
    stale-keeps = keeps-event state new h h' told outcomes kept room room' (Stale job.ticket) keeps
        (λ q. refl) knows-stale (λ q. refl) (omega (arith, fewer-stale, less, keeps.room)) after

-- what the state asks for a success
pub asks-success : (given : Given) (h : List Event) (state : State) (job : PlainJob)
    → Knows given h state → IsExpected given h job
    → (is_held h job.part && (job.epoch == epoch_of h job.part)) ≡ true
    → (given : Given) × (h : List Event) × (k : OpenJob) × Knows given h state
    × (option_map kept_job (open_job h job.ticket) ≡ Some k) × (k.part ≡ job.part)
    × (k.offset ≡ job.entry.offset) × (k.epoch ≡ epoch_of h job.part)
    × (is_held h job.part ≡ true)
asks-success given h state job knows expected current = (
  given,
  h,
  kept_of job,
  knows,
  expected.out,
  refl,
  refl,
  eqb-true job.epoch (epoch_of h job.part) (and-right (is_held h job.part) _ current),
  and-left (is_held h job.part) _ current,
)
