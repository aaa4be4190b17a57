-- The jobs in hand after one more event: the engine expects the result of each of them.
use Rattle.std.proofs.Common.{◌≡◌, ◌≤◌, ◌<◌, ◌+◌, inl, inr, ℕ, Bool, true, false, not, ◌&&◌, ◌||◌, ◌==◌, cond, List, [], ◌∷◌, ◌++◌, length, Option, Some, None, Result, Ok, Err, refl, ap, sym, subst, ◌∙◌, arith}
use Rattle.std.specs.Prelude.{nat_le, option_map}
use Rattle.std.specs.List.{AllByRecursion}
use Rattle.std.specs.Option.{unwrap_or}
use Rattle.std.proofs.lemmas.Bool.{cases_Bool, cases_lt, eqb-true, ne_eqb}
use Rattle.pc_model.specs.declared.commit.Commit.{Commit as StoredCommit}
use Rattle.pc_model.specs.declared.event.Event.{Event}
use Rattle.pc_model.specs.declared.event.Event.TheVariants.{Closed, Dispatch, Done, Drain}
use Rattle.pc_model.specs.declared.map_fault.MapFault.{MapFault}
use Rattle.pc_model.specs.declared.outcome.Outcome.{Outcome}
use Rattle.pc_model.specs.declared.outcome.Outcome.TheVariants.{Good, Bad}
use Rattle.pc_model.specs.Record.{Record}
use Rattle.pc_model.specs.Given.{Given, record_at, records_of}
use Rattle.pc_model.specs.Epochs.{epoch_of, is_held}
use Rattle.pc_model.specs.Jobs.{Job, dispatch_count, has_ended, is_settled, jobs_of, settles}
use Rattle.pc_model.specs.Known.{unpolled_records}
use Rattle.pc_model.specs.Next.{next_record}
use Rattle.pc_model.specs.Pressure.{is_blocked, is_upto_high}
use Rattle.pc_model.specs.Retry.{failures_of, now_of}
use Rattle.pc_model.proofs.ListLemmas.{same_number}
use Rattle.pc_laws.proofs.Lists.{In-find}
use Rattle.pc_laws.proofs.OrderlyLaw.{polled-record}
use Rattle.pc_offset_client.specs.declared.fault.ClientFault.{ClientFault}
use Rattle.pc_offset_client.specs.declared.fault.ClientFault.TheVariants as client
use Rattle.pc_model.specs.Outcomes.{outcome_of}
use Rattle.pc_task.specs.declared.task.RuleTask.{RuleTask}
use Rattle.pc_task.specs.Jobs.{PlainJob, plain_job, due_outcome}
use Rattle.pc_task.specs.declared.job.Job.{Job as TaskJob}
use Rattle.pc_engine.specs.declared.fault.EngineFault.{EngineFault}
use Rattle.pc_state.specs.declared.jobs.OpenJob.{OpenJob}
use Rattle.pc_state.specs.Calls.{IsExpected, job_to_do, no_record}
use Rattle.pc_engine.specs.Effect.{assign_after, assign_refusal, assign_step, assign_with, commit_after, commit_refusal, commit_step, crash_after, crash_refusal, crash_step, tick_after, tick_refusal, tick_step, lose_after, lose_refusal, lose_step, revoke_after, revoke_refusal, revoke_step, is_full, poll_after, poll_left, poll_refusal, poll_step, settled_event, settle_event, take_after, take_next, take_refusal, take_step}
use Rattle.pc_engine.specs.Ending.{adds_after, close_step, drain_refusal, drain_step, finish_refusal, finish_step}
use Rattle.pc_state.specs.OpenJobs.{kept_job, open_job}
use Rattle.pc_state.proofs.DispatchLemmas.{next-open}
use Rattle.pc_state.proofs.OpenJobsLemmas.{open_job-dispatch, open_job-settled}
use Rattle.pc_laws.proofs.JobsLaw.{find-some}
use Rattle.pc_play.specs.Hand.{IsFresh, job_with, without}
use Rattle.pc_play.specs.Play.{end_job, hand_after}

-- ---- lists of jobs

-- without the jobs of a ticket none has it, and every other ticket has the one that it had
pub job_with-without : (t u : ℕ) (jobs : List PlainJob)
    → job_with u (without t jobs) ≡ cond (t == u) None (job_with u jobs)
job_with-without t u [] = elim (t == u) as (λ b. ◌≡◌ {A = Option PlainJob} None (cond b None None)) [ true ↦ refl | false ↦ refl ]
job_with-without t u (j ∷ jobs) = elim (cases_Bool (j.ticket == t)) [
  | inl same ↦ let is : j.ticket ≡ t = eqb-true j.ticket t same in
      rw (same, job_with-without t u jobs) (own t u j jobs is)
  | inr apart ↦ rw (apart, job_with-without t u jobs) (other t u j jobs apart)
]
  where
    own : (t u : ℕ) (j : PlainJob) (jobs : List PlainJob) → j.ticket ≡ t
        → cond (t == u) None (job_with u jobs)
        ≡ cond (t == u) None (cond (j.ticket == u) (Some j) (job_with u jobs))
    own t u j jobs is = elim (cases_Bool (t == u)) [
      | inl same ↦ rw same refl
      | inr apart ↦ let out : (j.ticket == u) ≡ false = ap (λ (n : ℕ). n == u) is ∙ apart in
          rw (apart, out) refl
    ]

    other : (t u : ℕ) (j : PlainJob) (jobs : List PlainJob) → (j.ticket == t) ≡ false
        → cond (j.ticket == u) (Some j) (cond (t == u) None (job_with u jobs))
        ≡ cond (t == u) None (cond (j.ticket == u) (Some j) (job_with u jobs))
    other t u j jobs apart = elim (cases_Bool (j.ticket == u)) [
      | inl at ↦ let is : j.ticket ≡ u = eqb-true j.ticket u at in
          let out : (t == u) ≡ false = ne_eqb t u (λ (e : t ≡ u). differ (j.ticket == t)
          (ap (λ (n : ℕ). j.ticket == n) e ∙ at) apart) in rw (at, out) refl
      | inr out ↦ rw out refl
    ]
      where
        differ : (b : Bool) → b ≡ true → b ≡ false → ⊥
        differ true is no_more = cc
        differ false is no_more = cc

-- what holds of all jobs holds of the one that is found, and it has the ticket
pub job_with-is : (P : PlainJob → Type 0) (t : ℕ) (jobs : List PlainJob) (job : PlainJob)
    → job_with t jobs ≡ Some job → AllByRecursion P jobs → P job × (job.ticket ≡ t)
job_with-is P t [] job found all = cc
job_with-is P t (j ∷ jobs) job found all = elim (cases_Bool (j.ticket == t)) [
  | inl here ↦ let is : ◌≡◌ {A = Option PlainJob} (Some j) (Some job) = rw here at found in
      let same : j ≡ job = cc in
      (subst P same all.0, subst (λ (x : PlainJob). x.ticket ≡ t) same (eqb-true j.ticket t here))
  | inr later ↦ let is : job_with t jobs ≡ Some job = rw later at found in
      job_with-is P t jobs job is all.1
]

-- without a ticket that none has all are there
pub job_with-but : (t u : ℕ) (jobs : List PlainJob) → None ≡ job_with t jobs
    → job_with u (without t jobs) ≡ job_with u jobs
job_with-but t u jobs none = job_with-without t u jobs ∙ (elim (cases_Bool (t == u)) [
  | inl same ↦ rw same (none ∙ ap (λ (n : ℕ). job_with n jobs) (eqb-true t u same))
  | inr apart ↦ rw apart refl
])

all-map : (P Q : PlainJob → Type 0) (jobs : List PlainJob) → ((j : PlainJob) → P j → Q j)
    → AllByRecursion P jobs → AllByRecursion Q jobs
all-map P Q [] f all = tt
all-map P Q (j ∷ jobs) f all = (f j all.0, all-map P Q jobs f all.1)

all-without : (P Q : PlainJob → Type 0) (t : ℕ) (jobs : List PlainJob)
    → ((j : PlainJob) → (t ≡ j.ticket → ⊥) → P j → Q j)
    → AllByRecursion P jobs → AllByRecursion Q (without t jobs)
all-without P Q t [] f all = tt
all-without P Q t (j ∷ jobs) f all = elim (cases_Bool (j.ticket == t)) [
  | inl same ↦ rw same (all-without P Q t jobs f all.1)
  | inr apart ↦ rw apart (
    f j (λ (e : t ≡ j.ticket). differ (j.ticket == t)
        (ap (λ (n : ℕ). j.ticket == n) e ∙ same_number j.ticket) apart) all.0,
    all-without P Q t jobs f all.1,
  )
]
  where
    differ : (b : Bool) → b ≡ true → b ≡ false → ⊥
    differ true is no_more = cc
    differ false is no_more = cc

-- ---- the jobs by their tickets

-- a job comes into hand
pub are_in-add : (old new : ℕ → Option (TaskJob RuleTask)) (job : TaskJob RuleTask) (jobs : List PlainJob)
    → ((u : ℕ) → new u ≡ cond (job.ticket == u) (Some job) (old u))
    → ((u : ℕ) → option_map plain_job (old u) ≡ job_with u jobs)
    → (u : ℕ) → option_map plain_job (new u) ≡ job_with u (plain_job job ∷ jobs)
are_in-add old new job jobs updates are u =
    ap (option_map plain_job) (updates u) ∙ more (job.ticket == u)
  where
    more : (b : Bool) → option_map plain_job (cond b (Some job) (old u))
        ≡ cond b (Some (plain_job job)) (job_with u jobs)
    more true = refl
    more false = are u

-- a ticket's job goes from hand
pub are_in-remove : (old new : ℕ → Option (TaskJob RuleTask)) (t : ℕ) (jobs : List PlainJob)
    → ((u : ℕ) → new u ≡ cond (t == u) None (old u))
    → ((u : ℕ) → option_map plain_job (old u) ≡ job_with u jobs)
    → (u : ℕ) → option_map plain_job (new u) ≡ job_with u (without t jobs)
are_in-remove old new t jobs updates are u =
    ap (option_map plain_job) (updates u) ∙ more (t == u) ∙ sym (job_with-without t u jobs)
  where
    more : (b : Bool) → option_map plain_job (cond b None (old u))
        ≡ cond b None (job_with u jobs)
    more true = refl
    more false = are u

-- ---- one more event

-- the engine expects the result of each job, and no ticket above the last was used
pub record Expects (given : Given) (h : List Event) (jobs : List PlainJob) : Type 0 where
  pub expected : AllByRecursion (IsExpected given h) jobs
  pub fresh : IsFresh h

pub expects-start : (given : Given) → Expects given [] []
unfolding open_job
expects-start given = record { expected = tt; fresh = λ t above. (refl, refl) }

-- a job that is out as before is expected as before
expected-along : (given : Given) (h k : List Event) (j : PlainJob)
    → open_job k j.ticket ≡ open_job h j.ticket → IsExpected given h j → IsExpected given k j
expected-along given h k j same e = record {
  out = ap (option_map kept_job) same ∙ e.out;
  entry = e.entry;
  rules = e.rules;
}

-- an event that neither begins nor settles a job
quiet : (given : Given) (h : List Event) (jobs : List PlainJob) (v : Event)
    → ((t : ℕ) → open_job (v ∷ h) t ≡ open_job h t) → dispatch_count (v ∷ h) ≡ dispatch_count h
    → ((t : ℕ) → is_settled (v ∷ h) t ≡ is_settled h t) → Expects given h jobs
    → Expects given (v ∷ h) jobs
quiet given h jobs v out count settled e = record {
  expected = all-map (IsExpected given h) (IsExpected given (v ∷ h)) jobs
      (λ j x. expected-along given h (v ∷ h) j (out j.ticket) x) e.expected;
  fresh = λ t above. let old = e.fresh t (subst (λ (n : ℕ). n < t) count above) in
      (settled t ∙ old.0, out t ∙ old.1);
}

module _ (given : Given) (h : List Event) (jobs : List PlainJob) (e : Expects given h jobs) where
  -- what an assignment came to
  pub assign-expects : (p : ℕ) (o : Result StoredCommit ClientFault)
      → Expects given ((assign_step given h p o).events ++ h) jobs
  unfolding open_job
  assign-expects p o = after (assign_refusal given h p) o
    where
      read : (stored : StoredCommit) (m : Option MapFault)
          → Expects given ((assign_with h p stored m).events ++ h) jobs
      read stored None = quiet given h jobs _ (λ t. refl) refl (λ t. refl) e
      read stored (Some fault) = e

      after : (r : Option EngineFault) (o : Result StoredCommit ClientFault)
          → Expects given ((assign_after given h p o r).events ++ h) jobs
      after (Some fault) o = e
      after None (Err fault) = e
      after None (Ok stored) = read stored _

  -- a commit
  pub commit-expects : (p : ℕ) (o : Result (Unit {0}) ClientFault)
      → Expects given ((commit_step given h p o).events ++ h) jobs
  unfolding open_job
  commit-expects p o = after (commit_refusal given h p) o
    where
      after : (r : Option EngineFault) (o : Result (Unit {0}) ClientFault)
          → Expects given ((commit_after given h p o r).events ++ h) jobs
      after (Some fault) o = e
      after None (Err client.NoMemory) = e
      after None (Err fault) = quiet given h jobs _ (λ t. refl) refl (λ t. refl) e
      after None (Ok done) = quiet given h jobs _ (λ t. refl) refl (λ t. refl) e

  -- a loss
  pub lose-expects : (p : ℕ) → Expects given ((lose_step given h p).events ++ h) jobs
  unfolding open_job
  lose-expects p = after (lose_refusal given h p)
    where
      after : (r : Option EngineFault) → Expects given ((lose_after h p r).events ++ h) jobs
      after (Some fault) = e
      after None = quiet given h jobs _ (λ t. refl) refl (λ t. refl) e

  -- a crash
  pub crash-expects : Expects given ((crash_step h).events ++ h) jobs
  unfolding open_job
  crash-expects = after (crash_refusal h)
    where
      after : (r : Option EngineFault) → Expects given ((crash_after r).events ++ h) jobs
      after (Some fault) = e
      after None = quiet given h jobs _ (λ t. refl) refl (λ t. refl) e

  -- the begin of a drain, or an end
  added-expects : (v : Event) (r : Option EngineFault)
      → ((t : ℕ) → open_job (v ∷ h) t ≡ open_job h t) → dispatch_count (v ∷ h) ≡ dispatch_count h
      → ((t : ℕ) → is_settled (v ∷ h) t ≡ is_settled h t)
      → Expects given ((adds_after v r).events ++ h) jobs
  added-expects v (Some fault) out count settled = e
  added-expects v None out count settled = quiet given h jobs v out count settled e

  pub drain-expects : Expects given ((drain_step h).events ++ h) jobs
  unfolding open_job
  drain-expects = added-expects Drain (drain_refusal h) (λ t. refl) refl (λ t. refl)

  pub finish-expects : Expects given ((finish_step given h).events ++ h) jobs
  unfolding open_job
  finish-expects = added-expects Done (finish_refusal given h) (λ t. refl) refl (λ t. refl)

  pub close-expects : Expects given ((close_step h).events ++ h) jobs
  unfolding open_job
  close-expects = added-expects Closed (crash_refusal h) (λ t. refl) refl (λ t. refl)

  -- a tick
  pub tick-expects : (n : ℕ) → Expects given ((tick_step h n).events ++ h) jobs
  unfolding open_job
  tick-expects n = after (tick_refusal h n)
    where
      after : (r : Option EngineFault) → Expects given ((tick_after h n r).events ++ h) jobs
      after (Some fault) = e
      after None = elim (cases_Bool (nat_le n (now_of h))) [
        | inl old ↦ rw old e
        | inr new ↦ rw new (quiet given h jobs _ (λ t. refl) refl (λ t. refl) e)
      ]

  -- a revocation, with the commit before it
  pub revoke-expects : (p : ℕ) (o : Result (Unit {0}) ClientFault)
      → Expects given ((revoke_step given h p o).events ++ h) jobs
  unfolding open_job
  revoke-expects p o = after (revoke_refusal given h p) o
    where
      after : (r : Option EngineFault) (o : Result (Unit {0}) ClientFault)
          → Expects given ((revoke_after given h p o r).events ++ h) jobs
      after (Some fault) o = e
      after None (Err client.NoMemory) = e
      after None (Err fault) = quiet given _ jobs _ (λ t. refl) refl (λ t. refl)
          (quiet given h jobs _ (λ t. refl) refl (λ t. refl) e)
      after None (Ok done) = quiet given _ jobs _ (λ t. refl) refl (λ t. refl)
          (quiet given h jobs _ (λ t. refl) refl (λ t. refl) e)

  -- a poll
  pub poll-expects : (p max : ℕ) → Expects given ((poll_step given h p max).events ++ h) jobs
  unfolding open_job
  poll-expects p max = after (poll_refusal given h p)
    where
      left : (rs : List Record) → Expects given ((poll_left given h p max rs).events ++ h) jobs
      left [] = e
      left (r ∷ rs) = elim (cases_Bool (is_blocked given h p && not (is_upto_high given h p r.offset))) [
        | inl pressed ↦ rw pressed e
        | inr free ↦ elim (cases_Bool (is_full h 1)) [
          | inl full ↦ rw (free, full) e
          | inr room ↦ rw (free, room) (quiet given h jobs _ (λ t. refl) refl (λ t. refl) e)
        ]
      ]

      after : (r : Option EngineFault) → Expects given ((poll_after given h p max r).events ++ h) jobs
      after (Some fault) = e
      after None = left (unpolled_records given h p)

-- ---- a dispatch

none-not-some : (x : OpenJob) → ◌≡◌ {A = Option OpenJob} None (Some x) → ⊥
none-not-some x is = cc

-- a job that is expected has a ticket that was used
in-range : (given : Given) (h : List Event) (j : PlainJob) → IsFresh h → IsExpected given h j
    → j.ticket ≤ dispatch_count h
in-range given h j fresh e = elim (cases_lt (dispatch_count h) j.ticket) [
  | inl above ↦ absurd (none-not-some _ (sym (ap (option_map kept_job) (fresh j.ticket above).1)
      ∙ e.out))
  | inr within ↦ within
]

own-ticket : (b : Bool) (x : Option Job) (j : Job) → b ≡ true
    → option_map kept_job (cond b (Some j) x) ≡ Some (kept_job j)
own-ticket true x j is = refl
own-ticket false x j is = cc

other-ticket : {A : Type 0} (b : Bool) (x y : Option A) → b ≡ false → cond b x y ≡ y
other-ticket true x y is = cc
other-ticket false x y is = refl

module _ (given : Given) (h : List Event) (jobs : List PlainJob) (e : Expects given h jobs)
    (worker : ℕ) where
  -- the next record's job comes into hand
  dispatched : (p o : ℕ) → next_record given h ≡ Some (p, o)
      → Expects given (Dispatch (dispatch_count h + 1) worker p o (epoch_of h p)
      (failures_of h p o + 1) ∷ h) (job_to_do given h worker p o ∷ jobs)
  dispatched p o next =
      let t = dispatch_count h + 1 in
      let new = e.fresh (dispatch_count h + 1) (omega arith) in
      let at = next-open given h p o next in
      let found = find-some o at.entry (records_of given p)
      (polled-record given h p at.entry at.polled).0 at.offset in
      let here = In-find (λ q. q.offset == o) found.0 (records_of given p) found.1 in
      let entry_is : unwrap_or (record_at given p o) no_record ≡ found.0 =
      ap (λ (r : Option Record). unwrap_or r no_record) found.1 in
      let offset_is : (unwrap_or (record_at given p o) no_record).offset ≡ o =
      ap (λ (r : Record). r.offset) entry_is ∙ eqb-true found.0.offset o here.1 in
      record {
        expected = (
          record {
            out = ap (option_map kept_job) (open_job-dispatch h (dispatch_count h + 1) worker p o
                (epoch_of h p) (failures_of h p o + 1) (dispatch_count h + 1) new.0)
                ∙ own-ticket ((dispatch_count h + 1) == (dispatch_count h + 1)) _ _
                (same_number (dispatch_count h + 1))
                ∙ ap (λ (n : ℕ). Some (record {
                  part = p;
                  offset = n;
                  epoch = epoch_of h p;
                  attempt = failures_of h p o + 1;
                })) (sym offset_is);
            entry = ap (record_at given p) offset_is ∙ found.1
                ∙ ap (λ (r : Record). Some r) (sym entry_is);
            rules = refl;
          },
          all-map (IsExpected given h) _ jobs (λ j x.
              let within = in-range given h j e.fresh x in
              expected-along given h _ j
              (open_job-dispatch h (dispatch_count h + 1) worker p o (epoch_of h p)
              (failures_of h p o + 1) j.ticket new.0
              ∙ other-ticket _ _ _ (ne_eqb (dispatch_count h + 1) j.ticket
              (λ (same : dispatch_count h + 1 ≡ j.ticket). omega (arith, same, within)))) x)
              e.expected,
        );
        fresh = λ u above. let old = e.fresh u (omega (arith, above)) in (
          old.0,
          open_job-dispatch h (dispatch_count h + 1) worker p o (epoch_of h p)
              (failures_of h p o + 1) u new.0
              ∙ other-ticket _ _ _ (ne_eqb (dispatch_count h + 1) u
              (λ (same : dispatch_count h + 1 ≡ u). omega (arith, same, above)))
              ∙ old.1,
        );
      }

  -- what a take came to
  pub take-expects : Expects given ((take_step given h worker).events ++ h)
      (hand_after (take_step given h worker).answer jobs)
  take-expects = after (take_refusal h)
    where
      of_next : (n : Option (ℕ × ℕ)) → next_record given h ≡ n
          → Expects given ((take_next given h worker n).events ++ h)
          (hand_after (take_next given h worker n).answer jobs)
      of_next None is = e
      of_next (Some next) is = dispatched next.0 next.1 is

      after : (r : Option EngineFault) → Expects given ((take_after given h worker r).events ++ h)
          (hand_after (take_after given h worker r).answer jobs)
      after (Some fault) = e
      after None = of_next (next_record given h) refl

-- ---- a result

module _ (given : Given) (h : List Event) (jobs : List PlainJob) (e : Expects given h jobs) (t : ℕ)
  where
    -- the job of a ticket goes from hand
    pub without-expects : Expects given h (without t jobs)
    without-expects = record {
      expected = all-without (IsExpected given h) (IsExpected given h) t jobs (λ j apart x. x)
          e.expected;
      fresh = e.fresh;
    }

    -- and has its result
    settled-expects : (v : Event) → t ≤ dispatch_count h → jobs_of (v ∷ h) ≡ jobs_of h
        → ((u : ℕ) → settles v u ≡ (t == u)) → Expects given (v ∷ h) (without t jobs)
    settled-expects v within same settled = record {
      expected = all-without (IsExpected given h) (IsExpected given (v ∷ h)) t jobs
          (λ j apart x. expected-along given h (v ∷ h) j
          (open_job-settled h v t j.ticket same settled
          ∙ other-ticket _ _ _ (ne_eqb t j.ticket apart)) x) e.expected;
      fresh = λ u above.
          let count : dispatch_count (v ∷ h) ≡ dispatch_count h = ap length same in
          let old = e.fresh u (omega (arith, count, above)) in
          let apart : (t == u) ≡ false = ne_eqb t u
          (λ (is : t ≡ u). omega (arith, is, within, count, above)) in (
            either (settles v u) (is_settled h u) (settled u ∙ apart) old.0,
            open_job-settled h v t u same settled ∙ other-ticket _ _ _ apart ∙ old.1,
          );
    }
      where
        either : (a b : Bool) → a ≡ false → b ≡ false → (a || b) ≡ false
        either true b first second = cc
        either false b first second = second

    -- what the end of a job in hand came to
    pub end-expects : (job : PlainJob) → job_with t jobs ≡ Some job
        → Expects given ((end_job given h (without t jobs) job).events ++ h)
        (end_job given h (without t jobs) job).hand
    end-expects job found =
        let is = job_with-is (IsExpected given h) t jobs job found e.expected in
        let within = in-range given h job e.fresh is.0 in
        elim (cases_Bool (has_ended h)) [
          | inl ended ↦ rw ended without-expects
          | inr runs ↦ rw runs (settled-by job is.1 within)
        ]
      where
        own : (job : PlainJob) → job.ticket ≡ t → (u : ℕ) → (job.ticket == u) ≡ (t == u)
        own job at u = ap (λ (n : ℕ). n == u) at

        current : (job : PlainJob) → job.ticket ≡ t → job.ticket ≤ dispatch_count h
            → (o : Outcome)
            → Expects given (settled_event given h job o ∷ h) (without t jobs)
        current job at within (Good answer) = settled-expects _ (subst (λ (n : ℕ). n ≤ dispatch_count h) at within) refl (own job at)
        current job at within (Bad code) = settled-expects _ (subst (λ (n : ℕ). n ≤ dispatch_count h) at within) refl (own job at)

        settled-by : (job : PlainJob) → job.ticket ≡ t → job.ticket ≤ dispatch_count h
            → Expects given (settle_event given h job (due_outcome outcome_of job) ∷ h)
            (without t jobs)
        settled-by job at within = elim (cases_Bool (is_held h job.part && (job.epoch == epoch_of h job.part))) [
          | inl held ↦ rw held (current job at within (due_outcome outcome_of job))
          | inr past ↦ rw past (settled-expects _ (subst (λ (n : ℕ). n ≤ dispatch_count h) at within) refl (own job at))
        ]
