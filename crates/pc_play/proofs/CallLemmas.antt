-- What the call of a line makes of a history and of the jobs in hand.
use Rattle.std.proofs.Common.{◌≡◌, ◌≤◌, ℕ, Bool, true, false, ◌&&◌, ◌==◌, inl, inr, List, ◌∷◌, ◌++◌, Option, Some, None, Result, Ok, Err, refl, ap, sym, subst, ◌∙◌, true≢false}
use Rattle.std.specs.Prelude.{IfOk, IsErr, MatchResult, OnErr}
use Rattle.std.proofs.lemmas.Bool.{cases_Bool}
use Rattle.pc_model.specs.declared.commit.Commit.{Commit as StoredCommit}
use Rattle.pc_model.specs.declared.event.Event.{Event}
use Rattle.pc_model.specs.Broker.{Broker}
use Rattle.pc_model.specs.Given.{Given, no_commit}
use Rattle.pc_model.specs.Epochs.{epoch_of, is_held}
use Rattle.pc_model.specs.Known.{commit_of}
use Rattle.pc_model.specs.Jobs.{has_ended}
use Rattle.pc_script.specs.declared.play.PlayAct.{PlayAct}
use Rattle.pc_script.specs.declared.play.PlayAct.TheVariants.{Assign, Commit, Poll, Take, End, Tick, Revoke, Lose, Crash, Drain, Done, Close}
use Rattle.pc_offset_client.specs.declared.fault.ClientFault.{ClientFault}
use Rattle.pc_offset_client.specs.declared.fault.ClientFault.TheVariants as client
use Rattle.pc_model.specs.Outcomes.{outcome_of}
use Rattle.pc_task.specs.declared.task.Task.{Ghosts}
use Rattle.pc_task.specs.Jobs.{PlainJob, due_outcome}
use Rattle.pc_task.specs.Results.{finished_job}
use Rattle.pc_task.specs.declared.finished.Finished.{Finished}
use Rattle.pc_engine.specs.declared.engine.Committed.{Committed}
use Rattle.pc_engine.specs.declared.fault.EngineFault.{EngineFault}
use Rattle.pc_engine.specs.declared.fault.EngineFault.TheVariants.{NoMemory}
use Rattle.pc_engine.specs.declared.settled.Settled.{Settled}
use Rattle.pc_engine.specs.declared.settled.Settled.TheVariants as settled
use Rattle.pc_model.specs.declared.outcome.Outcome.{Outcome}
use Rattle.pc_model.specs.declared.outcome.Outcome.TheVariants.{Good, Bad}
use Rattle.pc_state.specs.Calls.{IsExpected}
use Rattle.pc_engine.specs.Effect.{Step, Does, IsFetched, IsStored, KeepsStore, Settles, assign_after, assign_refusal, assign_step, commit_after, commit_refusal, commit_step, crash_step, lose_step, poll_step, revoke_after, revoke_refusal, revoke_step, settle_event, settle_step, settled_as, take_step, tick_step}
use Rattle.pc_engine.specs.Ending.{close_step, drain_step, finish_step}
use Rattle.pc_play.specs.declared.hand.Hand.{Hand}
use Rattle.pc_play.specs.declared.remark.Notice.{Notice}
use Rattle.pc_play.specs.declared.remark.Notice.TheVariants.{Refused, Stranger}
use Rattle.pc_play.specs.Hand.{AreIn, HasInHand, job_with, without}
use Rattle.pc_play.specs.Play.{Asked, Asks, Breaks, Calls, Fetches, LineStep, Makes, Moment, Stores, Unless, call_notice, done_by, end_job, end_step, hand_after, moment, poll_notice, settled_notice, step_of, take_notice, tick_notice}
use Rattle.pc_play.proofs.NoLine.{aborted-same}
use Rattle.pc_play.proofs.HandLemmas.{Expects, assign-expects, close-expects, commit-expects, crash-expects, drain-expects, end-expects, finish-expects, job_with-but, job_with-is, lose-expects, poll-expects, revoke-expects, take-expects, tick-expects}

-- ---- the parts of what is in hand

expects-of : (given : Given) (h : List Event) (jobs : List PlainJob) (hand : Hand)
    → HasInHand given h jobs hand → Expects given h jobs
expects-of given h jobs hand has = record { expected = has.expected; fresh = has.fresh }

has-after : (given : Given) (h k : List Event) (jobs : List PlainJob) (hand : Hand) → k ≡ h
    → AreIn hand jobs → Expects given h jobs → HasInHand given k jobs hand
has-after given h k jobs hand same are e =
    subst (λ (x : List Event). HasInHand given x jobs hand) (sym same)
    (record { each = are; expected = e.expected; fresh = e.fresh })

-- ---- answers

-- a call that did not want memory did its step
does-is : {A : Type 0} (r : Result A EngineFault) (step : Step A) (h h' : List Event)
    → (r ≡ Err NoMemory → ⊥) → Does r step h h' → (r ≡ step.answer) × (h' ≡ step.events ++ h)
does-is (Ok x) step h h' other does = does
does-is (Err NoMemory) step h h' other does = absurd (other refl)
does-is (Err fault) step h h' other does = does

pub ok-wants : {A : Type 0} (x : A) → ◌≡◌ {A = Result A EngineFault} (Ok x) (Err NoMemory) → ⊥
ok-wants x is = cc

pub err-wants : {A : Type 0} (fault : EngineFault) → (fault ≡ NoMemory → ⊥)
    → ◌≡◌ {A = Result A EngineFault} (Err fault) (Err NoMemory) → ⊥
err-wants fault other is = other cc

-- ---- the link

-- want of memory adds nothing
broke : {A : Type 0} (step : Step A) (fault : EngineFault) (h h' : List Event) → fault ≡ NoMemory
    → Does (Err fault) step h h' → h' ≡ h
broke {A} step fault h h' none does =
    subst (λ (x : EngineFault). Does {A = A} (Err x) step h h') none does

-- and leaves a told store
forgot-keeps : (A : Type 0) (fault : EngineFault) (b b' : Broker) → fault ≡ NoMemory
    → KeepsStore {A = A} (Err fault) b b' → b' ≡ b
forgot-keeps A fault b b' none keeps =
    subst (λ (x : EngineFault). KeepsStore {A = A} (Err x) b b') none keeps

-- what is left of a line's call when out of memory
pub calls-err : {E : Type 0} (told : Bool) (given : Given) (h : List Event) (act : PlayAct)
    (m m' : Moment) (h' : List Event) (hand hand' : Hand) (r : Result (Option Notice) E) → IsErr r
    → ((jobs : List PlainJob) → Breaks told given h jobs act m m' h')
    → Calls told given h act m m' h' hand hand' r
calls-err told given h act m m' h' hand hand' (Ok notice) is broken = absurd (true≢false (sym is))
calls-err told given h act m m' h' hand hand' (Err e) is broken = broken

-- what a line's call comes to where it was refused
pub calls-refused : {E : Type 0} (told : Bool) (given : Given) (h : List Event) (act : PlayAct)
    (m m' : Moment) (h' : List Event) (hand hand' : Hand) (fault : EngineFault)
    (r : Result (Option Notice) E)
    → ((notice : Option Notice) → (fault ≡ NoMemory → ⊥) → notice ≡ Some (Refused fault)
    → (jobs : List PlainJob) → HasInHand given h jobs hand
    → Makes told given h jobs act m m' h' hand' notice)
    → (fault ≡ NoMemory → (jobs : List PlainJob) → Breaks told given h jobs act m m' h')
    → MatchResult r (λ notice. (fault ≡ NoMemory → ⊥) × (notice ≡ Some (Refused fault)))
    (λ e. fault ≡ NoMemory)
    → Calls told given h act m m' h' hand hand' r
calls-refused told given h act m m' h' hand hand' fault (Ok notice) made broken is =
    made notice is.0 is.1
calls-refused told given h act m m' h' hand hand' fault (Err e) made broken is = broken is

-- ---- the calls

-- The call of a line asks nothing of the link, leaves the jobs in hand, and answers no more than
-- whether it was refused: it comes to this step.
record IsPlain (told : Bool) (given : Given) (h : List Event) (act : PlayAct)
    (step : Step (Unit {0})) (m m' : Moment) : Type 0 where
  asks : Asks told given h act m (record { asked = Err client.NoMemory; after = m' })
  comes : (jobs : List PlainJob) → step_of given h jobs act (Err client.NoMemory) ≡ record {
    events = step.events;
    hand = jobs;
    notice = call_notice step.answer;
  }
  expects : (jobs : List PlainJob) → Expects given h jobs → Expects given (step.events ++ h) jobs

module _ (given : Given) (h h' : List Event) (told : Bool) (m m' : Moment) where
  -- a fetch or a commit, unless it was refused
  fetches-unless : {A : Type 0} (x : Option EngineFault) (step : Option EngineFault → Step A) (p : ℕ)
      (a : Asked) (r : Result A EngineFault)
      → ((fault : EngineFault) → x ≡ Some fault → m' ≡ m) → (r ≡ Err NoMemory → ⊥)
      → (a ≡ Err client.NoMemory → (step None).answer ≡ Err NoMemory)
      → IsFetched told m.store m.faults m'.faults p a
      → (told ≡ true → m'.store ≡ m.store) → m.faults ≤ m'.faults → Does r (step x) h h'
      → Unless x (Fetches told p m (record { asked = a; after = m' })) m m'
  fetches-unless (Some fault) step p a r same other forgot fetched keeps later does =
      same fault refl
  fetches-unless None step p a r same other forgot fetched keeps later does = record {
    fetched = fetched;
    keeps = keeps;
    later = later;
    answered = λ is. other ((does-is r (step None) h h' other does).0 ∙ forgot is);
  }

  stores-unless : {A : Type 0} (x : Option EngineFault) (step : Option EngineFault → Step A) (p : ℕ)
      (c : StoredCommit) (a : Asked) (r : Result A EngineFault)
      → ((fault : EngineFault) → x ≡ Some fault → m' ≡ m) → (r ≡ Err NoMemory → ⊥)
      → (a ≡ Err client.NoMemory → (step None).answer ≡ Err NoMemory)
      → IsStored told m.store m'.store m.faults m'.faults p c (done_by a) → m.faults ≤ m'.faults
      → Does r (step x) h h'
      → Unless x (Stores told p c m (record { asked = a; after = m' })) m m'
  stores-unless (Some fault) step p c a r same other forgot stored later does = same fault refl
  stores-unless None step p c a r same other forgot stored later does = record {
    stored = stored;
    later = later;
    answered = λ is. other ((does-is r (step None) h h' other does).0 ∙ forgot is);
  }

  module _ (jobs : List PlainJob) (hand : Hand) (has : HasInHand given h jobs hand) where
    module _ (p : ℕ) (r : Result (Unit {0}) EngineFault) (notice : Option Notice)
        (other : r ≡ Err NoMemory → ⊥) (is : notice ≡ call_notice r)
        (same : (fault : EngineFault) → assign_refusal given h p ≡ Some fault → m' ≡ m)
        (keeps : told ≡ true → m'.store ≡ m.store) (later : m.faults ≤ m'.faults) where
      pub assigned : (o : Asked) × IsFetched told m.store m.faults m'.faults p o
          × Does r (assign_step given h p o) h h'
          → Makes told given h jobs (Assign p) m m' h' hand notice
      assigned (o, fetched, does) =
          let done = does-is r (assign_step given h p o) h h' other does in
          record {
            comes = record {
              asked = o;
              asks = fetches-unless (assign_refusal given h p) (assign_after given h p o) p o r
                  same other (λ forgot. ap (λ (x : Asked). (assign_after given h p x None).answer)
                  forgot) fetched keeps later does;
              events = done.1;
            };
            notice_is = is ∙ ap (λ (x : Result (Unit {0}) EngineFault). call_notice x) done.0;
            in_hand = has-after given _ h' jobs hand done.1 has.each
                (assign-expects given h jobs (expects-of given h jobs hand has) p o);
          }

    module _ (p : ℕ) (r : Result Committed EngineFault) (notice : Option Notice)
        (other : r ≡ Err NoMemory → ⊥) (is : notice ≡ call_notice r)
        (same : (fault : EngineFault) → commit_refusal given h p ≡ Some fault → m' ≡ m)
        (later : m.faults ≤ m'.faults) where
      committed-by : (a : Asked) → IsStored told m.store m'.store m.faults m'.faults p
          (commit_of given h p).commit (done_by a) → Does r (commit_step given h p (done_by a)) h h'
          → Makes told given h jobs (Commit p) m m' h' hand notice
      committed-by a stored does =
          let made = does-is r (commit_step given h p (done_by a)) h h' other does in
          record {
            comes = record {
              asked = a;
              asks = stores-unless (commit_refusal given h p) (commit_after given h p (done_by a))
                  p (commit_of given h p).commit a r same other
                  (λ forgot. ap (λ (x : Asked). (commit_after given h p (done_by x) None).answer)
                  forgot) stored later does;
              events = made.1;
            };
            notice_is = is ∙ ap (λ (x : Result Committed EngineFault). call_notice x) made.0;
            in_hand = has-after given _ h' jobs hand made.1 has.each
                (commit-expects given h jobs (expects-of given h jobs hand has) p (done_by a));
          }

      pub committed : (o : Result (Unit {0}) ClientFault)
          × IsStored told m.store m'.store m.faults m'.faults p (commit_of given h p).commit o
          × Does r (commit_step given h p o) h h'
          → Makes told given h jobs (Commit p) m m' h' hand notice
      committed (Ok done, stored, does) = committed-by (Ok no_commit) stored does
      committed (Err fault, stored, does) = committed-by (Err fault) stored does

    module _ (p : ℕ) (r : Result (Option ClientFault) EngineFault) (notice : Option Notice)
        (other : r ≡ Err NoMemory → ⊥) (is : notice ≡ call_notice r)
        (same : (fault : EngineFault) → revoke_refusal given h p ≡ Some fault → m' ≡ m)
        (later : m.faults ≤ m'.faults) where
      revoked-by : (a : Asked) → IsStored told m.store m'.store m.faults m'.faults p
          (commit_of given h p).commit (done_by a) → Does r (revoke_step given h p (done_by a)) h h'
          → Makes told given h jobs (Revoke p) m m' h' hand notice
      revoked-by a stored does =
          let made = does-is r (revoke_step given h p (done_by a)) h h' other does in
          record {
            comes = record {
              asked = a;
              asks = stores-unless (revoke_refusal given h p) (revoke_after given h p (done_by a))
                  p (commit_of given h p).commit a r same other
                  (λ forgot. ap (λ (x : Asked). (revoke_after given h p (done_by x) None).answer)
                  forgot) stored later does;
              events = made.1;
            };
            notice_is = is
                ∙ ap (λ (x : Result (Option ClientFault) EngineFault). call_notice x) made.0;
            in_hand = has-after given _ h' jobs hand made.1 has.each
                (revoke-expects given h jobs (expects-of given h jobs hand has) p (done_by a));
          }

      pub revoked : (o : Result (Unit {0}) ClientFault)
          × IsStored told m.store m'.store m.faults m'.faults p (commit_of given h p).commit o
          × Does r (revoke_step given h p o) h h'
          → Makes told given h jobs (Revoke p) m m' h' hand notice
      revoked (Ok done, stored, does) = revoked-by (Ok no_commit) stored does
      revoked (Err fault, stored, does) = revoked-by (Err fault) stored does

    -- a call that answers no more than whether it was refused
    plain-made : (act : PlayAct) (step : Step (Unit {0})) (a : Result (Unit {0}) EngineFault)
        (notice : Option Notice) → IsPlain told given h act step m m' → (a ≡ Err NoMemory → ⊥)
        → notice ≡ call_notice a → Does a step h h'
        → Makes told given h jobs act m m' h' hand notice
    plain-made act step a notice plain other is does =
        let done = does-is a step h h' other does in
        let came = sym (plain.comes jobs) in
        record {
          comes = record {
            asked = Err client.NoMemory;
            asks = plain.asks;
            events = done.1 ∙ ap (λ (x : LineStep). x.events ++ h) came;
          };
          notice_is = is ∙ ap (λ (x : Result (Unit {0}) EngineFault). call_notice x) done.0
              ∙ ap (λ (x : LineStep). x.notice) came;
          in_hand = subst (λ (x : LineStep). HasInHand given h' x.hand hand) came
              (has-after given _ h' jobs hand done.1 has.each
              (plain.expects jobs (expects-of given h jobs hand has)));
        }

    -- the other calls that ask nothing
    module _ (same : m' ≡ m) where
      pub ticked : (n : ℕ) (r : Result Bool EngineFault) (notice : Option Notice)
          → (r ≡ Err NoMemory → ⊥) → notice ≡ tick_notice r → Does r (tick_step h n) h h'
          → Makes told given h jobs (Tick n) m m' h' hand notice
      ticked n r notice other is does =
          let done = does-is r (tick_step h n) h h' other does in
          record {
            comes = record { asked = Err client.NoMemory; asks = same; events = done.1 };
            notice_is = is ∙ ap (λ (x : Result Bool EngineFault). tick_notice x) done.0;
            in_hand = has-after given _ h' jobs hand done.1 has.each
                (tick-expects given h jobs (expects-of given h jobs hand has) n);
          }

      pub polled : (p max : ℕ) (r : Result ℕ EngineFault) (notice : Option Notice)
          → (r ≡ Err NoMemory → ⊥) → notice ≡ poll_notice r
          → Does r (poll_step given h p max) h h'
          → Makes told given h jobs (Poll p max) m m' h' hand notice
      polled p max r notice other is does =
          let done = does-is r (poll_step given h p max) h h' other does in
          record {
            comes = record { asked = Err client.NoMemory; asks = same; events = done.1 };
            notice_is = is ∙ ap poll_notice done.0;
            in_hand = has-after given _ h' jobs hand done.1 has.each
                (poll-expects given h jobs (expects-of given h jobs hand has) p max);
          }

      pub took : (hand' : Hand) (worker : ℕ) (r : Result (Option PlainJob) EngineFault)
          (notice : Option Notice) → (r ≡ Err NoMemory → ⊥) → notice ≡ take_notice r
          → AreIn hand' (hand_after r jobs) → Does r (take_step given h worker) h h'
          → Makes told given h jobs (Take worker) m m' h' hand' notice
      took hand' worker r notice other is are does =
          let done = does-is r (take_step given h worker) h h' other does in
          record {
            comes = record { asked = Err client.NoMemory; asks = same; events = done.1 };
            notice_is = is ∙ ap take_notice done.0;
            in_hand = has-after given _ h' _ hand' done.1
                (subst
                (λ (x : Result (Option PlainJob) EngineFault). AreIn hand' (hand_after x jobs))
                done.0 are)
                (take-expects given h jobs (expects-of given h jobs hand has) worker);
          }

      -- the job in hand with the ticket is settled
      pub ended : (hand' : Hand) (t : ℕ) (job : PlainJob) (notice : Option Notice)
          → Some job ≡ job_with t jobs → AreIn hand' (without t jobs)
          → (IsExpected given h job
          → (h' ≡ (end_job given h (without t jobs) job).events ++ h)
          × (notice ≡ (end_job given h (without t jobs) job).notice))
          → Makes told given h jobs (End t) m m' h' hand' notice
      ended hand' t job notice found are ends =
          let own = job_with-is (IsExpected given h) t jobs job (sym found) has.expected in
          let is = ends own.0 in
          let expects =
          end-expects given h jobs (expects-of given h jobs hand has) t job (sym found) in
          record {
            comes = record {
              asked = Err client.NoMemory;
              asks = same;
              events = subst
                  (λ (x : Option PlainJob). h' ≡ (end_step given h jobs t x).events ++ h)
                  found is.0;
            };
            notice_is = subst
                (λ (x : Option PlainJob). notice ≡ (end_step given h jobs t x).notice) found is.1;
            in_hand = subst (λ (x : Option PlainJob).
                HasInHand given h' (end_step given h jobs t x).hand hand') found
                (has-after given _ h' _ hand' is.0 are expects);
          }

      -- no job in hand has the ticket
      pub not-in-hand : (hand' : Hand) (t : ℕ) → None ≡ job_with t jobs
          → AreIn hand' (without t jobs) → h' ≡ h
          → Makes told given h jobs (End t) m m' h' hand' (Some Stranger)
      not-in-hand hand' t none are stays = record {
        comes = record {
          asked = Err client.NoMemory;
          asks = same;
          events = subst
              (λ (x : Option PlainJob). h' ≡ (end_step given h jobs t x).events ++ h) none stays;
        };
        notice_is = subst (λ (x : Option PlainJob).
            Some Stranger ≡ (end_step given h jobs t x).notice) none refl;
        in_hand = subst (λ (x : Option PlainJob).
            HasInHand given h' (end_step given h jobs t x).hand hand') none
            (has-after given h h' jobs hand' stays (λ u. are u ∙ job_with-but t u jobs none)
            (expects-of given h jobs hand has));
      }

  -- ---- out of memory

  pub assign-broke : (p : ℕ) (fault : EngineFault) → fault ≡ NoMemory
      → (told ≡ true → m'.store ≡ m.store) → m.faults ≤ m'.faults
      → (o : Asked) × IsFetched told m.store m.faults m'.faults p o
      × Does (Err fault) (assign_step given h p o) h h'
      → (jobs : List PlainJob) → Breaks told given h jobs (Assign p) m m' h'
  assign-broke p fault none keeps later (o, fetched, does) jobs = inl (
    broke (assign_step given h p o) fault h h' none does,
    record { keeps = keeps; later = later },
  )

  pub store-broke : {A : Type 0} (act : PlayAct) (step : Result (Unit {0}) ClientFault → Step A)
      (p : ℕ) (c : StoredCommit) (fault : EngineFault) → fault ≡ NoMemory
      → (told ≡ true → KeepsStore {A = A} (Err fault) m.store m'.store) → m.faults ≤ m'.faults
      → (o : Result (Unit {0}) ClientFault)
      × IsStored told m.store m'.store m.faults m'.faults p c o × Does (Err fault) (step o) h h'
      → (jobs : List PlainJob) → Breaks told given h jobs act m m' h'
  store-broke {A} act step p c fault none keeps later (o, stored, does) jobs = inl (
    broke (step o) fault h h' none does,
    record {
      keeps = λ is. forgot-keeps A fault m.store m'.store none (keeps is);
      later = later;
    },
  )

  pub call-broke : {A : Type 0} (act : PlayAct) (step : Step A) (fault : EngineFault)
      → fault ≡ NoMemory → m' ≡ m → Does (Err fault) step h h'
      → (jobs : List PlainJob) → Breaks told given h jobs act m m' h'
  call-broke act step fault none same does jobs =
      inl (broke step fault h h' none does, aborted-same told m m' same)

  -- a call that answers no more than whether it was refused
  plain-calls : {E : Type 0} (hand : Hand) (act : PlayAct) (step : Step (Unit {0}))
      (a : Result (Unit {0}) EngineFault) (r : Result (Option Notice) E)
      → IsPlain told given h act step m m' → m' ≡ m → Does a step h h'
      → MatchResult r (λ notice. (a ≡ Err NoMemory → ⊥) × (notice ≡ call_notice a))
      (λ e. a ≡ Err NoMemory)
      → Calls told given h act m m' h' hand hand r
  plain-calls hand act step a (Ok notice) plain same does is = λ jobs has.
      plain-made jobs hand has act step a notice plain is.0 is.1 does
  plain-calls hand act step a (Err e) plain same does is = λ jobs. inl (
    subst (λ (x : Result (Unit {0}) EngineFault). Does x step h h') is does,
    aborted-same told m m' same,
  )

  -- a take whose job found no place in hand
  pub take-comes : (worker : ℕ) (r : Result (Option PlainJob) EngineFault)
      → (r ≡ Err NoMemory → ⊥) → m' ≡ m → Does r (take_step given h worker) h h'
      → (jobs : List PlainJob) → Breaks told given h jobs (Take worker) m m' h'
  take-comes worker r other same does jobs = inr (record {
    asked = Err client.NoMemory;
    asks = same;
    events = (does-is r (take_step given h worker) h h' other does).1;
  })

-- the calls that answer no more than whether they were refused
module _ {E L : Type 0} (told : Bool) (given : Given) (h h' : List Event) (store : L → Broker)
    (faults : L → ℕ) (l l' : L) (hand : Hand) (a : Result (Unit {0}) EngineFault)
    (r : Result (Option Notice) E) (same : l' ≡ l)
    (answered : MatchResult r (λ notice. (a ≡ Err NoMemory → ⊥) × (notice ≡ call_notice a))
    (λ e. a ≡ Err NoMemory)) where
  left : moment (store l') (faults l') ≡ moment (store l) (faults l)
  left = ap (λ (x : L). moment (store x) (faults x)) same

  pub lost : (p : ℕ) → Does a (lose_step given h p) h h' → Calls told given h (Lose p)
      (moment (store l) (faults l)) (moment (store l') (faults l')) h' hand hand r
  lost p does = plain-calls given h h' told _ _ hand (Lose p) (lose_step given h p) a r (record {
    asks = left;
    comes = λ jobs. refl;
    expects = λ jobs e. lose-expects given h jobs e p;
  }) left does answered

  pub crashed : Does a (crash_step h) h h' → Calls told given h Crash
      (moment (store l) (faults l)) (moment (store l') (faults l')) h' hand hand r
  crashed does = plain-calls given h h' told _ _ hand Crash (crash_step h) a r (record {
    asks = left;
    comes = λ jobs. refl;
    expects = λ jobs e. crash-expects given h jobs e;
  }) left does answered

  pub drained : Does a (drain_step h) h h' → Calls told given h Drain
      (moment (store l) (faults l)) (moment (store l') (faults l')) h' hand hand r
  drained does = plain-calls given h h' told _ _ hand Drain (drain_step h) a r (record {
    asks = left;
    comes = λ jobs. refl;
    expects = λ jobs e. drain-expects given h jobs e;
  }) left does answered

  pub finished : Does a (finish_step given h) h h' → Calls told given h Done
      (moment (store l) (faults l)) (moment (store l') (faults l')) h' hand hand r
  finished does = plain-calls given h h' told _ _ hand Done (finish_step given h) a r (record {
    asks = left;
    comes = λ jobs. refl;
    expects = λ jobs e. finish-expects given h jobs e;
  }) left does answered

  pub closed : Does a (close_step h) h h' → Calls told given h Close
      (moment (store l) (faults l)) (moment (store l') (faults l')) h' hand hand r
  closed does = plain-calls given h h' told _ _ hand Close (close_step h) a r (record {
    asks = left;
    comes = λ jobs. refl;
    expects = λ jobs e. close-expects given h jobs e;
  }) left does answered

-- a line's call that settled a job, or found no memory for its outcome
pub calls-settled : {E : Type 0} (told : Bool) (given : Given) (h : List Event) (act : PlayAct)
    (m m' : Moment) (h' : List Event) (hand hand' : Hand) (r : Result (Option Notice) E)
    (P : Option Notice → Type 0)
    → ((notice : Option Notice) → P notice → (jobs : List PlainJob) → HasInHand given h jobs hand
    → Makes told given h jobs act m m' h' hand' notice)
    → m' ≡ m → IfOk r P → OnErr r (h' ≡ h)
    → Calls told given h act m m' h' hand hand' r
calls-settled told given h act m m' h' hand hand' (Ok notice) P made same is stays =
    made notice is
calls-settled told given h act m m' h' hand hand' (Err e) P made same is stays =
    λ jobs. inl (stays, aborted-same told m m' same)

-- a job that the engine was given the result of
pub settled-so : {T : Type 0} {task : Ghosts T} (given : Given) (h h' : List Event)
    (done : Finished T task) (job : PlainJob) (answer : Settled T task) → finished_job done ≡ job → done.outcome ≡ due_outcome outcome_of job
    → (has_ended h ≡ true → (answer ≡ settled.Closed done) × (h' ≡ h))
    → (has_ended h ≡ false → IsExpected given h (finished_job done)
    → Settles answer (settle_step given h (finished_job done) done.outcome) h h')
    → (others : List PlainJob) → IsExpected given h job
    → (h' ≡ (end_job given h others job).events ++ h)
    × (settled_notice answer ≡ (end_job given h others job).notice)
settled-so {T} {task} given h h' done job answer is outcome closed settles others expected =
    elim (cases_Bool (has_ended h)) [
      | inl ended ↦ let shut = closed ended in
          rw ended (shut.1, ap settled_notice shut.0)
      | inr runs ↦ let does = settles runs (subst (IsExpected given h) (sym is) expected) in
          rw runs (
            does.1 ∙ ap (λ (j : PlainJob). settle_event given h j done.outcome ∷ h) is
                ∙ ap (λ (o : Outcome). settle_event given h job o ∷ h) outcome,
            ap settled_notice does.0 ∙ no-notice (finished_job done) done.outcome,
          )
    ]
  where
    current : (j : PlainJob) (o : Outcome)
        → settled_notice {T = T} {task = task} (settled_as given h j o) ≡ None
    current j (Good answer) = refl
    current j (Bad code) = refl

    no-notice : (j : PlainJob) (o : Outcome)
        → settled_notice {T = T} {task = task} (settle_step given h j o).answer ≡ None
    no-notice j o = elim (cases_Bool (is_held h j.part && (j.epoch == epoch_of h j.part))) [
      | inl held ↦ rw held (current j o)
      | inr past ↦ rw past refl
    ]
