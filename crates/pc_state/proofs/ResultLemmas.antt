-- A result takes its job from those that are out, and what one that came too late changes.
use Rattle.std.proofs.Common.{◌≡◌, ℕ, ◌+◌, ◌≤◌, Bool, true, false, not, ◌&&◌, ◌==◌, List, [], ◌∷◌, length, Some, refl, ap, sym, subst, ◌∙◌, arith, inl, inr, get_or}
use Rattle.std.specs.Prelude.{filter, is_some}
use Rattle.std.specs.List.{list_any}
use Rattle.std.proofs.lemmas.Bool.{cases_Bool, eqb-true}
use Rattle.pc_model.specs.declared.event.Event.{Event}
use Rattle.pc_model.specs.declared.event.Event.TheVariants.{Stale}
use Rattle.pc_model.specs.Given.{Given}
use Rattle.pc_model.specs.Jobs.{Job, is_outstanding, is_settled, job_of, jobs_of, open_jobs, settles}
use Rattle.pc_model.specs.Epochs.{epoch_of, is_current, is_held}
use Rattle.pc_model.specs.Known.{is_job_at}
use Rattle.pc_model.specs.Lawful.{IsLegal}
use Rattle.pc_model.proofs.JobLaws.{open_jobs-settled}
use Rattle.pc_model.proofs.ListLemmas.{filter-same}
use Rattle.pc_model.proofs.SamePart.{other_part}
use Rattle.pc_laws.specs.Lists.{In}
use Rattle.pc_laws.proofs.Lists.{In-filtered, and-left, and-right, not-false, true-not-false}
use Rattle.pc_laws.proofs.StaleLaw.{job_of-In}
use Rattle.pc_state.specs.declared.state.State.{State}
use Rattle.pc_state.specs.OpenJobs.{AreOpen, is_job_of, open_job}
use Rattle.pc_state.proofs.OutLemmas.{out-settled_other}
use Rattle.pc_state.proofs.LedgerLemmas.{counts-stale}
use Rattle.pc_state.specs.State.{Knows, MayCome, is_out}
use Rattle.pc_laws.proofs.TicketLaw.{open_jobs-stale, outstanding-find}
use Rattle.pc_state.proofs.StateLemmas.{AreWaiting-along, entries-same, part-same, waiting-same}

-- ---- the jobs that are out, where a ticket has its result

-- a test that fails on what a filter leaves out finds the same in it
any-filtered : (f g : Job → Bool) (js : List Job)
    → ((j : Job) → In j js → g j ≡ false → f j ≡ false)
    → list_any f (filter g js) ≡ list_any f js
any-filtered f g [] apart = refl
any-filtered f g (j ∷ js) apart = elim (cases_Bool (g j)) [
  | inl kept ↦ rw (kept, any-filtered f g js (λ k i. apart k (inr i))) refl
  | inr out ↦ rw (out, apart j (inl refl) out, any-filtered f g js (λ k i. apart k (inr i))) refl
]

-- where the ticket's job is not at the offset
pub is_out-settled : (v : Event) (h : List Event) (t p o : ℕ) → jobs_of (v ∷ h) ≡ jobs_of h
    → ((u : ℕ) → settles v u ≡ (t == u)) → epoch_of (v ∷ h) p ≡ epoch_of h p
    → ((j : Job) → In j (open_jobs h) → j.ticket ≡ t → is_job_at (Some j) p (epoch_of h p) o
    ≡ false)
    → is_out (v ∷ h) p o ≡ is_out h p o
unfolding is_out
is_out-settled v h t p o same settled epoch apart =
    ap (λ (e : ℕ). list_any (λ j. is_job_at (Some j) p e o) (open_jobs (v ∷ h))) epoch
    ∙ ap (λ (js : List Job). list_any (λ j. is_job_at (Some j) p (epoch_of h p) o) js)
    (open_jobs-settled v h same
    ∙ filter-same (λ (j : Job). not (settles v j.ticket)) (λ (j : Job). not (t == j.ticket))
    (λ (j : Job). ap not (settled j.ticket)) (open_jobs h))
    ∙ any-filtered (λ (j : Job). is_job_at (Some j) p (epoch_of h p) o)
    (λ (j : Job). not (t == j.ticket))
    (open_jobs h) (λ j i is. apart j i (sym (eqb-true t j.ticket (not-false _ is))))

pub job-at-none : (j : Job) (p e o : ℕ) → (is_job_at (Some j) p e o ≡ true → ⊥)
    → is_job_at (Some j) p e o ≡ false
job-at-none j p e o apart = elim (cases_Bool (is_job_at (Some j) p e o)) [
  | inl at ↦ absurd (apart at)
  | inr out ↦ out
]

pub open-outstanding : (h : List Event) (t : ℕ) → is_outstanding h t ≡ true → is_some (open_job h t)
    ≡ true
unfolding open_job
open-outstanding h t out = sym (outstanding-find h t) ∙ out

-- ---- a result that came too late

module _ (given : Given) (h : List Event) (t : ℕ) (legal : IsLegal given (Stale t ∷ h)) where
  stale-past : (j : Job) → In j (open_jobs h) → j.ticket ≡ t → is_current h j ≡ false
  stale-past j i ticket =
      let of : job_of h t ≡ Some j = subst (λ (u : ℕ). job_of h u ≡ Some j) ticket
      (job_of-In given h legal.2 j (In-filtered (λ (k : Job). not (is_settled h k.ticket)) j
      (jobs_of h) i).0) in
      rw of at legal.0.past

  -- it is of no part's present epoch
  pub stale-job : (p : ℕ) → is_held h p ≡ true → (j : Job) → In j (open_jobs h) → j.ticket ≡ t
      → is_job_of p (epoch_of h p) j ≡ false
  stale-job p held j i ticket = elim (cases_Bool (is_job_of p (epoch_of h p) j)) [
    | inr none ↦ none
    | inl own ↦
        let part : j.part ≡ p = eqb-true j.part p (and-left (j.part == p) _ own) in
        let held_there : is_held h j.part ≡ true = ap (λ (q : ℕ). is_held h q) part ∙ held in
        let epoch : (j.epoch == epoch_of h j.part) ≡ true =
        ap (λ (q : ℕ). j.epoch == epoch_of h q) part ∙ and-right (j.part == p) _ own in
        true-not-false (is_current h j) (rw (held_there, epoch) refl) (stale-past j i ticket)
  ]

  stale-out : (p : ℕ) → is_held h p ≡ true → (o : ℕ) → is_out (Stale t ∷ h) p o ≡ is_out h p o
  stale-out p held o = is_out-settled (Stale t) h t p o refl (λ u. refl) refl
      (λ j i ticket. job-at-none j p (epoch_of h p) o (λ at.
      let both = and-left ((j.part == p) && (j.epoch == epoch_of h p)) (j.offset == o) at in
      let part : j.part ≡ p = eqb-true j.part p (and-left (j.part == p) _ both) in
      let held_there : is_held h j.part ≡ true = ap (λ (q : ℕ). is_held h q) part ∙ held in
      let epoch : (j.epoch == epoch_of h j.part) ≡ true =
      ap (λ (q : ℕ). j.epoch == epoch_of h q) part ∙ and-right (j.part == p) _ both in
      true-not-false (is_current h j) (rw (held_there, epoch) refl) (stale-past j i ticket)))

-- where a job is no longer out, there are places enough
pub fewer-places : (n m room : ℕ) → n + 1 ≡ m → m ≤ room → n ≤ room
fewer-places n m room less places = omega (arith, less, places)

-- the state without the job
pub record DropsJob (old new : State) : Type 0 where
  pub setup : new.setup.now ≡ old.setup.now
  pub logs : new.logs.now ≡ old.logs.now
  pub items : new.parts.items ≡ old.parts.items
  pub shards : new.shards ≡ old.shards
  pub retries : new.retries ≡ old.retries
  pub clock : new.clock ≡ old.clock
  pub dispatched : new.dispatched ≡ old.dispatched
  pub last : new.last ≡ old.last
  pub ledger : new.ledger ≡ old.ledger

pub knows-stale : (given : Given) (h : List Event) (t : ℕ) (old new : State) → Knows given h old
    → MayCome given (Stale t) h → DropsJob old new
    → ((is_some (open_job h t) ≡ true) → jobs_of (Stale t ∷ h) ≡ jobs_of h
    → ((u : ℕ) → settles (Stale t) u ≡ (t == u))
    → length (open_jobs (Stale t ∷ h)) + 1 ≡ length (open_jobs h) → AreOpen (Stale t ∷ h) new.jobs)
    → Knows given (Stale t ∷ h) new
knows-stale given h t old new knows may drops jobs = record {
  setup = knows.setup ∙ sym drops.setup;
  logs = knows.logs ∙ sym drops.logs;
  legal = may.legal;
  limit = may.limit;
  count = ap length drops.items ∙ knows.count;
  few = knows.few;
  few_records = knows.few_records;
  each = λ q d within. rw drops.items (part-same given h (Stale t ∷ h) q
      (get_or old.parts.items q d)
      (other_part given q (Stale t) h refl) (knows.each q d within));
  order = rw drops.shards knows.order;
  entries = λ q. rw drops.shards (knows.entries q ∙ sym (entries-same given h (Stale t ∷ h) q
      (other_part given q (Stale t) h refl) refl (stale-out given h t may.legal q)));
  waiting = rw drops.retries (AreWaiting-along given h (Stale t ∷ h) old.retries.retries
      (λ q. waiting-same given h (Stale t ∷ h) q (other_part given q (Stale t) h refl) refl
      (stale-out given h t may.legal q)) knows.waiting);
  places = rw drops.retries (fewer-places (length (open_jobs (Stale t ∷ h))) (length (open_jobs h))
      old.retries.room (open_jobs-stale given h knows.legal t may.legal.0.outstanding) knows.places);
  part_places = λ q held. rw (
    drops.retries,
    out-settled_other (Stale t) h t q refl (λ u. refl) refl
        (stale-job given h t may.legal q held),
  ) (knows.part_places q held);
  clock = drops.clock ∙ knows.clock;
  jobs = jobs (open-outstanding h t may.legal.0.outstanding) refl (λ u. refl)
      (open_jobs-stale given h knows.legal t may.legal.0.outstanding);
  dispatched = drops.dispatched ∙ knows.dispatched;
  last = drops.last ∙ knows.last;
  ledger = rw drops.ledger (counts-stale given h t old.ledger (stale-job given h t may.legal)
      knows.ledger);
}
