-- The jobs that are out after one more event.
use Rattle.std.proofs.Common.{◌≡◌, ℕ, ◌+◌, Bool, true, false, not, ◌==◌, cond, List, [], ◌∷◌, Option, Some, None, length, refl, sym, ap, ◌∙◌, arith, inl, inr}
use Rattle.std.specs.Prelude.{filter, find, option_map, nat_eq, is_some}
use Rattle.std.specs.HashMap.{get, hash_map_len}
use Rattle.std.proofs.lemmas.Bool.{cases_Bool, eqb-true}
use Rattle.pc_model.specs.declared.event.Event.{Event}
use Rattle.pc_model.specs.declared.event.Event.TheVariants.{Dispatch}
use Rattle.pc_model.specs.Jobs.{Job, is_settled, jobs_of, open_jobs, settles}
use Rattle.pc_model.proofs.JobLaws.{open_jobs-dispatch, open_jobs-settled}
use Rattle.pc_model.proofs.ListLemmas.{filter-same}
use Rattle.pc_state.specs.declared.jobs.OpenJob.{OpenJob}
use Rattle.pc_state.specs.declared.jobs.OpenJobs.{OpenJobs}
use Rattle.pc_state.specs.OpenJobs.{AreOpen, kept_job, open_job}

-- without the jobs of a ticket no job has it, and every other ticket has the one that it had
find-without : (t u : ℕ) (js : List Job) → find (λ j. j.ticket == u) (filter (λ j. not (t == j.ticket)) js)
    ≡ cond (t == u) None (find (λ j. j.ticket == u) js)
find-without t u [] = elim (t == u) as (λ b. ◌≡◌ {A = Option Job} None (cond b None None)) [ true ↦ refl | false ↦ refl ]
find-without t u (j ∷ js) = elim (cases_Bool (t == j.ticket)) [
  | inl same ↦ let is : t ≡ j.ticket = eqb-true t j.ticket same in
      rw (same, find-without t u js) (own t u j js is)
  | inr apart ↦ rw (apart, find-without t u js) (other t u j js apart)
]
  where
    own : (t u : ℕ) (j : Job) (js : List Job) → t ≡ j.ticket
        → cond (t == u) None (find (λ j. j.ticket == u) js)
        ≡ cond (t == u) None (cond (j.ticket == u) (Some j) (find (λ j. j.ticket == u) js))
    own t u j js is = elim (cases_Bool (t == u)) [
      | inl same ↦ rw same refl
      | inr apart ↦ let out : (j.ticket == u) ≡ false = ap (λ (n : ℕ). n == u) (sym is) ∙ apart in
          rw (apart, out) refl
    ]

    other : (t u : ℕ) (j : Job) (js : List Job) → (t == j.ticket) ≡ false
        → cond (j.ticket == u) (Some j) (cond (t == u) None (find (λ j. j.ticket == u) js))
        ≡ cond (t == u) None (cond (j.ticket == u) (Some j) (find (λ j. j.ticket == u) js))
    other t u j js apart = elim (cases_Bool (j.ticket == u)) [
      | inl at ↦ let is : j.ticket ≡ u = eqb-true j.ticket u at in
          let out : (t == u) ≡ false = ap (λ (n : ℕ). t == n) (sym is) ∙ apart in rw (at, out) refl
      | inr out ↦ rw out refl
    ]

pub open_job-dispatch : (h : List Event) (t worker p o epoch attempt u : ℕ) → is_settled h t ≡ false
    → open_job (Dispatch t worker p o epoch attempt ∷ h) u ≡ cond (t == u) (Some (record
    { ticket = t; worker = worker; part = p; offset = o; epoch = epoch; attempt = attempt }))
    (open_job h u)
unfolding open_job
open_job-dispatch h t worker p o epoch attempt u fresh =
    ap (λ (js : List Job). find (λ j. j.ticket == u) js) (open_jobs-dispatch h t worker p o epoch attempt fresh)

pub open_job-settled : (h : List Event) (v : Event) (t u : ℕ) → jobs_of (v ∷ h) ≡ jobs_of h
    → ((u : ℕ) → settles v u ≡ (t == u)) → open_job (v ∷ h) u ≡ cond (t == u) None (open_job h u)
unfolding open_job
open_job-settled h v t u same settled =
    ap (λ (js : List Job). find (λ j. j.ticket == u) js) (open_jobs-settled v h same
    ∙ filter-same _ _ (λ (j : Job). ap not (settled j.ticket)) (open_jobs h))
    ∙ find-without t u (open_jobs h)

-- ---- what is kept of them

pub AreOpen-along : (h k : List Event) (jobs : OpenJobs) → open_jobs k ≡ open_jobs h → AreOpen h jobs
    → AreOpen k jobs
unfolding open_job
AreOpen-along h k jobs same are =
    record {
      each = λ t. are.each t ∙ ap (λ (js : List Job). option_map kept_job (find (λ j. j.ticket == t) js)) (sym same);
      count = are.count ∙ ap length (sym same);
    }

pub AreOpen-none : (h : List Event) (jobs : OpenJobs) → open_jobs h ≡ []
    → ((t : ℕ) → get nat_eq jobs.jobs t ≡ None) → hash_map_len jobs.jobs ≡ 0 → AreOpen h jobs
unfolding open_job
AreOpen-none h jobs none get-none len =
    record {
      each = λ t. get-none t ∙ ap (λ (js : List Job). option_map kept_job (find (λ j. j.ticket == t) js)) (sym none);
      count = len ∙ ap length (sym none);
    }

pub AreOpen-dispatch : (h : List Event) (old new : OpenJobs) (t worker : ℕ) (job : OpenJob)
    → ((u : ℕ) → get nat_eq new.jobs u ≡ cond (t == u) (Some job) (get nat_eq old.jobs u))
    → (o : Option OpenJob) → o ≡ get nat_eq old.jobs t
    → hash_map_len new.jobs ≡ hash_map_len old.jobs + cond (is_some o) 0 1
    → AreOpen h old → is_settled h t ≡ false → open_job h t ≡ None
    → AreOpen (Dispatch t worker job.part job.offset job.epoch job.attempt ∷ h) new
AreOpen-dispatch h old new t worker job updates o was len are fresh none = record {
  each = λ u. updates u ∙ more u (t == u) ∙ ap (λ x. option_map kept_job x)
      (sym (open_job-dispatch h t worker job.part job.offset job.epoch job.attempt u fresh));
  count = let is : o ≡ None = was ∙ are.each t ∙ ap (λ x. option_map kept_job x) none in
      len ∙ ap (λ (x : Option OpenJob). hash_map_len old.jobs + cond (is_some x) 0 1) is
      ∙ ap (λ (n : ℕ). n + 1) are.count ∙ counted;
}
  where
    more : (u : ℕ) (b : Bool) → cond b (Some job) (get nat_eq old.jobs u) ≡ option_map kept_job
        (cond b (Some (record { ticket = t; worker = worker; part = job.part; offset = job.offset; epoch = job.epoch; attempt = job.attempt }))
        (open_job h u))
    more u true = refl
    more u false = are.each u

    counted : length (open_jobs h) + 1
        ≡ length (open_jobs (Dispatch t worker job.part job.offset job.epoch job.attempt ∷ h))
    counted = omega (arith, ap length (open_jobs-dispatch h t worker job.part job.offset job.epoch job.attempt fresh))

pub AreOpen-settled : (h : List Event) (v : Event) (old new : OpenJobs) (t : ℕ)
    → ((u : ℕ) → get nat_eq new.jobs u ≡ cond (t == u) None (get nat_eq old.jobs u))
    → (o : Option OpenJob) → o ≡ get nat_eq old.jobs t
    → hash_map_len new.jobs + cond (is_some o) 1 0 ≡ hash_map_len old.jobs
    → AreOpen h old → is_some (open_job h t) ≡ true → jobs_of (v ∷ h) ≡ jobs_of h
    → ((u : ℕ) → settles v u ≡ (t == u))
    → length (open_jobs (v ∷ h)) + 1 ≡ length (open_jobs h) → AreOpen (v ∷ h) new
AreOpen-settled h v old new t updates o was len are some same settled less = record {
  each = λ u. updates u ∙ more u (t == u) ∙ ap (λ x. option_map kept_job x)
      (sym (open_job-settled h v t u same settled));
  count = let is : is_some o ≡ true = ap is_some (was ∙ are.each t) ∙ kept-some (open_job h t) ∙ some in
      let one : hash_map_len new.jobs + 1 ≡ hash_map_len old.jobs = rw is at len in
      omega (arith, are.count, less, one);
}
  where
    more : (u : ℕ) (b : Bool) → cond b None (get nat_eq old.jobs u)
        ≡ option_map kept_job (cond b None (open_job h u))
    more u true = refl
    more u false = are.each u

    kept-some : (x : Option Job) → is_some (option_map kept_job x) ≡ is_some x
    kept-some None = refl
    kept-some (Some j) = refl
