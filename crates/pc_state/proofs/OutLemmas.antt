-- How many jobs of a part are out, after one more event.
use Rattle.std.proofs.Common.{◌≡◌, ℕ, ◌+◌, ◌≤◌, ◌<◌, Bool, true, false, not, ◌&&◌, ◌==◌, List, [], ◌∷◌, length, refl, ap, sym, ◌∙◌, arith, inl, inr, eq-eqb}
use Rattle.std.specs.Prelude.{filter}
use Rattle.std.proofs.lemmas.Bool.{cases_Bool, eqb-true}
use Rattle.pc_model.specs.declared.event.Event.{Event}
use Rattle.pc_model.specs.declared.event.Event.TheVariants.{Assign, Dispatch}
use Rattle.pc_model.specs.Given.{Given}
use Rattle.pc_model.specs.Jobs.{Job, is_settled, jobs_of, open_jobs, settles}
use Rattle.pc_model.specs.Epochs.{epoch_of}
use Rattle.pc_model.specs.Lawful.{IsLegal}
use Rattle.pc_model.proofs.EpochLaws.{epoch_of-assign}
use Rattle.pc_model.proofs.JobLaws.{open_jobs-dispatch, open_jobs-settled}
use Rattle.pc_model.proofs.ListLemmas.{filter-filter, filter-same}
use Rattle.pc_laws.specs.Lists.{In}
use Rattle.pc_laws.proofs.Lists.{In-filtered, and-left, and-right, true-not-false}
use Rattle.pc_laws.proofs.KeptLaw.{is_kept}
use Rattle.pc_state.specs.Calls.{IsAtWork}
use Rattle.pc_state.specs.OpenJobs.{is_job_of, out_of}
use Rattle.pc_laws.proofs.TicketLaw.{jobs-fall, one-goes}

-- ---- filters

and-swap : (a b : Bool) → (a && b) ≡ (b && a)
and-swap true true = refl
and-swap true false = refl
and-swap false true = refl
and-swap false false = refl

filter-swap : {X : Type 0} (f g : X → Bool) (xs : List X)
    → filter f (filter g xs) ≡ filter g (filter f xs)
filter-swap {X} f g xs = filter-filter f g xs
    ∙ filter-same _ _ (λ (x : X). and-swap (g x) (f x)) xs
    ∙ sym (filter-filter g f xs)

-- a filter keeps all where each passes
filter-all : {X : Type 0} (f : X → Bool) (xs : List X) → ((x : X) → In x xs → f x ≡ true)
    → filter f xs ≡ xs
filter-all f [] each = refl
filter-all {X} f (x ∷ xs) each = rw (each x (inl refl))
    (ap (λ (ys : List X). x ∷ ys) (filter-all f xs (λ y i. each y (inr i))))

pub filter-none : {X : Type 0} (f : X → Bool) (xs : List X) → ((x : X) → In x xs → f x ≡ false)
    → filter f xs ≡ []
filter-none f [] each = refl
filter-none f (x ∷ xs) each = rw (each x (inl refl)) (filter-none f xs (λ y i. each y (inr i)))

filter-le : {X : Type 0} (f : X → Bool) (xs : List X) → length (filter f xs) ≤ length xs
filter-le f [] = omega arith
filter-le f (x ∷ xs) = let le = filter-le f xs in elim (cases_Bool (f x)) [
  | inl kept ↦ rw kept (omega (arith, le))
  | inr gone ↦ rw gone (omega (arith, le))
]

pub filter-some : {X : Type 0} (f : X → Bool) (x : X) (xs : List X) → In x xs → f x ≡ true
    → 0 < length (filter f xs)
filter-some f x [] i passes = absurd i
filter-some f x (y ∷ ys) (inl same) passes = rw (ap f (sym same) ∙ passes) (omega arith)
filter-some f x (y ∷ ys) (inr i) passes =
    let some = filter-some f x ys i passes in elim (cases_Bool (f y)) [
      | inl kept ↦ rw kept (omega arith)
      | inr gone ↦ rw gone some
    ]

-- ---- the jobs of a part

pub out-le : (h : List Event) (p : ℕ) → out_of h p ≤ length (open_jobs h)
unfolding out_of
out-le h p = filter-le (is_job_of p (epoch_of h p)) (open_jobs h)

-- the same jobs in the same epoch
pub out-along : (h k : List Event) (p : ℕ) → open_jobs k ≡ open_jobs h → epoch_of k p ≡ epoch_of h p
    → out_of k p ≡ out_of h p
unfolding out_of
out-along h k p jobs epoch =
    ap (λ (js : List Job). length (filter (is_job_of p (epoch_of k p)) js)) jobs
    ∙ ap (λ (e : ℕ). length (filter (is_job_of p e) (open_jobs h))) epoch

-- one more where it is one of the part in its epoch
module _ (h : List Event) (t worker p o e a : ℕ) (fresh : is_settled h t ≡ false) where
  pub out-dispatch : e ≡ epoch_of h p → out_of (Dispatch t worker p o e a ∷ h) p ≡ out_of h p + 1
  unfolding out_of
  out-dispatch epoch =
      ap (λ (js : List Job). length (filter (is_job_of p (epoch_of h p)) js))
      (open_jobs-dispatch h t worker p o e a fresh)
      ∙ rw (eq-eqb p p refl, eq-eqb e (epoch_of h p) epoch) (omega arith)

  pub out-dispatch_other : (q : ℕ) → (p == q) ≡ false
      → out_of (Dispatch t worker p o e a ∷ h) q ≡ out_of h q
  unfolding out_of
  out-dispatch_other q apart =
      ap (λ (js : List Job). length (filter (is_job_of q (epoch_of h q)) js))
      (open_jobs-dispatch h t worker p o e a fresh)
      ∙ rw apart refl

-- no job of an epoch that begins is out
pub out-assign : (given : Given) (h : List Event) (p epoch position : ℕ) (text : List ℕ)
    → IsLegal given h → out_of (Assign p epoch position text ∷ h) p ≡ 0
unfolding out_of
out-assign given h p epoch position text legal =
    ap (λ (e : ℕ). length (filter (is_job_of p e) (open_jobs h)))
    (epoch_of-assign h p epoch position text)
    ∙ ap length (filter-none (is_job_of p (epoch_of h p + 1)) (open_jobs h) (λ j i. past j
    (In-filtered (λ (k : Job). not (is_settled h k.ticket)) j (jobs_of h) i).0))
  where
    past : (j : Job) → In j (jobs_of h) → is_job_of p (epoch_of h p + 1) j ≡ false
    past j i = elim (cases_Bool (is_job_of p (epoch_of h p + 1) j)) [
      | inr none ↦ none
      | inl own ↦
          let part : j.part ≡ p = eqb-true j.part p (and-left (j.part == p) _ own) in
          let epoch_is : j.epoch ≡ epoch_of h p + 1 = eqb-true j.epoch _
          (and-right (j.part == p) _ own) in
          let at : epoch_of h j.part ≡ epoch_of h p = ap (epoch_of h) part in
          elim ((is_kept given h legal).jobs.past j i) [
            | inl before ↦ absurd (omega (arith, before, epoch_is, at))
            | inr present ↦ let same = present.0 in absurd (omega (arith, same, epoch_is, at))
          ]
    ]

-- a result of another part's job, or of one whose epoch is over, leaves them
pub out-settled_other : (v : Event) (h : List Event) (t p : ℕ) → jobs_of (v ∷ h) ≡ jobs_of h
    → ((u : ℕ) → settles v u ≡ (t == u)) → epoch_of (v ∷ h) p ≡ epoch_of h p
    → ((j : Job) → In j (open_jobs h) → j.ticket ≡ t → is_job_of p (epoch_of h p) j ≡ false)
    → out_of (v ∷ h) p ≡ out_of h p
unfolding out_of
out-settled_other v h t p same settled epoch apart =
    ap (λ (js : List Job). length (filter (is_job_of p (epoch_of (v ∷ h) p)) js))
    (open_jobs-settled v h same
    ∙ filter-same (λ (j : Job). not (settles v j.ticket)) (λ (j : Job). not (t == j.ticket))
    (λ (j : Job). ap not (settled j.ticket)) (open_jobs h))
    ∙ ap (λ (e : ℕ). length (filter (is_job_of p e)
    (filter (λ (j : Job). not (t == j.ticket)) (open_jobs h)))) epoch
    ∙ ap length (filter-swap (is_job_of p (epoch_of h p)) (λ (j : Job). not (t == j.ticket))
    (open_jobs h)
    ∙ filter-all (λ (j : Job). not (t == j.ticket)) (filter (is_job_of p (epoch_of h p)) (open_jobs h))
    (λ j i. let at = In-filtered (is_job_of p (epoch_of h p)) j (open_jobs h) i in
    ap not (other j at.0 at.1)))
  where
    other : (j : Job) → In j (open_jobs h) → is_job_of p (epoch_of h p) j ≡ true
        → (t == j.ticket) ≡ false
    other j i own = elim (cases_Bool (t == j.ticket)) [
      | inr out ↦ out
      | inl at ↦ true-not-false (is_job_of p (epoch_of h p) j) own
          (apart j i (sym (eqb-true t j.ticket at)))
    ]

module _ (given : Given) (h : List Event) (legal : IsLegal given h) (t p o : ℕ)
    (work : IsAtWork h t p o) where
  work-own : is_job_of p (epoch_of h p) work.job ≡ true
  work-own = rw (eq-eqb work.job.part p work.part, eq-eqb work.job.epoch (epoch_of h p) work.epoch) refl

  -- a job at work is one of them
  pub out-some : 0 < out_of h p
  unfolding out_of
  out-some = filter-some (is_job_of p (epoch_of h p)) work.job (open_jobs h) work.out work-own

  -- and its result takes it from them
  pub out-settled : (v : Event) → jobs_of (v ∷ h) ≡ jobs_of h
      → ((u : ℕ) → settles v u ≡ (t == u)) → epoch_of (v ∷ h) p ≡ epoch_of h p
      → out_of (v ∷ h) p + 1 ≡ out_of h p
  unfolding out_of
  out-settled v same settled epoch =
      let own : Job → Bool = is_job_of p (epoch_of h p) in
      let open_job : Job → Bool = λ (j : Job). not (is_settled h j.ticket) in
      let both : Job → Bool = λ (j : Job). open_job j && own j in
      let rest : Job → Bool = λ (j : Job). not (t == j.ticket) in
      let all : filter own (open_jobs h) ≡ filter both (jobs_of h) =
      filter-filter own open_job (jobs_of h) in
      let opened = (In-filtered open_job work.job (jobs_of h) work.out) in
      let goes = one-goes both t work.job (jobs_of h) (jobs-fall given h legal) opened.0 work.ticket
      (rw (opened.1, work-own) refl) in
      ap (λ (n : ℕ). n + 1) (
      ap (λ (js : List Job). length (filter (is_job_of p (epoch_of (v ∷ h) p)) js))
      (open_jobs-settled v h same
      ∙ filter-same (λ (j : Job). not (settles v j.ticket)) rest
      (λ (j : Job). ap not (settled j.ticket)) (open_jobs h))
      ∙ ap (λ (e : ℕ). length (filter (is_job_of p e) (filter rest (open_jobs h)))) epoch
      ∙ ap length (filter-swap own rest (open_jobs h))
      ∙ ap (λ (js : List Job). length (filter rest js)) all)
      ∙ goes ∙ ap length (sym all)
