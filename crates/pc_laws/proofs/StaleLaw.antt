-- A stale result leaves everything as it was but for the jobs that are out.
use Rattle.std.proofs.Common.{◌≡◌, ℕ, ◌+◌, ◌≤◌, Bool, false, not, ◌&&◌, ◌==◌, List, [], ◌∷◌, Some, refl, ap, sym, eq-eqb, arith, inl, inr}
use Rattle.std.specs.Prelude.{filter}
use Rattle.std.specs.List.{list_any}
use Rattle.std.proofs.lemmas.Bool.{cases_Bool, eqb-true, ne_eqb}
use Rattle.pc_model.specs.declared.event.Event.{Event}
use Rattle.pc_model.specs.declared.event.Event.TheVariants.{Dispatch, Stale}
use Rattle.pc_model.specs.Given.{Given}
use Rattle.pc_model.specs.Jobs.{Job, jobs_of, job_of, dispatch_count, is_settled, open_jobs}
use Rattle.pc_model.specs.Epochs.{is_current}
use Rattle.pc_model.specs.Next.{OrderingKey, has_key, is_busy, eligible_offsets, next_record}
use Rattle.pc_model.specs.Lawful.{IsLegal}
use Rattle.pc_model.specs.OneMore.{SamePart}
use Rattle.pc_model.proofs.SamePart.{other_part}
use Rattle.pc_model.proofs.JobLaws.{open_jobs-settled}
use Rattle.pc_model.proofs.NextLaws.{eligible_offsets-same, next_record-same}
use Rattle.pc_laws.specs.Lists.{In}
use Rattle.pc_laws.proofs.Lists.{In-filtered, not-false}

-- a test that fails on what a filter leaves out finds the same in it
any-filter : (f g : Job → Bool) (js : List Job) →
    ((j : Job) → In j js → g j ≡ false → f j ≡ false) → list_any f (filter g js) ≡ list_any f js
any-filter f g [] apart = refl
any-filter f g (j ∷ js) apart = elim (cases_Bool (g j)) [
  | inl kept ↦ rw (kept, any-filter f g js (λ k i. apart k (inr i))) refl
  | inr out ↦ rw (out, apart j (inl refl) out, any-filter f g js (λ k i. apart k (inr i))) refl
]

-- ---- tickets

-- no ticket is above the number of dispatches
ticket-le : (given : Given) (h : List Event) → IsLegal given h →
    (j : Job) → In j (jobs_of h) → j.ticket ≤ dispatch_count h
ticket-le given [] legal j i = absurd i
ticket-le given (Dispatch t w p o e a ∷ h) legal j (inl same) =
    let is : j.ticket ≡ t = ap (λ (k : Job). k.ticket) same in let next : t ≡ dispatch_count h + 1 =
    legal.0.ticket_is in omega arith
ticket-le given (Dispatch t w p o e a ∷ h) legal j (inr i) = let le : j.ticket ≤ dispatch_count h =
    ticket-le given h legal.2 j i in omega arith
ticket-le given (v ∷ h) legal j i = ticket-le given h legal.2 j i

-- a dispatched job is the job of its ticket
pub job_of-In : (given : Given) (h : List Event) → IsLegal given h →
    (j : Job) → In j (jobs_of h) → job_of h j.ticket ≡ Some j
job_of-In given [] legal j i = absurd i
job_of-In given (Dispatch t w p o e a ∷ h) legal j (inl same) =
    let is : t ≡ j.ticket = ap (λ (k : Job). k.ticket) (sym same) in rw (eq-eqb t j.ticket is)
    (ap (λ (k : Job). Some k) (sym same))
job_of-In given (Dispatch t w p o e a ∷ h) legal j (inr i) =
    let le : j.ticket ≤ dispatch_count h = ticket-le given h legal.2 j i in let next : t
    ≡ dispatch_count h + 1 = legal.0.ticket_is in
    let apart : t ≡ j.ticket → ⊥ = λ (e : t ≡ j.ticket). omega arith in
    rw (ne_eqb t j.ticket apart) (job_of-In given h legal.2 j i)
job_of-In given (v ∷ h) legal j i = job_of-In given h legal.2 j i

-- ---- a stale result

module _ (given : Given) (h : List Event) (t : ℕ) (legal : IsLegal given (Stale t ∷ h)) where
  pub same_part-stale : (p : ℕ) → SamePart given p h (Stale t ∷ h)
  same_part-stale p = other_part given p (Stale t) h refl

  -- the job that it settles is not current
  past : (j : Job) → In j (open_jobs h) → not (t == j.ticket) ≡ false → is_current h j ≡ false
  past j i is =
      let at : t ≡ j.ticket = eqb-true t j.ticket (not-false _ is) in
      let of : job_of h t ≡ Some j = rw at
      (job_of-In given h legal.2 j
      (In-filtered (λ k. not (is_settled h k.ticket)) j (jobs_of h) i).0) in
      rw of at legal.0.past

  is_busy-stale : (key : OrderingKey) → is_busy given (Stale t ∷ h) key ≡ is_busy given h key
  unfolding is_busy
  is_busy-stale key = rw (open_jobs-settled (Stale t) h refl)
      (any-filter (λ j. is_current h j && has_key given key j) (λ j. not (t == j.ticket))
      (open_jobs h) (λ j i out. rw (past j i out) refl))

  pub eligible_offsets-stale : (p : ℕ) → eligible_offsets given (Stale t ∷ h) p
      ≡ eligible_offsets given h p
  eligible_offsets-stale p = eligible_offsets-same given p h (Stale t ∷ h)
      (same_part-stale p) is_busy-stale refl

  pub next_record-stale : next_record given (Stale t ∷ h) ≡ next_record given h
  next_record-stale = next_record-same given h (Stale t ∷ h) same_part-stale is_busy-stale refl refl
