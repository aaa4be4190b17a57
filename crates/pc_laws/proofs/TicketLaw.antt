-- Tickets and the jobs that are out: a result takes one job from them.
use Rattle.std.proofs.Common.{◌≡◌, ℕ, ◌+◌, ◌≤◌, ◌<◌, Bool, true, false, not, ◌&&◌, ◌==◌, List, [], ◌∷◌, length, Option, Some, None, refl, ap, sym, ◌∙◌, arith, inl, inr, eq-eqb, add-one}
use Rattle.std.specs.Prelude.{filter, find, is_some, if◌then◌else◌}
use Rattle.std.proofs.lemmas.Bool.{cases_Bool, eqb-true, ne_eqb}
use Rattle.pc_model.specs.declared.event.Event.{Event}
use Rattle.pc_model.specs.declared.event.Event.TheVariants.{Dispatch, Success, Failure, Stale}
use Rattle.pc_model.specs.Given.{Given}
use Rattle.pc_model.specs.Jobs.{Job, jobs_of, job_of, dispatch_count, settles, is_settled, is_outstanding, open_jobs}
use Rattle.pc_model.specs.Lawful.{IsLegal}
use Rattle.pc_model.proofs.ListLemmas.{filter-same}
use Rattle.pc_model.proofs.JobLaws.{open_jobs-settled}
use Rattle.pc_laws.specs.Lists.{In}
use Rattle.pc_laws.proofs.Lists.{and-right, In-filter, In-filtered}
use Rattle.pc_laws.proofs.Passing.{option_cases}
use Rattle.pc_laws.proofs.JobsLaw.{job-of}

-- ---- jobs whose tickets count down to 1

-- each job's ticket says how many jobs there are from it on
abbrev pub Falls : List Job → Type 0
Falls [] = Unit {0}
Falls (j ∷ js) = (j.ticket ≡ length js + 1) × Falls js

ticket-within : (j : Job) (js : List Job) → Falls js → In j js
    → (1 ≤ j.ticket) × (j.ticket ≤ length js)
ticket-within j [] falls i = absurd i
ticket-within j (k ∷ ks) falls (inl same) =
    let is : j.ticket ≡ k.ticket = ap (λ (x : Job). x.ticket) same in
    (omega (arith, is, falls.0), omega (arith, is, falls.0))
ticket-within j (k ∷ ks) falls (inr i) =
    let more = ticket-within j ks falls.1 i in (more.0, omega (arith, more.1))

same-job : (i j : Job) (js : List Job) → Falls js → In i js → In j js → i.ticket ≡ j.ticket
    → i ≡ j
same-job i j [] falls a b same = absurd a
same-job i j (k ∷ ks) falls (inl a) (inl b) same = a ∙ sym b
same-job i j (k ∷ ks) falls (inl a) (inr b) same =
    let is : i.ticket ≡ k.ticket = ap (λ (x : Job). x.ticket) a in
    let within = ticket-within j ks falls.1 b in
    absurd (omega (arith, is, same, falls.0, within.1))
same-job i j (k ∷ ks) falls (inr a) (inl b) same =
    let is : j.ticket ≡ k.ticket = ap (λ (x : Job). x.ticket) b in
    let within = ticket-within i ks falls.1 a in
    absurd (omega (arith, is, same, falls.0, within.1))
same-job i j (k ∷ ks) falls (inr a) (inr b) same = same-job i j ks falls.1 a b same

find-above : (t : ℕ) (js : List Job) → Falls js → length js < t
    → find (λ j. j.ticket == t) js ≡ None
find-above t [] falls above = refl
find-above t (j ∷ js) falls above =
    rw (ne_eqb j.ticket t (λ (e : j.ticket ≡ t). omega (arith, e, above, falls.0)))
    (find-above t js falls.1 (omega (arith, above)))

find-own : (j : Job) (js : List Job) → Falls js → In j js
    → find (λ k. k.ticket == j.ticket) js ≡ Some j
find-own j [] falls i = absurd i
find-own j (k ∷ ks) falls (inl same) =
    rw (eq-eqb k.ticket j.ticket (ap (λ (x : Job). x.ticket) (sym same)))
    (ap (λ (x : Job). Some x) (sym same))
find-own j (k ∷ ks) falls (inr i) =
    let within = ticket-within j ks falls.1 i in
    rw (ne_eqb k.ticket j.ticket
    (λ (e : k.ticket ≡ j.ticket). omega (arith, e, within.1, falls.0)))
    (find-own j ks falls.1 i)

-- no job above the last ticket is taken away
all-stay : (f : Job → Bool) (t : ℕ) (js : List Job) → Falls js → length js < t
    → filter (λ j. not (t == j.ticket)) (filter f js) ≡ filter f js
all-stay f t [] falls above = refl
all-stay f t (j ∷ js) falls above =
    let more = all-stay f t js falls.1 (omega (arith, above)) in
    let other = ne_eqb t j.ticket (λ (e : t ≡ j.ticket). omega (arith, e, above, falls.0)) in
    elim (cases_Bool (f j)) [
      | inl kept ↦ rw (kept, other, more) refl
      | inr out ↦ rw (out, more) refl
    ]

-- one job is, where it passes the test
pub one-goes : (f : Job → Bool) (t : ℕ) (j : Job) (js : List Job) → Falls js → In j js
    → j.ticket ≡ t → f j ≡ true
    → length (filter (λ k. not (t == k.ticket)) (filter f js)) + 1 ≡ length (filter f js)
one-goes f t j [] falls i at passes = absurd i
one-goes f t j (k ∷ ks) falls (inl same) at passes =
    let kept : f k ≡ true = rw same at passes in
    let is : j.ticket ≡ k.ticket = ap (λ (x : Job). x.ticket) same in
    let here : (t == k.ticket) ≡ true = eq-eqb t k.ticket (sym at ∙ is) in
    let stay = all-stay f t ks falls.1 (omega (arith, is, at, falls.0)) in
    rw (kept, here, stay) (add-one (length (filter f ks)))
one-goes f t j (k ∷ ks) falls (inr i) at passes =
    let more = one-goes f t j ks falls.1 i at passes in
    let within = ticket-within j ks falls.1 i in
    let other = ne_eqb t k.ticket
    (λ (e : t ≡ k.ticket). omega (arith, e, at, within.1, falls.0)) in
    elim (cases_Bool (f k)) [
      | inl kept ↦ rw (kept, other) (omega (arith, more))
      | inr out ↦ rw out more
    ]

-- ---- the jobs of a legal history

pub jobs-fall : (given : Given) (h : List Event) → IsLegal given h → Falls (jobs_of h)
jobs-fall given [] legal = tt
jobs-fall given (Dispatch t w p o e a ∷ h) legal =
    (legal.0.ticket_is, jobs-fall given h legal.2)
jobs-fall given (v ∷ h) legal = jobs-fall given h legal.2

-- the tickets count from 1
ticket-range : (given : Given) (h : List Event) → IsLegal given h → (j : Job)
    → In j (jobs_of h) → (1 ≤ j.ticket) × (j.ticket ≤ dispatch_count h)
ticket-range given h legal j i = ticket-within j (jobs_of h) (jobs-fall given h legal) i

-- a ticket has one job
pub one-job : (given : Given) (h : List Event) → IsLegal given h → (i j : Job)
    → In i (jobs_of h) → In j (jobs_of h) → i.ticket ≡ j.ticket → i ≡ j
one-job given h legal i j a b same = same-job i j (jobs_of h) (jobs-fall given h legal) a b same

-- a ticket above the last was not dispatched
pub job_of-above : (given : Given) (h : List Event) → IsLegal given h → (t : ℕ)
    → dispatch_count h < t → job_of h t ≡ None
job_of-above given h legal t above = find-above t (jobs_of h) (jobs-fall given h legal) above

-- a ticket that is out has a job
out-some : (h : List Event) (t : ℕ) → is_outstanding h t ≡ true
    → (j : Job) × (job_of h t ≡ Some j) × In j (jobs_of h) × (j.ticket ≡ t)
out-some h t out = elim (option_cases (job_of h t)) [
  | inl none ↦ let nothing = rw none at out in cc nothing
  | inr some ↦ let at = job-of h t some.0 some.1 in (some.0, some.1, at.0, at.1)
]

out-range : (given : Given) (h : List Event) → IsLegal given h → (t : ℕ)
    → is_outstanding h t ≡ true → t ≤ dispatch_count h
out-range given h legal t out =
    let j = out-some h t out in
    let within = ticket-range given h legal j.0 j.2 in omega (arith, within.1, j.3)

settled-above : (given : Given) (h : List Event) → IsLegal given h → (t u : ℕ)
    → is_outstanding h t ≡ true → dispatch_count h < u → (t == u) ≡ false
settled-above given h legal t u out above =
    let within = out-range given h legal t out in
    ne_eqb t u (λ (e : t ≡ u). omega (arith, e, above, within))

-- and is not settled
pub unsettled-above : (given : Given) (h : List Event) → IsLegal given h → (t : ℕ)
    → dispatch_count h < t → is_settled h t ≡ false
unsettled-above given [] legal t above = refl
unsettled-above given (Dispatch u w p o e a ∷ h) legal t above =
    unsettled-above given h legal.2 t (omega (arith, above))
unsettled-above given (Success u answer ∷ h) legal t above =
    rw (settled-above given h legal.2 u t legal.0.outstanding above)
    (unsettled-above given h legal.2 t above)
unsettled-above given (Failure u code ready ∷ h) legal t above =
    rw (settled-above given h legal.2 u t legal.0.outstanding above)
    (unsettled-above given h legal.2 t above)
unsettled-above given (Stale u ∷ h) legal t above =
    rw (settled-above given h legal.2 u t legal.0.outstanding above)
    (unsettled-above given h legal.2 t above)
unsettled-above given (v ∷ h) legal t above = unsettled-above given h legal.2 t above

-- ---- the jobs that are out

-- the job of a ticket that is out is one of them
open_jobs-find : (h : List Event) (t : ℕ) (j : Job) → is_outstanding h t ≡ true
    → job_of h t ≡ Some j → In j (open_jobs h) × (j.ticket ≡ t)
open_jobs-find h t j out found =
    let at = job-of h t j found in (
      In-filter (λ (x : Job). not (is_settled h x.ticket)) j (jobs_of h) at.0
          (rw at.1 (and-right (is_some (job_of h t)) (not (is_settled h t)) out)),
      at.1,
    )

-- and each of them is that of a ticket that is out
open_jobs-out : (given : Given) (h : List Event) → IsLegal given h → (j : Job)
    → In j (open_jobs h) → (is_outstanding h j.ticket ≡ true) × (job_of h j.ticket ≡ Some j)
open_jobs-out given h legal j i =
    let at = In-filtered (λ (x : Job). not (is_settled h x.ticket)) j (jobs_of h) i in
    let found : job_of h j.ticket ≡ Some j =
    find-own j (jobs_of h) (jobs-fall given h legal) at.0 in
    (rw found at.1, found)

-- a result of a ticket that is out takes one of them
module _ (given : Given) (h : List Event) (legal : IsLegal given h) (t : ℕ)
    (out : is_outstanding h t ≡ true) where
  open_jobs-less : (v : Event) → jobs_of (v ∷ h) ≡ jobs_of h
      → ((u : ℕ) → settles v u ≡ (t == u))
      → length (open_jobs (v ∷ h)) + 1 ≡ length (open_jobs h)
  open_jobs-less v same settled =
      let j = out-some h t out in
      let goes = one-goes (λ (x : Job). not (is_settled h x.ticket)) t j.0 (jobs_of h)
      (jobs-fall given h legal) j.2 j.3
      (rw j.3 (and-right (is_some (job_of h t)) (not (is_settled h t)) out)) in
      ap (λ (js : List Job). length js + 1) (open_jobs-settled v h same
      ∙ filter-same (λ (x : Job). not (settles v x.ticket)) (λ (x : Job). not (t == x.ticket))
      (λ (x : Job). ap not (settled x.ticket)) (open_jobs h))
      ∙ goes

  pub open_jobs-success : (answer : List ℕ)
      → length (open_jobs (Success t answer ∷ h)) + 1 ≡ length (open_jobs h)
  open_jobs-success answer = open_jobs-less (Success t answer) refl (λ u. refl)

  pub open_jobs-failure : (code ready : ℕ)
      → length (open_jobs (Failure t code ready ∷ h)) + 1 ≡ length (open_jobs h)
  open_jobs-failure code ready = open_jobs-less (Failure t code ready) refl (λ u. refl)

  pub open_jobs-stale : length (open_jobs (Stale t ∷ h)) + 1 ≡ length (open_jobs h)
  open_jobs-stale = open_jobs-less (Stale t) refl (λ u. refl)

-- ---- what is found among the jobs that are out

find-unsettled : (s : ℕ → Bool) (t : ℕ) (js : List Job)
    → find (λ j. j.ticket == t) (filter (λ j. not (s j.ticket)) js)
    ≡ (if s t then None else find (λ j. j.ticket == t) js)
find-unsettled s t [] = elim (cases_Bool (s t)) [ inl done ↦ rw done refl | inr out ↦ rw out refl ]
find-unsettled s t (j ∷ js) =
    let more = find-unsettled s t js in
    elim (cases_Bool (j.ticket == t)) [
      | inl here ↦
          let is : s j.ticket ≡ s t = ap s (eqb-true j.ticket t here) in
          elim (cases_Bool (s t)) [
            | inl done ↦ rw (is, done) (rw done at more)
            | inr out ↦ rw (is, out, here) refl
          ]
      | inr other ↦ elim (cases_Bool (s j.ticket)) [
        | inl done ↦ rw (done, other) more
        | inr out ↦ rw (out, other) more
      ]
    ]

-- the job of a ticket, unless it is settled
pub find-open_jobs : (h : List Event) (t : ℕ) → find (λ j. j.ticket == t) (open_jobs h)
    ≡ (if is_settled h t then None else job_of h t)
find-open_jobs h t = find-unsettled (is_settled h) t (jobs_of h)

and-not : (o : Option Job) (settled : Bool) → (is_some o && not settled)
    ≡ is_some (if settled then None else o)
and-not None true = refl
and-not None false = refl
and-not (Some j) true = refl
and-not (Some j) false = refl

-- so a ticket is out exactly where its job is found there
pub outstanding-find : (h : List Event) (t : ℕ) → is_outstanding h t
    ≡ is_some (find (λ j. j.ticket == t) (open_jobs h))
outstanding-find h t = rw (find-open_jobs h t)
    (and-not (job_of h t) (is_settled h t))
