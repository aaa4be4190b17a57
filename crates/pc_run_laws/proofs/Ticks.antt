-- Results and ticks: there are no more results than dispatches, and no more ticks of either kind than
-- dispatches in vain.
use Rattle.std.proofs.Common.{◌≡◌, ◌⊎◌, ℕ, suc, ◌+◌, ◌≤◌, ◌<◌, Bool, true, false, not, ◌==◌, List, [], ◌∷◌, length, Some, refl, ap, sym, subst, ◌∙◌, arith, inl, inr, eq-eqb}
use Rattle.std.specs.Prelude.{filter, nat_le, is_some, flat_map}
use Rattle.std.specs.List.{list_any}
use Rattle.std.proofs.lemmas.Bool.{cases_Bool, leb-true, le-leb, ltb-true}
use Rattle.pc_model.specs.declared.event.Event.{Event}
use Rattle.pc_model.specs.declared.event.Event.TheVariants.{Assign, Poll, Dispatch, Success, Failure, Stale, Commit as Committed, CommitFailed, Revoke, Lost, Crash, Tick, Drain, Done, Closed}
use Rattle.pc_model.specs.declared.outcome.Outcome.TheVariants.{Bad}
use Rattle.pc_model.specs.declared.step.Step.{Step}
use Rattle.pc_model.specs.Record.{Record}
use Rattle.pc_model.specs.Numbers.{least_of}
use Rattle.pc_model.specs.Given.{Given}
use Rattle.pc_model.specs.Jobs.{Job, job_of, jobs_of, dispatch_count, is_outstanding, is_settled, open_jobs, settles}
use Rattle.pc_model.specs.Epochs.{epoch_of}
use Rattle.pc_model.specs.Known.{is_job_at}
use Rattle.pc_model.specs.Retry.{now_of, ready_in, ready_of}
use Rattle.pc_model.specs.Outcomes.{job_outcome, ticket_outcome}
use Rattle.pc_model.specs.Lawful.{IsLegal, held_parts}
use Rattle.pc_model.specs.Run.{is_waiting, next_time, open_records, waiting_times}
use Rattle.pc_model.specs.Pace.{goes_with, is_failed_result, is_failing, is_paced, is_time}
use Rattle.pc_model.proofs.JobLaws.{open_jobs-dispatch, open_jobs-settled}
use Rattle.pc_laws.specs.Lists.{In}
use Rattle.pc_laws.proofs.Lists.{and-right, or-cases, In-append, In-filter, In-filtered, In-list_any, In-mapped, least_of-In}
use Rattle.pc_laws.proofs.Passing.{option_cases}
use Rattle.pc_laws.proofs.JobsLaw.{job-of}
use Rattle.pc_laws.proofs.TicketLaw.{unsettled-above}
use Rattle.pc_run_laws.proofs.RestLaw.{paced-before, paced-now, paced-with}
use Rattle.pc_run_laws.proofs.Tally.{Test, add_if, add_if-apart, add_if-le, add_if-one, never, tally, tally-le}
use Rattle.pc_run_laws.proofs.RecordCounts.{fails, outcome-of}

abbrev pub dispatches : Test
dispatches (Dispatch t w p o e a) h = true
dispatches _ h = false

abbrev pub results : Test
results (Success t answer) h = true
results (Failure t code ready) h = true
results (Stale t) h = true
results _ h = false

abbrev pub failed_results : Given → Test
failed_results given e h = is_failed_result given h e

abbrev failures : Test
failures (Failure t code ready) h = true
failures _ h = false

-- a failure after which the record may run again by this time
abbrev ready_by : ℕ → Test
ready_by n (Failure t code ready) h = nat_le ready n
ready_by n _ h = false

-- a tick to a time that a record waits for, and another one
abbrev pub due_ticks : Given → Test
due_ticks given (Tick now) h = is_time given h now
due_ticks given _ h = false

abbrev pub early_ticks : Given → Test
early_ticks given (Tick now) h = not (is_time given h now)
early_ticks given _ h = false

anything : List Event → Type 0
anything h = Unit {0}

any-before : (e : Event) (h : List Event) → anything (e ∷ h) → anything h
unfolding anything
any-before e h at = tt

some-thing : (h : List Event) → anything h
unfolding anything
some-thing h = tt

-- ---- jobs that are out, counted

abbrev count : (Job → Bool) → List Job → ℕ
count f [] = 0
count f (j ∷ js) = add_if (f j) (count f js)

count-filter : (f g : Job → Bool) (js : List Job) → count f (filter g js) ≤ count f js
count-filter f g [] = omega arith
count-filter f g (j ∷ js) =
    let rest : count f (filter g js) ≤ count f js = count-filter f g js in
    elim (cases_Bool (g j)) [
      | inl kept ↦ elim (cases_Bool (f j)) [
        | inl one ↦ rw (kept, one) (omega arith)
        | inr none ↦ rw (kept, none) rest
      ]
      | inr out ↦ let up : count f js ≤ add_if (f j) (count f js) = add_if-le (f j) (count f js) in rw out (omega arith)
    ]

-- one that is counted and left out
count-less : (f g : Job → Bool) (j : Job) (js : List Job) → In j js → f j ≡ true → g j ≡ false
    → suc (count f (filter g js)) ≤ count f js
count-less f g j [] i one out = absurd i
count-less f g j (k ∷ ks) (inl same) one out =
    let rest : count f (filter g ks) ≤ count f ks = count-filter f g ks in
    let is_one : f k ≡ true = subst (λ (x : Job). f x ≡ true) same one in
    let is_out : g k ≡ false = subst (λ (x : Job). g x ≡ false) same out in
    rw (is_out, is_one) (omega arith)
count-less f g j (k ∷ ks) (inr i) one out =
    let rest : suc (count f (filter g ks)) ≤ count f ks = count-less f g j ks i one out in
    elim (cases_Bool (g k)) [
      | inl kept ↦ elim (cases_Bool (f k)) [
        | inl is_one ↦ rw (kept, is_one) (omega arith)
        | inr none ↦ rw (kept, none) rest
      ]
      | inr left ↦ let up : count f ks ≤ add_if (f k) (count f ks) = add_if-le (f k) (count f ks) in rw left (omega arith)
    ]

count-all : (js : List Job) → count (λ j. true) js ≡ length js
count-all [] = refl
count-all (j ∷ js) = ap suc (count-all js)

count-some : (f : Job → Bool) (j : Job) (js : List Job) → In j js → f j ≡ true → 1 ≤ count f js
count-some f j [] i one = absurd i
count-some f j (k ∷ ks) (inl same) one =
    let is : f k ≡ true = subst (λ (x : Job). f x ≡ true) same one in rw is (omega arith)
count-some f j (k ∷ ks) (inr i) one =
    let rest : 1 ≤ count f ks = count-some f j ks i one in
    let up : count f ks ≤ add_if (f k) (count f ks) = add_if-le (f k) (count f ks) in omega arith

-- an outstanding ticket has a job that is out
out-open : (h : List Event) (t : ℕ) → is_outstanding h t ≡ true
    → (j : Job) × (job_of h t ≡ Some j) × In j (open_jobs h) × ((t == j.ticket) ≡ true)
out-open h t out = elim (option_cases (job_of h t)) [
  | inl none ↦ let nothing = rw none at out in cc nothing
  | inr some ↦
      let at = job-of h t some.0 some.1 in
      let unsettled : not (is_settled h t) ≡ true = and-right (is_some (job_of h t)) _ out in (
        some.0,
        some.1,
        In-filter (λ (x : Job). not (is_settled h x.ticket)) some.0 (jobs_of h) at.0 (rw at.1 unsettled),
        eq-eqb t some.0.ticket (sym at.1),
      )
]

module _ (given : Given) (f : Job → Bool) (e : Event) (h : List Event) (t : ℕ)
    (same : jobs_of (e ∷ h) ≡ jobs_of h) (of : (u : ℕ) → settles e u ≡ (t == u)) where
  -- a result takes its job from those that are out
  settled-less : (j : Job) → In j (open_jobs h) → (t == j.ticket) ≡ true → f j ≡ true
      → suc (count f (open_jobs (e ∷ h))) ≤ count f (open_jobs h)
  settled-less j i is one = rw (open_jobs-settled e h same)
      (count-less f (λ (x : Job). not (settles e x.ticket)) j (open_jobs h) i one
      (rw (of j.ticket, is) refl))

  settled-most : count f (open_jobs (e ∷ h)) ≤ count f (open_jobs h)
  settled-most = rw (open_jobs-settled e h same)
      (count-filter f (λ (x : Job). not (settles e x.ticket)) (open_jobs h))

dispatched : (given : Given) (f : Job → Bool) (h : List Event) (t w p o e a : ℕ)
    → IsLegal given (Dispatch t w p o e a ∷ h)
    → count f (open_jobs (Dispatch t w p o e a ∷ h)) ≡ add_if (f (record
    { ticket = t; worker = w; part = p; offset = o; epoch = e; attempt = a })) (count f (open_jobs h))
dispatched given f h t w p o e a legal =
    ap (count f) (open_jobs-dispatch h t w p o e a
    (unsettled-above given h legal.2 t (let k : t ≡ dispatch_count h + 1 = legal.0.ticket_is in omega arith)))

-- ---- results

pub results-few : (given : Given) (h : List Event) → IsLegal given h
    → tally never results h + count (λ j. true) (open_jobs h) ≤ tally never dispatches h
results-few given [] legal = omega arith
results-few given (Dispatch t w p o e a ∷ h) legal =
    let before : tally never results h + count (λ (j : Job). true) (open_jobs h) ≤ tally never dispatches h =
    results-few given h legal.2 in
    let more : count (λ (j : Job). true) (open_jobs (Dispatch t w p o e a ∷ h))
    ≡ suc (count (λ (j : Job). true) (open_jobs h)) = dispatched given (λ j. true) h t w p o e a legal in
    omega arith
results-few given (Success t answer ∷ h) legal =
    let before : tally never results h + count (λ (j : Job). true) (open_jobs h) ≤ tally never dispatches h =
    results-few given h legal.2 in
    let job = out-open h t legal.0.outstanding in
    let less : suc (count (λ (j : Job). true) (open_jobs (Success t answer ∷ h))) ≤ count (λ (j : Job). true) (open_jobs h) =
    settled-less given (λ j. true) (Success t answer) h t refl (λ u. refl) job.0 job.2 job.3 refl in omega arith
results-few given (Failure t code ready ∷ h) legal =
    let before : tally never results h + count (λ (j : Job). true) (open_jobs h) ≤ tally never dispatches h =
    results-few given h legal.2 in
    let job = out-open h t legal.0.outstanding in
    let less : suc (count (λ (j : Job). true) (open_jobs (Failure t code ready ∷ h))) ≤ count (λ (j : Job). true) (open_jobs h) =
    settled-less given (λ j. true) (Failure t code ready) h t refl (λ u. refl) job.0 job.2 job.3 refl in omega arith
results-few given (Stale t ∷ h) legal =
    let before : tally never results h + count (λ (j : Job). true) (open_jobs h) ≤ tally never dispatches h =
    results-few given h legal.2 in
    let job = out-open h t legal.0.outstanding in
    let less : suc (count (λ (j : Job). true) (open_jobs (Stale t ∷ h))) ≤ count (λ (j : Job). true) (open_jobs h) =
    settled-less given (λ j. true) (Stale t) h t refl (λ u. refl) job.0 job.2 job.3 refl in omega arith
results-few given (v ∷ h) legal = results-few given h legal.2

pub open-few : (given : Given) (h : List Event) → IsLegal given h
    → tally never results h + length (open_jobs h) ≤ tally never dispatches h
open-few given h legal =
    let few : tally never results h + count (λ (j : Job). true) (open_jobs h) ≤ tally never dispatches h =
    results-few given h legal in
    let all : count (λ (j : Job). true) (open_jobs h) ≡ length (open_jobs h) = count-all (open_jobs h) in omega arith

-- ---- failed results, and jobs that are out in vain

ticket-of : (given : Given) (h : List Event) (t : ℕ) (j : Job) → job_of h t ≡ Some j
    → ticket_outcome given h t ≡ job_outcome given j
unfolding ticket_outcome
ticket-of given h t j found = rw found refl

abbrev in_vain : Given → Job → Bool
in_vain given j = is_failing (job_outcome given j)

failed-few : (given : Given) (h : List Event) → IsLegal given h
    → tally never (failed_results given) h + count (in_vain given) (open_jobs h) ≤ tally never (fails given) h
failed-few given [] legal = omega arith
failed-few given (Dispatch t w p o e a ∷ h) legal =
    let before : tally never (failed_results given) h + count (in_vain given) (open_jobs h) ≤ tally never (fails given) h =
    failed-few given h legal.2 in
    let more : count (in_vain given) (open_jobs (Dispatch t w p o e a ∷ h))
    ≡ add_if (fails given (Dispatch t w p o e a) h) (count (in_vain given) (open_jobs h)) =
    dispatched given (in_vain given) h t w p o e a legal in
    elim (cases_Bool (fails given (Dispatch t w p o e a) h)) [
      | inl bad ↦
          let one : count (in_vain given) (open_jobs (Dispatch t w p o e a ∷ h)) ≡ suc (count (in_vain given) (open_jobs h)) =
          more ∙ ap (λ (b : Bool). add_if b (count (in_vain given) (open_jobs h))) bad in
          let up : tally never (fails given) (Dispatch t w p o e a ∷ h) ≡ suc (tally never (fails given) h) = rw bad refl in
          let le : tally never (failed_results given) h + count (in_vain given) (open_jobs (Dispatch t w p o e a ∷ h))
          ≤ tally never (fails given) (Dispatch t w p o e a ∷ h) = omega arith in le
      | inr good ↦
          let one : count (in_vain given) (open_jobs (Dispatch t w p o e a ∷ h)) ≡ count (in_vain given) (open_jobs h) =
          more ∙ ap (λ (b : Bool). add_if b (count (in_vain given) (open_jobs h))) good in
          let up : tally never (fails given) (Dispatch t w p o e a ∷ h) ≡ tally never (fails given) h = rw good refl in
          let le : tally never (failed_results given) h + count (in_vain given) (open_jobs (Dispatch t w p o e a ∷ h))
          ≤ tally never (fails given) (Dispatch t w p o e a ∷ h) = omega arith in le
    ]
failed-few given (Success t answer ∷ h) legal =
    let before : tally never (failed_results given) h + count (in_vain given) (open_jobs h) ≤ tally never (fails given) h =
    failed-few given h legal.2 in
    let less : count (in_vain given) (open_jobs (Success t answer ∷ h)) ≤ count (in_vain given) (open_jobs h) =
    settled-most given (in_vain given) (Success t answer) h t refl (λ u. refl) in omega arith
failed-few given (Failure t code ready ∷ h) legal =
    let before : tally never (failed_results given) h + count (in_vain given) (open_jobs h) ≤ tally never (fails given) h =
    failed-few given h legal.2 in
    let job = out-open h t legal.0.outstanding in
    let bad : job_outcome given job.0 ≡ Some (Bad code) = outcome-of given h t job.0 (Bad code) job.1 legal.0.outcome in
    let vain : in_vain given job.0 ≡ true = ap is_failing bad in
    let less : suc (count (in_vain given) (open_jobs (Failure t code ready ∷ h))) ≤ count (in_vain given) (open_jobs h) =
    settled-less given (in_vain given) (Failure t code ready) h t refl (λ u. refl) job.0 job.2 job.3 vain in omega arith
failed-few given (Stale t ∷ h) legal =
    let before : tally never (failed_results given) h + count (in_vain given) (open_jobs h) ≤ tally never (fails given) h =
    failed-few given h legal.2 in
    let job = out-open h t legal.0.outstanding in
    elim (cases_Bool (is_failing (ticket_outcome given h t))) [
      | inl bad ↦
          let vain : in_vain given job.0 ≡ true = ap is_failing (sym (ticket-of given h t job.0 job.1)) ∙ bad in
          let less : suc (count (in_vain given) (open_jobs (Stale t ∷ h))) ≤ count (in_vain given) (open_jobs h) =
          settled-less given (in_vain given) (Stale t) h t refl (λ u. refl) job.0 job.2 job.3 vain in
          rw bad (omega arith)
      | inr good ↦
          let less : count (in_vain given) (open_jobs (Stale t ∷ h)) ≤ count (in_vain given) (open_jobs h) =
          settled-most given (in_vain given) (Stale t) h t refl (λ u. refl) in rw good (omega arith)
    ]
failed-few given (v ∷ h) legal = failed-few given h legal.2

-- ---- ticks that a record waits for

abbrev HasReady : List Event → ℕ → Type 0
HasReady [] r = ⊥
HasReady (Failure t code ready ∷ h) r = (ready ≡ r) ⊎ HasReady h r
HasReady (v ∷ h) r = HasReady h r

ready-of : (h : List Event) (p e o r : ℕ) → ready_in h p e o ≡ r → 0 < r → HasReady h r
ready-of [] p e o r is some = absurd (omega arith)
ready-of (Failure t code ready ∷ h) p e o r is some = elim (cases_Bool (is_job_at (job_of h t) p e o)) [
  | inl at ↦ inl (rw at at is)
  | inr apart ↦ inr (ready-of h p e o r (rw apart at is) some)
]
ready-of (Assign q epoch position text ∷ h) p e o r is some = ready-of h p e o r is some
ready-of (Poll q count last ∷ h) p e o r is some = ready-of h p e o r is some
ready-of (Dispatch t w q u x a ∷ h) p e o r is some = ready-of h p e o r is some
ready-of (Success t answer ∷ h) p e o r is some = ready-of h p e o r is some
ready-of (Stale t ∷ h) p e o r is some = ready-of h p e o r is some
ready-of (Committed q position text size ∷ h) p e o r is some = ready-of h p e o r is some
ready-of (CommitFailed q position text size ∷ h) p e o r is some = ready-of h p e o r is some
ready-of (Revoke q epoch ∷ h) p e o r is some = ready-of h p e o r is some
ready-of (Lost q epoch ∷ h) p e o r is some = ready-of h p e o r is some
ready-of (Crash ∷ h) p e o r is some = ready-of h p e o r is some
ready-of (Tick now ∷ h) p e o r is some = ready-of h p e o r is some
ready-of (Drain ∷ h) p e o r is some = ready-of h p e o r is some
ready-of (Done ∷ h) p e o r is some = ready-of h p e o r is some
ready-of (Closed ∷ h) p e o r is some = ready-of h p e o r is some

In-flat_map : {X Y : Type 0} (f : X → List Y) (y : Y) (xs : List X) → In y (flat_map f xs)
    → (x : X) × In x xs × In y (f x)
In-flat_map f y [] i = absurd i
In-flat_map f y (x ∷ xs) i = elim (In-append y (f x) (flat_map f xs) i) [
  | inl here ↦ (x, inl refl, here)
  | inr there ↦ let rest = In-flat_map f y xs there in (rest.0, inr rest.1, rest.2)
]

-- a failure whose time is still to come and not after this one
time-ready : (given : Given) (h : List Event) (now : ℕ) → is_time given h now ≡ true
    → (r : ℕ) × HasReady h r × (now_of h < r) × (r ≤ now)
unfolding next_time
time-ready given h now is = elim (option_cases (least_of (flat_map (waiting_times given h) (held_parts given h)))) [
  | inl none ↦ let nothing = rw none at is in cc nothing
  | inr some ↦
      let upto : some.0 ≤ now = leb-true some.0 now (rw some.1 at is) in
      let of = In-flat_map (waiting_times given h) some.0 (held_parts given h)
      (least_of-In some.0 (flat_map (waiting_times given h) (held_parts given h)) some.1) in
      let r = In-mapped (λ (x : Record). ready_of h of.0 x.offset) some.0
      (filter (is_waiting given h of.0) (open_records given h of.0)) of.2 in
      let waits : is_waiting given h of.0 r.0 ≡ true =
      (In-filtered (is_waiting given h of.0) r.0 (open_records given h of.0) r.1).1 in
      let later : now_of h < ready_of h of.0 r.0.offset = ltb-true (now_of h) (ready_of h of.0 r.0.offset)
      (and-right _ _ waits) in
      let at : ready_of h of.0 r.0.offset ≡ some.0 = r.2 in
      let still : now_of h < some.0 = omega arith in
      (some.0, ready-of h of.0 (epoch_of h of.0) r.0.offset some.0 at (omega arith), still, upto)
]

ready-le : (m n : ℕ) → m ≤ n → (e : Event) (h : List Event) → anything (e ∷ h) → ready_by m e h ≡ true
    → ready_by n e h ≡ true
ready-le m n le (Failure t code ready) h at before =
    let low : ready ≤ m = leb-true ready m before in le-leb ready n (omega arith)
ready-le m n le e h at before = cc

ready-more : (m n : ℕ) (h : List Event) → m ≤ n → tally never (ready_by m) h ≤ tally never (ready_by n) h
ready-more m n h le = tally-le {P = anything} never (ready_by m) (ready_by n) any-before (ready-le m n le) h (some-thing h)

-- one failure more by the later time
ready-one : (m n r : ℕ) (h : List Event) → HasReady h r → m < r → r ≤ n
    → suc (tally never (ready_by m) h) ≤ tally never (ready_by n) h
ready-one m n r [] has low high = absurd has
ready-one m n r (Failure t code ready ∷ h) (inl is) low high =
    let rest : tally never (ready_by m) h ≤ tally never (ready_by n) h = ready-more m n h (omega arith) in
    let after : nat_le ready m ≡ false = elim (cases_Bool (nat_le ready m)) [
      | inr still ↦ still
      | inl before ↦ let le : ready ≤ m = leb-true ready m before in absurd (omega arith)
    ] in
    let upto : nat_le ready n ≡ true = le-leb ready n (omega arith) in
    rw (after, upto) (omega arith)
ready-one m n r (Failure t code ready ∷ h) (inr has) low high =
    let rest : suc (tally never (ready_by m) h) ≤ tally never (ready_by n) h = ready-one m n r h has low high in
    elim (cases_Bool (nat_le ready m)) [
      | inr after ↦ let up : tally never (ready_by n) h ≤ add_if (nat_le ready n) (tally never (ready_by n) h) =
          add_if-le (nat_le ready n) (tally never (ready_by n) h) in rw after (omega arith)
      | inl before ↦
          let le : ready ≤ m = leb-true ready m before in
          let upto : nat_le ready n ≡ true = le-leb ready n (omega arith) in
          rw (before, upto) (omega arith)
    ]
ready-one m n r (Assign q epoch position text ∷ h) has low high = ready-one m n r h has low high
ready-one m n r (Poll q count last ∷ h) has low high = ready-one m n r h has low high
ready-one m n r (Dispatch t w q u x a ∷ h) has low high = ready-one m n r h has low high
ready-one m n r (Success t answer ∷ h) has low high = ready-one m n r h has low high
ready-one m n r (Stale t ∷ h) has low high = ready-one m n r h has low high
ready-one m n r (Committed q position text size ∷ h) has low high = ready-one m n r h has low high
ready-one m n r (CommitFailed q position text size ∷ h) has low high = ready-one m n r h has low high
ready-one m n r (Revoke q epoch ∷ h) has low high = ready-one m n r h has low high
ready-one m n r (Lost q epoch ∷ h) has low high = ready-one m n r h has low high
ready-one m n r (Crash ∷ h) has low high = ready-one m n r h has low high
ready-one m n r (Tick now ∷ h) has low high = ready-one m n r h has low high
ready-one m n r (Drain ∷ h) has low high = ready-one m n r h has low high
ready-one m n r (Done ∷ h) has low high = ready-one m n r h has low high
ready-one m n r (Closed ∷ h) has low high = ready-one m n r h has low high

due-ready : (given : Given) (h : List Event) → IsLegal given h
    → tally never (due_ticks given) h ≤ tally never (ready_by (now_of h)) h
due-ready given [] legal = omega arith
due-ready given (Tick now ∷ h) legal =
    let before : tally never (due_ticks given) h ≤ tally never (ready_by (now_of h)) h = due-ready given h legal.2 in
    let later : now_of h < now = legal.0 in
    elim (cases_Bool (is_time given h now)) [
      | inl due ↦
          let at = time-ready given h now due in
          let one : suc (tally never (ready_by (now_of h)) h) ≤ tally never (ready_by now) h =
          ready-one (now_of h) now at.0 h at.1 at.2 at.3 in
          rw due (omega arith)
      | inr early ↦
          let more : tally never (ready_by (now_of h)) h ≤ tally never (ready_by now) h =
          ready-more (now_of h) now h (omega arith) in
          rw early (omega arith)
    ]
due-ready given (Failure t code ready ∷ h) legal =
    let before : tally never (due_ticks given) h ≤ tally never (ready_by (now_of h)) h = due-ready given h legal.2 in
    let up : tally never (ready_by (now_of h)) h ≤ add_if (nat_le ready (now_of h)) (tally never (ready_by (now_of h)) h) =
    add_if-le (nat_le ready (now_of h)) (tally never (ready_by (now_of h)) h) in omega arith
due-ready given (v ∷ h) legal = due-ready given h legal.2

ready-failed : (given : Given) (n : ℕ) (e : Event) (h : List Event) → anything (e ∷ h) → ready_by n e h ≡ true
    → failed_results given e h ≡ true
ready-failed given n (Failure t code ready) h at is = refl
ready-failed given n e h at is = cc

pub due-few : (given : Given) (h : List Event) → IsLegal given h
    → tally never (due_ticks given) h ≤ tally never (fails given) h
due-few given h legal =
    let ready : tally never (due_ticks given) h ≤ tally never (ready_by (now_of h)) h = due-ready given h legal in
    let failed : tally never (ready_by (now_of h)) h ≤ tally never (failed_results given) h =
    tally-le {P = anything} never (ready_by (now_of h)) (failed_results given) any-before (ready-failed given (now_of h)) h (some-thing h) in
    let few : tally never (failed_results given) h + count (in_vain given) (open_jobs h) ≤ tally never (fails given) h =
    failed-few given h legal in
    omega arith

-- ---- ticks before a failure

abbrev last_early : Given → List Event → ℕ
last_early given [] = 0
last_early given (e ∷ h) = add_if (early_ticks given e h) 0

-- the result of a failure comes right after such a tick
early-then : (given : Given) (h : List Event) (e : Event) → goes_with given h e ≡ true
    → last_early given h ≤ add_if (failed_results given e h) 0
early-then given [] e goes = omega arith
early-then given (Tick now ∷ h) e goes = elim (or-cases (is_time given h now) (is_failed_result given (Tick now ∷ h) e) goes) [
  | inl due ↦ rw due (omega arith)
  | inr failed ↦ let one : add_if (failed_results given e (Tick now ∷ h)) 0 ≡ 1 = rw failed refl in
      let most : add_if (not (is_time given h now)) 0 ≤ 1 = add_if-one (not (is_time given h now)) in omega arith
]
early-then given (Assign q epoch position text ∷ h) e goes = omega arith
early-then given (Poll q count last ∷ h) e goes = omega arith
early-then given (Dispatch t w q u x a ∷ h) e goes = omega arith
early-then given (Success t answer ∷ h) e goes = omega arith
early-then given (Failure t code ready ∷ h) e goes = omega arith
early-then given (Stale t ∷ h) e goes = omega arith
early-then given (Committed q position text size ∷ h) e goes = omega arith
early-then given (CommitFailed q position text size ∷ h) e goes = omega arith
early-then given (Revoke q epoch ∷ h) e goes = omega arith
early-then given (Lost q epoch ∷ h) e goes = omega arith
early-then given (Crash ∷ h) e goes = omega arith
early-then given (Drain ∷ h) e goes = omega arith
early-then given (Done ∷ h) e goes = omega arith
early-then given (Closed ∷ h) e goes = omega arith

early-failed : (given : Given) (steps : List Step) (h : List Event) → is_paced given steps h ≡ true
    → tally never (early_ticks given) h ≤ tally never (failed_results given) h + last_early given h
early-failed given steps [] pace = omega arith
early-failed given steps (e ∷ h) pace =
    let before : tally never (early_ticks given) h ≤ tally never (failed_results given) h + last_early given h =
    early-failed given steps h (paced-before given steps e h pace) in
    let then : last_early given h ≤ add_if (failed_results given e h) 0 = early-then given h e (paced-with given steps e h pace) in
    let early : tally never (early_ticks given) (e ∷ h) ≡ add_if (early_ticks given e h) 0 + tally never (early_ticks given) h =
    add_if-apart (early_ticks given e h) (tally never (early_ticks given) h) in
    let failed : tally never (failed_results given) (e ∷ h)
    ≡ add_if (failed_results given e h) 0 + tally never (failed_results given) h =
    add_if-apart (failed_results given e h) (tally never (failed_results given) h) in
    let le : tally never (early_ticks given) (e ∷ h)
    ≤ tally never (failed_results given) (e ∷ h) + add_if (early_ticks given e h) 0 = omega arith in le

-- where one stands last, a job is out in vain
early-out : (given : Given) (steps : List Step) (h : List Event) → is_paced given steps h ≡ true
    → last_early given h ≤ count (in_vain given) (open_jobs h)
early-out given steps [] pace = omega arith
early-out given steps (Tick now ∷ h) pace =
    elim (or-cases (is_time given h now) (list_any (in_vain given) (open_jobs h)) (paced-now given steps (Tick now) h pace)) [
      | inl due ↦ rw due (omega arith)
      | inr vain ↦
          let job = In-list_any (in_vain given) (open_jobs h) vain in
          let some : 1 ≤ count (in_vain given) (open_jobs h) = count-some (in_vain given) job.0 (open_jobs h) job.1 job.2 in
          let most : add_if (not (is_time given h now)) 0 ≤ 1 = add_if-one (not (is_time given h now)) in
          let le : add_if (not (is_time given h now)) 0 ≤ count (in_vain given) (open_jobs h) = omega arith in le
    ]
early-out given steps (Assign q epoch position text ∷ h) pace = omega arith
early-out given steps (Poll q count last ∷ h) pace = omega arith
early-out given steps (Dispatch t w q u x a ∷ h) pace = omega arith
early-out given steps (Success t answer ∷ h) pace = omega arith
early-out given steps (Failure t code ready ∷ h) pace = omega arith
early-out given steps (Stale t ∷ h) pace = omega arith
early-out given steps (Committed q position text size ∷ h) pace = omega arith
early-out given steps (CommitFailed q position text size ∷ h) pace = omega arith
early-out given steps (Revoke q epoch ∷ h) pace = omega arith
early-out given steps (Lost q epoch ∷ h) pace = omega arith
early-out given steps (Crash ∷ h) pace = omega arith
early-out given steps (Drain ∷ h) pace = omega arith
early-out given steps (Done ∷ h) pace = omega arith
early-out given steps (Closed ∷ h) pace = omega arith

pub early-few : (given : Given) (steps : List Step) (h : List Event) → IsLegal given h
    → is_paced given steps h ≡ true → tally never (early_ticks given) h ≤ tally never (fails given) h
early-few given steps h legal pace =
    let early : tally never (early_ticks given) h ≤ tally never (failed_results given) h + last_early given h =
    early-failed given steps h pace in
    let out : last_early given h ≤ count (in_vain given) (open_jobs h) = early-out given steps h pace in
    let few : tally never (failed_results given) h + count (in_vain given) (open_jobs h) ≤ tally never (fails given) h =
    failed-few given h legal in
    omega arith
