-- What every legal history keeps of its jobs.
use Rattle.std.proofs.Common.{◌≡◌, ◌⊎◌, ℕ, zero, suc, ◌+◌, ◌≤◌, ◌<◌, Bool, true, false, not, ◌&&◌, ◌||◌, ◌==◌, List, [], ◌∷◌, take, Option, Some, None, refl, ap, sym, subst, ◌∙◌, arith, inl, inr, eq-eqb}
use Rattle.std.specs.Prelude.{find, is_some, option_map}
use Rattle.std.specs.Option.{option_map_or}
use Rattle.std.proofs.lemmas.Bool.{cases_Bool, eqb-true}
use Rattle.std.proofs.lemmas.Slice.Eq.{bytes_eq-Decides}
use Rattle.pc_model.specs.declared.event.Event.{Event}
use Rattle.pc_model.specs.declared.event.Event.TheVariants.{Assign, Poll, Dispatch, Success, Failure, Stale, Commit as Committed, CommitFailed, Revoke, Lost, Crash, Tick, Drain, Done, Closed}
use Rattle.pc_model.specs.Record.{Record}
use Rattle.pc_model.specs.Given.{Given, records_of, record_at}
use Rattle.pc_model.specs.Jobs.{Job, jobs_of, job_of, open_jobs, settles, is_settled, is_outstanding}
use Rattle.pc_model.specs.Epochs.{moves, is_assign, epoch_of, is_held, is_current, is_current_ticket}
use Rattle.pc_model.specs.Known.{polled_records, unpolled_records, is_complete}
use Rattle.pc_model.specs.Retry.{failures_of, failures_in}
use Rattle.pc_model.specs.Next.{OrderingKey, ordering_key, same_key, same_bytes, job_key, has_key, is_busy, is_eligible_record}
use Rattle.pc_model.specs.Next.OrderingKey.{OfRecord, OfPart, OfKey}
use Rattle.pc_model.specs.Lawful.{IsLegal, DispatchIsLawful}
use Rattle.pc_model.specs.OneMore.{SamePart, touches, is_job_of_part}
use Rattle.pc_model.proofs.SamePart.{other_part}
use Rattle.pc_model.proofs.ListLemmas.{same_number}
use Rattle.pc_model.proofs.KnownLaws.{polled_records-same, is_complete-same, polled_records-poll, is_complete-poll, is_complete-success}
use Rattle.pc_model.proofs.RetryLaws.{failures_in-failure}
use Rattle.pc_laws.specs.Lists.{In}
use Rattle.pc_laws.specs.Kept.{IsWorking, KeepsJobs}
use Rattle.pc_laws.proofs.Lists.{and-left, and-right, not-true, true-not-false, In-filter, In-filtered, In-find, list_any-In, In-append_left}
use Rattle.pc_laws.proofs.Rising.{Rises-same, legal-rises}
use Rattle.pc_laws.proofs.Passing.{option_cases}
use Rattle.pc_laws.proofs.OrderlyLaw.{next_record-In, polled-record, eligible-free}

-- ---- keys

pub same_key-refl : (k : OrderingKey) → same_key k k ≡ true
same_key-refl (OfRecord p o) = rw (same_number p, same_number o) refl
same_key-refl (OfPart p) = same_number p
same_key-refl (OfKey p None) = rw (same_number p) refl
same_key-refl (OfKey p (Some a)) = rw (same_number p, (bytes_eq-Decides a a).1 refl) refl

bytes-true : (a b : Option (List ℕ)) → same_bytes a b ≡ true → a ≡ b
bytes-true None None e = refl
bytes-true (Some a) (Some b) e = ap (λ (x : List ℕ). Some x) ((bytes_eq-Decides a b).0 e)
bytes-true None (Some b) e = cc
bytes-true (Some a) None e = cc

same_key-true : (a b : OrderingKey) → same_key a b ≡ true → a ≡ b
same_key-true (OfRecord p o) (OfRecord q u) e =
    ap (λ (x : ℕ). OfRecord x o) (eqb-true p q (and-left _ _ e)) ∙ ap (λ (x : ℕ). OfRecord q x)
    (eqb-true o u (and-right (p == q) _ e))
same_key-true (OfRecord p o) (OfPart q) e = cc
same_key-true (OfRecord p o) (OfKey q b) e = cc
same_key-true (OfPart p) (OfRecord q u) e = cc
same_key-true (OfPart p) (OfPart q) e = ap (λ (x : ℕ). OfPart x) (eqb-true p q e)
same_key-true (OfPart p) (OfKey q b) e = cc
same_key-true (OfKey p a) (OfRecord q u) e = cc
same_key-true (OfKey p a) (OfPart q) e = cc
same_key-true (OfKey p a) (OfKey q b) e =
    ap (λ (x : ℕ). OfKey x a) (eqb-true p q (and-left _ _ e))
    ∙ ap (λ (x : Option (List ℕ)). OfKey q x) (bytes-true a b (and-right (p == q) _ e))

-- ---- the jobs that are out, after an event that dispatches none

or-false-left : (a b : Bool) → (a || b) ≡ false → a ≡ false
or-false-left false b e = refl
or-false-left true b e = e

or-false-right : (a b : Bool) → (a || b) ≡ false → b ≡ false
or-false-right false b e = e
or-false-right true b e = cc

pub open-before : (v : Event) (h : List Event) (j : Job) → jobs_of (v ∷ h) ≡ jobs_of h → In j
    (open_jobs (v ∷ h))
    → In j (open_jobs h) × (settles v j.ticket ≡ false)
open-before v h j same i =
    let at = In-filtered (λ (x : Job). not (settles v x.ticket || is_settled h x.ticket)) j
    (jobs_of (v ∷ h)) i in
    let out : (settles v j.ticket || is_settled h j.ticket) ≡ false = not-true _ at.1 in
    let before : In j (jobs_of h) = rw same at at.0 in (
      In-filter (λ (x : Job). not (is_settled h x.ticket)) j (jobs_of h) before
          (ap not (or-false-right (settles v j.ticket) (is_settled h j.ticket) out)),
      or-false-left (settles v j.ticket) (is_settled h j.ticket) out,
    )

-- a job that is out was dispatched
pub open-job : (h : List Event) (j : Job) → In j (open_jobs h) → In j (jobs_of h)
open-job h j i = (In-filtered (λ (x : Job). not (is_settled h x.ticket)) j (jobs_of h) i).0

-- ---- one more event that dispatches none

module _ (given : Given) (v : Event) (h : List Event) (keeps : KeepsJobs given h)
    (same : jobs_of (v ∷ h) ≡ jobs_of h) where
  jobs-more : ((j : Job) → In j (jobs_of h) →
      (j.epoch < epoch_of (v ∷ h) j.part) ⊎
      ((j.epoch ≡ epoch_of (v ∷ h) j.part) × (is_held (v ∷ h) j.part ≡ true)))
      → ((j : Job) → In j (open_jobs h) → settles v j.ticket ≡ false → is_current (v ∷ h) j ≡ true →
      (is_current h j ≡ true) × IsWorking given (v ∷ h) j)
      → KeepsJobs given (v ∷ h)
  jobs-more past step = record {
    past = λ j i. past j (rw same at i);
    working = λ j i current. let before = open-before v h j same i in
        (step j before.0 before.1 current).1;
    alone = λ i j key a b ci cj ki kj.
        let at = open-before v h i same a in let bt = open-before v h j same b in
        keeps.alone i j key at.0 bt.0 (step i at.0 at.1 ci).0 (step j bt.0 bt.1 cj).0 ki kj;
  }

  -- nothing of the job's part changes
  same-past : (j : Job) → SamePart given j.part h (v ∷ h) → In j (jobs_of h)
      → (j.epoch < epoch_of (v ∷ h) j.part) ⊎
      ((j.epoch ≡ epoch_of (v ∷ h) j.part) × (is_held (v ∷ h) j.part ≡ true))
  same-past j part i = rw (part.epoch, part.held) (keeps.past j i)

  same-step : (j : Job) → SamePart given j.part h (v ∷ h) → In j (open_jobs h) → is_current
      (v ∷ h) j ≡ true
      → (is_current h j ≡ true) × IsWorking given (v ∷ h) j
  same-step j part i current =
      let before : is_current h j ≡ true = rw (part.held, part.epoch) at current in
      let w = keeps.working j i before in (
        before,
        record {
          polled = (
            w.polled.0,
            rw (polled_records-same given j.part h (v ∷ h) part) w.polled.1,
            w.polled.2,
          );
          incomplete = is_complete-same given j.part h (v ∷ h) part j.offset ∙ w.incomplete;
          attempt = w.attempt ∙ ap (λ (n : ℕ). n + 1)
              (sym (part.failures (epoch_of (v ∷ h) j.part) j.offset ∙ ap
              (λ (e : ℕ). failures_in h j.part e j.offset) part.epoch));
        },
      )

-- ---- an epoch that begins or ends

still-past : (e n : ℕ) (held : Bool) → (e < n) ⊎ ((e ≡ n) × (held ≡ true)) → e < n + 1
still-past e n held (inl lt) = omega arith
still-past e n held (inr same) = let is : e ≡ n = same.0 in omega arith

pub not-current : (e n : ℕ) (held before : Bool) → (e < n) ⊎ ((e ≡ n) × (before ≡ true)) →
    (held && (e == n + 1)) ≡ true → ⊥
not-current e n held before past current =
    let is : e ≡ n + 1 = eqb-true e (n + 1) (and-right held _ current) in
    let lt : e < n + 1 = still-past e n before past in omega arith

-- ---- what a poll adds

take-up : {X : Type 0} (k m : ℕ) (x : X) (xs : List X) → k ≤ m → In x (take k xs) → In x (take m xs)
take-up zero m x xs le i = absurd i
take-up (suc k) m x [] le i = absurd i
take-up (suc k) zero x (y ∷ ys) le i = absurd (omega arith)
take-up (suc k) (suc m) x (y ∷ ys) le (inl same) = inl same
take-up (suc k) (suc m) x (y ∷ ys) le (inr i) = inr (take-up k m x ys (omega arith) i)

-- ---- the job of a ticket

pub job-of : (h : List Event) (t : ℕ) (j : Job) → job_of h t ≡ Some j → In j (jobs_of h) ×
    (j.ticket ≡ t)
job-of h t j found = let at = In-find (λ (x : Job). x.ticket == t) j (jobs_of h) found in
    (at.0, eqb-true j.ticket t at.1)

-- a ticket that is out and current has a job that is so
pub out-job : (h : List Event) (t : ℕ) → is_outstanding h t ≡ true → is_current_ticket h t ≡ true
    → (j : Job) × (job_of h t ≡ Some j) × In j (open_jobs h) × (is_current h j ≡ true) ×
    (j.ticket ≡ t)
out-job h t out current = elim (option_cases (job_of h t)) [
  | inl none ↦ let nothing = rw none at current in cc nothing
  | inr some ↦
      let at = job-of h t some.0 some.1 in
      let now : is_current h some.0 ≡ true = rw some.1 at current in
      let unsettled : not (is_settled h t) ≡ true = and-right (is_some (job_of h t)) _ out in (
        some.0,
        some.1,
        In-filter (λ (x : Job). not (is_settled h x.ticket)) some.0 (jobs_of h) at.0
            (rw at.1 unsettled),
        now,
        at.1,
      )
]

-- ---- two jobs at one offset have one key

pub find-some : (o : ℕ) (r : Record) (rs : List Record) → In r rs → r.offset ≡ o →
    (q : Record) × (find (λ x. x.offset == o) rs ≡ Some q)
find-some o r [] i at = absurd i
find-some o r (q ∷ qs) (inl same) at =
    let test : (q.offset == o) ≡ true = rw (← same, at) (same_number o) in (q, rw test refl)
find-some o r (q ∷ qs) (inr i) at = elim (cases_Bool (q.offset == o)) [
  | inl here ↦ (q, rw here refl)
  | inr later ↦ rw later (find-some o r qs i at)
]

at-one-offset : (given : Given) (i j : Job) → i.part ≡ j.part → i.offset ≡ j.offset →
    job_key given i ≡ job_key given j
at-one-offset given i j part offset =
    ap (λ (p : ℕ). option_map (ordering_key given.setup.settings.order p) (record_at given p i.offset)) part
    ∙ ap (λ (o : ℕ). option_map (ordering_key given.setup.settings.order j.part) (record_at given j.part o))
    offset

pub has-own-key : (given : Given) (j : Job) (k : OrderingKey) → job_key given j ≡ Some k →
    has_key given k j ≡ true
has-own-key given j k is = rw is (same_key-refl k)

-- a job at work has a key
working-key : (given : Given) (h : List Event) (j : Job) → IsWorking given h j →
    (k : OrderingKey) × (job_key given j ≡ Some k)
unfolding polled_records
working-key given h j w =
    let log = polled-record given h j.part w.polled.0 w.polled.1 in
    let found = find-some j.offset w.polled.0 (records_of given j.part) log.0 w.polled.2 in
    (ordering_key given.setup.settings.order j.part found.0, rw found.1 refl)

-- two current jobs that are out at one offset have one ticket
module _ (given : Given) (h : List Event) (keeps : KeepsJobs given h) (i j : Job)
    (a : In i (open_jobs h)) (b : In j (open_jobs h))
    (ci : is_current h i ≡ true) (cj : is_current h j ≡ true) (part : i.part ≡ j.part)
    (offset : i.offset ≡ j.offset) where
  one-ticket : i.ticket ≡ j.ticket
  one-ticket =
      let key = working-key given h j (keeps.working j b cj) in
      keeps.alone i j key.0 a b ci cj
      (has-own-key given i key.0 (at-one-offset given i j part offset ∙ key.1))
      (has-own-key given j key.0 key.1)

-- ---- a result of a job at the same part

module _ (given : Given) (h : List Event) (keeps : KeepsJobs given h) (t : ℕ) (i j : Job)
    (found : job_of h t ≡ Some i)
    (a : In i (open_jobs h)) (ci : is_current h i ≡ true) (ticket : i.ticket ≡ t)
    (b : In j (open_jobs h)) (part : i.part ≡ j.part)
    (apart : (t == j.ticket) ≡ false) where
  other-offset : is_current h j ≡ true → (i.offset == j.offset) ≡ false
  other-offset cj = elim (cases_Bool (i.offset == j.offset)) [
    | inr other ↦ other
    | inl same ↦
        let one : i.ticket ≡ j.ticket = one-ticket given h keeps i j a b ci cj part
        (eqb-true i.offset j.offset same) in
        true-not-false (t == j.ticket) (eq-eqb t j.ticket (sym ticket ∙ one)) apart
  ]

  epoch-is : (i.epoch == epoch_of h i.part) ≡ true
  epoch-is = and-right (is_held h i.part) _ ci

  success-step : (answer : List ℕ) → is_current h j ≡ true → IsWorking given
      (Success t answer ∷ h) j
  unfolding polled_records
  success-step answer cj =
      let w = keeps.working j b cj in
      record {
        polled = w.polled;
        incomplete = subst (λ (p : ℕ). is_complete (Success t answer ∷ h) p j.offset ≡ false) part
            (is_complete-success given h t answer i found epoch-is j.offset
            ∙ rw (other-offset cj, part) w.incomplete);
        attempt = w.attempt;
      }

  failure-step : (code ready : ℕ) → is_current h j ≡ true → IsWorking given
      (Failure t code ready ∷ h) j
  unfolding polled_records is_complete
  failure-step code ready cj =
      let w = keeps.working j b cj in
      let none : failures_of (Failure t code ready ∷ h) j.part j.offset
      ≡ failures_of h j.part j.offset =
      subst (λ (p : ℕ). failures_in (Failure t code ready ∷ h) p (epoch_of h p) j.offset
      ≡ failures_in h p (epoch_of h p) j.offset) part
      (failures_in-failure h t code ready i found (epoch_of h i.part) j.offset ∙ rw
      (other-offset cj, epoch-is) refl) in
      record {
        polled = w.polled;
        incomplete = w.incomplete;
        attempt = w.attempt ∙ ap (λ (n : ℕ). n + 1) (sym none);
      }

-- ---- one more event, by its kind

module _ (given : Given) (v : Event) (h : List Event) (keeps : KeepsJobs given h) (j : Job) where
  -- an epoch of the job's part begins or ends
  moved-past : moves v j.part ≡ true → In j (jobs_of h)
      → (j.epoch < epoch_of (v ∷ h) j.part) ⊎
      ((j.epoch ≡ epoch_of (v ∷ h) j.part) × (is_held (v ∷ h) j.part ≡ true))
  moved-past moved i = rw moved
      (inl (still-past j.epoch (epoch_of h j.part) (is_held h j.part) (keeps.past j i)))

  moved-step : moves v j.part ≡ true → In j (open_jobs h) → is_current (v ∷ h) j ≡ true
      → (is_current h j ≡ true) × IsWorking given (v ∷ h) j
  moved-step moved i current = absurd
      (not-current j.epoch (epoch_of h j.part) (is_assign v) (is_held h j.part)
      (keeps.past j (open-job h j i)) (rw moved at current))

module _ (given : Given) (v : Event) (h : List Event) (keeps : KeepsJobs given h)
    (same : jobs_of (v ∷ h) ≡ jobs_of h)
    (quiet : (p : ℕ) → moves v p ≡ false → touches v h p ≡ false) where
  -- an event that begins or ends an epoch, or does nothing to a part
  keeps-epochs : KeepsJobs given (v ∷ h)
  keeps-epochs = jobs-more given v h keeps same
      (λ j i. elim (cases_Bool (moves v j.part)) [
        | inl moved ↦ moved-past given v h keeps j moved i
        | inr still ↦ same-past given v h keeps same j
            (other_part given j.part v h (quiet j.part still)) i
      ])
      (λ j i s current. elim (cases_Bool (moves v j.part)) [
        | inl moved ↦ moved-step given v h keeps j moved i current
        | inr still ↦ same-step given v h keeps same j
            (other_part given j.part v h (quiet j.part still)) i current
      ])

keeps-poll : (given : Given) (h : List Event) (q count last : ℕ) → KeepsJobs given h →
    KeepsJobs given (Poll q count last ∷ h)
keeps-poll given h q count last keeps = jobs-more given (Poll q count last) h keeps refl
    (λ j i. keeps.past j i)
    (λ j i s current. let w = keeps.working j i current in (
      current,
      elim (cases_Bool (q == j.part)) [
        | inr apart ↦ (same-step given (Poll q count last) h keeps refl j
            (other_part given j.part (Poll q count last) h apart) i current).1
        | inl same ↦ subst (λ (u : ℕ). IsWorking given (Poll u count last ∷ h) j)
            (sym (eqb-true q j.part same)) (record {
              polled = (
                w.polled.0,
                rw (polled_records-poll given h j.part count last)
                    (In-append_left w.polled.0 (polled_records given h j.part)
                    (take count (unpolled_records given h j.part)) w.polled.1),
                w.polled.2,
              );
              incomplete = is_complete-poll given h j.part count last j.offset ∙ w.incomplete;
              attempt = w.attempt;
            })
      ],
    ))

at-part : (h : List Event) (t p : ℕ) (i : Job) → job_of h t ≡ Some i → is_job_of_part (job_of h t) p
    ≡ true → i.part ≡ p
at-part h t p i found of = let test : (i.part == p) ≡ true = rw found at of
    in eqb-true i.part p test

keeps-success : (given : Given) (h : List Event) (t : ℕ) (answer : List ℕ) → KeepsJobs given h →
    is_outstanding h t ≡ true
    → is_current_ticket h t ≡ true → KeepsJobs given (Success t answer ∷ h)
keeps-success given h t answer keeps out now =
    let at = out-job h t out now in
    jobs-more given (Success t answer) h keeps refl (λ j i. keeps.past j i)
    (λ j b s current. (
      current,
      elim (cases_Bool (is_job_of_part (job_of h t) j.part)) [
        | inr apart ↦ (same-step given (Success t answer) h keeps refl j
            (other_part given j.part (Success t answer) h apart) b current).1
        | inl of ↦ success-step given h keeps t at.0 j at.1 at.2 at.3 at.4 b
            (at-part h t j.part at.0 at.1 of) s answer current
      ],
    ))

keeps-failure : (given : Given) (h : List Event) (t code ready : ℕ) → KeepsJobs given h →
    is_outstanding h t ≡ true
    → is_current_ticket h t ≡ true → KeepsJobs given (Failure t code ready ∷ h)
keeps-failure given h t code ready keeps out now =
    let at = out-job h t out now in
    jobs-more given (Failure t code ready) h keeps refl (λ j i. keeps.past j i)
    (λ j b s current. (
      current,
      elim (cases_Bool (is_job_of_part (job_of h t) j.part)) [
        | inr apart ↦ (same-step given (Failure t code ready) h keeps refl j
            (other_part given j.part (Failure t code ready) h apart) b current).1
        | inl of ↦ failure-step given h keeps t at.0 j at.1 at.2 at.3 at.4 b
            (at-part h t j.part at.0 at.1 of) s code ready current
      ],
    ))

-- ---- a dispatch

pub dispatch-key : (given : Given) (h : List Event) (p o : ℕ) (r : Record) (key : OrderingKey) →
    IsLegal given h
    → In r (polled_records given h p) → r.offset ≡ o
    → option_map_or (same_key key)
    (option_map (ordering_key given.setup.settings.order p) (record_at given p o)) false ≡ true
    → key ≡ ordering_key given.setup.settings.order p r
dispatch-key given h p o r key legal polled offset has = elim (option_cases (record_at given p o)) [
  | inl none ↦ let nothing = rw none at has in cc nothing
  | inr some ↦
      let test : same_key key (ordering_key given.setup.settings.order p some.0) ≡ true = rw some.1 at has in
      let here = In-find (λ x. x.offset == o) some.0 (records_of given p) some.1 in
      let log = polled-record given h p r polled in
      let is : some.0 ≡ r = Rises-same 0 some.0 r (records_of given p)
      (legal-rises given h legal p) here.0 log.0
      (eqb-true some.0.offset o here.1 ∙ sym offset) in
      same_key-true key (ordering_key given.setup.settings.order p some.0) test ∙ ap
      (ordering_key given.setup.settings.order p) is
]

module _ (given : Given) (h : List Event) (keeps : KeepsJobs given h) (legal : IsLegal given h)
    (t w p o e a : ℕ)
    (lawful : DispatchIsLawful given h t w p o e a) where
  new : Job
  new = record { ticket = t; worker = w; part = p; offset = o; epoch = e; attempt = a }

  next : (is_held h p ≡ true) ×
      ((r : Record) × In r (polled_records given h p) × (r.offset ≡ o) ×
      (is_eligible_record given h p r ≡ true))
  next = next_record-In given h p o lawful.record_is

  new-or-old : (j : Job) → In j (open_jobs (Dispatch t w p o e a ∷ h)) →
      (j ≡ new) ⊎ In j (open_jobs h)
  unfolding new
  new-or-old j i =
      let at = In-filtered (λ (x : Job). not (is_settled h x.ticket)) j (new ∷ jobs_of h) i in
      elim at.0 [
        | inl same ↦ inl same
        | inr old ↦ inr (In-filter (λ (x : Job). not (is_settled h x.ticket)) j
            (jobs_of h) old at.1)
      ]

  new-works : IsWorking given (Dispatch t w p o e a ∷ h) new
  unfolding new polled_records is_complete is_eligible_record
  new-works = record {
    polled = (next.1.0, next.1.1, next.1.2);
    incomplete = subst (λ (u : ℕ). is_complete h p u ≡ false) next.1.2
        (not-true _ (and-left _ _
        (and-left _ _ (and-left _ _ (and-left _ _ (and-left _ _ next.1.3))))));
    attempt = lawful.attempt_is;
  }

  old-works : (j : Job) → IsWorking given h j → IsWorking given (Dispatch t w p o e a ∷ h) j
  unfolding polled_records is_complete
  old-works j works = record
      { polled = works.polled; incomplete = works.incomplete; attempt = works.attempt }

  -- no job that is out has the new one's key
  not-shared : (j : Job) (key : OrderingKey) → In j (open_jobs h) → is_current h j ≡ true →
      has_key given key new ≡ true
      → has_key given key j ≡ true → ⊥
  unfolding new is_busy
  not-shared j key i current has shares =
      let is = dispatch-key given h p o next.1.0 key legal next.1.1 next.1.2 has in
      let free : is_busy given h (ordering_key given.setup.settings.order p next.1.0) ≡ false =
      eligible-free given h p next.1.0 next.1.3 in
      let same : has_key given (ordering_key given.setup.settings.order p next.1.0) j ≡ true = subst
      (λ (k : OrderingKey). has_key given k j ≡ true) is shares in
      true-not-false _ (list_any-In
      (λ x. is_current h x && has_key given (ordering_key given.setup.settings.order p next.1.0) x) j
      (open_jobs h) i
      (rw (current, same) refl)) free

  keeps-dispatch : KeepsJobs given (Dispatch t w p o e a ∷ h)
  unfolding new
  keeps-dispatch = record {
    past = λ j i. elim i [
      | inl same ↦ subst (λ (x : Job). (x.epoch < epoch_of h x.part) ⊎
          ((x.epoch ≡ epoch_of h x.part) × (is_held h x.part ≡ true))) (sym same)
          (inr (lawful.epoch_is, next.0))
      | inr old ↦ keeps.past j old
    ];
    working = λ j i current. elim (new-or-old j i) [
      | inl same ↦ subst (λ (x : Job). IsWorking given (Dispatch t w p o e a ∷ h) x)
          (sym same) new-works
      | inr old ↦ old-works j (keeps.working j old current)
    ];
    alone = λ i j key a b ci cj ki kj. elim (new-or-old i a) [
      | inl i_new ↦ elim (new-or-old j b) [
        | inl j_new ↦ ap (λ (x : Job). x.ticket) (i_new ∙ sym j_new)
        | inr j_old ↦ absurd (not-shared j key j_old cj
            (subst (λ (x : Job). has_key given key x ≡ true) i_new ki) kj)
      ]
      | inr i_old ↦ elim (new-or-old j b) [
        | inl j_new ↦ absurd (not-shared i key i_old ci
            (subst (λ (x : Job). has_key given key x ≡ true) j_new kj) ki)
        | inr j_old ↦ keeps.alone i j key i_old j_old ci cj ki kj
      ]
    ];
  }

-- ---- every event

-- an event that says nothing of any part and dispatches none
module _ (given : Given) (v : Event) (h : List Event) (keeps : KeepsJobs given h)
    (same : jobs_of (v ∷ h) ≡ jobs_of h)
    (parts : (p : ℕ) → (epoch_of (v ∷ h) p ≡ epoch_of h p) × (is_held (v ∷ h) p ≡ is_held h p))
    (works : (j : Job) → IsWorking given h j → IsWorking given (v ∷ h) j) where
  keeps-quiet : KeepsJobs given (v ∷ h)
  keeps-quiet = jobs-more given v h keeps same
      (λ j i. rw ((parts j.part).0, (parts j.part).1) (keeps.past j i))
      (λ j i s current. let before : is_current h j ≡ true = rw
      ((parts j.part).1, (parts j.part).0) at current in
      (before, works j (keeps.working j i before)))

pub keeps_jobs : (given : Given) (h : List Event) → IsLegal given h → KeepsJobs given h
unfolding polled_records is_complete
keeps_jobs given [] legal = record {
  past = λ j i. absurd i;
  working = λ j i c. absurd i;
  alone =
      λ i j k a b c d e f. absurd a;
}
keeps_jobs given (Assign q epoch position text ∷ h) legal =
    keeps-epochs given (Assign q epoch position text) h (keeps_jobs given h legal.2) refl
    (λ p still. still)
keeps_jobs given (Revoke q epoch ∷ h) legal = keeps-epochs given (Revoke q epoch) h
    (keeps_jobs given h legal.2) refl (λ p still. still)
keeps_jobs given (Lost q epoch ∷ h) legal = keeps-epochs given (Lost q epoch) h
    (keeps_jobs given h legal.2) refl (λ p still. still)
keeps_jobs given (Crash ∷ h) legal = keeps-epochs given Crash h (keeps_jobs given h legal.2) refl
    (λ p still. cc)
keeps_jobs given (Poll q count last ∷ h) legal = keeps-poll given h q count last
    (keeps_jobs given h legal.2)
keeps_jobs given (Dispatch t w p o e a ∷ h) legal = keeps-dispatch given h
    (keeps_jobs given h legal.2) legal.2 t w p o e a legal.0
keeps_jobs given (Success t answer ∷ h) legal =
    keeps-success given h t answer (keeps_jobs given h legal.2) legal.0.outstanding legal.0.current
keeps_jobs given (Failure t code ready ∷ h) legal =
    keeps-failure given h t code ready
    (keeps_jobs given h legal.2) legal.0.outstanding legal.0.current
keeps_jobs given (Stale t ∷ h) legal = keeps-quiet given (Stale t) h
    (keeps_jobs given h legal.2) refl (λ p. (refl, refl))
    (λ j w. record { polled = w.polled; incomplete = w.incomplete; attempt = w.attempt })
keeps_jobs given (Committed q position text size ∷ h) legal = keeps-quiet given
    (Committed q position text size) h (keeps_jobs given h legal.2) refl
    (λ p. (refl, refl)) (λ j w. record
    { polled = w.polled; incomplete = w.incomplete; attempt = w.attempt })
keeps_jobs given (CommitFailed q position text size ∷ h) legal = keeps-quiet given
    (CommitFailed q position text size) h (keeps_jobs given h legal.2) refl
    (λ p. (refl, refl)) (λ j w. record
    { polled = w.polled; incomplete = w.incomplete; attempt = w.attempt })
keeps_jobs given (Tick now ∷ h) legal = keeps-quiet given (Tick now) h
    (keeps_jobs given h legal.2) refl (λ p. (refl, refl))
    (λ j w. record { polled = w.polled; incomplete = w.incomplete; attempt = w.attempt })
keeps_jobs given (Drain ∷ h) legal = keeps-quiet given Drain h (keeps_jobs given h legal.2) refl
    (λ p. (refl, refl))
    (λ j w. record { polled = w.polled; incomplete = w.incomplete; attempt = w.attempt })
keeps_jobs given (Done ∷ h) legal = keeps-quiet given Done h (keeps_jobs given h legal.2) refl
    (λ p. (refl, refl))
    (λ j w. record { polled = w.polled; incomplete = w.incomplete; attempt = w.attempt })
keeps_jobs given (Closed ∷ h) legal = keeps-quiet given Closed h (keeps_jobs given h legal.2) refl
    (λ p. (refl, refl))
    (λ j w. record { polled = w.polled; incomplete = w.incomplete; attempt = w.attempt })
