-- A current job that is out has the first record of its ordering key that is left; so the key of
-- such a record is busy exactly where a job is out at its offset.
use Rattle.std.proofs.Common.{◌≡◌, ℕ, ◌<◌, nat_lt, true, false, not, ◌&&◌, ◌||◌, ◌==◌, List, [], ◌∷◌, take, Some, refl, ap, sym, subst, ◌∙◌, arith, inl, inr, eq-eqb}
use Rattle.std.specs.List.{list_any}
use Rattle.std.specs.Cmp.Derive.{both_true}
use Rattle.std.proofs.lemmas.Bool.{cases_Bool, cases_lt, eqb-true, lt-ltb, ltb-true}
use Rattle.pc_model.specs.declared.choices.Order.{Order}
use Rattle.pc_model.specs.declared.choices.Order.TheVariants.{None as NoOrder, Partition, Key}
use Rattle.pc_model.specs.declared.event.Event.{Event}
use Rattle.pc_model.specs.declared.event.Event.TheVariants.{Assign, Poll, Dispatch, Success, Revoke, Lost, Crash}
use Rattle.pc_model.specs.Record.{Record}
use Rattle.pc_model.specs.Given.{Given, records_of, record_at}
use Rattle.pc_model.specs.Jobs.{Job, jobs_of, is_settled, open_jobs}
use Rattle.pc_model.specs.Epochs.{moves, is_assign, epoch_of, is_held, is_current}
use Rattle.pc_model.specs.Stored.{passes}
use Rattle.pc_model.specs.Known.{assigned_commit, polled_count, records_from_begin, polled_records, unpolled_records, is_job_at, has_succeeded, is_complete}
use Rattle.pc_model.specs.Next.{OrderingKey, ordering_key, same_key, has_key, is_busy, is_before, is_first}
use Rattle.pc_model.specs.Next.OrderingKey.{OfRecord, OfPart, OfKey}
use Rattle.pc_model.specs.Lawful.{IsLegal, DispatchIsLawful}
use Rattle.pc_model.specs.OneMore.{SamePart, touches}
use Rattle.pc_model.proofs.SamePart.{other_part}
use Rattle.pc_model.proofs.KnownLaws.{polled_records-same, is_complete-same, polled_records-poll, is_complete-poll}
use Rattle.pc_laws.specs.Lists.{In}
use Rattle.pc_laws.specs.Kept.{KeepsJobs}
use Rattle.pc_laws.specs.First.{IsFirstOfItsKey}
use Rattle.pc_laws.proofs.Lists.{and-left, and-right, or-cases, or-left, or-right, same_test, true-not-false, In-append, In-filter, In-filtered, In-find, list_any-each, list_all-In, list_all-each}
use Rattle.pc_laws.proofs.Rising.{Rises-same, legal-rises, take-In}
use Rattle.pc_laws.proofs.PositionLaw.{from_begin-rises}
use Rattle.pc_laws.proofs.Blocked.{drop-above}
use Rattle.pc_laws.proofs.OrderlyLaw.{next_record-In, polled-record, eligible-first}
use Rattle.pc_laws.proofs.JobsLaw.{same_key-refl, open-before, open-job, not-current, find-some, has-own-key, dispatch-key, keeps_jobs}
use Rattle.pc_laws.proofs.SucceededLaw.{job-at}

-- of a record that is the first of its key, an earlier one of that key is complete
earlier-complete : (given : Given) (h : List Event) (p : ℕ) (q r : Record) →
    is_first given h p r ≡ true → In q (polled_records given h p) → q.offset < r.offset
    → ordering_key given.setup.settings.order p q ≡ ordering_key given.setup.settings.order p r
    → is_complete h p q.offset ≡ true
unfolding is_first
earlier-complete given h p q r first polled below key =
    let same : same_key (ordering_key given.setup.settings.order p q)
    (ordering_key given.setup.settings.order p r) ≡ true =
    rw key (same_key-refl (ordering_key given.setup.settings.order p r)) in
    let before : is_before given p q r ≡ true =
    both_true (lt-ltb q.offset r.offset below) same in
    let test = list_all-In (λ x. not (is_before given p x r) || is_complete h p x.offset) q
    (polled_records given h p) first polled in
    rw before at test

-- ---- one more event that dispatches none

-- what is proved of each history
abbrev AreFirst : Given → List Event → Type 0
AreFirst given h = (j : Job) → In j (open_jobs h) → is_current h j ≡ true →
    IsFirstOfItsKey given h j

module _ (given : Given) (v : Event) (h : List Event) (same : jobs_of (v ∷ h) ≡ jobs_of h) where
  first-more : ((j : Job) → In j (open_jobs h) → is_current (v ∷ h) j ≡ true →
      IsFirstOfItsKey given (v ∷ h) j)
      → AreFirst given (v ∷ h)
  first-more step = λ j i current. step j (open-before v h j same i).0 current

-- nothing of the job's part changes
first-same : (given : Given) (v : Event) (h : List Event) → AreFirst given h → (j : Job) →
    SamePart given j.part h (v ∷ h)
    → In j (open_jobs h) → is_current (v ∷ h) j ≡ true → IsFirstOfItsKey given (v ∷ h) j
first-same given v h first j part i current =
    let before : is_current h j ≡ true = rw (part.held, part.epoch) at current in
    record {
      earlier = λ r polled below key.
          let old : In r (polled_records given h j.part) = subst (λ (rs : List Record). In r rs)
          (polled_records-same given j.part h (v ∷ h) part) polled in
          is_complete-same given j.part h (v ∷ h) part r.offset
          ∙ (first j i before).earlier r old below key;
    }

-- an event that begins or ends an epoch, or does nothing to a part
first-epochs : (given : Given) (v : Event) (h : List Event) → KeepsJobs given h → AreFirst given h
    → jobs_of (v ∷ h) ≡ jobs_of h → ((p : ℕ) → moves v p ≡ false → touches v h p ≡ false)
    → AreFirst given (v ∷ h)
first-epochs given v h keeps first same quiet = first-more given v h same
    (λ j i current. elim (cases_Bool (moves v j.part)) [
      | inl moved ↦ absurd (not-current j.epoch (epoch_of h j.part) (is_assign v)
          (is_held h j.part) (keeps.past j (open-job h j i)) (rw moved at current))
      | inr still ↦ first-same given v h first j
          (other_part given j.part v h (quiet j.part still)) i current
    ])

-- ---- a poll

-- a poll adds only records that lie after that of a current job which is out
module _ (given : Given) (h : List Event) (legal : IsLegal given h) (j : Job)
    (i : In j (open_jobs h)) (current : is_current h j ≡ true) (r : Record)
    (below : r.offset < j.offset) where
  not-polled : (count : ℕ) → In r (take count (unpolled_records given h j.part)) → ⊥
  unfolding polled_records unpolled_records
  not-polled count more =
      let s = ((keeps_jobs given h legal).working j i current).polled in
      let at : s.0.offset ≡ j.offset = s.2 in
      let above : s.0.offset < r.offset = drop-above (polled_count h j.part) 0
      (records_from_begin given h j.part) (from_begin-rises given h legal j.part) s.0 r s.1
      (take-In count r _ more) in omega arith

  polled-before : (count last : ℕ) → In r (polled_records given (Poll j.part count last ∷ h) j.part)
      → In r (polled_records given h j.part)
  polled-before count last polled = elim
      (In-append r (polled_records given h j.part) (take count (unpolled_records given h j.part))
      (subst (λ (rs : List Record). In r rs) (polled_records-poll given h j.part count last)
      polled)) [
        | inl old ↦ old
        | inr more ↦ absurd (not-polled count more)
      ]

first-poll : (given : Given) (h : List Event) (q count last : ℕ) → IsLegal given h →
    AreFirst given h → AreFirst given (Poll q count last ∷ h)
first-poll given h q count last legal first = first-more given (Poll q count last) h refl
    (λ j i current. elim (cases_Bool (q == j.part)) [
      | inr apart ↦ first-same given (Poll q count last) h first j
          (other_part given j.part (Poll q count last) h apart) i current
      | inl same ↦ subst (λ (u : ℕ). IsFirstOfItsKey given (Poll u count last ∷ h) j)
          (sym (eqb-true q j.part same)) (record {
            earlier = λ r polled below key.
                is_complete-poll given h j.part count last r.offset
                ∙ (first j i current).earlier r
                (polled-before given h legal j i current r below count last polled) below key;
          })
    ])

-- ---- a success

-- what is complete stays so
complete-success : (h : List Event) (t : ℕ) (answer : List ℕ) (p o : ℕ) → is_complete h p o ≡ true →
    is_complete (Success t answer ∷ h) p o ≡ true
unfolding is_complete
complete-success h t answer p o complete = elim
    (or-cases (has_succeeded h p (epoch_of h p) o) (passes (assigned_commit h p) o) complete) [
      | inl done ↦ or-left (has_succeeded (Success t answer ∷ h) p (epoch_of h p) o) _
          (or-right _ (has_succeeded h p (epoch_of h p) o) done)
      | inr passed ↦ or-right (has_succeeded (Success t answer ∷ h) p (epoch_of h p) o) _ passed
    ]

-- ---- a dispatch

module _ (given : Given) (h : List Event) (legal : IsLegal given h) (first : AreFirst given h)
    (t w p o e a : ℕ) (lawful : DispatchIsLawful given h t w p o e a) where
  abbrev new : Job
  new = record { ticket = t; worker = w; part = p; offset = o; epoch = e; attempt = a }

  -- the record of the new job is the first of its key
  first-new : IsFirstOfItsKey given (Dispatch t w p o e a ∷ h) new
  unfolding polled_records is_complete
  first-new = record {
    earlier = λ r polled below has.
        let next = (next_record-In given h p o lawful.record_is).1 in
        let at : next.0.offset ≡ o = next.2 in
        let key = dispatch-key given h p o next.0
        (ordering_key given.setup.settings.order p r) legal next.1 next.2 has in
        earlier-complete given h p r next.0
        (eligible-first given h p next.0 next.3) polled (omega arith) key;
  }

  first-dispatch : AreFirst given (Dispatch t w p o e a ∷ h)
  unfolding polled_records is_complete
  first-dispatch = λ j i current.
      let at = In-filtered (λ (x : Job). not (is_settled h x.ticket)) j (new ∷ jobs_of h) i in
      elim at.0 [
        | inl same ↦ subst (λ (x : Job). IsFirstOfItsKey given (Dispatch t w p o e a ∷ h) x)
            (sym same) first-new
        | inr old ↦
            let before = first j (In-filter (λ (x : Job). not (is_settled h x.ticket)) j
            (jobs_of h) old at.1) current in
            record { earlier = before.earlier }
      ]

-- ---- every event

pub first_of_its_key : (given : Given) (h : List Event) → IsLegal given h →
    (j : Job) → In j (open_jobs h) → is_current h j ≡ true → IsFirstOfItsKey given h j
unfolding polled_records is_complete
first_of_its_key given [] legal = λ j i current. absurd i
first_of_its_key given (Assign q epoch position text ∷ h) legal = first-epochs given
    (Assign q epoch position text) h (keeps_jobs given h legal.2)
    (first_of_its_key given h legal.2) refl (λ p still. still)
first_of_its_key given (Revoke q epoch ∷ h) legal = first-epochs given (Revoke q epoch) h
    (keeps_jobs given h legal.2) (first_of_its_key given h legal.2) refl (λ p still. still)
first_of_its_key given (Lost q epoch ∷ h) legal = first-epochs given (Lost q epoch) h
    (keeps_jobs given h legal.2) (first_of_its_key given h legal.2) refl (λ p still. still)
first_of_its_key given (Crash ∷ h) legal = first-epochs given Crash h
    (keeps_jobs given h legal.2) (first_of_its_key given h legal.2) refl (λ p still. cc)
first_of_its_key given (Poll q count last ∷ h) legal = first-poll given h q count last legal.2
    (first_of_its_key given h legal.2)
first_of_its_key given (Dispatch t w p o e a ∷ h) legal = first-dispatch given h legal.2
    (first_of_its_key given h legal.2) t w p o e a legal.0
first_of_its_key given (Success t answer ∷ h) legal = first-more given (Success t answer) h refl
    (λ j i current. record {
      earlier = λ r polled below key. complete-success h t answer j.part r.offset
          ((first_of_its_key given h legal.2 j i current).earlier r polled below key);
    })
first_of_its_key given (v ∷ h) legal = first-more given v h refl
    (λ j i current. record { earlier = (first_of_its_key given h legal.2 j i current).earlier })

-- ---- the key of a first record

-- the part of a key
abbrev part_of : OrderingKey → ℕ
part_of (OfRecord p o) = p
part_of (OfPart p) = p
part_of (OfKey p bytes) = p

part_of-key : (order : Order) (p : ℕ) (r : Record) → part_of (ordering_key order p r) ≡ p
part_of-key NoOrder p r = refl
part_of-key Partition p r = refl
part_of-key Key p r = refl

one-part : (order : Order) (p q : ℕ) (r s : Record) →
    ordering_key order p r ≡ ordering_key order q s → p ≡ q
one-part order p q r s same = sym (part_of-key order p r) ∙ ap part_of same ∙ part_of-key order q s

-- a current job of the record's key that is out is at the record's offset
module _ (given : Given) (h : List Event) (legal : IsLegal given h) (j : Job)
    (i : In j (open_jobs h)) (current : is_current h j ≡ true) (r : Record) where
  same-offset : In r (polled_records given h j.part) → is_complete h j.part r.offset ≡ false →
      is_first given h j.part r ≡ true
      → has_key given (ordering_key given.setup.settings.order j.part r) j ≡ true
      → j.offset ≡ r.offset
  same-offset polled left first has =
      let works = (keeps_jobs given h legal).working j i current in
      let s = works.polled in
      let at : s.0.offset ≡ j.offset = s.2 in
      let key = dispatch-key given h j.part j.offset s.0
      (ordering_key given.setup.settings.order j.part r) legal s.1 s.2 has in
      elim (cases_lt j.offset r.offset) [
        | inl before ↦
            let complete = earlier-complete given h j.part s.0 r first s.1 (omega arith)
            (sym key) in
            true-not-false (is_complete h j.part j.offset)
            (subst (λ (o : ℕ). is_complete h j.part o ≡ true) at complete) works.incomplete
        | inr behind ↦ elim (cases_lt r.offset j.offset) [
          | inl below ↦ true-not-false (is_complete h j.part r.offset)
              ((first_of_its_key given h legal j i current).earlier r polled below has) left
          | inr above ↦ omega arith
        ]
      ]

  same-part : (p : ℕ) → has_key given (ordering_key given.setup.settings.order p r) j ≡ true →
      p ≡ j.part
  same-part p has =
      let s = ((keeps_jobs given h legal).working j i current).polled in
      one-part given.setup.settings.order p j.part r s.0
      (dispatch-key given h j.part j.offset s.0
      (ordering_key given.setup.settings.order p r) legal s.1 s.2 has)

-- the log has the record at its offset
pub record_at-In : (given : Given) (h : List Event) → IsLegal given h → (p : ℕ) (r : Record) →
    In r (records_of given p) → record_at given p r.offset ≡ Some r
record_at-In given h legal p r i =
    let found = find-some r.offset r (records_of given p) i refl in
    let here = In-find (λ x. x.offset == r.offset) found.0 (records_of given p) found.1 in
    found.1 ∙ ap (λ (x : Record). Some x) (Rises-same 0 found.0 r (records_of given p)
    (legal-rises given h legal p) here.0 i (eqb-true found.0.offset r.offset here.1))

-- the record of a current job that is out is the first of its key
pub job-first : (given : Given) (h : List Event) → IsLegal given h → (j : Job) (r : Record)
    → In j (open_jobs h) → is_current h j ≡ true → In r (polled_records given h j.part)
    → r.offset ≡ j.offset → is_first given h j.part r ≡ true
unfolding is_first
job-first given h legal j r i current polled at =
    list_all-each (λ (q : Record). not (is_before given j.part q r) || is_complete h j.part q.offset)
    (polled_records given h j.part) (λ q k. elim (cases_Bool (is_before given j.part q r)) [
      | inl before ↦
          let below : q.offset < r.offset = ltb-true q.offset r.offset (and-left _ _ before) in
          let found : record_at given j.part j.offset ≡ Some r =
          subst (λ (o : ℕ). record_at given j.part o ≡ Some r) at
          (record_at-In given h legal j.part r (polled-record given h j.part r polled).0) in
          let has : has_key given (ordering_key given.setup.settings.order j.part q) j ≡ true =
          rw found (and-right (nat_lt q.offset r.offset) _ before) in
          let done : is_complete h j.part q.offset ≡ true =
          (first_of_its_key given h legal j i current).earlier q k (omega (arith, below, at)) has in
          rw (before, done) refl
      | inr apart ↦ rw apart refl
    ])

module _ (given : Given) (h : List Event) (legal : IsLegal given h) (p : ℕ) (r : Record)
    (held : is_held h p ≡ true) (polled : In r (polled_records given h p)) where
  -- a job at the record's offset is current, and of its key
  own-busy : (j : Job) → is_job_at (Some j) p (epoch_of h p) r.offset ≡ true →
      (is_current h j && has_key given (ordering_key given.setup.settings.order p r) j) ≡ true
  own-busy j at =
      let is = job-at j p (epoch_of h p) r.offset at in
      let current : is_current h j ≡ true = subst
      (λ (q : ℕ). (is_held h q && (j.epoch == epoch_of h q)) ≡ true) (sym is.0)
      (both_true held (eq-eqb j.epoch (epoch_of h p) is.1)) in
      let log = polled-record given h p r polled in
      both_true current
      (has-own-key given j (ordering_key given.setup.settings.order p r)
      (rw (is.0, is.2, record_at-In given h legal p r log.0) refl))

  module _ (left : is_complete h p r.offset ≡ false) (first : is_first given h p r ≡ true) where
    busy-own : (j : Job) → In j (open_jobs h) →
        (is_current h j && has_key given (ordering_key given.setup.settings.order p r) j) ≡ true →
        is_job_at (Some j) p (epoch_of h p) r.offset ≡ true
    busy-own j i busy =
        let current : is_current h j ≡ true = and-left (is_current h j) _ busy in
        let has = and-right (is_current h j) _ busy in
        let part : p ≡ j.part = same-part given h legal j i current r p has in
        let offset : j.offset ≡ r.offset = subst
        (λ (q : ℕ). In r (polled_records given h q) → is_complete h q r.offset ≡ false →
        is_first given h q r ≡ true
        → has_key given (ordering_key given.setup.settings.order q r) j ≡ true
        → j.offset ≡ r.offset) (sym part)
        (same-offset given h legal j i current r) polled left first has in
        let now : (j.epoch == epoch_of h p) ≡ true = subst
        (λ (q : ℕ). (j.epoch == epoch_of h q) ≡ true) (sym part)
        (and-right (is_held h j.part) _ current) in
        both_true
        (both_true (eq-eqb j.part p (sym part)) now)
        (eq-eqb j.offset r.offset offset)

    pub busy-out : is_busy given h (ordering_key given.setup.settings.order p r)
        ≡ list_any (λ j. is_job_at (Some j) p (epoch_of h p) r.offset) (open_jobs h)
    unfolding is_busy
    busy-out = list_any-each _ _ (open_jobs h)
        (λ j i. same_test _ _ (busy-own j i) (own-busy j))
