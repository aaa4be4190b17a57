-- How many polls, commits that were due, dispatches and dispatches in vain a part has in an epoch, and
-- in all of them.
use Rattle.std.proofs.Common.{◌≡◌, ℕ, ◌+◌, ◌-◌, ◌*◌, ◌≤◌, ◌<◌, Bool, true, false, ◌&&◌, ◌==◌, List, [], ◌∷◌, drop, length, Some, refl, ap, sym, subst, arith, inl, inr, eq-eqb, mul-add}
use Rattle.std.specs.Prelude.{filter, nat_le, option_map, slice_get}
use Rattle.std.specs.Cmp.Derive.{both_true}
use Rattle.std.proofs.lemmas.Bool.{cases_Bool, cases_lt, eqb-true, leb-true, ltb-true}
use Rattle.std.proofs.lemmas.List.{length-drop}
use Rattle.std.proofs.lemmas.Option.{slice_get_past}
use Rattle.pc_model.specs.declared.event.Event.{Event}
use Rattle.pc_model.specs.declared.event.Event.TheVariants.{Assign, Poll, Dispatch, Success, Failure, Stale, Commit as Committed, CommitFailed, Revoke, Lost, Crash, Tick, Drain, Done, Closed}
use Rattle.pc_model.specs.declared.commit.Commit.{Commit}
use Rattle.pc_model.specs.Record.{Record}
use Rattle.pc_model.proofs.SetupLaws.{setup-within}
use Rattle.pc_model.specs.Given.{Given, record_at, records_of}
use Rattle.pc_model.specs.Epochs.{epoch_of, is_held}
use Rattle.pc_model.specs.Known.{assigned_commit, begin_of, polled_count, records_from_begin, unpolled_records}
use Rattle.pc_model.specs.Lawful.{IsLegal}
use Rattle.pc_model.specs.Run.{is_commit_due, is_success_of, new_successes}
use Rattle.pc_model.specs.Bound.{failing_attempts, failing_sum}
use Rattle.pc_laws.specs.Lists.{In}
use Rattle.pc_laws.specs.Kept.{is_assign_of}
use Rattle.pc_laws.proofs.Lists.{and-left, and-right, or-cases, true-not-false}
use Rattle.pc_laws.proofs.FirstLaw.{record_at-In}
use Rattle.pc_laws.proofs.JobsLaw.{keeps_jobs, out-job}
use Rattle.pc_laws.proofs.OrderlyLaw.{next_record-In, polled-record}
use Rattle.pc_run_laws.proofs.Tally.{Test, add_if, all-epochs, classes, never, sum-le, sum-ones, sum_of, tally, tally-most}
use Rattle.pc_run_laws.proofs.RecordCounts.{anew, dispatches-few, dispatches_at, fails, fails-few, fails_at, succeeds-once, succeeds_at}

-- ---- the tests

abbrev pub polls_of : ℕ → Test
polls_of p (Poll q count last) h = q == p
polls_of p _ h = false

abbrev pub dispatches_of : ℕ → Test
dispatches_of p (Dispatch t w q u e a) h = q == p
dispatches_of p _ h = false

abbrev pub fails_of : Given → ℕ → Test
fails_of given p e h = dispatches_of p e h && fails given e h

-- a commit, stored or failed, that was due
abbrev pub dues_of : Given → ℕ → Test
dues_of given p (Committed q position text size) h = (q == p) && is_commit_due given h p
dues_of given p (CommitFailed q position text size) h = (q == p) && is_commit_due given h p
dues_of given p _ h = false

-- a success in the present epoch
abbrev pub succeeds_of : ℕ → Test
succeeds_of p e h = is_success_of e h p (epoch_of h p)

pub legal-before : (given : Given) (e : Event) (h : List Event) → IsLegal given (e ∷ h) → IsLegal given h
legal-before given e h legal = legal.2

-- ---- sums over the records of a part

sum-failing : (given : Given) (p : ℕ) (rs : List Record) → sum_of (failing_attempts given p) rs ≡ failing_sum given p rs
sum-failing given p [] = refl
sum-failing given p (r ∷ rs) = ap (λ n. failing_attempts given p r + n) (sum-failing given p rs)

sum-dispatches : (given : Given) (p : ℕ) (rs : List Record)
    → sum_of (λ r. 1 + failing_attempts given p r) rs ≡ length rs + failing_sum given p rs
sum-dispatches given p [] = refl
sum-dispatches given p (r ∷ rs) =
    let rest : sum_of (λ (q : Record). 1 + failing_attempts given p q) rs ≡ length rs + failing_sum given p rs =
    sum-dispatches given p rs in omega arith

module _ (given : Given) (p : ℕ) where
  -- a dispatch of the part is of one of its records
  dispatch-class : (e : Event) (h : List Event) → IsLegal given (e ∷ h) → dispatches_of p e h ≡ true
      → (r : Record) × In r (records_of given p) × (dispatches_at p r.offset e h ≡ true)
  dispatch-class (Dispatch t w q u e a) h legal is =
      let part : q ≡ p = eqb-true q p is in
      let next = next_record-In given h q u legal.0.record_is in
      let at : In next.1.0 (records_of given p) = subst (λ (x : ℕ). In next.1.0 (records_of given x)) part
      (polled-record given h q next.1.0 next.1.1).0 in
      (next.1.0, at, both_true is (eq-eqb u next.1.0.offset (sym next.1.2)))
  dispatch-class (Assign q epoch position text) h legal is = cc
  dispatch-class (Poll q count last) h legal is = cc
  dispatch-class (Success t answer) h legal is = cc
  dispatch-class (Failure t code ready) h legal is = cc
  dispatch-class (Stale t) h legal is = cc
  dispatch-class (Committed q position text size) h legal is = cc
  dispatch-class (CommitFailed q position text size) h legal is = cc
  dispatch-class (Revoke q epoch) h legal is = cc
  dispatch-class (Lost q epoch) h legal is = cc
  dispatch-class Crash h legal is = cc
  dispatch-class (Tick now) h legal is = cc
  dispatch-class Drain h legal is = cc
  dispatch-class Done h legal is = cc
  dispatch-class Closed h legal is = cc

  fails-class : (e : Event) (h : List Event) → IsLegal given (e ∷ h) → fails_of given p e h ≡ true
      → (r : Record) × In r (records_of given p) × (fails_at given p r.offset e h ≡ true)
  fails-class e h legal is =
      let of = dispatch-class e h legal (and-left _ _ is) in
      (of.0, of.1, both_true of.2 (and-right (dispatches_of p e h) _ is))

  -- and a success is of one of them
  success-class : (e : Event) (h : List Event) → IsLegal given (e ∷ h) → succeeds_of p e h ≡ true
      → (r : Record) × In r (records_of given p) × (succeeds_at p r.offset e h ≡ true)
  success-class (Success t answer) h legal is =
      let job = out-job h t legal.0.outstanding legal.0.current in
      let test : ((job.0.part == p) && (job.0.epoch == epoch_of h p)) ≡ true = rw job.1 at is in
      let part : job.0.part ≡ p = eqb-true job.0.part p (and-left _ _ test) in
      let polled = ((keeps_jobs given h legal.2).working job.0 job.2 job.3).polled in
      let at : In polled.0 (records_of given p) = subst (λ (x : ℕ). In polled.0 (records_of given x)) part
      (polled-record given h job.0.part polled.0 polled.1).0 in
      (polled.0, at, rw job.1 (both_true test (eq-eqb job.0.offset polled.0.offset (sym polled.2))))
  success-class (Assign q epoch position text) h legal is = cc
  success-class (Poll q count last) h legal is = cc
  success-class (Dispatch t w q u e a) h legal is = cc
  success-class (Failure t code ready) h legal is = cc
  success-class (Stale t) h legal is = cc
  success-class (Committed q position text size) h legal is = cc
  success-class (CommitFailed q position text size) h legal is = cc
  success-class (Revoke q epoch) h legal is = cc
  success-class (Lost q epoch) h legal is = cc
  success-class Crash h legal is = cc
  success-class (Tick now) h legal is = cc
  success-class Drain h legal is = cc
  success-class Done h legal is = cc
  success-class Closed h legal is = cc

  module _ (h : List Event) (legal : IsLegal given h) (held : is_held h p ≡ true) where
    log-of : (r : Record) → In r (records_of given p) → record_at given p r.offset ≡ Some r
    log-of r i = record_at-In given h legal p r i

    held-dispatches : tally (anew p) (dispatches_of p) h
        ≤ length (records_of given p) + failing_sum given p (records_of given p)
    held-dispatches =
        let all : tally (anew p) (dispatches_of p) h
        ≤ sum_of (λ r. tally (anew p) (dispatches_at p r.offset) h) (records_of given p) =
        classes (anew p) (dispatches_of p) (λ (r : Record). dispatches_at p r.offset) {P = IsLegal given}
        (records_of given p) (legal-before given) dispatch-class h legal in
        let each : sum_of (λ r. tally (anew p) (dispatches_at p r.offset) h) (records_of given p)
        ≤ sum_of (λ r. 1 + failing_attempts given p r) (records_of given p) =
        sum-le _ _ (records_of given p) (λ r i. dispatches-few given h p r legal (log-of r i) held) in
        let is : sum_of (λ r. 1 + failing_attempts given p r) (records_of given p)
        ≡ length (records_of given p) + failing_sum given p (records_of given p) = sum-dispatches given p (records_of given p) in
        omega arith

    held-fails : tally (anew p) (fails_of given p) h ≤ failing_sum given p (records_of given p)
    held-fails =
        let all : tally (anew p) (fails_of given p) h
        ≤ sum_of (λ r. tally (anew p) (fails_at given p r.offset) h) (records_of given p) =
        classes (anew p) (fails_of given p) (λ (r : Record). fails_at given p r.offset) {P = IsLegal given}
        (records_of given p) (legal-before given) fails-class h legal in
        let each : sum_of (λ r. tally (anew p) (fails_at given p r.offset) h) (records_of given p)
        ≤ sum_of (failing_attempts given p) (records_of given p) =
        sum-le _ _ (records_of given p) (λ r i. fails-few given h p r legal (log-of r i) held) in
        let is : sum_of (failing_attempts given p) (records_of given p)
        ≡ failing_sum given p (records_of given p) = sum-failing given p (records_of given p) in
        omega arith

    held-successes : tally (anew p) (succeeds_of p) h ≤ length (records_of given p)
    held-successes =
        let all : tally (anew p) (succeeds_of p) h
        ≤ sum_of (λ r. tally (anew p) (succeeds_at p r.offset) h) (records_of given p) =
        classes (anew p) (succeeds_of p) (λ (r : Record). succeeds_at p r.offset) {P = IsLegal given}
        (records_of given p) (legal-before given) success-class h legal in
        let each : sum_of (λ r. tally (anew p) (succeeds_at p r.offset) h) (records_of given p)
        ≤ sum_of (λ (r : Record). 1) (records_of given p) =
        sum-le _ _ (records_of given p) (λ r i. succeeds-once given h p r legal (log-of r i) held) in
        let is : sum_of (λ (r : Record). 1) (records_of given p) ≡ length (records_of given p) =
        sum-ones (records_of given p) in
        omega arith

-- ---- polls

polled-from : (given : Given) (h : List Event) (p : ℕ) → IsLegal given h
    → polled_count h p ≤ length (records_from_begin given h p)
unfolding unpolled_records
polled-from given [] p legal = omega arith
polled-from given (Assign q epoch position text ∷ h) p legal = elim (cases_Bool (q == p)) [
  | inl now ↦ rw now (omega arith)
  | inr apart ↦
      let assigned : assigned_commit (Assign q epoch position text ∷ h) p ≡ assigned_commit h p = rw apart refl in
      let begins : begin_of (Assign q epoch position text ∷ h) p ≡ begin_of h p =
      ap (λ (c : Commit). c.position) assigned in
      let from : length (records_from_begin given (Assign q epoch position text ∷ h) p)
      ≡ length (records_from_begin given h p) =
      ap (λ (b : ℕ). length (filter (λ r. nat_le b r.offset) (records_of given p))) begins in
      let polled : polled_count (Assign q epoch position text ∷ h) p ≡ polled_count h p = rw apart refl in
      let before : polled_count h p ≤ length (records_from_begin given h p) = polled-from given h p legal.2 in
      omega arith
]
polled-from given (Poll q count last ∷ h) p legal = elim (cases_Bool (q == p)) [
  | inr apart ↦ rw apart (polled-from given h p legal.2)
  | inl now ↦
      let part : q ≡ p = eqb-true q p now in
      let before : polled_count h p ≤ length (records_from_begin given h p) = polled-from given h p legal.2 in
      let left : length (drop (polled_count h p) (records_from_begin given h p))
      ≡ length (records_from_begin given h p) - polled_count h p =
      length-drop (polled_count h p) (records_from_begin given h p) in
      let some : 0 < count = legal.0.some in
      let last_is : option_map (λ (r : Record). r.offset)
      (slice_get (drop (polled_count h p) (records_from_begin given h p)) (count - 1)) ≡ Some last =
      subst (λ (x : ℕ). option_map (λ (r : Record). r.offset)
      (slice_get (drop (polled_count h x) (records_from_begin given h x)) (count - 1)) ≡ Some last) part legal.0.last_is in
      elim (cases_lt (count - 1) (length (drop (polled_count h p) (records_from_begin given h p)))) [
        | inl fits ↦ rw now (omega arith)
        | inr past ↦
            let none = slice_get_past (drop (polled_count h p) (records_from_begin given h p)) (count - 1) past in
            let nothing = rw none at last_is in cc nothing
      ]
]
polled-from given (v ∷ h) p legal = polled-from given h p legal.2

length-kept : (f : Record → Bool) (rs : List Record) → length (filter f rs) ≤ length rs
length-kept f [] = omega arith
length-kept f (r ∷ rs) =
    let rest : length (filter f rs) ≤ length rs = length-kept f rs in
    elim (cases_Bool (f r)) [ inl kept ↦ rw kept (omega arith) | inr out ↦ rw out (omega arith) ]

length-from : (given : Given) (h : List Event) (p : ℕ)
    → length (records_from_begin given h p) ≤ length (records_of given p)
length-from given h p = length-kept (λ r. nat_le (begin_of h p) r.offset) (records_of given p)

polls-polled : (given : Given) (h : List Event) (p : ℕ) → IsLegal given h
    → tally (anew p) (polls_of p) h ≤ polled_count h p
polls-polled given [] p legal = omega arith
polls-polled given (Assign q epoch position text ∷ h) p legal = elim (cases_Bool (q == p)) [
  | inl now ↦ rw now (omega arith)
  | inr apart ↦ rw apart (polls-polled given h p legal.2)
]
polls-polled given (Poll q count last ∷ h) p legal =
    let rest : tally (anew p) (polls_of p) h ≤ polled_count h p = polls-polled given h p legal.2 in
    elim (cases_Bool (q == p)) [
      | inl now ↦ let some : 0 < count = legal.0.some in rw now (omega arith)
      | inr apart ↦ rw apart rest
    ]
polls-polled given (v ∷ h) p legal = polls-polled given h p legal.2

pub polls-most : (given : Given) (h : List Event) (p : ℕ) → IsLegal given h
    → tally (anew p) (polls_of p) h ≤ length (records_of given p)
polls-most given h p legal =
    let polled : tally (anew p) (polls_of p) h ≤ polled_count h p = polls-polled given h p legal in
    let from : polled_count h p ≤ length (records_from_begin given h p) = polled-from given h p legal in
    let all : length (records_from_begin given h p) ≤ length (records_of given p) = length-from given h p in
    omega arith

-- ---- commits that were due

due-some : (given : Given) (h : List Event) (p : ℕ) → is_commit_due given h p ≡ true
    → 1 ≤ new_successes h p (epoch_of h p)
due-some given h p due =
    let least : 1 ≤ given.setup.settings.commit_every = (setup-within given.setup).commit_every.least in
    elim (or-cases _ _ (and-right (is_held h p) _ due)) [
      | inl enough ↦
          let le : given.setup.settings.commit_every ≤ new_successes h p (epoch_of h p) = leb-true _ _ enough in
          omega arith
      | inr some ↦ let lt : 0 < new_successes h p (epoch_of h p) = ltb-true _ _ (and-right _ _ some) in omega arith
    ]

-- in an epoch, with the successes since the last commit
abbrev DuesAt : Given → List Event → ℕ → Type 0
DuesAt given h p = tally (anew p) (dues_of given p) h + new_successes h p (epoch_of h p)
    ≤ tally (anew p) (succeeds_of p) h

-- a commit of the part, due or not
committed-dues : (given : Given) (h : List Event) (p : ℕ) → DuesAt given h p → (due : Bool)
    → (due ≡ true → 1 ≤ new_successes h p (epoch_of h p))
    → add_if due (tally (anew p) (dues_of given p) h) + 0 ≤ tally (anew p) (succeeds_of p) h
committed-dues given h p before true some =
    let one : 1 ≤ new_successes h p (epoch_of h p) = some refl in
    let le : tally (anew p) (dues_of given p) h + new_successes h p (epoch_of h p)
    ≤ tally (anew p) (succeeds_of p) h = before in omega arith
committed-dues given h p before false some =
    let le : tally (anew p) (dues_of given p) h + new_successes h p (epoch_of h p)
    ≤ tally (anew p) (succeeds_of p) h = before in omega arith

dues-at : (given : Given) (h : List Event) (p : ℕ) → IsLegal given h → is_held h p ≡ true → DuesAt given h p
dues-at given [] p legal held = cc
dues-at given (Assign q epoch position text ∷ h) p legal held = elim (cases_Bool (q == p)) [
  | inl now ↦ rw now (omega arith)
  | inr apart ↦ rw apart (dues-at given h p legal.2 (rw apart at held))
]
dues-at given (Committed q position text size ∷ h) p legal held = elim (cases_Bool (q == p)) [
  | inl now ↦ rw now (committed-dues given h p (dues-at given h p legal.2 held) (is_commit_due given h p) (due-some given h p))
  | inr apart ↦ rw apart (dues-at given h p legal.2 held)
]
dues-at given (CommitFailed q position text size ∷ h) p legal held = elim (cases_Bool (q == p)) [
  | inl now ↦ rw now (committed-dues given h p (dues-at given h p legal.2 held) (is_commit_due given h p) (due-some given h p))
  | inr apart ↦ rw apart (dues-at given h p legal.2 held)
]
dues-at given (Success t answer ∷ h) p legal held =
    let before : tally (anew p) (dues_of given p) h + new_successes h p (epoch_of h p)
    ≤ tally (anew p) (succeeds_of p) h = dues-at given h p legal.2 held in
    elim (cases_Bool (is_success_of (Success t answer) h p (epoch_of h p))) [
      | inl one ↦ rw one (omega arith)
      | inr none ↦ rw none before
    ]
dues-at given (Revoke q epoch ∷ h) p legal held = elim (cases_Bool (q == p)) [
  | inl now ↦ let nothing = rw now at held in cc nothing
  | inr apart ↦ rw apart (dues-at given h p legal.2 (rw apart at held))
]
dues-at given (Lost q epoch ∷ h) p legal held = elim (cases_Bool (q == p)) [
  | inl now ↦ let nothing = rw now at held in cc nothing
  | inr apart ↦ rw apart (dues-at given h p legal.2 (rw apart at held))
]
dues-at given (Crash ∷ h) p legal held = cc
dues-at given (v ∷ h) p legal held = dues-at given h p legal.2 held

-- ---- in an epoch, whether it is over or not

-- an event that passes one of these tests leaves its part held
module _ (given : Given) (p : ℕ) where
  dispatch-held : (e : Event) (h : List Event) → IsLegal given (e ∷ h) → dispatches_of p e h ≡ true
      → is_held (e ∷ h) p ≡ true
  dispatch-held (Dispatch t w q u e a) h legal is =
      subst (λ (x : ℕ). is_held h x ≡ true) (eqb-true q p is) (next_record-In given h q u legal.0.record_is).0
  dispatch-held (Assign q epoch position text) h legal is = cc
  dispatch-held (Poll q count last) h legal is = cc
  dispatch-held (Success t answer) h legal is = cc
  dispatch-held (Failure t code ready) h legal is = cc
  dispatch-held (Stale t) h legal is = cc
  dispatch-held (Committed q position text size) h legal is = cc
  dispatch-held (CommitFailed q position text size) h legal is = cc
  dispatch-held (Revoke q epoch) h legal is = cc
  dispatch-held (Lost q epoch) h legal is = cc
  dispatch-held Crash h legal is = cc
  dispatch-held (Tick now) h legal is = cc
  dispatch-held Drain h legal is = cc
  dispatch-held Done h legal is = cc
  dispatch-held Closed h legal is = cc

  due-held : (e : Event) (h : List Event) → IsLegal given (e ∷ h) → dues_of given p e h ≡ true
      → is_held (e ∷ h) p ≡ true
  due-held (Committed q position text size) h legal is =
      subst (λ (x : ℕ). is_held h x ≡ true) (eqb-true q p (and-left _ _ is)) legal.0.held
  due-held (CommitFailed q position text size) h legal is =
      subst (λ (x : ℕ). is_held h x ≡ true) (eqb-true q p (and-left _ _ is)) legal.0.held
  due-held (Assign q epoch position text) h legal is = cc
  due-held (Poll q count last) h legal is = cc
  due-held (Dispatch t w q u e a) h legal is = cc
  due-held (Success t answer) h legal is = cc
  due-held (Failure t code ready) h legal is = cc
  due-held (Stale t) h legal is = cc
  due-held (Revoke q epoch) h legal is = cc
  due-held (Lost q epoch) h legal is = cc
  due-held Crash h legal is = cc
  due-held (Tick now) h legal is = cc
  due-held Drain h legal is = cc
  due-held Done h legal is = cc
  due-held Closed h legal is = cc

  pub dispatches-most : (h : List Event) → IsLegal given h → tally (anew p) (dispatches_of p) h
      ≤ length (records_of given p) + failing_sum given p (records_of given p)
  dispatches-most h legal = tally-most {P = IsLegal given} (anew p) (dispatches_of p)
      (length (records_of given p) + failing_sum given p (records_of given p)) (legal-before given)
      (λ e k at is. held-dispatches given p (e ∷ k) at (dispatch-held e k at is)) h legal

  pub fails-most : (h : List Event) → IsLegal given h → tally (anew p) (fails_of given p) h
      ≤ failing_sum given p (records_of given p)
  fails-most h legal = tally-most {P = IsLegal given} (anew p) (fails_of given p)
      (failing_sum given p (records_of given p)) (legal-before given)
      (λ e k at is. held-fails given p (e ∷ k) at (dispatch-held e k at (and-left _ _ is))) h legal

  pub dues-most : (h : List Event) → IsLegal given h → tally (anew p) (dues_of given p) h
      ≤ length (records_of given p)
  dues-most h legal = tally-most {P = IsLegal given} (anew p) (dues_of given p)
      (length (records_of given p)) (legal-before given)
      (λ e k at is.
      let held = due-held e k at is in
      let some : tally (anew p) (dues_of given p) (e ∷ k) + new_successes (e ∷ k) p (epoch_of (e ∷ k) p)
      ≤ tally (anew p) (succeeds_of p) (e ∷ k) = dues-at given (e ∷ k) p at held in
      let few : tally (anew p) (succeeds_of p) (e ∷ k) ≤ length (records_of given p) =
      held-successes given p (e ∷ k) at held in
      omega arith) h legal

-- ---- in all epochs

-- how often the part was assigned
abbrev pub assigned : ℕ → Test
assigned p e h = is_assign_of e p

-- a part that is held was assigned
held-assigned : (h : List Event) (p : ℕ) → is_held h p ≡ true → 1 ≤ tally never (assigned p) h
held-assigned [] p held = cc
held-assigned (Assign q epoch position text ∷ h) p held = elim (cases_Bool (q == p)) [
  | inl now ↦ rw now (omega arith)
  | inr apart ↦ rw apart (held-assigned h p (rw apart at held))
]
held-assigned (Revoke q epoch ∷ h) p held = elim (cases_Bool (q == p)) [
  | inl now ↦ let nothing = rw now at held in cc nothing
  | inr apart ↦ held-assigned h p (rw apart at held)
]
held-assigned (Lost q epoch ∷ h) p held = elim (cases_Bool (q == p)) [
  | inl now ↦ let nothing = rw now at held in cc nothing
  | inr apart ↦ held-assigned h p (rw apart at held)
]
held-assigned (Crash ∷ h) p held = cc
held-assigned (v ∷ h) p held = held-assigned h p held

-- a test that is passed by events of the part alone, which do not assign it
pub record IsOfPart (given : Given) (p : ℕ) (test : Test) : Type 0 where
  pub apart : (e : Event) (h : List Event) → is_assign_of e p ≡ true → test e h ≡ false
  pub held : (e : Event) (h : List Event) → IsLegal given (e ∷ h) → test e h ≡ true → is_held (e ∷ h) p ≡ true

module _ (given : Given) (p : ℕ) (test : Test) (most : ℕ) (of : IsOfPart given p test)
    (bound : (h : List Event) → IsLegal given h → tally (anew p) test h ≤ most) where
  never-first : (e : Event) (h : List Event) → IsLegal given (e ∷ h) → test e h ≡ true
      → tally never (λ v k. anew p v) h ≡ 0 → ⊥
  never-first e h legal passes none = elim (cases_Bool (is_assign_of e p)) [
    | inl begins ↦ true-not-false _ passes (of.apart e h begins)
    | inr goes ↦
        let some : 1 ≤ tally never (assigned p) (e ∷ h) = held-assigned (e ∷ h) p (of.held e h legal passes) in
        let same : tally never (assigned p) (e ∷ h) ≡ tally never (assigned p) h = rw goes refl in
        let zero_of : tally never (assigned p) h ≡ 0 = none in
        omega arith
  ]

  pub in-all : (h : List Event) → IsLegal given h → tally never test h ≤ tally never (assigned p) h * most
  in-all h legal =
      let last : tally (anew p) test h ≤ most = bound h legal in
      elim (all-epochs {P = IsLegal given} (anew p) test most (legal-before given)
      (λ e k at begins. of.apart e k begins) never-first bound h legal) [
        | inl none ↦ let zero_of : tally never test h ≡ 0 = none.1 in omega arith
        | inr some ↦
            let fits : tally never test h + most ≤ tally never (assigned p) h * most + tally (anew p) test h = some in
            omega arith
      ]

dispatches-apart : (p : ℕ) (e : Event) (h : List Event) → is_assign_of e p ≡ true → dispatches_of p e h ≡ false
dispatches-apart p (Assign q epoch position text) h is = refl
dispatches-apart p e h is = cc

fails-apart : (given : Given) (p : ℕ) (e : Event) (h : List Event) → is_assign_of e p ≡ true
    → fails_of given p e h ≡ false
fails-apart given p e h is = rw (dispatches-apart p e h is) refl

polls-apart : (p : ℕ) (e : Event) (h : List Event) → is_assign_of e p ≡ true → polls_of p e h ≡ false
polls-apart p (Assign q epoch position text) h is = refl
polls-apart p e h is = cc

dues-apart : (given : Given) (p : ℕ) (e : Event) (h : List Event) → is_assign_of e p ≡ true
    → dues_of given p e h ≡ false
dues-apart given p (Assign q epoch position text) h is = refl
dues-apart given p e h is = cc

poll-held : (given : Given) (p : ℕ) (e : Event) (h : List Event) → IsLegal given (e ∷ h)
    → polls_of p e h ≡ true → is_held (e ∷ h) p ≡ true
poll-held given p (Poll q count last) h legal is =
    subst (λ (x : ℕ). is_held h x ≡ true) (eqb-true q p is) legal.0.held
poll-held given p e h legal is = cc

-- what a part comes to in all: for each assignment four events for each of its records and failures
pub part-few : (given : Given) (p : ℕ) (h : List Event) → IsLegal given h
    → 2 * tally never (dispatches_of p) h + tally never (polls_of p) h + tally never (dues_of given p) h
    + 2 * tally never (fails_of given p) h
    ≤ 4 * (tally never (assigned p) h * (length (records_of given p) + failing_sum given p (records_of given p)))
part-few given p h legal =
    let n : ℕ = tally never (assigned p) h in
    let r : ℕ = length (records_of given p) in
    let f : ℕ = failing_sum given p (records_of given p) in
    let dispatched : tally never (dispatches_of p) h ≤ n * (r + f) = in-all given p (dispatches_of p) (r + f)
    (record { apart = dispatches-apart p; held = dispatch-held given p }) (dispatches-most given p) h legal in
    let polled : tally never (polls_of p) h ≤ n * r = in-all given p (polls_of p) r
    (record { apart = polls-apart p; held = poll-held given p }) (λ k at. polls-most given k p at) h legal in
    let due : tally never (dues_of given p) h ≤ n * r = in-all given p (dues_of given p) r
    (record { apart = dues-apart given p; held = due-held given p }) (dues-most given p) h legal in
    let failed : tally never (fails_of given p) h ≤ n * f = in-all given p (fails_of given p) f
    (record { apart = fails-apart given p; held = λ e k at is. dispatch-held given p e k at (and-left _ _ is) })
    (fails-most given p) h legal in
    let parts : n * (r + f) ≡ n * r + n * f = mul-add n r f in
    omega arith
