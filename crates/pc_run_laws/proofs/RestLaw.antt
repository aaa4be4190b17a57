-- A run at rest: the first record of a part that it leaves has failed as often as it may, and from
-- its drain on it stays at rest.
use Rattle.std.proofs.Common.{◌≡◌, ℕ, zero, suc, ◌≤◌, ◌<◌, Bool, true, false, not, ◌&&◌, ◌||◌, ◌==◌, List, [], ◌∷◌, ◌++◌, take, drop, length, Option, Some, None, refl, ap, sym, subst, ◌∙◌, arith, inl, inr, eq-eqb}
use Rattle.std.specs.Prelude.{filter, nat_le, nat_lt, slice_get, is_none}
use Rattle.std.specs.List.{list_any}
use Rattle.std.specs.Option.{option_map_or}
use Rattle.std.proofs.lemmas.Bool.{cases_Bool, cases_lt, leb-true, ltb-true, lt-ltb, le-leb, eqb-true}
use Rattle.std.proofs.Math.Bool.{or-true}
use Rattle.std.proofs.lemmas.Option.{slice_get_past}
use Rattle.pc_model.specs.declared.event.Event.{Event}
use Rattle.pc_model.specs.declared.event.Event.TheVariants.{Assign, Poll, Dispatch, Success, Failure, Stale, Commit as Committed, CommitFailed, Revoke, Lost, Crash, Tick, Drain, Done, Closed}
use Rattle.pc_model.specs.declared.commit.SizedCommit.{SizedCommit}
use Rattle.pc_model.specs.declared.step.Act.{Act}
use Rattle.pc_model.specs.declared.step.Act.TheVariants as act
use Rattle.pc_model.specs.declared.step.Step.{Step}
use Rattle.pc_model.specs.Record.{Record}
use Rattle.pc_model.proofs.SetupLaws.{setup-within}
use Rattle.pc_model.specs.BestMap.{is_pressed}
use Rattle.pc_model.specs.Given.{Given, parts_of, records_of}
use Rattle.pc_model.specs.Jobs.{Job, is_draining, open_jobs, settles}
use Rattle.pc_model.specs.Epochs.{epoch_of, is_held, is_current}
use Rattle.pc_model.specs.Known.{begin_of, polled_count, records_from_begin, polled_records, unpolled_records, known_records, is_complete, marks_of, high_of, commit_of}
use Rattle.pc_model.specs.Pressure.{last_size, is_below_high, is_blocked, is_upto_high}
use Rattle.pc_model.specs.Retry.{failures_of}
use Rattle.pc_model.specs.Next.{is_before, is_first, is_eligible_record, eligible_offsets}
use Rattle.pc_model.specs.Lawful.{IsLegal, CommitIsLawful, ends_in_commit, held_parts, is_nil}
use Rattle.pc_model.specs.Run.{open_records, poll_number, is_commit_due, new_successes, is_spent, is_given_up, is_part_at_rest, is_at_rest}
use Rattle.pc_model.specs.OneMore.{SamePart}
use Rattle.pc_model.specs.Steps.{place_of, may_begin, same_act, is_step_due, follows_at, follows}
use Rattle.pc_model.specs.Pace.{goes_with, is_paced_at, is_paced}
use Rattle.pc_model.proofs.SamePart.{other_part}
use Rattle.pc_model.proofs.JobLaws.{open_jobs-settled}
use Rattle.pc_model.proofs.KnownLaws.{unpolled_records-same, open_records-same}
use Rattle.pc_model.proofs.RunLaws.{is_part_at_rest-same}
use Rattle.pc_laws.specs.Lists.{In}
use Rattle.pc_run_laws.specs.Run.{IsRun, IsFirstUnfinished}
use Rattle.pc_laws.specs.Stall.{IsLeastOpen}
use Rattle.pc_laws.specs.Stall.GoesOn.{JobIsOut, IsEligible, Waits, PollIsOpen, CommitIsDue, IsSpent}
use Rattle.pc_laws.proofs.Lists.{and-left, and-right, or-cases, not-true, true-not-false, In-append, In-filter, In-filtered, In-mapped, In-list_any, list_any-In, list_all-In, list_all-each}
use Rattle.pc_laws.proofs.Passing.{option_cases}
use Rattle.pc_laws.proofs.Rising.{Rises, Rises-filter}
use Rattle.pc_laws.proofs.PositionLaw.{from_begin-rises}
use Rattle.pc_run_laws.proofs.AttemptsLaw.{failures-most}
use Rattle.pc_laws.proofs.Blocked.{drop-In, keeps_size}
use Rattle.pc_laws.proofs.DoneLaw.{In-range, no-log}
use Rattle.pc_laws.proofs.JobsLaw.{out-job}
use Rattle.pc_laws.proofs.OrderlyLaw.{next_record-In, polled-record}
use Rattle.pc_laws.proofs.StaleLaw.{same_part-stale}
use Rattle.pc_laws.proofs.StallLaw.{above-high, commit-is-due, first-le-of, goes_on, high-below, known-open, list_cases, open-In, open-polled, polled-above}

-- ---- the newest event of a run, and what was before it

module _ (given : Given) (steps : List Step) (e : Event) (h : List Event) where
  pub moves-now : follows given steps (e ∷ h) ≡ true → follows_at given steps e h ≡ true
  moves-now moves = and-left (follows_at given steps e h) (follows given steps h) moves

  pub moves-before : follows given steps (e ∷ h) ≡ true → follows given steps h ≡ true
  moves-before moves = and-right (follows_at given steps e h) (follows given steps h) moves

  pub paced-now : is_paced given steps (e ∷ h) ≡ true → is_paced_at given steps e h ≡ true
  paced-now paced = and-left (is_paced_at given steps e h) (goes_with given h e && is_paced given steps h) paced

  pub paced-with : is_paced given steps (e ∷ h) ≡ true → goes_with given h e ≡ true
  paced-with paced = and-left (goes_with given h e) (is_paced given steps h)
      (and-right (is_paced_at given steps e h) (goes_with given h e && is_paced given steps h) paced)

  pub paced-before : is_paced given steps (e ∷ h) ≡ true → is_paced given steps h ≡ true
  paced-before paced = and-right (goes_with given h e) (is_paced given steps h)
      (and-right (is_paced_at given steps e h) (goes_with given h e && is_paced given steps h) paced)

-- ---- what rest says of a part, and of the jobs

module _ (given : Given) (h : List Event) (rests : is_at_rest given h ≡ true) where
  pub idle : list_any (is_current h) (open_jobs h) ≡ false
  unfolding is_at_rest
  idle = not-true _ (and-left _ _ rests)

  pub part-rests : (p : ℕ) → In p (held_parts given h) → is_part_at_rest given h p ≡ true
  unfolding is_at_rest
  part-rests p i = list_all-In (is_part_at_rest given h) p (held_parts given h)
      (and-right _ _ rests) i

  -- no current job is out
  pub no-job : {P : Type 0} (j : Job) → In j (open_jobs h) → is_current h j ≡ true → P
  no-job j i current = true-not-false _ (list_any-In (is_current h) j (open_jobs h) i current) idle

module _ (given : Given) (h : List Event) (p : ℕ) (rests : is_part_at_rest given h p ≡ true) where
  pub not-due : is_commit_due given h p ≡ false
  not-due = not-true _ (and-left _ _ (and-left _ _ rests))

  pub no-poll : is_none (poll_number given h p) ≡ true
  no-poll = and-right _ _ (and-left _ _ rests)

  pub given-up : (r : Record) → In r (open_records given h p) → is_given_up given h p r ≡ true
  given-up r i = list_all-In (is_given_up given h p) r (open_records given h p)
      (and-right _ _ rests) i

-- a run without current jobs, of whose held parts each is at rest
pub at_rest-by : (given : Given) (h : List Event) → list_any (is_current h) (open_jobs h) ≡ false
    → ((p : ℕ) → In p (held_parts given h) → is_part_at_rest given h p ≡ true)
    → is_at_rest given h ≡ true
unfolding is_at_rest
at_rest-by given h none each = rw none (list_all-each (is_part_at_rest given h) (held_parts given h) each)

-- ---- the least open record of a part at rest

module _ (given : Given) (h : List Event) (p : ℕ) (legal : IsLegal given h)
    (held : is_held h p ≡ true) (rests : is_part_at_rest given h p ≡ true) where
  -- has failed as often as it may
  pub least-spent : (r : Record) → IsLeastOpen given h p r → is_spent given h p r ≡ true
  unfolding is_given_up
  least-spent r least = elim (or-cases _ _ (given-up given h p rests r least.is_open)) [
    | inl either ↦ elim (or-cases _ _ either) [
      | inl spent ↦ spent
      | inr earlier ↦
          let one = In-list_any (λ q. is_before given p q r && is_spent given h p q)
          (open_records given h p) earlier in
          let below : one.0.offset < r.offset = ltb-true one.0.offset r.offset
          (and-left _ _ (and-left _ _ one.2)) in
          let le : r.offset ≤ one.0.offset = least.least one.0 one.1 in absurd (omega arith)
    ]
    | inr above ↦
        let blocked = and-left _ _ above in
        let beyond = not-true _ (and-right (is_blocked given h p) _ above) in
        true-not-false (is_commit_due given h p)
        (commit-is-due given h p legal held blocked (λ g high.
        high-below given h p legal g high (λ s i waits.
        let at = open-polled given h p legal r least.is_open in
        let apart : g < r.offset = above-high r.offset g (high_of given h p) high beyond in
        elim (known-open given h p legal s i waits) [
          | inl open_one ↦ let le : r.offset ≤ s.offset = least.least s open_one in omega arith
          | inr unpolled ↦ let lt : r.offset < s.offset =
              polled-above given h p legal r s at.0 unpolled in omega arith
        ]))) (not-due given h p rests)
  ]

take-rises : (k n : ℕ) (rs : List Record) → Rises n rs → Rises n (take k rs)
take-rises zero n rs rises = tt
take-rises (suc k) n [] rises = tt
take-rises (suc k) n (r ∷ rs) rises = (rises.0, rises.1, take-rises k (suc r.offset) rs rises.2)

-- ---- the first record that is not finished

module _ (given : Given) (h : List Event) (p : ℕ) (legal : IsLegal given h) where
  open-rises : Rises 0 (open_records given h p)
  unfolding open_records polled_records
  open-rises = Rises-filter (λ r. not (is_complete h p r.offset)) 0
      (take (polled_count h p) (records_from_begin given h p))
      (take-rises (polled_count h p) 0 (records_from_begin given h p)
      (from_begin-rises given h legal p))

  first-least : (r : Record) (rs : List Record) → open_records given h p ≡ r ∷ rs
      → IsLeastOpen given h p r
  first-least r rs is = record {
    is_open = subst (λ (qs : List Record). In r qs) (sym is) (inl refl);
    least = λ s i. first-le-of (open_records given h p) 0 r s open-rises (rw is refl) i;
  }

  -- an open record is one that the log has
  unfinished-log : (r : Record) → In r (records_of given p) → is_held h p ≡ true
      → In p (held_parts given h)
  unfinished-log r i held = elim (cases_lt p (length given.logs)) [
    | inl below ↦ In-filter (is_held h) p (parts_of given)
        (In-range 0 (length given.logs) p p (omega arith) below) held
    | inr past ↦ absurd (subst (λ (rs : List Record). In r rs) (no-log given p past) i)
  ]

In-first : (r : Record) (rs : List Record) → slice_get rs 0 ≡ Some r → In r rs
In-first r [] e = cc
In-first r (q ∷ qs) e = let is : q ≡ r = cc in inl (sym is)

pub eligible-incomplete : (given : Given) (h : List Event) (p : ℕ) (r : Record)
    → is_eligible_record given h p r ≡ true → is_complete h p r.offset ≡ false
unfolding is_eligible_record
eligible-incomplete given h p r e = not-true _
    (and-left _ _ (and-left _ _ (and-left _ _ (and-left _ _ (and-left _ _ e)))))

-- where a part at rest has no open record, all of it was polled, unless the run drains
pub all-polled : (given : Given) (h : List Event) (p : ℕ) → IsLegal given h → is_draining h ≡ false
    → is_held h p ≡ true → is_at_rest given h ≡ true → In p (held_parts given h)
    → open_records given h p ≡ [] → unpolled_records given h p ≡ []
unfolding eligible_offsets
all-polled given h p legal running held rests i none =
    let nothing : (r : Record) → In r (open_records given h p) → unpolled_records given h p ≡ [] = λ r j.
    absurd (subst (λ (rs : List Record). In r rs) none j) in
    let part = part-rests given h rests p i in
    elim (list_cases (unpolled_records given h p)) [
      | inl empty ↦ empty
      | inr one ↦ elim (goes_on given h p legal held (inl running) (inl one)) [
        | JobIsOut j out is current ↦ no-job given h rests j out current
        | IsEligible o at ↦
            let r = In-mapped (λ (q : Record). q.offset) o
            (filter (is_eligible_record given h p) (polled_records given h p)) (rw held at at) in
            let passed = In-filtered (is_eligible_record given h p) r.0 (polled_records given h p) r.1 in
            nothing r.0 (open-In given h p legal r.0 passed.0
            (eligible-incomplete given h p r.0 passed.1))
        | Waits r least time ↦ nothing r least.is_open
        | PollIsOpen n is ↦ let test = no-poll given h p part in let open_one = rw is at test in cc open_one
        | CommitIsDue blocked due size ↦ true-not-false _ due (not-due given h p part)
        | IsSpent r least spent ↦ nothing r least.is_open
      ]
    ]

-- ---- what is said of a part at rest, after an event that does not touch any part

-- no job is out that was not
fewer-jobs : (f g : Job → Bool) (js : List Job) → list_any f js ≡ false
    → list_any f (filter g js) ≡ false
fewer-jobs f g js none = elim (cases_Bool (list_any f (filter g js))) [
  | inr still ↦ still
  | inl some ↦
      let one = In-list_any f (filter g js) some in
      true-not-false _ (list_any-In f one.0 js (In-filtered g one.0 js one.1).0 one.2) none
]

-- how far the run is once it drains: at rest, with all of its steps begun and none cut short, and
-- what it did not poll stands after records that are open
pub record IsAtEnd (given : Given) (steps : List Step) (h : List Event) : Type 0 where
  pub rests : is_at_rest given h ≡ true
  pub used : length steps ≤ (place_of given h).begun
  pub left : (place_of given h).left ≡ []
  pub polled : (p : ℕ) → In p (held_parts given h) → open_records given h p ≡ []
      → unpolled_records given h p ≡ []

pub is_nil-of : {X : Type 0} (xs : List X) → is_nil xs ≡ true → xs ≡ []
is_nil-of [] e = refl
is_nil-of (x ∷ xs) e = cc

-- no block begins once all steps are used up
pub none-begins : (given : Given) (steps : List Step) (h : List Event) (act : Act)
    → length steps ≤ (place_of given h).begun → may_begin given steps h act ≡ true → ⊥
none-begins given steps h act used may =
    let none : slice_get steps (place_of given h).begun ≡ None = slice_get_past steps
    (place_of given h).begun used in
    let test : option_map_or (λ step. same_act step.act act && is_step_due given step h)
    (slice_get steps (place_of given h).begun) false ≡ true =
    and-right (is_nil (place_of given h).left) _ may in
    let nothing = rw none at test in cc nothing

module _ (given : Given) (steps : List Step) (e : Event) (h : List Event)
    (same : (p : ℕ) → SamePart given p h (e ∷ h))
    (draining : is_draining (e ∷ h) ≡ is_draining h)
    (place : place_of given (e ∷ h) ≡ place_of given h)
    (none : list_any (is_current (e ∷ h)) (open_jobs (e ∷ h)) ≡ false)
    (end : IsAtEnd given steps h) where
  held-before : (p : ℕ) → In p (held_parts given (e ∷ h)) → In p (held_parts given h)
  held-before p i =
      let at = In-filtered (is_held (e ∷ h)) p (parts_of given) i in
      In-filter (is_held h) p (parts_of given) at.0 (sym (same p).held ∙ at.1)

  same-end : IsAtEnd given steps (e ∷ h)
  same-end = record {
    rests = at_rest-by given (e ∷ h) none
        (λ p i. is_part_at_rest-same given p h (e ∷ h) (same p) draining
        ∙ part-rests given h end.rests p (held-before p i));
    used = rw place end.used;
    left = rw place end.left;
    polled = λ p i empty. unpolled_records-same given p h (e ∷ h) (same p)
        ∙ end.polled p (held-before p i)
        (sym (open_records-same given p h (e ∷ h) (same p)) ∙ empty);
  }

-- while the run drains no poll is open
poll-none : (given : Given) (h : List Event) (p : ℕ) → is_draining h ≡ true → poll_number given h p ≡ None
unfolding poll_number
poll-none given h p draining = elim (cases_Bool (is_held h p)) [
  | inl held ↦ rw (held, draining) refl
  | inr free ↦ rw free refl
]

-- a drain begins at rest
pub drain-end : (given : Given) (steps : List Step) (h : List Event) → IsLegal given h
    → is_draining h ≡ false → is_at_rest given h ≡ true → length steps ≤ (place_of given h).begun
    → (place_of given h).left ≡ [] → IsAtEnd given steps (Drain ∷ h)
unfolding open_records polled_records unpolled_records known_records marks_of is_given_up is_complete
drain-end given steps h legal running rests used left = record {
  rests = at_rest-by given (Drain ∷ h) (idle given h rests) (λ p i.
      let part = part-rests given h rests p i in
      rw (not-due given h p part, poll-none given (Drain ∷ h) p refl)
      (list_all-each _ (open_records given h p) (given-up given h p part)));
  used = used;
  left = left;
  polled = λ p i empty. all-polled given h p legal running
      (In-filtered (is_held h) p (parts_of given) i).1 rests i empty;
}

-- ---- a commit of a part at rest, stored or failed, while the run drains

-- whether the part is blocked after a commit of this size
is_blocked-size : (given : Given) (h : List Event) (p size : ℕ) → last_size h p ≡ Some size
    → is_blocked given h p ≡ is_pressed size given.setup.settings.map_limit given.setup.settings.press_percent
is_blocked-size given h p size is = rw is refl

-- a blocked part stays so by the commit that it has at rest
stays-blocked : (given : Given) (h : List Event) (p position : ℕ) (text : List ℕ) (size : ℕ)
    → IsLegal given h → CommitIsLawful given h p position text size → is_commit_due given h p ≡ false
    → is_blocked given h p ≡ true
    → is_pressed size given.setup.settings.map_limit given.setup.settings.press_percent ≡ true
stays-blocked given h p position text size legal lawful due blocked = elim (option_cases (last_size h p)) [
  | inl none ↦ let nothing = rw none at blocked in cc nothing
  | inr last ↦ elim (cases_lt 0 (new_successes h p (epoch_of h p))) [
    | inl some ↦ true-not-false (is_commit_due given h p)
        (rw (lawful.held, blocked, lt-ltb 0 (new_successes h p (epoch_of h p)) some)
        (or-true (nat_le given.setup.settings.commit_every (new_successes h p (epoch_of h p))))) due
    | inr no_new ↦
        let zero_new : new_successes h p (epoch_of h p) ≡ 0 = omega arith in
        let kept : last.0 ≡ (commit_of given h p).size = sym
        (keeps_size given h p legal last.0 lawful.held last.1 blocked zero_new) in
        let is : (commit_of given h p).size ≡ size = ap (λ (c : SizedCommit). c.size) lawful.commit_is in
        subst (λ (n : ℕ). is_pressed n given.setup.settings.map_limit given.setup.settings.press_percent ≡ true)
        (kept ∙ is) (sym (is_blocked-size given h p last.0 last.1) ∙ blocked)
  ]
]

given-up-blocked : (spent earlier blocked above : Bool) (now : Bool) → (blocked ≡ true → now ≡ true)
    → (spent || earlier || (blocked && above)) ≡ true → (spent || earlier || (now && above)) ≡ true
given-up-blocked true earlier blocked above now stays e = refl
given-up-blocked false true blocked above now stays e = refl
given-up-blocked false false true above now stays e = rw (stays refl) e
given-up-blocked false false false above now stays e = cc

commit_every-some : (given : Given) → nat_le given.setup.settings.commit_every 0 ≡ false
commit_every-some given =
    let least : 1 ≤ given.setup.settings.commit_every = (setup-within given.setup).commit_every.least in
    elim (cases_Bool (nat_le given.setup.settings.commit_every 0)) [
      | inr still ↦ still
      | inl le ↦ let none : given.setup.settings.commit_every ≤ 0 = leb-true _ _ le in absurd (omega arith)
    ]

none-fresh : (held some blocked : Bool) → some ≡ false → (held && (some || (blocked && false))) ≡ false
none-fresh true some true e = rw e refl
none-fresh true some false e = rw e refl
none-fresh false some blocked e = refl

-- what a commit leaves of a part at rest: the record that was committed, and all that was given up
module _ (given : Given) (h : List Event) (p position : ℕ) (text : List ℕ) (size : ℕ)
    (legal : IsLegal given h) (lawful : CommitIsLawful given h p position text size)
    (draining : is_draining h ≡ true) (part : is_part_at_rest given h p ≡ true) where
  stored-rests : is_part_at_rest given (Committed p position text size ∷ h) p ≡ true
  unfolding open_records polled_records unpolled_records known_records marks_of is_given_up is_complete
  stored-rests =
      let due : is_commit_due given (Committed p position text size ∷ h) p ≡ false = rw (eq-eqb p p refl)
      (none-fresh (is_held h p) (nat_le given.setup.settings.commit_every 0)
      (is_pressed size given.setup.settings.map_limit given.setup.settings.press_percent) (commit_every-some given)) in
      rw (due, poll-none given (Committed p position text size ∷ h) p draining)
      (list_all-each _ (open_records given h p) (λ r i.
      given-up-blocked (is_spent given h p r)
      (list_any (λ q. is_before given p q r && is_spent given h p q) (open_records given h p))
      (is_blocked given h p) (not (is_upto_high given h p r.offset))
      (is_blocked given (Committed p position text size ∷ h) p) (λ blocked. rw (eq-eqb p p refl)
      (stays-blocked given h p position text size legal lawful (not-due given h p part) blocked))
      (given-up given h p part r i)))

  failed-rests : is_part_at_rest given (CommitFailed p position text size ∷ h) p ≡ true
  unfolding open_records polled_records unpolled_records known_records marks_of is_given_up is_complete
  failed-rests =
      let due : is_commit_due given (CommitFailed p position text size ∷ h) p ≡ false = rw (eq-eqb p p refl)
      (none-fresh (is_held h p) (nat_le given.setup.settings.commit_every 0)
      (is_pressed size given.setup.settings.map_limit given.setup.settings.press_percent) (commit_every-some given)) in
      rw (due, poll-none given (CommitFailed p position text size ∷ h) p draining)
      (list_all-each _ (open_records given h p) (λ r i.
      given-up-blocked (is_spent given h p r)
      (list_any (λ q. is_before given p q r && is_spent given h p q) (open_records given h p))
      (is_blocked given h p) (not (is_upto_high given h p r.offset))
      (is_blocked given (CommitFailed p position text size ∷ h) p) (λ blocked. rw (eq-eqb p p refl)
      (stays-blocked given h p position text size legal lawful (not-due given h p part) blocked))
      (given-up given h p part r i)))

module _ (given : Given) (steps : List Step) (h : List Event) (p position : ℕ) (text : List ℕ)
    (size : ℕ) (legal : IsLegal given h) (lawful : CommitIsLawful given h p position text size)
    (draining : is_draining h ≡ true) (end : IsAtEnd given steps h) where
  stored-end : IsAtEnd given steps (Committed p position text size ∷ h)
  unfolding open_records polled_records unpolled_records is_complete
  stored-end = record {
    rests = at_rest-by given (Committed p position text size ∷ h) (idle given h end.rests)
        (λ q i. elim (cases_Bool (p == q)) [
          | inl same ↦ subst
              (λ (u : ℕ). is_part_at_rest given (Committed p position text size ∷ h) u ≡ true)
              (eqb-true p q same)
              (stored-rests given h p position text size legal lawful draining
              (part-rests given h end.rests p (subst (λ (u : ℕ). In u (held_parts given h))
              (sym (eqb-true p q same)) i)))
          | inr apart ↦ is_part_at_rest-same given q h (Committed p position text size ∷ h)
              (other_part given q (Committed p position text size) h apart) refl
              ∙ part-rests given h end.rests q i
        ]);
    used = end.used;
    left = end.left;
    polled = λ q i empty. end.polled q i empty;
  }

  failed-end : IsAtEnd given steps (CommitFailed p position text size ∷ h)
  unfolding open_records polled_records unpolled_records is_complete
  failed-end = record {
    rests = at_rest-by given (CommitFailed p position text size ∷ h) (idle given h end.rests)
        (λ q i. elim (cases_Bool (p == q)) [
          | inl same ↦ subst
              (λ (u : ℕ). is_part_at_rest given (CommitFailed p position text size ∷ h) u ≡ true)
              (eqb-true p q same)
              (failed-rests given h p position text size legal lawful draining
              (part-rests given h end.rests p (subst (λ (u : ℕ). In u (held_parts given h))
              (sym (eqb-true p q same)) i)))
          | inr apart ↦ is_part_at_rest-same given q h (CommitFailed p position text size ∷ h)
              (other_part given q (CommitFailed p position text size) h apart) refl
              ∙ part-rests given h end.rests q i
        ]);
    used = end.used;
    left = end.left;
    polled = λ q i empty. end.polled q i empty;
  }

-- what lies below the high is not above it
high-between : (o : ℕ) (high : Option ℕ) → option_map_or (nat_lt o) high false ≡ true
    → option_map_or (nat_le o) high false ≡ false → ⊥
high-between o None below beyond = cc
high-between o (Some g) below beyond =
    let lt : o < g = ltb-true o g below in true-not-false (nat_le o g) (le-leb o g (omega arith)) beyond

-- no record may be dispatched at rest
pub none-eligible : (given : Given) (h : List Event) (p : ℕ) (r : Record) → IsLegal given h
    → is_part_at_rest given h p ≡ true → In r (polled_records given h p)
    → is_eligible_record given h p r ≡ true → ⊥
unfolding is_eligible_record is_given_up is_first
none-eligible given h p r legal part polled e =
    let waits = eligible-incomplete given h p r e in
    let up = given-up given h p part r (open-In given h p legal r polled waits) in
    elim (or-cases _ _ up) [
      | inl either ↦ elim (or-cases _ _ either) [
        | inl spent ↦
            let le : given.setup.settings.give_up ≤ failures_of h p r.offset = leb-true _ _ spent in
            let lt : failures_of h p r.offset < given.setup.settings.give_up = ltb-true _ _
            (and-right _ _ (and-left _ _ (and-left _ _ e))) in omega arith
        | inr earlier ↦
            let one = In-list_any (λ q. is_before given p q r && is_spent given h p q)
            (open_records given h p) earlier in
            let at = open-polled given h p legal one.0 one.1 in
            let done = list_all-In (λ q. not (is_before given p q r) || is_complete h p q.offset)
            one.0 (polled_records given h p)
            (and-right _ _ (and-left _ _ (and-left _ _ (and-left _ _ e)))) at.0 in
            let before : is_before given p one.0 r ≡ true = and-left _ _ one.2 in
            let nothing = rw (before, at.1) at done in cc nothing
      ]
      | inr above ↦
          let blocked : is_blocked given h p ≡ true = and-left _ _ above in
          let beyond : is_upto_high given h p r.offset ≡ false = not-true _
          (and-right (is_blocked given h p) _ above) in
          let test : (not (is_blocked given h p) || is_below_high given h p r.offset) ≡ true =
          and-right _ _ e in
          let below : is_below_high given h p r.offset ≡ true = rw blocked at test in
          high-between r.offset (high_of given h p) below beyond
    ]

pub ends-in : (given : Given) (h : List Event) (p : ℕ) → ends_in_commit h p ≡ true
    → place_of given (drop 1 h) ≡ place_of given h
ends-in given [] p e = cc
ends-in given (Committed q position text size ∷ h) p e = refl
ends-in given (CommitFailed q position text size ∷ h) p e = refl
ends-in given (v ∷ h) p e = cc

pub at-end : (given : Given) (steps : List Step) (h : List Event) → IsLegal given h
    → follows given steps h ≡ true → is_paced given steps h ≡ true → is_draining h ≡ true
    → IsAtEnd given steps h
at-end given steps [] legal moves paced drains = cc
at-end given steps (Drain ∷ h) legal moves paced drains =
    let at = paced-now given steps Drain h paced in
    drain-end given steps h legal.2 legal.0 (and-right _ _ at) (leb-true _ _ (and-left _ _ at))
    (is_nil-of (place_of given h).left (moves-now given steps Drain h moves))
at-end given steps (Assign p epoch position text ∷ h) legal moves paced drains =
    true-not-false _ drains legal.0.running
at-end given steps (Poll p count last ∷ h) legal moves paced drains =
    true-not-false _ drains legal.0.running
at-end given steps (Dispatch t w p o e a ∷ h) legal moves paced drains =
    let end = at-end given steps h legal.2 (moves-before given steps (Dispatch t w p o e a) h moves) (paced-before given steps (Dispatch t w p o e a) h paced) drains in
    let next = next_record-In given h p o legal.0.record_is in
    absurd (none-eligible given h p next.1.0 legal.2 (part-rests given h end.rests p
    (unfinished-log given h p legal.2 next.1.0 (polled-record given h p next.1.0 next.1.1).0 next.0))
    next.1.1 next.1.3)
at-end given steps (Success t answer ∷ h) legal moves paced drains =
    let end = at-end given steps h legal.2 (moves-before given steps (Success t answer) h moves) (paced-before given steps (Success t answer) h paced) drains in
    let job = out-job h t legal.0.outstanding legal.0.current in
    no-job given h end.rests job.0 job.2 job.3
at-end given steps (Failure t code ready ∷ h) legal moves paced drains =
    let end = at-end given steps h legal.2 (moves-before given steps (Failure t code ready) h moves) (paced-before given steps (Failure t code ready) h paced) drains in
    let job = out-job h t legal.0.outstanding legal.0.current in
    no-job given h end.rests job.0 job.2 job.3
at-end given steps (Stale t ∷ h) legal moves paced drains =
    let end = at-end given steps h legal.2 (moves-before given steps (Stale t) h moves) (paced-before given steps (Stale t) h paced) drains in
    same-end given steps (Stale t) h (same_part-stale given h t legal) refl refl
    (rw (open_jobs-settled (Stale t) h refl)
    (fewer-jobs (is_current h) (λ j. not (settles (Stale t) j.ticket)) (open_jobs h) (idle given h end.rests))) end
at-end given steps (Committed p position text size ∷ h) legal moves paced drains =
    stored-end given steps h p position text size legal.2 legal.0 drains
    (at-end given steps h legal.2 (moves-before given steps (Committed p position text size) h moves) (paced-before given steps (Committed p position text size) h paced) drains)
at-end given steps (CommitFailed p position text size ∷ h) legal moves paced drains =
    failed-end given steps h p position text size legal.2 legal.0 drains
    (at-end given steps h legal.2 (moves-before given steps (CommitFailed p position text size) h moves) (paced-before given steps (CommitFailed p position text size) h paced) drains)
at-end given steps (Revoke p epoch ∷ h) legal moves paced drains =
    let end = at-end given steps h legal.2 (moves-before given steps (Revoke p epoch) h moves) (paced-before given steps (Revoke p epoch) h paced) drains in
    absurd (none-begins given steps (drop 1 h) (act.Revoke p)
    (rw (ends-in given h p legal.0.after_commit) end.used) (moves-now given steps (Revoke p epoch) h moves))
at-end given steps (Lost p epoch ∷ h) legal moves paced drains =
    let end = at-end given steps h legal.2 (moves-before given steps (Lost p epoch) h moves) (paced-before given steps (Lost p epoch) h paced) drains in
    absurd (none-begins given steps h (act.Lose p) end.used (moves-now given steps (Lost p epoch) h moves))
at-end given steps (Crash ∷ h) legal moves paced drains = cc
at-end given steps (Tick now ∷ h) legal moves paced drains =
    let end = at-end given steps h legal.2 (moves-before given steps (Tick now) h moves) (paced-before given steps (Tick now) h paced) drains in
    same-end given steps (Tick now) h (λ p. other_part given p (Tick now) h refl) refl refl
    (idle given h end.rests) end
at-end given steps (Done ∷ h) legal moves paced drains =
    let end = at-end given steps h legal.2 (moves-before given steps Done h moves) (paced-before given steps Done h paced) drains in
    same-end given steps Done h (λ p. other_part given p Done h refl) refl refl
    (idle given h end.rests) end
at-end given steps (Closed ∷ h) legal moves paced drains = cc

pub stays_at_rest : (given : Given) (steps : List Step) (h : List Event) → IsRun given steps h
    → is_draining h ≡ true → is_at_rest given h ≡ true
stays_at_rest given steps h run drains = (at-end given steps h run.legal run.follows run.paced drains).rests

-- ---- what is named as unfinished

-- a run at rest was polled whole, where no record of a part is open
pub rests-polled : (given : Given) (steps : List Step) (h : List Event) (p : ℕ) → IsRun given steps h
    → is_at_rest given h ≡ true → is_held h p ≡ true → In p (held_parts given h)
    → open_records given h p ≡ [] → unpolled_records given h p ≡ []
rests-polled given steps h p run rests held i empty = elim (cases_Bool (is_draining h)) [
  | inl drains ↦ (at-end given steps h run.legal run.follows run.paced drains).polled p i empty
  | inr running ↦ all-polled given h p run.legal running held rests i empty
]

-- an unfinished record is one that the log has
pub unfinished-record : (given : Given) (h : List Event) (p : ℕ) (r : Record) → IsLegal given h
    → IsFirstUnfinished given h p r → In r (records_of given p)
unfolding unpolled_records
unfinished-record given h p r legal first =
    elim (In-append r (open_records given h p) (unpolled_records given h p)
    (In-first r (open_records given h p ++ unpolled_records given h p) first)) [
      | inl open_one ↦ (polled-record given h p r (open-polled given h p legal r open_one).0).0
      | inr unpolled ↦ (In-filtered (λ q. nat_le (begin_of h p) q.offset) r (records_of given p)
          (drop-In (polled_count h p) r (records_from_begin given h p) unpolled)).0
    ]

first-of : (r : Record) (q : Record) (qs us : List Record) → slice_get ((q ∷ qs) ++ us) 0 ≡ Some r → q ≡ r
first-of r q qs us e = cc

named-open : (given : Given) (h : List Event) (p : ℕ) (r : Record) (rs : List Record)
    → IsLegal given h → is_held h p ≡ true → is_part_at_rest given h p ≡ true
    → (rs ≡ [] → unpolled_records given h p ≡ []) → open_records given h p ≡ rs
    → slice_get (rs ++ unpolled_records given h p) 0 ≡ Some r → is_spent given h p r ≡ true
named-open given h p r [] legal held part polled is first =
    let nothing = rw (polled refl) at first in cc nothing
named-open given h p r (q ∷ qs) legal held part polled is first =
    let same : q ≡ r = first-of r q qs (unpolled_records given h p) first in
    subst (λ (u : Record). is_spent given h p u ≡ true) same
    (least-spent given h p legal held part q (first-least given h p legal q qs is))

pub named-is-spent : (given : Given) (steps : List Step) (h : List Event) (p : ℕ) (r : Record)
    → IsRun given steps h → is_at_rest given h ≡ true → is_held h p ≡ true
    → IsFirstUnfinished given h p r → failures_of h p r.offset ≡ given.setup.settings.give_up
named-is-spent given steps h p r run rests held first =
    let i = unfinished-log given h p run.legal r (unfinished-record given h p r run.legal first) held in
    let spent : is_spent given h p r ≡ true = named-open given h p r (open_records given h p) run.legal held
    (part-rests given h rests p i) (rests-polled given steps h p run rests held i) refl first in
    let least : given.setup.settings.give_up ≤ failures_of h p r.offset = leb-true _ _ spent in
    let most : failures_of h p r.offset ≤ given.setup.settings.give_up =
    failures-most given h run.legal p (epoch_of h p) r.offset in
    omega arith
