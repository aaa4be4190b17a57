-- What a dispatch of the next record changes of a history.
use Rattle.std.proofs.Common.{◌≡◌, ℕ, ◌+◌, ◌≤◌, ◌<◌, Bool, true, false, not, ◌&&◌, ◌||◌, ◌==◌, List, [], ◌∷◌, map, length, Option, Some, None, refl, ap, sym, subst, ◌∙◌, arith, inl, inr, eq-eqb, get_or}
use Rattle.std.specs.Prelude.{filter, find, nat_le}
use Rattle.std.specs.List.{list_any}
use Rattle.std.specs.Option.{unwrap_or}
use Rattle.std.proofs.lemmas.Bool.{cases_Bool, eqb-true, ne_eqb}
use Rattle.pc_model.specs.declared.event.Event.{Event}
use Rattle.pc_model.specs.declared.event.Event.TheVariants.{Dispatch}
use Rattle.pc_model.specs.declared.outcome.Rules.{Rules}
use Rattle.pc_model.specs.Record.{Record}
use Rattle.pc_model.specs.Given.{Given, record_at}
use Rattle.pc_model.specs.Jobs.{Job, dispatch_count, is_settled, job_of, open_jobs}
use Rattle.pc_model.specs.Epochs.{epoch_of, is_held}
use Rattle.pc_model.specs.Known.{is_complete, is_job_at, polled_records}
use Rattle.pc_model.specs.Next.{is_eligible_record, next_record}
use Rattle.pc_model.specs.OneMore.{SamePart}
use Rattle.pc_model.specs.Retry.{failures_of, now_of, ready_of}
use Rattle.pc_model.proofs.JobLaws.{open_jobs-dispatch}
use Rattle.pc_model.proofs.SamePart.{other_part}
use Rattle.pc_model.proofs.ListLemmas.{filter-same}
use Rattle.pc_laws.proofs.Lists.{and-left, and-right, not-true, true-not-false}
use Rattle.pc_laws.proofs.OrderlyLaw.{eligible-first, next_record-In}
use Rattle.pc_shards.specs.Entries.{Entry, of_part, with_busy}
use Rattle.pc_shards.specs.OpenEntries.{entry_of}
use Rattle.pc_task.specs.Jobs.{PlainJob}
use Rattle.pc_state.specs.declared.part.PartState.{PartState}
use Rattle.pc_state.specs.declared.state.State.{State}
use Rattle.pc_state.specs.Calls.{job_to_do, no_record}
use Rattle.pc_retry.specs.Waiting.{KeepsRooms, room_of}
use Rattle.pc_state.specs.Ledger.{Counts}
use Rattle.pc_state.specs.OpenJobs.{AreOpen, open_job, out_of}
use Rattle.pc_state.proofs.OutLemmas.{out-dispatch, out-dispatch_other}
use Rattle.pc_state.proofs.LedgerLemmas.{failures_of-le}
use Rattle.pc_state.specs.State.{Knows, MayCome, PartKeeps, entries_of, is_early, is_kept_back, is_out, is_spent, is_waiting, waiting_of}
use Rattle.pc_laws.proofs.TicketLaw.{find-open_jobs, job_of-above, unsettled-above}
use Rattle.pc_state.proofs.StateLemmas.{AreWaiting-along, entries-held, entries-same, part-same, waiting-held, waiting-same}
use Rattle.pc_state.proofs.AtWork.{IsOpen, entry-found, open-record, polled-below, some-same}

-- ---- the next record

-- its part is held
pub next-held : (given : Given) (h : List Event) (p o : ℕ) → next_record given h ≡ Some (p, o)
    → is_held h p ≡ true
next-held given h p o next = (next_record-In given h p o next).0

-- it was polled and is incomplete
pub next-open : (given : Given) (h : List Event) (p o : ℕ) → next_record given h ≡ Some (p, o)
    → IsOpen given h p o
unfolding is_eligible_record
next-open given h p o next =
    let at = (next_record-In given h p o next).1 in
    record {
      entry = at.0;
      polled = at.1;
      offset = at.2;
      incomplete = subst (λ (u : ℕ). is_complete h p u ≡ false) at.2
          (not-true _ (and-left _ _ (and-left _ _
          (and-left _ _ (and-left _ _ (and-left _ _ at.3))))));
      first = eligible-first given h p at.0 at.3;
    }

pub next-below : (given : Given) (h : List Event) (p o : ℕ) → next_record given h ≡ Some (p, o)
    → p < length given.logs
next-below given h p o next = let at = next-open given h p o next in polled-below given h p at.entry
    at.polled

-- no more jobs were dispatched than there are events
count-le : (h : List Event) → dispatch_count h ≤ length h
count-le [] = omega arith
count-le (Dispatch t w p o e a ∷ h) = let le = count-le h in omega (arith, le)
count-le (v ∷ h) = let le = count-le h in omega (arith, le)

pub dispatched-small : (given : Given) (h : List Event) (s : State) → Knows given h s
    → s.dispatched ≤ 4000000
dispatched-small given h s knows =
    let le = count-le h in omega (arith, knows.limit, knows.dispatched, le)

-- ---- its job

-- its epoch is the part's
dispatch-epoch : (given : Given) (h : List Event) (s : State) (p o : ℕ) (part : PartState)
    → Knows given h s → next_record given h ≡ Some (p, o) → part ≡ get_or s.parts.items p part
    → part.epoch ≡ epoch_of h p
dispatch-epoch given h s p o part knows next part_is =
    let keeps : PartKeeps given h p part = subst (λ (x : PartState). PartKeeps given h p x)
    (sym part_is)
    (knows.each p part (next-below given h p o next)) in
    keeps.epoch

-- the job that begins, by what is kept
pub job-due : (given : Given) (h : List Event) (s : State) (worker p o : ℕ) (part : PartState)
    (entry : Entry) (rules : Rules) → Knows given h s → next_record given h ≡ Some (p, o)
    → part ≡ get_or s.parts.items p part
    → Some entry ≡ find (λ e. e.record.offset == o) (of_part s.shards p)
    → rules ≡ s.setup.now.settings.rules
    → ◌≡◌ {A = PlainJob} (record {
      ticket = s.dispatched + 1;
      worker = worker;
      part = p;
      epoch = part.epoch;
      attempt = entry.failures + 1;
      entry = entry.record;
      rules = rules;
    }) (job_to_do given h worker p o)
job-due given h s worker p o part entry rules knows next part_is found rules_is =
    let held = next-held given h p o next in
    let at = next-open given h p o next in
    let epoch = dispatch-epoch given h s p o part knows next part_is in
    let is : Some entry ≡ Some (entry_of (λ r. is_kept_back given h p r.offset)
    (λ r. failures_of h p r.offset) at.entry) = found ∙ entry-found given h s p o knows held at in
    let same : entry ≡ entry_of (λ r. is_kept_back given h p r.offset)
    (λ r. failures_of h p r.offset) at.entry = some-same is in
    let failures : entry.failures ≡ failures_of h p o = ap (λ (e : Entry). e.failures) same
    ∙ ap (λ (u : ℕ). failures_of h p u) at.offset in
    let record_is : entry.record ≡ unwrap_or (record_at given p o) no_record =
    ap (λ (e : Entry). e.record) same
    ∙ ap (λ (r : Option Record). unwrap_or r no_record) (sym (open-record given h p o knows.legal at)) in
    let own : rules ≡ given.setup.settings.rules = rules_is ∙ ap (λ setup. setup.settings.rules) (sym knows.setup) in
    rw (knows.dispatched, epoch, failures, record_is, own) refl

pub failures-small : (given : Given) (h : List Event) (s : State) → Knows given h s → (p o : ℕ)
    → failures_of h p o ≤ 4000000
failures-small given h s knows p o =
    let le = failures_of-le h p (epoch_of h p) o in omega (arith, le, knows.limit)

pub failed-small : (given : Given) (h : List Event) (s : State) (p o : ℕ) (entry : Entry)
    → Knows given h s → next_record given h ≡ Some (p, o)
    → Some entry ≡ find (λ e. e.record.offset == o) (of_part s.shards p)
    → entry.failures ≤ 4000000
failed-small given h s p o entry knows next found =
    let at = next-open given h p o next in
    let same : entry ≡ entry_of (λ r. is_kept_back given h p r.offset)
    (λ r. failures_of h p r.offset) at.entry =
    some-same (found ∙ entry-found given h s p o knows (next-held given h p o next) at) in
    let is : entry.failures ≡ failures_of h p at.entry.offset = ap (λ (e : Entry). e.failures) same in
    let le = failures-small given h s knows p at.entry.offset in omega (arith, is, le)

-- ---- what a dispatch changes

module _ (given : Given) (h : List Event) (t worker p o e a : ℕ)
    (fresh : is_settled h t ≡ false) where
  abbrev after : List Event
  after = Dispatch t worker p o e a ∷ h

  dispatch-out : (q u : ℕ) → is_out after q u ≡
      (((p == q) && (e == epoch_of h q) && (o == u)) || is_out h q u)
  unfolding is_out
  dispatch-out q u = ap (λ (js : List Job). list_any
      (λ j. is_job_at (Some j) q (epoch_of h q) u) js)
      (open_jobs-dispatch h t worker p o e a fresh)

  dispatch-out_other : (q u : ℕ) → (p == q) ≡ false → is_out after q u ≡ is_out h q u
  dispatch-out_other q u apart = dispatch-out q u ∙ rw apart refl

  dispatch-out_same : (u : ℕ) → e ≡ epoch_of h p → is_out after p u ≡ ((o == u) || is_out h p u)
  dispatch-out_same u epoch = dispatch-out p u
      ∙ rw (eq-eqb p p refl, eq-eqb e (epoch_of h p) epoch) refl

-- the entries of records of which those at one offset are busy
entries-busy : (o : ℕ) (a b : Record → Bool) (n m : Record → ℕ) (rs : List Record)
    → ((r : Record) → b r ≡ ((o == r.offset) || a r)) → ((r : Record) → m r ≡ n r)
    → map (entry_of b m) rs ≡ with_busy o true (map (entry_of a n) rs)
entries-busy o a b n m [] busy same = refl
entries-busy o a b n m (r ∷ rs) busy same =
    let more = entries-busy o a b n m rs busy same in
    elim (cases_Bool (r.offset == o)) [
      | inl here ↦
          let own : (o == r.offset) ≡ true = eq-eqb o r.offset (sym (eqb-true r.offset o here)) in
          let is : b r ≡ true = busy r ∙ rw own refl in
          rw (is, same r, here, more) refl
      | inr apart ↦
          let other : (o == r.offset) ≡ false = ne_eqb o r.offset (λ (e : o ≡ r.offset).
          true-not-false (r.offset == o) (eq-eqb r.offset o (sym e)) apart) in
          let is : b r ≡ a r = busy r ∙ rw other refl in
          rw (is, same r, apart, more) refl
    ]

or-first : (a b c : Bool) → ((a || b) || c) ≡ (a || (b || c))
or-first true b c = refl
or-first false b c = refl

module _ (given : Given) (h : List Event) (t worker p o e a : ℕ) (fresh : is_settled h t ≡ false)
    (epoch : e ≡ epoch_of h p) (held : is_held h p ≡ true) where
  kept_back-dispatch : (u : ℕ) → is_kept_back given (Dispatch t worker p o e a ∷ h) p u
      ≡ ((o == u) || is_kept_back given h p u)
  unfolding is_kept_back is_spent is_early
  kept_back-dispatch u = ap (λ (b : Bool). b || (is_spent given h p u || is_early h p u))
      (dispatch-out_same given h t worker p o e a fresh u epoch)
      ∙ or-first (o == u) (is_out h p u) (is_spent given h p u || is_early h p u)

  entries-dispatch : entries_of given (Dispatch t worker p o e a ∷ h) p
      ≡ with_busy o true (entries_of given h p)
  unfolding polled_records is_complete
  entries-dispatch =
      entries-held given (Dispatch t worker p o e a ∷ h) p held
      ∙ entries-busy o (λ r. is_kept_back given h p r.offset)
      (λ r. is_kept_back given (Dispatch t worker p o e a ∷ h) p r.offset)
      (λ r. failures_of h p r.offset) (λ r. failures_of h p r.offset)
      (filter (λ r. not (is_complete h p r.offset)) (polled_records given h p))
      (λ r. kept_back-dispatch r.offset) (λ r. refl)
      ∙ ap (λ (es : List Entry). with_busy o true es) (sym (entries-held given h p held))

  -- a record that does not wait does not begin to
  not-waiting : (a out b c early : Bool) → (early ≡ false)
      → (not a && (not out && (not b && early))) ≡ (not a && (not c && (not b && early)))
  not-waiting true out b c early is = refl
  not-waiting false true true true early is = refl
  not-waiting false true true false early is = refl
  not-waiting false true false true early is = refl
  not-waiting false true false false early is = sym is
  not-waiting false false true true early is = refl
  not-waiting false false true false early is = refl
  not-waiting false false false true early is = is
  not-waiting false false false false early is = refl

  is_waiting-dispatch : is_early h p o ≡ false → (r : Record)
      → is_waiting given (Dispatch t worker p o e a ∷ h) p r ≡ is_waiting given h p r
  unfolding is_waiting is_complete is_spent is_early
  is_waiting-dispatch due r = elim (cases_Bool (o == r.offset)) [
    | inl here ↦
        let early : is_early h p r.offset ≡ false = subst (λ (u : ℕ). is_early h p u ≡ false)
        (eqb-true o r.offset here) due in
        not-waiting (is_complete h p r.offset) (is_out (Dispatch t worker p o e a ∷ h) p r.offset)
        (is_spent given h p r.offset) (is_out h p r.offset) (is_early h p r.offset) early
    | inr apart ↦ ap (λ (b : Bool). not (is_complete h p r.offset) && (not b
        && (not (is_spent given h p r.offset) && is_early h p r.offset)))
        (dispatch-out_same given h t worker p o e a fresh r.offset epoch ∙ rw apart refl)
  ]

  waiting-dispatch : is_early h p o ≡ false
      → waiting_of given (Dispatch t worker p o e a ∷ h) p ≡ waiting_of given h p
  unfolding polled_records
  waiting-dispatch due =
      waiting-held given (Dispatch t worker p o e a ∷ h) p held
      ∙ ap (λ (rs : List Record). map (λ r. record
      { ready_at = ready_of h p r.offset; part = p; offset = r.offset }) rs)
      (filter-same _ _ (is_waiting-dispatch due) (polled_records given h p))
      ∙ sym (waiting-held given h p held)

-- the next record's time has come
next-due : (given : Given) (h : List Event) (p o : ℕ) → next_record given h ≡ Some (p, o)
    → is_early h p o ≡ false
unfolding is_eligible_record is_early
next-due given h p o next =
    let at = (next_record-In given h p o next).1 in
    subst (λ (u : ℕ). not (nat_le (ready_of h p u) (now_of h)) ≡ false) at.2
    (ap not (and-right _ _ (and-left _ _ at.3)))

-- the state with one more job
pub record AddsJob (old new : State) (p o : ℕ) : Type 0 where
  pub setup : new.setup.now ≡ old.setup.now
  pub logs : new.logs.now ≡ old.logs.now
  pub items : new.parts.items ≡ old.parts.items
  pub order : new.shards.order ≡ old.shards.order
  pub busy : of_part new.shards p ≡ with_busy o true (of_part old.shards p)
  pub others : (q : ℕ) → (q == p) ≡ false → of_part new.shards q ≡ of_part old.shards q
  pub retries : new.retries.retries ≡ old.retries.retries
  pub rooms : KeepsRooms old.retries new.retries
  pub clock : new.clock ≡ old.clock
  pub dispatched : new.dispatched ≡ old.dispatched + 1
  pub last : new.last ≡ Some p

open-none : (h : List Event) (t : ℕ) → is_settled h t ≡ false → job_of h t ≡ None → open_job h t
    ≡ None
unfolding open_job
open-none h t fresh none = find-open_jobs h t ∙ rw fresh none

pub knows-dispatch : (given : Given) (h : List Event) (old new : State) (worker p o : ℕ)
    (part : PartState) (entry : Entry) → Knows given h old → next_record given h ≡ Some (p, o)
    → MayCome given (Dispatch (dispatch_count h + 1) worker p o (epoch_of h p)
    (failures_of h p o + 1)) h
    → AddsJob old new p o → part ≡ get_or old.parts.items p part
    → Some entry ≡ find (λ e. e.record.offset == o) (of_part old.shards p)
    → length (open_jobs h) + 1 ≤ new.retries.room → out_of h p + 1 ≤ room_of new.retries p
    → (is_settled h (dispatch_count h + 1) ≡ false → Counts given
    (Dispatch (dispatch_count h + 1) worker p o (epoch_of h p) (failures_of h p o + 1) ∷ h) new.ledger)
    → (AreOpen h old.jobs → is_settled h (old.dispatched + 1) ≡ false
    → open_job h (old.dispatched + 1) ≡ None
    → AreOpen (Dispatch (old.dispatched + 1) worker p o part.epoch (entry.failures + 1) ∷ h) new.jobs)
    → Knows given
    (Dispatch (dispatch_count h + 1) worker p o (epoch_of h p) (failures_of h p o + 1) ∷ h) new
knows-dispatch given h old new worker p o part entry knows next may adds part_is found room part_room
    counts jobs = record {
      setup = knows.setup ∙ sym adds.setup;
      logs = knows.logs ∙ sym adds.logs;
      legal = may.legal;
      limit = may.limit;
      count = ap length adds.items ∙ knows.count;
      few = knows.few;
      few_records = knows.few_records;
      each = λ q d within. rw adds.items (part-same given h k q (get_or old.parts.items q d) (same q)
          (knows.each q d within));
      order = adds.order ∙ knows.order;
      entries = entries;
      waiting = rw adds.retries (AreWaiting-along given h k old.retries.retries waiting knows.waiting);
      places = subst (λ (n : ℕ). n ≤ new.retries.room) (sym opened) room;
      part_places = λ q held_then. elim (cases_Bool (p == q)) [
        | inl at ↦ subst (λ (u : ℕ). out_of k u ≤ room_of new.retries u) (eqb-true p q at)
            (rw (out-dispatch h (dispatch_count h + 1) worker p o (epoch_of h p) (failures_of h p o + 1)
            fresh refl) part_room)
        | inr apart ↦ rw (out-dispatch_other h (dispatch_count h + 1) worker p o (epoch_of h p)
            (failures_of h p o + 1) fresh q apart)
            (let le = knows.part_places q held_then in let more = adds.rooms q in omega (arith, le, more))
      ];
      jobs = subst (λ (v : Event). AreOpen (v ∷ h) new.jobs) event_is (jobs knows.jobs
          (subst (λ (n : ℕ). is_settled h n ≡ false) (sym ticket) fresh)
          (subst (λ (n : ℕ). open_job h n ≡ None) (sym ticket)
          (open-none h (dispatch_count h + 1) fresh
          (job_of-above given h knows.legal (dispatch_count h + 1) above))));
      clock = adds.clock ∙ knows.clock;
      dispatched = adds.dispatched ∙ ap (λ (n : ℕ). n + 1) knows.dispatched ∙ counted;
      last = adds.last;
      ledger = counts fresh;
    }
  where
    k : List Event
    k = Dispatch (dispatch_count h + 1) worker p o (epoch_of h p) (failures_of h p o + 1) ∷ h

    held : is_held h p ≡ true
    held = next-held given h p o next

    same : (q : ℕ) → SamePart given q h k
    same q = other_part given q
        (Dispatch (dispatch_count h + 1) worker p o (epoch_of h p) (failures_of h p o + 1)) h refl

    above : dispatch_count h < dispatch_count h + 1
    above = omega arith

    fresh : is_settled h (dispatch_count h + 1) ≡ false
    fresh = unsettled-above given h knows.legal (dispatch_count h + 1) above

    opened : length (open_jobs k) ≡ length (open_jobs h) + 1
    opened = ap length (open_jobs-dispatch h (dispatch_count h + 1) worker p o (epoch_of h p)
        (failures_of h p o + 1) fresh) ∙ omega arith

    ticket : old.dispatched + 1 ≡ dispatch_count h + 1
    ticket = ap (λ (n : ℕ). n + 1) knows.dispatched

    counted : dispatch_count h + 1 ≡ dispatch_count k
    counted = omega arith

    attempt : entry.failures + 1 ≡ failures_of h p o + 1
    attempt = ap (λ (j : PlainJob). j.attempt) (job-due given h old worker p o part entry
        old.setup.now.settings.rules knows next part_is found refl)

    event_is : Dispatch (old.dispatched + 1) worker p o part.epoch (entry.failures + 1)
        ≡ Dispatch (dispatch_count h + 1) worker p o (epoch_of h p) (failures_of h p o + 1)
    event_is = ap (λ (n : ℕ). Dispatch n worker p o part.epoch (entry.failures + 1)) ticket
        ∙ ap (λ (n : ℕ). Dispatch (dispatch_count h + 1) worker p o n (entry.failures + 1))
        (dispatch-epoch given h old p o part knows next part_is)
        ∙ ap (λ (n : ℕ). Dispatch (dispatch_count h + 1) worker p o (epoch_of h p) n) attempt

    flip : (q : ℕ) → (q == p) ≡ false → (p == q) ≡ false
    flip q apart = ne_eqb p q (λ (e : p ≡ q). true-not-false (q == p) (eq-eqb q p (sym e)) apart)

    other-out : (q : ℕ) → (q == p) ≡ false → (u : ℕ) → is_out k q u ≡ is_out h q u
    other-out q apart u = dispatch-out_other given h (dispatch_count h + 1) worker p o (epoch_of h p)
        (failures_of h p o + 1) fresh q u (flip q apart)

    entries : (q : ℕ) → of_part new.shards q ≡ entries_of given k q
    entries q = elim (cases_Bool (q == p)) [
      | inl at ↦ subst (λ (u : ℕ). of_part new.shards u ≡ entries_of given k u)
          (sym (eqb-true q p at))
          (adds.busy ∙ ap (λ (es : List Entry). with_busy o true es) (knows.entries p)
          ∙ sym (entries-dispatch given h (dispatch_count h + 1) worker p o (epoch_of h p)
          (failures_of h p o + 1) fresh refl held))
      | inr apart ↦ adds.others q apart ∙ knows.entries q
          ∙ sym (entries-same given h k q (same q) refl (λ held_there u. other-out q apart u))
    ]

    waiting : (q : ℕ) → waiting_of given k q ≡ waiting_of given h q
    waiting q = elim (cases_Bool (q == p)) [
      | inl at ↦ subst (λ (u : ℕ). waiting_of given k u ≡ waiting_of given h u)
          (sym (eqb-true q p at))
          (waiting-dispatch given h (dispatch_count h + 1) worker p o (epoch_of h p)
          (failures_of h p o + 1) fresh refl held (next-due given h p o next))
      | inr apart ↦ waiting-same given h k q (same q) refl (λ held_there u. other-out q apart u)
    ]
