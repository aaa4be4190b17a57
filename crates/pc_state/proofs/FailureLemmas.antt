-- What a failure changes of a history.
use Rattle.std.proofs.Common.{◌≡◌, ◌⊎◌, ℕ, ◌+◌, ◌≤◌, Bool, true, false, not, ◌&&◌, ◌||◌, ◌==◌, List, ◌∷◌, map, length, Option, Some, None, refl, ap, sym, subst, ◌∙◌, arith, inl, inr, eq-eqb, get_or}
use Rattle.std.specs.Prelude.{filter, is_some, nat_le, nat_lt, if◌then◌else◌}
use Rattle.std.specs.List.{list_any}
use Rattle.std.specs.List.Sorted.{IsPermutation}
use Rattle.std.proofs.lemmas.Bool.{cases_Bool, eqb-true, ne_eqb}
use Rattle.std.proofs.lemmas.List.Sorted.{IsPermutation-sym}
use Rattle.std.proofs.lemmas.Map.Keys.{IsDistinct-IsPermutation, IsDistinct-cons}
use Rattle.pc_model.specs.declared.event.Event.{Event}
use Rattle.pc_model.specs.declared.event.Event.TheVariants.{Failure}
use Rattle.pc_model.specs.Given.{Given}
use Rattle.pc_model.specs.Jobs.{Job, jobs_of, open_jobs, settles}
use Rattle.pc_model.specs.Epochs.{epoch_of}
use Rattle.pc_model.specs.Known.{is_complete, is_job_at, known_records, marks_of, polled_records, unpolled_records}
use Rattle.pc_model.specs.Lawful.{IsLegal}
use Rattle.pc_model.specs.Retry.{failures_of, now_of, ready_of}
use Rattle.pc_model.specs.OneMore.{SamePart}
use Rattle.pc_model.proofs.JobLaws.{open_jobs-settled}
use Rattle.pc_model.proofs.SamePart.{other_part}
use Rattle.pc_laws.specs.Lists.{In}
use Rattle.pc_laws.proofs.Lists.{In-filtered, In-list_any, and-left, and-right, not-true, or-left, true-not-false}
use Rattle.pc_laws.proofs.SucceededLaw.{job-at}
use Rattle.pc_retry.specs.declared.queue.Retry.{Retry}
use Rattle.pc_shards.specs.Entries.{Entry, of_part, with_busy, with_failure}
use Rattle.pc_shards.specs.OpenEntries.{entry_of}
use Rattle.pc_shards.proofs.Lists.{AllByRecursion-each}
use Rattle.pc_state.specs.declared.part.HeldPart.{HeldPart}
use Rattle.pc_state.specs.declared.part.PartState.{PartState}
use Rattle.pc_state.specs.declared.state.State.{State}
use Rattle.pc_retry.specs.Waiting.{room_of}
use Rattle.pc_state.specs.OpenJobs.{AreOpen, open_job, out_of}
use Rattle.pc_state.specs.Ledger.{Counts}
use Rattle.pc_state.proofs.OutLemmas.{out-settled, out-settled_other}
use Rattle.pc_state.specs.State.{AreWaiting, Knows, KnowsPart, MayCome, PartKeeps, entries_of, is_early, is_kept_back, is_out, is_spent, same_place, waiting_of}
use Rattle.pc_laws.proofs.TicketLaw.{open_jobs-failure}
use Rattle.pc_state.proofs.StateLemmas.{entries-held, entries-same, waiting-same}
use Rattle.pc_state.proofs.RetryLemmas.{In-permuted, same_place-flips}
use Rattle.pc_state.proofs.AtWork.{IsAtWork, IsOpen, open-at}
use Rattle.pc_state.proofs.ResultLemmas.{is_out-settled, job-at-none, open-outstanding}
use Rattle.pc_state.proofs.WaitingLemmas.{IsWaitingFor, Waits, In-waiting, entries-each, entries-failed, entries-freed, true-waits, waiting-In, waiting-facts, waits-true}
use Rattle.pc_state.proofs.WorkLemmas.{at-only, work-at, work-job, work-only, work-other_part, work-out}

-- ---- what a failure leaves as it was

module _ (given : Given) (h : List Event) (t p o code ready : ℕ) (legal : IsLegal given h)
    (work : IsAtWork h t p o) where
  abbrev after : List Event
  after = Failure t code ready ∷ h

  failure-other_part : (q : ℕ) → (p == q) ≡ false → SamePart given q h after
  failure-other_part q apart = other_part given q (Failure t code ready) h
      (rw (work-job given h t p o legal work)
      (subst (λ (u : ℕ). (u == q) ≡ false) (sym work.part) apart))

  failure-out_other : (q u : ℕ) → (p == q) ≡ false → is_out after q u ≡ is_out h q u
  failure-out_other q u apart = is_out-settled (Failure t code ready) h t q u refl (λ n. refl) refl
      (λ j i ticket. job-at-none j q (epoch_of h q) u (λ at.
      let is : j.part ≡ p = ap (λ (k : Job). k.part) (work-only given h t p o legal work j i ticket)
      ∙ work.part in
      true-not-false (p == q) (eq-eqb p q (sym is ∙ (job-at j q (epoch_of h q) u at).0)) apart))

  failure-out_same : (u : ℕ) → (u == o) ≡ false → is_out after p u ≡ is_out h p u
  failure-out_same u apart = is_out-settled (Failure t code ready) h t p u refl (λ n. refl) refl
      (λ j i ticket. job-at-none j p (epoch_of h p) u (λ at.
      let is : j.offset ≡ o = ap (λ (k : Job). k.offset)
      (work-only given h t p o legal work j i ticket) ∙ work.offset in
      true-not-false (u == o) (eq-eqb u o (sym (job-at j p (epoch_of h p) u at).2 ∙ is)) apart))

  -- no job is out at the offset any more
  failure-out_here : is_out after p o ≡ false
  unfolding is_out
  failure-out_here = elim (cases_Bool (list_any (λ (j : Job). is_job_at (Some j) p (epoch_of h p) o)
      (open_jobs after))) [
        | inr none ↦ none
        | inl some ↦
            let j = In-list_any (λ (j : Job). is_job_at (Some j) p (epoch_of h p) o)
            (open_jobs after) some in
            let at = In-filtered (λ (k : Job). not (t == k.ticket)) j.0 (open_jobs h)
            (subst (λ (js : List Job). In j.0 js) (open_jobs-settled (Failure t code ready) h refl)
            j.1) in
            true-not-false (t == j.0.ticket)
            (eq-eqb t j.0.ticket (sym (at-only given h t p o legal work j.0 at.0 j.2)))
            (not-true _ at.1)
      ]

  -- the offset failed once more, and waits until the time
  pub failure-failures_here : failures_of after p o ≡ failures_of h p o + 1
  failure-failures_here =
      rw (work-job given h t p o legal work, work-at given h t p o legal work) refl

  pub failure-ready_here : ready_of after p o ≡ ready
  failure-ready_here =
      rw (work-job given h t p o legal work, work-at given h t p o legal work) refl

  not-here : (u : ℕ) → (u == o) ≡ false → is_job_at (Some work.job) p (epoch_of h p) u ≡ false
  not-here u apart = job-at-none work.job p (epoch_of h p) u (λ at.
      true-not-false (u == o)
      (eq-eqb u o (sym (job-at work.job p (epoch_of h p) u at).2 ∙ work.offset)) apart)

  failure-failures : (u : ℕ) → (u == o) ≡ false → failures_of after p u ≡ failures_of h p u
  failure-failures u apart = rw (work-job given h t p o legal work, not-here u apart) refl

  failure-ready : (u : ℕ) → (u == o) ≡ false → ready_of after p u ≡ ready_of h p u
  failure-ready u apart = rw (work-job given h t p o legal work, not-here u apart) refl

  -- of another offset it is the same whether it may be dispatched and whether it waits
  failure-spent : (u : ℕ) → (u == o) ≡ false → is_spent given after p u ≡ is_spent given h p u
  unfolding is_spent
  failure-spent u apart = ap (λ (n : ℕ). not (nat_lt n given.setup.settings.give_up))
      (failure-failures u apart)

  failure-early : (u : ℕ) → (u == o) ≡ false → is_early after p u ≡ is_early h p u
  unfolding is_early
  failure-early u apart = ap (λ (n : ℕ). not (nat_le n (now_of h))) (failure-ready u apart)

  failure-kept_back : (u : ℕ) → (u == o) ≡ false
      → is_kept_back given after p u ≡ is_kept_back given h p u
  unfolding is_kept_back
  failure-kept_back u apart = rw (
    failure-out_same u apart,
    failure-spent u apart,
    failure-early u apart,
  ) refl

  failure-waits : (u : ℕ) → (u == o) ≡ false → Waits given h p u → Waits given after p u
  unfolding is_complete
  failure-waits u apart waits = record {
    incomplete = waits.incomplete;
    out = failure-out_same u apart ∙ waits.out;
    spent = failure-spent u apart ∙ waits.spent;
    early = failure-early u apart ∙ waits.early;
  }

  failure-waited : (u : ℕ) → (u == o) ≡ false → Waits given after p u → Waits given h p u
  unfolding is_complete
  failure-waited u apart waits = record {
    incomplete = waits.incomplete;
    out = sym (failure-out_same u apart) ∙ waits.out;
    spent = sym (failure-spent u apart) ∙ waits.spent;
    early = sym (failure-early u apart) ∙ waits.early;
  }

  -- the offset did not wait, as a job was out there
  no-wait : (u : ℕ) → Waits given h p u → (u == o) ≡ false
  no-wait u waits = elim (cases_Bool (u == o)) [
    | inr apart ↦ apart
    | inl same ↦ true-not-false (is_out h p u) (ap (is_out h p) (eqb-true u o same)
        ∙ work-out given h t p o legal work) waits.out
  ]

-- ---- the entries of the part

module _ (given : Given) (h : List Event) (t p o code ready : ℕ) (legal : IsLegal given h)
    (work : IsAtWork h t p o) where
  -- the records that are open are the same
  failure-entries : entries_of given (Failure t code ready ∷ h) p
      ≡ map (entry_of (λ r. is_kept_back given (Failure t code ready ∷ h) p r.offset)
      (λ r. failures_of (Failure t code ready ∷ h) p r.offset))
      (filter (λ r. not (is_complete h p r.offset)) (polled_records given h p))
  unfolding polled_records is_complete
  failure-entries = entries-held given (Failure t code ready ∷ h) p work.held

  -- and one of them failed once more
  failure-entries_failed :
      map (entry_of (λ r. is_kept_back given h p r.offset)
      (λ r. failures_of (Failure t code ready ∷ h) p r.offset))
      (filter (λ r. not (is_complete h p r.offset)) (polled_records given h p))
      ≡ with_failure o (entries_of given h p)
  failure-entries_failed = entries-failed o (λ r. is_kept_back given h p r.offset)
      (λ r. failures_of h p r.offset)
      (λ r. failures_of (Failure t code ready ∷ h) p r.offset)
      (filter (λ r. not (is_complete h p r.offset)) (polled_records given h p))
      (λ r here. let at : r.offset ≡ o = eqb-true r.offset o here in
      ap (failures_of (Failure t code ready ∷ h) p) at
      ∙ failure-failures_here given h t p o code ready legal work
      ∙ ap (λ (u : ℕ). failures_of h p u + 1) (sym at))
      (λ r apart. failure-failures given h t p o code ready legal work r.offset apart)
      ∙ ap (with_failure o) (sym (entries-held given h p work.held))

  failure-was : is_kept_back given h p o ≡ true
  unfolding is_kept_back
  failure-was = or-left (is_out h p o) _ (work-out given h t p o legal work)

  -- it stays busy while it is spent or early
  entries-kept : is_kept_back given (Failure t code ready ∷ h) p o ≡ true
      → entries_of given (Failure t code ready ∷ h) p ≡ with_failure o (entries_of given h p)
  entries-kept kept = failure-entries
      ∙ entries-each (λ r. is_kept_back given h p r.offset)
      (λ r. is_kept_back given (Failure t code ready ∷ h) p r.offset)
      (λ r. failures_of (Failure t code ready ∷ h) p r.offset)
      (filter (λ r. not (is_complete h p r.offset)) (polled_records given h p))
      (λ r i. same r.offset)
      ∙ failure-entries_failed
    where
      same : (u : ℕ) → is_kept_back given (Failure t code ready ∷ h) p u ≡ is_kept_back given h p u
      same u = elim (cases_Bool (u == o)) [
        | inr apart ↦ failure-kept_back given h t p o code ready legal work u apart
        | inl here ↦ let at : u ≡ o = eqb-true u o here in
            ap (is_kept_back given (Failure t code ready ∷ h) p) at ∙ kept ∙ sym failure-was
            ∙ ap (is_kept_back given h p) (sym at)
      ]

  entries-let_go : is_kept_back given (Failure t code ready ∷ h) p o ≡ false
      → entries_of given (Failure t code ready ∷ h) p
      ≡ with_busy o false (with_failure o (entries_of given h p))
  entries-let_go free = failure-entries
      ∙ entries-freed o (λ r. is_kept_back given h p r.offset)
      (λ r. is_kept_back given (Failure t code ready ∷ h) p r.offset)
      (λ r. failures_of (Failure t code ready ∷ h) p r.offset)
      (filter (λ r. not (is_complete h p r.offset)) (polled_records given h p))
      (λ r i here. ap (is_kept_back given (Failure t code ready ∷ h) p)
      (eqb-true r.offset o here) ∙ free)
      (λ r i apart. failure-kept_back given h t p o code ready legal work r.offset apart)
      ∙ ap (with_busy o false) failure-entries_failed

-- ---- the state

-- the state without the job, of which the record failed once more: it has no attempt left, or waits
-- until its time, or may be dispatched
pub record Fails (old new : State) (p o ready : ℕ) (spent early : Bool) : Type 0 where
  pub setup : new.setup.now ≡ old.setup.now
  pub logs : new.logs.now ≡ old.logs.now
  pub items : new.parts.items ≡ old.parts.items
  pub order : new.shards.order ≡ old.shards.order
  pub entries : of_part new.shards p ≡ (if spent || early
      then with_failure o (of_part old.shards p)
      else with_busy o false (with_failure o (of_part old.shards p)))
  pub others : (q : ℕ) → (q == p) ≡ false → of_part new.shards q ≡ of_part old.shards q
  pub put : (not spent && early) ≡ true → IsPermutation
      (record { ready_at = ready; part = p; offset = o } ∷ old.retries.retries) new.retries.retries
  pub stays : (not spent && early) ≡ false → new.retries.retries ≡ old.retries.retries
  pub room : old.retries.room ≤ new.retries.room + 1
  pub part_room : room_of old.retries p ≤ room_of new.retries p + 1
  pub rooms : (q : ℕ) → (q == p) ≡ false → room_of new.retries q ≡ room_of old.retries q
  pub clock : new.clock ≡ old.clock
  pub dispatched : new.dispatched ≡ old.dispatched
  pub last : new.last ≡ old.last

-- what is known of the parts is the same
failure-knows : (given : Given) (h : List Event) (t code ready q : ℕ) (held : Option HeldPart)
    → KnowsPart given h q held → KnowsPart given (Failure t code ready ∷ h) q held
unfolding marks_of known_records polled_records unpolled_records is_complete
failure-knows given h t code ready q None known = tt
failure-knows given h t code ready q (Some held) known = record {
  stands = known.stands;
  unpolled = known.unpolled;
  size = known.size;
}

failure-keeps : (given : Given) (h : List Event) (t code ready q : ℕ) (part : PartState)
    → PartKeeps given h q part → PartKeeps given (Failure t code ready ∷ h) q part
failure-keeps given h t code ready q part keeps = record {
  epoch = keeps.epoch;
  held = keeps.held;
  knows = failure-knows given h t code ready q part.held keeps.knows;
}

-- one job less is out, and there is at most one place less
room-left : (n m before after : ℕ) → n + 1 ≡ m → m ≤ before → before ≤ after + 1 → n ≤ after
room-left n m before after less places room = omega (arith, less, places, room)

kept-cases : (a b c d : Bool) → a ≡ false → (b || c) ≡ d → (a || (b || c)) ≡ d
kept-cases true b c d none is = cc
kept-cases false b c d none is = is

module _ (given : Given) (h : List Event) (t p o code ready : ℕ) (old new : State)
    (spent early : Bool) (knows : Knows given h old) (work : IsAtWork h t p o)
    (fails : Fails old new p o ready spent early)
    (spent_is : spent ≡ is_spent given (Failure t code ready ∷ h) p o)
    (early_is : early ≡ is_early (Failure t code ready ∷ h) p o) where
  abbrev later : List Event
  later = Failure t code ready ∷ h

  kept_is : (spent || early) ≡ is_kept_back given later p o
  unfolding is_kept_back
  kept_is = rw (failure-out_here given h t p o code ready knows.legal work, spent_is, early_is) refl

  failure-part : of_part new.shards p ≡ entries_of given later p
  failure-part = elim (cases_Bool (spent || early)) [
    | inl kept ↦ fails.entries ∙ rw kept (ap (with_failure o) (knows.entries p)
        ∙ sym (entries-kept given h t p o code ready knows.legal work (sym kept_is ∙ kept)))
    | inr free ↦ fails.entries ∙ rw free
        (ap (λ (es : List Entry). with_busy o false (with_failure o es)) (knows.entries p)
        ∙ sym (entries-let_go given h t p o code ready knows.legal work (sym kept_is ∙ free)))
  ]

  failure-each : (q : ℕ) → of_part new.shards q ≡ entries_of given later q
  failure-each q = elim (cases_Bool (q == p)) [
    | inl same ↦ subst (λ (u : ℕ). of_part new.shards u ≡ entries_of given later u)
        (sym (eqb-true q p same)) failure-part
    | inr apart ↦
        let other : (p == q) ≡ false =
        ne_eqb p q (λ (e : p ≡ q). true-not-false (q == p) (eq-eqb q p (sym e)) apart) in
        fails.others q apart ∙ knows.entries q
        ∙ sym (entries-same given h later q
        (failure-other_part given h t p o code ready knows.legal work q other) refl
        (λ held u. failure-out_other given h t p o code ready knows.legal work q u other))
  ]

  -- ---- the retries

  abbrev added : Retry
  added = record { ready_at = ready; part = p; offset = o }

  record_at_work : IsOpen given h p o
  record_at_work = open-at given h t p o knows.legal work

  -- the offset waits where it has an attempt left and its time is still to come
  failure-added : spent ≡ false → early ≡ true → IsWaitingFor given later p added
  unfolding polled_records is_complete
  failure-added left time =
      let at = record_at_work in
      record {
        held = work.held;
        entry = at.entry;
        polled = at.polled;
        waits = true-waits given later p at.entry (subst (Waits given later p) (sym at.offset) (record {
          incomplete = at.incomplete;
          out = failure-out_here given h t p o code ready knows.legal work;
          spent = sym spent_is ∙ left;
          early = sym early_is ∙ time;
        }));
        is = ap (λ (u : ℕ). record { ready_at = u; part = p; offset = o })
            (sym (failure-ready_here given h t p o code ready knows.legal work))
            ∙ ap (λ (u : ℕ). record { ready_at = ready_of later p u; part = p; offset = u })
            (sym at.offset);
      }

  -- one that waited still does
  failure-still : (w : Retry) → In w (waiting_of given h w.part) → In w (waiting_of given later w.part)
  unfolding polled_records
  failure-still w i = elim (cases_Bool (p == w.part)) [
    | inr other ↦ subst (λ (ws : List Retry). In w ws) (sym (waiting-same given h later w.part
        (failure-other_part given h t p o code ready knows.legal work w.part other) refl
        (λ held u. failure-out_other given h t p o code ready knows.legal work w.part u other))) i
    | inl same ↦
        let part : p ≡ w.part = eqb-true p w.part same in
        let at = In-waiting given h p w (subst (λ (q : ℕ). In w (waiting_of given h q)) (sym part) i) in
        let waits = waits-true given h p at.entry at.waits in
        let apart = no-wait given h t p o code ready knows.legal work at.entry.offset waits in
        subst (λ (q : ℕ). In w (waiting_of given later q)) part (waiting-In given later p w (record {
          held = work.held;
          entry = at.entry;
          polled = at.polled;
          waits = true-waits given later p at.entry
              (failure-waits given h t p o code ready knows.legal work at.entry.offset apart waits);
          is = at.is ∙ ap (λ (u : ℕ). record
              { ready_at = u; part = p; offset = at.entry.offset })
              (sym (failure-ready given h t p o code ready knows.legal work at.entry.offset apart));
        }))
  ]

  -- and what waits then did so before, or is the offset's
  failure-waited_or : (w : Retry) → In w (waiting_of given later w.part)
      → In w (waiting_of given h w.part) ⊎ ((w ≡ added) × (spent ≡ false) × (early ≡ true))
  unfolding polled_records
  failure-waited_or w i = elim (cases_Bool (p == w.part)) [
    | inr other ↦ inl (subst (λ (ws : List Retry). In w ws) (waiting-same given h later w.part
        (failure-other_part given h t p o code ready knows.legal work w.part other) refl
        (λ held u. failure-out_other given h t p o code ready knows.legal work w.part u other)) i)
    | inl same ↦
        let part : p ≡ w.part = eqb-true p w.part same in
        let at = In-waiting given later p w
        (subst (λ (q : ℕ). In w (waiting_of given later q)) (sym part) i) in
        let waits = waits-true given later p at.entry at.waits in
        elim (cases_Bool (at.entry.offset == o)) [
          | inl here ↦
              let is : at.entry.offset ≡ o = eqb-true at.entry.offset o here in
              let own = subst (Waits given later p) is waits in
              inr ((
                at.is ∙ ap (λ (u : ℕ). record { ready_at = ready_of later p u; part = p; offset = u }) is
                    ∙ ap (λ (u : ℕ). record { ready_at = u; part = p; offset = o })
                    (failure-ready_here given h t p o code ready knows.legal work),
                spent_is ∙ own.spent,
                early_is ∙ own.early,
              ))
          | inr apart ↦ inl (subst (λ (q : ℕ). In w (waiting_of given h q)) part
              (waiting-In given h p w (record {
                held = work.held;
                entry = at.entry;
                polled = at.polled;
                waits = true-waits given h p at.entry
                    (failure-waited given h t p o code ready knows.legal work at.entry.offset apart waits);
                is = at.is ∙ ap (λ (u : ℕ). record
                    { ready_at = u; part = p; offset = at.entry.offset })
                    (failure-ready given h t p o code ready knows.legal work at.entry.offset apart);
              })))
        ]
  ]

  -- no retry of the offset was there
  failure-new : (w : Retry) → In w old.retries.retries → same_place added w ≡ false
  failure-new w i = elim (cases_Bool (same_place added w)) [
    | inr apart ↦ apart
    | inl same ↦
        let part : p ≡ w.part = eqb-true p w.part (and-left (p == w.part) _ same) in
        let offset : o ≡ w.offset = eqb-true o w.offset (and-right (p == w.part) _ same) in
        let facts = waiting-facts given h w.part w (knows.waiting.sound w i) in
        let waits : Waits given h p o = subst (λ (q : ℕ). Waits given h q o) (sym part)
        (subst (Waits given h w.part) (sym offset) facts.2) in
        true-not-false (is_out h p o) (work-out given h t p o knows.legal work) waits.out
  ]

  waiting-put : spent ≡ false → early ≡ true → AreWaiting given later new.retries.retries
  waiting-put left time =
      let order = fails.put (rw (left, time) refl) in
      record {
        sound = λ w i. elim (In-permuted new.retries.retries (added ∷ old.retries.retries) w
            (IsPermutation-sym (added ∷ old.retries.retries) new.retries.retries order) i) [
              | inl same ↦ rw same (waiting-In given later p added (failure-added left time))
              | inr before ↦ failure-still w (knows.waiting.sound w before)
            ];
        whole = λ w i. In-permuted (added ∷ old.retries.retries) new.retries.retries w order
            (elim (failure-waited_or w i) [
              | inl before ↦ inr (knows.waiting.whole w before)
              | inr own ↦ inl own.0
            ]);
        once = IsDistinct-IsPermutation same_place same_place-flips (added ∷ old.retries.retries)
            new.retries.retries order
            (IsDistinct-cons same_place added old.retries.retries
            (AllByRecursion-each (λ (w : Retry). same_place added w ≡ false) old.retries.retries
            failure-new) knows.waiting.once);
      }

  waiting-stays : (not spent && early) ≡ false → AreWaiting given later new.retries.retries
  waiting-stays none = subst (AreWaiting given later) (sym (fails.stays none)) (record {
    sound = λ w i. failure-still w (knows.waiting.sound w i);
    whole = λ w i. elim (failure-waited_or w i) [
      | inl before ↦ knows.waiting.whole w before
      | inr own ↦ true-not-false (not spent && early) (rw (own.1, own.2) refl) none
    ];
    once = knows.waiting.once;
  })

  failure-waiting : AreWaiting given later new.retries.retries
  failure-waiting = elim (cases_Bool (not spent && early)) [
    | inl waits ↦ waiting-put (not-true spent (and-left (not spent) early waits))
        (and-right (not spent) early waits)
    | inr none ↦ waiting-stays none
  ]

  pub knows-failure : MayCome given (Failure t code ready) h
      → ((is_some (open_job h t) ≡ true) → jobs_of (Failure t code ready ∷ h) ≡ jobs_of h
      → ((u : ℕ) → settles (Failure t code ready) u ≡ (t == u))
      → length (open_jobs (Failure t code ready ∷ h)) + 1 ≡ length (open_jobs h)
      → AreOpen (Failure t code ready ∷ h) new.jobs)
      → Counts given (Failure t code ready ∷ h) new.ledger
      → Knows given (Failure t code ready ∷ h) new
  knows-failure may jobs counts = record {
    setup = knows.setup ∙ sym fails.setup;
    logs = knows.logs ∙ sym fails.logs;
    legal = may.legal;
    limit = may.limit;
    count = ap length fails.items ∙ knows.count;
    few = knows.few;
    few_records = knows.few_records;
    each = λ q d within. rw fails.items (failure-keeps given h t code ready q
        (get_or old.parts.items q d)
        (knows.each q d within));
    order = fails.order ∙ knows.order;
    entries = failure-each;
    waiting = failure-waiting;
    places = room-left (length (open_jobs later)) (length (open_jobs h)) old.retries.room
        new.retries.room (open_jobs-failure given h knows.legal t may.legal.0.outstanding code ready)
        knows.places fails.room;
    part_places = λ q held. elim (cases_Bool (p == q)) [
      | inl same ↦ subst (λ (u : ℕ). out_of later u ≤ room_of new.retries u) (eqb-true p q same)
          (let less = out-settled given h knows.legal t p o work (Failure t code ready) refl (λ u. refl)
          refl in
          let le = knows.part_places p work.held in
          let room = fails.part_room in omega (arith, less, le, room))
      | inr apart ↦
          let other : (q == p) ≡ false = ne_eqb q p (λ (e : q ≡ p). true-not-false (p == q)
          (eq-eqb p q (sym e)) apart) in
          rw (
            out-settled_other (Failure t code ready) h t q refl (λ u. refl) refl
                (work-other_part given h t p o knows.legal work q apart),
            fails.rooms q other,
          )
          (knows.part_places q held)
    ];
    clock = fails.clock ∙ knows.clock;
    jobs = jobs (open-outstanding h t may.legal.0.outstanding) refl (λ u. refl)
        (open_jobs-failure given h knows.legal t may.legal.0.outstanding code ready);
    dispatched = fails.dispatched ∙ knows.dispatched;
    last = fails.last ∙ knows.last;
    ledger = counts;
  }
