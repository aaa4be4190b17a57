-- What a success changes of a history.
use Rattle.std.proofs.Common.{◌≤◌, ◌≡◌, ℕ, ◌+◌, ◌<◌, Bool, true, false, not, ◌&&◌, ◌||◌, ◌==◌, List, [], ◌∷◌, map, length, set, Option, Some, refl, ap, sym, subst, ◌∙◌, arith, inl, inr, eq-eqb, get_or, length-set}
use Rattle.std.specs.Prelude.{filter, is_some}
use Rattle.std.proofs.lemmas.Bool.{cases_Bool, eqb-true, ne_eqb}
use Rattle.pc_model.specs.declared.event.Event.{Event}
use Rattle.pc_model.specs.declared.event.Event.TheVariants.{Success}
use Rattle.pc_model.specs.Record.{Record}
use Rattle.pc_model.specs.Marks.{Mark}
use Rattle.pc_model.specs.Given.{Given}
use Rattle.pc_model.specs.Jobs.{Job, jobs_of, open_jobs, settles}
use Rattle.pc_model.specs.Epochs.{epoch_of}
use Rattle.pc_model.specs.Known.{begin_of, is_complete, marks_of, polled_count, polled_records, unpolled_records}
use Rattle.pc_model.specs.Lawful.{IsLegal}
use Rattle.pc_model.specs.Retry.{failures_of, ready_of}
use Rattle.pc_model.specs.OneMore.{SamePart, with_complete}
use Rattle.pc_model.proofs.KnownLaws.{is_complete-success, marks_of-success}
use Rattle.pc_model.proofs.ListLemmas.{filter-same}
use Rattle.pc_model.proofs.SamePart.{other_part}
use Rattle.pc_laws.proofs.Lists.{and-left, and-right, true-not-false}
use Rattle.pc_partition.specs.Window.{StandsFor}
use Rattle.pc_shards.specs.Entries.{Entry, of_part, without}
use Rattle.pc_shards.specs.OpenEntries.{entry_of}
use Rattle.pc_cursor.specs.declared.cursor.Cursor.{Cursor}
use Rattle.pc_state.specs.declared.part.HeldPart.{HeldPart}
use Rattle.pc_state.specs.declared.part.PartState.{PartState}
use Rattle.pc_state.specs.declared.state.State.{State}
use Rattle.pc_retry.specs.Waiting.{room_of}
use Rattle.pc_state.specs.OpenJobs.{AreOpen, open_job, out_of}
use Rattle.pc_state.proofs.OutLemmas.{out-settled, out-settled_other}
use Rattle.pc_state.specs.Ledger.{Counts}
use Rattle.pc_state.specs.State.{Knows, KnowsHeld, KnowsPart, MayCome, PartKeeps, entries_of, is_early, is_kept_back, is_out, is_spent, is_waiting, waiting_of}
use Rattle.pc_laws.proofs.TicketLaw.{open_jobs-success}
use Rattle.pc_state.proofs.StateLemmas.{AreWaiting-along, each-set, entries-held, entries-same, waiting-held, waiting-same}
use Rattle.pc_state.proofs.AtWork.{IsAtWork, held-known}
use Rattle.pc_state.proofs.WorkLemmas.{work-job, work-only, work-other_part, work-out}
use Rattle.pc_state.proofs.ResultLemmas.{fewer-places, is_out-settled, job-at-none, open-outstanding}

module _ (given : Given) (h : List Event) (t p o : ℕ) (answer : List ℕ) (legal : IsLegal given h)
    (work : IsAtWork h t p o) where
  success-other_part : (q : ℕ) → (p == q) ≡ false → SamePart given q h (Success t answer ∷ h)
  success-other_part q apart = other_part given q (Success t answer) h
      (rw (work-job given h t p o legal work)
      (subst (λ (u : ℕ). (u == q) ≡ false) (sym work.part) apart))

  success-out_other : (q u : ℕ) → (p == q) ≡ false → is_out (Success t answer ∷ h) q u
      ≡ is_out h q u
  success-out_other q u apart = is_out-settled (Success t answer) h t q u refl (λ n. refl) refl
      (λ j i ticket. job-at-none j q (epoch_of h q) u (λ at.
      let part : j.part ≡ q = eqb-true j.part q (and-left (j.part == q) _
      (and-left ((j.part == q) && (j.epoch == epoch_of h q)) (j.offset == u) at)) in
      let is : j.part ≡ p = ap (λ (k : Job). k.part)
      (work-only given h t p o legal work j i ticket) ∙ work.part in
      true-not-false (p == q) (eq-eqb p q (sym is ∙ part)) apart))

  success-out_same : (u : ℕ) → (u == o) ≡ false → is_out (Success t answer ∷ h) p u ≡ is_out h p u
  success-out_same u apart = is_out-settled (Success t answer) h t p u refl (λ n. refl) refl
      (λ j i ticket. job-at-none j p (epoch_of h p) u (λ at.
      let offset : j.offset ≡ u = eqb-true j.offset u
      (and-right ((j.part == p) && (j.epoch == epoch_of h p)) (j.offset == u) at) in
      let is : j.offset ≡ o = ap (λ (k : Job). k.offset)
      (work-only given h t p o legal work j i ticket) ∙ work.offset in
      true-not-false (u == o) (eq-eqb u o (sym offset ∙ is)) apart))

  success-epoch : (work.job.epoch == epoch_of h work.job.part) ≡ true
  success-epoch = eq-eqb work.job.epoch (epoch_of h work.job.part)
      (work.epoch ∙ ap (λ (q : ℕ). epoch_of h q) (sym work.part))

  success-complete : (u : ℕ) → is_complete (Success t answer ∷ h) p u
      ≡ ((o == u) || is_complete h p u)
  success-complete u =
      subst (λ (q : ℕ). is_complete (Success t answer ∷ h) q u ≡ ((o == u) || is_complete h q u))
      work.part
      (subst (λ (n : ℕ). is_complete (Success t answer ∷ h) work.job.part u
      ≡ ((n == u) || is_complete h work.job.part u)) work.offset
      (is_complete-success given h t answer work.job
      (work-job given h t p o legal work) success-epoch u))

  success-marks : marks_of given (Success t answer ∷ h) p ≡ with_complete o (marks_of given h p)
  success-marks =
      subst (λ (q : ℕ). marks_of given (Success t answer ∷ h) q ≡ with_complete o
      (marks_of given h q)) work.part
      (subst (λ (n : ℕ). marks_of given (Success t answer ∷ h) work.job.part
      ≡ with_complete n (marks_of given h work.job.part)) work.offset
      (marks_of-success given h t answer work.job
      (work-job given h t p o legal work) success-epoch))

-- of another offset it is the same whether it may be dispatched, and whether it waits
module _ (given : Given) (h : List Event) (t p o : ℕ) (answer : List ℕ) (legal : IsLegal given h)
    (work : IsAtWork h t p o) where
  success-kept_back : (u : ℕ) → (u == o) ≡ false
      → is_kept_back given (Success t answer ∷ h) p u ≡ is_kept_back given h p u
  unfolding is_kept_back is_spent is_early
  success-kept_back u apart = ap (λ (b : Bool). b || (is_spent given h p u || is_early h p u))
      (success-out_same given h t p o answer legal work u apart)

  -- the offset did not wait, as a job was out there, and it is complete now
  success-waiting : (r : Record) → is_waiting given (Success t answer ∷ h) p r ≡ is_waiting given h p r
  unfolding is_waiting is_spent is_early
  success-waiting r = elim (cases_Bool (r.offset == o)) [
    | inl here ↦
        let at : r.offset ≡ o = eqb-true r.offset o here in
        let done : is_complete (Success t answer ∷ h) p r.offset ≡ true =
        success-complete given h t p o answer legal work r.offset
        ∙ rw (eq-eqb o r.offset (sym at)) refl in
        let out : is_out h p r.offset ≡ true = ap (is_out h p) at
        ∙ work-out given h t p o legal work in
        rw (done, out) (sym (none (is_complete h p r.offset)))
    | inr apart ↦
        let other : (o == r.offset) ≡ false =
        ne_eqb o r.offset (λ (e : o ≡ r.offset). true-not-false (r.offset == o)
        (eq-eqb r.offset o (sym e)) apart) in
        let same : is_complete (Success t answer ∷ h) p r.offset ≡ is_complete h p r.offset =
        success-complete given h t p o answer legal work r.offset ∙ rw other refl in
        rw (same, success-out_same given h t p o answer legal work r.offset apart) refl
  ]
    where
      none : (b : Bool) → (not b && false) ≡ false
      none true = refl
      none false = refl

  waiting-success : waiting_of given (Success t answer ∷ h) p ≡ waiting_of given h p
  unfolding polled_records
  waiting-success = waiting-held given (Success t answer ∷ h) p work.held
      ∙ ap (λ (rs : List Record). map (λ r. record
      { ready_at = ready_of h p r.offset; part = p; offset = r.offset }) rs)
      (filter-same _ _ success-waiting (polled_records given h p))
      ∙ sym (waiting-held given h p work.held)

-- of the records' entries those at one offset go, where that is complete
entries-without : (o : ℕ) (f g : ℕ → Bool) (a b : Record → Bool) (n : Record → ℕ) (rs : List Record)
    → ((u : ℕ) → g u ≡ ((o == u) || f u)) → ((r : Record) → (r.offset == o) ≡ false → b r ≡ a r)
    → map (entry_of b n) (filter (λ r. not (g r.offset)) rs)
    ≡ without o (map (entry_of a n) (filter (λ r. not (f r.offset)) rs))
entries-without o f g a b n [] done busy = refl
entries-without o f g a b n (r ∷ rs) done busy = let more = entries-without o f g a b n rs done busy in
    elim (cases_Bool (r.offset == o)) [
      | inl here ↦
          let own : (o == r.offset) ≡ true = eq-eqb o r.offset (sym (eqb-true r.offset o here)) in
          let gone : g r.offset ≡ true = done r.offset ∙ rw own refl in
          rw gone (more ∙ elim (cases_Bool (f r.offset)) [
            | inl was ↦ rw was refl
            | inr open_before ↦ rw (open_before, here) refl
          ])
      | inr apart ↦
          let other : (o == r.offset) ≡ false =
          ne_eqb o r.offset (λ (e : o ≡ r.offset). true-not-false (r.offset == o)
          (eq-eqb r.offset o (sym e)) apart) in
          let same : g r.offset ≡ f r.offset = done r.offset ∙ rw other refl in
          rw same (elim (cases_Bool (f r.offset)) [
            | inl was ↦ rw was more
            | inr open_before ↦ rw (open_before, apart, busy r apart, more) refl
          ])
    ]

-- the entry of the success goes
entries-success : (given : Given) (h : List Event) (t p o : ℕ) (answer : List ℕ) → IsLegal given h
    → IsAtWork h t p o
    → entries_of given (Success t answer ∷ h) p ≡ without o (entries_of given h p)
unfolding polled_records
entries-success given h t p o answer legal work =
    entries-held given (Success t answer ∷ h) p work.held
    ∙ entries-without o (is_complete h p) (is_complete (Success t answer ∷ h) p)
    (λ r. is_kept_back given h p r.offset) (λ r. is_kept_back given (Success t answer ∷ h) p r.offset)
    (λ r. failures_of h p r.offset) (polled_records given h p)
    (success-complete given h t p o answer legal work)
    (λ r apart. success-kept_back given h t p o answer legal work r.offset apart)
    ∙ ap (λ (es : List Entry). without o es) (sym (entries-held given h p work.held))

-- what is known of the part then
success-known : (given : Given) (h : List Event) (t p o : ℕ) (answer : List ℕ)
    (held next : HeldPart)
    → IsLegal given h → IsAtWork h t p o → KnowsHeld given h p held
    → StandsFor next.window.window (begin_of h p) (polled_count h p)
    (with_complete o (marks_of given h p))
    → next.rest ≡ held.rest → next.size ≡ held.size → KnowsHeld given (Success t answer ∷ h) p next
unfolding unpolled_records
success-known given h t p o answer held next legal work known stands same_rest same_size = record {
  stands = subst (λ (ms : List Mark). StandsFor next.window.window (begin_of h p)
      (polled_count h p) ms)
      (sym (success-marks given h t p o answer legal work)) stands;
  unpolled = known.unpolled ∙ ap (λ (c : Cursor). c.left) (sym same_rest);
  size = same_size ∙ known.size;
}

-- the state without the job, with the part's offset complete
pub record Completes (old new : State) (p o : ℕ) (part : PartState) : Type 0 where
  pub setup : new.setup.now ≡ old.setup.now
  pub logs : new.logs.now ≡ old.logs.now
  pub items : new.parts.items ≡ set old.parts.items p part
  pub order : new.shards.order ≡ old.shards.order
  pub done : of_part new.shards p ≡ without o (of_part old.shards p)
  pub others : (q : ℕ) → (q == p) ≡ false → of_part new.shards q ≡ of_part old.shards q
  pub retries : new.retries ≡ old.retries
  pub clock : new.clock ≡ old.clock
  pub dispatched : new.dispatched ≡ old.dispatched
  pub last : new.last ≡ old.last

pub knows-success : (given : Given) (h : List Event) (t p o : ℕ) (answer : List ℕ) (old new : State)
    (was part : PartState) (held next : HeldPart) → Knows given h old
    → MayCome given (Success t answer) h → IsAtWork h t p o → p < length given.logs
    → Completes old new p o part → was ≡ get_or old.parts.items p was → was.held ≡ Some held
    → part.epoch ≡ was.epoch → part.held ≡ Some next
    → ((begin n : ℕ) (marks : List Mark) → StandsFor held.window.window begin n marks
    → StandsFor next.window.window begin n (with_complete o marks))
    → next.rest ≡ held.rest → next.size ≡ held.size
    → ((is_some (open_job h t) ≡ true) → jobs_of (Success t answer ∷ h) ≡ jobs_of h
    → ((u : ℕ) → settles (Success t answer) u ≡ (t == u))
    → length (open_jobs (Success t answer ∷ h)) + 1 ≡ length (open_jobs h)
    → AreOpen (Success t answer ∷ h) new.jobs)
    → Counts given (Success t answer ∷ h) new.ledger → Knows given (Success t answer ∷ h) new
knows-success given h t p o answer old new was part held next knows may work below completes was_is
    was_held epoch part_held stands same_rest same_size jobs counts = record {
      setup = knows.setup ∙ sym completes.setup;
      logs = knows.logs ∙ sym completes.logs;
      legal = may.legal;
      limit = may.limit;
      count = ap length completes.items ∙ length-set {A = PartState} old.parts.items p part
          ∙ knows.count;
      few = knows.few;
      few_records = knows.few_records;
      each = λ q d within. subst (λ (xs : List PartState). PartKeeps given k q (get_or xs q d))
          (sym completes.items)
          (each-set given h k old.parts.items p part (omega (arith, below, knows.count)) part-keeps
          (success-other_part given h t p o answer knows.legal work)
          (λ u e less. knows.each u e (omega (arith, less, knows.count))) q d
          (omega (arith, within, knows.count)));
      order = completes.order ∙ knows.order;
      entries = entries;
      waiting = rw completes.retries (AreWaiting-along given h k old.retries.retries waiting knows.waiting);
      places = rw completes.retries (fewer-places (length (open_jobs k)) (length (open_jobs h))
          old.retries.room (open_jobs-success given h knows.legal t may.legal.0.outstanding answer)
          knows.places);
      part_places = λ q held_then. rw completes.retries (elim (cases_Bool (p == q)) [
        | inl same ↦ subst (λ (u : ℕ). out_of k u ≤ room_of old.retries u) (eqb-true p q same)
            (let less = out-settled given h knows.legal t p o work (Success t answer) refl (λ u. refl)
            refl in
            let le = knows.part_places p work.held in omega (arith, less, le))
        | inr apart ↦ rw (out-settled_other (Success t answer) h t q refl (λ u. refl) refl
            (work-other_part given h t p o knows.legal work q apart)) (knows.part_places q held_then)
      ]);
      clock = completes.clock ∙ knows.clock;
      jobs = jobs (open-outstanding h t may.legal.0.outstanding) refl (λ u. refl)
          (open_jobs-success given h knows.legal t may.legal.0.outstanding answer);
      dispatched = completes.dispatched ∙ knows.dispatched;
      last = completes.last ∙ knows.last;
      ledger = counts;
    }
  where
    k : List Event
    k = Success t answer ∷ h

    keeps-was : PartKeeps given h p was
    keeps-was = subst (λ (x : PartState). PartKeeps given h p x) (sym was_is)
        (knows.each p was below)

    known : KnowsHeld given h p held
    known = held-known given h old p was held knows below was_is was_held

    part-keeps : PartKeeps given k p part
    part-keeps = record {
      epoch = epoch ∙ keeps-was.epoch;
      held = ap is_some part_held ∙ sym work.held;
      knows = subst (λ (x : Option HeldPart). KnowsPart given k p x) (sym part_held)
          (success-known given h t p o answer held next knows.legal work known
          (stands (begin_of h p) (polled_count h p) (marks_of given h p) known.stands) same_rest
          same_size);
    }

    entries : (q : ℕ) → of_part new.shards q ≡ entries_of given k q
    entries q = elim (cases_Bool (q == p)) [
      | inl same ↦ subst (λ (u : ℕ). of_part new.shards u ≡ entries_of given k u)
          (sym (eqb-true q p same))
          (completes.done ∙ ap (λ (es : List Entry). without o es) (knows.entries p)
          ∙ sym (entries-success given h t p o answer knows.legal work))
      | inr apart ↦
          let other : (p == q) ≡ false =
          ne_eqb p q (λ (e : p ≡ q). true-not-false (q == p) (eq-eqb q p (sym e)) apart) in
          completes.others q apart ∙ knows.entries q
          ∙ sym (entries-same given h k q (success-other_part given h t p o answer knows.legal work
          q other) refl
          (λ held_there u. success-out_other given h t p o answer knows.legal work q u other))
    ]

    waiting : (q : ℕ) → waiting_of given k q ≡ waiting_of given h q
    waiting q = elim (cases_Bool (q == p)) [
      | inl same ↦ subst (λ (u : ℕ). waiting_of given k u ≡ waiting_of given h u)
          (sym (eqb-true q p same)) (waiting-success given h t p o answer knows.legal work)
      | inr apart ↦
          let other : (p == q) ≡ false =
          ne_eqb p q (λ (e : p ≡ q). true-not-false (q == p) (eq-eqb q p (sym e)) apart) in
          waiting-same given h k q (success-other_part given h t p o answer knows.legal work q other)
          refl (λ held_there u. success-out_other given h t p o answer knows.legal work q u other)
    ]
