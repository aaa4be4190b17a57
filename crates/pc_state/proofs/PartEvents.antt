-- What is kept of a history after an assignment, and after a commit that was stored or failed: one
-- part changes, and no job and no record.
use Rattle.std.proofs.Common.{◌≡◌, ℕ, zero, suc, ◌+◌, ◌<◌, ◌≤◌, Bool, true, false, not, ◌==◌, cond, List, [], ◌∷◌, map, length, set, Option, Some, None, refl, sym, ap, subst, ◌∙◌, arith, inl, inr, get_or, length-set}
use Rattle.std.proofs.lemmas.Bool.{cases_Bool, eqb-true}
use Rattle.std.specs.Prelude.{filter, is_some, option_map, slice_get}
use Rattle.std.specs.Option.{option_flatten}
use Rattle.pc_model.specs.declared.event.Event.{Event}
use Rattle.pc_model.specs.declared.event.Event.TheVariants.{Assign, Commit as Committed, CommitFailed, Crash, Lost, Revoke}
use Rattle.pc_model.specs.declared.commit.Commit.{Commit}
use Rattle.pc_model.specs.Given.{Given, has_log, records_of}
use Rattle.pc_model.specs.Jobs.{jobs_of, open_jobs}
use Rattle.pc_model.specs.Epochs.{epoch_of, is_held, moves}
use Rattle.pc_model.specs.Record.{Record}
use Rattle.pc_model.specs.Marks.{Mark}
use Rattle.pc_model.specs.Pressure.{last_size}
use Rattle.pc_model.specs.Retry.{failures_of, now_of, ready_of}
use Rattle.pc_model.specs.Known.{begin_of, marks_of, polled_count, polled_records, unpolled_records, known_records, is_complete}
use Rattle.pc_model.specs.Lawful.{IsLegal}
use Rattle.pc_model.specs.OneMore.{SamePart}
use Rattle.pc_model.proofs.EpochLaws.{epoch_of-assign, is_held-assign}
use Rattle.pc_model.proofs.KnownLaws.{assigned_commit-assign, polled_count-assign, polled_records-assign}
use Rattle.pc_model.proofs.ListLemmas.{same_number}
use Rattle.pc_model.proofs.SamePart.{other_part}
use Rattle.pc_laws.proofs.HeldLaw.{held-has_log, log-below}
use Rattle.pc_laws.proofs.PositionLaw.{held_apart}
use Rattle.pc_commit.specs.Resume.{resumed_marks}
use Rattle.pc_cursor.specs.Cursor.{not_below}
use Rattle.pc_cursor.specs.declared.cursor.Cursor.{Cursor}
use Rattle.pc_partition.specs.declared.state.PartitionState.{PartitionState}
use Rattle.pc_partition.specs.Window.{StandsFor}
use Rattle.pc_shards.specs.OpenEntries.{entry_of}
use Rattle.pc_state.specs.declared.part.HeldPart.{HeldPart}
use Rattle.pc_state.specs.declared.part.PartState.{PartState}
use Rattle.pc_state.specs.declared.state.State.{State}
use Rattle.pc_retry.specs.Waiting.{room_of}
use Rattle.pc_state.specs.Ledger.{Counts}
use Rattle.pc_state.specs.OpenJobs.{out_of}
use Rattle.pc_state.specs.State.{Knows, KnowsHeld, KnowsPart, MayCome, PartKeeps, entries_of, is_early, is_kept_back, is_out, is_spent, is_waiting, sized, waiting_of, with_size}
use Rattle.pc_state.proofs.AssignLemmas.{marks_of-assign, unpolled-begin}
use Rattle.pc_state.proofs.OpenJobsLemmas.{AreOpen-along}
use Rattle.pc_state.proofs.OutLemmas.{out-along, out-assign}
use Rattle.pc_state.proofs.StateLemmas.{AreWaiting-along, each-set, entries-free, entries-held, entries-same, is_out-same, stands-along, waiting-free, waiting-held, waiting-same}

-- a state of which one part is another
pub record PutsPart (old new : State) (p : ℕ) (part : PartState) : Type 0 where
  pub setup : new.setup.now ≡ old.setup.now
  pub logs : new.logs.now ≡ old.logs.now
  pub items : new.parts.items ≡ set old.parts.items p part
  pub shards : new.shards ≡ old.shards
  pub retries : new.retries ≡ old.retries
  pub jobs : new.jobs ≡ old.jobs
  pub clock : new.clock ≡ old.clock
  pub dispatched : new.dispatched ≡ old.dispatched
  pub last : new.last ≡ old.last

-- an event by which no job begins or ends, and which says nothing of the other parts
knows-part : (given : Given) (h : List Event) (v : Event) (old new : State) (p : ℕ)
    (part : PartState) → Knows given h old → MayCome given v h → PutsPart old new p part
    → p < length given.logs → PartKeeps given (v ∷ h) p part
    → ((q : ℕ) → (p == q) ≡ false → SamePart given q h (v ∷ h))
    → jobs_of (v ∷ h) ≡ jobs_of h → open_jobs (v ∷ h) ≡ open_jobs h
    → now_of (v ∷ h) ≡ now_of h → ((q : ℕ) → entries_of given (v ∷ h) q ≡ entries_of given h q)
    → ((q : ℕ) → waiting_of given (v ∷ h) q ≡ waiting_of given h q)
    → Counts given (v ∷ h) new.ledger
    → ((q : ℕ) → is_held (v ∷ h) q ≡ true → out_of (v ∷ h) q ≤ room_of old.retries q)
    → Knows given (v ∷ h) new
knows-part given h v old new p part knows may puts below keeps others jobs same_open now entries
    waiting counts part_places = record {
      setup = knows.setup ∙ sym puts.setup;
      logs = knows.logs ∙ sym puts.logs;
      legal = may.legal;
      limit = may.limit;
      count = ap length puts.items ∙ length-set {A = PartState} old.parts.items p part ∙ knows.count;
      few = knows.few;
      few_records = knows.few_records;
      each = λ q d within. subst (λ (xs : List PartState). PartKeeps given (v ∷ h) q (get_or xs q d)) (sym puts.items)
          (each-set given h (v ∷ h) old.parts.items p part (omega (arith, below, knows.count)) keeps others
          (λ u e less. knows.each u e (omega (arith, less, knows.count))) q d
          (omega (arith, within, knows.count)));
      order = rw puts.shards knows.order;
      entries = λ q. rw puts.shards (knows.entries q ∙ sym (entries q));
      waiting = rw puts.retries (AreWaiting-along given h (v ∷ h) old.retries.retries waiting knows.waiting);
      places = rw (puts.retries, same_open) knows.places;
      part_places = λ q held. rw puts.retries (part_places q held);
      clock = puts.clock ∙ knows.clock ∙ sym now;
      jobs = rw puts.jobs (AreOpen-along h (v ∷ h) old.jobs same_open knows.jobs);
      dispatched = puts.dispatched ∙ knows.dispatched ∙ ap length (sym jobs);
      last = puts.last ∙ knows.last ∙ ap (λ js. option_map (λ j. j.part) (slice_get js 0)) (sym jobs);
      ledger = counts;
    }

-- ---- an assignment

entries-assign : (given : Given) (h : List Event) (p epoch position : ℕ) (text : List ℕ) (q : ℕ)
    → is_held h p ≡ false
    → entries_of given (Assign p epoch position text ∷ h) q ≡ entries_of given h q
entries-assign given h p epoch position text q free = elim (cases_Bool (p == q)) [
  | inl same ↦ subst (λ (u : ℕ). entries_of given (Assign p epoch position text ∷ h) u
      ≡ entries_of given h u) (eqb-true p q same) (
      entries-held given (Assign p epoch position text ∷ h) p (is_held-assign h p epoch position text)
      ∙ ap (λ (rs : List Record). map
      (entry_of (λ r. is_kept_back given (Assign p epoch position text ∷ h) p r.offset)
      (λ r. failures_of (Assign p epoch position text ∷ h) p r.offset))
      (filter (λ r. not (is_complete (Assign p epoch position text ∷ h) p r.offset)) rs))
      (polled_records-assign given h p epoch position text)
      ∙ sym (entries-free given h p free))
  | inr apart ↦ let others = other_part given q (Assign p epoch position text) h apart in
      entries-same given h (Assign p epoch position text ∷ h) q others refl
      (λ held o. is_out-same h (Assign p epoch position text ∷ h) q o refl others.epoch)
]

waiting-assign : (given : Given) (h : List Event) (p epoch position : ℕ) (text : List ℕ) (q : ℕ)
    → is_held h p ≡ false
    → waiting_of given (Assign p epoch position text ∷ h) q ≡ waiting_of given h q
waiting-assign given h p epoch position text q free = elim (cases_Bool (p == q)) [
  | inl same ↦ subst (λ (u : ℕ). waiting_of given (Assign p epoch position text ∷ h) u
      ≡ waiting_of given h u) (eqb-true p q same) (
      waiting-held given (Assign p epoch position text ∷ h) p (is_held-assign h p epoch position text)
      ∙ ap (λ (rs : List Record). map (λ r. record
      { ready_at = ready_of (Assign p epoch position text ∷ h) p r.offset; part = p; offset = r.offset })
      (filter (is_waiting given (Assign p epoch position text ∷ h) p) rs))
      (polled_records-assign given h p epoch position text)
      ∙ sym (waiting-free given h p free))
  | inr apart ↦ let others = other_part given q (Assign p epoch position text) h apart in
      waiting-same given h (Assign p epoch position text ∷ h) q others refl
      (λ held o. is_out-same h (Assign p epoch position text ∷ h) q o refl others.epoch)
]

pub knows-assigned : (given : Given) (h : List Event) (old new : State) (p : ℕ) (stored : Commit)
    (part : PartState) (window : PartitionState) (rest : Cursor) → Knows given h old
    → MayCome given (Assign p (epoch_of h p + 1) stored.position stored.map) h
    → p < length given.logs → PutsPart old new p part → part.epoch ≡ epoch_of h p + 1
    → part.held ≡ Some (record { window = window; rest = rest; size = None })
    → rest.left ≡ not_below stored.position (records_of given p)
    → StandsFor window.window stored.position 0 (resumed_marks stored (records_of given p))
    → Counts given (Assign p (epoch_of h p + 1) stored.position stored.map ∷ h) new.ledger
    → Knows given (Assign p (epoch_of h p + 1) stored.position stored.map ∷ h) new
knows-assigned given h old new p stored part window rest knows may below puts epoch held left stands counts =
    knows-part given h (Assign p (epoch_of h p + 1) stored.position stored.map) old new p part knows may
    puts below (record {
      epoch = epoch ∙ sym (epoch_of-assign h p (epoch_of h p + 1) stored.position stored.map);
      held = ap is_some held ∙ sym (is_held-assign h p (epoch_of h p + 1) stored.position stored.map);
      knows = rw held (record {
        stands = subst (λ (ms : List Mark). StandsFor window.window
            (begin_of (Assign p (epoch_of h p + 1) stored.position stored.map ∷ h) p)
            (polled_count (Assign p (epoch_of h p + 1) stored.position stored.map ∷ h) p) ms)
            (sym (marks_of-assign given h p (epoch_of h p + 1) knows.legal stored))
            (subst (λ (n : ℕ). StandsFor window.window
            (begin_of (Assign p (epoch_of h p + 1) stored.position stored.map ∷ h) p) n
            (resumed_marks stored (records_of given p)))
            (sym (polled_count-assign given h p (epoch_of h p + 1) stored.position stored.map))
            (subst (λ (c : Commit). StandsFor window.window c.position 0
            (resumed_marks stored (records_of given p)))
            (sym (assigned_commit-assign given h p (epoch_of h p + 1) stored.position stored.map)) stands));
        unpolled = unpolled-begin given h p (epoch_of h p + 1) stored.position stored.map ∙ sym left;
        size = sym (size-assign h p (epoch_of h p + 1) stored.position stored.map);
      });
    })
    (λ q apart. other_part given q (Assign p (epoch_of h p + 1) stored.position stored.map) h apart)
    refl refl refl
    (λ q. entries-assign given h p (epoch_of h p + 1) stored.position stored.map q may.legal.0.free)
    (λ q. waiting-assign given h p (epoch_of h p + 1) stored.position stored.map q may.legal.0.free)
    counts (λ q held_then. elim (cases_Bool (p == q)) [
      | inl same ↦ rw (
        sym (eqb-true p q same),
        out-assign given h p (epoch_of h p + 1) stored.position
            stored.map knows.legal,
      ) (omega arith)
      | inr apart ↦ rw (out-along h (Assign p (epoch_of h p + 1) stored.position stored.map ∷ h) q refl
          (rw apart refl)) (knows.part_places q (rw apart at held_then))
    ])
  where
    size-assign : (h : List Event) (p epoch position : ℕ) (text : List ℕ)
        → last_size (Assign p epoch position text ∷ h) p ≡ None
    size-assign h p epoch position text = simp (same_number p)

-- ---- a commit, stored or failed

held-sized : (size : ℕ) (o : Option HeldPart) → is_some (option_map (sized size) o) ≡ is_some o
held-sized size None = refl
held-sized size (Some held) = refl

-- a commit says nothing of what a part knows but its size
knows-sized : (given : Given) (h k : List Event) (p size : ℕ) (o : Option HeldPart)
    → begin_of k p ≡ begin_of h p → polled_count k p ≡ polled_count h p
    → marks_of given k p ≡ marks_of given h p → unpolled_records given k p ≡ unpolled_records given h p
    → last_size k p ≡ Some size → KnowsPart given h p o → KnowsPart given k p (option_map (sized size) o)
knows-sized given h k p size None begin polled marks unpolled last known = tt
knows-sized given h k p size (Some held) begin polled marks unpolled last known = record {
  stands = stands-along given h k p held.window.window begin polled marks known.stands;
  unpolled = unpolled ∙ known.unpolled;
  size = sym last;
}

module _ (given : Given) (h : List Event) (old new : State) (p position size : ℕ) (text : List ℕ)
    (part : PartState) (knows : Knows given h old) (below : p < length given.logs)
    (puts : PutsPart old new p (with_size size part)) (keeps : PartKeeps given h p part) where
  pub knows-committed : MayCome given (Committed p position text size) h
      → Counts given (Committed p position text size ∷ h) new.ledger
      → Knows given (Committed p position text size ∷ h) new
  unfolding entries_of waiting_of is_waiting is_kept_back is_spent is_early is_out marks_of known_records polled_records unpolled_records is_complete
  knows-committed may counts =
      knows-part given h (Committed p position text size) old new p (with_size size part) knows may puts below
      (record {
        epoch = keeps.epoch;
        held = held-sized size part.held ∙ keeps.held;
        knows = knows-sized given h (Committed p position text size ∷ h) p size part.held refl refl refl refl
            (simp (same_number p)) keeps.knows;
      })
      (λ q apart. other_part given q (Committed p position text size) h apart) refl refl refl (λ q. refl)
      (λ q. refl) counts (λ q held. rw (out-along h (Committed p position text size ∷ h) q refl refl)
      (knows.part_places q held))

  pub knows-failed : MayCome given (CommitFailed p position text size) h
      → Counts given (CommitFailed p position text size ∷ h) new.ledger
      → Knows given (CommitFailed p position text size ∷ h) new
  unfolding entries_of waiting_of is_waiting is_kept_back is_spent is_early is_out marks_of known_records polled_records unpolled_records is_complete
  knows-failed may counts =
      knows-part given h (CommitFailed p position text size) old new p (with_size size part) knows may puts below
      (record {
        epoch = keeps.epoch;
        held = held-sized size part.held ∙ keeps.held;
        knows = knows-sized given h (CommitFailed p position text size ∷ h) p size part.held refl refl refl refl
            (simp (same_number p)) keeps.knows;
      })
      (λ q apart. other_part given q (CommitFailed p position text size) h apart) refl refl refl (λ q. refl)
      (λ q. refl) counts (λ q held. rw (out-along h (CommitFailed p position text size ∷ h) q refl refl)
      (knows.part_places q held))

-- ---- what a state says of one part

epoch-step : (b : Bool) (n k : ℕ) → n ≤ k → cond b (n + 1) n ≤ suc k
epoch-step true n k le = omega arith
epoch-step false n k le = omega arith

pub epoch_of-le : (h : List Event) (p : ℕ) → epoch_of h p ≤ length h
epoch_of-le [] p = omega arith
epoch_of-le (e ∷ h) p = epoch-step (moves e p) (epoch_of h p) (length h) (epoch_of-le h p)

module _ (given : Given) (h : List Event) (s : State) (p : ℕ) (knows : Knows given h s)
    (known : has_log given p ≡ true) where
  pub known-below : p < length s.parts.items
  known-below = omega (arith, log-below given.logs p known, knows.count)

  pub known-part : (d : PartState) → PartKeeps given h p (get_or s.parts.items p d)
  known-part d = knows.each p d (log-below given.logs p known)

  pub known-epoch : (part d : PartState) → part ≡ get_or s.parts.items p d → part.epoch ≡ epoch_of h p
  known-epoch part d is = ap (λ (x : PartState). x.epoch) is ∙ (known-part d).epoch

  pub known-epoch_small : (part d : PartState) → part ≡ get_or s.parts.items p d → part.epoch + 1 ≤ 4000001
  known-epoch_small part d is = omega (arith, known-epoch part d is, epoch_of-le h p, knows.limit)

-- a held part is known
pub known-held : (given : Given) (h : List Event) (s : State) (p : ℕ) → Knows given h s
    → is_held h p ≡ true → (part d : PartState) (held : HeldPart) → part ≡ get_or s.parts.items p d
    → part.held ≡ Some held → KnowsHeld given h p held
known-held given h s p knows held part d one is some =
    subst (λ (o : Option HeldPart). KnowsPart given h p o) some
    (subst (λ (x : PartState). KnowsPart given h p x.held) (sym is)
    (known-part given h s p knows (held-has_log given h p knows.legal held) d).knows)
