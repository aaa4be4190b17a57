-- What is kept of a history after an event that says nothing of it.
use Rattle.std.proofs.Common.{◌≡◌, ℕ, ◌<◌, Bool, true, false, not, ◌==◌, List, [], map, length, set, Option, Some, None, refl, sym, ap, subst, ◌∙◌, inl, inr, eq-eqb, get_or, get_or-set_other, get_or-set_same}
use Rattle.std.specs.Prelude.{filter, nat_lt}
use Rattle.std.specs.List.{list_any}
use Rattle.std.proofs.lemmas.Bool.{cases_Bool, eqb-true}
use Rattle.pc_model.specs.declared.event.Event.{Event}
use Rattle.pc_model.specs.declared.commit.Commit.{Commit}
use Rattle.pc_model.specs.Record.{Record}
use Rattle.pc_model.specs.Marks.{Mark}
use Rattle.pc_model.specs.Given.{Given}
use Rattle.pc_model.specs.Jobs.{Job, open_jobs}
use Rattle.pc_model.specs.Epochs.{epoch_of, is_held}
use Rattle.pc_model.specs.Known.{begin_of, is_complete, is_job_at, marks_of, polled_count, polled_records}
use Rattle.pc_model.specs.OneMore.{SamePart}
use Rattle.pc_model.specs.Retry.{failures_in, failures_of, now_of, ready_in, ready_of}
use Rattle.pc_model.proofs.KnownLaws.{is_complete-same, marks_of-same, polled_records-same, unpolled_records-same}
use Rattle.pc_model.proofs.ListLemmas.{filter-same, map-same}
use Rattle.pc_laws.specs.Lists.{In}
use Rattle.pc_laws.proofs.Lists.{true-not-false}
use Rattle.pc_partition.specs.Window.{StandsFor, Window}
use Rattle.pc_retry.specs.declared.queue.Retry.{Retry}
use Rattle.pc_shards.specs.OpenEntries.{entry_of, open_entries}
use Rattle.pc_state.specs.declared.part.HeldPart.{HeldPart}
use Rattle.pc_state.specs.declared.part.PartState.{PartState}
use Rattle.pc_state.specs.State.{AreWaiting, KnowsPart, PartKeeps, entries_of, is_early, is_kept_back, is_out, is_spent, is_waiting, waiting_of}

-- ---- what is known of a part

-- the window stands for the same in another history
pub stands-along : (given : Given) (h k : List Event) (p : ℕ) (w : Window)
    → begin_of k p ≡ begin_of h p → polled_count k p ≡ polled_count h p
    → marks_of given k p ≡ marks_of given h p
    → StandsFor w (begin_of h p) (polled_count h p) (marks_of given h p)
    → StandsFor w (begin_of k p) (polled_count k p) (marks_of given k p)
stands-along given h k p w begin polled marks stands =
    subst (λ (ms : List Mark). StandsFor w (begin_of k p) (polled_count k p) ms) (sym marks)
    (subst (λ (n : ℕ). StandsFor w (begin_of k p) n (marks_of given h p)) (sym polled)
    (subst (λ (b : ℕ). StandsFor w b (polled_count h p) (marks_of given h p)) (sym begin) stands))

pub part-same : (given : Given) (h k : List Event) (q : ℕ) (part : PartState)
    → SamePart given q h k → PartKeeps given h q part → PartKeeps given k q part
part-same given h k q part same keeps = record {
  epoch = keeps.epoch ∙ sym same.epoch;
  held = keeps.held ∙ sym same.held;
  knows = knows part.held keeps.knows;
}
  where
    knows : (held : Option HeldPart) → KnowsPart given h q held → KnowsPart given k q held
    knows None known = tt
    knows (Some held) known = record {
      stands = stands-along given h k q held.window.window
          (ap (λ (c : Commit). c.position) same.assigned) same.polled (marks_of-same given q h k same)
          known.stands;
      unpolled = unpolled_records-same given q h k same ∙ known.unpolled;
      size = known.size ∙ sym same.size;
    }

-- one part is another, and of the others the same is said
pub each-set : (given : Given) (h k : List Event) (parts : List PartState) (p : ℕ) (part : PartState)
    → p < length parts → PartKeeps given k p part
    → ((q : ℕ) → (p == q) ≡ false → SamePart given q h k)
    → ((q : ℕ) (d : PartState) → q < length parts → PartKeeps given h q (get_or parts q d))
    → (q : ℕ) (d : PartState) → q < length parts → PartKeeps given k q (get_or (set parts p part) q d)
each-set given h k parts p part below keeps others each q d within = elim (cases_Bool (p == q)) [
  | inl same ↦ subst (λ (u : ℕ). PartKeeps given k u (get_or (set parts p part) u d))
      (eqb-true p q same) (rw (get_or-set_same parts p part d below) keeps)
  | inr apart ↦
      let other : q ≡ p → ⊥ = λ (e : q ≡ p). true-not-false (p == q) (eq-eqb p q (sym e)) apart in
      rw (get_or-set_other parts p q part d other)
      (part-same given h k q (get_or parts q d) (others q apart) (each q d within))
]

-- ---- the entries of a part

pub is_out-same : (h k : List Event) (p o : ℕ) → open_jobs k ≡ open_jobs h
    → epoch_of k p ≡ epoch_of h p → is_out k p o ≡ is_out h p o
unfolding is_out
is_out-same h k p o jobs epoch =
    ap (λ (js : List Job). list_any (λ j. is_job_at (Some j) p (epoch_of k p) o) js) jobs
    ∙ ap (λ (e : ℕ). list_any (λ j. is_job_at (Some j) p e o) (open_jobs h)) epoch

pub failures-same : (given : Given) (h k : List Event) (p o : ℕ) → SamePart given p h k
    → failures_of k p o ≡ failures_of h p o
failures-same given h k p o same = same.failures (epoch_of k p) o
    ∙ ap (λ (e : ℕ). failures_in h p e o) same.epoch

pub ready-same : (given : Given) (h k : List Event) (p o : ℕ) → SamePart given p h k
    → ready_of k p o ≡ ready_of h p o
ready-same given h k p o same = same.ready (epoch_of k p) o
    ∙ ap (λ (e : ℕ). ready_in h p e o) same.epoch

-- of a part of which the same is said, at the same time
module _ (given : Given) (h k : List Event) (p : ℕ) (same : SamePart given p h k)
    (now : now_of k ≡ now_of h) where
  spent-same : (o : ℕ) → is_spent given k p o ≡ is_spent given h p o
  unfolding is_spent
  spent-same o = ap (λ (n : ℕ). not (nat_lt n given.setup.settings.give_up))
      (failures-same given h k p o same)

  early-same : (o : ℕ) → is_early k p o ≡ is_early h p o
  unfolding is_early
  early-same o = rw (ready-same given h k p o same, now) refl

  kept_back-same : (o : ℕ) → is_out k p o ≡ is_out h p o
      → is_kept_back given k p o ≡ is_kept_back given h p o
  unfolding is_kept_back
  kept_back-same o out = rw (out, spent-same o, early-same o) refl

  -- while it is held with the same jobs at its records, its entries are the same
  pub entries-same : (is_held h p ≡ true → (o : ℕ) → is_out k p o ≡ is_out h p o)
      → entries_of given k p ≡ entries_of given h p
  unfolding entries_of
  entries-same out = elim (cases_Bool (is_held h p)) [
    | inl held ↦ rw (same.held, held) (
        ap (λ (rs : List Record). map (entry_of (λ r. is_kept_back given k p r.offset)
        (λ r. failures_of k p r.offset)) (filter (λ r. not (is_complete k p r.offset)) rs))
        (polled_records-same given p h k same)
        ∙ ap (λ (rs : List Record). map (entry_of (λ r. is_kept_back given k p r.offset)
        (λ r. failures_of k p r.offset)) rs)
        (filter-same _ _ (λ (r : Record). ap not (is_complete-same given p h k same r.offset))
        (polled_records given h p))
        ∙ map-same _ _ (λ (r : Record).
        ap (λ (b : Bool). record { «record» = r; failures = failures_of k p r.offset; is_busy = b })
        (kept_back-same r.offset (out held r.offset))
        ∙ ap (λ (n : ℕ). record { «record» = r; failures = n; is_busy = is_kept_back given h p r.offset })
        (failures-same given h k p r.offset same))
        (filter (λ r. not (is_complete h p r.offset)) (polled_records given h p))
        )
    | inr free ↦ rw (same.held, free) refl
  ]

  is_waiting-same : (r : Record) → is_out k p r.offset ≡ is_out h p r.offset
      → is_waiting given k p r ≡ is_waiting given h p r
  unfolding is_waiting
  is_waiting-same r out = rw (
    is_complete-same given p h k same r.offset,
    out,
    spent-same r.offset,
    early-same r.offset,
  ) refl

  -- and so are its retries
  pub waiting-same : (is_held h p ≡ true → (o : ℕ) → is_out k p o ≡ is_out h p o)
      → waiting_of given k p ≡ waiting_of given h p
  unfolding waiting_of
  waiting-same out = elim (cases_Bool (is_held h p)) [
    | inl held ↦ rw (same.held, held) (
        ap (λ (rs : List Record). map (λ r. record
        { ready_at = ready_of k p r.offset; part = p; offset = r.offset })
        (filter (is_waiting given k p) rs)) (polled_records-same given p h k same)
        ∙ ap (λ (rs : List Record). map (λ r. record
        { ready_at = ready_of k p r.offset; part = p; offset = r.offset }) rs)
        (filter-same _ _ (λ (r : Record). is_waiting-same r (out held r.offset))
        (polled_records given h p))
        ∙ map-same _ _ (λ (r : Record).
        ap (λ (t : ℕ). record { ready_at = t; part = p; offset = r.offset })
        (ready-same given h k p r.offset same))
        (filter (is_waiting given h p) (polled_records given h p))
        )
    | inr free ↦ rw (same.held, free) refl
  ]

-- of a part that is not held there are none
pub entries-free : (given : Given) (h : List Event) (p : ℕ) → is_held h p ≡ false
    → entries_of given h p ≡ []
unfolding entries_of
entries-free given h p free = rw free refl

pub entries-held : (given : Given) (h : List Event) (p : ℕ) → is_held h p ≡ true
    → entries_of given h p ≡ open_entries given h p (λ r. is_kept_back given h p r.offset)
    (λ r. failures_of h p r.offset)
unfolding entries_of
entries-held given h p held = rw held refl

pub waiting-free : (given : Given) (h : List Event) (p : ℕ) → is_held h p ≡ false
    → waiting_of given h p ≡ []
unfolding waiting_of
waiting-free given h p free = rw free refl

pub waiting-held : (given : Given) (h : List Event) (p : ℕ) → is_held h p ≡ true
    → waiting_of given h p ≡ map (λ r. record
    { ready_at = ready_of h p r.offset; part = p; offset = r.offset })
    (filter (is_waiting given h p) (polled_records given h p))
unfolding waiting_of
waiting-held given h p held = rw held refl

-- ---- the retries of all parts

pub AreWaiting-along : (given : Given) (h k : List Event) (retries : List Retry)
    → ((p : ℕ) → waiting_of given k p ≡ waiting_of given h p) → AreWaiting given h retries
    → AreWaiting given k retries
AreWaiting-along given h k retries same waiting = record {
  sound = λ w i. subst (λ (ws : List Retry). In w ws) (sym (same w.part)) (waiting.sound w i);
  whole = λ w i. waiting.whole w (subst (λ (ws : List Retry). In w ws) (same w.part) i);
  once = waiting.once;
}
