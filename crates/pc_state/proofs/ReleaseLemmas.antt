-- What is known after an event that ends epochs: of the parts whose epoch is over nothing but that,
-- of the others the same, and the same jobs are out.
use Rattle.std.proofs.Common.{◌≡◌, ℕ, ◌+◌, ◌≤◌, ◌<◌, true, false, not, ◌==◌, List, [], ◌∷◌, length, set, Option, None, refl, sym, ap, subst, ◌∙◌, arith, inl, inr, eq-eqb, get_or, length-set}
use Rattle.std.specs.Prelude.{filter, is_some, option_map, slice_get}
use Rattle.std.specs.List.Sorted.{IsPermutation}
use Rattle.std.proofs.lemmas.Bool.{cases_Bool, eqb-true}
use Rattle.std.proofs.lemmas.List.Sorted.{IsPermutation-sym}
use Rattle.pc_model.specs.declared.event.Event.{Event}
use Rattle.pc_model.specs.declared.event.Event.TheVariants.{Crash, Lost, Revoke}
use Rattle.pc_model.specs.Given.{Given}
use Rattle.pc_model.specs.Jobs.{Job, jobs_of, open_jobs}
use Rattle.pc_model.specs.Epochs.{epoch_of, is_held}
use Rattle.pc_model.specs.OneMore.{SamePart}
use Rattle.pc_model.specs.Retry.{now_of}
use Rattle.pc_model.proofs.EpochLaws.{epoch_of-lost, epoch_of-revoke, is_held-lost, is_held-revoke}
use Rattle.pc_model.proofs.SamePart.{other_part}
use Rattle.pc_laws.specs.Lists.{In}
use Rattle.pc_laws.proofs.Lists.{In-filter, In-filtered, not-true, true-not-false}
use Rattle.pc_retry.specs.declared.queue.Retry.{Retry}
use Rattle.pc_shards.specs.Entries.{of_part}
use Rattle.pc_state.specs.declared.part.HeldPart.{HeldPart}
use Rattle.pc_state.specs.declared.part.PartState.{PartState}
use Rattle.pc_state.specs.declared.state.State.{State}
use Rattle.pc_retry.specs.Waiting.{room_of}
use Rattle.pc_state.proofs.OutLemmas.{out-along}
use Rattle.pc_state.specs.Ledger.{Counts}
use Rattle.pc_state.specs.State.{AreReleased, AreWaiting, Knows, KnowsPart, MayCome, PartKeeps, entries_of, same_place, waiting_of}
use Rattle.pc_state.proofs.OpenJobsLemmas.{AreOpen-along}
use Rattle.pc_laws.proofs.HeldLaw.{held-has_log, log-below}
use Rattle.pc_state.proofs.PartEvents.{epoch_of-le}
use Rattle.std.specs.List.{IsDistinct}
use Rattle.std.proofs.lemmas.Map.Keys.{IsDistinct-IsPermutation}
use Rattle.pc_state.proofs.RetryLemmas.{In-permuted, distinct-filter, distinct-none, same_place-flips}
use Rattle.pc_state.proofs.StateLemmas.{each-set, entries-free, entries-same, is_out-same, waiting-free, waiting-same}

-- what is kept of a part that is not held
keeps-free : (given : Given) (h : List Event) (p : ℕ) (part : PartState) → part.epoch ≡ epoch_of h p
    → part.held ≡ None → is_held h p ≡ false → PartKeeps given h p part
keeps-free given h p part epoch none free = record {
  epoch = epoch;
  held = ap is_some none ∙ sym free;
  knows = subst (λ (o : Option HeldPart). KnowsPart given h p o) (sym none) tt;
}

flip : (p q : ℕ) → (q == p) ≡ false → (p == q) ≡ false
flip p q apart = elim (cases_Bool (p == q)) [
  | inl same ↦ true-not-false (q == p) (eq-eqb q p (sym (eqb-true p q same))) apart
  | inr other ↦ other
]

fits : (n m r s : ℕ) → n ≡ m → m ≤ r → r ≤ s → n ≤ s
fits n m r s same le more = omega (arith, same, le, more)

-- ---- one part is given back

-- a state of which the entries of one part go
pub record Releases (old new : State) (p : ℕ) (part : PartState) : Type 0 where
  pub setup : new.setup.now ≡ old.setup.now
  pub logs : new.logs.now ≡ old.logs.now
  pub items : new.parts.items ≡ set old.parts.items p part
  pub order : new.shards.order ≡ old.shards.order
  pub dropped : of_part new.shards p ≡ []
  pub others : (q : ℕ) → (q == p) ≡ false → of_part new.shards q ≡ of_part old.shards q
  pub retries : IsPermutation (filter (λ w. not (w.part == p)) old.retries.retries) new.retries.retries
  pub room : old.retries.room ≤ new.retries.room
  pub rooms : (q : ℕ) → (q == p) ≡ false → room_of new.retries q ≡ room_of old.retries q
  pub jobs : new.jobs ≡ old.jobs
  pub clock : new.clock ≡ old.clock
  pub dispatched : new.dispatched ≡ old.dispatched
  pub last : new.last ≡ old.last

module _ (given : Given) (h : List Event) (v : Event) (old new : State) (p : ℕ) (part : PartState)
    (knows : Knows given h old) (releases : Releases old new p part) (below : p < length given.logs)
    (over : part.epoch ≡ epoch_of h p + 1) (none : part.held ≡ None) (may : MayCome given v h)
    (epoch : epoch_of (v ∷ h) p ≡ epoch_of h p + 1) (free : is_held (v ∷ h) p ≡ false)
    (others : (q : ℕ) → (p == q) ≡ false → SamePart given q h (v ∷ h))
    (jobs : jobs_of (v ∷ h) ≡ jobs_of h) (same_open : open_jobs (v ∷ h) ≡ open_jobs h)
    (now : now_of (v ∷ h) ≡ now_of h) (counts : Counts given (v ∷ h) new.ledger) where
  entries : (q : ℕ) → of_part new.shards q ≡ entries_of given (v ∷ h) q
  entries q = elim (cases_Bool (q == p)) [
    | inl same ↦ subst (λ (u : ℕ). of_part new.shards u ≡ entries_of given (v ∷ h) u)
        (sym (eqb-true q p same)) (releases.dropped ∙ sym (entries-free given (v ∷ h) p free))
    | inr apart ↦ let other = others q (flip p q apart) in
        releases.others q apart ∙ knows.entries q
        ∙ sym (entries-same given h (v ∷ h) q other now
        (λ held o. is_out-same h (v ∷ h) q o same_open other.epoch))
  ]

  waiting-other : (q : ℕ) → (q == p) ≡ false → waiting_of given (v ∷ h) q ≡ waiting_of given h q
  waiting-other q apart = let other = others q (flip p q apart) in
      waiting-same given h (v ∷ h) q other now
      (λ held o. is_out-same h (v ∷ h) q o same_open other.epoch)

  waiting-none : (w : Retry) → In w (waiting_of given (v ∷ h) w.part) → (w.part == p) ≡ false
  waiting-none w i = elim (cases_Bool (w.part == p)) [
    | inl same ↦ absurd (subst (λ (ws : List Retry). In w ws)
        (ap (waiting_of given (v ∷ h)) (eqb-true w.part p same) ∙ waiting-free given (v ∷ h) p free) i)
    | inr apart ↦ apart
  ]

  waiting : AreWaiting given (v ∷ h) new.retries.retries
  waiting = record {
    sound = λ w i.
        let kept = In-filtered (λ (x : Retry). not (x.part == p)) w old.retries.retries
        (In-permuted _ _ w (IsPermutation-sym _ _ releases.retries) i) in
        subst (λ (ws : List Retry). In w ws) (sym (waiting-other w.part (not-true _ kept.1)))
        (knows.waiting.sound w kept.0);
    whole = λ w i.
        let apart = waiting-none w i in
        In-permuted _ _ w releases.retries (In-filter (λ (x : Retry). not (x.part == p)) w
        old.retries.retries (knows.waiting.whole w
        (subst (λ (ws : List Retry). In w ws) (waiting-other w.part apart) i)) (ap not apart));
    once = IsDistinct-IsPermutation same_place same_place-flips _ _ releases.retries
        (distinct-filter (λ (x : Retry). not (x.part == p)) old.retries.retries knows.waiting.once);
  }

  knows-released : Knows given (v ∷ h) new
  knows-released = record {
    setup = knows.setup ∙ sym releases.setup;
    logs = knows.logs ∙ sym releases.logs;
    legal = may.legal;
    limit = may.limit;
    count = ap length releases.items ∙ length-set {A = PartState} old.parts.items p part
        ∙ knows.count;
    few = knows.few;
    few_records = knows.few_records;
    each = λ q d within. subst (λ (xs : List PartState). PartKeeps given (v ∷ h) q (get_or xs q d))
        (sym releases.items)
        (each-set given h (v ∷ h) old.parts.items p part (omega (arith, below, knows.count))
        (keeps-free given (v ∷ h) p part (over ∙ sym epoch) none free) others
        (λ u e less. knows.each u e (omega (arith, less, knows.count))) q d
        (omega (arith, within, knows.count)));
    order = releases.order ∙ knows.order;
    entries = entries;
    waiting = waiting;
    places = fits (length (open_jobs (v ∷ h))) (length (open_jobs h)) old.retries.room
        new.retries.room (ap length same_open) knows.places releases.room;
    part_places = λ q held. elim (cases_Bool (q == p)) [
      | inl same ↦ true-not-false (is_held (v ∷ h) q) held
          (ap (is_held (v ∷ h)) (eqb-true q p same) ∙ free)
      | inr apart ↦ let other = others q (flip p q apart) in
          rw (out-along h (v ∷ h) q same_open other.epoch, releases.rooms q apart)
          (knows.part_places q (sym other.held ∙ held))
    ];
    clock = releases.clock ∙ knows.clock ∙ sym now;
    jobs = rw releases.jobs (AreOpen-along h (v ∷ h) old.jobs same_open knows.jobs);
    dispatched = releases.dispatched ∙ knows.dispatched ∙ ap length (sym jobs);
    last = releases.last ∙ knows.last
        ∙ ap (λ (js : List Job). option_map (λ j. j.part) (slice_get js 0)) (sym jobs);
    ledger = counts;
  }

module _ (given : Given) (h : List Event) (old new : State) (p : ℕ) (part : PartState)
    (knows : Knows given h old) (releases : Releases old new p part) (held : is_held h p ≡ true)
    (over : part.epoch ≡ epoch_of h p + 1) (none : part.held ≡ None) where
  below : p < length given.logs
  below = log-below given.logs p (held-has_log given h p knows.legal held)

  pub knows-lost : MayCome given (Lost p (epoch_of h p)) h
      → Counts given (Lost p (epoch_of h p) ∷ h) new.ledger
      → Knows given (Lost p (epoch_of h p) ∷ h) new
  knows-lost may counts = knows-released given h (Lost p (epoch_of h p)) old new p part knows releases
      below over none may (epoch_of-lost h p (epoch_of h p)) (is_held-lost h p (epoch_of h p))
      (λ q apart. other_part given q (Lost p (epoch_of h p)) h apart) refl refl refl counts

  pub knows-revoked : MayCome given (Revoke p (epoch_of h p)) h
      → Counts given (Revoke p (epoch_of h p) ∷ h) new.ledger
      → Knows given (Revoke p (epoch_of h p) ∷ h) new
  knows-revoked may counts = knows-released given h (Revoke p (epoch_of h p)) old new p part knows releases
      below over none may (epoch_of-revoke h p (epoch_of h p)) (is_held-revoke h p (epoch_of h p))
      (λ q apart. other_part given q (Revoke p (epoch_of h p)) h apart) refl refl refl counts

-- ---- a crash

-- each epoch is small
pub epochs-small : (given : Given) (h : List Event) (s : State) → Knows given h s → (p : ℕ)
    (d : PartState) → p < length s.parts.items → (get_or s.parts.items p d).epoch < 4000001
epochs-small given h s knows p d within =
    let epoch = (knows.each p d (omega (arith, within, knows.count))).epoch in
    let small = epoch_of-le h p in omega (arith, epoch, small, knows.limit)

-- a state of which no part is held
pub record Crashes (old new : State) : Type 0 where
  pub setup : new.setup.now ≡ old.setup.now
  pub logs : new.logs.now ≡ old.logs.now
  pub parts : AreReleased old.parts.items new.parts.items
  pub order : new.shards.order ≡ old.shards.order
  pub empty : (p : ℕ) → of_part new.shards p ≡ []
  pub retries : new.retries.retries ≡ []
  pub room : old.retries.room ≤ new.retries.room
  pub jobs : new.jobs ≡ old.jobs
  pub clock : new.clock ≡ old.clock
  pub dispatched : new.dispatched ≡ old.dispatched
  pub last : new.last ≡ old.last

pub knows-crashed : (given : Given) (h : List Event) (old new : State) → Knows given h old
    → Crashes old new → MayCome given Crash h → Counts given (Crash ∷ h) new.ledger
    → Knows given (Crash ∷ h) new
knows-crashed given h old new knows crashes may counts = record {
  setup = knows.setup ∙ sym crashes.setup;
  logs = knows.logs ∙ sym crashes.logs;
  legal = may.legal;
  limit = may.limit;
  count = crashes.parts.count ∙ knows.count;
  few = knows.few;
  few_records = knows.few_records;
  each = λ q d within.
      let is = crashes.parts.each q d (omega (arith, within, knows.count)) in
      keeps-free given (Crash ∷ h) q (get_or new.parts.items q d)
      (ap (λ (x : PartState). x.epoch) is ∙ ap (λ (n : ℕ). n + 1) (knows.each q d within).epoch)
      (ap (λ (x : PartState). x.held) is) refl;
  order = crashes.order ∙ knows.order;
  entries = λ q. crashes.empty q ∙ sym (entries-free given (Crash ∷ h) q refl);
  waiting = record {
    sound = λ w i. absurd (subst (λ (ws : List Retry). In w ws) crashes.retries i);
    whole = λ w i. absurd (subst (λ (ws : List Retry). In w ws)
        (waiting-free given (Crash ∷ h) w.part refl) i);
    once = subst (λ (ws : List Retry). IsDistinct same_place ws) (sym crashes.retries) distinct-none;
  };
  places = fits (length (open_jobs (Crash ∷ h))) (length (open_jobs h)) old.retries.room
      new.retries.room refl knows.places crashes.room;
  part_places = λ q held. let out : false ≡ true = held in cc out;
  clock = crashes.clock ∙ knows.clock;
  jobs = rw crashes.jobs (AreOpen-along h (Crash ∷ h) old.jobs refl knows.jobs);
  dispatched = crashes.dispatched ∙ knows.dispatched;
  last = crashes.last ∙ knows.last;
  ledger = counts;
}
