-- What is kept of a history after a poll.
use Rattle.std.proofs.Common.{◌≡◌, ℕ, ◌+◌, ◌<◌, ◌≤◌, Bool, true, false, not, ◌&&◌, ◌==◌, cond, List, [], ◌∷◌, ◌++◌, map, take, drop, length, set, Some, refl, sym, ap, subst, ◌∙◌, arith, inl, inr, eq-eqb, get_or, length-set}
use Rattle.std.specs.Prelude.{◌^◌, filter, nat_le, nat_lt}
use Rattle.std.specs.List.{All, list_any}
use Rattle.std.proofs.lemmas.Bool.{cases_Bool, eqb-true, le-leb, lt-ltb}
use Rattle.std.proofs.lemmas.List.{append-nil, length-append, length-map, map-append}
use Rattle.pc_shards.proofs.EntriesLemmas.{length-filter-le}
use Rattle.pc_model.specs.declared.event.Event.{Event}
use Rattle.pc_model.specs.declared.event.Event.TheVariants.{Poll}
use Rattle.pc_model.specs.Record.{Record}
use Rattle.pc_model.specs.Marks.{Mark, incomplete_offsets}
use Rattle.pc_model.specs.Given.{Given, records_of}
use Rattle.pc_model.specs.Jobs.{Job, open_jobs}
use Rattle.pc_model.specs.Epochs.{epoch_of, is_current, is_held}
use Rattle.pc_model.specs.Known.{begin_of, is_complete, is_job_at, known_records, marks_of, polled_count, polled_records, records_from_begin, unpolled_records}
use Rattle.pc_model.specs.Lawful.{IsLegal}
use Rattle.pc_model.proofs.KnownLaws.{polled_records-poll, unpolled_records-poll}
use Rattle.pc_model.proofs.SamePart.{other_part}
use Rattle.pc_model.proofs.SetupLaws.{setup-within}
use Rattle.pc_model.specs.Retry.{failures_of, now_of, ready_of}
use Rattle.pc_laws.specs.Lists.{In}
use Rattle.pc_laws.proofs.Lists.{In-filtered, In-list_any, In-mapped, and-left, and-right, true-not-false}
use Rattle.pc_laws.proofs.Rising.{take-In}
use Rattle.pc_laws.proofs.Blocked.{drop-above}
use Rattle.pc_laws.proofs.PositionLaw.{from_begin-rises}
use Rattle.pc_laws.proofs.KeptLaw.{is_kept}
use Rattle.pc_laws.proofs.FailedLaw.{unpolled-unfailed}
use Rattle.pc_partition.specs.Window.{AreNext, RisesFrom, StandsFor, Window, open_polled, with_polled}
use Rattle.pc_shards.specs.Entries.{ChangesNothing, ChangesOnly, Entries, Entry, of_part}
use Rattle.pc_shards.specs.OpenEntries.{entry_of, open_entries}
use Rattle.pc_state.specs.declared.part.HeldPart.{HeldPart}
use Rattle.pc_state.specs.declared.part.PartState.{PartState}
use Rattle.pc_state.specs.declared.state.State.{State}
use Rattle.pc_state.specs.Polls.{AreNextRecords, IsPolled, is_open_in, new_entries}
use Rattle.pc_state.proofs.LedgerLemmas.{counts-poll}
use Rattle.pc_state.proofs.OutLemmas.{out-along}
use Rattle.pc_state.specs.State.{Knows, KnowsHeld, MayCome, PartKeeps, entries_of, is_early, is_kept_back, is_out, is_spent, is_waiting, waiting_of}
use Rattle.pc_state.proofs.OpenJobsLemmas.{AreOpen-along}
use Rattle.pc_laws.proofs.HeldLaw.{held-has_log, log-below}
use Rattle.pc_state.proofs.PollLemmas.{next_offsets, poll-within, window-next, window-open, window-poll, window-rises}
use Rattle.pc_state.proofs.QueryLemmas.{In-All}
use Rattle.pc_state.proofs.StateLemmas.{AreWaiting-along, each-set, entries-held, entries-same, is_out-same, waiting-held, waiting-same}

-- ---- the records that a poll takes

-- no job is out at a record that was not polled
unpolled-not_out : (given : Given) (h : List Event) (p : ℕ) → IsLegal given h
    → is_held h p ≡ true → (r : Record) → In r (unpolled_records given h p)
    → is_out h p r.offset ≡ false
unfolding is_out polled_records unpolled_records
unpolled-not_out given h p legal held r i = elim
    (cases_Bool (list_any (λ j. is_job_at (Some j) p (epoch_of h p) r.offset) (open_jobs h))) [
      | inr no_job ↦ no_job
      | inl some ↦
          let job = In-list_any (λ (j : Job). is_job_at (Some j) p (epoch_of h p) r.offset) (open_jobs h) some in
          let j = job.0 in
          let part : j.part ≡ p = eqb-true j.part p (and-left (j.part == p) (j.epoch == epoch_of h p)
          (and-left ((j.part == p) && (j.epoch == epoch_of h p)) (j.offset == r.offset) job.2)) in
          let epoch : (j.epoch == epoch_of h p) ≡ true = and-right (j.part == p) (j.epoch == epoch_of h p)
          (and-left ((j.part == p) && (j.epoch == epoch_of h p)) (j.offset == r.offset) job.2) in
          let at : j.offset ≡ r.offset = eqb-true j.offset r.offset
          (and-right ((j.part == p) && (j.epoch == epoch_of h p)) (j.offset == r.offset) job.2) in
          let current : is_current h j ≡ true = rw (part, held, epoch) refl in
          let polled = ((is_kept given h legal).jobs.working j job.1 current).polled in
          let s = polled.0 in
          let s_in : In s (polled_records given h p) = subst (λ (u : ℕ). In s (polled_records given h u)) part polled.1 in
          let is : s.offset ≡ r.offset = polled.2 ∙ at in
          let below : s.offset < r.offset = drop-above (polled_count h p) 0
          (records_from_begin given h p) (from_begin-rises given h legal p) s r s_in i in
          absurd (omega (arith, below, is))
    ]

-- two ways to keep and to map records that agree on these
filter-map-In : (f g : Record → Bool) (e k : Record → Entry) (rs : List Record)
    → ((r : Record) → In r rs → (f r ≡ g r) × (e r ≡ k r)) → map e (filter f rs) ≡ map k (filter g rs)
filter-map-In f g e k [] same = refl
filter-map-In f g e k (r ∷ rs) same =
    let one = same r (inl refl) in
    rw (one.0) (cases (g r) (filter-map-In f g e k rs (λ s i. same s (inr i))) one.1)
  where
    cases : (b : Bool) → map e (filter f rs) ≡ map k (filter g rs) → e r ≡ k r
        → map e (cond b (r ∷ filter f rs) (filter f rs)) ≡ map k (cond b (r ∷ filter g rs) (filter g rs))
    cases true rest first = ap (λ x. x ∷ map e (filter f rs)) first ∙ ap (λ xs. k r ∷ xs) rest
    cases false rest first = rest

pub filter-append : (f : Record → Bool) (xs ys : List Record) → filter f (xs ++ ys) ≡ filter f xs ++ filter f ys
filter-append f [] ys = refl
filter-append f (x ∷ xs) ys = elim (f x) as (λ b. cond b (x ∷ filter f (xs ++ ys)) (filter f (xs ++ ys))
    ≡ cond b (x ∷ filter f xs) (filter f xs) ++ filter f ys) [
      | true ↦ ap (λ zs. x ∷ zs) (filter-append f xs ys)
      | false ↦ filter-append f xs ys
    ]

-- the entry of a record that was just polled
abbrev fresh : Record → Entry
fresh r = record { «record» = r; failures = 0; is_busy = false }

-- ---- the entries after a poll

module _ (given : Given) (h : List Event) (p count last : ℕ) (legal : IsLegal given h)
    (held : is_held h p ≡ true) (w : Window)
    (stands : StandsFor w (begin_of h p) (polled_count h p) (marks_of given h p)) where
  abbrev next : List Record
  next = take count (unpolled_records given h p)

  busy : Record → Bool
  busy r = is_kept_back given h p r.offset

  failed : Record → ℕ
  failed r = failures_of h p r.offset

  next-unspent : (r : Record) → In r next → is_spent given h p r.offset ≡ false
  unfolding is_spent
  next-unspent r i =
      let none = (unpolled-unfailed given h legal p held r (take-In count r (unpolled_records given h p) i)).failures in
      let some : 0 < given.setup.settings.give_up =
      one-more given.setup.settings.give_up (setup-within given.setup).give_up.least in
      ap (λ (n : ℕ). not (nat_lt n given.setup.settings.give_up)) none
      ∙ ap not (lt-ltb 0 given.setup.settings.give_up some)
    where
      one-more : (n : ℕ) → 1 ≤ n → 0 < n
      one-more n le = omega (arith, le)

  next-due : (r : Record) → In r next → is_early h p r.offset ≡ false
  unfolding is_early
  next-due r i =
      let none = (unpolled-unfailed given h legal p held r (take-In count r (unpolled_records given h p) i)).ready in
      rw none (ap not (le-leb 0 (now_of h) (omega arith)))

  next-free : (r : Record) → In r next → is_kept_back given h p r.offset ≡ false
  unfolding is_kept_back
  next-free r i = rw (
    unpolled-not_out given h p legal held r (take-In count r (unpolled_records given h p) i),
    next-unspent r i,
    next-due r i,
  ) refl

  next-open : map (λ r. fresh r) (filter (λ r. is_open_in w r.offset) next)
      ≡ map (entry_of (λ r. is_kept_back given h p r.offset) (λ r. failures_of h p r.offset))
      (filter (λ r. not (is_complete h p r.offset)) next)
  next-open = filter-map-In (λ (r : Record). is_open_in w r.offset)
      (λ (r : Record). not (is_complete h p r.offset)) (λ (r : Record). fresh r)
      (entry_of (λ r. is_kept_back given h p r.offset) (λ r. failures_of h p r.offset)) next (λ r i.
      let left = take-In count r (unpolled_records given h p) i in (
        not-not (is_open_in w r.offset) (is_complete h p r.offset)
            (window-open given h legal p w stands held r left),
        ap (λ (b : Bool). record { «record» = r; failures = 0; is_busy = b }) (sym (next-free r i))
            ∙ ap (λ (n : ℕ). record { «record» = r; failures = n; is_busy = is_kept_back given h p r.offset })
            (sym (unpolled-unfailed given h legal p held r left).failures),
      ))
    where
      not-not : (a b : Bool) → b ≡ not a → a ≡ not b
      not-not true b is = rw is refl
      not-not false b is = rw is refl

  entries-poll : (records : List Record) → records ≡ next
      → entries_of given h p ++ new_entries (filter (λ r. is_open_in w r.offset) records)
      ≡ entries_of given (Poll p count last ∷ h) p
  unfolding entries_of is_kept_back is_spent is_early is_out is_complete
  entries-poll records are =
      let old = entries-held given h p held in
      let new = entries-held given (Poll p count last ∷ h) p held in
      ap (λ (es : List Entry). es ++ new_entries (filter (λ r. is_open_in w r.offset) records)) old
      ∙ ap (λ (es : List Entry). open_entries given h p (λ r. is_kept_back given h p r.offset)
      (λ r. failures_of h p r.offset) ++ es)
      (ap (λ (rs : List Record). new_entries (filter (λ r. is_open_in w r.offset) rs)) are ∙ next-open)
      ∙ sym (
      ap (λ (rs : List Record). map (entry_of (λ r. is_kept_back given h p r.offset)
      (λ r. failures_of h p r.offset)) rs)
      (ap (λ (rs : List Record). filter (λ r. not (is_complete h p r.offset)) rs)
      (polled_records-poll given h p count last)
      ∙ filter-append (λ r. not (is_complete h p r.offset)) (polled_records given h p) next)
      ∙ map-append (entry_of (λ r. is_kept_back given h p r.offset) (λ r. failures_of h p r.offset))
      (filter (λ r. not (is_complete h p r.offset)) (polled_records given h p))
      (filter (λ r. not (is_complete h p r.offset)) next))
      ∙ sym new

  filter-none : (f : Record → Bool) (rs : List Record) → ((r : Record) → In r rs → f r ≡ false)
      → filter f rs ≡ []
  filter-none f [] none = refl
  filter-none f (r ∷ rs) none = rw (none r (inl refl)) (filter-none f rs (λ s i. none s (inr i)))

  next-waits : (r : Record) → In r next → is_waiting given h p r ≡ false
  unfolding is_waiting
  next-waits r i = rw (next-due r i) (none (is_complete h p r.offset) (is_out h p r.offset)
      (is_spent given h p r.offset))
    where
      none : (a b c : Bool) → (not a && (not b && (not c && false))) ≡ false
      none true b c = refl
      none false true c = refl
      none false false true = refl
      none false false false = refl

  waiting-poll : waiting_of given (Poll p count last ∷ h) p ≡ waiting_of given h p
  unfolding is_waiting is_spent is_early is_out is_complete
  waiting-poll = waiting-held given (Poll p count last ∷ h) p held
      ∙ ap (λ (rs : List Record). map (λ r. record
      { ready_at = ready_of h p r.offset; part = p; offset = r.offset }) rs)
      (ap (λ (rs : List Record). filter (is_waiting given h p) rs)
      (polled_records-poll given h p count last)
      ∙ filter-append (is_waiting given h p) (polled_records given h p) next
      ∙ ap (λ (rs : List Record). filter (is_waiting given h p) (polled_records given h p) ++ rs)
      (filter-none (is_waiting given h p) next next-waits)
      ∙ append-nil (filter (is_waiting given h p) (polled_records given h p)))
      ∙ sym (waiting-held given h p held)

-- ---- a poll

-- no part knows more records than its log has
known-few : (given : Given) (h : List Event) (p : ℕ) → IsLegal given h
    → length (marks_of given h p) ≤ length (records_of given p)
unfolding marks_of
known-few given h p legal =
    let front = (is_kept given h legal).known p in
    omega (
      arith,
      length-map {B = Mark} (known_records given h p) (λ r. record { offset = r.offset; is_complete = is_complete h p r.offset }),
      ap length front.whole,
      length-append (known_records given h p) front.rest,
      length-filter-le (λ r. nat_le (begin_of h p) r.offset) (records_of given p),
    )

incomplete-few : (marks : List Mark) → length (incomplete_offsets marks) ≤ length marks
incomplete-few marks = omega (
  arith,
  length-map (filter (λ (m : Mark). not m.is_complete) marks) (λ m. m.offset),
  length-filter-le (λ (m : Mark). not m.is_complete) marks,
)

-- the offsets of the records are the next ones of the part
next-is : (given : Given) (h : List Event) (p : ℕ) (records : List Record)
    → AreNextRecords given h p records
    → map (λ r. r.offset) records ≡ next_offsets given h p (length records)
next-is given h p records are = ap (λ (rs : List Record). map (λ r. r.offset) rs) are

-- a record that is to be polled was not polled
In-next : (given : Given) (h : List Event) (p : ℕ) (records : List Record)
    → AreNextRecords given h p records → (r : Record) → In r records
    → (u : Record) × In u (drop (polled_count h p) (records_from_begin given h p)) × (u.offset ≡ r.offset)
unfolding unpolled_records
In-next given h p records are r i =
    let next : In r (take (length records) (unpolled_records given h p)) =
    subst (λ (rs : List Record). In r rs) are i in
    (r, take-In (length records) r (unpolled_records given h p) next, refl)

-- an entry is of a polled record
entry-polled : (given : Given) (h : List Event) (p : ℕ) → is_held h p ≡ true → (e : Entry)
    → In e (entries_of given h p)
    → (s : Record) × In s (take (polled_count h p) (records_from_begin given h p)) × (s.offset ≡ e.record.offset)
unfolding polled_records
entry-polled given h p held e i =
    let from = In-mapped (entry_of (λ r. is_kept_back given h p r.offset) (λ r. failures_of h p r.offset)) e
    (filter (λ r. not (is_complete h p r.offset)) (polled_records given h p))
    (subst (λ (es : List Entry). In e es) (entries-held given h p held) i) in (
      from.0,
      (In-filtered (λ (r : Record). not (is_complete h p r.offset)) from.0 (polled_records given h p) from.1).0,
      ap (λ (x : Entry). x.record.offset) from.2,
    )

flip : (p q : ℕ) → (q == p) ≡ false → (p == q) ≡ false
flip p q apart = elim (cases_Bool (p == q)) [
  | inl same ↦ true-not-false (q == p) (eq-eqb q p (sym (eqb-true p q same))) apart
  | inr other ↦ other
]

module _ (given : Given) (h : List Event) (old : State) (p last : ℕ)
    (records : List Record) (knows : Knows given h old)
    (held : is_held h p ≡ true) (are : AreNextRecords given h p records) (part : HeldPart)
    (known : KnowsHeld given h p part) where
  -- what the state of the part wants to know
  pub poll-rises : RisesFrom part.window.window.polled_to (map (λ r. r.offset) records)
  poll-rises = rw (next-is given h p records are)
      (window-rises given h knows.legal p part.window.window known.stands (length records))

  poll-are : AreNext (polled_count h p) (marks_of given h p) (map (λ r. r.offset) records)
  poll-are = rw (next-is given h p records are)
      (window-next given h knows.legal p part.window.window known.stands (length records))

  pub poll-next : (begin n : ℕ) × (marks : List Mark) × StandsFor part.window.window begin n marks
      × AreNext n marks (map (λ r. r.offset) records)
  poll-next = (
    begin_of h p,
    polled_count h p,
    marks_of given h p,
    known.stands,
    poll-are,
  )

  pub poll-few : length records ≤ 1000000
      → open_polled part.window.window + length records < 2 ^ 32
  poll-few few =
      let marks = known-few given h p knows.legal in
      let all = knows.few_records p in
      omega (
        arith,
        few,
        length-filter-le (λ o. nat_lt o part.window.window.polled_to) part.window.window.incomplete,
        ap length known.stands.incomplete,
        incomplete-few (marks_of given h p),
        marks,
        all,
      )

  pub poll-above : All (λ r. All (λ (e : Entry). e.record.offset < r.offset) (of_part old.shards p)) records
  poll-above = In-All (λ (r : Record). All (λ (e : Entry). e.record.offset < r.offset) (of_part old.shards p)) records
      (λ r i. In-All (λ (e : Entry). e.record.offset < r.offset) (of_part old.shards p) (λ e k.
      let next = In-next given h p records are r i in
      let entry : In e (entries_of given h p) = subst (λ (es : List Entry). In e es) (knows.entries p) k in
      let polled = entry-polled given h p held e entry in
      let less = drop-above (polled_count h p) 0 (records_from_begin given h p)
      (from_begin-rises given h knows.legal p) polled.0 next.0 polled.1 next.1 in
      omega (arith, less, polled.2, next.2)))

  module _ (may : MayCome given (Poll p (length records) last) h) where
    le : length records ≤ length (unpolled_records given h p)
    le = poll-within given h p (length records) last may.legal.0

    pub polled-part : (new : HeldPart) → IsPolled (map (λ r. r.offset) records) part new
        → KnowsHeld given (Poll p (length records) last ∷ h) p new
    polled-part new polled = record {
      stands = window-poll given h knows.legal p part.window.window known.stands held (length records) last
          new.window.window le
          (subst (λ (os : List ℕ). StandsFor new.window.window (begin_of h p) (polled_count h p + length os)
          (with_polled (polled_count h p) (marks_of given h p) os)) (next-is given h p records are)
          (polled.window (begin_of h p) (polled_count h p) (marks_of given h p) known.stands poll-are));
      unpolled = unpolled_records-poll given h p (length records) last
          ∙ ap (drop (length records)) known.unpolled
          ∙ ap (λ (n : ℕ). drop n part.rest.left)
          (sym (length-map {B = ℕ} records (λ r. r.offset))) ∙ sym polled.rest;
      size = polled.size ∙ known.size;
    }

    -- the state after the poll, of which only the part and its entries changed
    pub knows-polled : (new : State) (epoch : ℕ) (polled : HeldPart) → epoch ≡ epoch_of h p
        → new.setup.now ≡ old.setup.now → new.logs.now ≡ old.logs.now
        → new.parts.items ≡ set old.parts.items p (record { epoch = epoch; held = Some polled })
        → of_part new.shards p ≡ of_part old.shards p
        ++ new_entries (filter (λ r. is_open_in part.window.window r.offset) records)
        → ChangesOnly p old.shards new.shards → new.retries ≡ old.retries → new.jobs ≡ old.jobs
        → new.clock ≡ old.clock → new.dispatched ≡ old.dispatched
        → new.last ≡ old.last → new.ledger ≡ old.ledger → IsPolled (map (λ r. r.offset) records) part polled
        → Knows given (Poll p (length records) last ∷ h) new
    knows-polled new epoch polled epoch_is setup logs items added others retries jobs now dispatched
        last_same ledger is =
        let below = log-below given.logs p (held-has_log given h p knows.legal held) in record {
          setup = knows.setup ∙ sym setup;
          logs = knows.logs ∙ sym logs;
          legal = may.legal;
          limit = may.limit;
          count = ap length items ∙ length-set {A = PartState} old.parts.items p _ ∙ knows.count;
          few = knows.few;
          few_records = knows.few_records;
          each = λ q d within. subst (λ (xs : List PartState). PartKeeps given
              (Poll p (length records) last ∷ h) q (get_or xs q d)) (sym items)
              (each-set given h (Poll p (length records) last ∷ h) old.parts.items p
              (record { epoch = epoch; held = Some polled }) (omega (arith, below, knows.count))
              (record { epoch = epoch_is; held = sym held; knows = polled-part polled is })
              (λ u apart. other_part given u (Poll p (length records) last) h apart)
              (λ u e less. knows.each u e (omega (arith, less, knows.count))) q d
              (omega (arith, within, knows.count)));
          order = others.order ∙ knows.order;
          entries = entries-of new added others;
          waiting = rw retries (AreWaiting-along given h (Poll p (length records) last ∷ h)
              old.retries.retries waiting-same-all knows.waiting);
          places = rw retries knows.places;
          part_places = λ q held_q. rw (
            retries,
            out-along h (Poll p (length records) last ∷ h) q refl refl,
          ) (knows.part_places q held_q);
          clock = now ∙ knows.clock;
          jobs = rw jobs (AreOpen-along h (Poll p (length records) last ∷ h) old.jobs refl knows.jobs);
          dispatched = dispatched ∙ knows.dispatched;
          last = last_same ∙ knows.last;
          ledger = rw ledger (counts-poll given h p (length records) last old.ledger knows.ledger);
        }
      where
        entries-of : (new : State) → of_part new.shards p ≡ of_part old.shards p
            ++ new_entries (filter (λ r. is_open_in part.window.window r.offset) records)
            → ChangesOnly p old.shards new.shards → (q : ℕ)
            → of_part new.shards q ≡ entries_of given (Poll p (length records) last ∷ h) q
        entries-of new added others q = elim (cases_Bool (q == p)) [
          | inl same ↦ subst (λ (u : ℕ). of_part new.shards u
              ≡ entries_of given (Poll p (length records) last ∷ h) u) (sym (eqb-true q p same))
              (added ∙ ap (λ (es : List Entry). es ++ new_entries (filter (λ r. is_open_in part.window.window r.offset) records))
              (knows.entries p)
              ∙ entries-poll given h p (length records) last knows.legal held part.window.window known.stands records are)
          | inr apart ↦
              let touched : (p == q) ≡ false = flip p q apart in
              let same = other_part given q (Poll p (length records) last) h touched in
              others.others q apart ∙ knows.entries q
              ∙ sym (entries-same given h (Poll p (length records) last ∷ h) q same refl
              (λ held_q o. is_out-same h (Poll p (length records) last ∷ h) q o refl same.epoch))
        ]

        waiting-same-all : (q : ℕ) → waiting_of given (Poll p (length records) last ∷ h) q
            ≡ waiting_of given h q
        waiting-same-all q = elim (cases_Bool (q == p)) [
          | inl same ↦ subst (λ (u : ℕ). waiting_of given (Poll p (length records) last ∷ h) u
              ≡ waiting_of given h u) (sym (eqb-true q p same))
              (waiting-poll given h p (length records) last knows.legal held part.window.window known.stands)
          | inr apart ↦
              let same = other_part given q (Poll p (length records) last) h (flip p q apart) in
              waiting-same given h (Poll p (length records) last ∷ h) q same refl
              (λ held_q o. is_out-same h (Poll p (length records) last ∷ h) q o refl same.epoch)
        ]

    -- the same where room was made before
    pub knows-taken : (mid : Entries) (new : State) (epoch count : ℕ) (polled : HeldPart)
        → ChangesNothing old.shards mid → count ≡ length records → epoch ≡ epoch_of h p
        → new.setup.now ≡ old.setup.now → new.logs.now ≡ old.logs.now
        → new.parts.items ≡ set old.parts.items p (record { epoch = epoch; held = Some polled })
        → of_part new.shards p ≡ of_part mid p
        ++ new_entries (filter (λ r. is_open_in part.window.window r.offset) records)
        → ChangesOnly p mid new.shards → new.retries ≡ old.retries → new.jobs ≡ old.jobs
        → new.clock ≡ old.clock → new.dispatched ≡ old.dispatched
        → new.last ≡ old.last → new.ledger ≡ old.ledger
        → IsPolled (map (λ r. r.offset) records) part polled
        → Knows given (Poll p count last ∷ h) new
    knows-taken mid new epoch count polled nothing many epoch_is setup logs items added others retries
        jobs now dispatched last_same ledger is = subst (λ (n : ℕ). Knows given (Poll p n last ∷ h) new) (sym many)
        (knows-polled new epoch polled epoch_is setup logs items
        (added ∙ ap (λ (es : List Entry). es
        ++ new_entries (filter (λ r. is_open_in part.window.window r.offset) records)) (nothing.each p))
        (record {
          order = others.order ∙ nothing.order;
          others = λ q apart. others.others q apart ∙ nothing.each q;
        })
        retries jobs now dispatched last_same ledger is)
