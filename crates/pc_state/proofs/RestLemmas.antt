-- Whether anything is left to do: of a part of which no job is out, an open record is left that is not
-- given up exactly where one may be dispatched or waits, and under pressure lies below the high.
use Rattle.std.proofs.Common.{◌≡◌, ◌⊎◌, ℕ, ◌-◌, ◌≤◌, ◌<◌, ◌^◌, min, Bool, true, false, not, ◌&&◌, ◌||◌, ◌==◌, List, [], ◌∷◌, map, length, Option, Some, None, refl, ap, sym, subst, ◌∙◌, arith, inl, inr, eq-eqb}
use Rattle.std.specs.Prelude.{filter, if◌then◌else◌, nat_le, nat_lt, unwrap_or}
use Rattle.std.specs.List.{list_all, list_any, range_with_len}
use Rattle.std.specs.Option.{option_map_or}
use Rattle.std.proofs.lemmas.Bool.{cases_Bool, cases_lt, eqb-true, le-leb, leb-true, lt-ltb, ltb-true}
use Rattle.pc_model.specs.declared.choices.Order.{Order}
use Rattle.pc_model.specs.declared.event.Event.{Event}
use Rattle.pc_model.specs.Record.{Record}
use Rattle.pc_model.specs.Numbers.{least_of}
use Rattle.pc_model.specs.Given.{Given, parts_of, records_of}
use Rattle.pc_model.specs.Jobs.{Job, open_jobs}
use Rattle.pc_model.specs.Epochs.{epoch_of, is_current, is_held}
use Rattle.pc_model.specs.Known.{high_of, is_complete, is_job_at, polled_records}
use Rattle.pc_model.specs.Lawful.{IsLegal, held_parts}
use Rattle.pc_model.specs.Next.{is_before, is_first, ordering_key, same_key}
use Rattle.pc_model.specs.Pressure.{is_blocked, is_upto_high}
use Rattle.pc_model.specs.Retry.{failures_of, ready_of}
use Rattle.pc_model.specs.Run.{is_at_rest, is_given_up, is_part_at_rest, is_spent as is_spent_record, open_records}
use Rattle.pc_laws.specs.Lists.{In}
use Rattle.pc_laws.proofs.HighLaw.{blocked_has_high}
use Rattle.pc_laws.proofs.Lists.{In-filter, In-filtered, In-list_any, In-map, In-mapped, and-left, and-right, list_all-In, list_all-each, list_any-In, not-false, not-true, or-cases, or-left, or-right, same_test, true-not-false}
use Rattle.pc_laws.proofs.OrderlyLaw.{polled-record}
use Rattle.pc_laws.proofs.Rising.{Rises-In, legal-rises}
use Rattle.pc_retry.specs.declared.queue.Retry.{Retry}
use Rattle.pc_retry.specs.Waiting.{offsets_of}
use Rattle.pc_shards.specs.Entries.{BusyAreFirst, Entry, least_ready_of, of_part, ready_offsets}
use Rattle.pc_shards.specs.OpenEntries.{entry_of, open_entries}
use Rattle.pc_shards.proofs.OpenEntriesLaws.{is_first-entry, ready_offsets-records}
use Rattle.pc_shards.proofs.ShardKeyLemmas.{same_key-is, same_key-refl, same_key-true}
use Rattle.pc_state.specs.declared.state.State.{State}
use Rattle.pc_state.specs.OpenJobs.{is_job_of, out_of}
use Rattle.pc_state.specs.Rest.{rests}
use Rattle.pc_state.specs.State.{Knows, is_early, is_kept_back, is_out, is_spent, waiting_of}
use Rattle.pc_state.proofs.NextTime.{spent-is}
use Rattle.pc_state.proofs.OpenLemmas.{open-polled, polled-open}
use Rattle.pc_state.proofs.OutLemmas.{filter-none, filter-some}
use Rattle.pc_laws.proofs.HeldLaw.{held-has_log, log-below}
use Rattle.pc_state.proofs.PartsLemmas.{parts-In}
use Rattle.pc_state.proofs.StateLemmas.{entries-held}
use Rattle.pc_state.proofs.WaitingLemmas.{In-waiting, true-waits, waiting-In, waits-true}

-- ---- tests of lists

or-none : (a b : Bool) → false ≡ b → a ≡ (a || b)
or-none true b none = refl
or-none false b none = none

pub or-second : (a b : Bool) → a ≡ false → b ≡ (a || b)
or-second true b none = cc
or-second false b none = refl

-- the least of some numbers is not above a bound exactly where one of them is not
min-upto : (x m last : ℕ) → nat_le (min x m) last ≡ (nat_le x last || nat_le m last)
min-upto x m last = elim (cases_lt x m) [
  | inl below ↦ ap (λ (n : ℕ). nat_le n last) (let at : min x m ≡ x = omega (arith, below) in at)
      ∙ one-or (λ le. let upto = leb-true m last le in le-leb x last (omega (arith, below, upto)))
  | inr above ↦ ap (λ (n : ℕ). nat_le n last) (let at : min x m ≡ m = omega (arith, above) in at)
      ∙ other-or (λ le. let upto = leb-true x last le in le-leb m last (omega (arith, above, upto)))
]
  where
    one-or : (nat_le m last ≡ true → nat_le x last ≡ true)
        → nat_le x last ≡ (nat_le x last || nat_le m last)
    one-or step = go (nat_le x last) (nat_le m last) step
      where
        go : (a b : Bool) → (b ≡ true → a ≡ true) → a ≡ (a || b)
        go true b step = refl
        go false true step = step refl
        go false false step = refl

    other-or : (nat_le x last ≡ true → nat_le m last ≡ true)
        → nat_le m last ≡ (nat_le x last || nat_le m last)
    other-or step = go (nat_le x last) (nat_le m last) step
      where
        go : (a b : Bool) → (a ≡ true → b ≡ true) → b ≡ (a || b)
        go true b step = step refl
        go false b step = refl

upto-any : (last : ℕ) (xs : List ℕ) → option_map_or (λ o. nat_le o last) (least_of xs) false
    ≡ list_any (λ o. nat_le o last) xs
upto-any last [] = refl
upto-any last (x ∷ xs) = step (least_of xs) (upto-any last xs)
  where
    step : (m : Option ℕ) → option_map_or (λ o. nat_le o last) m false
        ≡ list_any (λ o. nat_le o last) xs
        → nat_le (option_map_or (min x) m x) last
        ≡ (nat_le x last || list_any (λ o. nat_le o last) xs)
    step None rest = or-none (nat_le x last) _ rest
    step (Some m) rest = min-upto x m last ∙ ap (λ (b : Bool). nat_le x last || b) rest

-- not all pass exactly where one does not
not-all : (f : Record → Bool) (rs : List Record) → not (list_all f rs) ≡ list_any (λ r. not (f r)) rs
not-all f [] = refl
not-all f (r ∷ rs) = elim (cases_Bool (f r)) [
  | inl passes ↦ rw passes (not-all f rs)
  | inr fails ↦ rw fails refl
]

list_any-none : (f : Record → Bool) (rs : List Record) → ((r : Record) → In r rs → f r ≡ false)
    → list_any f rs ≡ false
list_any-none f [] each = refl
list_any-none f (r ∷ rs) each = rw (each r (inl refl))
    (list_any-none f rs (λ q i. each q (inr i)))

any-none : (f : Record → Bool) (r : Record) (rs : List Record) → list_any f rs ≡ false → In r rs
    → f r ≡ false
any-none f r rs none i = elim (cases_Bool (f r)) [
  | inr fails ↦ fails
  | inl passes ↦ true-not-false (list_any f rs) (list_any-In f r rs i passes) none
]

-- the least of some records
least-record : (r : Record) (rs : List Record) → In r rs
    → (s : Record) × In s rs × ((q : Record) → In q rs → s.offset ≤ q.offset)
least-record r [] i = absurd i
least-record r (x ∷ []) i = (
  x,
  inl refl,
  λ q j. elim j [
    | inl same ↦ let at = ap (λ (y : Record). y.offset) same in omega (arith, at)
    | inr none ↦ absurd none
  ],
)
least-record r (x ∷ y ∷ ys) i =
    let rest = least-record y (y ∷ ys) (inl refl) in
    elim (cases_lt rest.0.offset x.offset) [
      | inl below ↦ (
        rest.0,
        inr rest.1,
        λ q j. elim j [
          | inl same ↦ let at = ap (λ (z : Record). z.offset) same in omega (arith, at, below)
          | inr k ↦ rest.2 q k
        ],
      )
      | inr above ↦ (
        x,
        inl refl,
        λ q j. elim j [
          | inl same ↦ let at = ap (λ (z : Record). z.offset) same in omega (arith, at)
          | inr k ↦ let le = rest.2 q k in omega (arith, le, above)
        ],
      )
    ]

-- ---- a record that is left to do

module _ (given : Given) (h : List Event) (p : ℕ) (legal : IsLegal given h)
    (held : is_held h p ≡ true) where
  abbrev pub pressed_upto : ℕ
  pressed_upto = unwrap_or (if is_blocked given h p then high_of given h p else None) (2 ^ 64 - 1)

  abbrev is_pressed_at : ℕ → Bool
  is_pressed_at o = is_blocked given h p && not (is_upto_high given h p o)

  upto-free : (o : ℕ) → nat_le o pressed_upto ≡ true → is_pressed_at o ≡ false
  upto-free o le = elim (cases_Bool (is_blocked given h p)) [
    | inr free ↦ rw free refl
    | inl blocked ↦
        let high = blocked_has_high given h p legal held blocked in
        let upto : nat_le o high.0 ≡ true = rw (blocked, high.1) at le in
        rw (blocked, high.1, upto) refl
  ]

  free-upto : (o : ℕ) → o < 2 ^ 63 - 1 → is_pressed_at o ≡ false → nat_le o pressed_upto ≡ true
  free-upto o small unpressed = elim (cases_Bool (is_blocked given h p)) [
    | inr free ↦ rw free (le-leb o (2 ^ 64 - 1) (omega (arith, small)))
    | inl blocked ↦
        let high = blocked_has_high given h p legal held blocked in
        let upto : not (nat_le o high.0) ≡ false = rw (blocked, high.1) at unpressed in
        rw (blocked, high.1) (not-false _ upto)
  ]

  -- an open record that is the first of its key and has attempts left
  pub record IsToDo (r : Record) : Type 0 where
    pub is_open : In r (open_records given h p)
    pub unspent : is_spent_record given h p r ≡ false
    pub first : is_first given h p r ≡ true

  -- it is not given up, unless it lies above the high
  todo-left : (r : Record) → IsToDo r → nat_le r.offset pressed_upto ≡ true
      → is_given_up given h p r ≡ false
  unfolding is_given_up is_first
  todo-left r todo le = rw (
    todo.unspent,
    list_any-none (λ q. is_before given p q r && is_spent_record given h p q) (open_records given h p)
        (λ q i. let at = open-polled given h p q i in
        let test = list_all-In (λ x. not (is_before given p x r) || is_complete h p x.offset) q
        (polled_records given h p) todo.first at.0 in
        not-before (is_before given p q r) (is_complete h p q.offset) (is_spent_record given h p q)
        at.1 test),
    upto-free r.offset le,
  ) refl
    where
      not-before : (b c d : Bool) → c ≡ false → (not b || c) ≡ true → (b && d) ≡ false
      not-before true true d none test = cc
      not-before true false d none test = cc
      not-before false c d none test = refl

  -- where a record is not given up, the first of its key is to do
  left-todo : (r : Record) → In r (open_records given h p) → is_given_up given h p r ≡ false
      → (f : Record) × IsToDo f × (nat_le f.offset pressed_upto ≡ true)
  unfolding is_given_up is_first
  left-todo r i left =
      let order = given.setup.settings.order in
      let key : Record → Bool = λ q. same_key (ordering_key order p q) (ordering_key order p r) in
      let least = least-record r (filter key (open_records given h p))
      (In-filter key r (open_records given h p) i (same_key-refl (ordering_key order p r))) in
      let at = In-filtered key least.0 (open_records given h p) least.1 in
      let le = least.2 r (In-filter key r (open_records given h p) i
      (same_key-refl (ordering_key order p r))) in
      let parts = left-parts (is_spent_record given h p r) _ _ left in
      let polled = open-polled given h p least.0 at.0 in (
        least.0,
        record {
          is_open = at.0;
          unspent = elim (cases_lt least.0.offset r.offset) [
            | inl below ↦
                let none = any-none (λ q. is_before given p q r && is_spent_record given h p q) least.0
                (open_records given h p) parts.1 at.0 in
                let before : is_before given p least.0 r ≡ true =
                rw (lt-ltb least.0.offset r.offset below, at.1) refl in
                unspent-then (is_before given p least.0 r) (is_spent_record given h p least.0) before none
            | inr above ↦
                let same : least.0.offset ≡ r.offset = omega (arith, le, above) in
                ap (λ (o : ℕ). nat_le given.setup.settings.give_up (failures_of h p o)) same ∙ parts.0
          ];
          first = list_all-each
              (λ q. not (is_before given p q least.0) || is_complete h p q.offset) (polled_records given h p)
              (λ q j. elim (cases_Bool (is_complete h p q.offset)) [
                | inl done ↦ or-right (not (is_before given p q least.0)) (is_complete h p q.offset) done
                | inr waits ↦ or-left (not (is_before given p q least.0)) _ (elim (cases_Bool (is_before given p q least.0)) [
                  | inr apart ↦ ap not apart
                  | inl before ↦
                      let lt = ltb-true q.offset least.0.offset (and-left _ _ before) in
                      let same : ordering_key order p q ≡ ordering_key order p r =
                      same_key-true (ordering_key order p q) (ordering_key order p least.0)
                      (and-right (nat_lt q.offset least.0.offset) _ before)
                      ∙ same_key-true (ordering_key order p least.0) (ordering_key order p r) at.1 in
                      let also : least.0.offset ≤ q.offset = least.2 q
                      (In-filter key q (open_records given h p) (polled-open given h p q j waits)
                      (same_key-is (ordering_key order p q) (ordering_key order p r) same)) in
                      absurd (omega (arith, lt, also))
                ])
              ]);
        },
        free-upto least.0.offset (small least.0 polled.0)
            (lower least.0.offset r.offset le parts.2),
      )
    where
      left-parts : (a b c : Bool) → (a || b || c) ≡ false → (a ≡ false) × (b ≡ false) × (c ≡ false)
      left-parts true b c is = cc
      left-parts false true c is = cc
      left-parts false false c is = (refl, refl, is)

      unspent-then : (a b : Bool) → a ≡ true → (a && b) ≡ false → b ≡ false
      unspent-then true b is none = none
      unspent-then false b is none = cc

      small : (q : Record) → In q (polled_records given h p) → q.offset < 2 ^ 63 - 1
      small q j = (Rises-In 0 q (records_of given p) (legal-rises given h legal p)
          (polled-record given h p q j).0).1

      lower : (o u : ℕ) → o ≤ u → is_pressed_at u ≡ false → is_pressed_at o ≡ false
      lower o u le free = elim (cases_Bool (is_blocked given h p)) [
        | inr unblocked ↦ rw unblocked refl
        | inl blocked ↦
            let high = blocked_has_high given h p legal held blocked in
            let upto : not (nat_le u high.0) ≡ false = rw (blocked, high.1) at free in
            let below = leb-true u high.0 (not-false _ upto) in
            rw (blocked, high.1, le-leb o high.0 (omega (arith, le, below))) refl
      ]

-- ---- in the state

module _ (given : Given) (h : List Event) (s : State) (p : ℕ) (knows : Knows given h s)
    (held : is_held h p ≡ true) where
  abbrev to_do : Record → Bool
  to_do r = not (is_complete h p r.offset) && (is_first given h p r && not (is_kept_back given h p r.offset))

  -- the ready offsets
  ready-are : ready_offsets s.shards.order p (of_part s.shards p)
      ≡ map (λ r. r.offset) (filter to_do (polled_records given h p))
  ready-are =
      ap (λ (o : Order). ready_offsets o p (of_part s.shards p)) knows.order
      ∙ ap (ready_offsets given.setup.settings.order p) (knows.entries p ∙ entries-held given h p held)
      ∙ ready_offsets-records given h p (λ r. is_kept_back given h p r.offset)
      (λ r. failures_of h p r.offset)

  ready-todo : (o : ℕ) → In o (ready_offsets s.shards.order p (of_part s.shards p))
      → (f : Record) × IsToDo given h p knows.legal held f × (f.offset ≡ o)
  unfolding is_kept_back
  ready-todo o i =
      let f = In-mapped (λ (r : Record). r.offset) o (filter to_do (polled_records given h p))
      (subst (λ (os : List ℕ). In o os) ready-are i) in
      let at = In-filtered to_do f.0 (polled_records given h p) f.1 in
      let rest = and-right (not (is_complete h p f.0.offset)) _ at.1 in
      let free = not-true _ (and-right (is_first given h p f.0) _ rest) in (
        f.0,
        record {
          is_open = polled-open given h p f.0 at.0 (not-true _ (and-left _ _ at.1));
          unspent = sym (spent-is given h p f.0)
              ∙ second (is_out h p f.0.offset) (is_spent given h p f.0.offset) _ free;
          first = and-left _ _ rest;
        },
        f.2,
      )
    where
      second : (a b c : Bool) → (a || (b || c)) ≡ false → b ≡ false
      second true b c is = cc
      second false true c is = cc
      second false false c is = refl

  -- the offsets that wait
  waits-todo : BusyAreFirst s.shards.order p (of_part s.shards p) → (o : ℕ)
      → In o (offsets_of p s.retries.retries)
      → (f : Record) × IsToDo given h p knows.legal held f × (f.offset ≡ o)
  unfolding is_kept_back open_records
  waits-todo singly o i =
      let w = In-mapped (λ (r : Retry). r.offset) o (filter (λ r. r.part == p) s.retries.retries) i in
      let there = In-filtered (λ (r : Retry). r.part == p) w.0 s.retries.retries w.1 in
      let part : w.0.part ≡ p = eqb-true w.0.part p there.1 in
      let at = In-waiting given h p w.0 (subst (λ (q : ℕ). In w.0 (waiting_of given h q)) part
      (knows.waiting.sound w.0 there.0)) in
      let waits = waits-true given h p at.entry at.waits in
      let opened = polled-open given h p at.entry at.polled waits.incomplete in (
        at.entry,
        record {
          is_open = opened;
          unspent = sym (spent-is given h p at.entry) ∙ waits.spent;
          first = kept-first at.entry opened (early-kept at.entry.offset waits.early);
        },
        ap (λ (x : Retry). x.offset) (sym at.is) ∙ w.2,
      )
    where
      early-kept : (u : ℕ) → is_early h p u ≡ true → is_kept_back given h p u ≡ true
      early-kept u early = or-right (is_out h p u) _ (or-right (is_spent given h p u) _ early)

      entries-are : of_part s.shards p ≡ open_entries given h p (λ r. is_kept_back given h p r.offset)
          (λ r. failures_of h p r.offset)
      entries-are = knows.entries p ∙ entries-held given h p held

      kept-first : (r : Record) → In r (open_records given h p)
          → is_kept_back given h p r.offset ≡ true → is_first given h p r ≡ true
      kept-first r i kept =
          let busy : Record → Bool = λ r. is_kept_back given h p r.offset in
          let failures : Record → ℕ = λ r. failures_of h p r.offset in
          let one : BusyAreFirst given.setup.settings.order p (open_entries given h p busy failures) =
          subst (λ (es : List Entry). BusyAreFirst given.setup.settings.order p es) entries-are
          (subst (λ (o : Order). BusyAreFirst o p (of_part s.shards p)) knows.order singly) in
          sym (is_first-entry given h p busy failures r)
          ∙ one (entry_of busy failures r) (In-map (entry_of busy failures) r
          (filter (λ (r : Record). not (is_complete h p r.offset)) (polled_records given h p)) i) kept

  -- a record to do is ready or waits, where no job of the part is out
  todo-there : out_of h p ≡ 0 → (f : Record) → IsToDo given h p knows.legal held f
      → In f.offset (ready_offsets s.shards.order p (of_part s.shards p))
      ⊎ In f.offset (offsets_of p s.retries.retries)
  unfolding is_kept_back is_out out_of
  todo-there idle f todo =
      let at = open-polled given h p f todo.is_open in
      let out = idle-out f.offset in
      let spent : is_spent given h p f.offset ≡ false = spent-is given h p f ∙ todo.unspent in
      elim (cases_Bool (is_early h p f.offset)) [
        | inr come ↦ inl (subst (λ (os : List ℕ). In f.offset os) (sym ready-are)
            (In-map (λ (r : Record). r.offset) f (filter to_do (polled_records given h p))
            (In-filter to_do f (polled_records given h p) at.0
            (rw (at.1, todo.first, out, spent, come) refl))))
        | inl early ↦
            let w : Retry = record { ready_at = ready_of h p f.offset; part = p; offset = f.offset } in
            inr (In-map (λ (r : Retry). r.offset) w (filter (λ r. r.part == p) s.retries.retries)
            (In-filter (λ (r : Retry). r.part == p) w s.retries.retries
            (knows.waiting.whole w (waiting-In given h p w (record {
              held = held;
              entry = f;
              polled = at.0;
              waits = true-waits given h p f (record {
                incomplete = at.1;
                out = out;
                spent = spent;
                early = early;
              });
              is = refl;
            }))) (eq-eqb p p refl)))
      ]
    where
      idle-out : (u : ℕ) → is_out h p u ≡ false
      idle-out u = elim (cases_Bool (list_any (λ j. is_job_at (Some j) p (epoch_of h p) u) (open_jobs h))) [
        | inr none ↦ none
        | inl some ↦
            let j = In-list_any (λ (j : Job). is_job_at (Some j) p (epoch_of h p) u) (open_jobs h) some in
            let own : is_job_of p (epoch_of h p) j.0 ≡ true = and-left _ _ j.2 in
            let more = filter-some (is_job_of p (epoch_of h p)) j.0 (open_jobs h) j.1 own in
            absurd (omega (arith, more, idle))
      ]

  abbrev last : ℕ
  last = pressed_upto given h p knows.legal held

  -- what a state answers of the part
  pub goes_on-is : BusyAreFirst s.shards.order p (of_part s.shards p) → out_of h p ≡ 0
      → (ready waits : Option ℕ) (upto : ℕ)
      → ready ≡ least_ready_of s.shards.order p (of_part s.shards p)
      → waits ≡ least_of (offsets_of p s.retries.retries)
      → upto ≡ unwrap_or (if is_blocked given h p then high_of given h p else None) (2 ^ 64 - 1)
      → (option_map_or (λ o. nat_le o upto) ready false || option_map_or (λ o. nat_le o upto) waits false)
      ≡ not (list_all (is_given_up given h p) (open_records given h p))
  goes_on-is singly idle ready waits upto ready_is waits_is upto_is =
      ap (λ (n : ℕ). option_map_or (λ o. nat_le o n) ready false
      || option_map_or (λ o. nat_le o n) waits false) upto_is
      ∙ ap (λ (o : Option ℕ). option_map_or (λ o. nat_le o last) o false
      || option_map_or (λ o. nat_le o last) waits false) ready_is
      ∙ ap (λ (o : Option ℕ). option_map_or (λ o. nat_le o last)
      (least_ready_of s.shards.order p (of_part s.shards p)) false
      || option_map_or (λ o. nat_le o last) o false) waits_is
      ∙ ap (λ (b : Bool). b || option_map_or (λ o. nat_le o last)
      (least_of (offsets_of p s.retries.retries)) false) (upto-any last _)
      ∙ ap (λ (b : Bool). list_any (λ o. nat_le o last)
      (ready_offsets s.shards.order p (of_part s.shards p)) || b) (upto-any last _)
      ∙ same_test _ _ some-left left-some
      ∙ sym (not-all (is_given_up given h p) (open_records given h p))
    where
      found : (o : ℕ) → nat_le o last ≡ true
          → (f : Record) × IsToDo given h p knows.legal held f × (f.offset ≡ o)
          → list_any (λ r. not (is_given_up given h p r)) (open_records given h p) ≡ true
      found o le f =
          let at : nat_le f.0.offset last ≡ true = ap (λ (n : ℕ). nat_le n last) f.2 ∙ le in
          list_any-In (λ r. not (is_given_up given h p r)) f.0 (open_records given h p) f.1.is_open
          (ap not (todo-left given h p knows.legal held f.0 f.1 at))

      some-left : (list_any (λ o. nat_le o last) (ready_offsets s.shards.order p (of_part s.shards p))
          || list_any (λ o. nat_le o last) (offsets_of p s.retries.retries)) ≡ true
          → list_any (λ r. not (is_given_up given h p r)) (open_records given h p) ≡ true
      some-left one = elim (or-cases _ _ one) [
        | inl some ↦ let o = In-list_any (λ o. nat_le o last) _ some in
            found o.0 o.2 (ready-todo o.0 o.1)
        | inr some ↦ let o = In-list_any (λ o. nat_le o last) _ some in
            found o.0 o.2 (waits-todo singly o.0 o.1)
      ]

      left-some : list_any (λ r. not (is_given_up given h p r)) (open_records given h p) ≡ true
          → (list_any (λ o. nat_le o last) (ready_offsets s.shards.order p (of_part s.shards p))
          || list_any (λ o. nat_le o last) (offsets_of p s.retries.retries)) ≡ true
      left-some some =
          let r = In-list_any (λ r. not (is_given_up given h p r)) (open_records given h p) some in
          let f = left-todo given h p knows.legal held r.0 r.1 (not-true _ r.2) in
          elim (todo-there idle f.0 f.1) [
            | inl i ↦ or-left _ _ (list_any-In (λ o. nat_le o last) f.0.offset _ i f.2)
            | inr i ↦ or-right _ _ (list_any-In (λ o. nat_le o last) f.0.offset _ i f.2)
          ]

-- ---- all parts

rests-of : (a b : Bool) (n : ℕ) → a ≡ true → n ≡ 0 → b ≡ true → (not a || ((n == 0) && b)) ≡ true
rests-of true true n held idle rest = rw idle refl
rests-of true false n held idle rest = cc
rests-of false b n held idle rest = refl

rests-then : (a b : Bool) → a ≡ true → (not a || b) ≡ true → b ≡ true
rests-then true b held rest = rest
rests-then false b held rest = cc

-- no current job is out exactly where none of a held part is
module _ (given : Given) (h : List Event) (legal : IsLegal given h) where
  idle-part : (p : ℕ) → list_any (is_current h) (open_jobs h) ≡ false → is_held h p ≡ true
      → out_of h p ≡ 0
  unfolding out_of
  idle-part p none held = ap length (filter-none (is_job_of p (epoch_of h p)) (open_jobs h) (λ j i.
      elim (cases_Bool (is_job_of p (epoch_of h p) j)) [
        | inr out ↦ out
        | inl own ↦
            let part : j.part ≡ p = eqb-true j.part p (and-left (j.part == p) _ own) in
            let current : is_current h j ≡ true = subst
            (λ (q : ℕ). (is_held h q && (j.epoch == epoch_of h q)) ≡ true) (sym part)
            (rw (held, and-right (j.part == p) _ own) refl) in
            true-not-false (list_any (is_current h) (open_jobs h))
            (list_any-In (is_current h) j (open_jobs h) i current) none
      ]))

  part-idle : ((p : ℕ) → is_held h p ≡ true → out_of h p ≡ 0)
      → list_any (is_current h) (open_jobs h) ≡ false
  unfolding out_of
  part-idle each = elim (cases_Bool (list_any (is_current h) (open_jobs h))) [
    | inr none ↦ none
    | inl some ↦
        let j = In-list_any (is_current h) (open_jobs h) some in
        let held : is_held h j.0.part ≡ true = and-left (is_held h j.0.part) _ j.2 in
        let own : is_job_of j.0.part (epoch_of h j.0.part) j.0 ≡ true = rw (
          eq-eqb j.0.part j.0.part refl,
          and-right (is_held h j.0.part) _ j.2,
        ) refl in
        let more = filter-some (is_job_of j.0.part (epoch_of h j.0.part)) j.0 (open_jobs h) j.1 own in
        let none = each j.0.part held in
        absurd (omega (arith, more, none))
  ]

  -- the run is at rest exactly where each part is
  at_rest-is : is_at_rest given h ≡ list_all (rests given h) (parts_of given)
  unfolding is_at_rest
  at_rest-is = same_test _ _ (λ rest. all-rest (and-left _ _ rest) (and-right _ _ rest)) rest-all
    where
      all-rest : not (list_any (is_current h) (open_jobs h)) ≡ true
          → list_all (is_part_at_rest given h) (held_parts given h) ≡ true
          → list_all (rests given h) (parts_of given) ≡ true
      all-rest none each = each-rests (parts_of given) (λ p i. elim (cases_Bool (is_held h p)) [
        | inr free ↦ or-left _ _ (ap not free)
        | inl held ↦ rests-of (is_held h p) (is_part_at_rest given h p) (out_of h p) held
            (idle-part p (not-true _ none) held)
            (part-In p (held_parts given h) each (In-filter (is_held h) p (parts_of given) i held))
      ])
        where
          each-rests : (ps : List ℕ) → ((p : ℕ) → In p ps → rests given h p ≡ true)
              → list_all (rests given h) ps ≡ true
          each-rests ps all = list_all-each (rests given h) ps all

          part-In : (p : ℕ) (ps : List ℕ) → list_all (is_part_at_rest given h) ps ≡ true → In p ps
              → is_part_at_rest given h p ≡ true
          part-In p ps all i = list_all-In (is_part_at_rest given h) p ps all i

      one-rests : (p : ℕ) → list_all (rests given h) (parts_of given) ≡ true → is_held h p ≡ true
          → ((out_of h p == 0) && is_part_at_rest given h p) ≡ true
      one-rests p all held =
          let below = log-below given.logs p (held-has_log given h p legal held) in
          rests-then (is_held h p) _ held
          (list_all-In (rests given h) p (parts_of given) all (parts-In given p below))

      rest-all : list_all (rests given h) (parts_of given) ≡ true
          → (not (list_any (is_current h) (open_jobs h))
          && list_all (is_part_at_rest given h) (held_parts given h)) ≡ true
      rest-all all = rw (
        part-idle (λ p held. eqb-true (out_of h p) 0 (and-left _ _ (one-rests p all held))),
        list_all-each (is_part_at_rest given h) (held_parts given h) (λ p i.
            let at = In-filtered (is_held h) p (parts_of given) i in
            and-right (out_of h p == 0) _ (one-rests p all at.1)),
      ) refl

-- they are asked from the first on
pub at_rest-from : (given : Given) (h : List Event) (s : State) → Knows given h s → (n : ℕ)
    → n ≡ length s.logs.now
    → is_at_rest given h ≡ list_all (rests given h) (range_with_len 0 (n - 0))
at_rest-from given h s knows n parts =
    let same = ap length knows.logs in
    let count : length given.logs ≡ n - 0 = omega (arith, same, parts) in
    at_rest-is given h knows.legal ∙ ap (λ (k : ℕ). list_all (rests given h) (range_with_len 0 k)) count
