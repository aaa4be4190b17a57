-- No stall: a held part with work left goes on.
use Rattle.std.proofs.Common.{◌≡◌, ◌⊎◌, ℕ, suc, ◌+◌, ◌-◌, ◌*◌, ◌≤◌, ◌<◌, Bool, true, false, not, ◌&&◌, ◌||◌, ◌==◌, List, [], ◌∷◌, take, drop, length, Option, Some, None, refl, ap, sym, subst, ◌∙◌, arith, inl, inr, eq-eqb, min}
use Rattle.std.specs.Prelude.{nat_le, nat_lt, slice_get, option_map}
use Rattle.std.specs.List.{list_any, list_all}
use Rattle.std.specs.Option.{option_map_or}
use Rattle.std.proofs.Math.Bool.{or-true}
use Rattle.std.proofs.lemmas.Bool.{cases_Bool, cases_lt, eqb-true, ltb-true, le-leb, lt-ltb}
use Rattle.pc_model.specs.declared.choices.Order.{Order}
use Rattle.pc_model.specs.declared.choices.Order.TheVariants.{None as NoOrder, Partition, Key}
use Rattle.pc_model.specs.declared.event.Event.{Event}
use Rattle.pc_model.specs.declared.setup.Setup.{Setup}
use Rattle.pc_model.specs.Record.{Record}
use Rattle.pc_model.proofs.SetupLaws.{setup-within}
use Rattle.pc_model.specs.BestMap.{best_map, is_pressed}
use Rattle.pc_model.specs.Given.{Given, record_at}
use Rattle.pc_model.specs.Jobs.{Job, is_draining, open_jobs}
use Rattle.pc_model.specs.Epochs.{epoch_of, is_held, is_current}
use Rattle.pc_model.specs.Marks.{Mark, high_at, position_at, bits_at, commit_at}
use Rattle.pc_model.specs.Known.{begin_of, polled_count, records_from_begin, polled_records, unpolled_records, is_complete, marks_of, high_of, position_of}
use Rattle.pc_model.specs.Pressure.{last_size, is_blocked, is_below_high, is_upto_high}
use Rattle.pc_model.specs.Retry.{now_of, failures_of, ready_of}
use Rattle.pc_model.specs.Next.{ordering_key, same_key, has_key, is_busy, is_before, is_first, is_eligible_record, eligible_offsets}
use Rattle.pc_model.specs.Lawful.{IsLegal}
use Rattle.pc_model.specs.Run.{is_commit_due, open_records, may_poll_next, poll_number, new_successes, is_spent}
use Rattle.pc_laws.specs.Lists.{In}
use Rattle.pc_laws.specs.Stall.{HasWork, IsLeastOpen, GoesOn}
use Rattle.pc_laws.specs.Stall.GoesOn.{JobIsOut, IsEligible, Waits, PollIsOpen, CommitIsDue, IsSpent}
use Rattle.pc_laws.proofs.Lists.{and-left, and-right, not-true, true-not-false, In-map, In-filter, In-filtered, In-append, In-list_any, list_any-In, list_all-each}
use Rattle.pc_laws.proofs.Rising.{Rises, Rises-In}
use Rattle.pc_laws.proofs.Passing.{option_cases}
use Rattle.pc_laws.proofs.PositionLaw.{known_by, is_position_of, from_begin-rises}
use Rattle.pc_laws.proofs.Blocked.{drop-above, Rises-drop, high_of-In, keeps_size}

some-record : (q u : Record) → ◌≡◌ {A = Option Record} (Some q) (Some u) → q ≡ u
some-record q u e = cc

-- the first of a rising list is the least
pub first-le-of : (rs : List Record) (n : ℕ) (u r : Record) → Rises n rs → slice_get rs 0 ≡ Some u →
    In r rs → u.offset ≤ r.offset
first-le-of [] n u r rises first i = absurd i
first-le-of (q ∷ qs) n u r rises first (inl same) =
    let is : q ≡ u = some-record q u first in let at : q.offset ≡ u.offset = ap
    (λ (x : Record). x.offset) is in let r_at : r.offset ≡ q.offset = ap
    (λ (x : Record). x.offset) same in omega arith
first-le-of (q ∷ qs) n u r rises first (inr i) =
    let is : q ≡ u = some-record q u first in let at : q.offset ≡ u.offset = ap
    (λ (x : Record). x.offset) is in
    let above : suc q.offset ≤ r.offset = (Rises-In (suc q.offset) r qs rises.2 i).0 in omega arith

unspent-lt : (give_up n : ℕ) → nat_le give_up n ≡ false → nat_lt n give_up ≡ true
unspent-lt give_up n e = elim (cases_lt n give_up)
    [ inl lt ↦ lt-ltb n give_up lt | inr le ↦ true-not-false _ (le-leb give_up n le) e ]

-- ---- the least of some records

least-record : (r : Record) (rs : List Record) →
    (s : Record) × In s (r ∷ rs) × ((q : Record) → In q (r ∷ rs) → s.offset ≤ q.offset)
least-record r [] = (
  r,
  inl refl,
  λ q i. elim i [
    | inl same ↦ let at : q.offset ≡ r.offset = ap (λ (x : Record). x.offset) same
        in omega arith
    | inr none ↦ absurd none
  ],
)
least-record r (t ∷ ts) =
    let rest = least-record t ts in
    elim (cases_lt rest.0.offset r.offset) [
      | inl below ↦ (
        rest.0,
        inr rest.1,
        λ q i. elim i [
          | inl same ↦ let at : q.offset ≡ r.offset = ap (λ (x : Record). x.offset) same
              in omega arith
          | inr j ↦ rest.2 q j
        ],
      )
      | inr above ↦ (
        r,
        inl refl,
        λ q i. elim i [
          | inl same ↦ let at : q.offset ≡ r.offset = ap (λ (x : Record). x.offset) same
              in omega arith
          | inr j ↦ let le : rest.0.offset ≤ q.offset = rest.2 q j in omega arith
        ],
      )
    ]

-- the least of records of which there is one
pub least-of-some : (rs : List Record) (r : Record) → In r rs →
    (s : Record) × In s rs × ((q : Record) → In q rs → s.offset ≤ q.offset)
least-of-some [] r i = absurd i
least-of-some (t ∷ ts) r i = least-record t ts

-- ---- a commit that frees a blocked part

-- the completion bits from a position above the high are none
bits-none : (b : ℕ) (marks : List Mark) →
    ((g : ℕ) → high_at marks ≡ Some g → g < position_at b marks) → bits_at b marks ≡ []
unfolding bits_at
bits-none b marks above = elim (option_cases (high_at marks)) [
  | inl none ↦ rw none refl
  | inr high ↦
      let lt : high.0 < position_at b marks = above high.0 high.1 in
      let nothing : high.0 + 1 - position_at b marks ≡ 0 = omega arith in
      rw (high.1, nothing) refl
]

pub size-none : (limit b : ℕ) (marks : List Mark) → bits_at b marks ≡ [] →
    (commit_at limit b marks).size ≡ 0
unfolding commit_at best_map
size-none limit b marks none = rw none refl

-- a blocked part whose high lies below its position has a commit due
pub commit-is-due : (given : Given) (h : List Event) (p : ℕ) → IsLegal given h → is_held h p ≡ true →
    is_blocked given h p ≡ true
    → ((g : ℕ) → high_of given h p ≡ Some g → g < position_of given h p)
    → is_commit_due given h p ≡ true
commit-is-due given h p legal held blocked above =
    elim (option_cases (last_size h p)) [
      | inl none ↦ let nothing = rw none at blocked in cc nothing
      | inr last ↦ elim (cases_lt 0 (new_successes h p (epoch_of h p))) [
        | inl some ↦ rw (held, blocked, lt-ltb 0 (new_successes h p (epoch_of h p)) some)
            (or-true (nat_le given.setup.settings.commit_every (new_successes h p (epoch_of h p))))
        | inr no_new ↦
            let zero_new : new_successes h p (epoch_of h p) ≡ 0 = omega arith in
            let last_is : last.0 ≡ 0 = sym
            (keeps_size given h p legal last.0 held last.1 blocked zero_new)
            ∙ size-none given.setup.settings.map_limit (begin_of h p) (marks_of given h p)
            (bits-none (begin_of h p) (marks_of given h p) above) in
            let pressed : is_pressed last.0 given.setup.settings.map_limit given.setup.settings.press_percent ≡ true =
            rw last.1 at blocked in
            let lt : given.setup.settings.map_limit * given.setup.settings.press_percent < 0 * 100 = ltb-true _ _
            (rw last_is at pressed) in
            absurd (omega arith)
      ]
    ]

commit-frees : (given : Given) (h : List Event) (p : ℕ) → IsLegal given h → is_held h p ≡ true →
    is_blocked given h p ≡ true
    → ((g : ℕ) → high_of given h p ≡ Some g → g < position_of given h p) → GoesOn given h p
commit-frees given h p legal held blocked above =
    CommitIsDue blocked (commit-is-due given h p legal held blocked above)
    (size-none given.setup.settings.map_limit (begin_of h p) (marks_of given h p)
    (bits-none (begin_of h p) (marks_of given h p) above))

-- ---- the high lies below the position where every open record does

module _ (given : Given) (h : List Event) (p : ℕ) (legal : IsLegal given h) where
  -- where the high lies below each known record that is incomplete, it lies below the position
  pub high-below : (g : ℕ) → high_of given h p ≡ Some g →
      ((r : Record) → In r (known_by given h p) → is_complete h p r.offset ≡ false → g < r.offset)
      → g < position_of given h p
  high-below g high below =
      let top = high_of-In given h p g high in
      let position = is_position_of given h p in
      elim position.which [
        | inl waits ↦ let lt : g < waits.0.offset = below waits.0 waits.1 waits.2 in let is
            : position_of given h p ≡ waits.0.offset = waits.3 in omega arith
        | inr rest ↦ elim rest [
          | inl past ↦ let lt : top.0.offset < position_of given h p = past.1 top.0 top.1 in let is
              : top.0.offset ≡ g = top.2 in omega arith
          | inr none ↦ absurd (none.1 top.0 top.1)
        ]
      ]

  -- a known record that is incomplete is open, or it was not polled
  pub known-open : (r : Record) → In r (known_by given h p) → is_complete h p r.offset ≡ false → In r
      (open_records given h p) ⊎ In r (unpolled_records given h p)
  unfolding open_records polled_records unpolled_records
  known-open r i waits = elim
      (In-append r (take (polled_count h p) (records_from_begin given h p)) _ i) [
        | inl polled ↦ inl (In-filter (λ q. not (is_complete h p q.offset)) r _ polled
            (rw waits refl))
        | inr rest ↦ inr (In-filtered _ r
            (drop (polled_count h p) (records_from_begin given h p)) rest).0
      ]

  -- an open record is a polled one that is incomplete, and stands below those that were not polled
  pub open-polled : (r : Record) → In r (open_records given h p) → In r (polled_records given h p) ×
      (is_complete h p r.offset ≡ false)
  unfolding open_records
  open-polled r i = let at = In-filtered (λ q. not (is_complete h p q.offset)) r
      (polled_records given h p) i in (at.0, not-true _ at.1)

  pub open-In : (r : Record) → In r (polled_records given h p) → is_complete h p r.offset ≡ false →
      In r (open_records given h p)
  unfolding open_records
  open-In r i waits = In-filter (λ q. not (is_complete h p q.offset)) r (polled_records given h p) i
      (rw waits refl)

  pub polled-above : (r s : Record) → In r (polled_records given h p) → In s
      (unpolled_records given h p) → r.offset < s.offset
  unfolding polled_records unpolled_records
  polled-above r s i j = drop-above (polled_count h p) 0 (records_from_begin given h p)
      (from_begin-rises given h legal p) r s i j

  unpolled-first : (u r : Record) → slice_get (unpolled_records given h p) 0 ≡ Some u → In r
      (unpolled_records given h p) → u.offset ≤ r.offset
  unfolding unpolled_records
  unpolled-first u r first i = first-le-of
      (drop (polled_count h p) (records_from_begin given h p)) 0 u r
      (Rises-drop (polled_count h p) 0 (records_from_begin given h p)
      (from_begin-rises given h legal p)) first i

-- ---- the keys of jobs

same_key-part : (order : Order) (p q : ℕ) (r s : Record) → same_key (ordering_key order p r)
    (ordering_key order q s) ≡ true → p ≡ q
same_key-part NoOrder p q r s e = eqb-true p q (and-left _ _ e)
same_key-part Partition p q r s e = eqb-true p q e
same_key-part Key p q r s e = eqb-true p q (and-left _ _ e)

has_key-part-step : (given : Given) (p : ℕ) (r : Record) (j : Job) (o : Option Record)
    → option_map_or (same_key (ordering_key given.setup.settings.order p r))
    (option_map (ordering_key given.setup.settings.order j.part) o) false ≡ true → p ≡ j.part
has_key-part-step given p r j None e = cc
has_key-part-step given p r j (Some s) e = same_key-part given.setup.settings.order p j.part r s e

has_key-part : (given : Given) (p : ℕ) (r : Record) (j : Job) → has_key given
    (ordering_key given.setup.settings.order p r) j ≡ true → p ≡ j.part
has_key-part given p r j e = has_key-part-step given p r j (record_at given j.part j.offset) e

-- ---- the law

-- the high where an offset does not lie below it, or is above it
not_below : (o g : ℕ) (high : Option ℕ) → high ≡ Some g → option_map_or (nat_lt o) high false
    ≡ false → g ≤ o
not_below o g high is e = let test : nat_lt o g ≡ false = rw is at e in
    elim (cases_lt o g) [ inl lt ↦ true-not-false (nat_lt o g) (lt-ltb o g lt) test | inr le ↦ le ]

pub above-high : (o g : ℕ) (high : Option ℕ) → high ≡ Some g → option_map_or (nat_le o) high false
    ≡ false → g < o
above-high o g high is e = let test : nat_le o g ≡ false = rw is at e in
    elim (cases_lt g o) [ inl lt ↦ lt | inr le ↦ true-not-false (nat_le o g) (le-leb o g le) test ]

-- a complete offset and an incomplete one are two
high-apart : (h : List Event) (p g o : ℕ) → is_complete h p g ≡ true → is_complete h p o ≡ false →
    g ≤ o → g < o
high-apart h p g o done waits le = elim (cases_lt g o) [
  | inl lt ↦ lt
  | inr ge ↦ let same : g ≡ o = omega arith in true-not-false (is_complete h p o)
      (rw (← same) done) waits
]

not-or-false : (a b : Bool) → (not a || b) ≡ false → (a ≡ true) × (b ≡ false)
not-or-false true b e = (refl, e)
not-or-false false b e = cc

slice_get-none : {X : Type 0} (xs : List X) (x : X) → slice_get xs 0 ≡ None → In x xs → ⊥
slice_get-none [] x e i = i
slice_get-none (y ∷ ys) x e i = cc

pub list_cases : {X : Type 0} (xs : List X) → (xs ≡ []) ⊎ ((x : X) × In x xs)
list_cases [] = inl refl
list_cases (x ∷ xs) = inr (x, inl refl)

-- ---- a setup has room for at least one record

buffer-positive : (setup : Setup) → 0 < setup.settings.buffer
buffer-positive setup = let least : 1 ≤ setup.settings.buffer = (setup-within setup).buffer.least in
    omega arith

implies-test : (a b : Bool) → (a ≡ true → b ≡ true) → (not a || b) ≡ true
implies-test true b f = f refl
implies-test false b f = refl

module _ (given : Given) (h : List Event) (p : ℕ) (legal : IsLegal given h)
    (held : is_held h p ≡ true) where
  -- an open record that is the least may be dispatched, unless it is spent, waits or is kept back
  -- by pressure
  eligible-least : (r : Record) → IsLeastOpen given h p r → list_any
      (λ j. is_current h j && (j.part == p)) (open_jobs h) ≡ false
      → is_spent given h p r ≡ false → ready_of h p r.offset ≤ now_of h →
      (is_blocked given h p ≡ true → is_below_high given h p r.offset ≡ true)
      → In r.offset (eligible_offsets given h p)
  unfolding eligible_offsets is_eligible_record is_busy is_first
  eligible-least r least idle unspent ready pressed =
      let at = open-polled given h p legal r least.is_open in
      let free : list_any (λ j. is_current h j && has_key given
      (ordering_key given.setup.settings.order p r) j) (open_jobs h) ≡ false =
      elim (cases_Bool (list_any
      (λ j. is_current h j && has_key given (ordering_key given.setup.settings.order p r) j)
      (open_jobs h))) [
        | inr none ↦ none
        | inl some ↦
            let job = In-list_any (λ j. is_current h j && has_key given
            (ordering_key given.setup.settings.order p r) j) (open_jobs h) some in
            let part : p ≡ job.0.part = has_key-part given p r job.0
            (and-right (is_current h job.0) _ job.2) in
            true-not-false _ (list_any-In (λ j. is_current h j && (j.part == p)) job.0
            (open_jobs h) job.1
            (rw (and-left (is_current h job.0) _ job.2, eq-eqb job.0.part p (sym part)) refl)) idle
      ] in
      let first : list_all (λ q. not (is_before given p q r) || is_complete h p q.offset)
      (polled_records given h p) ≡ true =
      list_all-each _ (polled_records given h p)
      (λ q i. implies-test (is_before given p q r) (is_complete h p q.offset) (λ before.
      elim (cases_Bool (is_complete h p q.offset)) [
        | inl done ↦ done
        | inr waits ↦
            let lt : q.offset < r.offset = ltb-true q.offset r.offset (and-left _ _ before) in
            let le : r.offset ≤ q.offset = least.least q (open-In given h p legal q i waits)
            in absurd (omega arith)
      ])) in
      let attempts : nat_lt (failures_of h p r.offset) given.setup.settings.give_up ≡ true =
      unspent-lt given.setup.settings.give_up (failures_of h p r.offset) unspent in
      let test : is_eligible_record given h p r ≡ true = rw
      (at.1, free, first, attempts, le-leb (ready_of h p r.offset) (now_of h) ready)
      (implies-test (is_blocked given h p) (is_below_high given h p r.offset) pressed) in
      rw held (In-map (λ (q : Record). q.offset) r _
      (In-filter (is_eligible_record given h p) r (polled_records given h p) at.0 test))

  -- where no job of the part is out: the least open record
  goes_on-open : (r : Record) → IsLeastOpen given h p r → list_any
      (λ j. is_current h j && (j.part == p)) (open_jobs h) ≡ false → GoesOn given h p
  goes_on-open r least idle = elim (cases_Bool (is_spent given h p r)) [
    | inl spent ↦ IsSpent r least spent
    | inr unspent ↦ elim (cases_lt (now_of h) (ready_of h p r.offset)) [
      | inl waits ↦ Waits r least waits
      | inr ready ↦ elim (cases_Bool (is_blocked given h p)) [
        | inr free ↦ IsEligible r.offset
            (eligible-least r least idle unspent ready (λ blocked. true-not-false _ blocked free))
        | inl blocked ↦ elim (cases_Bool (is_below_high given h p r.offset)) [
          | inl below ↦ IsEligible r.offset (eligible-least r least idle unspent ready (λ b. below))
          | inr above ↦ commit-frees given h p legal held blocked
              (λ g high. high-below given h p legal g high (λ s i waits.
              let at = open-polled given h p legal r least.is_open in
              let g_le : g ≤ r.offset = not_below r.offset g (high_of given h p) high above in
              let apart : g < r.offset = high-apart h p g r.offset
              (high_of-In given h p g high).3 at.1 g_le in
              elim (known-open given h p legal s i waits) [
                | inl open_one ↦ let le : r.offset ≤ s.offset = least.least s open_one
                    in omega arith
                | inr unpolled ↦ let lt : r.offset < s.offset =
                    polled-above given h p legal r s at.0 unpolled in omega arith
              ]))
        ]
      ]
    ]
  ]

  -- where no open record is left: the first record that was not polled
  goes_on-poll : (r : Record) → In r (unpolled_records given h p) → open_records given h p ≡ [] →
      is_draining h ≡ false → GoesOn given h p
  unfolding poll_number
  goes_on-poll r i none running = elim (option_cases (slice_get (unpolled_records given h p) 0)) [
    | inl nothing ↦ absurd (slice_get-none (unpolled_records given h p) r nothing i)
    | inr first ↦ elim (cases_Bool (may_poll_next given h p (Some first.0))) [
      | inl may ↦ PollIsOpen (min given.setup.settings.poll_max
          (given.setup.settings.buffer - length (open_records given h p)))
          (rw (
            held,
            running,
            first.1,
            may,
            none,
            lt-ltb 0 given.setup.settings.buffer
                (buffer-positive given.setup),
          ) refl)
      | inr not_now ↦
          let kept_back = not-or-false (is_blocked given h p)
          (is_upto_high given h p first.0.offset) not_now in
          commit-frees given h p legal held kept_back.0
          (λ g high. high-below given h p legal g high (λ s j waits.
          let above : g < first.0.offset = above-high first.0.offset g
          (high_of given h p) high kept_back.1 in
          elim (known-open given h p legal s j waits) [
            | inl open_one ↦ let nothing : In s [] = subst
                (λ (rs : List Record). In s rs) none open_one in absurd nothing
            | inr unpolled ↦ let le : first.0.offset ≤ s.offset =
                unpolled-first given h p legal first.0 s first.1 unpolled in omega arith
          ]))
    ]
  ]

pub goes_on : (given : Given) (h : List Event) (p : ℕ) → IsLegal given h → is_held h p ≡ true
    → (is_draining h ≡ false) ⊎ (unpolled_records given h p ≡ []) → HasWork given h p →
    GoesOn given h p
goes_on given h p legal held running work = elim
    (cases_Bool (list_any (λ j. is_current h j && (j.part == p)) (open_jobs h))) [
      | inl some ↦
          let job = In-list_any (λ j. is_current h j && (j.part == p)) (open_jobs h) some in
          JobIsOut job.0 job.1 (eqb-true job.0.part p
          (and-right (is_current h job.0) (job.0.part == p) job.2))
          (and-left (is_current h job.0) (job.0.part == p) job.2)
      | inr idle ↦ elim (list_cases (open_records given h p)) [
        | inr one ↦
            let least = least-of-some (open_records given h p) one.0 one.1 in
            goes_on-open given h p legal held least.0
            (record { is_open = least.1; least = least.2 }) idle
        | inl none ↦ elim work [
          | inr one ↦ let nothing : In one.0 [] = subst
              (λ (rs : List Record). In one.0 rs) none one.1
              in absurd nothing
          | inl one ↦ elim running [
            | inl not_draining ↦ goes_on-poll given h p legal held one.0 one.1 none not_draining
            | inr all_polled ↦ let nothing : In one.0 [] = subst
                (λ (rs : List Record). In one.0 rs) all_polled one.1 in absurd nothing
          ]
        ]
      ]
    ]
