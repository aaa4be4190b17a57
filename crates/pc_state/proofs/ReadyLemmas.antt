-- Which offset of a part may be dispatched.
use Rattle.std.proofs.Common.{◌≡◌, ℕ, ◌≤◌, ◌<◌, Bool, true, false, not, ◌&&◌, ◌||◌, cond, List, [], ◌∷◌, map, Option, Some, None, refl, ap, sym, ◌∙◌, arith, inl, inr}
use Rattle.std.specs.Prelude.{filter, nat_lt, nat_le}
use Rattle.std.specs.Option.{option_map_or}
use Rattle.std.proofs.lemmas.Bool.{cases_Bool, lt-ltb, ltb-true}
use Rattle.pc_model.specs.declared.event.Event.{Event}
use Rattle.pc_model.specs.Record.{Record}
use Rattle.pc_model.specs.Numbers.{least_of}
use Rattle.pc_model.specs.Given.{Given}
use Rattle.pc_model.specs.Epochs.{is_held}
use Rattle.pc_model.specs.Known.{high_of, is_complete, polled_records}
use Rattle.pc_model.specs.Pressure.{is_below_high, is_blocked}
use Rattle.pc_model.specs.Retry.{failures_of, now_of, ready_of}
use Rattle.pc_model.specs.Next.{eligible_offsets, is_busy, is_eligible_record, is_first, ordering_key}
use Rattle.pc_model.specs.Lawful.{IsLegal}
use Rattle.pc_model.proofs.ListLemmas.{filter-filter}
use Rattle.pc_laws.specs.Lists.{In}
use Rattle.pc_laws.proofs.Lists.{In-filter, In-filtered, least_of-In, least_of-least, least_of-none}
use Rattle.pc_laws.proofs.FirstLaw.{busy-out}
use Rattle.pc_laws.proofs.Passing.{option_cases}
use Rattle.pc_laws.proofs.KeptLaw.{is_kept}
use Rattle.pc_shards.specs.Entries.{Entry, least_ready_of, of_part, ready_offsets}
use Rattle.pc_shards.proofs.OpenEntriesLaws.{ready_offsets-records}
use Rattle.pc_state.specs.declared.state.State.{State}
use Rattle.pc_state.specs.State.{Knows, entries_of, is_early, is_kept_back, is_out, is_spent}
use Rattle.pc_state.proofs.StateLemmas.{entries-free, entries-held}

shuffle : (c o b f a e u : Bool) → (c ≡ false → f ≡ true → b ≡ o)
    → (not c && not b && f && not a && not e && u) ≡ ((not c && (f && not (o || (a || e)))) && u)
shuffle true o b f a e u busy = refl
shuffle false o b false a e u busy = none b
  where
    none : (b : Bool) → (not b && false && not a && not e && u) ≡ false
    none true = refl
    none false = refl
shuffle false o b true a e u busy = rw (busy refl refl) (parts o a e u)
  where
    parts : (o a e u : Bool) → (not o && true && not a && not e && u) ≡ (not (o || (a || e)) && u)
    parts true a e u = refl
    parts false true e u = refl
    parts false false true u = refl
    parts false false false u = refl

filter-In : {X : Type 0} (f g : X → Bool) (xs : List X) → ((x : X) → In x xs → f x ≡ g x)
    → filter f xs ≡ filter g xs
filter-In f g [] same = refl
filter-In f g (x ∷ xs) same = rw (same x (inl refl), filter-In f g xs (λ y i. same y (inr i))) refl

map-filter : (f : ℕ → Bool) (rs : List Record) → map (λ (r : Record). r.offset)
    (filter (λ (r : Record). f r.offset) rs) ≡ filter f (map (λ (r : Record). r.offset) rs)
map-filter f [] = refl
map-filter f (r ∷ rs) = elim (cases_Bool (f r.offset)) [
  | inl kept ↦ rw (kept, map-filter f rs) refl
  | inr out ↦ rw (out, map-filter f rs) refl
]

module _ (given : Given) (h : List Event) (p : ℕ) (legal : IsLegal given h)
    (held : is_held h p ≡ true) where
  abbrev is_ready : Record → Bool
  is_ready r = not (is_complete h p r.offset) && (is_first given h p r && not (is_kept_back given h p r.offset))

  abbrev may_press : ℕ → Bool
  may_press o = not (is_blocked given h p) || is_below_high given h p o

  not-twice : (b : Bool) → b ≡ not (not b)
  not-twice true = refl
  not-twice false = refl

  key-out : (r : Record) → In r (polled_records given h p) → is_complete h p r.offset ≡ false
      → is_first given h p r ≡ true
      → is_busy given h (ordering_key given.setup.settings.order p r) ≡ is_out h p r.offset
  unfolding is_out
  key-out r i incomplete first = busy-out given h legal p r held i incomplete first

  eligible-is : (r : Record) → In r (polled_records given h p)
      → is_eligible_record given h p r ≡ (is_ready r && may_press r.offset)
  unfolding is_eligible_record is_kept_back is_spent is_early
  eligible-is r i =
      ap (λ (a : Bool). not (is_complete h p r.offset)
      && not (is_busy given h (ordering_key given.setup.settings.order p r)) && is_first given h p r && a
      && nat_le (ready_of h p r.offset) (now_of h) && may_press r.offset)
      (not-twice (nat_lt (failures_of h p r.offset) given.setup.settings.give_up))
      ∙ ap (λ (e : Bool). not (is_complete h p r.offset)
      && not (is_busy given h (ordering_key given.setup.settings.order p r)) && is_first given h p r
      && not (not (nat_lt (failures_of h p r.offset) given.setup.settings.give_up))
      && e && may_press r.offset) (not-twice (nat_le (ready_of h p r.offset) (now_of h)))
      ∙ shuffle (is_complete h p r.offset) (is_out h p r.offset)
      (is_busy given h (ordering_key given.setup.settings.order p r)) (is_first given h p r)
      (not (nat_lt (failures_of h p r.offset) given.setup.settings.give_up))
      (not (nat_le (ready_of h p r.offset) (now_of h))) (may_press r.offset)
      (λ incomplete first. key-out r i incomplete first)

  eligible-ready : eligible_offsets given h p
      ≡ filter may_press (ready_offsets given.setup.settings.order p (entries_of given h p))
  unfolding eligible_offsets
  eligible-ready = rw held (
      ap (λ (rs : List Record). map (λ (r : Record). r.offset) rs)
      (filter-In (is_eligible_record given h p) (λ (r : Record). is_ready r && may_press r.offset)
      (polled_records given h p) eligible-is
      ∙ sym (filter-filter (λ (r : Record). may_press r.offset) is_ready
      (polled_records given h p)))
      ∙ map-filter may_press (filter is_ready (polled_records given h p))
      ∙ ap (λ (os : List ℕ). filter may_press os)
      (sym (ready_offsets-records given h p (λ r. is_kept_back given h p r.offset)
      (λ r. failures_of h p r.offset))
      ∙ ap (λ (es : List Entry). ready_offsets given.setup.settings.order p es)
      (sym (entries-held given h p held)))
      )

-- ---- the least of them

filter-all : (f : ℕ → Bool) (xs : List ℕ) → ((x : ℕ) → f x ≡ true) → filter f xs ≡ xs
filter-all f [] each = refl
filter-all f (x ∷ xs) each = rw (each x) (ap (λ (ys : List ℕ). x ∷ ys) (filter-all f xs each))

-- the least number below a bound
least-below : (g o : ℕ) (xs : List ℕ) → least_of xs ≡ Some o
    → least_of (filter (λ x. nat_lt x g) xs) ≡ cond (nat_lt o g) (Some o) None
least-below g o xs least = elim (option_cases (least_of (filter (λ x. nat_lt x g) xs))) [
  | inl none ↦ none ∙ elim (cases_Bool (nat_lt o g)) [
    | inl below ↦ absurd (least_of-none o _ none
        (In-filter (λ (x : ℕ). nat_lt x g) o xs (least_of-In o xs least) below))
    | inr above ↦ rw above refl
  ]
  | inr some ↦
      let at = In-filtered (λ (x : ℕ). nat_lt x g) some.0 xs (least_of-In some.0 _ some.1) in
      let le : o ≤ some.0 = least_of-least o some.0 xs least at.0 in
      let lt : some.0 < g = ltb-true some.0 g at.1 in
      let below : nat_lt o g ≡ true = lt-ltb o g (omega (arith, le, lt)) in
      let ge : some.0 ≤ o = least_of-least some.0 o _ some.1
      (In-filter (λ (x : ℕ). nat_lt x g) o xs (least_of-In o xs least) below) in
      let is : some.0 ≡ o = omega (arith, le, ge) in
      rw below (some.1 ∙ ap (λ (x : ℕ). Some x) is)
]

-- of a part that is blocked the least below its high
least-pressed : (b : Bool) (top high : Option ℕ) (o : ℕ) (xs : List ℕ) → high ≡ cond b top None
    → (b ≡ true → (g : ℕ) × (top ≡ Some g)) → least_of xs ≡ Some o
    → least_of (filter (λ x. not b || option_map_or (nat_lt x) top false) xs)
    ≡ option_map_or (λ g. cond (nat_lt o g) (Some o) None) high (Some o)
least-pressed false top high o xs is has least =
    rw is (ap least_of (filter-all (λ _. true) xs (λ x. refl)) ∙ least)
least-pressed true top high o xs is has least =
    let g = has refl in rw (is, g.1) (least-below g.0 o xs least)

module _ (given : Given) (h : List Event) (p o : ℕ) (legal : IsLegal given h)
    (held : is_held h p ≡ true) (high : Option ℕ)
    (is : high ≡ cond (is_blocked given h p) (high_of given h p) None)
    (least : least_of (ready_offsets given.setup.settings.order p (entries_of given h p)) ≡ Some o) where
  least-held : least_of (eligible_offsets given h p)
      ≡ option_map_or (λ g. cond (nat_lt o g) (Some o) None) high (Some o)
  least-held = ap least_of (eligible-ready given h p legal held)
      ∙ least-pressed (is_blocked given h p) (high_of given h p) high o
      (ready_offsets given.setup.settings.order p (entries_of given h p)) is
      ((is_kept given h legal).high p held) least

-- the least offset of a part that may be dispatched, by the least that is ready and the high of a
-- part that is blocked
pub least-eligible : (given : Given) (h : List Event) (s : State) (p o : ℕ) (high : Option ℕ)
    → Knows given h s → Some o ≡ least_ready_of s.shards.order p (of_part s.shards p)
    → (is_held h p ≡ true → high ≡ cond (is_blocked given h p) (high_of given h p) None)
    → least_of (eligible_offsets given h p)
    ≡ option_map_or (λ g. cond (nat_lt o g) (Some o) None) high (Some o)
least-eligible given h s p o high knows ready is =
    let least : least_ready_of given.setup.settings.order p (entries_of given h p) ≡ Some o =
    rw (knows.order, knows.entries p) at (sym ready) in
    elim (cases_Bool (is_held h p)) [
      | inl held ↦ least-held given h p o knows.legal held high (is held) least
      | inr free ↦ let nothing : ◌≡◌ {A = Option ℕ} None (Some o) =
          rw (entries-free given h p free) at least in cc nothing
    ]

nothing-left : (f : ℕ → Bool) (xs : List ℕ) → least_of xs ≡ None → least_of (filter f xs) ≡ None
nothing-left f [] none = refl
nothing-left f (x ∷ xs) none = cc

not-held : (given : Given) (h : List Event) (p : ℕ) → is_held h p ≡ false
    → eligible_offsets given h p ≡ []
unfolding eligible_offsets
not-held given h p free = rw free refl

-- and where none is ready there is none
pub none-eligible : (given : Given) (h : List Event) (s : State) (p : ℕ) → Knows given h s
    → None ≡ least_ready_of s.shards.order p (of_part s.shards p)
    → least_of (eligible_offsets given h p) ≡ None
none-eligible given h s p knows ready =
    let least : least_ready_of given.setup.settings.order p (entries_of given h p) ≡ None =
    rw (knows.order, knows.entries p) at (sym ready) in
    elim (cases_Bool (is_held h p)) [
      | inl held ↦ ap least_of (eligible-ready given h p knows.legal held)
          ∙ nothing-left _ _ least
      | inr free ↦ ap least_of (not-held given h p free)
    ]
