-- The least time until which a record waits.
use Rattle.std.proofs.Common.{◌≡◌, ℕ, true, false, not, List, [], ◌∷◌, map, Some, refl, ap, sym, subst, ◌∙◌, arith, inl, inr}
use Rattle.std.specs.Prelude.{flat_map, nat_le, nat_lt}
use Rattle.std.proofs.lemmas.Bool.{lt-ltb, ltb-true}
use Rattle.std.proofs.lemmas.Bool.Decides.{nat_tests}
use Rattle.pc_model.specs.declared.event.Event.{Event}
use Rattle.pc_model.specs.Record.{Record}
use Rattle.pc_model.specs.Given.{Given, parts_of}
use Rattle.pc_model.specs.Epochs.{is_held}
use Rattle.pc_model.specs.Lawful.{IsLegal, held_parts}
use Rattle.pc_model.specs.Numbers.{least_of}
use Rattle.pc_model.specs.Retry.{failures_of, now_of, ready_of}
use Rattle.pc_model.specs.Run.{is_spent as is_spent_record, is_waiting as waits_record, next_time, open_records, waiting_times}
use Rattle.pc_laws.specs.Lists.{In}
use Rattle.pc_laws.proofs.Lists.{In-append, In-append_left, In-append_right, In-filter, In-filtered, In-map, In-mapped, and-left, and-right, least_of-In, least_of-least, least_of-none, not-true}
use Rattle.pc_laws.proofs.Passing.{option_cases}
use Rattle.pc_retry.specs.declared.queue.Retry.{Retry}
use Rattle.pc_state.specs.State.{AreWaiting, is_early, is_spent}
use Rattle.pc_state.proofs.AtWork.{polled-below}
use Rattle.pc_state.proofs.DueLaw.{early-failed, early-idle}
use Rattle.pc_state.proofs.OpenLemmas.{open-polled, polled-open}
use Rattle.pc_state.proofs.PartsLemmas.{parts-In}
use Rattle.pc_state.proofs.WaitingLemmas.{In-waiting, Waits, true-waits, waiting-In, waits-true}

-- two lists with the same members have the same least
pub least-same : (xs ys : List ℕ) → ((n : ℕ) → In n xs → In n ys) → ((n : ℕ) → In n ys → In n xs)
    → least_of xs ≡ least_of ys
least-same xs ys to from = elim (option_cases (least_of xs)) [
  | inl none ↦ elim (option_cases (least_of ys)) [
    | inl also ↦ none ∙ sym also
    | inr some ↦ absurd (least_of-none some.0 xs none (from some.0 (least_of-In some.0 ys some.1)))
  ]
  | inr one ↦ elim (option_cases (least_of ys)) [
    | inl none ↦ absurd (least_of-none one.0 ys none (to one.0 (least_of-In one.0 xs one.1)))
    | inr two ↦
        let low = least_of-least one.0 two.0 xs one.1 (from two.0 (least_of-In two.0 ys two.1)) in
        let high = least_of-least two.0 one.0 ys two.1 (to one.0 (least_of-In one.0 xs one.1)) in
        let same : one.0 ≡ two.0 = omega (arith, low, high) in
        one.1 ∙ ap (λ (n : ℕ). Some n) same ∙ sym two.1
  ]
]

In-flat_map : {X : Type 0} (f : X → List ℕ) (x : X) (n : ℕ) (xs : List X) → In x xs → In n (f x)
    → In n (flat_map f xs)
In-flat_map f x n [] i j = absurd i
In-flat_map f x n (y ∷ ys) (inl same) j = In-append_left n (f y) (flat_map f ys)
    (subst (λ z. In n (f z)) same j)
In-flat_map f x n (y ∷ ys) (inr i) j = In-append_right n (f y) (flat_map f ys)
    (In-flat_map f x n ys i j)

flat_map-In : {X : Type 0} (f : X → List ℕ) (n : ℕ) (xs : List X) → In n (flat_map f xs)
    → (x : X) × In x xs × In n (f x)
flat_map-In f n [] i = absurd i
flat_map-In f n (y ∷ ys) i = elim (In-append n (f y) (flat_map f ys) i) [
  | inl here ↦ (y, inl refl, here)
  | inr rest ↦ let more = flat_map-In f n ys rest in (more.0, inr more.1, more.2)
]

-- ---- a record that waits

early-lt : (ready now : ℕ) → not (nat_le ready now) ≡ nat_lt now ready
early-lt ready now = grind (arith, nat_tests)

spent-le : (failures give_up : ℕ) → not (nat_lt failures give_up) ≡ nat_le give_up failures
spent-le failures give_up = grind (arith, nat_tests)

module _ (given : Given) (h : List Event) (p : ℕ) (r : Record) where
  pub early-is : is_early h p r.offset ≡ nat_lt (now_of h) (ready_of h p r.offset)
  unfolding is_early
  early-is = early-lt (ready_of h p r.offset) (now_of h)

  pub spent-is : is_spent given h p r.offset ≡ is_spent_record given h p r
  unfolding is_spent
  spent-is = spent-le (failures_of h p r.offset) given.setup.settings.give_up

  -- by one definition it waits where it does by the other
  waits-record : Waits given h p r.offset → waits_record given h p r ≡ true
  waits-record waits =
      let early : nat_lt (now_of h) (ready_of h p r.offset) ≡ true = sym early-is ∙ waits.early in
      let spent : is_spent_record given h p r ≡ false = sym spent-is ∙ waits.spent in
      let failed = early-failed h p r.offset (ltb-true (now_of h) (ready_of h p r.offset) early) in
      rw (lt-ltb 0 (failures_of h p r.offset) failed, spent, early) refl

  record-waits : IsLegal given h → is_held h p ≡ true → In r (open_records given h p)
      → waits_record given h p r ≡ true → Waits given h p r.offset
  record-waits legal held i waits =
      let early : nat_lt (now_of h) (ready_of h p r.offset) ≡ true = and-right _ _ waits in
      let spent : is_spent_record given h p r ≡ false =
      not-true _ (and-right (nat_lt 0 (failures_of h p r.offset)) _ (and-left _ _ waits)) in
      record {
        incomplete = (open-polled given h p r i).1;
        out = early-idle given h p r.offset legal held
            (ltb-true (now_of h) (ready_of h p r.offset) early);
        spent = spent-is ∙ spent;
        early = early-is ∙ early;
      }

-- ---- all of them

module _ (given : Given) (h : List Event) (legal : IsLegal given h) (retries : List Retry)
    (waiting : AreWaiting given h retries) where
  time-waits : (n : ℕ) → In n (map (λ r. r.ready_at) retries)
      → In n (flat_map (waiting_times given h) (held_parts given h))
  time-waits n i =
      let w = In-mapped (λ (r : Retry). r.ready_at) n retries i in
      let at = In-waiting given h w.0.part w.0 (waiting.sound w.0 w.1) in
      let waits = waits-true given h w.0.part at.entry at.waits in
      let open_one = polled-open given h w.0.part at.entry at.polled waits.incomplete in
      let time : ready_of h w.0.part at.entry.offset ≡ n = ap (λ (x : Retry). x.ready_at) (sym at.is)
      ∙ w.2 in
      In-flat_map (waiting_times given h) w.0.part n (held_parts given h)
      (In-filter (is_held h) w.0.part (parts_of given)
      (parts-In given w.0.part (polled-below given h w.0.part at.entry at.polled)) at.held)
      (subst (λ (m : ℕ). In m (waiting_times given h w.0.part)) time
      (In-map (λ (r : Record). ready_of h w.0.part r.offset) at.entry _
      (In-filter (waits_record given h w.0.part) at.entry (open_records given h w.0.part) open_one
      (waits-record given h w.0.part at.entry waits))))

  waits-time : (n : ℕ) → In n (flat_map (waiting_times given h) (held_parts given h))
      → In n (map (λ r. r.ready_at) retries)
  waits-time n i =
      let part = flat_map-In (waiting_times given h) n (held_parts given h) i in
      let held = (In-filtered (is_held h) part.0 (parts_of given) part.1).1 in
      let time = In-mapped (λ (r : Record). ready_of h part.0 r.offset) n _ part.2 in
      let at = In-filtered (waits_record given h part.0) time.0 (open_records given h part.0) time.1 in
      let polled = (open-polled given h part.0 time.0 at.0).0 in
      let waits = record-waits given h part.0 time.0 legal held at.0 at.1 in
      let w : Retry = record { ready_at = ready_of h part.0 time.0.offset; part = part.0; offset = time.0.offset } in
      subst (λ (m : ℕ). In m (map (λ r. r.ready_at) retries)) time.2
      (In-map (λ (r : Retry). r.ready_at) w retries (waiting.whole w (waiting-In given h part.0 w
      (record {
        held = held;
        entry = time.0;
        polled = polled;
        waits = true-waits given h part.0 time.0 waits;
        is = refl;
      }))))

  pub next_time-is : least_of (map (λ r. r.ready_at) retries) ≡ next_time given h
  unfolding next_time
  next_time-is = least-same _ _ time-waits waits-time
