-- What a state answers of a part.
use Rattle.std.proofs.Common.{◌≡◌, ℕ, zero, suc, ◌-◌, ◌<◌, ◌≤◌, Bool, true, false, cond, List, [], ◌∷◌, take, drop, length, replicate, Option, Some, None, Result, Ok, Err, IfOk, OnOk, refl, sym, ap, subst, ◌∙◌, arith, inl, inr, get_or}
use Rattle.std.specs.Prelude.{◌^◌, filter, if◌then◌else◌, is_some, nat_le, nat_lt, option_map, slice_get, unwrap_or}
use Rattle.std.specs.Option.{option_flatten}
use Rattle.std.specs.List.{IsDistinct, list_all, take_while}
use Rattle.pc_laws.specs.Lists.{In}
use Rattle.std.proofs.lemmas.Bool.{cases_Bool, le-leb, leb-true, ltb-true}
use Rattle.std.proofs.lemmas.List.{get_or-replicate, length-replicate}
use Rattle.std.proofs.lemmas.List.Sums.{sum_by-cons, take_while-cons}
use Rattle.pc_model.specs.declared.limits.TheConstants.{MAX_PARTS, MAX_RECORDS}
use Rattle.pc_model.specs.declared.setup.Setup.{Setup}
use Rattle.pc_model.specs.declared.event.Event.{Event}
use Rattle.pc_model.specs.Record.{Record}
use Rattle.pc_model.specs.Given.{Given, has_log, records_of, rises_from}
use Rattle.pc_model.specs.Jobs.{open_jobs}
use Rattle.pc_model.specs.Epochs.{is_held}
use Rattle.pc_model.specs.Known.{begin_of, high_of, polled_count, records_from_begin, unpolled_records}
use Rattle.pc_model.specs.Lawful.{IsLegal}
use Rattle.pc_laws.proofs.Lists.{and-left, and-right, true-not-false}
use Rattle.pc_laws.proofs.HighLaw.{blocked_has_high}
use Rattle.pc_model.specs.Pressure.{is_blocked}
use Rattle.pc_cursor.proofs.BatchFacts.{rises-lower}
use Rattle.pc_broker_log.proofs.PolledLemmas.{rises-filter, upto-while}
use Rattle.pc_state.specs.Calls.{next_records, pollable_records}
use Rattle.pc_retry.specs.declared.queue.Retry.{Retry}
use Rattle.pc_shards.specs.Entries.{of_part}
use Rattle.pc_broker_log.specs.Logs.{first_upto, record_total, upto}
use Rattle.pc_state.specs.declared.part.PartState.{PartState}
use Rattle.pc_state.specs.declared.state.State.{State}
use Rattle.pc_state.specs.Ledger.{Counts}
use Rattle.pc_state.specs.State.{Knows, PartKeeps, entries_of, same_place, waiting_of}
use Rattle.pc_state.proofs.RetryLemmas.{distinct-none}
use Rattle.pc_state.specs.OpenJobs.{AreOpen}
use Rattle.pc_laws.proofs.HeldLaw.{held-has_log}

-- a part without a log is not held
pub unknown-free : (given : Given) (h : List Event) (p : ℕ) → IsLegal given h
    → has_log given p ≡ false → is_held h p ≡ false
unknown-free given h p legal unknown = elim (cases_Bool (is_held h p)) [
  | inl held ↦ absurd (true-not-false (has_log given p) (held-has_log given h p legal held) unknown)
  | inr free ↦ free
]

-- what was read of a part's log
pub read-of : (o : Option (List Record)) (f : List Record → List Record) (rs : List Record)
    → Some rs ≡ option_map f o → rs ≡ f (unwrap_or o [])
read-of None f rs is = cc
read-of (Some log) f rs is = cc

-- a log that is there is read
pub read-none : (o : Option (List Record)) (f : List Record → List Record) → None ≡ option_map f o
    → is_some o ≡ true → ⊥
read-none None f is some = cc
read-none (Some log) f is some = cc

-- no log has more records than all together
log-total : (logs : List (Option (List Record))) (p : ℕ)
    → length (unwrap_or (option_flatten (slice_get logs p)) []) ≤ record_total logs
log-total [] p = omega arith
log-total (log ∷ logs) zero = omega (arith, sum_by-cons (λ (l : Option (List Record)). length (unwrap_or l [])) log logs)
log-total (log ∷ logs) (suc p) =
    omega (arith, sum_by-cons (λ (l : Option (List Record)). length (unwrap_or l [])) log logs, log-total logs p)

-- what an engine without an event knows
pub knows-start : (given : Given) (s : State) → given.setup ≡ s.setup.now → given.logs ≡ s.logs.now
    → list_all (λ log. rises_from 0 (unwrap_or log [])) s.logs.now ≡ true
    → length s.logs.now ≤ MAX_PARTS → record_total s.logs.now ≤ MAX_RECORDS
    → s.parts.items ≡ replicate (length s.logs.now) (record { epoch = 0; held = None })
    → s.shards.order ≡ s.setup.now.settings.order → ((p : ℕ) → of_part s.shards p ≡ [])
    → s.retries.retries ≡ [] → ((h : List Event) → open_jobs h ≡ [] → AreOpen h s.jobs) → s.clock ≡ 0
    → s.dispatched ≡ 0 → s.last ≡ None → Counts given [] s.ledger
    → Knows given [] s
unfolding entries_of waiting_of
knows-start given s setup logs rise few total items order empty retries jobs now dispatched last counts = record {
  setup = setup;
  logs = logs;
  legal = rw logs rise;
  limit = omega arith;
  count = ap length items ∙ length-replicate {A = PartState} (length s.logs.now) (record { epoch = 0; held = None })
      ∙ ap length (sym logs);
  few = rw logs few;
  few_records = λ p. le-trans _ _ _ (log-total given.logs p) (rw logs total);
  each = λ p d below. subst (λ (x : PartState). PartKeeps given [] p x)
      (sym (ap (λ (xs : List PartState). get_or xs p d) items
      ∙ get_or-replicate (length s.logs.now) p (record { epoch = 0; held = None }) d
      (omega (arith, below, ap length logs))))
      (record { epoch = refl; held = refl; knows = tt });
  order = order ∙ ap (λ (x : Setup). x.settings.order) (sym setup);
  entries = λ p. empty p;
  waiting = record {
    sound = λ w i. absurd (subst (λ (ws : List Retry). In w ws) retries i);
    whole = λ w i. absurd i;
    once = subst (λ (ws : List Retry). IsDistinct same_place ws) (sym retries) distinct-none;
  };
  places = omega arith;
  part_places = λ p held. let out : false ≡ true = held in cc out;
  clock = now;
  jobs = jobs [] refl;
  dispatched = dispatched;
  last = last;
  ledger = counts;
}
  where
    le-trans : (a b n : ℕ) → a ≤ b → b ≤ n → a ≤ n
    le-trans a b n ab bn = omega arith

-- ---- the next records

-- all offsets of a log are below 2^63
all-upto : (n last : ℕ) (rs : List Record) → rises_from n rs ≡ true → 2 ^ 63 ≤ last → upto last rs ≡ rs
all-upto n last [] rise big = refl
all-upto n last (r ∷ rs) rise big =
    let rest = and-right (nat_le n r.offset) _ rise in
    let small = ltb-true r.offset (2 ^ 63 - 1) (and-left _ _ rest) in
    let yes : nat_le r.offset last ≡ true = le-leb r.offset last (omega (arith, small)) in
    rw yes (ap (λ (l : List Record). r ∷ l)
    (all-upto (suc r.offset) last rs (and-right (nat_lt r.offset (2 ^ 63 - 1)) _ rest) big))

pub log-rises : (logs : List (Option (List Record))) (p : ℕ)
    → list_all (λ log. rises_from 0 (unwrap_or log [])) logs ≡ true
    → rises_from 0 (unwrap_or (option_flatten (slice_get logs p)) []) ≡ true
log-rises [] p rise = refl
log-rises (None ∷ logs) zero rise = refl
log-rises (Some log ∷ logs) zero rise = and-left (rises_from 0 log) _ rise
log-rises (log ∷ logs) (suc p) rise = log-rises logs p (and-right (rises_from 0 (unwrap_or log [])) _ rise)

pub legal-logs : (given : Given) (h : List Event) → IsLegal given h
    → list_all (λ log. rises_from 0 (unwrap_or log [])) given.logs ≡ true
legal-logs given [] legal = legal
legal-logs given (v ∷ h) legal = legal-logs given h legal.2

rises-drop : (n least : ℕ) (rs : List Record) → rises_from least rs ≡ true
    → rises_from least (drop n rs) ≡ true
rises-drop zero least rs rise = rise
rises-drop (suc n) least [] rise = refl
rises-drop (suc n) least (r ∷ rs) rise =
    let above = leb-true least r.offset (and-left _ _ rise) in
    let rest = and-right (nat_lt r.offset (2 ^ 63 - 1)) _ (and-right (nat_le least r.offset) _ rise) in
    rises-lower least (suc r.offset) (drop n rs) (omega (arith, above)) (rises-drop n (suc r.offset) rs rest)

-- the records that were not polled rise
unpolled-rises : (given : Given) (h : List Event) (p : ℕ) → IsLegal given h
    → rises_from 0 (unpolled_records given h p) ≡ true
unfolding unpolled_records
unpolled-rises given h p legal = rises-drop (polled_count h p) 0 (records_from_begin given h p)
    (rises-filter (λ (r : Record). nat_le (begin_of h p) r.offset) 0 (records_of given p)
    (log-rises given.logs p (legal-logs given h legal)))

-- those up to the high, or all where nothing presses
pollable-upto : (given : Given) (h : List Event) (p : ℕ) → IsLegal given h → is_held h p ≡ true
    → upto (unwrap_or (if is_blocked given h p then high_of given h p else None) (2 ^ 64 - 1))
    (unpolled_records given h p) ≡ pollable_records given h p
unfolding pollable_records
pollable-upto given h p legal held = elim (cases_Bool (is_blocked given h p)) [
  | inl pressed ↦ let high = blocked_has_high given h p legal held pressed in
      rw (pressed, high.1) refl
  | inr free ↦ rw free (all-upto 0 (2 ^ 64 - 1) (unpolled_records given h p)
      (unpolled-rises given h p legal)
      (omega arith) ∙ sym (filter-all (unpolled_records given h p)))
]
  where
    filter-all : (rs : List Record) → filter (λ r. true) rs ≡ rs
    filter-all [] = refl
    filter-all (r ∷ rs) = ap (λ (l : List Record). r ∷ l) (filter-all rs)

-- the records that a poll takes of those that are left of the log are the next ones
pub next-taken : (given : Given) (h : List Event) (p max last : ℕ) (left : List Record)
    → IsLegal given h → is_held h p ≡ true → unpolled_records given h p ≡ left
    → last ≡ unwrap_or (if is_blocked given h p then high_of given h p else None) (2 ^ 64 - 1)
    → first_upto max last left ≡ next_records given h p max
next-taken given h p max last left legal held is was =
    ap (first_upto max last) (sym is)
    ∙ ap (take max) (upto-while 0 last (unpolled_records given h p) (unpolled-rises given h p legal)
    ∙ ap (λ (n : ℕ). upto n (unpolled_records given h p)) was
    ∙ pollable-upto given h p legal held)

-- they are at most so many, and the first of those that are left
take-few : (n : ℕ) (rs : List Record) → length (take n rs) ≤ n
take-few zero rs = omega arith
take-few (suc n) [] = omega arith
take-few (suc n) (r ∷ rs) = omega (arith, take-few n rs)

pub first-few : (max last : ℕ) (rs : List Record) → length (first_upto max last rs) ≤ max
first-few max last rs = take-few max (take_while (λ (r : Record). nat_le r.offset last) rs)

pub first-front : (max last : ℕ) (rs : List Record)
    → first_upto max last rs ≡ take (length (first_upto max last rs)) rs
first-front zero last rs = refl
first-front (suc max) last [] = refl
first-front (suc max) last (r ∷ rs) = rw (take_while-cons (λ (q : Record). nat_le q.offset last) r rs)
    (by_test (nat_le r.offset last) (first-front max last rs))
  where
    by_test : (t : Bool) → first_upto max last rs ≡ take (length (first_upto max last rs)) rs
        → take (suc max) (cond t (r ∷ take_while (λ (q : Record). nat_le q.offset last) rs) [])
        ≡ take (length (take (suc max)
        (cond t (r ∷ take_while (λ (q : Record). nat_le q.offset last) rs) []))) (r ∷ rs)
    by_test true more = ap (λ (l : List Record). r ∷ l) more
    by_test false more = refl

-- what holds of each item of a list
pub In-All : {X : Type 0} (P : X → Type 0) (xs : List X) → ((x : X) → In x xs → P x)
    → (k : ℕ) (d : X) → k < length xs → P (get_or xs k d)
In-All P [] each k d below = absurd (omega arith)
In-All P (x ∷ xs) each zero d below = each x (inl refl)
In-All P (x ∷ xs) each (suc k) d below = In-All P xs (λ y i. each y (inr i)) k d (omega (arith, below))

-- what a poll takes are the first records that are left
pub are-next : (max last : ℕ) (unpolled left taken : List Record) → unpolled ≡ left
    → taken ≡ first_upto max last left → taken ≡ take (length taken) unpolled
are-next max last unpolled left taken is was =
    was ∙ first-front max last left
    ∙ ap (λ (rs : List Record). take (length rs) left) (sym was)
    ∙ ap (take (length taken)) (sym is)

-- what follows from four facts that hold where a call went through
pub if_ok-of : {T F : Type 0} (r : Result T F) (A : T → Type 0) (B C D : Type 0) (G : T → Type 0)
    → ((x : T) → A x → B → C → D → G x) → IfOk r A → OnOk r B → OnOk r C → OnOk r D → IfOk r G
if_ok-of (Ok x) A B C D G f a b c d = f x a b c d
if_ok-of (Err e) A B C D G f a b c d = tt
