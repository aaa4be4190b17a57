-- What a tick changes of a history, and what is so while the retries whose time has come are taken
-- out.
use Rattle.std.proofs.Common.{◌≡◌, ℕ, ◌≤◌, ◌<◌, Bool, true, false, not, ◌&&◌, ◌||◌, ◌==◌, List, [], ◌∷◌, map, length, Some, None, refl, ap, sym, subst, ◌∙◌, arith, inl, inr, eq-eqb, get_or}
use Rattle.std.specs.Prelude.{filter, nat_le, if◌then◌else◌}
use Rattle.std.specs.List.{IsDistinct, list_any}
use Rattle.std.specs.List.Sorted.{IsPermutation}
use Rattle.std.proofs.lemmas.Bool.{cases_Bool, eqb-true, ne_eqb}
use Rattle.std.proofs.lemmas.Bool.Decides.{nat_tests}
use Rattle.std.proofs.lemmas.List.Sorted.{IsPermutation-sym, length_permutation, list_any-IsPermutation}
use Rattle.std.proofs.lemmas.Map.Keys.{IsDistinct-IsPermutation, IsDistinct-head, IsDistinct-tail}
use Rattle.pc_model.specs.declared.event.Event.{Event}
use Rattle.pc_model.specs.declared.event.Event.TheVariants.{Tick}
use Rattle.pc_model.specs.Record.{Record}
use Rattle.pc_model.specs.Given.{Given}
use Rattle.pc_model.specs.Epochs.{is_held}
use Rattle.pc_model.specs.Known.{is_complete, polled_records}
use Rattle.pc_model.specs.Retry.{failures_of, now_of, ready_of}
use Rattle.pc_model.proofs.SamePart.{other_part}
use Rattle.pc_laws.specs.Lists.{In}
use Rattle.pc_laws.proofs.Lists.{In-filter, In-filtered, In-list_any, In-map, and-left, and-right, list_any-In, not-true, same_test, true-not-false}
use Rattle.pc_retry.specs.declared.queue.Retry.{Retry}
use Rattle.pc_retry.specs.Waiting.{KeepsRooms, Waiting, due_retry}
use Rattle.pc_shards.specs.Entries.{Entry, has_entry_at, of_part, with_busy}
use Rattle.pc_shards.specs.OpenEntries.{entry_of, open_entries}
use Rattle.pc_shards.proofs.Lists.{AllByRecursion-In}
use Rattle.pc_state.specs.declared.state.State.{State}
use Rattle.pc_state.proofs.LedgerLemmas.{counts-tick}
use Rattle.pc_state.proofs.OutLemmas.{out-along}
use Rattle.pc_state.specs.State.{Knows, MayCome, entries_of, is_early, is_kept_back, is_out, is_spent, same_place, waiting_of}
use Rattle.pc_state.proofs.OpenJobsLemmas.{AreOpen-along}
use Rattle.pc_state.proofs.StateLemmas.{entries-free, entries-held, part-same}
use Rattle.pc_state.proofs.RetryLemmas.{In-permuted, same_place-flips}
use Rattle.pc_state.proofs.WaitingLemmas.{Waits, In-waiting, entries-each, entries-freed, retry_of, true-waits, waiting-In, waiting-facts, waits-true}
use Rattle.pc_state.proofs.DueLemmas.{due-none, due-some}

-- ---- while the retries are taken out

-- whether a retry of the offset is among these
abbrev pub waits_in : List Retry → ℕ → ℕ → Bool
waits_in retries p o = list_any (λ w. (w.part == p) && (w.offset == o)) retries

-- whether the offset may not be dispatched, where what is early is among these retries
abbrev pub is_held_up : Given → List Event → List Retry → ℕ → ℕ → Bool
is_held_up given h retries p o = is_out h p o || (is_spent given h p o || waits_in retries p o)

-- the entries of a part then
unfoldable pub entries_while : Given → List Event → List Retry → ℕ → List Entry
entries_while given h retries p = if is_held h p
    then open_entries given h p (λ r. is_held_up given h retries p r.offset)
    (λ r. failures_of h p r.offset)
    else []

-- these are retries of records that wait, among them each whose time is still to come
pub record AreLeft (given : Given) (h : List Event) (now : ℕ) (retries : List Retry) : Type 0 where
  pub sound : (w : Retry) → In w retries → In w (waiting_of given h w.part)
  pub whole : (w : Retry) → In w (waiting_of given h w.part) → now < w.ready_at → In w retries
  pub once : IsDistinct same_place retries

-- the state while the retries are taken out whose time has come
pub record Ticks (given : Given) (h : List Event) (now : ℕ) (old state : State) : Type 0 where
  pub setup : state.setup.now ≡ old.setup.now
  pub logs : state.logs.now ≡ old.logs.now
  pub items : state.parts.items ≡ old.parts.items
  pub order : state.shards.order ≡ old.shards.order
  pub entries : (p : ℕ) → of_part state.shards p ≡ entries_while given h state.retries.retries p
  pub waiting : AreLeft given h now state.retries.retries
  pub room : old.retries.room ≤ state.retries.room
  pub rooms : KeepsRooms old.retries state.retries
  pub jobs : state.jobs ≡ old.jobs
  pub clock : state.clock ≡ now
  pub dispatched : state.dispatched ≡ old.dispatched
  pub last : state.last ≡ old.last
  pub ledger : state.ledger ≡ old.ledger

while-held : (given : Given) (h : List Event) (retries : List Retry) (p : ℕ) → is_held h p ≡ true
    → entries_while given h retries p
    ≡ open_entries given h p (λ r. is_held_up given h retries p r.offset)
    (λ r. failures_of h p r.offset)
unfolding entries_while
while-held given h retries p held = rw held refl

while-free : (given : Given) (h : List Event) (retries : List Retry) (p : ℕ) → is_held h p ≡ false
    → entries_while given h retries p ≡ []
unfolding entries_while
while-free given h retries p free = rw free refl

-- a retry among them is of the offset
waits-some : (retries : List Retry) (p o : ℕ) → waits_in retries p o ≡ true
    → (w : Retry) × In w retries × (w.part ≡ p) × (w.offset ≡ o)
waits-some retries p o waits =
    let w = In-list_any (λ (w : Retry). (w.part == p) && (w.offset == o)) retries waits in (
      w.0,
      w.1,
      eqb-true w.0.part p (and-left (w.0.part == p) _ w.2),
      eqb-true w.0.offset o (and-right (w.0.part == p) _ w.2),
    )

some-waits : (retries : List Retry) (w : Retry) (p o : ℕ) → In w retries → w.part ≡ p
    → w.offset ≡ o → waits_in retries p o ≡ true
some-waits retries w p o i part offset =
    list_any-In (λ (w : Retry). (w.part == p) && (w.offset == o)) w retries i
    (rw (eq-eqb w.part p part, eq-eqb w.offset o offset) refl)

either-same : (a b c d : Bool) → (a ≡ false → b ≡ false → c ≡ d) → (a || (b || c)) ≡ (a || (b || d))
either-same true b c d same = refl
either-same false true c d same = refl
either-same false false c d same = same refl refl

-- what is early in one history is among the retries of another
module _ (given : Given) (h k : List Event) (p : ℕ) (retries : List Retry) (held : is_held h p ≡ true)
    (early : (w : Retry) → In w retries → w.part ≡ p → is_early k p w.offset ≡ true)
    (there : (r : Record) → In r (polled_records given h p) → Waits given h p r.offset
    → is_early k p r.offset ≡ true → In (retry_of h p r) retries)
    (was : (o : ℕ) → is_early k p o ≡ true → is_early h p o ≡ true) where
  waits-early : (r : Record) → In r (polled_records given h p) → is_complete h p r.offset ≡ false
      → is_held_up given h retries p r.offset
      ≡ (is_out h p r.offset || (is_spent given h p r.offset || is_early k p r.offset))
  waits-early r i incomplete = either-same (is_out h p r.offset) (is_spent given h p r.offset)
      (waits_in retries p r.offset) (is_early k p r.offset) (λ out spent.
      same_test (waits_in retries p r.offset) (is_early k p r.offset)
      (λ waits. let w = waits-some retries p r.offset waits in
      subst (λ (o : ℕ). is_early k p o ≡ true) w.3 (early w.0 w.1 w.2))
      (λ later. some-waits retries (retry_of h p r) p r.offset (there r i (record {
        incomplete = incomplete;
        out = out;
        spent = spent;
        early = was r.offset later;
      }) later) refl refl))

-- ---- before the first

module _ (given : Given) (h : List Event) (s : State) (knows : Knows given h s) where
  start-entries : (p : ℕ) → entries_of given h p ≡ entries_while given h s.retries.retries p
  unfolding is_kept_back
  start-entries p = elim (cases_Bool (is_held h p)) [
    | inr free ↦ entries-free given h p free ∙ sym (while-free given h s.retries.retries p free)
    | inl held ↦ entries-held given h p held
        ∙ sym (entries-each (λ r. is_kept_back given h p r.offset)
        (λ r. is_held_up given h s.retries.retries p r.offset) (λ r. failures_of h p r.offset)
        (filter (λ r. not (is_complete h p r.offset)) (polled_records given h p))
        (λ r i. let at = In-filtered (λ (q : Record). not (is_complete h p q.offset)) r
        (polled_records given h p) i in
        waits-early given h h p s.retries.retries held
        (λ w j part. subst (λ (q : ℕ). is_early h q w.offset ≡ true) part
        (waiting-facts given h w.part w (knows.waiting.sound w j)).2.early)
        (λ q j waits later. knows.waiting.whole (retry_of h p q)
        (waiting-In given h p (retry_of h p q)
        (record { held = held; entry = q; polled = j; waits = true-waits given h p q waits; is = refl })))
        (λ o later. later) r at.0 (not-true _ at.1)))
        ∙ sym (while-held given h s.retries.retries p held)
  ]

  pub ticks-start : (now : ℕ) (state : State) → state.setup.now ≡ s.setup.now
      → state.logs.now ≡ s.logs.now → state.parts.items ≡ s.parts.items → state.shards ≡ s.shards
      → state.retries ≡ s.retries → state.jobs ≡ s.jobs → state.clock ≡ now
      → state.dispatched ≡ s.dispatched → state.last ≡ s.last → state.ledger ≡ s.ledger
      → Ticks given h now s state
  ticks-start now state setup logs items shards retries jobs clock dispatched last ledger = record {
    setup = setup;
    logs = logs;
    items = items;
    order = ap (λ e. e.order) shards;
    entries = λ p. ap (λ e. of_part e p) shards ∙ knows.entries p ∙ start-entries p
        ∙ ap (λ (q : Waiting). entries_while given h q.retries p) (sym retries);
    waiting = rw retries (record {
      sound = knows.waiting.sound;
      whole = λ w i later. knows.waiting.whole w i;
      once = knows.waiting.once;
    });
    room = rw retries (omega arith);
    rooms = rw retries (λ p. omega arith);
    jobs = jobs;
    clock = clock;
    dispatched = dispatched;
    last = last;
    ledger = ledger;
  }

-- ---- one of them

-- a test finds it in a list, or in the rest
taken-any : (f : Retry → Bool) (w : Retry) (before rest : List Retry)
    → IsPermutation before (w ∷ rest) → list_any f before ≡ (f w || list_any f rest)
taken-any f w before rest taken = list_any-IsPermutation f before (w ∷ rest) taken

-- no other retry is of its record
taken-alone : (w : Retry) (rest : List Retry) → IsDistinct same_place (w ∷ rest)
    → waits_in rest w.part w.offset ≡ false
taken-alone w rest once = elim (cases_Bool (waits_in rest w.part w.offset)) [
  | inr none ↦ none
  | inl some ↦
      let v = waits-some rest w.part w.offset some in
      let apart = AllByRecursion-In (λ (y : Retry). same_place w y ≡ false) v.0 rest
      (IsDistinct-head same_place w rest once) v.1 in
      true-not-false (same_place w v.0)
      (rw (eq-eqb w.part v.0.part (sym v.2), eq-eqb w.offset v.0.offset (sym v.3)) refl) apart
]

module _ (given : Given) (h : List Event) (now : ℕ) (w : Retry) (before rest : List Retry)
    (left : AreLeft given h now before) (taken : IsPermutation before (w ∷ rest))
    (come : w.ready_at ≤ now) where
  taken-In : In w before
  taken-In = In-permuted (w ∷ rest) before w (IsPermutation-sym before (w ∷ rest) taken) (inl refl)

  taken-once : IsDistinct same_place (w ∷ rest)
  taken-once = IsDistinct-IsPermutation same_place same_place-flips before (w ∷ rest) taken left.once

  taken-facts : Waits given h w.part w.offset
  taken-facts = (waiting-facts given h w.part w (left.sound w taken-In)).2

  taken-held : is_held h w.part ≡ true
  taken-held = (In-waiting given h w.part w (left.sound w taken-In)).held

  taken-left : AreLeft given h now rest
  taken-left = record {
    sound = λ v i. left.sound v
        (In-permuted (w ∷ rest) before v (IsPermutation-sym before (w ∷ rest) taken) (inr i));
    whole = λ v i later. elim (In-permuted before (w ∷ rest) v taken (left.whole v i later)) [
      | inl same ↦
          let at : v.ready_at ≡ w.ready_at = ap (λ (x : Retry). x.ready_at) same in
          absurd (omega (arith, later, at, come))
      | inr other ↦ other
    ];
    once = IsDistinct-tail same_place w rest taken-once;
  }

  -- what is held up of another offset is the same
  taken-other : (p o : ℕ) → ((w.part == p) && (w.offset == o)) ≡ false
      → is_held_up given h rest p o ≡ is_held_up given h before p o
  taken-other p o apart = ap (λ (b : Bool). is_out h p o || (is_spent given h p o || b))
      (sym (taken-any (λ v. (v.part == p) && (v.offset == o)) w before rest taken ∙ rw apart refl))

  taken-here : is_held_up given h rest w.part w.offset ≡ false
  taken-here = rw (taken-facts.out, taken-facts.spent, taken-alone w rest taken-once) refl

  -- so the entry at its offset is busy no longer
  taken-entries : entries_while given h rest w.part
      ≡ with_busy w.offset false (entries_while given h before w.part)
  taken-entries = while-held given h rest w.part taken-held
      ∙ entries-freed w.offset (λ r. is_held_up given h before w.part r.offset)
      (λ r. is_held_up given h rest w.part r.offset) (λ r. failures_of h w.part r.offset)
      (filter (λ r. not (is_complete h w.part r.offset)) (polled_records given h w.part))
      (λ r i here. ap (is_held_up given h rest w.part) (eqb-true r.offset w.offset here) ∙ taken-here)
      (λ r i apart. taken-other w.part r.offset (flipped r.offset apart))
      ∙ ap (with_busy w.offset false) (sym (while-held given h before w.part taken-held))
    where
      flipped : (o : ℕ) → (o == w.offset) ≡ false → ((w.part == w.part) && (w.offset == o)) ≡ false
      flipped o apart = rw (eq-eqb w.part w.part refl)
          (ne_eqb w.offset o (λ (e : w.offset ≡ o). true-not-false (o == w.offset)
          (eq-eqb o w.offset (sym e)) apart))

  taken-elsewhere : (q : ℕ) → (q == w.part) ≡ false
      → entries_while given h rest q ≡ entries_while given h before q
  taken-elsewhere q apart = elim (cases_Bool (is_held h q)) [
    | inr free ↦ while-free given h rest q free ∙ sym (while-free given h before q free)
    | inl held ↦ while-held given h rest q held
        ∙ entries-each (λ r. is_held_up given h before q r.offset)
        (λ r. is_held_up given h rest q r.offset) (λ r. failures_of h q r.offset)
        (filter (λ r. not (is_complete h q r.offset)) (polled_records given h q))
        (λ r i. taken-other q r.offset (rw (ne_eqb w.part q (λ (e : w.part ≡ q).
        true-not-false (q == w.part) (eq-eqb q w.part (sym e)) apart)) refl))
        ∙ sym (while-held given h before q held)
  ]

  -- the part has an entry at its offset
  taken-there : has_entry_at w.offset (entries_while given h before w.part) ≡ true
  taken-there =
      let at = In-waiting given h w.part w (left.sound w taken-In) in
      let offset : at.entry.offset ≡ w.offset = ap (λ (x : Retry). x.offset) (sym at.is) in
      let open_there : not (is_complete h w.part at.entry.offset) ≡ true =
      ap not (waits-true given h w.part at.entry at.waits).incomplete in
      let busy : Record → Bool = λ r. is_held_up given h before w.part r.offset in
      let failures : Record → ℕ = λ r. failures_of h w.part r.offset in
      rw (while-held given h before w.part taken-held)
      (list_any-In (λ (e : Entry). e.record.offset == w.offset)
      (entry_of busy failures at.entry) (open_entries given h w.part busy failures)
      (In-map (entry_of busy failures) at.entry
      (filter (λ (r : Record). not (is_complete h w.part r.offset)) (polled_records given h w.part))
      (In-filter (λ (r : Record). not (is_complete h w.part r.offset)) at.entry
      (polled_records given h w.part) at.polled open_there))
      (eq-eqb at.entry.offset w.offset offset))

pub ticks-there : (given : Given) (h : List Event) (now : ℕ) (old state : State) (w : Retry)
    (p u : ℕ) (rest : List Retry) → Ticks given h now old state
    → due_retry now state.retries.retries ≡ Some w → p ≡ w.part → u ≡ w.offset
    → IsPermutation state.retries.retries (w ∷ rest)
    → has_entry_at u (of_part state.shards p) ≡ true
ticks-there given h now old state w p u rest ticks due part offset taken =
    rw (part, offset, ticks.entries w.part)
    (taken-there given h now w state.retries.retries rest ticks.waiting taken
    (due-some now w state.retries.retries due).1)

-- the state with the retry taken out, and its record's entry free
pub record Frees (old new : State) (w : Retry) (p u : ℕ) : Type 0 where
  pub part : p ≡ w.part
  pub offset : u ≡ w.offset
  pub setup : new.setup.now ≡ old.setup.now
  pub logs : new.logs.now ≡ old.logs.now
  pub items : new.parts.items ≡ old.parts.items
  pub order : new.shards.order ≡ old.shards.order
  pub free : of_part new.shards p ≡ with_busy u false (of_part old.shards p)
  pub others : (q : ℕ) → (q == p) ≡ false → of_part new.shards q ≡ of_part old.shards q
  pub retries : IsPermutation old.retries.retries (w ∷ new.retries.retries)
  pub room : old.retries.room ≤ new.retries.room
  pub rooms : KeepsRooms old.retries new.retries
  pub jobs : new.jobs ≡ old.jobs
  pub clock : new.clock ≡ old.clock
  pub dispatched : new.dispatched ≡ old.dispatched
  pub last : new.last ≡ old.last
  pub ledger : new.ledger ≡ old.ledger

pub ticks-step : (given : Given) (h : List Event) (now : ℕ) (old state new : State) (w : Retry)
    (p u : ℕ) → Ticks given h now old state → due_retry now state.retries.retries ≡ Some w
    → Frees state new w p u → Ticks given h now old new
ticks-step given h now old state new w p u ticks due frees =
    let come = (due-some now w state.retries.retries due).1 in
    let free : of_part new.shards w.part ≡ with_busy w.offset false (of_part state.shards w.part) =
    subst (λ (v : ℕ). of_part new.shards v ≡ with_busy w.offset false (of_part state.shards v))
    frees.part (subst (λ (v : ℕ). of_part new.shards p ≡ with_busy v false (of_part state.shards p))
    frees.offset frees.free) in
    record {
      setup = frees.setup ∙ ticks.setup;
      logs = frees.logs ∙ ticks.logs;
      items = frees.items ∙ ticks.items;
      order = frees.order ∙ ticks.order;
      entries = λ q. elim (cases_Bool (q == w.part)) [
        | inl same ↦ subst (λ (v : ℕ). of_part new.shards v
            ≡ entries_while given h new.retries.retries v) (sym (eqb-true q w.part same))
            (free ∙ ap (with_busy w.offset false) (ticks.entries w.part)
            ∙ sym (taken-entries given h now w state.retries.retries new.retries.retries
            ticks.waiting frees.retries come))
        | inr apart ↦ frees.others q (subst (λ (v : ℕ). (q == v) ≡ false) (sym frees.part) apart)
            ∙ ticks.entries q
            ∙ sym (taken-elsewhere given h now w state.retries.retries new.retries.retries
            ticks.waiting frees.retries come q apart)
      ];
      waiting = taken-left given h now w state.retries.retries new.retries.retries ticks.waiting
          frees.retries come;
      room = omega (arith, ticks.room, frees.room);
      rooms = λ q. let le = ticks.rooms q in let more = frees.rooms q in omega (arith, le, more);
      jobs = frees.jobs ∙ ticks.jobs;
      clock = frees.clock ∙ ticks.clock;
      dispatched = frees.dispatched ∙ ticks.dispatched;
      last = frees.last ∙ ticks.last;
      ledger = frees.ledger ∙ ticks.ledger;
    }

-- one less is left
pub ticks-fewer : (w : Retry) (before rest : List Retry) → IsPermutation before (w ∷ rest)
    → length rest < length before
ticks-fewer w before rest taken = omega (arith, length_permutation before (w ∷ rest) taken)

-- ---- after the last

module _ (given : Given) (h : List Event) (now : ℕ) (old state : State) (knows : Knows given h old)
    (may : MayCome given (Tick now) h) (ticks : Ticks given h now old state)
    (none : due_retry now state.retries.retries ≡ None) where
  -- each that is left waits until later
  left-later : (w : Retry) → In w state.retries.retries → now < w.ready_at
  left-later w i = due-none now w state.retries.retries none i

  later-early : (n : ℕ) → now < n → not (nat_le n now) ≡ true
  later-early n later = grind (arith, nat_tests)

  early-later : (n : ℕ) → not (nat_le n now) ≡ true → now < n
  early-later n early = grind (arith, nat_tests)

  -- what is early then was so before
  tick-early : (p o : ℕ) → is_early (Tick now ∷ h) p o ≡ true
      → (is_early h p o ≡ true) × (now < ready_of h p o)
  unfolding is_early
  tick-early p o early =
      let later : now < ready_of h p o = early-later (ready_of h p o) early in
      let ticked : now_of h < now = may.legal.0 in
      (grind (arith, nat_tests), later)

  left-early : (w : Retry) → In w state.retries.retries
      → is_early (Tick now ∷ h) w.part w.offset ≡ true
  unfolding is_early
  left-early w i =
      let is : w.ready_at ≡ ready_of h w.part w.offset =
      (waiting-facts given h w.part w (ticks.waiting.sound w i)).1 in
      subst (λ (n : ℕ). not (nat_le n now) ≡ true) is (later-early w.ready_at (left-later w i))

  tick-waits : (p o : ℕ) → Waits given (Tick now ∷ h) p o → Waits given h p o
  unfolding is_complete is_out is_spent
  tick-waits p o waits = record {
    incomplete = waits.incomplete;
    out = waits.out;
    spent = waits.spent;
    early = (tick-early p o waits.early).0;
  }

  waits-tick : (p o : ℕ) → is_early (Tick now ∷ h) p o ≡ true → Waits given h p o
      → Waits given (Tick now ∷ h) p o
  unfolding is_complete is_out is_spent
  waits-tick p o early waits = record {
    incomplete = waits.incomplete;
    out = waits.out;
    spent = waits.spent;
    early = early;
  }

  -- each that waits then is left
  tick-whole : (p : ℕ) (w : Retry) → In w (waiting_of given (Tick now ∷ h) p)
      → In w state.retries.retries
  unfolding polled_records
  tick-whole p w i =
      let at = In-waiting given (Tick now ∷ h) p w i in
      let waits = waits-true given (Tick now ∷ h) p at.entry at.waits in
      let part : p ≡ w.part = ap (λ (x : Retry). x.part) (sym at.is) in
      ticks.waiting.whole w
      (subst (λ (q : ℕ). In w (waiting_of given h q)) part (waiting-In given h p w (record {
        held = at.held;
        entry = at.entry;
        polled = at.polled;
        waits = true-waits given h p at.entry (tick-waits p at.entry.offset waits);
        is = at.is;
      })))
      (subst (λ (n : ℕ). now < n) (ap (λ (x : Retry). x.ready_at) (sym at.is))
      (tick-early p at.entry.offset waits.early).1)

  tick-sound : (w : Retry) → In w state.retries.retries
      → In w (waiting_of given (Tick now ∷ h) w.part)
  unfolding polled_records
  tick-sound w i =
      let at = In-waiting given h w.part w (ticks.waiting.sound w i) in
      let offset : w.offset ≡ at.entry.offset = ap (λ (x : Retry). x.offset) at.is in
      waiting-In given (Tick now ∷ h) w.part w (record {
        held = at.held;
        entry = at.entry;
        polled = at.polled;
        waits = true-waits given (Tick now ∷ h) w.part at.entry
            (waits-tick w.part at.entry.offset
            (subst (λ (o : ℕ). is_early (Tick now ∷ h) w.part o ≡ true) offset (left-early w i))
            (waits-true given h w.part at.entry at.waits));
        is = at.is;
      })

  tick-kept_back : (p o : ℕ) → is_kept_back given (Tick now ∷ h) p o
      ≡ (is_out h p o || (is_spent given h p o || is_early (Tick now ∷ h) p o))
  unfolding is_kept_back is_out is_spent
  tick-kept_back p o = refl

  tick-open : (p : ℕ) → is_held h p ≡ true → entries_of given (Tick now ∷ h) p
      ≡ map (entry_of (λ r. is_kept_back given (Tick now ∷ h) p r.offset) (λ r. failures_of h p r.offset))
      (filter (λ r. not (is_complete h p r.offset)) (polled_records given h p))
  unfolding polled_records is_complete
  tick-open p held = entries-held given (Tick now ∷ h) p held

  tick-entries : (p : ℕ) → entries_of given (Tick now ∷ h) p
      ≡ entries_while given h state.retries.retries p
  tick-entries p = elim (cases_Bool (is_held h p)) [
    | inr free ↦ entries-free given (Tick now ∷ h) p free
        ∙ sym (while-free given h state.retries.retries p free)
    | inl held ↦ tick-open p held
        ∙ sym (entries-each (λ r. is_kept_back given (Tick now ∷ h) p r.offset)
        (λ r. is_held_up given h state.retries.retries p r.offset) (λ r. failures_of h p r.offset)
        (filter (λ r. not (is_complete h p r.offset)) (polled_records given h p))
        (λ r i. let at = In-filtered (λ (q : Record). not (is_complete h p q.offset)) r
        (polled_records given h p) i in
        waits-early given h (Tick now ∷ h) p state.retries.retries held
        (λ w j part. subst (λ (q : ℕ). is_early (Tick now ∷ h) q w.offset ≡ true) part
        (left-early w j))
        (λ q j waits later. ticks.waiting.whole (retry_of h p q)
        (waiting-In given h p (retry_of h p q)
        (record { held = held; entry = q; polled = j; waits = true-waits given h p q waits; is = refl }))
        (tick-early p q.offset later).1)
        (λ o later. (tick-early p o later).0) r at.0 (not-true _ at.1)
        ∙ sym (tick-kept_back p r.offset)))
        ∙ sym (while-held given h state.retries.retries p held)
  ]

  pub knows-tick : Knows given (Tick now ∷ h) state
  knows-tick = record {
    setup = knows.setup ∙ sym ticks.setup;
    logs = knows.logs ∙ sym ticks.logs;
    legal = may.legal;
    limit = may.limit;
    count = ap length ticks.items ∙ knows.count;
    few = knows.few;
    few_records = knows.few_records;
    each = λ q d within. rw ticks.items (part-same given h (Tick now ∷ h) q
        (get_or old.parts.items q d)
        (other_part given q (Tick now) h refl) (knows.each q d within));
    order = ticks.order ∙ knows.order;
    entries = λ q. ticks.entries q ∙ sym (tick-entries q);
    waiting = record {
      sound = tick-sound;
      whole = λ w i. tick-whole w.part w i;
      once = ticks.waiting.once;
    };
    places = omega (arith, knows.places, ticks.room);
    part_places = λ q held. rw (out-along h (Tick now ∷ h) q refl refl)
        (let le = knows.part_places q held in let more = ticks.rooms q in omega (arith, le, more));
    jobs = rw ticks.jobs (AreOpen-along h (Tick now ∷ h) old.jobs refl knows.jobs);
    clock = ticks.clock;
    dispatched = ticks.dispatched ∙ knows.dispatched;
    last = ticks.last ∙ knows.last;
    ledger = rw ticks.ledger (counts-tick given h now old.ledger knows.ledger);
  }

-- none is due: the same ones are left
pub ticks-none : (given : Given) (h : List Event) (now : ℕ) (old state : State) (left : Waiting)
    → Ticks given h now old state → left.retries ≡ state.retries.retries
    → state.retries.room ≤ left.room → KeepsRooms state.retries left
    → Ticks given h now old (record state { retries = left })
ticks-none given h now old state left ticks same room rooms = record {
  setup = ticks.setup;
  logs = ticks.logs;
  items = ticks.items;
  order = ticks.order;
  entries = λ p. rw same (ticks.entries p);
  waiting = rw same ticks.waiting;
  room = omega (arith, ticks.room, room);
  rooms = λ q. let le = ticks.rooms q in let more = rooms q in omega (arith, le, more);
  jobs = ticks.jobs;
  clock = ticks.clock;
  dispatched = ticks.dispatched;
  last = ticks.last;
  ledger = ticks.ledger;
}
