-- Which retries wait, and the entries of records by one test and another.
use Rattle.std.proofs.Common.{◌≡◌, ℕ, ◌+◌, Bool, true, false, not, ◌==◌, List, [], ◌∷◌, map, refl, ap, sym, subst, ◌∙◌, inl, inr}
use Rattle.std.specs.Prelude.{filter}
use Rattle.std.proofs.lemmas.Bool.{cases_Bool}
use Rattle.pc_model.specs.declared.event.Event.{Event}
use Rattle.pc_model.specs.Record.{Record}
use Rattle.pc_model.specs.Given.{Given}
use Rattle.pc_model.specs.Epochs.{is_held}
use Rattle.pc_model.specs.Known.{is_complete, polled_records}
use Rattle.pc_model.specs.Retry.{ready_of}
use Rattle.pc_laws.specs.Lists.{In}
use Rattle.pc_laws.proofs.Lists.{In-filter, In-filtered, In-map, In-mapped, and-left, and-right, not-true}
use Rattle.pc_retry.specs.declared.queue.Retry.{Retry}
use Rattle.pc_shards.specs.Entries.{with_busy, with_failure}
use Rattle.pc_shards.specs.OpenEntries.{entry_of}
use Rattle.pc_state.specs.State.{is_early, is_out, is_spent, is_waiting, waiting_of}
use Rattle.pc_state.proofs.StateLemmas.{waiting-free, waiting-held}

-- ---- a retry that waits

-- the retry of a record
abbrev pub retry_of : List Event → ℕ → Record → Retry
retry_of h p r = record { ready_at = ready_of h p r.offset; part = p; offset = r.offset }

-- the retry is that of a polled record of the part, which is held and waits
pub record IsWaitingFor (given : Given) (h : List Event) (p : ℕ) (w : Retry) : Type 0 where
  pub held : is_held h p ≡ true
  pub entry : Record
  pub polled : In entry (polled_records given h p)
  pub waits : is_waiting given h p entry ≡ true
  pub is : w ≡ retry_of h p entry

pub waiting-In : (given : Given) (h : List Event) (p : ℕ) (w : Retry)
    → IsWaitingFor given h p w → In w (waiting_of given h p)
waiting-In given h p w at = rw (waiting-held given h p at.held)
    (subst (λ (x : Retry). In x (map (retry_of h p) (filter (is_waiting given h p)
    (polled_records given h p)))) (sym at.is)
    (In-map (retry_of h p) at.entry (filter (is_waiting given h p) (polled_records given h p))
    (In-filter (is_waiting given h p) at.entry (polled_records given h p) at.polled at.waits)))

pub In-waiting : (given : Given) (h : List Event) (p : ℕ) (w : Retry)
    → In w (waiting_of given h p) → IsWaitingFor given h p w
In-waiting given h p w i = elim (cases_Bool (is_held h p)) [
  | inl held ↦
      let j : In w (map (retry_of h p) (filter (is_waiting given h p) (polled_records given h p))) =
      subst (λ (ws : List Retry). In w ws) (waiting-held given h p held) i in
      let of = In-mapped (retry_of h p) w (filter (is_waiting given h p)
      (polled_records given h p)) j in
      let at = In-filtered (is_waiting given h p) of.0 (polled_records given h p) of.1 in
      record { held = held; entry = of.0; polled = at.0; waits = at.1; is = sym of.2 }
  | inr free ↦ absurd (subst (λ (ws : List Retry). In w ws) (waiting-free given h p free) i)
]

-- what it is to wait
pub record Waits (given : Given) (h : List Event) (p o : ℕ) : Type 0 where
  pub incomplete : is_complete h p o ≡ false
  pub out : is_out h p o ≡ false
  pub spent : is_spent given h p o ≡ false
  pub early : is_early h p o ≡ true

pub waits-true : (given : Given) (h : List Event) (p : ℕ) (r : Record)
    → is_waiting given h p r ≡ true → Waits given h p r.offset
unfolding is_waiting
waits-true given h p r waits =
    let more = and-right (not (is_complete h p r.offset)) _ waits in
    let last = and-right (not (is_out h p r.offset)) _ more in record {
      incomplete = not-true _ (and-left _ _ waits);
      out = not-true _ (and-left _ _ more);
      spent = not-true _ (and-left _ _ last);
      early = and-right (not (is_spent given h p r.offset)) _ last;
    }

pub true-waits : (given : Given) (h : List Event) (p : ℕ) (r : Record)
    → Waits given h p r.offset → is_waiting given h p r ≡ true
unfolding is_waiting
true-waits given h p r waits = rw (waits.incomplete, waits.out, waits.spent, waits.early) refl

-- of a retry that waits
pub waiting-facts : (given : Given) (h : List Event) (p : ℕ) (w : Retry)
    → In w (waiting_of given h p)
    → (w.part ≡ p) × (w.ready_at ≡ ready_of h p w.offset) × Waits given h p w.offset
waiting-facts given h p w i =
    let at = In-waiting given h p w i in
    let offset : at.entry.offset ≡ w.offset = ap (λ (x : Retry). x.offset) (sym at.is) in (
      ap (λ (x : Retry). x.part) at.is,
      ap (λ (x : Retry). x.ready_at) at.is ∙ ap (ready_of h p) offset,
      subst (Waits given h p) offset (waits-true given h p at.entry at.waits),
    )

-- ---- the entries of records

-- those at one offset are no longer busy
pub entries-freed : (o : ℕ) (a b : Record → Bool) (n : Record → ℕ) (rs : List Record)
    → ((r : Record) → In r rs → (r.offset == o) ≡ true → b r ≡ false)
    → ((r : Record) → In r rs → (r.offset == o) ≡ false → b r ≡ a r)
    → map (entry_of b n) rs ≡ with_busy o false (map (entry_of a n) rs)
entries-freed o a b n [] here there = refl
entries-freed o a b n (r ∷ rs) here there =
    let more = entries-freed o a b n rs (λ q i. here q (inr i)) (λ q i. there q (inr i)) in
    elim (cases_Bool (r.offset == o)) [
      | inl at ↦ rw (here r (inl refl) at, at, more) refl
      | inr apart ↦ rw (there r (inl refl) apart, apart, more) refl
    ]

-- those at one offset failed once more
pub entries-failed : (o : ℕ) (a : Record → Bool) (n m : Record → ℕ) (rs : List Record)
    → ((r : Record) → (r.offset == o) ≡ true → m r ≡ n r + 1)
    → ((r : Record) → (r.offset == o) ≡ false → m r ≡ n r)
    → map (entry_of a m) rs ≡ with_failure o (map (entry_of a n) rs)
entries-failed o a n m [] here there = refl
entries-failed o a n m (r ∷ rs) here there =
    let more = entries-failed o a n m rs here there in
    elim (cases_Bool (r.offset == o)) [
      | inl at ↦ rw (here r at, at, more) refl
      | inr apart ↦ rw (there r apart, apart, more) refl
    ]

-- by tests that agree on each record they are the same
pub entries-each : (a b : Record → Bool) (n : Record → ℕ) (rs : List Record)
    → ((r : Record) → In r rs → b r ≡ a r) → map (entry_of b n) rs ≡ map (entry_of a n) rs
entries-each a b n [] same = refl
entries-each a b n (r ∷ rs) same = rw (
  same r (inl refl),
  entries-each a b n rs (λ q i. same q (inr i)),
) refl
