-- What a state says of an offset that failed: whether it has an attempt left, and whether its time
-- is still to come.
use Rattle.std.proofs.Common.{◌≡◌, ℕ, ◌+◌, ◌≤◌, ◌<◌, true, false, not, ◌==◌, List, [], ◌∷◌, length, Some, refl, ap, sym, subst, ◌∙◌, arith, inl, inr}
use Rattle.std.specs.Prelude.{filter, nat_le, nat_lt}
use Rattle.std.specs.Option.{option_map_or}
use Rattle.std.proofs.lemmas.Bool.{cases_Bool}
use Rattle.std.proofs.lemmas.Bool.Decides.{nat_tests}
use Rattle.pc_model.specs.declared.setup.Setup.{Setup}
use Rattle.pc_model.specs.declared.event.Event.{Event}
use Rattle.pc_model.specs.declared.event.Event.TheVariants.{Failure}
use Rattle.pc_model.specs.Given.{Given}
use Rattle.pc_model.specs.Jobs.{Job, open_jobs}
use Rattle.pc_model.specs.Epochs.{is_held}
use Rattle.pc_model.specs.Known.{is_complete, polled_records}
use Rattle.pc_model.specs.Retry.{failures_of}
use Rattle.pc_laws.specs.Lists.{In}
use Rattle.pc_laws.proofs.Lists.{In-find, In-mapped, list_any-In}
use Rattle.pc_shards.specs.Entries.{Entry, entry_at, has_entry_at, of_part, with_failure}
use Rattle.pc_shards.specs.OpenEntries.{entry_of}
use Rattle.pc_state.specs.declared.state.State.{State}
use Rattle.pc_state.specs.State.{Knows, entries_of, is_early, is_kept_back, is_spent}
use Rattle.pc_state.proofs.StateLemmas.{entries-free, entries-held}
use Rattle.pc_state.proofs.AtWork.{IsAtWork, entry-found, open-at, some-same}
use Rattle.pc_state.proofs.DispatchLemmas.{failures-small}
use Rattle.pc_state.proofs.FailureLemmas.{failure-failures_here, failure-ready_here}

-- no entry failed more often than there are events
pub entry-failures : (given : Given) (h : List Event) (s : State) (p : ℕ) (e : Entry)
    → Knows given h s → In e (of_part s.shards p) → e.failures ≤ 4000000
entry-failures given h s p e knows i =
    let j : In e (entries_of given h p) = subst (λ (es : List Entry). In e es) (knows.entries p) i in
    elim (cases_Bool (is_held h p)) [
      | inr free ↦ absurd (subst (λ (es : List Entry). In e es) (entries-free given h p free) j)
      | inl held ↦
          let m = In-mapped (entry_of (λ r. is_kept_back given h p r.offset)
          (λ r. failures_of h p r.offset)) e
          (filter (λ r. not (is_complete h p r.offset)) (polled_records given h p))
          (subst (λ (es : List Entry). In e es) (entries-held given h p held) j) in
          subst (λ (x : Entry). x.failures ≤ 4000000) m.2
          (failures-small given h s knows p m.0.offset)
    ]

-- the entry that failed once more
entry_at-failed : (o : ℕ) (es : List Entry) (e : Entry) → entry_at o es ≡ Some e
    → entry_at o (with_failure o es)
    ≡ Some (record { «record» = e.record; failures = e.failures + 1; is_busy = e.is_busy })
entry_at-failed o [] e found = cc
entry_at-failed o (x ∷ es) e found = elim (cases_Bool (x.record.offset == o)) [
  | inl here ↦
      let same : x ≡ e = some-same (rw here at found) in
      rw (here, here) (ap (λ (y : Entry). Some (record
      { «record» = y.record; failures = y.failures + 1; is_busy = y.is_busy })) same)
  | inr apart ↦ rw (apart, apart) (entry_at-failed o es e (rw apart at found))
]

entry_at-has : (o : ℕ) (es : List Entry) (e : Entry) → entry_at o es ≡ Some e
    → has_entry_at o es ≡ true
entry_at-has o es e found = let at = In-find (λ (x : Entry). x.record.offset == o) e es found in
    list_any-In (λ (x : Entry). x.record.offset == o) e es at.0 at.1

module _ (given : Given) (h : List Event) (t p o code ready : ℕ) (s : State)
    (knows : Knows given h s) (work : IsAtWork h t p o) (es : List Entry)
    (failed_once : es ≡ with_failure o (of_part s.shards p)) where
  entry-then : (e : Entry) × (entry_at o es ≡ Some e) × (e.failures ≡ failures_of h p o + 1)
  entry-then =
      let at = open-at given h t p o knows.legal work in
      let was = entry_of (λ r. is_kept_back given h p r.offset) (λ r. failures_of h p r.offset)
      at.entry in (
        record { «record» = was.record; failures = was.failures + 1; is_busy = was.is_busy },
        ap (entry_at o) failed_once
            ∙ entry_at-failed o (of_part s.shards p) was (entry-found given h s p o knows work.held at),
        ap (λ (u : ℕ). failures_of h p u + 1) at.offset,
      )

  -- it is in the part
  pub entry-there : has_entry_at o es ≡ true
  entry-there = entry_at-has o es entry-then.0 entry-then.1

  -- it has no attempt left where the offset has none
  pub spent-then : option_map_or (λ e. not (nat_lt e.failures s.setup.now.settings.give_up))
      (entry_at o es) false ≡ is_spent given (Failure t code ready ∷ h) p o
  unfolding is_spent
  spent-then = rw entry-then.1 (
      ap (λ (n : ℕ). not (nat_lt n s.setup.now.settings.give_up)) (entry-then.2
      ∙ sym (failure-failures_here given h t p o code ready knows.legal work))
      ∙ ap (λ (setup : Setup). not (nat_lt (failures_of (Failure t code ready ∷ h) p o)
      setup.settings.give_up)) (sym knows.setup))

  -- and its time is still to come where the clock says so
  pub early-then : is_early (Failure t code ready ∷ h) p o ≡ not (nat_le ready s.clock)
  unfolding is_early
  early-then = rw (failure-ready_here given h t p o code ready knows.legal work, knows.clock) refl

pub early-true : (ready clock : ℕ) → clock < ready → true ≡ not (nat_le ready clock)
early-true ready clock later = grind (arith, nat_tests)

pub early-false : (ready clock : ℕ) → ready ≤ clock → false ≡ not (nat_le ready clock)
early-false ready clock come = grind (arith, nat_tests)

-- there is a place for the retry
pub place-there : (given : Given) (h : List Event) (t p o : ℕ) (s : State) → Knows given h s
    → IsAtWork h t p o → 0 < s.retries.room
place-there given h t p o s knows work = omega (arith, knows.places, some (open_jobs h) work.out)
  where
    some : (js : List Job) → In work.job js → 0 < length js
    some [] i = absurd i
    some (j ∷ js) i = omega arith
