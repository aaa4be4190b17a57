-- A record fails no more often than its attempts are bad. So at rest none is left of a held part of
-- which each record succeeds in time.
use Rattle.std.proofs.Common.{◌≡◌, ℕ, ◌≤◌, ◌<◌, true, List, [], ◌∷◌, ◌++◌, Some, refl, arith}
use Rattle.std.specs.Prelude.{slice_get}
use Rattle.pc_model.specs.declared.event.Event.{Event}
use Rattle.pc_model.specs.declared.step.Step.{Step}
use Rattle.pc_model.specs.Bound.{failing_attempts}
use Rattle.pc_model.specs.Given.{Given, records_of}
use Rattle.pc_model.specs.Epochs.{is_held}
use Rattle.pc_model.specs.Known.{unpolled_records}
use Rattle.pc_model.specs.Lawful.{IsLegal}
use Rattle.pc_model.specs.Record.{Record}
use Rattle.pc_model.specs.Retry.{failures_of}
use Rattle.pc_model.specs.Run.{is_at_rest, open_records}
use Rattle.pc_laws.specs.Lists.{In}
use Rattle.pc_laws.proofs.FirstLaw.{record_at-In}
use Rattle.pc_run_laws.specs.Run.{IsFirstUnfinished, IsRun, SucceedsInTime}
use Rattle.pc_run_laws.proofs.RecordCounts.{failures-few}
use Rattle.pc_run_laws.proofs.RestLaw.{named-is-spent, unfinished-record}

pub failures-bad : (given : Given) (h : List Event) (p : ℕ) (r : Record) → IsLegal given h
    → In r (records_of given p) → failures_of h p r.offset ≤ failing_attempts given p r
failures-bad given h p r legal i = failures-few given h p r legal (record_at-In given h legal p r i)

-- a list without a first item
none-first : (rs : List Record) → ((r : Record) → slice_get rs 0 ≡ Some r → ⊥) → rs ≡ []
none-first [] none = refl
none-first (r ∷ rs) none = absurd (none r refl)

both-none : (rs us : List Record) → rs ++ us ≡ [] → (rs ≡ []) × (us ≡ [])
both-none [] us e = (refl, e)
both-none (r ∷ rs) us e = cc

module _ (given : Given) (steps : List Step) (h : List Event) (p : ℕ) (run : IsRun given steps h)
    (rests : is_at_rest given h ≡ true) (held : is_held h p ≡ true) (good : SucceedsInTime given p) where
  pub none-unfinished : (r : Record) → IsFirstUnfinished given h p r → ⊥
  none-unfinished r first =
      let i = unfinished-record given h p r run.legal first in
      let spent : failures_of h p r.offset ≡ given.setup.settings.give_up =
      named-is-spent given steps h p r run rests held first in
      let few : failures_of h p r.offset ≤ failing_attempts given p r =
      failures-bad given h p r run.legal i in
      let below : failing_attempts given p r < given.setup.settings.give_up = good r i in
      omega arith

  pub all-finished : (open_records given h p ≡ []) × (unpolled_records given h p ≡ [])
  all-finished = both-none (open_records given h p) (unpolled_records given h p)
      (none-first (open_records given h p ++ unpolled_records given h p) none-unfinished)
