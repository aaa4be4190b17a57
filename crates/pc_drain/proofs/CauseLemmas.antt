-- That failed commits keep their causes through a turn.
use Rattle.std.proofs.Common.{◌≡◌, ◌∙◌, ℕ, ◌+◌, ◌≤◌, ◌<◌, Bool, true, false, not, inl, inr, ◌⊎◌, List, [], ◌∷◌, ◌++◌, Option, Some, None, Result, Ok, Err, refl, ap, sym, subst, arith}
use Rattle.std.specs.Prelude.{ℤ, ◌==◌, ◌&&◌}
use Rattle.std.specs.Ordering.{int_eq}
use Rattle.std.proofs.Math.Nat.{le_trans}
use Rattle.std.proofs.lemmas.Bool.{cases_Bool}
use Rattle.std.proofs.lemmas.Bool.Decides.{Decides-int_eq}
use Rattle.pc_model.specs.declared.commit.Commit.{Commit as StoredCommit}
use Rattle.pc_model.specs.declared.commit.SizedCommit.{SizedCommit}
use Rattle.pc_model.specs.declared.event.Event.{Event}
use Rattle.pc_model.specs.declared.event.Event.TheVariants.{Poll as Polled, Commit as Committed, CommitFailed, Tick, Drain, Done as AllDone}
use Rattle.pc_model.specs.declared.outcome.Outcome.{Outcome}
use Rattle.pc_model.specs.declared.outcome.Outcome.TheVariants.{Good, Bad}
use Rattle.pc_model.specs.Broker.{Broker}
use Rattle.pc_model.specs.Given.{Given}
use Rattle.pc_offset_client.specs.declared.fault.ClientFault.{ClientFault}
use Rattle.pc_offset_client.specs.declared.fault.ClientFault.TheVariants as client
use Rattle.pc_offset_client.specs.Client.{CommitGives, commit_code}
use Rattle.pc_laws.proofs.Lists.{not-false, not-true}
use Rattle.pc_model.specs.declared.api.TheConstants.{NO_ERROR}
use Rattle.pc_model.specs.Known.{commit_of}
use Rattle.pc_model.specs.Epochs.{epoch_of, is_held}
use Rattle.pc_task.specs.Jobs.{PlainJob}
use Rattle.pc_world.specs.World.{HasRisen}
use Rattle.pc_engine.specs.declared.engine.Committed.{Committed as Receipt}
use Rattle.pc_engine.specs.declared.fault.EngineFault.{EngineFault}
use Rattle.pc_engine.specs.Effect.{IsStored, settle_event, settled_event, tick_step}
use Rattle.pc_engine.specs.Stand.{DoesAlone, Stand}
use Rattle.pc_run_laws.specs.Failed.{AreCaused, is_unrefused, last_count}
use Rattle.pc_drain.specs.declared.action.Action.{Action}
use Rattle.pc_drain.specs.declared.action.Action.TheVariants.{MoveClock, Commit, Poll, BeginDrain, Save, Finish, Rest}
use Rattle.pc_drain.specs.declared.turn.Turn.{Turn}
use Rattle.pc_drain.specs.Causes.{HaveCauses, KeepsCauses, is_refused}
use Rattle.pc_drain.specs.Turn.{AfterClock, Commits, Concludes, DoesAction, Fails, SettlesFound}
use Rattle.pc_drain.proofs.ResultLemmas.{Grows, tick-grows}
use Rattle.pc_drain.proofs.ResultLemmas.Grows.{Same, More}
use Rattle.pc_drain.proofs.StepLemmas.{CommitComes, commit-comes, drain-grows, finish-comes, poll-grows}
use Rattle.pc_drain.proofs.StepLemmas.CommitComes.{Failed, Stored, Unmade}

-- a count that rose after another moment
risen-after : (a b c : ℕ) → a ≤ b → HasRisen b c → HasRisen a c
risen-after a b c le (inl less) = inl (omega arith)
risen-after a b c le (inr most) = inr most

-- ---- one event more, or none

-- the event is no failed commit that the broker does not refuse, unless the count rose
abbrev pub IsCaused : Stand → Stand → Event → Type 0
IsCaused before after e = (refuses : ℕ → StoredCommit → Bool)
    → ((p : ℕ) (c : StoredCommit) → refuses p c ≡ is_refused before.store p c)
    → is_unrefused refuses e ≡ true → HasRisen before.faults after.faults

module _ (before after : Stand) (later : before.faults ≤ after.faults) where
  causes-same : after.history ≡ before.history → KeepsCauses before after
  causes-same same refuses start agrees have =
      subst (λ (k : List Event). HaveCauses refuses start k after.faults) (sym same) (record {
        counts = have.counts;
        caused = have.caused;
        last = le_trans have.last later;
      })

  pub causes-more : (e : Event) → IsCaused before after e → after.history ≡ e ∷ before.history
      → KeepsCauses before after
  causes-more e caused same refuses start agrees have =
      subst (λ (k : List Event). HaveCauses refuses start k after.faults) (sym same) (record {
        counts = after.faults ∷ have.counts;
        caused = (
          le_trans have.last later,
          λ unrefused. risen-after (last_count start have.counts) before.faults after.faults
              have.last (caused refuses agrees unrefused),
          have.caused,
        );
        last = omega arith;
      })

  causes-grown : (e : Event) → IsCaused before after e → Grows e before.history after.history
      → KeepsCauses before after
  causes-grown e caused (Same same) = causes-same same
  causes-grown e caused (More same) = causes-more e caused same

-- one call after the other
causes-trans : (a b c : Stand) → b.store ≡ a.store → KeepsCauses a b → KeepsCauses b c
    → KeepsCauses a c
causes-trans a b c same first next refuses start agrees have = next refuses start
    (λ p commit. agrees p commit
    ∙ ap (λ (store : Broker). is_refused store p commit) (sym same))
    (first refuses start agrees have)

same-faults : (before after : Stand) → after.faults ≡ before.faults → before.faults ≤ after.faults
same-faults before after same = omega (arith, same)

-- an event that is no failed commit needs no cause
no-failure : (e : Event) (before after : Stand)
    → ((refuses : ℕ → StoredCommit → Bool) → is_unrefused refuses e ≡ false)
    → IsCaused before after e
no-failure e before after other refuses agrees unrefused =
    let is : false ≡ true = sym (other refuses) ∙ unrefused in cc

-- ---- a commit

equal-codes : (a b : ℤ) → not (not (int_eq a b)) ≡ true → a ≡ b
equal-codes a b is = (Decides-int_eq a b).0 (not-false (int_eq a b) (not-true (not (int_eq a b)) is))

-- a commit that failed was refused by the broker, or the count rose
pub failed-cause : (failed : ClientFault) (before after : Stand) (p : ℕ) (c : StoredCommit)
    → (failed ≡ client.NoMemory → ⊥)
    → (◌≡◌ {A = Result (Unit {0}) ClientFault} (Err failed) (Err client.LinkFailed)
    → HasRisen before.faults after.faults)
    → CommitGives before.store after.store p c (Err failed)
    → not (is_refused before.store p c) ≡ true → HasRisen before.faults after.faults
failed-cause client.NoMemory before after p c memory cause gives is = absurd (memory refl)
failed-cause client.LinkFailed before after p c memory cause gives is = cause refl
failed-cause (client.Refused code) before after p c memory cause gives is =
    absurd (gives.other (gives.is ∙ equal-codes (commit_code before.store p c) NO_ERROR is))
failed-cause failed before after p c memory cause gives is = absurd gives

commit-caused : (before after : Stand) (p : ℕ) (c : SizedCommit)
    (asked : Result (Unit {0}) ClientFault) (r : Result Receipt EngineFault)
    → before.faults ≤ after.faults
    → IsStored true before.store after.store before.faults after.faults p c.commit asked
    → CommitComes p c before.history after.history asked r → KeepsCauses before after
commit-caused before after p c asked r later stored (Unmade other same) =
    causes-same before after later same
commit-caused before after p c asked r later stored (Stored other same) =
    causes-more before after later (Committed p c.commit.position c.commit.map c.size)
    (no-failure (Committed p c.commit.position c.commit.map c.size) before after
    (λ refuses. refl)) same
commit-caused before after p c asked r later stored (Failed failed is asked-is memory same) =
    causes-more before after later (CommitFailed p c.commit.position c.commit.map c.size)
    (λ refuses agrees unrefused. failed-cause failed before after p c.commit memory
    (λ link. stored.cause (asked-is ∙ link))
    (subst (λ (a : Result (Unit {0}) ClientFault). CommitGives before.store after.store p c.commit a)
    asked-is (stored.gives refl))
    (ap not (sym (agrees p c.commit)) ∙ unrefused)) same

-- ---- the actions

module _ (given : Given) (now : ℕ) (before after : Stand) (turn : Turn) where
  ended : (r : Result (Unit {0}) EngineFault) → after.faults ≡ before.faults
      → (after.history ≡ before.history) ⊎ ((r ≡ Ok tt) × (after.history ≡ AllDone ∷ before.history))
      → KeepsCauses before after
  ended r same (inl none) = causes-same before after (same-faults before after same) none
  ended r same (inr one) = causes-more before after (same-faults before after same) AllDone
      (no-failure AllDone before after (λ refuses. refl)) one.1

  pub causes-action : (a : Action) → DoesAction true given now a before after turn
      → KeepsCauses before after
  causes-action MoveClock calls = causes-grown before after
      (same-faults before after calls.does.faults) (Tick now)
      (no-failure (Tick now) before after (λ refuses. refl))
      (tick-grows before.history after.history now calls.answer calls.does.does)
  causes-action (Commit p) commits = commit-caused before after p (commit_of given before.history p)
      commits.asked commits.answer commits.later commits.stored
      (commit-comes given before.history after.history p commits.asked commits.answer commits.does)
  causes-action (Poll p n) calls =
      let grows = poll-grows given before.history after.history p n calls.answer calls.does.does in
      causes-grown before after (same-faults before after calls.does.faults)
      (Polled p grows.0 grows.1)
      (no-failure (Polled p grows.0 grows.1) before after (λ refuses. refl)) grows.3
  causes-action BeginDrain calls = causes-grown before after
      (same-faults before after calls.does.faults) Drain
      (no-failure Drain before after (λ refuses. refl))
      (drain-grows before.history after.history calls.answer calls.does.does)
  causes-action (Save p) commits = commit-caused before after p (commit_of given before.history p)
      commits.asked commits.answer commits.later commits.stored
      (commit-comes given before.history after.history p commits.asked commits.answer commits.does)
  causes-action Finish finishes = ended finishes.answer finishes.does.faults
      (finish-comes given before.history after.history finishes.answer finishes.does.does)
  causes-action Rest rests = causes-same before after
      (same-faults before after (ap (λ (s : Stand). s.faults) rests.0))
      (ap (λ (s : Stand). s.history) rests.0)

-- ---- a result

-- what settles a result is no failed commit
settled-other : (refuses : ℕ → StoredCommit → Bool) (given : Given) (h : List Event) (job : PlainJob)
    (outcome : Outcome) → is_unrefused refuses (settle_event given h job outcome) ≡ false
settled-other refuses given h job outcome =
    elim (cases_Bool (is_held h job.part && (job.epoch == epoch_of h job.part))) [
      | inl current ↦ rw current (by-outcome outcome)
      | inr past ↦ rw past refl
    ]
  where
    by-outcome : (due : Outcome) → is_unrefused refuses (settled_event given h job due) ≡ false
    by-outcome (Good answer) = refl
    by-outcome (Bad code) = refl

module _ (given : Given) (now : ℕ) (job : PlainJob) where
  concluded : (outcome : Outcome) (before after : Stand) → Concludes given job outcome before after
      → KeepsCauses before after
  concluded outcome before after concludes = causes-more before after
      (same-faults before after concludes.faults) (settle_event given before.history job outcome)
      (no-failure (settle_event given before.history job outcome) before after
      (λ refuses. settled-other refuses given before.history job outcome)) concludes.history

  ticked : (before between : Stand) (r : Result Bool EngineFault)
      → DoesAlone (tick_step before.history now) before between r → KeepsCauses before between
  ticked before between r clock = causes-grown before between
      (same-faults before between clock.faults) (Tick now)
      (no-failure (Tick now) before between (λ refuses. refl))
      (tick-grows before.history between.history now r clock.does)

  failed : (code : ℕ) (before between after : Stand) (r : Result Bool EngineFault) (turn : Turn)
      → DoesAlone (tick_step before.history now) before between r
      → AfterClock given job (Bad code) between after turn r → KeepsCauses before after
  failed code before between after (Ok it) turn clock rest =
      causes-trans before between after clock.store
      (ticked before between (Ok it) clock) (concluded (Bad code) between after rest.0)
  failed code before between after (Err fault) turn clock rest =
      subst (λ (s : Stand). KeepsCauses before s) (sym rest.0)
      (ticked before between (Err fault) clock)

  pub causes-found : (expected : Bool) (outcome : Outcome) (before after : Stand) (turn : Turn)
      → SettlesFound given now expected job outcome before after turn → KeepsCauses before after
  causes-found false outcome before after turn found = causes-same before after
      (same-faults before after (ap (λ (s : Stand). s.faults) found.0))
      (ap (λ (s : Stand). s.history) found.0)
  causes-found true (Good answer) before after turn found =
      concluded (Good answer) before after found.0
  causes-found true (Bad code) before after turn found = failed code before found.between after
      found.answer turn found.clock found.rest
