-- What is kept of a run when a result is settled that the mailbox handed back.
use Rattle.std.proofs.Common.{◌≡◌, ◌∙◌, ℕ, ◌+◌, ◌≤◌, Bool, ◌&&◌, inl, inr, List, [], ◌∷◌, length, Option, None, refl, ap, sym, subst, arith}
use Rattle.std.specs.Prelude.{◌==◌, if◌then◌else◌}
use Rattle.std.proofs.lemmas.Bool.{cases_Bool}
use Rattle.pc_model.specs.declared.event.Event.{Event}
use Rattle.pc_model.specs.declared.event.Event.TheVariants.{Success, Failure, Stale}
use Rattle.pc_model.specs.declared.limits.TheConstants.{MAX_EVENTS}
use Rattle.pc_model.specs.declared.outcome.Outcome.{Outcome}
use Rattle.pc_model.specs.declared.outcome.Outcome.TheVariants.{Good, Bad}
use Rattle.pc_model.specs.declared.step.Step.{Step}
use Rattle.pc_model.specs.Broker.{Broker}
use Rattle.pc_model.specs.Epochs.{epoch_of, is_held}
use Rattle.pc_model.specs.Given.{Given}
use Rattle.pc_model.specs.Lawful.{IsLegal, is_nil}
use Rattle.pc_drain.specs.Counts.{settled_count}
use Rattle.pc_task.specs.Jobs.{Outcomes, PlainJob}
use Rattle.pc_engine.specs.Effect.{settle_event, settled_event}
use Rattle.pc_engine.specs.Engine.{EngineView, Keeps, given_of}
use Rattle.pc_state_lock.specs.Heading.{Heading}
use Rattle.pc_pool.specs.declared.ending.Ending.{Ending}
use Rattle.pc_pool.specs.Run.{IsConsuming, heading_by}
use Rattle.pc_pool.proofs.KeepLemmas.{IsKeptBy, goes-on-with, kept-after}

-- the event of a result that was settled
pub data IsResult (e : Event) : Type 0 where
  Succeeds : (ticket : ℕ) (answer : List ℕ) → e ≡ Success ticket answer → IsResult e
  Fails : (ticket code ready : ℕ) → e ≡ Failure ticket code ready → IsResult e
  IsStale : (ticket : ℕ) → e ≡ Stale ticket → IsResult e

settled-result : (given : Given) (h : List Event) (job : PlainJob) (outcome : Outcome)
    → IsResult (settled_event given h job outcome)
settled-result given h job (Good answer) = Succeeds job.ticket answer refl
settled-result given h job (Bad code) = Fails job.ticket code _ refl

pub is-result : (given : Given) (h : List Event) (job : PlainJob) (outcome : Outcome)
    → IsResult (settle_event given h job outcome)
is-result given h job outcome =
    elim (cases_Bool (is_held h job.part && (job.epoch == epoch_of h job.part))) [
      | inl current ↦ subst (λ (b : Bool). IsResult (if b then settled_event given h job outcome
          else Stale job.ticket)) (sym current) (settled-result given h job outcome)
      | inr past ↦ subst (λ (b : Bool). IsResult (if b then settled_event given h job outcome
          else Stale job.ticket)) (sym past) (IsStale job.ticket refl)
    ]

-- it is one more result
pub result-counted : (h h' : List Event) (e : Event) → IsResult e → h' ≡ e ∷ h
    → settled_count h' ≡ settled_count h + 1
result-counted h h' e (Succeeds ticket answer is) same =
    ap settled_count (same ∙ ap (λ (v : Event). v ∷ h) is)
result-counted h h' e (Fails ticket code ready is) same =
    ap settled_count (same ∙ ap (λ (v : Event). v ∷ h) is)
result-counted h h' e (IsStale ticket is) same =
    ap settled_count (same ∙ ap (λ (v : Event). v ∷ h) is)

-- no more results than events
pub settled-most : (h : List Event) → settled_count h ≤ length h
settled-most [] = omega arith
settled-most (e ∷ h) = let most = settled-most h in at e most
  where
    at : (v : Event) → settled_count h ≤ length h → settled_count (v ∷ h) ≤ length (v ∷ h)
    at (Success ticket answer) most = omega (arith, most)
    at (Failure ticket code ready) most = omega (arith, most)
    at (Stale ticket) most = omega (arith, most)
    at _ most = omega (arith, most)

-- one more result can be counted, since the events are within their limit
pub one-more : (returned : ℕ) (h h' : List Event) (e : Event) (n : ℕ) → returned ≤ settled_count h
    → h' ≡ e ∷ h → length h' + n ≤ MAX_EVENTS → returned + 1 ≤ MAX_EVENTS
one-more returned h h' e n few same limit =
    let most = settled-most h in let longer = ap length same in omega (arith, few, limit, most, longer)

module _ (run : Heading) (told : Bool) (h : List Event) (store : Broker) (faults used : ℕ)
    (keeps : IsConsuming run told h store faults used None) where
  result-keeps : (e : Event) → IsResult e → IsLegal run.given (e ∷ h)
      → IsConsuming run told (e ∷ h) store faults used None
  result-keeps e (Succeeds ticket answer is) legal = subst
      (λ (v : Event). IsConsuming run told (v ∷ h) store faults used None) (sym is)
      (goes-on-with run told h store faults used (Success ticket answer) keeps
      (subst (λ (v : Event). IsLegal run.given (v ∷ h)) is legal) refl
      (ap (λ left. is_nil left) (keeps.goes_on refl).whole) refl (λ v. refl) (keeps.goes_on refl).runs
      keeps.workers (λ refuses. refl))
  result-keeps e (Fails ticket code ready is) legal = subst
      (λ (v : Event). IsConsuming run told (v ∷ h) store faults used None) (sym is)
      (goes-on-with run told h store faults used (Failure ticket code ready) keeps
      (subst (λ (v : Event). IsLegal run.given (v ∷ h)) is legal) refl
      (ap (λ left. is_nil left) (keeps.goes_on refl).whole) refl (λ v. refl) (keeps.goes_on refl).runs
      keeps.workers (λ refuses. refl))
  result-keeps e (IsStale ticket is) legal = subst
      (λ (v : Event). IsConsuming run told (v ∷ h) store faults used None) (sym is)
      (goes-on-with run told h store faults used (Stale ticket) keeps
      (subst (λ (v : Event). IsLegal run.given (v ∷ h)) is legal) refl
      (ap (λ left. is_nil left) (keeps.goes_on refl).whole) refl (λ v. refl) (keeps.goes_on refl).runs
      keeps.workers (λ refuses. refl))

  pub settled-keeps : (h' : List Event) (e : Event) → IsResult e → h' ≡ e ∷ h
      → IsLegal run.given h' → IsConsuming run told h' store faults used None
  settled-keeps h' e is same legal =
      subst (λ (k : List Event). IsConsuming run told k store faults used None) (sym same)
      (result-keeps e is (subst (λ (k : List Event). IsLegal run.given k) same legal))

-- ---- the same of a run and its engine

module _ {L T : Type 0} (outcome_of : T → Outcomes) (told : L → Bool) (store : L → Broker)
    (faults : L → ℕ) (e e' : EngineView L T) (entry : L) (steps : List Step)
    (workers used : ℕ) (ended : Option Ending)
    (keeps : IsKeptBy outcome_of told store faults e entry steps workers used ended)
    (goes : ended ≡ None) (call : Keeps outcome_of e e')
    (legal : IsLegal (given_of outcome_of e') e'.journal.events) where
  abbrev run : Heading
  run = heading_by outcome_of store faults e entry steps workers

  abbrev now : IsConsuming run (told e.link) e.journal.events (store e.link) (faults e.link) used None
  now = subst (λ (o : Option Ending). IsConsuming run (told e.link) e.journal.events (store e.link)
      (faults e.link) used o) goes keeps

  pub run-settles : (job : PlainJob) (outcome : Outcome)
      → e'.journal.events ≡ settle_event (given_of outcome_of e) e.journal.events job outcome
      ∷ e.journal.events
      → IsKeptBy outcome_of told store faults e' entry steps workers used ended
  run-settles job outcome same = kept-after outcome_of told store faults e e' entry steps workers used
      ended call.given call.link
      (subst (λ (o : Option Ending). IsConsuming run (told e.link) e'.journal.events (store e.link)
      (faults e.link) used o) (sym goes)
      (settled-keeps run (told e.link) e.journal.events (store e.link) (faults e.link) used now
      e'.journal.events (settle_event (given_of outcome_of e) e.journal.events job outcome)
      (is-result (given_of outcome_of e) e.journal.events job outcome) same
      (subst (λ (given : Given). IsLegal given e'.journal.events) call.given legal)))
