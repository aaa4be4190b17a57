-- What is kept of a run after one more event, and at its end.
use Rattle.std.proofs.Common.{◌≡◌, ◌∙◌, ℕ, ◌+◌, ◌≤◌, Bool, true, false, ◌&&◌, List, [], ◌∷◌, ◌++◌, Option, Some, None, refl, ap, sym, subst, arith}
use Rattle.std.specs.Prelude.{is_some, nat_lt}
use Rattle.std.specs.List.{list_all}
use Rattle.std.proofs.lemmas.Bool.{and_from}
use Rattle.pc_model.specs.declared.commit.Commit.{Commit}
use Rattle.pc_model.specs.declared.event.Event.{Event}
use Rattle.pc_model.specs.declared.event.Event.TheVariants.{Success, Failure, Stale}
use Rattle.pc_model.specs.Broker.{Broker}
use Rattle.pc_model.specs.Given.{Given}
use Rattle.pc_model.specs.Jobs.{has_ended}
use Rattle.pc_model.specs.Lawful.{IsLegal}
use Rattle.pc_model.specs.Pace.{goes_with, is_paced, is_paced_at}
use Rattle.pc_model.specs.Steps.{follows, follows_at, place_of}
use Rattle.pc_run_laws.specs.Failed.{is_unrefused, last_count}
use Rattle.pc_run_laws.specs.Run.{AnyMayCome}
use Rattle.pc_drain.specs.Causes.{HaveCauses, is_refused}
use Rattle.pc_drain.specs.Counts.{dispatch_workers, settled_count, taken_count}
use Rattle.pc_mailbox.specs.Ends.{Name, Receiving}
use Rattle.pc_task.specs.Jobs.{Outcomes}
use Rattle.pc_engine.specs.Engine.{Asks, EngineView, given_of}
use Rattle.pc_model.specs.declared.step.Step.{Step}
use Rattle.pc_state_lock.specs.Heading.{Heading}
use Rattle.pc_state_lock.specs.History.{Continues}
use Rattle.pc_pool.specs.declared.ending.Ending.{Ending}
use Rattle.pc_pool.specs.Ending.{HasEnding}
use Rattle.pc_pool.specs.Run.{CountsResults, GoesFrom, IsConsuming, RunView, heading_by}

-- an event that is no failed commit needs no cause
pub causes-event : (refuses : ℕ → Commit → Bool) (start faults : ℕ) (h : List Event) (v : Event)
    → is_unrefused refuses v ≡ false → HaveCauses refuses start h faults
    → HaveCauses refuses start (v ∷ h) faults
causes-event refuses start faults h v other have = record {
  counts = last_count start have.counts ∷ have.counts;
  caused = (
    omega arith,
    λ unrefused. let is : false ≡ true = sym other ∙ unrefused in cc,
    have.caused,
  );
  last = have.last;
}

module _ (run : Heading) (told : Bool) (h : List Event) (store : Broker) (faults used : ℕ) where
  -- the run ends as it stands
  pub ends-with : (e : Ending) → IsConsuming run told h store faults used None
      → HasEnding run told h store used faults e → IsConsuming run told h store faults used (Some e)
  ends-with e keeps means = record {
    told_is = keeps.told_is;
    allowed = keeps.allowed;
    logged = keeps.logged;
    few = keeps.few;
    is_run = keeps.is_run;
    workers = keeps.workers;
    most = keeps.most;
    count = keeps.count;
    causes = keeps.causes;
    stores = keeps.stores;
    goes_on = λ none. let is : Some e ≡ None = none in cc;
    ending = λ f is. subst (λ (k : Ending). HasEnding run told h store used faults k) (some-same is)
        means;
  }
    where
      some-same : {f : Ending} → Some e ≡ Some f → e ≡ f
      some-same is = cc

  -- one more event, which is none of a block, ends nothing, and asks nothing of the next
  pub goes-on-with : (v : Event) → IsConsuming run told h store faults used None
      → IsLegal run.given (v ∷ h)
      → place_of run.given (v ∷ h) ≡ place_of run.given h
      → follows_at run.given run.steps v h ≡ true
      → is_paced_at run.given run.steps v h ≡ true
      → AnyMayCome run.given (v ∷ h)
      → has_ended (v ∷ h) ≡ false
      → list_all (λ w. nat_lt w run.workers) (dispatch_workers (v ∷ h)) ≡ true
      → ((refuses : ℕ → Commit → Bool) → is_unrefused refuses v ≡ false)
      → IsConsuming run told (v ∷ h) store faults used None
  goes-on-with v keeps legal place follow pace any runs workers other =
      let goes = keeps.goes_on refl in record {
        told_is = keeps.told_is;
        allowed = keeps.allowed;
        logged = keeps.logged;
        few = keeps.few;
        is_run = record {
          legal = legal;
          follows = and_from (follows_at run.given run.steps v h) (follows run.given run.steps h) follow
              keeps.is_run.follows;
          paced = and_from (is_paced_at run.given run.steps v h)
              (goes_with run.given h v && is_paced run.given run.steps h) pace
              (and_from (goes_with run.given h v) (is_paced run.given run.steps h) (goes.any v)
              keeps.is_run.paced);
        };
        workers = workers;
        most = keeps.most;
        count = keeps.count;
        causes = λ is. causes-event (is_refused run.store) run.faults faults h v
            (other (is_refused run.store)) (keeps.causes is);
        stores = keeps.stores;
        goes_on = λ none. record {
          begun = ap (λ place. place.begun) place ∙ goes.begun;
          whole = ap (λ place. place.left) place ∙ goes.whole;
          any = any;
          runs = runs;
        };
        ending = λ e is. let some : None ≡ Some e = is in cc;
      }

-- ---- the same of a run and its engine

-- what is kept of a run with this engine
abbrev pub IsKeptBy : {L T : Type 0} → (T → Outcomes) → (L → Bool) → (L → Broker) → (L → ℕ)
    → EngineView L T → L → List Step → ℕ → ℕ → Option Ending → Type 0
IsKeptBy outcome_of told store faults e entry steps workers used ended =
    IsConsuming (heading_by outcome_of store faults e entry steps workers) (told e.link)
    e.journal.events (store e.link) (faults e.link) used ended

-- after a call that leaves what the engine was given and its link
pub kept-after : {L T : Type 0} (outcome_of : T → Outcomes) (told : L → Bool) (store : L → Broker)
    (faults : L → ℕ) (e e' : EngineView L T) (entry : L) (steps : List Step) (workers used : ℕ)
    (ended : Option Ending) → given_of outcome_of e' ≡ given_of outcome_of e → e'.link ≡ e.link
    → IsConsuming (heading_by outcome_of store faults e entry steps workers) (told e.link)
    e'.journal.events (store e.link) (faults e.link) used ended
    → IsKeptBy outcome_of told store faults e' entry steps workers used ended
kept-after {L} {T} outcome_of told store faults e e' entry steps workers used ended given link keeps =
    subst (λ (l : L). IsConsuming (heading_by outcome_of store faults e' entry steps workers) (told l)
    e'.journal.events (store l) (faults l) used ended) (sym link)
    (subst (λ (g : Given). IsConsuming (record {
      given = g;
      store = store entry;
      steps = steps;
      workers = workers;
      faults = faults entry;
    }) (told e.link) e'.journal.events (store e.link)
    (faults e.link) used ended) (sym given) keeps)

-- the results that were settled are as many, or one more that was handed back
pub counts-same : {T : Type 0} (mail : Name) (inbox : Receiving T) (returned : ℕ) (h h' : List Event)
    → settled_count h' ≡ settled_count h → CountsResults mail inbox returned h
    → CountsResults mail inbox returned h'
counts-same mail inbox returned h h' same counts = record {
  own = counts.own;
  counted = let before = counts.counted in omega (arith, same, before);
  few = let before = counts.few in omega (arith, same, before);
}

pub counts-more : {T : Type 0} (mail : Name) (inbox : Receiving T) (returned : ℕ) (h h' : List Event)
    → settled_count h' ≡ settled_count h + 1 → CountsResults mail inbox returned h
    → CountsResults mail inbox (returned + 1) h'
counts-more mail inbox returned h h' more counts = record {
  own = counts.own;
  counted = let before = counts.counted in omega (arith, more, before);
  few = let before = counts.few in omega (arith, more, before);
}

-- a run that goes on has not ended
pub none-of : {A : Type 0} (o : Option A) → is_some o ≡ false → o ≡ None
none-of None is = refl
none-of (Some x) is = cc

-- a call of the engine leaves the heading, and the history goes on
pub from-call : {L T : Type 0} (outcome_of : T → Outcomes) (store : L → Broker) (faults : L → ℕ)
    (old : RunView L T) (e' : EngineView L T) (used : ℕ) (ended : Option Ending)
    → given_of outcome_of e' ≡ given_of outcome_of old.engine
    → Continues e'.journal.events old.engine.journal.events
    → GoesFrom outcome_of store faults old (record {
      engine = e';
      entry = old.entry;
      steps = old.steps;
      workers = old.workers;
      used = used;
      ended = ended;
    })
from-call outcome_of store faults old e' used ended given later = record {
  heading = ap (λ (g : Given). heading_at g) given;
  later = later;
}
  where
    heading_at : Given → Heading
    heading_at g = record {
      given = g;
      store = store old.entry;
      steps = old.steps;
      workers = old.workers;
      faults = faults old.entry;
    }

-- after a call that asks the link
pub kept-asked : {L T : Type 0} (outcome_of : T → Outcomes) (told : L → Bool) (store : L → Broker)
    (faults : L → ℕ) (e e' : EngineView L T) (entry : L) (steps : List Step) (workers used : ℕ)
    (ended : Option Ending) → Asks outcome_of told faults e e'
    → IsConsuming (heading_by outcome_of store faults e entry steps workers) (told e.link)
    e'.journal.events (store e'.link) (faults e'.link) used ended
    → IsKeptBy outcome_of told store faults e' entry steps workers used ended
kept-asked {L} {T} outcome_of told store faults e e' entry steps workers used ended asks keeps =
    subst (λ (b : Bool). IsConsuming (heading_by outcome_of store faults e' entry steps workers) b
    e'.journal.events (store e'.link) (faults e'.link) used ended) (sym asks.told)
    (subst (λ (g : Given). IsConsuming (record {
      given = g;
      store = store entry;
      steps = steps;
      workers = workers;
      faults = faults entry;
    }) (told e.link) e'.journal.events (store e'.link)
    (faults e'.link) used ended) (sym asks.given) keeps)

-- a history that goes on has no fewer results
pub settled-grows : (added h : List Event) → settled_count h ≤ settled_count (added ++ h)
settled-grows [] h = omega arith
settled-grows (e ∷ added) h = at e (settled-grows added h)
  where
    at : (v : Event) → settled_count h ≤ settled_count (added ++ h)
        → settled_count h ≤ settled_count (v ∷ added ++ h)
    at (Success ticket answer) most = omega (arith, most)
    at (Failure ticket code ready) most = omega (arith, most)
    at (Stale ticket) most = omega (arith, most)
    at _ most = most

-- the results of a turn came from the inbox
pub counts-turned : {T : Type 0} (mail : Name) (inbox inbox' : Receiving T) (returned : ℕ)
    (h h' : List Event) → inbox'.mailbox ≡ inbox.mailbox
    → settled_count h' + taken_count inbox.taken ≤ settled_count h + taken_count inbox'.taken
    → Continues h' h → CountsResults mail inbox returned h → CountsResults mail inbox' returned h'
counts-turned mail inbox inbox' returned h h' own settled later counts =
    let grows = settled-grows later.added h in
    let same = ap settled_count later.is in record {
      own = own ∙ counts.own;
      counted = let before = counts.counted in omega (arith, settled, before);
      few = let before = counts.few in omega (arith, before, grows, same);
    }
