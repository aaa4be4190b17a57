-- What a report says of a run that has ended, or that did not begin.
use Rattle.std.proofs.Common.{◌≡◌, ℕ, ◌≤◌, ◌<◌, Bool, true, inl, inr, List, [], length, Option, Some, None, refl, ap, sym, subst, arith}
use Rattle.std.specs.Prelude.{is_some, slice_get}
use Rattle.std.specs.Option.{option_flatten}
use Rattle.pc_model.specs.declared.event.Event.{Event}
use Rattle.pc_model.specs.declared.step.Step.{Step}
use Rattle.pc_model.specs.Broker.{Broker}
use Rattle.pc_model.specs.Given.{Given, has_log, start_of}
use Rattle.pc_model.specs.Lawful.{IsLegal}
use Rattle.pc_model.specs.Stored.{may_store}
use Rattle.pc_laws.specs.Lists.{In}
use Rattle.pc_laws.proofs.HeldLaw.{log-below}
use Rattle.pc_script.specs.Steps.{AreAllowed}
use Rattle.pc_mailbox.specs.Ends.{Name, Receiving}
use Rattle.pc_offset_client.specs.Client.{kept_for}
use Rattle.pc_state_lock.specs.Heading.{Heading}
use Rattle.pc_pool.specs.declared.ending.Ending.{Ending}
use Rattle.pc_pool.specs.Jobs.{AreJobs}
use Rattle.pc_pool.specs.Report.{IsReport}
use Rattle.pc_pool.specs.Run.{CountsResults, IsConsuming, heading_by}
use Rattle.pc_pool.specs.declared.ending.Ending.TheVariants.{NoMemory}
use Rattle.pc_pool.proofs.KeepLemmas.{IsKeptBy}
use Rattle.pc_drain.specs.Counts.{settled_count}
use Rattle.pc_task.specs.Jobs.{Outcomes}
use Rattle.pc_engine.specs.Engine.{EngineView, given_of}

-- a run that has ended
pub reports : {T : Type 0} (run : Heading) (told : Bool) (h : List Event) (store : Broker)
    (faults used : ℕ) (ended : Option Ending) (e : Ending) (mail : Name) (inbox : Receiving T)
    (returned : ℕ) (jobs : List ℕ) → IsConsuming run told h store faults used ended → ended ≡ Some e
    → CountsResults mail inbox returned h
    → (told ≡ true → (p : ℕ) → has_log run.given p ≡ true
    → In (kept_for store p) (may_store run.given h p))
    → AreJobs run.workers h jobs → IsReport run told h (Some inbox) returned store faults e jobs
reports run told h store faults used ended e mail inbox returned jobs keeps is counts kept counted = record {
  told_is = keeps.told_is;
  is_run = keeps.is_run;
  workers = keeps.workers;
  counted = inl counted;
  comes = counts.counted;
  causes = keeps.causes;
  stores = λ tells. record { only = keeps.stores tells; kept = kept tells };
  used = used;
  ending = keeps.ending e is;
}

-- a run without an event
pub begins : (run : Heading) (told : Bool) → told ≡ run.given.is_told
    → AreAllowed (length run.given.logs) [] run.steps
    → ((p : ℕ) → p < length run.given.logs
    → is_some (option_flatten (slice_get run.given.logs p)) ≡ true)
    → run.workers ≤ 256 → IsLegal run.given []
    → IsConsuming run told [] run.store run.faults 0 None
begins run told same allowed logged few legal = record {
  told_is = same;
  allowed = allowed;
  logged = logged;
  few = omega arith;
  is_run = record { legal = legal; follows = refl; paced = refl };
  workers = refl;
  most = few;
  count = omega arith;
  causes = λ tells. record { counts = []; caused = tt; last = omega arith };
  stores = λ tells. record {
    topic = refl;
    parts = refl;
    memberships = refl;
    others = λ group q other. refl;
  };
  goes_on = λ none. record { begun = refl; whole = refl; any = λ e. refl; runs = refl };
  ending = λ e is. let some : None ≡ Some e = is in cc;
}

-- a heading by what was given
abbrev pub heading_at : {L : Type 0} → (L → Broker) → (L → ℕ) → L → List Step → ℕ → Given → Heading
heading_at store faults entry steps workers given = record {
  given = given;
  store = store entry;
  steps = steps;
  workers = workers;
  faults = faults entry;
}

-- the same of a run and its engine
pub run-begins : {L T : Type 0} (outcome_of : T → Outcomes) (told : L → Bool) (store : L → Broker)
    (faults : L → ℕ) (e : EngineView L T) (entry : L) (steps : List Step) (workers : ℕ) (given : Given)
    → given_of outcome_of e ≡ given → e.journal.events ≡ [] → entry ≡ e.link
    → told e.link ≡ given.is_told → AreAllowed (length given.logs) [] steps
    → ((p : ℕ) → p < length given.logs
    → is_some (option_flatten (slice_get given.logs p)) ≡ true)
    → workers ≤ 256 → IsLegal given []
    → IsKeptBy outcome_of told store faults e entry steps workers 0 None
run-begins {L} {T} outcome_of told store faults e entry steps workers given same empty start tells
    allowed logged few legal =
    subst (λ (h : List Event). IsConsuming (heading_by outcome_of store faults e entry steps workers)
    (told e.link) h (store e.link) (faults e.link) 0 None) (sym empty)
    (subst (λ (l : L). IsConsuming (heading_by outcome_of store faults e l steps workers)
    (told e.link) [] (store e.link) (faults e.link) 0 None) (sym start)
    (subst (λ (known : Given). IsConsuming (heading_at store faults e.link steps workers known) (told e.link) [] (store e.link)
    (faults e.link) 0 None) (sym same)
    (begins (heading_at store faults e.link steps workers given) (told e.link) tells allowed logged few legal)))

pub counts-begin : {T : Type 0} (mail : Name) (inbox : Receiving T) (h : List Event) → h ≡ []
    → inbox.mailbox ≡ mail → CountsResults mail inbox 0 h
counts-begin mail inbox h empty own = record {
  own = own;
  counted = let none = ap settled_count empty in omega (arith, none);
  few = omega arith;
}

-- a run that did not begin, whose store has for each part what was given for its start
pub unstarted-reports : {T : Type 0} (run : Heading) (told : Bool) → told ≡ run.given.is_told
    → IsLegal run.given []
    → (told ≡ true → (p : ℕ) → p < length run.given.logs
    → kept_for run.store p ≡ start_of run.given p)
    → IsReport {T = T} run told [] None 0 run.store run.faults NoMemory []
unstarted-reports run told same legal starts = record {
  told_is = same;
  is_run = record { legal = legal; follows = refl; paced = refl };
  workers = refl;
  counted = inr (refl, refl, refl);
  comes = (refl, refl);
  causes = λ tells. record { counts = []; caused = tt; last = omega arith };
  stores = λ tells. record {
    only = record {
      topic = refl;
      parts = refl;
      memberships = refl;
      others = λ group q other. refl;
    };
    kept = λ p has. inl (starts tells p (log-below run.given.logs p has));
  };
  used = 0;
  ending = tt;
}
