-- What a step does to an engine: its calls one after the other, each by what the link did at it.
use Rattle.std.specs.Prelude.{ℕ, ◌≡◌, ◌≤◌, Bool, true, List, [], ◌∷◌, Some, Result, Ok, Err, OnErr}
use Rattle.pc_model.specs.declared.commit.Commit.{Commit}
use Rattle.pc_model.specs.declared.event.Event.{Event}
use Rattle.pc_model.specs.declared.step.Act.{Act}
use Rattle.pc_model.specs.declared.step.Act.TheVariants as act
use Rattle.pc_model.specs.Given.{Given}
use Rattle.pc_model.specs.Known.{commit_of}
use Rattle.pc_model.specs.Lawful.{held_parts}
use Rattle.pc_offset_client.specs.declared.fault.ClientFault.{ClientFault}
use Rattle.pc_engine.specs.declared.fault.EngineFault.{EngineFault}
use Rattle.pc_engine.specs.Stand.{DoesAlone, Stand}
use Rattle.pc_engine.specs.Effect.{Step, Does, IsFetched, IsStored, assign_refusal, assign_step, crash_step, lose_step, revoke_refusal, revoke_step}

-- ---- one call

-- The part was assigned, or not, by what the link gave for it. What is stored stays. Where the link
-- was not asked, all stays.
pub record Assigns (told : Bool) (given : Given) (p : ℕ) (before after : Stand)
    (answer : Result (Unit {0}) EngineFault) : Type 0 where
  pub asked : Result Commit ClientFault
  pub fetched : IsFetched told before.store before.faults after.faults p asked
  pub does : Does answer (assign_step given before.history p asked) before.history after.history
  pub keeps : told ≡ true → after.store ≡ before.store
  pub later : before.faults ≤ after.faults
  pub unasked : (fault : EngineFault) → assign_refusal given before.history p ≡ Some fault
      → after ≡ before

-- whether a call was refused, whatever else it answered
abbrev pub outcome_alone : {A : Type 0} → Result A EngineFault → Result (Unit {0}) EngineFault
outcome_alone (Ok it) = Ok tt
outcome_alone (Err fault) = Err fault

-- a revocation as a step that is refused or not: that its commit failed is no refusal
abbrev pub give_back_step : Given → List Event → ℕ → Result (Unit {0}) ClientFault → Step (Unit {0})
give_back_step given h p asked = record {
  answer = outcome_alone (revoke_step given h p asked).answer;
  events = (revoke_step given h p asked).events;
}

-- The part was given back, or not, by what the link did at its commit. Where that is not so, what is
-- stored stays, and where the link was not asked, all stays.
pub record Revokes (told : Bool) (given : Given) (p : ℕ) (before after : Stand)
    (answer : Result (Unit {0}) EngineFault) : Type 0 where
  pub asked : Result (Unit {0}) ClientFault
  pub stored : IsStored told before.store after.store before.faults after.faults p
      (commit_of given before.history p).commit asked
  pub does : Does answer (give_back_step given before.history p asked) before.history after.history
  pub stays : told ≡ true → OnErr answer (after.store ≡ before.store)
  pub later : before.faults ≤ after.faults
  pub unasked : (fault : EngineFault) → revoke_refusal given before.history p ≡ Some fault
      → after ≡ before

-- ---- one call after the other

-- What comes after a call: the rest, or nothing where the call was refused, and that is the answer.
abbrev pub Then : Result (Unit {0}) EngineFault → Type 0 → Stand → Stand
    → Result (Unit {0}) EngineFault → Type 0
Then (Ok done) rest between after answer = rest
Then (Err fault) rest between after answer = (after ≡ between) × (answer ≡ Err fault)

-- the parts were assigned in this order, up to the first that was refused
unfoldable pub AssignsAll : Bool → Given → List ℕ → Stand → Stand → Result (Unit {0}) EngineFault
    → Type 0
AssignsAll told given [] before after answer = (after ≡ before) × (answer ≡ Ok tt)
AssignsAll told given (p ∷ parts) before after answer =
    (first : Result (Unit {0}) EngineFault) × (between : Stand)
    × Assigns told given p before between first
    × Then first (AssignsAll told given parts between after answer) between after answer

-- all crashed, and then each part that was held was assigned again, in rising order
pub record Crashes (told : Bool) (given : Given) (before after : Stand)
    (answer : Result (Unit {0}) EngineFault) : Type 0 where
  pub first : Result (Unit {0}) EngineFault
  pub between : Stand
  pub crashes : DoesAlone (crash_step before.history) before between first
  pub assigns : Then first
      (AssignsAll told given (held_parts given before.history) between after answer) between after
      answer

-- ---- a step

-- the calls of an act were made, up to the first that was refused
abbrev pub Applies : Bool → Given → Act → Stand → Stand → Result (Unit {0}) EngineFault → Type 0
Applies told given (act.Assign p) before after answer = Assigns told given p before after answer
Applies told given (act.Revoke p) before after answer = Revokes told given p before after answer
Applies told given (act.Lose p) before after answer =
    DoesAlone (lose_step given before.history p) before after answer
Applies told given act.Crash before after answer = Crashes told given before after answer
