-- What a report says of its run.
use Rattle.std.specs.Prelude.{ℕ, ◌≡◌, ◌≤◌, ◌+◌, ◌⊎◌, Bool, true, nat_lt, List, [], Option, Some, None}
use Rattle.std.specs.List.{list_all}
use Rattle.pc_model.specs.declared.event.Event.{Event}
use Rattle.pc_model.specs.Broker.{Broker}
use Rattle.pc_model.specs.Given.{has_log}
use Rattle.pc_model.specs.Stored.{may_store}
use Rattle.pc_laws.specs.Lists.{In}
use Rattle.pc_mailbox.specs.Ends.{Receiving}
use Rattle.pc_offset_client.specs.Client.{kept_for}
use Rattle.pc_engine.specs.Effect.{StoresOnly}
use Rattle.pc_run_laws.specs.Run.{IsRun}
use Rattle.pc_drain.specs.Causes.{HaveCauses, is_refused}
use Rattle.pc_drain.specs.Counts.{dispatch_workers, settled_count, taken_count}
use Rattle.pc_state_lock.specs.Heading.{Heading}
use Rattle.pc_pool.specs.declared.ending.Ending.{Ending}
use Rattle.pc_pool.specs.declared.ending.Ending.TheVariants.{NoMemory}
use Rattle.pc_pool.specs.Ending.{HasEnding}
use Rattle.pc_pool.specs.Jobs.{AreJobs}

-- the results that were settled came from the inbox, but for those that were handed back
abbrev pub ComesFrom : {T : Type 0} → Option (Receiving T) → ℕ → List Event → Type 0
ComesFrom None returned h = (h ≡ []) × (returned ≡ 0)
ComesFrom (Some inbox) returned h = settled_count h ≤ taken_count inbox.taken + returned

-- a told store has for each part with a log a commit that the run may have stored, and is as at the
-- start but for these
pub record LeavesStore (run : Heading) (h : List Event) (store : Broker) : Type 0 where
  pub only : StoresOnly (has_log run.given) run.store store
  pub kept : (p : ℕ) → has_log run.given p ≡ true → In (kept_for store p) (may_store run.given h p)

-- the jobs of each worker, or none of a run that did not begin for want of memory
abbrev pub HaveJobs : ℕ → List Event → Ending → List ℕ → Type 0
HaveJobs workers h ended jobs = AreJobs workers h jobs ⊎ ((jobs ≡ []) × (ended ≡ NoMemory) × (h ≡ []))

-- What a run ended with: a legal history that follows the steps and is paced, by the workers that
-- were asked for, with the jobs of each, whose failed commits have their causes, a told store that has what the run may have
-- stored, and an ending that means what it says.
pub record IsReport {T : Type 0} (run : Heading) (told : Bool) (h : List Event)
    (inbox : Option (Receiving T)) (returned : ℕ) (store : Broker) (faults : ℕ) (ended : Ending)
    (jobs : List ℕ) : Type 0 where
  pub told_is : told ≡ run.given.is_told
  pub is_run : IsRun run.given run.steps h
  pub workers : list_all (λ w. nat_lt w run.workers) (dispatch_workers h) ≡ true
  pub counted : HaveJobs run.workers h ended jobs
  pub comes : ComesFrom inbox returned h
  pub causes : told ≡ true → HaveCauses (is_refused run.store) run.faults h faults
  pub stores : told ≡ true → LeavesStore run h store
  pub used : ℕ
  pub ending : HasEnding run told h store used faults ended
