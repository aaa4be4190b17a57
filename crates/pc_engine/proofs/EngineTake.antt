-- What an engine's type keeps after the dispatch of the next record.
use Rattle.std.proofs.Common.{◌≡◌, ℕ, ◌+◌, ◌≤◌, ◌<◌, Bool, true, false, List, ◌∷◌, length, Some, Result, Ok, Err, refl, ap, sym, ◌∙◌, arith}
use Rattle.std.specs.Prelude.{if◌then◌else◌}
use Rattle.pc_model.specs.declared.commit.Commit.{Commit}
use Rattle.pc_model.specs.declared.event.Event.{Event}
use Rattle.pc_model.specs.declared.event.Event.TheVariants.{Dispatch}
use Rattle.pc_model.specs.Given.{Given}
use Rattle.pc_model.specs.Jobs.{has_ended, dispatch_count, open_jobs}
use Rattle.pc_model.specs.Epochs.{epoch_of}
use Rattle.pc_model.specs.Next.{next_record}
use Rattle.pc_model.specs.Retry.{failures_of}
use Rattle.pc_model.proofs.JobLaws.{open_jobs-dispatch}
use Rattle.pc_task.specs.Jobs.{Outcomes, PlainJob}
use Rattle.pc_engine.specs.declared.fault.EngineFault.{EngineFault}
use Rattle.pc_engine.specs.declared.fault.EngineFault.TheVariants.{JournalFull}
use Rattle.pc_state.specs.declared.state.State.{State}
use Rattle.pc_state.specs.Calls.{job_to_do}
use Rattle.pc_engine.specs.Effect.{is_full}
use Rattle.pc_engine.specs.Engine.{IsEngine}
use Rattle.pc_state.specs.State.{Knows, MayCome}
use Rattle.pc_engine.proofs.EngineEvents.{room-limit}
use Rattle.pc_engine.proofs.EngineStep.{given_to, keeps-event}
use Rattle.pc_laws.proofs.TicketLaw.{unsettled-above}

-- a call that was not refused for want of room has it
pub not-full : (u : Unit {0}) (full : Bool) → ◌≡◌ {A = Result (Unit {0}) EngineFault} (Ok u)
    (if full then Err JournalFull else Ok tt) → full ≡ false
not-full u true is = cc
not-full u false is = refl

module _ (state : State) (h : List Event) (told : Bool) (outcomes : Outcomes) (kept : ℕ → Commit) (room : ℕ)
    (keeps : IsEngine (given_to state h told outcomes kept) kept state room h)
    (runs : has_ended h ≡ false) where
  abbrev given : Given
  given = given_to state h told outcomes kept

  abbrev event : ℕ → ℕ → ℕ → Event
  event worker p o = Dispatch (dispatch_count h + 1) worker p o (epoch_of h p)
      (failures_of h p o + 1)

  one-more : (worker p o : ℕ) → length (open_jobs (event worker p o ∷ h)) ≡ length (open_jobs h) + 1
  one-more worker p o = omega (
    arith,
    ap length (open_jobs-dispatch h (dispatch_count h + 1) worker
        p o (epoch_of h p) (failures_of h p o + 1)
        (unsettled-above given h keeps.knows.legal (dispatch_count h + 1) (omega arith))),
  )

  -- it may come where there is a place for it and for its result
  may-take : (worker p o : ℕ) → worker < 256 → next_record given h ≡ Some (p, o)
      → is_full h 2 ≡ false → MayCome given (event worker p o) h
  may-take worker p o small next room_left = record {
    legal = (
      record {
        ticket_is = refl;
        worker_is = small;
        record_is = next;
        epoch_is = refl;
        attempt_is = refl;
      },
      runs,
      keeps.knows.legal,
    );
    limit = let more = one-more worker p o in
        let limit = room-limit h 2 room_left in omega (arith, more, limit);
  }

  -- after it there is a place for the result of each job that is out
  pub taken-keeps : (new : State) (h1 h' : List Event) (room1 room' worker p o n : ℕ) (u : Unit {0})
      (job : PlainJob) → worker < 256 → Some (p, o) ≡ next_record given h
      → ◌≡◌ {A = Result (Unit {0}) EngineFault} (Ok u)
      (if is_full h 2 then Err JournalFull else Ok tt) → job ≡ job_to_do given h worker p o
      → (MayCome given (event worker p o) h → Knows given (event worker p o ∷ h) new)
      → h1 ≡ h → h' ≡ Dispatch job.ticket worker p o job.epoch job.attempt ∷ h1
      → n ≡ length (open_jobs h) → n + 2 ≤ room1 → room' + 1 ≡ room1
      → IsEngine (given_to new h' told outcomes kept) kept new room' h'
  taken-keeps new h1 h' room1 room' worker p o n u job small next room_left job_is knows same after
      count enough less =
      keeps-event state new h h' told outcomes kept room room' (event worker p o) keeps (λ q. refl)
      (knows (may-take worker p o small (sym next) (not-full u (is_full h 2) room_left)))
      (λ q. refl)
      (let more = one-more worker p o in omega (arith, more, count, enough, less))
      (after
      ∙ ap (λ (k : List Event). Dispatch job.ticket worker p o job.epoch job.attempt ∷ k) same
      ∙ ap (λ (j : PlainJob). Dispatch j.ticket worker p o j.epoch j.attempt ∷ h) job_is)
