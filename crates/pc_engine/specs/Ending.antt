-- The exact effect of the calls by which a run comes to its end.
use Rattle.std.specs.Prelude.{if◌then◌else◌, List, [], ◌∷◌, Option, Some, None, Ok, option_map}
use Rattle.std.specs.Option.{option_or}
use Rattle.pc_model.specs.declared.event.Event.{Event}
use Rattle.pc_model.specs.declared.event.Event.TheVariants.{Closed as Shut, Done, Drain}
use Rattle.pc_model.specs.Given.{Given}
use Rattle.pc_model.specs.Jobs.{has_ended, is_draining}
use Rattle.pc_state.specs.Queries.{unfinished_part}
use Rattle.pc_engine.specs.declared.fault.EngineFault.{EngineFault}
use Rattle.pc_engine.specs.declared.fault.EngineFault.TheVariants.{Closed, Draining, JournalFull}
use Rattle.pc_engine.specs.Effect.{Step, crash_refusal, is_full, refuses}
use Rattle.pc_engine.specs.Fault.{unfinished_fault}

-- a call that adds this event, if nothing refuses it
abbrev pub adds_after : Event → Option EngineFault → Step (Unit {0})
adds_after event (Some fault) = refuses fault
adds_after event None = record { answer = Ok tt; events = event ∷ [] }

-- the first refusal of a drain
abbrev pub drain_refusal : List Event → Option EngineFault
drain_refusal h =
    if has_ended h then Some Closed
    else if is_draining h then Some Draining
    else if is_full h 1 then Some JournalFull
    else None

abbrev pub drain_step : List Event → Step (Unit {0})
drain_step h = adds_after Drain (drain_refusal h)

-- the first refusal of the end that says that all is done
abbrev pub finish_refusal : Given → List Event → Option EngineFault
finish_refusal given h =
    if has_ended h then Some Closed
    else option_or (option_map unfinished_fault (unfinished_part given h))
    (if is_full h 1 then Some JournalFull else None)

abbrev pub finish_step : Given → List Event → Step (Unit {0})
finish_step given h = adds_after Done (finish_refusal given h)

-- a close has the refusals of a crash
abbrev pub close_step : List Event → Step (Unit {0})
close_step h = adds_after Shut (crash_refusal h)
