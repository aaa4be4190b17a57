-- A control turn keeps the run, or ends it with a cause.
use Rattle.std.proofs.Common.{Bool, inl, inr, sym, subst}
use Rattle.pc_model.specs.Given.{Given}
use Rattle.pc_model.specs.Lawful.{IsLegal}
use Rattle.pc_task.specs.Results.{finished_job}
use Rattle.pc_engine.specs.Engine.{given_of}
use Rattle.pc_engine.specs.Stand.{stand_of}
use Rattle.pc_drain.specs.Action.{action_of}
use Rattle.pc_drain.proofs.ActionLemmas.{reason}
use Rattle.pc_pool.specs.Run.{IsConsuming, ended_by}
use Rattle.pc_pool.proofs.EndLemmas.{later-action, later-found, means-action, means-found}
use Rattle.pc_pool.proofs.ControlLemmas.{IsTurned, turned-keeps}
use Rattle.pc_pool.proofs.control.turned.Given.{Over}
use Rattle.pc_pool.proofs.control.turned.Goals as goal

pub returns-clause-later : goal.returns-clause-later
returns-clause-later g c = elim c.control_turn-turn.ensures.turn [
  | inl missed ↦ later-action (g.L.Link.is_told c.args.engine.now.link) (given_of g.T.Task.outcome c.args.engine.now) c.args.now
      (stand_of g.L.Link.store g.L.Link.faults c.args.engine.now)
      (stand_of g.L.Link.store g.L.Link.faults c.control_turn-turn.new.engine) c.control_turn-turn.result _ missed.1
  | inr found ↦ later-found (g.L.Link.is_told c.args.engine.now.link) (given_of g.T.Task.outcome c.args.engine.now) c.args.now
      (stand_of g.L.Link.store g.L.Link.faults c.args.engine.now)
      (stand_of g.L.Link.store g.L.Link.faults c.control_turn-turn.new.engine) c.control_turn-turn.result found.settles.expected (finished_job found.done)
      found.done.outcome found.settles.settles
]

is-turned : (g : Over) (c : goal.After-legal g) → IsTurned (given_of g.T.Task.outcome c.args.engine.now)
    (g.L.Link.is_told c.args.engine.now.link) c.args.last
    (stand_of g.L.Link.store g.L.Link.faults c.args.engine.now)
    (stand_of g.L.Link.store g.L.Link.faults c.control_turn-turn.new.engine)
    c.control_turn-turn.result
is-turned g c = record {
  legal = subst (λ (given : Given). IsLegal given c.control_turn-turn.new.engine.journal.events)
      c.control_turn-turn.ensures.asks.given c.legal.ensures.legal;
  follow = c.control_turn-turn.ensures.follows;
  paced = c.control_turn-turn.ensures.paced;
  place = c.control_turn-turn.ensures.place;
  any = c.control_turn-turn.ensures.any;
  goes_on = c.control_turn-turn.ensures.goes_on;
  full = c.control_turn-turn.ensures.full;
  workers = c.control_turn-turn.ensures.workers;
  later = c.control_turn-turn.ensures.asks.count;
  causes = c.control_turn-turn.ensures.causes;
  others = c.control_turn-turn.ensures.others;
  means = elim c.control_turn-turn.ensures.turn [
    | inl missed ↦ means-action (g.L.Link.is_told c.args.engine.now.link) (given_of g.T.Task.outcome c.args.engine.now) c.args.now
        c.args.last (stand_of g.L.Link.store g.L.Link.faults c.args.engine.now)
        (stand_of g.L.Link.store g.L.Link.faults c.control_turn-turn.new.engine)
        c.control_turn-turn.result c.requires.goes_on (action_of (given_of g.T.Task.outcome c.args.engine.now) c.args.engine.now.journal.events c.args.now c.args.last)
        (reason (given_of g.T.Task.outcome c.args.engine.now) c.args.engine.now.journal.events c.args.now c.args.last) missed.1
    | inr found ↦ means-found (g.L.Link.is_told c.args.engine.now.link) (given_of g.T.Task.outcome c.args.engine.now) c.args.now
        c.args.last (stand_of g.L.Link.store g.L.Link.faults c.args.engine.now)
        (stand_of g.L.Link.store g.L.Link.faults c.control_turn-turn.new.engine)
        c.control_turn-turn.result c.requires.goes_on found.settles.expected (finished_job found.done)
        found.done.outcome found.settles.settles
  ];
}

pub returns-clause-keeps : goal.returns-clause-keeps
returns-clause-keeps g c = λ run used given last keeps.
    subst (λ (b : Bool). IsConsuming run b c.control_turn-turn.new.engine.journal.events (g.L.Link.store c.control_turn-turn.new.engine.link)
    (g.L.Link.faults c.control_turn-turn.new.engine.link) used (ended_by c.control_turn-turn.result)) (sym c.control_turn-turn.ensures.asks.told)
    (turned-keeps run (g.L.Link.is_told c.args.engine.now.link) c.args.last
    (stand_of g.L.Link.store g.L.Link.faults c.args.engine.now)
    (stand_of g.L.Link.store g.L.Link.faults c.control_turn-turn.new.engine)
    c.control_turn-turn.result used keeps last
    (subst (λ (known : Given). IsTurned known (g.L.Link.is_told c.args.engine.now.link) c.args.last
    (stand_of g.L.Link.store g.L.Link.faults c.args.engine.now)
    (stand_of g.L.Link.store g.L.Link.faults c.control_turn-turn.new.engine)
    c.control_turn-turn.result) (sym given) (is-turned g c)) c.events_are_bounded.ensures
    c.what_is_left_is_given_up.ensures)
