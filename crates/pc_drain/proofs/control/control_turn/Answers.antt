-- The turn is that of the result or of the action, and keeps what either keeps.
use Rattle.std.proofs.Common.{◌≡◌, ◌∙◌, ◌≤◌, ◌+◌, ℕ, Bool, inl, inr, refl, subst, arith}
use Rattle.pc_offset_client.specs.declared.fault.ClientFault.TheVariants.{LinkFailed}
use Rattle.pc_task.specs.Results.{finished_job}
use Rattle.pc_engine.specs.Engine.{given_of}
use Rattle.pc_engine.specs.Stand.{stand_of}
use Rattle.pc_drain.specs.Action.{action_of}
use Rattle.pc_drain.specs.Counts.{settled_count, taken_count}
use Rattle.pc_drain.specs.Turn.{DoesAction}
use Rattle.pc_drain.proofs.ActionLemmas.{reason}
use Rattle.pc_drain.proofs.TurnLemmas.{keeps-action, keeps-found}
use Rattle.pc_drain.proofs.CauseLemmas.{causes-action, causes-found}
use Rattle.pc_drain.proofs.CountLemmas.{taken-none, taken-one}
use Rattle.pc_drain.proofs.OutsideLemmas.{cause-action, client-found, full-action, full-found, idle-action, idle-found}
use Rattle.pc_drain.proofs.RunLemmas.{Keeps}
use Rattle.pc_drain.proofs.control.control_turn.Given.{Over}
use Rattle.pc_drain.proofs.control.control_turn.Goals as goal

-- ---- a result

found-keeps : (g : Over) (c : goal.After-settle g)
    → Keeps (given_of g.T.Task.outcome c.args.engine.now) c.args.last 1
    c.args.engine.now.journal.events c.settle.new.engine.journal.events c.settle.result
found-keeps g c =
    let turn = c.settle.ensures.turn in
    keeps-found (given_of g.T.Task.outcome c.args.engine.now) c.args.now c.args.last
    (finished_job c.in-Some.done) (stand_of g.L.Link.store g.L.Link.faults c.args.engine.now)
    (stand_of g.L.Link.store g.L.Link.faults c.settle.new.engine) c.settle.result turn.expected
    c.in-Some.done.outcome
    (λ e. (turn.expects.0 e).job) turn.due turn.settles

found-taken : (g : Over) (c : goal.After-settle g)
    → taken_count c.take.new.inbox.taken ≡ taken_count c.args.inbox.now.taken + 1
found-taken g c = taken-one c.args.inbox.now c.take.new.inbox c.in-Some.done c.in-Some.ensures.next

pub returns-in-Some-clause-turn : goal.returns-in-Some-clause-turn
returns-in-Some-clause-turn g c = inr (record {
  done = c.in-Some.done;
  taken = c.in-Some.ensures.next;
  settles = c.settle.ensures.turn;
})

pub returns-in-Some-clause-idle : goal.returns-in-Some-clause-idle
returns-in-Some-clause-idle g c = λ is. absurd
    (idle-found (given_of g.T.Task.outcome c.args.engine.now) c.args.now
    (finished_job c.in-Some.done) (stand_of g.L.Link.store g.L.Link.faults c.args.engine.now)
    (stand_of g.L.Link.store g.L.Link.faults c.settle.new.engine) c.settle.result
    c.settle.ensures.turn.expected c.in-Some.done.outcome c.settle.ensures.turn.settles is)

pub returns-in-Some-clause-goes_on : goal.returns-in-Some-clause-goes_on
returns-in-Some-clause-goes_on g c = (found-keeps g c).goes_on c.requires.goes_on

pub returns-in-Some-clause-full : goal.returns-in-Some-clause-full
returns-in-Some-clause-full g c = full-found (given_of g.T.Task.outcome c.args.engine.now)
    c.args.now (finished_job c.in-Some.done)
    (stand_of g.L.Link.store g.L.Link.faults c.args.engine.now)
    (stand_of g.L.Link.store g.L.Link.faults c.settle.new.engine) c.settle.result
    c.settle.ensures.turn.expected c.in-Some.done.outcome c.settle.ensures.turn.settles

pub returns-in-Some-clause-cause : goal.returns-in-Some-clause-cause
returns-in-Some-clause-cause g c = λ is. absurd
    (client-found (given_of g.T.Task.outcome c.args.engine.now) c.args.now
    (finished_job c.in-Some.done) (stand_of g.L.Link.store g.L.Link.faults c.args.engine.now)
    (stand_of g.L.Link.store g.L.Link.faults c.settle.new.engine) c.settle.result
    c.settle.ensures.turn.expected c.in-Some.done.outcome c.settle.ensures.turn.settles LinkFailed is)

pub returns-in-Some-clause-place : goal.returns-in-Some-clause-place
returns-in-Some-clause-place g c = (found-keeps g c).place

pub returns-in-Some-clause-follows : goal.returns-in-Some-clause-follows
returns-in-Some-clause-follows g c = (found-keeps g c).follow

pub returns-in-Some-clause-paced : goal.returns-in-Some-clause-paced
returns-in-Some-clause-paced g c = (found-keeps g c).paced

pub returns-in-Some-clause-any : goal.returns-in-Some-clause-any
returns-in-Some-clause-any g c = (found-keeps g c).any

pub returns-in-Some-clause-causes : goal.returns-in-Some-clause-causes
returns-in-Some-clause-causes g c = λ told.
    causes-found (given_of g.T.Task.outcome c.args.engine.now) c.args.now
    (finished_job c.in-Some.done) c.settle.ensures.turn.expected c.in-Some.done.outcome
    (stand_of g.L.Link.store g.L.Link.faults c.args.engine.now)
    (stand_of g.L.Link.store g.L.Link.faults c.settle.new.engine) c.settle.result
    c.settle.ensures.turn.settles

pub returns-in-Some-clause-settled : goal.returns-in-Some-clause-settled
returns-in-Some-clause-settled g c =
    let settled : settled_count c.settle.new.engine.journal.events
    ≤ settled_count c.args.engine.now.journal.events + 1 = (found-keeps g c).settled in
    let taken = found-taken g c in omega (arith, settled, taken)

pub returns-in-Some-clause-workers : goal.returns-in-Some-clause-workers
returns-in-Some-clause-workers g c = (found-keeps g c).workers

-- ---- an action

action-keeps : (g : Over) (c : goal.After-act g)
    → Keeps (given_of g.T.Task.outcome c.args.engine.now) c.args.last 0
    c.args.engine.now.journal.events c.act.new.engine.journal.events c.act.result
action-keeps g c =
    let given = given_of g.T.Task.outcome c.args.engine.now in
    let h = c.args.engine.now.journal.events in
    keeps-action (g.L.Link.is_told c.args.engine.now.link) given c.args.now c.args.last
    (stand_of g.L.Link.store g.L.Link.faults c.args.engine.now)
    (stand_of g.L.Link.store g.L.Link.faults c.act.new.engine) c.act.result
    (action_of given h c.args.now c.args.last) (reason given h c.args.now c.args.last)
    c.act.ensures.turn

pub returns-in-None-clause-turn : goal.returns-in-None-clause-turn
returns-in-None-clause-turn g c = inl ((c.in-None.ensures.missed refl), c.act.ensures.turn)

pub returns-in-None-clause-idle : goal.returns-in-None-clause-idle
returns-in-None-clause-idle g c =
    let given = given_of g.T.Task.outcome c.args.engine.now in
    let h = c.args.engine.now.journal.events in
    idle-action (g.L.Link.is_told c.args.engine.now.link) given c.args.now c.args.last
    (stand_of g.L.Link.store g.L.Link.faults c.args.engine.now)
    (stand_of g.L.Link.store g.L.Link.faults c.act.new.engine) c.act.result
    (action_of given h c.args.now c.args.last) (reason given h c.args.now c.args.last)
    c.act.ensures.turn

pub returns-in-None-clause-goes_on : goal.returns-in-None-clause-goes_on
returns-in-None-clause-goes_on g c = (action-keeps g c).goes_on c.requires.goes_on

pub returns-in-None-clause-full : goal.returns-in-None-clause-full
returns-in-None-clause-full g c =
    let given = given_of g.T.Task.outcome c.args.engine.now in
    full-action (g.L.Link.is_told c.args.engine.now.link) given c.args.now
    (stand_of g.L.Link.store g.L.Link.faults c.args.engine.now)
    (stand_of g.L.Link.store g.L.Link.faults c.act.new.engine) c.act.result
    (action_of given c.args.engine.now.journal.events c.args.now c.args.last) c.act.ensures.turn

pub returns-in-None-clause-cause : goal.returns-in-None-clause-cause
returns-in-None-clause-cause g c =
    let given = given_of g.T.Task.outcome c.args.engine.now in
    cause-action (g.L.Link.is_told c.args.engine.now.link) given c.args.now
    (stand_of g.L.Link.store g.L.Link.faults c.args.engine.now)
    (stand_of g.L.Link.store g.L.Link.faults c.act.new.engine) c.act.result
    (action_of given c.args.engine.now.journal.events c.args.now c.args.last) c.act.ensures.turn

pub returns-in-None-clause-place : goal.returns-in-None-clause-place
returns-in-None-clause-place g c = (action-keeps g c).place

pub returns-in-None-clause-follows : goal.returns-in-None-clause-follows
returns-in-None-clause-follows g c = (action-keeps g c).follow

pub returns-in-None-clause-paced : goal.returns-in-None-clause-paced
returns-in-None-clause-paced g c = (action-keeps g c).paced

pub returns-in-None-clause-any : goal.returns-in-None-clause-any
returns-in-None-clause-any g c = (action-keeps g c).any

pub returns-in-None-clause-causes : goal.returns-in-None-clause-causes
returns-in-None-clause-causes g c = λ told.
    let given = given_of g.T.Task.outcome c.args.engine.now in
    let action = action_of given c.args.engine.now.journal.events c.args.now c.args.last in
    causes-action given c.args.now (stand_of g.L.Link.store g.L.Link.faults c.args.engine.now)
    (stand_of g.L.Link.store g.L.Link.faults c.act.new.engine) c.act.result action
    (subst (λ (b : Bool). DoesAction b given c.args.now action
    (stand_of g.L.Link.store g.L.Link.faults c.args.engine.now)
    (stand_of g.L.Link.store g.L.Link.faults c.act.new.engine) c.act.result) told
    c.act.ensures.turn)

pub returns-in-None-clause-settled : goal.returns-in-None-clause-settled
returns-in-None-clause-settled g c =
    let settled : settled_count c.act.new.engine.journal.events
    ≤ settled_count c.args.engine.now.journal.events + 0 = (action-keeps g c).settled in
    let taken = taken-none c.args.inbox.now c.take.new.inbox (c.in-None.ensures.missed refl) in
    omega (arith, settled, taken)

pub returns-in-None-clause-workers : goal.returns-in-None-clause-workers
returns-in-None-clause-workers g c = (action-keeps g c).workers
