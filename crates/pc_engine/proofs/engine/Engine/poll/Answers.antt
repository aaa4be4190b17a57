-- The next records of the part are polled, and the poll of them is lawful.
use Rattle.std.proofs.Common.{◌≡◌, ◌∙◌, ◌++◌, None, Result, Ok, ap, subst, ℕ}
use Rattle.pc_offset_client.specs.Client.{kept_for}
use Rattle.pc_engine.specs.Engine.{given_of}
use Rattle.pc_engine.specs.declared.fault.EngineFault.{EngineFault}
use Rattle.pc_engine.specs.Effect.{poll_refusal, poll_step}
use Rattle.pc_engine.proofs.EngineLemmas.{refused-none}
use Rattle.pc_engine.proofs.EnginePoll.{free-first, may-poll, polled-keeps, polled-given, polled-does}
use Rattle.pc_engine.proofs.EngineStep.{given_to}
use Rattle.pc_engine.proofs.engine.Engine.poll.Goals as goal

pub poll-requires-clause-held : goal.poll-requires-clause-held
poll-requires-clause-held g c =
    let none : poll_refusal (given_of g.T.Task.outcome c.args.self.now) c.args.self.now.journal.events c.args.part
    ≡ None = refused-none _ _ c.in_ok-may_poll.ensures in
    let inner : poll_refusal (given_to c.self.inside.state c.self.inside.journal.events
    (g.L.Link.is_told c.self.inside.client.link) (g.T.Task.outcome c.self.inside.task.now) (kept_for (g.L.Link.store c.self.inside.client.link)))
    c.self.inside.journal.events c.args.part ≡ None = rw (← c.self.view_is) at none in
    let held = (may-poll (given_to c.self.inside.state c.self.inside.journal.events
    (g.L.Link.is_told c.self.inside.client.link) (g.T.Task.outcome c.self.inside.task.now) (kept_for (g.L.Link.store c.self.inside.client.link)))
    c.self.inside.journal.events c.args.part inner).held in (
      (given_to c.self.inside.state c.self.inside.journal.events
          (g.L.Link.is_told c.self.inside.client.link) (g.T.Task.outcome c.self.inside.task.now) (kept_for (g.L.Link.store c.self.inside.client.link))),
      c.self.inside.journal.events,
      c.self.invariant.knows,
      held,
    )

pub invariant_of-self-2 : goal.invariant_of-self-2
invariant_of-self-2 g c =
    let none : poll_refusal (given_of g.T.Task.outcome c.args.self.now) c.args.self.now.journal.events c.args.part
    ≡ None = refused-none _ _ c.in_ok-may_poll.ensures in
    let inner : poll_refusal (given_to c.self.inside.state c.self.inside.journal.events
    (g.L.Link.is_told c.self.inside.client.link) (g.T.Task.outcome c.self.inside.task.now) (kept_for (g.L.Link.store c.self.inside.client.link)))
    c.self.inside.journal.events c.args.part ≡ None = rw (← c.self.view_is) at none in
    let held = (may-poll (given_to c.self.inside.state c.self.inside.journal.events
    (g.L.Link.is_told c.self.inside.client.link) (g.T.Task.outcome c.self.inside.task.now) (kept_for (g.L.Link.store c.self.inside.client.link)))
    c.self.inside.journal.events c.args.part inner).held in
    let left = c.in-Some.ensures (given_to c.self.inside.state c.self.inside.journal.events
    (g.L.Link.is_told c.self.inside.client.link) (g.T.Task.outcome c.self.inside.task.now) (kept_for (g.L.Link.store c.self.inside.client.link)))
    c.self.inside.journal.events c.self.invariant.knows held in
    let free = free-first (given_to c.self.inside.state c.self.inside.journal.events
    (g.L.Link.is_told c.self.inside.client.link) (g.T.Task.outcome c.self.inside.task.now) (kept_for (g.L.Link.store c.self.inside.client.link)))
    c.self.inside.journal.events c.args.part c.in-Some.first _ (c.in_ok-unpressed.ensures (given_to c.self.inside.state c.self.inside.journal.events
    (g.L.Link.is_told c.self.inside.client.link) (g.T.Task.outcome c.self.inside.task.now) (kept_for (g.L.Link.store c.self.inside.client.link)))
    c.self.inside.journal.events c.self.invariant.knows held) in
    let room_left = rw (← c.self.view_is) at c.in_ok-has_room.ensures in
    let taken = c.in_ok-taken.ensures.taken (given_to c.self.inside.state c.self.inside.journal.events
    (g.L.Link.is_told c.self.inside.client.link) (g.T.Task.outcome c.self.inside.task.now) (kept_for (g.L.Link.store c.self.inside.client.link)))
    c.self.inside.journal.events c.self.invariant.knows held in
    polled-keeps c.self.inside.state c.self.inside.journal.events
    (g.L.Link.is_told c.self.inside.client.link) (g.T.Task.outcome c.self.inside.task.now) (kept_for (g.L.Link.store c.self.inside.client.link))
    c.self.inside.journal.room c.self.invariant c.args.part c.args.max c.in-Some.first inner
    c.requires.some left free c.poll.new.self c.reserve.new.self.events
    c.push.new.self.events c.reserve.new.self.room c.push.new.self.room c.outstanding.result
    c.in_ok-taken.taken.count c.in_ok-taken.taken.last _ room_left taken.count
    (c.in_ok-taken.ensures.polled (given_to c.self.inside.state c.self.inside.journal.events
    (g.L.Link.is_told c.self.inside.client.link) (g.T.Task.outcome c.self.inside.task.now) (kept_for (g.L.Link.store c.self.inside.client.link))) c.self.inside.journal.events c.self.invariant.knows held)
    taken.last c.in_ok-reserve.ensures.events c.push.ensures.events
    (c.outstanding.ensures _ _ c.self.invariant.knows) c.in_ok-reserve.ensures.room c.push.ensures.room

pub returns-clause-effect : goal.returns-clause-effect
returns-clause-effect g c =
    let none : poll_refusal (given_of g.T.Task.outcome c.args.self.now) c.args.self.now.journal.events c.args.part
    ≡ None = refused-none _ _ c.in_ok-may_poll.ensures in
    let inner : poll_refusal (given_to c.self.inside.state c.self.inside.journal.events
    (g.L.Link.is_told c.self.inside.client.link) (g.T.Task.outcome c.self.inside.task.now) (kept_for (g.L.Link.store c.self.inside.client.link)))
    c.self.inside.journal.events c.args.part ≡ None = rw (← c.self.view_is) at none in
    let held = (may-poll (given_to c.self.inside.state c.self.inside.journal.events
    (g.L.Link.is_told c.self.inside.client.link) (g.T.Task.outcome c.self.inside.task.now) (kept_for (g.L.Link.store c.self.inside.client.link)))
    c.self.inside.journal.events c.args.part inner).held in
    let left = c.in-Some.ensures (given_to c.self.inside.state c.self.inside.journal.events
    (g.L.Link.is_told c.self.inside.client.link) (g.T.Task.outcome c.self.inside.task.now) (kept_for (g.L.Link.store c.self.inside.client.link)))
    c.self.inside.journal.events c.self.invariant.knows held in
    let free = free-first (given_to c.self.inside.state c.self.inside.journal.events
    (g.L.Link.is_told c.self.inside.client.link) (g.T.Task.outcome c.self.inside.task.now) (kept_for (g.L.Link.store c.self.inside.client.link)))
    c.self.inside.journal.events c.args.part c.in-Some.first _ (c.in_ok-unpressed.ensures (given_to c.self.inside.state c.self.inside.journal.events
    (g.L.Link.is_told c.self.inside.client.link) (g.T.Task.outcome c.self.inside.task.now) (kept_for (g.L.Link.store c.self.inside.client.link)))
    c.self.inside.journal.events c.self.invariant.knows held) in
    let room_left = rw (← c.self.view_is) at c.in_ok-has_room.ensures in
    let taken = c.in_ok-taken.ensures.taken (given_to c.self.inside.state c.self.inside.journal.events
    (g.L.Link.is_told c.self.inside.client.link) (g.T.Task.outcome c.self.inside.task.now) (kept_for (g.L.Link.store c.self.inside.client.link)))
    c.self.inside.journal.events c.self.invariant.knows held in
    subst (λ v. (◌≡◌ {A = Result ℕ EngineFault} (Ok c.in_ok-taken.taken.count)
    (poll_step (given_of g.T.Task.outcome v) v.journal.events c.args.part c.args.max).answer)
    × (c.push.new.self.events
    ≡ (poll_step (given_of g.T.Task.outcome v) v.journal.events c.args.part c.args.max).events ++ v.journal.events))
    c.self.view_is (polled-does c.self.inside.state c.self.inside.journal.events
    (g.L.Link.is_told c.self.inside.client.link) (g.T.Task.outcome c.self.inside.task.now) (kept_for (g.L.Link.store c.self.inside.client.link))
    c.self.inside.journal.room c.self.invariant c.args.part c.args.max c.in-Some.first inner
    c.requires.some left free c.poll.new.self c.reserve.new.self.events
    c.push.new.self.events c.reserve.new.self.room c.push.new.self.room c.outstanding.result
    c.in_ok-taken.taken.count c.in_ok-taken.taken.last _ room_left taken.count
    (c.in_ok-taken.ensures.polled (given_to c.self.inside.state c.self.inside.journal.events
    (g.L.Link.is_told c.self.inside.client.link) (g.T.Task.outcome c.self.inside.task.now) (kept_for (g.L.Link.store c.self.inside.client.link))) c.self.inside.journal.events c.self.invariant.knows held)
    taken.last c.in_ok-reserve.ensures.events c.push.ensures.events
    (c.outstanding.ensures _ _ c.self.invariant.knows) c.in_ok-reserve.ensures.room c.push.ensures.room)

pub returns-clause-keeps : goal.returns-clause-keeps
returns-clause-keeps g c =
    let none : poll_refusal (given_of g.T.Task.outcome c.args.self.now) c.args.self.now.journal.events c.args.part
    ≡ None = refused-none _ _ c.in_ok-may_poll.ensures in
    let inner : poll_refusal (given_to c.self.inside.state c.self.inside.journal.events
    (g.L.Link.is_told c.self.inside.client.link) (g.T.Task.outcome c.self.inside.task.now) (kept_for (g.L.Link.store c.self.inside.client.link)))
    c.self.inside.journal.events c.args.part ≡ None = rw (← c.self.view_is) at none in
    let held = (may-poll (given_to c.self.inside.state c.self.inside.journal.events
    (g.L.Link.is_told c.self.inside.client.link) (g.T.Task.outcome c.self.inside.task.now) (kept_for (g.L.Link.store c.self.inside.client.link)))
    c.self.inside.journal.events c.args.part inner).held in
    let left = c.in-Some.ensures (given_to c.self.inside.state c.self.inside.journal.events
    (g.L.Link.is_told c.self.inside.client.link) (g.T.Task.outcome c.self.inside.task.now) (kept_for (g.L.Link.store c.self.inside.client.link)))
    c.self.inside.journal.events c.self.invariant.knows held in
    let free = free-first (given_to c.self.inside.state c.self.inside.journal.events
    (g.L.Link.is_told c.self.inside.client.link) (g.T.Task.outcome c.self.inside.task.now) (kept_for (g.L.Link.store c.self.inside.client.link)))
    c.self.inside.journal.events c.args.part c.in-Some.first _ (c.in_ok-unpressed.ensures (given_to c.self.inside.state c.self.inside.journal.events
    (g.L.Link.is_told c.self.inside.client.link) (g.T.Task.outcome c.self.inside.task.now) (kept_for (g.L.Link.store c.self.inside.client.link)))
    c.self.inside.journal.events c.self.invariant.knows held) in
    let room_left = rw (← c.self.view_is) at c.in_ok-has_room.ensures in
    let taken = c.in_ok-taken.ensures.taken (given_to c.self.inside.state c.self.inside.journal.events
    (g.L.Link.is_told c.self.inside.client.link) (g.T.Task.outcome c.self.inside.task.now) (kept_for (g.L.Link.store c.self.inside.client.link)))
    c.self.inside.journal.events c.self.invariant.knows held in
    record {
      given = polled-given c.self.inside.state c.self.inside.journal.events
          (g.L.Link.is_told c.self.inside.client.link) (g.T.Task.outcome c.self.inside.task.now) (kept_for (g.L.Link.store c.self.inside.client.link))
          c.self.inside.journal.room c.self.invariant c.args.part c.args.max c.in-Some.first inner
          c.requires.some left free c.poll.new.self c.reserve.new.self.events
          c.push.new.self.events c.reserve.new.self.room c.push.new.self.room c.outstanding.result
          c.in_ok-taken.taken.count c.in_ok-taken.taken.last _ room_left taken.count
          (c.in_ok-taken.ensures.polled (given_to c.self.inside.state c.self.inside.journal.events
          (g.L.Link.is_told c.self.inside.client.link) (g.T.Task.outcome c.self.inside.task.now) (kept_for (g.L.Link.store c.self.inside.client.link))) c.self.inside.journal.events c.self.invariant.knows held)
          taken.last c.in_ok-reserve.ensures.events c.push.ensures.events
          (c.outstanding.ensures _ _ c.self.invariant.knows) c.in_ok-reserve.ensures.room c.push.ensures.room
          ∙ ap (λ v. given_of g.T.Task.outcome v) c.self.view_is;
      task = ap (λ v. v.task) c.self.view_is;
      link = ap (λ v. v.link) c.self.view_is;
    }
