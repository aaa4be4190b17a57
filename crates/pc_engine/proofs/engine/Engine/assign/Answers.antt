-- Where nothing refuses the assignment, the state and the journal take it in.
use Rattle.std.proofs.Common.{◌≡◌, ◌≤◌, ◌∙◌, None, ap, refl, subst, Err, arith}
use Rattle.std.proofs.lemmas.Result.{err_from_is_err_and}
use Rattle.pc_model.specs.Broker.{Broker}
use Rattle.pc_offset_client.specs.Client.{kept_for}
use Rattle.pc_engine.specs.Engine.{given_of}
use Rattle.pc_engine.specs.declared.fault.EngineFault.{EngineFault}
use Rattle.pc_engine.specs.Effect.{assign_refusal}
use Rattle.pc_engine.proofs.EngineAssign.{assign-small, assigned-given, assigned-keeps}
use Rattle.pc_engine.proofs.EngineLemmas.{refused-none, assign-refused, assign-unmade, may_assign}
use Rattle.pc_engine.proofs.EngineStep.{given_to}
use Rattle.pc_engine.proofs.engine.Engine.assign.Goals as goal

pub returns-in_err-may_assign-clause-effect : goal.returns-in_err-may_assign-clause-effect
returns-in_err-may_assign-clause-effect g c =
    let got = err_from_is_err_and c.from_residual.result c.from_residual.ensures.1 in
    assign-refused c.from_residual.result c.in_err-may_assign.field-0.0 (given_of g.T.Task.outcome c.args.self.now) c.args.self.now.journal.events
    c.args.self.now.journal.events c.args.part (g.L.Link.is_told c.args.self.now.link)
    (g.L.Link.store c.args.self.now.link)
    (g.L.Link.faults c.args.self.now.link) _
    (got.1 ∙ ap (λ (x : EngineFault). Err x) got.2) c.in_err-may_assign.ensures refl

pub returns-in_err-reserve-clause-effect : goal.returns-in_err-reserve-clause-effect
returns-in_err-reserve-clause-effect g c =
    let got = err_from_is_err_and c.from_residual-in_err-reserve.result
    c.from_residual-in_err-reserve.ensures.1 in
    assign-unmade c.from_residual-in_err-reserve.result (given_of g.T.Task.outcome c.args.self.now)
    c.args.self.now.journal.events c.reserve.new.self.events c.args.part
    (g.L.Link.is_told c.args.self.now.link) (g.L.Link.store c.args.self.now.link)
    (g.L.Link.faults c.args.self.now.link) _
    (got.1 ∙ ap (λ (x : EngineFault). Err x) got.2)
    (c.in_err-reserve.ensures.events ∙ ap (λ v. v.journal.events) c.self.view_is)

pub fetch-requires : goal.fetch-requires
fetch-requires g c =
    let none : assign_refusal (given_of g.T.Task.outcome c.args.self.now) c.args.self.now.journal.events c.args.part
    ≡ None = refused-none _ _ c.in_ok-may_assign.ensures in
    let inner : assign_refusal (given_to c.self.inside.state c.self.inside.journal.events
    (g.L.Link.is_told c.self.inside.client.link) (g.T.Task.outcome c.self.inside.task.now) (kept_for (g.L.Link.store c.self.inside.client.link)))
    c.self.inside.journal.events c.args.part ≡ None = rw (← c.self.view_is) at none in
    let small = assign-small c.self.inside.state c.self.inside.journal.events
    (g.L.Link.is_told c.self.inside.client.link) (g.T.Task.outcome c.self.inside.task.now) (kept_for (g.L.Link.store c.self.inside.client.link))
    c.self.inside.journal.room c.self.invariant c.args.part inner in omega (arith, small)

pub assign-epoch-requires : goal.assign-epoch-requires
assign-epoch-requires g c =
    let none : assign_refusal (given_of g.T.Task.outcome c.args.self.now) c.args.self.now.journal.events c.args.part
    ≡ None = refused-none _ _ c.in_ok-may_assign.ensures in
    let inner : assign_refusal (given_to c.self.inside.state c.self.inside.journal.events
    (g.L.Link.is_told c.self.inside.client.link) (g.T.Task.outcome c.self.inside.task.now) (kept_for (g.L.Link.store c.self.inside.client.link)))
    c.self.inside.journal.events c.args.part ≡ None = rw (← c.self.view_is) at none in (
      (given_to c.self.inside.state c.self.inside.journal.events
          (g.L.Link.is_told c.self.inside.client.link) (g.T.Task.outcome c.self.inside.task.now) (kept_for (g.L.Link.store c.self.inside.client.link))),
      c.self.inside.journal.events,
      c.self.invariant.knows,
      (may_assign (given_to c.self.inside.state c.self.inside.journal.events
          (g.L.Link.is_told c.self.inside.client.link) (g.T.Task.outcome c.self.inside.task.now) (kept_for (g.L.Link.store c.self.inside.client.link)))
          c.self.inside.journal.events c.args.part inner).known,
    )

pub invariant_of-self-3 : goal.invariant_of-self-3
invariant_of-self-3 g c =
    let none : assign_refusal (given_of g.T.Task.outcome c.args.self.now) c.args.self.now.journal.events c.args.part
    ≡ None = refused-none _ _ c.in_ok-may_assign.ensures in
    let inner : assign_refusal (given_to c.self.inside.state c.self.inside.journal.events
    (g.L.Link.is_told c.self.inside.client.link) (g.T.Task.outcome c.self.inside.task.now) (kept_for (g.L.Link.store c.self.inside.client.link)))
    c.self.inside.journal.events c.args.part ≡ None = rw (← c.self.view_is) at none in
    assigned-keeps c.self.inside.state c.self.inside.journal.events
    (g.L.Link.is_told c.self.inside.client.link) (g.T.Task.outcome c.self.inside.task.now) (kept_for (g.L.Link.store c.self.inside.client.link))
    c.self.inside.journal.room c.self.invariant c.args.part inner c.in_ok-stored.stored
    (kept_for (g.L.Link.store c.fetch.new.self.link))
    (λ is. (c.in_ok-stored.ensures.gives is).1)
    (λ is q. ap (λ (b : Broker). kept_for b q) (c.in_ok-stored.ensures.keeps is))
    c.assign-epoch.new.self
    (c.assign-epoch.ensures.knows (given_to c.self.inside.state c.self.inside.journal.events
    (g.L.Link.is_told c.self.inside.client.link) (g.T.Task.outcome c.self.inside.task.now) (kept_for (g.L.Link.store c.self.inside.client.link)))
    c.self.inside.journal.events c.in_ok-stored.stored c.self.invariant.knows refl
    c.in_ok-window.ensures.state)
    (g.L.Link.is_told c.fetch.new.self.link) c.in_ok-stored.ensures.told c.assign-epoch.result
    (c.assign-epoch.ensures.epoch (given_to c.self.inside.state c.self.inside.journal.events
    (g.L.Link.is_told c.self.inside.client.link) (g.T.Task.outcome c.self.inside.task.now) (kept_for (g.L.Link.store c.self.inside.client.link)))
    c.self.inside.journal.events c.self.invariant.knows (may_assign (given_to c.self.inside.state c.self.inside.journal.events
    (g.L.Link.is_told c.self.inside.client.link) (g.T.Task.outcome c.self.inside.task.now) (kept_for (g.L.Link.store c.self.inside.client.link)))
    c.self.inside.journal.events c.args.part inner).known)
    c.reserve.new.self.events c.push.new.self.events c.reserve.new.self.room c.push.new.self.room
    c.outstanding.result c.in_ok-reserve.ensures.events c.push.ensures.events
    (c.outstanding.ensures _ _ c.self.invariant.knows) c.in_ok-reserve.ensures.room c.push.ensures.room

pub returns-clause-asks : goal.returns-clause-asks
returns-clause-asks g c =
    let none : assign_refusal (given_of g.T.Task.outcome c.args.self.now) c.args.self.now.journal.events c.args.part
    ≡ None = refused-none _ _ c.in_ok-may_assign.ensures in
    let inner : assign_refusal (given_to c.self.inside.state c.self.inside.journal.events
    (g.L.Link.is_told c.self.inside.client.link) (g.T.Task.outcome c.self.inside.task.now) (kept_for (g.L.Link.store c.self.inside.client.link)))
    c.self.inside.journal.events c.args.part ≡ None = rw (← c.self.view_is) at none in record {
      given = assigned-given c.self.inside.state c.self.inside.journal.events
          (g.L.Link.is_told c.self.inside.client.link) (g.T.Task.outcome c.self.inside.task.now) (kept_for (g.L.Link.store c.self.inside.client.link))
          c.self.inside.journal.room c.self.invariant c.args.part inner c.in_ok-stored.stored
          (kept_for (g.L.Link.store c.fetch.new.self.link))
          (λ is. (c.in_ok-stored.ensures.gives is).1)
          (λ is q. ap (λ (b : Broker). kept_for b q) (c.in_ok-stored.ensures.keeps is))
          c.assign-epoch.new.self
          (c.assign-epoch.ensures.knows (given_to c.self.inside.state c.self.inside.journal.events
          (g.L.Link.is_told c.self.inside.client.link) (g.T.Task.outcome c.self.inside.task.now) (kept_for (g.L.Link.store c.self.inside.client.link)))
          c.self.inside.journal.events c.in_ok-stored.stored c.self.invariant.knows refl
          c.in_ok-window.ensures.state)
          (g.L.Link.is_told c.fetch.new.self.link) c.in_ok-stored.ensures.told c.assign-epoch.result
          (c.assign-epoch.ensures.epoch (given_to c.self.inside.state c.self.inside.journal.events
          (g.L.Link.is_told c.self.inside.client.link) (g.T.Task.outcome c.self.inside.task.now) (kept_for (g.L.Link.store c.self.inside.client.link)))
          c.self.inside.journal.events c.self.invariant.knows (may_assign (given_to c.self.inside.state c.self.inside.journal.events
          (g.L.Link.is_told c.self.inside.client.link) (g.T.Task.outcome c.self.inside.task.now) (kept_for (g.L.Link.store c.self.inside.client.link)))
          c.self.inside.journal.events c.args.part inner).known)
          c.reserve.new.self.events c.push.new.self.events c.reserve.new.self.room c.push.new.self.room
          c.outstanding.result c.in_ok-reserve.ensures.events c.push.ensures.events
          (c.outstanding.ensures _ _ c.self.invariant.knows) c.in_ok-reserve.ensures.room c.push.ensures.room
          ∙ ap (λ v. given_of g.T.Task.outcome v) c.self.view_is;
      task = ap (λ v. v.task) c.self.view_is;
      told = c.in_ok-stored.ensures.told
          ∙ ap (λ v. g.L.Link.is_told v.link) c.self.view_is;
      count = subst (λ v. g.L.Link.faults v.link ≤ g.L.Link.faults c.fetch.new.self.link)
          c.self.view_is c.in_ok-stored.ensures.count;
    }
