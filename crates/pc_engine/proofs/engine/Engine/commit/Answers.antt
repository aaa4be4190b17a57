-- Where nothing refuses the commit and there is a place for its event, it is stored.
use Rattle.std.proofs.Common.{◌∙◌, ap, refl, subst, Err}
use Rattle.pc_offset_client.specs.Client.{kept_for}
use Rattle.std.proofs.lemmas.Result.{err_from_is_err_and}
use Rattle.pc_engine.specs.Engine.{given_of}
use Rattle.pc_engine.specs.declared.fault.EngineFault.{EngineFault}
use Rattle.pc_engine.proofs.EngineLemmas.{commit-refused, commit-unmade}
use Rattle.pc_engine.proofs.EngineRevoke.{Stores}
use Rattle.pc_engine.proofs.EngineStep.{given_to}
use Rattle.pc_engine.proofs.engine.Engine.commit.Goals as goal

pub returns-in_err-may_commit-clause-effect : goal.returns-in_err-may_commit-clause-effect
returns-in_err-may_commit-clause-effect g c =
    let got = err_from_is_err_and c.from_residual.result c.from_residual.ensures.1 in
    commit-refused c.from_residual.result c.in_err-may_commit.field-0.0 (given_of g.T.Task.outcome c.args.self.now)
    c.args.self.now.journal.events c.args.self.now.journal.events c.args.part
    (g.L.Link.is_told c.args.self.now.link) (g.L.Link.store c.args.self.now.link)
    (g.L.Link.store c.args.self.now.link)
    (g.L.Link.faults c.args.self.now.link) _
    (got.1 ∙ ap (λ (x : EngineFault). Err x) got.2) c.in_err-may_commit.ensures refl refl

pub returns-in_err-reserve-clause-effect : goal.returns-in_err-reserve-clause-effect
returns-in_err-reserve-clause-effect g c =
    let got = err_from_is_err_and c.from_residual-in_err-reserve.result
    c.from_residual-in_err-reserve.ensures.1 in
    commit-unmade c.from_residual-in_err-reserve.result (given_of g.T.Task.outcome c.args.self.now)
    c.args.self.now.journal.events c.reserve.new.self.events c.args.part
    (g.L.Link.is_told c.args.self.now.link) (g.L.Link.store c.args.self.now.link)
    (g.L.Link.store c.self.inside.client.link)
    (g.L.Link.faults c.args.self.now.link) _
    (got.1 ∙ ap (λ (x : EngineFault). Err x) got.2)
    (ap (λ v. g.L.Link.store v.link) c.self.view_is)
    (c.in_err-reserve.ensures.events ∙ ap (λ v. v.journal.events) c.self.view_is)

pub returns-clause-effect : goal.returns-clause-effect
returns-clause-effect g c =
    let link = c.self.inside.client.link in
    subst (λ v. Stores (g.L.Link.is_told v.link) (g.L.Link.store v.link)
    (g.L.Link.store c.store.new.self.link) (g.L.Link.faults v.link)
    (g.L.Link.faults c.store.new.self.link) c.args.part (given_of g.T.Task.outcome v)
    v.journal.events c.store.result c.store.new.self.journal.events) c.self.view_is
    (subst (λ k. Stores (g.L.Link.is_told link) (g.L.Link.store link)
    (g.L.Link.store c.store.new.self.link) (g.L.Link.faults link)
    (g.L.Link.faults c.store.new.self.link) c.args.part
    (given_to c.self.inside.state k (g.L.Link.is_told link) (g.T.Task.outcome c.self.inside.task.now)
    (kept_for (g.L.Link.store link))) k
    c.store.result c.store.new.self.journal.events) c.in_ok-reserve.ensures.events
    c.store.ensures.effect)
