-- The part's state says whether it is held.
use Rattle.std.proofs.Common.{◌∙◌, ap, Err}
use Rattle.std.proofs.lemmas.Result.{err_from_is_err_and}
use Rattle.pc_engine.specs.Engine.{given_of}
use Rattle.pc_engine.specs.declared.fault.EngineFault.{EngineFault}
use Rattle.pc_engine.proofs.EngineLemmas.{assign-closed, assign-draining, assign-unknown, assign-held, assign-room}
use Rattle.pc_engine.proofs.engine.Engine.may_assign.Goals as goal

pub returns-in_err-state : goal.returns-in_err-state
returns-in_err-state g c =
    let got = err_from_is_err_and c.from_residual-in_err-state.result c.from_residual-in_err-state.ensures.1 in
    assign-unknown c.from_residual-in_err-state.result c.in_err-state.field-0.0 (given_of g.T.Task.outcome c.args.self.now) c.args.self.now.journal.events c.args.part
    c.in_ok-runs.ensures.runs (got.1 ∙ ap (λ (x : EngineFault). Err x) got.2)
    c.in_err-state.ensures.unknown.0 c.in_err-state.ensures.unknown.1

pub returns-then-is_some : goal.returns-then-is_some
returns-then-is_some g c = assign-held (given_of g.T.Task.outcome c.args.self.now) c.args.self.now.journal.events c.args.part
    c.in_ok-runs.ensures.runs c.in_ok-flows.ensures.flows c.in_ok-state.ensures.knows.0
    (c.if-is_some.ensures ∙ c.in_ok-state.ensures.knows.1.held)

pub returns : goal.returns
returns g c = assign-room c.has_room.result (given_of g.T.Task.outcome c.args.self.now) c.args.self.now.journal.events c.args.part
    c.in_ok-runs.ensures.runs c.in_ok-flows.ensures.flows c.in_ok-state.ensures.knows.0
    (c.if-is_some.ensures ∙ c.in_ok-state.ensures.knows.1.held) c.has_room.ensures

pub returns-in_err-runs : goal.returns-in_err-runs
returns-in_err-runs g c =
    let got = err_from_is_err_and c.from_residual.result c.from_residual.ensures.1 in
    assign-closed c.from_residual.result c.in_err-runs.field-0.0 (given_of g.T.Task.outcome c.args.self.now)
    c.args.self.now.journal.events c.args.part (got.1 ∙ ap (λ (x : EngineFault). Err x) got.2)
    c.in_err-runs.ensures.ended.0 c.in_err-runs.ensures.ended.1

pub returns-in_err-flows : goal.returns-in_err-flows
returns-in_err-flows g c =
    let got = err_from_is_err_and c.from_residual-in_err-flows.result c.from_residual-in_err-flows.ensures.1 in
    assign-draining c.from_residual-in_err-flows.result c.in_err-flows.field-0.0
    (given_of g.T.Task.outcome c.args.self.now) c.args.self.now.journal.events c.args.part
    c.in_ok-runs.ensures.runs c.in_ok-state.ensures.knows.0
    (got.1 ∙ ap (λ (x : EngineFault). Err x) got.2)
    c.in_err-flows.ensures.drains.0 c.in_err-flows.ensures.drains.1
