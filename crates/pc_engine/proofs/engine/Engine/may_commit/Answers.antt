-- The part's state says whether it is held.
use Rattle.std.proofs.Common.{◌∙◌, ap, sym, Err}
use Rattle.std.proofs.lemmas.Result.{err_from_is_err_and}
use Rattle.pc_engine.specs.Engine.{given_of}
use Rattle.pc_engine.specs.declared.fault.EngineFault.{EngineFault}
use Rattle.pc_engine.proofs.EngineLemmas.{commit-closed, commit-unknown, commit-free, commit-room}
use Rattle.pc_engine.proofs.engine.Engine.may_commit.Goals as goal

pub returns-in_err-part : goal.returns-in_err-part
returns-in_err-part g c =
    let got = err_from_is_err_and c.from_residual-in_err-part.result c.from_residual-in_err-part.ensures.1 in
    commit-unknown c.from_residual-in_err-part.result c.in_err-part.field-0.0 (given_of g.T.Task.outcome c.args.self.now) c.args.self.now.journal.events c.args.part
    c.in_ok-runs.ensures.runs (got.1 ∙ ap (λ (x : EngineFault). Err x) got.2)
    c.in_err-part.ensures.unknown.0 c.in_err-part.ensures.unknown.1

pub returns-then-is_none : goal.returns-then-is_none
returns-then-is_none g c = commit-free (given_of g.T.Task.outcome c.args.self.now) c.args.self.now.journal.events c.args.part
    c.in_ok-runs.ensures.runs c.in_ok-part.ensures.knows.0
    (sym c.if-is_none.ensures ∙ c.in_ok-part.ensures.knows.1.held)

pub returns : goal.returns
returns g c = commit-room c.has_room.result (given_of g.T.Task.outcome c.args.self.now) c.args.self.now.journal.events c.args.part
    c.in_ok-runs.ensures.runs c.in_ok-part.ensures.knows.0
    (sym c.if-is_none.ensures ∙ c.in_ok-part.ensures.knows.1.held) c.has_room.ensures

pub returns-in_err-runs : goal.returns-in_err-runs
returns-in_err-runs g c =
    let got = err_from_is_err_and c.from_residual.result c.from_residual.ensures.1 in
    commit-closed c.from_residual.result c.in_err-runs.field-0.0 (given_of g.T.Task.outcome c.args.self.now)
    c.args.self.now.journal.events c.args.part (got.1 ∙ ap (λ (x : EngineFault). Err x) got.2)
    c.in_err-runs.ensures.ended.0 c.in_err-runs.ensures.ended.1
