-- The run goes on with one step more, or ends with what refused it.
use Rattle.std.proofs.Common.{◌∙◌}
use Rattle.pc_pool.proofs.StepLemmas.{engine-next, engine-refused}
use Rattle.pc_pool.proofs.applied.applied.Goals as goal

pub returns-in-Ok-answer-clause-keeps : goal.returns-in-Ok-answer-clause-keeps
returns-in-Ok-answer-clause-keeps g c run used same at due keeps =
    engine-next g.T.Task.outcome g.L.Link.is_told g.L.Link.store g.L.Link.faults c.args.engine.now
    c.apply-answer.new.engine c.args.step.now run used same at due keeps c.apply-answer.ensures.asks
    c.apply-answer.ensures.others c.legal.ensures.legal c.in-Ok-answer.ensures.block

pub returns-clause-keeps : goal.returns-clause-keeps
returns-clause-keeps g c run used same at due keeps =
    engine-refused g.T.Task.outcome g.L.Link.is_told g.L.Link.store g.L.Link.faults
    c.args.engine.now c.apply-answer.new.engine c.args.step.now run used same at due keeps
    c.apply-answer.ensures.asks c.apply-answer.ensures.others c.legal.ensures.legal c.in-Err.fault
    c.as_slice.result.now c.first_free.result c.ending_of.result c.events_are_bounded.ensures
    (c.in-Err.ensures.refusal c.requires) c.in-Err.ensures.block
    (c.as_slice.ensures.value ∙ c.in-Ok.ensures) c.first_free.ensures c.ending_of.ensures
