-- The job that is out, and the record of the logs.
use Rattle.std.proofs.Common.{refl}
use Rattle.pc_batch.specs.Record.{plain}
use Rattle.pc_task.specs.Results.{finished_job}
use Rattle.pc_state.proofs.ExpectedLemmas.{expected-found, expected-lost, out-same}
use Rattle.pc_state.proofs.state.State.expects.Goals as goal

pub returns-in-Some : goal.returns-in-Some
returns-in-Some g c = λ given h knows. expected-found given h c.args.self.now
    (finished_job c.args.done.now)
    (plain c.in-Some.entry) c.args.self.now.setup.now.settings.rules c.get.result c.is_of.result knows
    (c.get.ensures h knows.jobs)
    (out-same c.get.result _ c.ne.result c.if-ne.false c.ne.ensures) (c.in-Some.ensures given h knows) refl
    c.is_of.ensures

pub returns-in-None : goal.returns-in-None
returns-in-None g c = λ given h knows. expected-lost given h (finished_job c.args.done.now)
    (c.in-None.ensures given h knows)
