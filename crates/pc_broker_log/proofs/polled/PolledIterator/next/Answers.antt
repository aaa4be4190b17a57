-- The first record of the log is the next, where one more may be given and it is not above the last.
use Rattle.std.proofs.Common.{ap, ◌∙◌, arith}
use Rattle.pc_batch.specs.Record.{plain}
use Rattle.pc_broker_log.specs.Logs.{first_upto}
use Rattle.pc_broker_log.proofs.PolledLemmas.{first-one}
use Rattle.pc_broker_log.proofs.polled.PolledIterator.next.Goals as goal

pub returns-clause-steps : goal.returns-clause-steps
returns-clause-steps c =
    let p = c.self.inside in
    let next = c.in_ok-record.ensures in rw (← c.self.view_is) (
      ap (first_upto p.most p.upto) next.0
          ∙ first-one p.most p.upto (plain c.in_ok-record.record) c.next_upto.new.self.left
          (omega arith) (omega (arith, next.1)),
      next.0,
    )
