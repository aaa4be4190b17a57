-- The records that are left rise.
use Rattle.pc_cursor.specs.Log.{contents_of, records_of}
use Rattle.pc_print.proofs.SummaryLemmas.{rises-left}
use Rattle.pc_print.proofs.summary.put_log.Goals as goal

pub put_records-requires : goal.put_records-requires
put_records-requires c = rises-left c.args.passed.now.position (records_of (contents_of c.in-Some.log.now)) c.seek.new.self.left
    c.in-Some.ensures.rise (rw c.cursor-records.ensures.all at c.seek.ensures.left)
