-- The fault line stands in the sink, or its front and the fault that cut it.
use Rattle.parcon.proofs.WrittenLemmas.{fault-written, memory-written}
use Rattle.parcon.proofs.output.tell_fault.Goals as goal

pub returns-in-NoMemory-clause-written : goal.returns-in-NoMemory-clause-written
returns-in-NoMemory-clause-written g c =
    memory-written (g.O.Sink.written c.args.out.now) (g.O.Sink.faults c.args.out.now)
    c.args.status c.in-NoMemory.is

pub returns-in_default-clause-written : goal.returns-in_default-clause-written
returns-in_default-clause-written g c =
    fault-written c.put_status-put.result c.args.status c.status_after.result
    (g.O.Sink.written c.args.out.now) (g.O.Sink.written c.put_status-put.new.out)
    (g.O.Sink.faults c.args.out.now) (g.O.Sink.faults c.put_status-put.new.out)
    c.put_status-put.ensures.whole c.put_status-put.ensures.front c.put_status-put.ensures.failed
    c.put_status-put.ensures.unfailed
    c.status_after.ensures
