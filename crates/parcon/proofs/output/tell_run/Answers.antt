-- The output of a run stands in the sink, or its first bytes and the fault that cut it.
use Rattle.std.proofs.Common.{◌≡◌, ◌++◌, List, ℕ, ap, subst, sym, ◌∙◌}
use Rattle.pc_inputs.specs.declared.status.Status.{Status}
use Rattle.parcon.specs.RunEnding.{ending_status, journal_text, last_lines}
use Rattle.parcon.specs.Written.{IsWritten, status_after}
use Rattle.parcon.proofs.RunLemmas.{ending-written, run-lines}
use Rattle.parcon.proofs.output.tell_run.Goals as goal

pub returns-in_default : goal.returns-in_default
returns-in_default g c =
    let plan = c.args.plan.now in
    let h = c.args.journal.now.events in
    let old = g.O.Sink.written c.args.out.now in
    let now = g.O.Sink.written c.put_run-put.new.out in
    let f = g.O.Sink.faults c.args.out.now in
    let f' = g.O.Sink.faults c.put_run-put.new.out in
    let lines = journal_text plan.summary h ++ last_lines plan.setup plan.logs h c.args.ended in
    subst (λ (t : List ℕ). IsWritten old now f f' t (ending_status c.args.ended) c.status_after.result)
    (sym (run-lines plan.summary plan.setup plan.logs h c.args.ended c.in_default.not-NoMemory))
    (ending-written lines c.put_run-put.result c.args.ended c.status_after.result old now f f'
    c.in_default.not-NoMemory c.put_run-put.ensures.whole c.put_run-put.ensures.front
    c.put_run-put.ensures.failed c.put_run-put.ensures.unfailed
    (c.status_after.ensures ∙ ap (λ (s : Status). status_after s c.put_run-put.result)
    c.status_of.ensures))
