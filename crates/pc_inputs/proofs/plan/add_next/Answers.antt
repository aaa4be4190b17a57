-- What the table says of the next part.
use Rattle.pc_inputs.proofs.PlanLemmas.{log-added}
use Rattle.pc_cursor.specs.Log.{contents_of, records_of}
use Rattle.pc_inputs.proofs.plan.add_next.Goals as goal

pub returns-in-Ok-clause-ok : goal.returns-in-Ok-clause-ok
returns-in-Ok-clause-ok c =
    log-added c.args.logs.now c.args.part (records_of (contents_of c.args.log)) c.requires.next
    c.requires.known c.add.new.self c.in-Ok.field-0 c.in-Ok.ensures.added c.in-Ok.ensures.refused
