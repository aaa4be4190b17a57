-- The lines of the events are the text of the journal.
use Rattle.std.proofs.Common.{List, ℕ, ◌++◌, subst}
use Rattle.std.specs.Prelude.{OnErr, OnOk}
use Rattle.parcon.specs.Written.{HasFront, IsOnItsWay}
use Rattle.parcon.proofs.RunLemmas.{journal-lines}
use Rattle.parcon.proofs.output.put_journal.Goals as goal

pub returns-clause-ok : goal.returns-clause-ok
returns-clause-ok g c before text way =
    subst (λ (lines : List ℕ). OnOk c.put_events.result (IsOnItsWay before
    (g.O.Sink.written c.put_events.new.out) c.put_events.new.buffer.items (text ++ lines)))
    (journal-lines c.as_slice.result.now c.args.journal.now.events c.args.summary c.as_slice.ensures
    c.if-summary.false)
    (c.put_events.ensures.ok before text way)

pub returns-clause-err : goal.returns-clause-err
returns-clause-err g c before text way =
    subst (λ (lines : List ℕ). OnErr c.put_events.result (HasFront before
    (g.O.Sink.written c.put_events.new.out) (text ++ lines)))
    (journal-lines c.as_slice.result.now c.args.journal.now.events c.args.summary c.as_slice.ensures
    c.if-summary.false)
    (c.put_events.ensures.err before text way)
