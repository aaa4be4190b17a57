-- The journal and the last lines stand in the sink, or the first bytes of them.
use Rattle.std.proofs.Common.{List, ℕ, [], sym, subst}
use Rattle.parcon.specs.RunEnding.{journal_text, last_lines}
use Rattle.parcon.specs.Written.{IsOnItsWay}
use Rattle.parcon.proofs.WrittenLemmas.{front-longer, front-of-way, way-begin, way-put}
use Rattle.parcon.proofs.output.put_run.Goals as goal

pub returns-in_err-put_journal-clause-front : goal.returns-in_err-put_journal-clause-front
returns-in_err-put_journal-clause-front g c =
    let old = g.O.Sink.written c.args.out.now in
    let first = g.O.Sink.written c.put_journal.new.out in
    let journal = journal_text c.args.plan.now.summary c.args.journal.now.events in
    let last = last_lines c.args.plan.now.setup c.args.plan.now.logs c.args.journal.now.events
    c.args.ended in
    let way = subst (λ (b : List ℕ). IsOnItsWay old old b []) (sym c.new-buffer.ensures.items)
    (way-begin old []) in
    front-longer old first journal last (c.in_err-put_journal.ensures.err old [] way)

pub returns-in_err-put_last-clause-front : goal.returns-in_err-put_last-clause-front
returns-in_err-put_last-clause-front g c =
    let old = g.O.Sink.written c.args.out.now in
    let first = g.O.Sink.written c.put_journal.new.out in
    let journal = journal_text c.args.plan.now.summary c.args.journal.now.events in
    let last = last_lines c.args.plan.now.setup c.args.plan.now.logs c.args.journal.now.events
    c.args.ended in
    let way = subst (λ (b : List ℕ). IsOnItsWay old old b []) (sym c.new-buffer.ensures.items)
    (way-begin old []) in
    front-longer old first journal last
    (front-of-way old first c.put_journal.new.buffer.items journal
    (c.in_ok-put_journal.ensures.ok old [] way))

pub returns-in_err-flush-clause-front : goal.returns-in_err-flush-clause-front
returns-in_err-flush-clause-front g c =
    let old = g.O.Sink.written c.args.out.now in
    let first = g.O.Sink.written c.put_journal.new.out in
    let journal = journal_text c.args.plan.now.summary c.args.journal.now.events in
    let last = last_lines c.args.plan.now.setup c.args.plan.now.logs c.args.journal.now.events
    c.args.ended in
    let way = subst (λ (b : List ℕ). IsOnItsWay old old b []) (sym c.new-buffer.ensures.items)
    (way-begin old []) in
    let put = way-put old first c.put_journal.new.buffer.items c.put_last.new.buffer.items journal
    last (c.in_ok-put_journal.ensures.ok old [] way) c.in_ok-put_last.ensures.ok in
    c.flush.ensures.front old _ put

pub returns-clause-whole : goal.returns-clause-whole
returns-clause-whole g c =
    let old = g.O.Sink.written c.args.out.now in
    let first = g.O.Sink.written c.put_journal.new.out in
    let journal = journal_text c.args.plan.now.summary c.args.journal.now.events in
    let last = last_lines c.args.plan.now.setup c.args.plan.now.logs c.args.journal.now.events
    c.args.ended in
    let way = subst (λ (b : List ℕ). IsOnItsWay old old b []) (sym c.new-buffer.ensures.items)
    (way-begin old []) in
    let put = way-put old first c.put_journal.new.buffer.items c.put_last.new.buffer.items journal
    last (c.in_ok-put_journal.ensures.ok old [] way) c.in_ok-put_last.ensures.ok in
    c.in_ok-flush.ensures.whole old _ put

pub returns-clause-front : goal.returns-clause-front
returns-clause-front g c =
    let old = g.O.Sink.written c.args.out.now in
    let first = g.O.Sink.written c.put_journal.new.out in
    let journal = journal_text c.args.plan.now.summary c.args.journal.now.events in
    let last = last_lines c.args.plan.now.setup c.args.plan.now.logs c.args.journal.now.events
    c.args.ended in
    let way = subst (λ (b : List ℕ). IsOnItsWay old old b []) (sym c.new-buffer.ensures.items)
    (way-begin old []) in
    let put = way-put old first c.put_journal.new.buffer.items c.put_last.new.buffer.items journal
    last (c.in_ok-put_journal.ensures.ok old [] way) c.in_ok-put_last.ensures.ok in
    c.flush.ensures.front old _ put
