-- The lines of the history and those of the remarks are the text of the play.
use Rattle.std.proofs.Common.{◌≡◌, List, ℕ, [], sym, subst}
use Rattle.std.specs.List.{flat_map}
use Rattle.pc_print.specs.Line.{line_of}
use Rattle.parcon.specs.Remark.{remark_line}
use Rattle.parcon.specs.Written.{HasFront, IsOnItsWay, with_bytes}
use Rattle.parcon.proofs.WrittenLemmas.{way-begin, front-longer, text_with-lines}
use Rattle.parcon.proofs.output.put_play.Goals as goal

pub returns-in_err-put_events-clause-front : goal.returns-in_err-put_events-clause-front
returns-in_err-put_events-clause-front g c =
    let old = g.O.Sink.written c.args.out.now in
    let now = g.O.Sink.written c.put_events.new.out in
    let way = subst (λ (b : List ℕ). IsOnItsWay old old b []) (sym c.new-buffer.ensures.items)
    (way-begin old []) in
    subst (HasFront old now)
    (text_with-lines c.as_slice.result.now c.args.journal.now.events c.args.remarks.now
    c.as_slice.ensures)
    (front-longer old now (flat_map line_of c.as_slice.result.now)
    (flat_map remark_line c.args.remarks.now) (c.in_err-put_events.ensures.err old [] way))

pub returns-in_err-put_remarks-clause-front : goal.returns-in_err-put_remarks-clause-front
returns-in_err-put_remarks-clause-front g c =
    let old = g.O.Sink.written c.args.out.now in
    let now = g.O.Sink.written c.put_remarks.new.out in
    let way = subst (λ (b : List ℕ). IsOnItsWay old old b []) (sym c.new-buffer.ensures.items)
    (way-begin old []) in
    subst (HasFront old now)
    (text_with-lines c.as_slice.result.now c.args.journal.now.events c.args.remarks.now
    c.as_slice.ensures)
    (c.in_err-put_remarks.ensures.err old (flat_map line_of c.as_slice.result.now)
    (c.in_ok-put_events.ensures.ok old [] way))

pub returns-in_err-flush-clause-front : goal.returns-in_err-flush-clause-front
returns-in_err-flush-clause-front g c =
    let old = g.O.Sink.written c.args.out.now in
    let now = g.O.Sink.written c.flush.new.out in
    let way = subst (λ (b : List ℕ). IsOnItsWay old old b []) (sym c.new-buffer.ensures.items)
    (way-begin old []) in
    subst (HasFront old now)
    (text_with-lines c.as_slice.result.now c.args.journal.now.events c.args.remarks.now
    c.as_slice.ensures)
    (c.flush.ensures.front old _
    (c.in_ok-put_remarks.ensures.ok old (flat_map line_of c.as_slice.result.now)
    (c.in_ok-put_events.ensures.ok old [] way)))

pub returns-clause-whole : goal.returns-clause-whole
returns-clause-whole g c =
    let old = g.O.Sink.written c.args.out.now in
    let now = g.O.Sink.written c.flush.new.out in
    let way = subst (λ (b : List ℕ). IsOnItsWay old old b []) (sym c.new-buffer.ensures.items)
    (way-begin old []) in
    subst (λ (t : List ℕ). now ≡ with_bytes old t)
    (text_with-lines c.as_slice.result.now c.args.journal.now.events c.args.remarks.now
    c.as_slice.ensures)
    (c.in_ok-flush.ensures.whole old _
    (c.in_ok-put_remarks.ensures.ok old (flat_map line_of c.as_slice.result.now)
    (c.in_ok-put_events.ensures.ok old [] way)))

pub returns-clause-front : goal.returns-clause-front
returns-clause-front g c =
    let old = g.O.Sink.written c.args.out.now in
    let now = g.O.Sink.written c.flush.new.out in
    let way = subst (λ (b : List ℕ). IsOnItsWay old old b []) (sym c.new-buffer.ensures.items)
    (way-begin old []) in
    subst (HasFront old now)
    (text_with-lines c.as_slice.result.now c.args.journal.now.events c.args.remarks.now
    c.as_slice.ensures)
    (c.flush.ensures.front old _
    (c.in_ok-put_remarks.ensures.ok old (flat_map line_of c.as_slice.result.now)
    (c.in_ok-put_events.ensures.ok old [] way)))
