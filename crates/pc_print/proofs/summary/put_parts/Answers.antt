-- One part more: its lines where it is held.
use Rattle.std.proofs.Common.{◌≡◌, ◌<◌, length, arith}
use Rattle.std.proofs.lemmas.Result.{err_from_is_err_and}
use Rattle.pc_print.specs.HeldParts.{plain_first}
use Rattle.pc_print.proofs.SummaryLemmas.{front, lines_upto, upto-held, upto-other, summary-is}
use Rattle.pc_print.proofs.summary.put_parts.Goals as goal
use Rattle.pc_print.proofs.summary.put_parts.Goals.{in-Some+in_ok-put_part, in_default}

pub returns-in_err-put_part-clause-err : goal.returns-in_err-put_part-clause-err
returns-in_err-put_part-clause-err c =
    let p = err_from_is_err_and c.from_residual-in_err-put_part.result c.from_residual-in_err-put_part.ensures.1 in
    let lines = lines_upto c.args.setup.now c.args.logs.now c.args.journal.now.events c.loop-part.part in
    rw p.1 (front c.args.out.now.items lines c.loop-part.out.items c.put_part.new.out.items c.args.out.now.ok.0 c.loop-part.out.ok.0
    c.loop-part.invariant c.in_err-put_part.ensures.err)

pub loop-part-preserved : goal.loop-part-preserved
loop-part-preserved c =
    let events = c.args.journal.now.events in
    let below : c.loop-part.part < length c.in_ok-held.held.parts = omega (arith, c.in_ok-held.ensures.parts, c.parts.ensures.count, c.parts-part-end.ensures.count) in
    elim c.match-start.branch [
      | in-Some+in_ok-put_part w ↦ rw w.out-is (upto-held c.args.setup.now c.args.logs.now events c.loop-part.part _ _ _
          (plain_first w.in-Some.start) (w.in-Some.ensures.held events c.in_ok-held.ensures.kept below)
          (w.in-Some.ensures.first events c.in_ok-held.ensures.kept below) c.loop-part.invariant w.in_ok-put_part.ensures.ok)
      | in_default w ↦ rw w.out-is (upto-other c.args.setup.now c.args.logs.now events c.loop-part.part _ _
          (w.in_default.ensures.held events c.in_ok-held.ensures.kept below) c.loop-part.invariant)
    ]

pub returns-clause-ok : goal.returns-clause-ok
returns-clause-ok c =
    let all : c.loop-part.part ≡ length c.args.logs.now = omega (arith, c.parts-part-end.ensures.count) in
    rw (summary-is c.args.setup.now c.args.logs.now c.args.journal.now.events, ← all) c.loop-part.invariant
