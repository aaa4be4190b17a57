-- One line more: nothing, an act, or the fault.
use Rattle.std.proofs.Common.{◌+◌, length, ap, sym, arith}
use Rattle.std.proofs.lemmas.Result.{err_from_is_err_and}
use Rattle.pc_script.specs.PlayScript.{or_bad_line}
use Rattle.pc_script.proofs.PlayScriptLemmas.{play_lines-skipped, play_lines-read, play_lines-bad, play_lines-end}
use Rattle.pc_script.proofs.play_script.read_lines.Goals as goal

pub loop-line-preserved-then-is_skipped : goal.loop-line-preserved-then-is_skipped
loop-line-preserved-then-is_skipped c = record {
  counted = omega (arith, ap length c.in-Some.ensures.steps);
  whole = play_lines-skipped c.loop-line.script.items (c.loop-line.number + 1) c.in-Some.line.now c.next.new.self c.loop-line.line-iterator _ c.in-Some.ensures.steps c.loop-line.invariant.whole (sym c.if-is_skipped.ensures);
}

pub loop-line-preserved : goal.loop-line-preserved
loop-line-preserved c = record {
  counted = omega (arith, ap length c.in-Some.ensures.steps);
  whole = rw c.in_ok-push.ensures.items (play_lines-read c.loop-line.script.items (c.loop-line.number + 1) c.in-Some.line.now c.next.new.self c.loop-line.line-iterator _ c.in-Some.ensures.steps c.loop-line.invariant.whole c.in_ok-play_line.field-0 (sym c.if-is_skipped.ensures) (sym c.in_ok-play_line.ensures));
}

pub returns-in_err-play_line : goal.returns-in_err-play_line
returns-in_err-play_line c =
    let p = err_from_is_err_and c.from_residual.result c.from_residual.ensures.1 in
    rw (p.1, p.2) (ap or_bad_line (play_lines-bad c.loop-line.script.items (c.loop-line.number + 1) c.in-Some.line.now c.next.new.self c.loop-line.line-iterator _ c.in-Some.ensures.steps c.loop-line.invariant.whole c.in_err-play_line.field-0.0 (sym c.if-is_skipped.ensures) (sym c.in_err-play_line.ensures)))

pub returns : goal.returns
returns c = ap or_bad_line (play_lines-end c.loop-line.script.items (c.loop-line.number + 1) c.loop-line.line-iterator _ c.in-None.ensures.steps.0 c.loop-line.invariant.whole)
