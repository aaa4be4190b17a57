-- One line more: nothing, a step, or the fault.
use Rattle.std.proofs.Common.{◌≡◌, ℕ, ◌+◌, List, length, Result, Ok, Err, ap, ◌∙◌, sym, arith}
use Rattle.std.proofs.lemmas.Result.{err_from_is_err_and}
use Rattle.pc_script.specs.declared.fault.ScriptFault.{ScriptFault}
use Rattle.pc_model.specs.declared.step.Step.{Step}
use Rattle.pc_script.specs.Steps.{step_at, step_of, or_bad_step}
use Rattle.pc_script.proofs.StepsLemmas.{Mirrors-push, steps_behind-skipped, steps_behind-read, steps_behind-bad, steps_behind-end}
use Rattle.pc_script.proofs.steps.read_lines.Goals as goal

-- the number of parts does not change
known : (parts q n : ℕ) (before : List Step) (line : List ℕ) (r : Result Step ScriptFault) → r ≡ step_at n (step_of q before line) → q ≡ parts → step_at n (step_of parts before line) ≡ r
known parts q n before line r e same = ap (λ (p : ℕ). step_at n (step_of p before line)) (sym same) ∙ sym e

pub loop-line-preserved-then-is_skipped : goal.loop-line-preserved-then-is_skipped
loop-line-preserved-then-is_skipped c = record {
  counted = omega (arith, ap length c.in-Some.ensures.steps);
  parts = c.loop-line.invariant.parts;
  held = c.loop-line.invariant.held;
  whole = steps_behind-skipped c.args.parts c.loop-line.steps.items (c.loop-line.number + 1) c.in-Some.line.now c.next.new.self c.loop-line.line-iterator _ c.in-Some.ensures.steps c.loop-line.invariant.whole (sym c.if-is_skipped.ensures);
}

pub loop-line-preserved : goal.loop-line-preserved
loop-line-preserved c = record {
  counted = omega (arith, ap length c.in-Some.ensures.steps);
  parts = c.take.ensures.parts ∙ c.loop-line.invariant.parts;
  held = rw c.in_ok-push.ensures.items (Mirrors-push c.loop-line.held.flags c.take.new.self.flags c.loop-line.steps.items c.in_ok-step.step c.loop-line.invariant.held c.take.ensures.flags);
  whole = rw c.in_ok-push.ensures.items (steps_behind-read c.args.parts c.loop-line.steps.items (c.loop-line.number + 1) c.in-Some.line.now c.next.new.self c.loop-line.line-iterator _ c.in-Some.ensures.steps c.loop-line.invariant.whole c.in_ok-step.step (sym c.if-is_skipped.ensures) (known c.args.parts c.loop-line.held.parts (c.loop-line.number + 1) c.loop-line.steps.items c.in-Some.line.now (Ok c.in_ok-step.step) (c.in_ok-step.ensures.read c.loop-line.steps.items c.loop-line.invariant.held) c.loop-line.invariant.parts));
}

pub returns-in_err-step : goal.returns-in_err-step
returns-in_err-step c =
    let p = err_from_is_err_and c.from_residual.result c.from_residual.ensures.1 in
    rw (p.1, p.2) (ap or_bad_step (steps_behind-bad c.args.parts c.loop-line.steps.items (c.loop-line.number + 1) c.in-Some.line.now c.next.new.self c.loop-line.line-iterator _ c.in-Some.ensures.steps c.loop-line.invariant.whole c.in_err-step.field-0.0 (sym c.if-is_skipped.ensures) (known c.args.parts c.loop-line.held.parts (c.loop-line.number + 1) c.loop-line.steps.items c.in-Some.line.now (Err c.in_err-step.field-0.0) (c.in_err-step.ensures.read c.loop-line.steps.items c.loop-line.invariant.held) c.loop-line.invariant.parts)))

pub returns : goal.returns
returns c = ap or_bad_step (steps_behind-end c.args.parts c.loop-line.steps.items (c.loop-line.number + 1) c.loop-line.line-iterator _ c.in-None.ensures.steps.0 c.loop-line.invariant.whole)
