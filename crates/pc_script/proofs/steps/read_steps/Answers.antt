-- Every step that was read keeps to its range.
use Rattle.pc_lines.specs.Pieces.{lines_of}
use Rattle.pc_script.proofs.StepsLemmas.{AreSteps-steps_behind}
use Rattle.pc_script.proofs.steps.read_steps.Goals as goal

pub invariant_of-result : goal.invariant_of-result
invariant_of-result c = AreSteps-steps_behind c.args.parts (lines_of c.args.bytes.now) c.in_ok-steps.steps.items c.in_ok-steps.ensures
