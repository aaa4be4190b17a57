-- Every act that was read is playable.
use Rattle.pc_lines.specs.Pieces.{lines_of}
use Rattle.pc_script.proofs.PlayScriptLemmas.{ArePlayable-play_lines}
use Rattle.pc_script.proofs.play_script.read_play.Goals as goal

pub invariant_of-result : goal.invariant_of-result
invariant_of-result c = ArePlayable-play_lines (lines_of c.args.bytes.now) c.in_ok-lines.lines.items c.in_ok-lines.ensures
