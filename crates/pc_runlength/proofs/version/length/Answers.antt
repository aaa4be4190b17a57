-- So many bytes a length.
use Rattle.std.proofs.Common.{◌≡◌, arith}
use Rattle.std.proofs.lemmas.Grind.{common_steps}
use Rattle.std.proofs.lemmas.List.{length_push}
use Rattle.pc_model.specs.MapSpelling.{run_lengths}
use Rattle.pc_runlength.proofs.ReadingLemmas.{length-run_spelling}
use Rattle.pc_runlength.proofs.version.length.Goals as goal

pub loop-n-preserved : goal.loop-n-preserved
loop-n-preserved c =
    let more = length_push c.loop-n.yielded c.in-Some.n in
    (grind (arith, common_steps, c.loop-n.invariant.0, c.in-Some.ensures.steps), rw more (omega (arith, c.loop-n.invariant.1)), grind (arith, common_steps, c.loop-n.invariant.2, c.if-not-fits.ensures))

pub returns : goal.returns
returns c =
    let all : c.loop-n.yielded ≡ run_lengths c.args.bits.now = grind (arith, common_steps, c.loop-n.invariant.0, c.in-None.ensures.steps) in
    length-run_spelling c.args.width _ c.loop-n.yielded c.args.bits.now all c.loop-n.invariant.1 c.loop-n.invariant.2
