-- It is not ready where it was busy.
use Rattle.std.proofs.Common.{subst, ◌∙◌}
use Rattle.pc_shards.specs.Rising.{In}
use Rattle.pc_shards.proofs.part.Part.busy.Goals as goal

pub unready-requires-clause-apart : goal.unready-requires-clause-apart
unready-requires-clause-apart c = λ is i. c.requires.apart
    (λ e j at. c.set_busy-was_busy.ensures.was e j at ∙ is)
    (subst (λ v. In c.args.offset v.offsets) c.set_busy-was_busy.ensures.ready i)
