-- Every other ticket has the job that it had.
use Rattle.std.specs.Prelude.{nat_eq}
use Rattle.std.specs.HashMap.{get}
use Rattle.pc_play.proofs.HandLemmas.{are_in-remove}
use Rattle.pc_play.proofs.hand.Hand.remove.Goals as goal

pub returns-clause-others : goal.returns-clause-others
returns-clause-others c = λ jobs are. are_in-remove (λ u. get nat_eq c.args.self.now.jobs u)
    (λ u. get nat_eq c.remove.new.self u) c.args.ticket jobs c.remove.ensures.updates.0 are
