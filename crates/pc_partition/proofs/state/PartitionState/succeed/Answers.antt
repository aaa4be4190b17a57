-- The window without the offset stands for the marks in which it is complete.
use Rattle.pc_partition.proofs.WindowLemmas.{StandsFor-succeed}
use Rattle.pc_partition.proofs.state.PartitionState.succeed.Goals as goal

pub returns : goal.returns
returns c = λ begin n marks is. rw c.complete.ensures
    (StandsFor-succeed c.args.self.now.window begin n marks c.args.offset is c.requires)
