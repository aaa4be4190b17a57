-- The polled offsets are those below where they end.
use Rattle.std.proofs.Common.{ap, ◌∙◌}
use Rattle.pc_partition.specs.Window.{PartitionView, open_polled}
use Rattle.pc_partition.proofs.WindowLemmas.{open_polled-is}
use Rattle.pc_partition.proofs.state.PartitionState.open_polled.Goals as goal

pub returns : goal.returns
returns c = λ begin n marks is. c.self.invariant.pending_is
    ∙ ap (λ (v : PartitionView). open_polled v.window) c.self.view_is
    ∙ open_polled-is c.args.self.now.window begin n marks is
