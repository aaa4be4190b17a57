-- The record of an entry is the log's.
use Rattle.std.proofs.Common.{sym}
use Rattle.pc_shards.specs.Part.{plain}
use Rattle.pc_state.proofs.AtWork.{entry-record}
use Rattle.pc_state.proofs.state.State.record.Goals as goal

pub returns-in-Some : goal.returns-in-Some
returns-in-Some c given h knows = sym (entry-record given h c.args.self.now c.args.part c.args.offset
    (plain c.in-Some.entry) knows (sym c.in-Some.ensures))
