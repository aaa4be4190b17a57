-- It is not there where it was busy.
use Rattle.std.proofs.Common.{sym}
use Rattle.pc_shards.proofs.ReadyLemmas.{but-apart}
use Rattle.pc_shards.proofs.part.Part.unready.Goals as goal

pub returns-else-not-was_busy-clause-ready : goal.returns-else-not-was_busy-clause-ready
returns-else-not-was_busy-clause-ready c = sym (but-apart c.args.offset
    c.args.self.now.ready.offsets (c.requires.apart c.if-not-was_busy.false))
