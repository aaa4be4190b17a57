-- What was read as a commit request is a request.
use Rattle.std.proofs.Common.{refl}
use Rattle.pc_offset_wire.proofs.MessageLaws.{commits-read}
use Rattle.pc_offset_store.proofs.tests.call.Goals as goal

pub call-requires-clause-reads : goal.call-requires-clause-reads
call-requires-clause-reads c = rw (commits-read c.args.frame.now _ c.in-Ok.ensures.found) refl
