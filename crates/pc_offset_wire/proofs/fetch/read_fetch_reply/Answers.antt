use Rattle.std.proofs.Common.{arith}
use Rattle.pc_offset_wire.specs.Views.{plain_fetch_reply}
use Rattle.pc_offset_wire.proofs.MessageLaws.{found_by, only_by, fetch_reply-read, fetch_reply-only}
use Rattle.pc_offset_wire.proofs.fetch.read_fetch_reply.Goals as goal

pub returns-clause-found : goal.returns-clause-found
returns-clause-found c = found_by plain_fetch_reply c.framed_fetch_reply.result _ _ c.framed_fetch_reply.ensures (λ m e. fetch_reply-only c.args.frame.now m (λ i. omega (arith, c.type_inv.frame i)) e)

pub returns-clause-only : goal.returns-clause-only
returns-clause-only c = λ m is. only_by plain_fetch_reply c.framed_fetch_reply.result _ m c.framed_fetch_reply.ensures (fetch_reply-read c.args.frame.now m is)
