use Rattle.std.proofs.Common.{arith}
use Rattle.pc_offset_wire.specs.Views.{plain_commit_reply}
use Rattle.pc_offset_wire.proofs.MessageLaws.{found_by, only_by, commit_reply-read, commit_reply-only}
use Rattle.pc_offset_wire.proofs.commit.read_commit_reply.Goals as goal

pub returns-clause-found : goal.returns-clause-found
returns-clause-found c = found_by plain_commit_reply c.framed_commit_reply.result _ _ c.framed_commit_reply.ensures (λ m e. commit_reply-only c.args.frame.now m (λ i. omega (arith, c.type_inv.frame i)) e)

pub returns-clause-only : goal.returns-clause-only
returns-clause-only c = λ m is. only_by plain_commit_reply c.framed_commit_reply.result _ m c.framed_commit_reply.ensures (commit_reply-read c.args.frame.now m is)
