use Rattle.std.proofs.Common.{arith}
use Rattle.pc_offset_wire.specs.Views.{plain_fetch_request}
use Rattle.pc_offset_wire.proofs.MessageLaws.{found_by, only_by, fetch_request-read, fetch_request-only}
use Rattle.pc_offset_wire.proofs.fetch.read_fetch_request.Goals as goal

pub returns-clause-found : goal.returns-clause-found
returns-clause-found c = found_by plain_fetch_request c.framed_fetch_request.result _ _ c.framed_fetch_request.ensures (λ m e. fetch_request-only c.args.frame.now m (λ i. omega (arith, c.type_inv.frame i)) e)

pub returns-clause-only : goal.returns-clause-only
returns-clause-only c = λ m is. only_by plain_fetch_request c.framed_fetch_request.result _ m c.framed_fetch_request.ensures (fetch_request-read c.args.frame.now m is)
