-- What is left is the same where all of the headers are.
use Rattle.std.proofs.Common.{◌≡◌, ◌↔◌}
use Rattle.pc_batch.specs.Headers.{headers_left}
use Rattle.pc_batch.proofs.headers.Headers.are_same.Given as goal

abbrev pub invariant-loop-header : goal.invariant-loop-header
invariant-loop-header l = (headers_left l.header-iterator ≡ headers_left l.other)
    ↔ (headers_left l.fn.self ≡ headers_left l.fn.other)
