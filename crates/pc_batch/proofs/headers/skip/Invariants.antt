use Rattle.std.proofs.Common.{◌≡◌, ◌-◌}
use Rattle.pc_batch.specs.Headers.{after_headers}
use Rattle.pc_batch.proofs.headers.skip.Given as goal

abbrev pub invariant-loop : goal.invariant-loop
invariant-loop l = after_headers (l.count - l.counter) l.reader.bytes ≡ after_headers l.count l.fn.reader.bytes
