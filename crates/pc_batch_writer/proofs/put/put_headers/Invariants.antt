-- What was put and what is left are all.
use Rattle.std.proofs.Common.{◌≡◌, ◌≤◌, ◌++◌, length, map, drop}
use Rattle.pc_batch_writer.specs.Writing.{plain_header, headers_spelling}
use Rattle.pc_batch_writer.proofs.put.put_headers.Given as goal

abbrev pub invariant-loop-header : goal.invariant-loop-header
invariant-loop-header l = record {
  text : l.out.items ++ headers_spelling (map plain_header (drop l.header-index l.headers)) ≡ l.fn.out.items ++ headers_spelling (map plain_header l.headers);
  more : length l.fn.out.items ≤ length l.out.items;
}
