-- How many items a request that was read has.
use Rattle.std.proofs.Common.{ℕ, Result, Ok, Err}
use Rattle.pc_model.specs.declared.wire_fault.WireFault.{WireFault}
use Rattle.pc_model.specs.Messages.{CommitRequest, FetchRequest}
use Rattle.pc_offset_wire.specs.Replies.{item_count}

abbrev pub commit_count : Result CommitRequest WireFault → ℕ
commit_count (Ok r) = item_count r.topics
commit_count (Err fault) = 0

abbrev pub fetch_count : Result FetchRequest WireFault → ℕ
fetch_count (Ok r) = item_count r.topics
fetch_count (Err fault) = 0
