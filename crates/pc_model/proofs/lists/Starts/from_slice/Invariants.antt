-- The copies so far are the items so far.
use Rattle.std.proofs.Common.{◌≡◌, take}
use Rattle.pc_model.proofs.lists.Starts.from_slice.Given as goal

abbrev pub invariant-loop-start : goal.invariant-loop-start
invariant-loop-start l = l.copies.items ≡ take l.start-index l.items
