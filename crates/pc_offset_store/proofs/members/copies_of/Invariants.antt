-- The copies so far are the ids so far.
use Rattle.std.proofs.Common.{◌≡◌, take}
use Rattle.pc_offset_store.proofs.members.copies_of.Given as goal

abbrev pub invariant-loop-member : goal.invariant-loop-member
invariant-loop-member l = l.copies.items ≡ take l.member-index l.members
