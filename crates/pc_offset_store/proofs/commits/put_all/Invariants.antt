-- What is left to be put leads to the same, and has room.
use Rattle.std.proofs.Common.{◌≡◌, ◌+◌, ◌≤◌, map, length}
use Rattle.std.specs.Vec.{vec_len, vec_capacity}
use Rattle.std.specs.Vec.Iter.{into_iter_items}
use Rattle.pc_offset_store.specs.Store.{put_each, stored_of}
use Rattle.pc_offset_store.proofs.commits.put_all.Given as goal

abbrev pub invariant-loop-commit : goal.invariant-loop-commit
invariant-loop-commit l = record {
  left : put_each (map stored_of (into_iter_items l.commit-iterator)) (map stored_of l.commits.items)
      ≡ put_each (map stored_of l.fn.others.items) (map stored_of l.fn.commits.items);
  room : vec_len l.commits + length (into_iter_items l.commit-iterator) ≤ vec_capacity l.commits;
}
