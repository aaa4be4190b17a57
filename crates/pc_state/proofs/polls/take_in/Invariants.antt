-- Some of the records are taken.
use Rattle.pc_shards.specs.Entries.{ChangesOnly, of_part}
use Rattle.pc_state.proofs.TakeLemmas.{IsTaking}
use Rattle.pc_state.proofs.polls.take_in.Given as goal

abbrev pub invariant-records : goal.invariant-records
invariant-records l = record {
  can_next : (goal.iterator-records).can_next l.left;
  finite : (goal.iterator-records).is_finite l.left;
  taking : IsTaking l.fn.held.window.window l.fn.next l.left l.offsets.items
      (of_part l.fn.shards l.part) (of_part l.shards l.part);
  others : ChangesOnly l.part l.fn.shards l.shards;
}
