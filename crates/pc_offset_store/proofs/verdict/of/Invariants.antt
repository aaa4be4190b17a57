-- What is decided of the topics that are left stands behind what was decided.
use Rattle.std.proofs.Common.{◌≡◌, ◌++◌, [], map}
use Rattle.std.specs.List.{flat_map}
use Rattle.pc_model.specs.MessageReading.{commit_item_at, topic_at}
use Rattle.pc_offset_wire.specs.Items.{items_left}
use Rattle.pc_offset_wire.specs.Views.{plain_commit_request}
use Rattle.pc_offset_store.specs.Store.{accepted_of, codes_of, stored_of}
use Rattle.pc_offset_store.proofs.verdict.of.Given as goal

abbrev pub invariant-loop-name : goal.invariant-loop-name
invariant-loop-name l = record {
  codes : l.verdict.codes.items
      ++ flat_map (codes_of l.broker (plain_commit_request l.request)) (items_left (topic_at commit_item_at) l.name-iterator)
      ≡ [] ++ flat_map (codes_of l.broker (plain_commit_request l.request)) (plain_commit_request l.request).topics;
  accepted : map stored_of l.verdict.accepted.items
      ++ flat_map (accepted_of l.broker (plain_commit_request l.request)) (items_left (topic_at commit_item_at) l.name-iterator)
      ≡ [] ++ flat_map (accepted_of l.broker (plain_commit_request l.request)) (plain_commit_request l.request).topics;
}
