-- The entries of the topics that are left stand behind those that were put.
use Rattle.std.proofs.Common.{◌≡◌, ◌++◌, [], map}
use Rattle.std.specs.List.{flat_map}
use Rattle.pc_model.specs.MessageReading.{part_id_at, topic_at}
use Rattle.pc_offset_wire.specs.Items.{items_left}
use Rattle.pc_offset_wire.specs.Views.{plain_fetch_entry, plain_fetch_request}
use Rattle.pc_offset_store.specs.Store.{entries_of}
use Rattle.pc_offset_store.proofs.entries.of.Given as goal

abbrev pub invariant-loop-name : goal.invariant-loop-name
invariant-loop-name l = map plain_fetch_entry l.entries.items
    ++ flat_map (entries_of l.broker (plain_fetch_request l.request)) (items_left (topic_at part_id_at) l.name-iterator)
    ≡ [] ++ flat_map (entries_of l.broker (plain_fetch_request l.request)) (plain_fetch_request l.request).topics
