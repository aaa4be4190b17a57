-- The entries of the parts that are left stand behind those that were put.
use Rattle.std.proofs.Common.{◌≡◌, ◌++◌, [], ◌∷◌, map}
use Rattle.std.specs.List.{flat_map}
use Rattle.pc_model.specs.Broker.{fetch_entry}
use Rattle.pc_model.specs.MessageReading.{part_id_at}
use Rattle.pc_offset_wire.specs.Items.{items_left}
use Rattle.pc_offset_wire.specs.Views.{plain_fetch_entry}
use Rattle.pc_offset_store.proofs.entries.put_topic.Given as goal

abbrev pub invariant-loop-part : goal.invariant-loop-part
invariant-loop-part l = map plain_fetch_entry l.entries.items
    ++ flat_map (λ part. fetch_entry l.broker l.group l.name part ∷ []) (items_left part_id_at l.part-iterator)
    ≡ map plain_fetch_entry l.initial.entries.items
    ++ flat_map (λ part. fetch_entry l.broker l.group l.name part ∷ []) (items_left part_id_at l.fn.parts)
