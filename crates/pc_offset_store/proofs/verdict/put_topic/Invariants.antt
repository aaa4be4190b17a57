-- What is decided of the items that are left stands behind what was decided.
use Rattle.std.proofs.Common.{◌≡◌, ◌++◌, [], ◌∷◌, map}
use Rattle.std.specs.List.{flat_map}
use Rattle.pc_model.specs.Broker.{item_code}
use Rattle.pc_model.specs.MessageReading.{commit_item_at}
use Rattle.pc_offset_wire.specs.Items.{items_left}
use Rattle.pc_offset_wire.specs.Views.{plain_commit_request}
use Rattle.pc_offset_store.specs.Store.{accepted_item, stored_of}
use Rattle.pc_offset_store.proofs.verdict.put_topic.Given as goal

abbrev pub invariant-loop-item : goal.invariant-loop-item
invariant-loop-item l = record {
  codes : l.verdict.codes.items
      ++ flat_map (λ item. item_code l.broker (plain_commit_request l.request) l.name item ∷ []) (items_left commit_item_at l.item-iterator)
      ≡ l.initial.verdict.codes.items
      ++ flat_map (λ item. item_code l.broker (plain_commit_request l.request) l.name item ∷ []) (items_left commit_item_at l.fn.items);
  accepted : map stored_of l.verdict.accepted.items
      ++ flat_map (accepted_item l.broker (plain_commit_request l.request) l.name) (items_left commit_item_at l.item-iterator)
      ≡ map stored_of l.initial.verdict.accepted.items
      ++ flat_map (accepted_item l.broker (plain_commit_request l.request) l.name) (items_left commit_item_at l.fn.items);
}
