-- The items of an array, one after the other, and what an iterator over them has still to give.
use Rattle.std.specs.Prelude.{ℕ, zero, suc, List, [], ◌∷◌, Result, Ok, Err}
use Rattle.pc_model.specs.declared.wire_fault.WireFault.{WireFault}
use Rattle.pc_model.specs.MessageReading.{◌>>=◌, items_at}
use Rattle.pc_offset_wire.specs.declared.items.Items.{Items}

-- the bytes after this many items
unfoldable pub after_items : {A : Type 0} → (List ℕ → Result (A × List ℕ) WireFault) → ℕ → List ℕ
    → Result (List ℕ) WireFault
after_items item_at n bytes = do
  found ← items_at item_at n bytes
  Ok found.1

-- the value, and what goes on after it; nothing where there is no value
abbrev pub and_on : {A : Type 0} → Result (A × List ℕ) WireFault → (List ℕ → List A) → List A
and_on (Ok x) more = x.0 ∷ more x.1
and_on (Err fault) more = []

-- the items up to the first that does not read, at most this many
unfoldable pub front_items : {A : Type 0} → (List ℕ → Result (A × List ℕ) WireFault) → ℕ → List ℕ
    → List A
front_items item_at zero bytes = []
front_items item_at (suc n) bytes = and_on (item_at bytes) (front_items item_at n)

-- what an iterator has still to give
unfoldable pub items_left : {A T : Type 0} → (List ℕ → Result (A × List ℕ) WireFault) → Items T
    → List A
items_left item_at items = front_items item_at items.count items.bytes.now
