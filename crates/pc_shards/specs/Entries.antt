-- The polled, incomplete records of the parts, and which of them may be dispatched by the ordering
-- keys.
use Rattle.std.specs.Prelude.{ℕ, ◌+◌, pos, ◌≡◌, Bool, true, false, not, ◌&&◌, ◌==◌, nat_lt, if◌then◌else◌, List, map, filter, [], slice_index_or, Option, None}
use Rattle.std.specs.List.{find, list_any, list_all}
use Rattle.pc_model.specs.declared.choices.Order.{Order}
use Rattle.pc_model.specs.Record.{Record}
use Rattle.pc_model.specs.Numbers.{least_of}
use Rattle.pc_model.specs.Next.{OrderingKey, ordering_key, same_key}
use Rattle.pc_shards.specs.Rising.{In}

-- a record that was polled and is incomplete: how often it failed, and whether it is busy
pub record Entry : Type 0 where
  pub «record» : Record
  pub failures : ℕ
  pub is_busy : Bool

-- what clauses see: the order, and the entries of part p at place p of `parts`
pub record Entries : Type 0 where
  pub order : Order
  pub parts : List (List Entry)

-- the entries of a part, in the order in which they were added
abbrev pub of_part : Entries → ℕ → List Entry
of_part s p = slice_index_or s.parts p []

-- a record with nothing but its offset and its key
abbrev pub bare_record : ℕ → Option (List ℕ) → Record
bare_record o key = record
    { offset = o; time = pos 0; key = key; value = None; headers = [] }

-- the entry of a record that did not fail and is not busy
abbrev pub new_entry : Record → Entry
new_entry r = record { «record» = r; failures = 0; is_busy = false }

-- the ordering key of an entry of the part
abbrev pub key_of : Order → ℕ → Entry → OrderingKey
key_of order p e = ordering_key order p e.record

-- whether the first entry has the lesser offset and shares the ordering key of the second
abbrev pub is_before : Order → ℕ → Entry → Entry → Bool
is_before order p q e = nat_lt q.record.offset e.record.offset && same_key (key_of order p q) (key_of order p e)

-- whether an entry of the part is the first of its ordering key among these
abbrev pub is_first : Order → ℕ → List Entry → Entry → Bool
is_first order p es e = list_all (λ q. not (is_before order p q e)) es

-- whether the offset is that of an entry which is the first of its ordering key
abbrev pub is_first_offset : Order → ℕ → List Entry → ℕ → Bool
is_first_offset order p es o = list_any (λ e. (e.record.offset == o) && is_first order p es e) es

-- the offsets of the entries that are the first of their ordering key and not busy
abbrev pub ready_offsets : Order → ℕ → List Entry → List ℕ
ready_offsets order p es = map (λ e. e.record.offset)
    (filter (λ e. is_first order p es e && not e.is_busy) es)

-- the least of these
abbrev pub least_ready_of : Order → ℕ → List Entry → Option ℕ
least_ready_of order p es = least_of (ready_offsets order p es)

-- the entry, which is busy or not where it is at the offset
abbrev pub marked : ℕ → Bool → Entry → Entry
marked o b e = if e.record.offset == o then
    record { «record» = e.record; failures = e.failures; is_busy = b } else e

-- the entries, where those at the offset are busy or not
abbrev pub with_busy : ℕ → Bool → List Entry → List Entry
with_busy o b es = map (marked o b) es

-- the entry, which failed once more where it is at the offset
abbrev pub failed : ℕ → Entry → Entry
failed o e = if e.record.offset == o then
    record { «record» = e.record; failures = e.failures + 1; is_busy = e.is_busy } else e

-- the entries, where those at the offset failed once more
abbrev pub with_failure : ℕ → List Entry → List Entry
with_failure o es = map (failed o) es

-- the entry at the offset
abbrev pub entry_at : ℕ → List Entry → Option Entry
entry_at o es = find (λ e. e.record.offset == o) es

-- whether there is an entry at the offset
abbrev pub has_entry_at : ℕ → List Entry → Bool
has_entry_at o es = list_any (λ e. e.record.offset == o) es

-- the entries without those at the offset
abbrev pub without : ℕ → List Entry → List Entry
without o es = filter (λ e. not (e.record.offset == o)) es

-- that of an ordering key at most the first is busy
abbrev pub BusyAreFirst : Order → ℕ → List Entry → Type 0
BusyAreFirst order p es = (e : Entry) → In e es → e.is_busy ≡ true → is_first order p es e ≡ true

-- that nothing changed but the entries of the part
pub record ChangesOnly (p : ℕ) (old new : Entries) : Type 0 where
  pub order : new.order ≡ old.order
  pub others : (q : ℕ) → (q == p) ≡ false → of_part new q ≡ of_part old q

-- that nothing changed
pub record ChangesNothing (old new : Entries) : Type 0 where
  pub order : new.order ≡ old.order
  pub each : (p : ℕ) → of_part new p ≡ of_part old p
