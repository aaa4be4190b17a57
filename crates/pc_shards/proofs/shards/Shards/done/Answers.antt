-- The part's state is that of the entries without the offset, and of which the next of its key is
-- ready.
use Rattle.std.proofs.Common.{◌≡◌, ℕ, ◌≤◌, drop, Option, Some, None, refl, ap, sym, ◌∙◌, arith}
use Rattle.pc_model.specs.declared.choices.Order.{Order}
use Rattle.pc_shards.specs.declared.part.Part.{Part}
use Rattle.pc_shards.specs.declared.shard_key.ShardKey.{ShardKey}
use Rattle.pc_shards.specs.Entries.{without}
use Rattle.pc_shards.specs.Part.{next_of, offsets_of, plain_entries}
use Rattle.pc_shards.specs.Queues.{queue_of}
use Rattle.pc_shards.proofs.ShardsLemmas.{changes-set, found, found-holds, view-changed}
use Rattle.pc_shards.proofs.ShardsDone.{done-absent, done-place, last-rises, shards-last, shards-next}
use Rattle.pc_shards.proofs.shards.Shards.done.Goals as goal
use Rattle.pc_shards.proofs.shards.Shards.done.Goals.{in-Some, in_default}

capacity_kept : (s t u : Part) → s.ready.places ≤ t.ready.places
    → u.ready ≡ t.ready → s.ready.places ≤ u.ready.places
capacity_kept s t u le same = let at = ap (λ v. v.places) same in omega (arith, le, at)

next_kept : (s t : Part) (order : Order) (k : ShardKey) (next : Option ℕ) → t.entries ≡ s.entries
    → next ≡ next_of order (offsets_of (plain_entries s.entries.items)) (queue_of t.queues k)
    → next ≡ next_of order (offsets_of (plain_entries t.entries.items)) (queue_of t.queues k)
next_kept s t order k next same is = is ∙ ap (λ v. next_of order
    (offsets_of (plain_entries v.items)) (queue_of t.queues k)) (sym same)

pub take-key-requires : goal.take-key-requires
take-key-requires c = found-holds c.self.inside.order c.self.inside.parts.items c.args.part
    c.args.offset c.index_mut-state.result.now
    (found c.self.inside.order c.self.inside.parts.items c.args.part c.args.offset
    c.index_mut-state.result.now c.self.invariant (rw (← c.self.view_is) at c.requires) c.index_mut-state.ensures.value)

pub make_ready-requires-clause-rises : goal.make_ready-requires-clause-rises
make_ready-requires-clause-rises c = last-rises c.self.inside.order c.self.inside.parts.items c.args.part c.args.offset
    c.index_mut-state.result.now c.advance.new.self c.self.invariant
    (found c.self.inside.order c.self.inside.parts.items c.args.part c.args.offset
    c.index_mut-state.result.now c.self.invariant (rw (← c.self.view_is) at c.requires)
    c.index_mut-state.ensures.value)
    (record { bytes = c.take-key.result })
    (ap (λ v. plain_entries v.items) c.in-Some.ensures.entries ∙ c.take-key.ensures.entries)
    (ap (λ v. v.offsets) c.in-Some.ensures.ready ∙ c.take-key.ensures.ready)
    (capacity_kept c.index_mut-state.result.now c.take-key.new.self c.advance.new.self
    c.take-key.ensures.capacity c.in-Some.ensures.ready) c.take-key.ensures.key

pub make_ready-requires-clause-room : goal.make_ready-requires-clause-room
make_ready-requires-clause-room c = done-place c.self.inside.order c.self.inside.parts.items c.args.part c.args.offset
    c.index_mut-state.result.now c.advance.new.self c.self.invariant
    (found c.self.inside.order c.self.inside.parts.items c.args.part c.args.offset
    c.index_mut-state.result.now c.self.invariant (rw (← c.self.view_is) at c.requires)
    c.index_mut-state.ensures.value)
    (record { bytes = c.take-key.result })
    (ap (λ v. plain_entries v.items) c.in-Some.ensures.entries ∙ c.take-key.ensures.entries)
    (ap (λ v. v.offsets) c.in-Some.ensures.ready ∙ c.take-key.ensures.ready)
    (capacity_kept c.index_mut-state.result.now c.take-key.new.self c.advance.new.self
    c.take-key.ensures.capacity c.in-Some.ensures.ready) c.take-key.ensures.key
    (Some c.in-Some.next)
    (λ by. c.in-Some.ensures.queue by
    ∙ ap (λ v. drop 1 (queue_of v (record { bytes = c.take-key.result }))) c.take-key.ensures.queues)
    (λ k other. c.in-Some.ensures.others k other ∙ ap (λ v. queue_of v k) c.take-key.ensures.queues)
    (next_kept c.take-key.new.self c.advance.new.self c.self.inside.order
    (record { bytes = c.take-key.result }) (Some c.in-Some.next) c.in-Some.ensures.entries c.in-Some.ensures.next)
    c.in-Some.next refl

pub make_ready-requires-clause-absent : goal.make_ready-requires-clause-absent
make_ready-requires-clause-absent c = done-absent c.self.inside.order c.self.inside.parts.items c.args.part c.args.offset
    c.index_mut-state.result.now c.advance.new.self c.self.invariant
    (found c.self.inside.order c.self.inside.parts.items c.args.part c.args.offset
    c.index_mut-state.result.now c.self.invariant (rw (← c.self.view_is) at c.requires)
    c.index_mut-state.ensures.value)
    (record { bytes = c.take-key.result })
    (ap (λ v. plain_entries v.items) c.in-Some.ensures.entries ∙ c.take-key.ensures.entries)
    (ap (λ v. v.offsets) c.in-Some.ensures.ready ∙ c.take-key.ensures.ready)
    (capacity_kept c.index_mut-state.result.now c.take-key.new.self c.advance.new.self
    c.take-key.ensures.capacity c.in-Some.ensures.ready) c.take-key.ensures.key
    (Some c.in-Some.next)
    (λ by. c.in-Some.ensures.queue by
    ∙ ap (λ v. drop 1 (queue_of v (record { bytes = c.take-key.result }))) c.take-key.ensures.queues)
    (λ k other. c.in-Some.ensures.others k other ∙ ap (λ v. queue_of v k) c.take-key.ensures.queues)
    (next_kept c.take-key.new.self c.advance.new.self c.self.inside.order
    (record { bytes = c.take-key.result }) (Some c.in-Some.next) c.in-Some.ensures.entries c.in-Some.ensures.next)
    c.in-Some.next refl

pub invariant_of-self : goal.invariant_of-self
invariant_of-self c = elim c.match-advance.branch [
  | in-Some w ↦ rw w.self-inside-is (shards-next c.self.inside.order c.self.inside.parts.items c.args.part c.args.offset
      c.index_mut-state.result.now c.advance.new.self c.self.invariant
      (found c.self.inside.order c.self.inside.parts.items c.args.part c.args.offset
      c.index_mut-state.result.now c.self.invariant (rw (← c.self.view_is) at c.requires)
      c.index_mut-state.ensures.value)
      (record { bytes = c.take-key.result })
      (ap (λ v. plain_entries v.items) w.in-Some.ensures.entries ∙ c.take-key.ensures.entries)
      (ap (λ v. v.offsets) w.in-Some.ensures.ready ∙ c.take-key.ensures.ready)
      (capacity_kept c.index_mut-state.result.now c.take-key.new.self c.advance.new.self
      c.take-key.ensures.capacity w.in-Some.ensures.ready) c.take-key.ensures.key
      (Some w.in-Some.next)
      (λ by. w.in-Some.ensures.queue by
      ∙ ap (λ v. drop 1 (queue_of v (record { bytes = c.take-key.result }))) c.take-key.ensures.queues)
      (λ k other. w.in-Some.ensures.others k other ∙ ap (λ v. queue_of v k) c.take-key.ensures.queues)
      (next_kept c.take-key.new.self c.advance.new.self c.self.inside.order
      (record { bytes = c.take-key.result }) (Some w.in-Some.next) w.in-Some.ensures.entries w.in-Some.ensures.next)
      w.in-Some.next refl w.make_ready.new.self w.make_ready.ensures.entries
      w.make_ready.ensures.queues w.make_ready.ensures.ready w.make_ready.ensures.capacity)
  | in_default w ↦ rw w.self-inside-is (shards-last c.self.inside.order c.self.inside.parts.items c.args.part c.args.offset
      c.index_mut-state.result.now c.advance.new.self c.self.invariant
      (found c.self.inside.order c.self.inside.parts.items c.args.part c.args.offset
      c.index_mut-state.result.now c.self.invariant (rw (← c.self.view_is) at c.requires)
      c.index_mut-state.ensures.value)
      (record { bytes = c.take-key.result })
      (ap (λ v. plain_entries v.items) w.in_default.ensures.entries ∙ c.take-key.ensures.entries)
      (ap (λ v. v.offsets) w.in_default.ensures.ready ∙ c.take-key.ensures.ready)
      (capacity_kept c.index_mut-state.result.now c.take-key.new.self c.advance.new.self
      c.take-key.ensures.capacity w.in_default.ensures.ready) c.take-key.ensures.key
      None
      (λ by. w.in_default.ensures.queue by
      ∙ ap (λ v. drop 1 (queue_of v (record { bytes = c.take-key.result }))) c.take-key.ensures.queues)
      (λ k other. w.in_default.ensures.others k other ∙ ap (λ v. queue_of v k) c.take-key.ensures.queues)
      (next_kept c.take-key.new.self c.advance.new.self c.self.inside.order
      (record { bytes = c.take-key.result }) None w.in_default.ensures.entries w.in_default.ensures.next) refl)
]

pub returns-clause-done : goal.returns-clause-done
returns-clause-done c = elim c.match-advance.branch [
  | in-Some w ↦ rw (w.self-inside-is, ← c.self.view_is) (view-changed c.self.inside.order
      c.self.inside.parts.items c.args.part c.args.offset c.index_mut-state.result.now
      w.make_ready.new.self
      (found c.self.inside.order c.self.inside.parts.items c.args.part c.args.offset
      c.index_mut-state.result.now c.self.invariant (rw (← c.self.view_is) at c.requires)
      c.index_mut-state.ensures.value) (without c.args.offset)
      (ap (λ v. plain_entries v.items) (w.make_ready.ensures.entries ∙ w.in-Some.ensures.entries)
      ∙ c.take-key.ensures.entries))
  | in_default w ↦ rw (w.self-inside-is, ← c.self.view_is) (view-changed c.self.inside.order
      c.self.inside.parts.items c.args.part c.args.offset c.index_mut-state.result.now
      c.advance.new.self
      (found c.self.inside.order c.self.inside.parts.items c.args.part c.args.offset
      c.index_mut-state.result.now c.self.invariant (rw (← c.self.view_is) at c.requires)
      c.index_mut-state.ensures.value) (without c.args.offset)
      (ap (λ v. plain_entries v.items) w.in_default.ensures.entries ∙ c.take-key.ensures.entries))
]

pub returns-clause-others : goal.returns-clause-others
returns-clause-others c = elim c.match-advance.branch [
  | in-Some w ↦ rw (w.self-inside-is, ← c.self.view_is) (changes-set c.self.inside.order
      c.self.inside.parts.items c.args.part w.make_ready.new.self)
  | in_default w ↦ rw (w.self-inside-is, ← c.self.view_is) (changes-set c.self.inside.order
      c.self.inside.parts.items c.args.part c.advance.new.self)
]
