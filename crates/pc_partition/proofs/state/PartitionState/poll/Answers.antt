-- The offset is the next known one, or all known ones were polled.
use Rattle.std.proofs.Common.{◌≡◌, ◌+◌, cond, eqb, true, false, sym, ap, ◌∙◌, refl, arith, subst}
use Rattle.std.specs.List.{list_any}
use Rattle.std.proofs.lemmas.Bool.{le-ltb, lt-ltb}
use Rattle.pc_partition.specs.Runs.{offsets_in}
use Rattle.pc_partition.specs.Window.{PartitionView, StandsFor}
use Rattle.pc_partition.proofs.RunsLemmas.{length-runs, offsets_in-add_run}
use Rattle.pc_partition.proofs.StateLemmas.{AreRuns-all, AreRuns-upto, IsState-poll_new, IsState-poll_known}
use Rattle.pc_partition.proofs.WindowLemmas.{next-new, next-known}
use Rattle.pc_partition.proofs.state.PartitionState.poll.Goals as goal
use Rattle.pc_partition.proofs.state.PartitionState.poll.Goals.{then-offset-self, else-offset-self+then-contains, else-offset-self+else-contains}

pub append-requires-clause-in_order : goal.append-requires-clause-in_order
append-requires-clause-in_order c =
    AreRuns-upto c.self.inside.after c.args.offset c.self.inside.runs.list.items c.self.invariant.in_order
    c.if-offset-self.true

pub append-requires-clause-room : goal.append-requires-clause-room
append-requires-clause-room c =
    let room = ap (λ (v : PartitionView). v.room) c.self.view_is in
    let few = length-runs 0 c.self.inside.after c.self.inside.runs.list.items c.self.invariant.in_order in
    omega (arith, room, few, c.requires.room, c.self.inside.runs.list.ok, c.self.invariant.left_is)

pub contains-requires : goal.contains-requires
contains-requires c = rw c.as_slice.ensures.value
    (AreRuns-all c.self.inside.after c.self.inside.runs.list.items c.self.invariant.in_order c.self.invariant.small)

pub invariant_of-self : goal.invariant_of-self
invariant_of-self c =
    let room = ap (λ (v : PartitionView). v.room) c.self.view_is in
    let to = ap (λ (v : PartitionView). v.window.polled_to) c.self.view_is in
    let next = c.requires.next in
    let is = subst (λ (v : PartitionView). StandsFor v.window next.0 next.1 next.2) (sym c.self.view_is) next.3 in
    elim c.if-offset-self.branch [
      | then-offset-self w ↦
          rw (w.self-inside-is, w.append.ensures.runs, w.append.ensures.capacity)
          (IsState-poll_new _ _ _ _ _ _ _ _ c.args.offset c.self.invariant w.if-offset-self.true
          (omega (arith, c.requires.small)) (omega (arith, room, c.requires.room))
          (next-new _ next.0 next.1 next.2 c.args.offset is next.4 w.if-offset-self.true))
      | else-offset-self+then-contains w ↦
          let has : list_any (λ x. eqb x c.args.offset) (offsets_in c.self.inside.runs.list.items) ≡ true =
          sym (rw w.as_slice.ensures.value at w.contains.ensures) ∙ w.if-contains.true in
          let more : c.self.inside.pending + 1 ≡ c.self.inside.pending
          + cond (list_any (λ x. eqb x c.args.offset) (offsets_in c.self.inside.runs.list.items)) 1 0 = rw has refl in
          rw w.self-inside-is (IsState-poll_known _ _ _ _ _ _ _ _ c.args.offset _ c.self.invariant w.if-offset-self.false
          (next-known _ next.0 next.1 next.2 c.args.offset is next.4 (omega (arith, to, c.requires.follows)) w.if-offset-self.false) more)
      | else-offset-self+else-contains w ↦
          let has : list_any (λ x. eqb x c.args.offset) (offsets_in c.self.inside.runs.list.items) ≡ false =
          sym (rw w.as_slice.ensures.value at w.contains.ensures) ∙ w.if-contains.false in
          let more : c.self.inside.pending ≡ c.self.inside.pending
          + cond (list_any (λ x. eqb x c.args.offset) (offsets_in c.self.inside.runs.list.items)) 1 0 = rw has (omega arith) in
          rw w.self-inside-is (IsState-poll_known _ _ _ _ _ _ _ _ c.args.offset _ c.self.invariant w.if-offset-self.false
          (next-known _ next.0 next.1 next.2 c.args.offset is next.4 (omega (arith, to, c.requires.follows)) w.if-offset-self.false) more)
    ]

pub returns-clause-window : goal.returns-clause-window
returns-clause-window c = elim c.if-offset-self.branch [
  | then-offset-self w ↦
      let upto = AreRuns-upto c.self.inside.after c.args.offset c.self.inside.runs.list.items c.self.invariant.in_order
      w.if-offset-self.true in
      rw (
        w.self-inside-is,
        ← c.self.view_is,
        le-ltb c.args.offset c.self.inside.after w.if-offset-self.true,
        w.append.ensures.runs,
        offsets_in-add_run 0 c.args.offset c.self.inside.runs.list.items upto,
      ) refl
  | else-offset-self+then-contains w ↦ rw (w.self-inside-is, ← c.self.view_is, lt-ltb c.args.offset c.self.inside.after w.if-offset-self.false) refl
  | else-offset-self+else-contains w ↦ rw (w.self-inside-is, ← c.self.view_is, lt-ltb c.args.offset c.self.inside.after w.if-offset-self.false) refl
]
