-- What is left of the run, before the offset and after it, takes its place.
use Rattle.std.proofs.Common.{arith, refl, inl, inr}
use Rattle.pc_partition.proofs.RunsLemmas.{cut-first, cut-last, cut-middle, cut-none, cut-room, run-high, run-small}
use Rattle.pc_partition.proofs.runs.cut.Goals as goal

pub overflow_add-offset : goal.overflow_add-offset
overflow_add-offset c =
    let high = run-high _ _ _ c.index.result.now c.requires.in_order c.requires.at c.index.ensures in
    let small = run-small _ _ _ c.index.result.now c.requires.in_order c.requires.at c.index.ensures in
    omega (arith, high, small)

pub overflow_add-offset-else-after-eq0-2 : goal.overflow_add-offset-else-after-eq0-2
overflow_add-offset-else-after-eq0-2 c =
    let high = run-high _ _ _ c.index.result.now c.requires.in_order c.requires.at c.index.ensures in
    let small = run-small _ _ _ c.index.result.now c.requires.in_order c.requires.at c.index.ensures in
    omega (arith, high, small)

pub unreachable-requires : goal.unreachable-requires
unreachable-requires c =
    let room = cut-room _ _ _ c.index.result.now c.requires.in_order c.requires.at c.index.ensures
    c.if-before-eq0-2.false c.if-after-eq0-2.false in
    let full = c.in_default.ensures.full in
    let len = c.args.runs.now.ok in
    omega (arith, room, full, len, c.requires.room)

pub returns-then-after-eq0-clause-taken : goal.returns-then-after-eq0-clause-taken
returns-then-after-eq0-clause-taken c = (cut-none _ _ _ c.index.result.now c.requires.in_order
    c.requires.at c.index.ensures _ c.if-before-eq0.true c.if-after-eq0.true c.remove.ensures.items).taken

pub returns-then-after-eq0-clause-in_order : goal.returns-then-after-eq0-clause-in_order
returns-then-after-eq0-clause-in_order c = (cut-none _ _ _ c.index.result.now c.requires.in_order
    c.requires.at c.index.ensures _ c.if-before-eq0.true c.if-after-eq0.true c.remove.ensures.items).in_order

pub returns-then-before-eq0-2-clause-taken : goal.returns-then-before-eq0-2-clause-taken
returns-then-before-eq0-2-clause-taken c = (cut-first _ _ _ c.index.result.now c.requires.in_order c.requires.at
    c.index.ensures _ c.if-before-eq0-2.true
    (elim c.else-before-eq0.either [ inl some ↦ some.1 | inr some ↦ absurd (some c.if-before-eq0-2.true) ])
    refl).taken

pub returns-then-after-eq0-2-clause-taken : goal.returns-then-after-eq0-2-clause-taken
returns-then-after-eq0-2-clause-taken c = (cut-last _ _ _ c.index.result.now c.requires.in_order c.requires.at
    c.index.ensures _ c.if-before-eq0-2.false
    c.if-after-eq0-2.true refl).taken

pub returns-in-Ok-clause-taken : goal.returns-in-Ok-clause-taken
returns-in-Ok-clause-taken c = (cut-middle _ _ _ c.index.result.now c.requires.in_order c.requires.at
    c.index.ensures _ c.if-before-eq0-2.false
    c.if-after-eq0-2.false c.in-Ok.ensures.items).taken

pub returns-then-before-eq0-2-clause-in_order : goal.returns-then-before-eq0-2-clause-in_order
returns-then-before-eq0-2-clause-in_order c = (cut-first _ _ _ c.index.result.now c.requires.in_order c.requires.at
    c.index.ensures _ c.if-before-eq0-2.true
    (elim c.else-before-eq0.either [ inl some ↦ some.1 | inr some ↦ absurd (some c.if-before-eq0-2.true) ])
    refl).in_order

pub returns-then-after-eq0-2-clause-in_order : goal.returns-then-after-eq0-2-clause-in_order
returns-then-after-eq0-2-clause-in_order c = (cut-last _ _ _ c.index.result.now c.requires.in_order c.requires.at
    c.index.ensures _ c.if-before-eq0-2.false
    c.if-after-eq0-2.true refl).in_order

pub returns-in-Ok-clause-in_order : goal.returns-in-Ok-clause-in_order
returns-in-Ok-clause-in_order c = (cut-middle _ _ _ c.index.result.now c.requires.in_order c.requires.at
    c.index.ensures _ c.if-before-eq0-2.false
    c.if-after-eq0-2.false c.in-Ok.ensures.items).in_order

pub returns-then-after-eq0-clause-place : goal.returns-then-after-eq0-clause-place
returns-then-after-eq0-clause-place c = (cut-none _ _ _ c.index.result.now c.requires.in_order
    c.requires.at c.index.ensures _ c.if-before-eq0.true c.if-after-eq0.true c.remove.ensures.items).place

pub returns-then-before-eq0-2-clause-place : goal.returns-then-before-eq0-2-clause-place
returns-then-before-eq0-2-clause-place c = (cut-first _ _ _ c.index.result.now c.requires.in_order c.requires.at
    c.index.ensures _ c.if-before-eq0-2.true
    (elim c.else-before-eq0.either [ inl some ↦ some.1 | inr some ↦ absurd (some c.if-before-eq0-2.true) ])
    refl).place

pub returns-then-after-eq0-2-clause-place : goal.returns-then-after-eq0-2-clause-place
returns-then-after-eq0-2-clause-place c = (cut-last _ _ _ c.index.result.now c.requires.in_order c.requires.at
    c.index.ensures _ c.if-before-eq0-2.false
    c.if-after-eq0-2.true refl).place

pub returns-in-Ok-clause-place : goal.returns-in-Ok-clause-place
returns-in-Ok-clause-place c = (cut-middle _ _ _ c.index.result.now c.requires.in_order c.requires.at
    c.index.ensures _ c.if-before-eq0-2.false
    c.if-after-eq0-2.false c.in-Ok.ensures.items).place
