-- One record after the other, up to the first of which the map says nothing.
use Rattle.std.proofs.Common.{◌≡◌, sym, ◌∙◌, arith}
use Rattle.pc_cursor.specs.Log.{contents_of, records_of}
use Rattle.pc_commit.specs.Resume.{resumed_pairs}
use Rattle.pc_commit.proofs.ResumeLemmas.{IsWalked-start, IsWalked-next, IsWalked-stop, IsWalked-end, end-map, pairs-none, pairs-rise, passes-map}
use Rattle.pc_commit.proofs.stored.inherited.Goals as goal
use Rattle.pc_commit.proofs.stored.inherited.Goals.{in-Some-next+then-record-end, in_default-next}

pub returns-in_default-clause-pairs : goal.returns-in_default-clause-pairs
returns-in_default-clause-pairs c = c.new-pairs.ensures.items
    ∙ sym (pairs-none c.args.stored.now _ (rw c.in_default.is at c.requires.read))

pub loop-record-init : goal.loop-record-init
loop-record-init c =
    let is = rw c.in-Some.is at c.requires.read in
    rw c.new-pairs.ensures.items (IsWalked-start c.args.stored.now _ c.seek.new.self.left c.in-Some.map.base
    c.records-rising.ensures.rise is.base (rw c.cursor-cursor.ensures.all at c.seek.ensures.left))

pub loop-record-preserved : goal.loop-record-preserved
loop-record-preserved c =
    let is = rw c.in-Some.is at c.requires.read in
    let end = end-map c.args.stored.now c.in-Some.map is.base is.bits in
    let given = c.in-Some-next.ensures.steps.0 in
    let low = (rw given at c.loop-record.invariant.from).0 in
    let passed = c.passes.ensures ∙ passes-map c.args.stored.now c.in-Some.map c.in-Some-next.record.offset is.base is.bits low in
    rw (c.in_ok-push.ensures.items, passed) (IsWalked-next c.args.stored.now _ c.loop-record.cursor.left c.next.new.self.left
    c.loop-record.pairs.items _ c.loop-record.invariant given (omega (arith, end, c.if-record-end.false, c.count.ensures.count)))

pub returns-clause-pairs : goal.returns-clause-pairs
returns-clause-pairs c =
    let is = rw c.in-Some.is at c.requires.read in
    let end = end-map c.args.stored.now c.in-Some.map is.base is.bits in
    elim c.match-next.branch [
      | in-Some-next+then-record-end w ↦ IsWalked-stop c.args.stored.now _ c.loop-record.cursor.left c.next.new.self.left
          c.loop-record.pairs.items _ c.loop-record.invariant w.in-Some-next.ensures.steps.0
          (omega (arith, end, w.if-record-end.true, c.count.ensures.count))
      | in_default-next w ↦ IsWalked-end c.args.stored.now _ c.loop-record.cursor.left c.loop-record.pairs.items
          c.loop-record.invariant w.in_default-next.ensures.steps.0.0
    ]

pub returns-clause-rises : goal.returns-clause-rises
returns-clause-rises c =
    let is = rw c.in-Some.is at c.requires.read in
    let end = end-map c.args.stored.now c.in-Some.map is.base is.bits in
    let pairs : c.loop-record.pairs.items ≡ resumed_pairs c.args.stored.now (records_of (contents_of c.args.log.now)) = elim c.match-next.branch [
      | in-Some-next+then-record-end w ↦ IsWalked-stop c.args.stored.now _ c.loop-record.cursor.left c.next.new.self.left
          c.loop-record.pairs.items _ c.loop-record.invariant w.in-Some-next.ensures.steps.0
          (omega (arith, end, w.if-record-end.true, c.count.ensures.count))
      | in_default-next w ↦ IsWalked-end c.args.stored.now _ c.loop-record.cursor.left c.loop-record.pairs.items
          c.loop-record.invariant w.in_default-next.ensures.steps.0.0
    ] in
    rw pairs (pairs-rise c.args.stored.now _ c.requires.small c.records-rising.ensures.rise)
