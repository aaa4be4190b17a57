use Rattle.std.proofs.Common.{◌<◌, sym, length, arith}
use Rattle.pc_cursor.proofs.LogLemmas.{walk-none, walk-more, walk-fails, walk-all, next-moves, left-falls}
use Rattle.pc_cursor.proofs.LogLaws.{log-found, log-only, log-unread, batches_of-is}
use Rattle.pc_cursor.proofs.log.Log.check.Goals as goal

pub batches-init : goal.batches-init
batches-init c = rw c.new-entries.ensures.items (walk-none c.args.bytes.now)

pub returns-in-Err-clause-only : goal.returns-in-Err-clause-only
returns-in-Err-clause-only c batches is =
    absurd (log-unread c.args.bytes.now c.in-Err.fault batches
    (walk-fails c.args.bytes.now c.batches.entries.items c.batches.place c.batches.before
    c.batches.records c.in-Err.fault c.batches.invariant c.batches-test.true
    (sym c.in-Err.ensures)) is)

pub returns-in-Err-clause-fault : goal.returns-in-Err-clause-fault
returns-in-Err-clause-fault c =
    walk-fails c.args.bytes.now c.batches.entries.items c.batches.place c.batches.before
    c.batches.records c.in-Err.fault c.batches.invariant c.batches-test.true
    (sym c.in-Err.ensures)

pub batches-smaller : goal.batches-smaller
batches-smaller c =
    let m = next-moves c.args.bytes.now c.batches.place c.batches.before c.in-Ok.batch
    (sym c.in-Ok.ensures) in
    let moves : c.batches.place < c.end-place.result = omega (arith, m) in
    left-falls (length c.args.bytes.now) c.batches.place c.end-place.result c.batches-test.true
    moves

pub batches-preserved : goal.batches-preserved
batches-preserved c =
    let w = walk-more c.args.bytes.now c.batches.entries.items c.batches.place c.batches.before
    c.batches.records c.in-Ok.batch c.batches.invariant c.batches-test.true
    (sym c.in-Ok.ensures) in
    rw (
      c.in_ok-push.ensures.items,
      c.base_offset.ensures,
      c.last_offset-last.ensures,
      c.end-place.ensures,
      c.from-records.ensures,
      c.count.ensures,
    ) w

pub invariant_of-result : goal.invariant_of-result
invariant_of-result c =
    let w = c.batches.invariant in
    let all = walk-all c.args.bytes.now c.batches.entries.items c.batches.place c.batches.before
    c.batches.records w c.batches-test.false in
    let is = batches_of-is c.args.bytes.now w.front all in
    (record { checked = record { whole = rw is all }; kept = rw is w.kept }, rw is w.counted)

pub returns-clause-value : goal.returns-clause-value
returns-clause-value c =
    let w = c.batches.invariant in
    let all = walk-all c.args.bytes.now c.batches.entries.items c.batches.place c.batches.before
    c.batches.records w c.batches-test.false in
    rw (batches_of-is c.args.bytes.now w.front all) all

pub returns-clause-found : goal.returns-clause-found
returns-clause-found c =
    let w = c.batches.invariant in
    let all = walk-all c.args.bytes.now c.batches.entries.items c.batches.place c.batches.before
    c.batches.records w c.batches-test.false in
    rw (batches_of-is c.args.bytes.now w.front all) (log-found c.args.bytes.now w.front all)

pub returns-clause-only : goal.returns-clause-only
returns-clause-only c batches is =
    let w = c.batches.invariant in
    let all = walk-all c.args.bytes.now c.batches.entries.items c.batches.place c.batches.before
    c.batches.records w c.batches-test.false in
    rw (batches_of-is c.args.bytes.now w.front all)
    (log-only c.args.bytes.now w.front batches all is)
