use Rattle.std.proofs.Common.{◌≡◌, ◌<◌, ◌≤◌, ◌+◌, ◌-◌, Err, ap, sym, ◌∙◌, length, arith}
use Rattle.pc_batch.specs.declared.fault.BatchFault.TheVariants.{BadRecord}
use Rattle.pc_batch.specs.Record.{plain}
use Rattle.pc_batch.proofs.RecordsLemmas.{counts-one, count-fails, counted-all, record_at-shorter}
use Rattle.pc_batch.proofs.records.count.Goals as goal

pub returns-in-Err : goal.returns-in-Err
returns-in-Err c =
    let l = c.records in
    let end = c.args.place + length c.args.bytes.now in
    let some : 0 < length l.reader.bytes = omega arith in
    let here : c.place-place.result ≡ end - length l.reader.bytes = omega arith in
    ap (λ p. Err (BadRecord p c.in-Err.kind)) here
    ∙ sym (count-fails l.found end c.args.frame.now l.least l.reader.bytes c.in-Err.kind some c.in-Err.ensures.value)
    ∙ l.invariant.told

pub records-smaller : goal.records-smaller
records-smaller c =
    record_at-shorter c.args.frame.now c.records.least c.records.reader.bytes (plain c.in-Ok.record, c.next.new.reader.bytes) c.in-Ok.ensures.value

pub records-preserved : goal.records-preserved
records-preserved c =
    let l = c.records in
    let end = c.args.place + length c.args.bytes.now in
    let some : 0 < length l.reader.bytes = omega arith in
    let shorter = record_at-shorter c.args.frame.now l.least l.reader.bytes (plain c.in-Ok.record, c.next.new.reader.bytes) c.in-Ok.ensures.value in
    record {
      told = sym (counts-one l.found end c.args.frame.now l.least l.reader.bytes (plain c.in-Ok.record, c.next.new.reader.bytes) some c.in-Ok.ensures.value) ∙ l.invariant.told;
      ends = omega (arith, c.next.ensures.moves.ends);
      room = omega (arith, shorter);
      least = omega (arith, c.in-Ok.ensures.within, c.requires.sound.top);
    }

pub returns : goal.returns
returns c =
    let l = c.records in
    let end = c.args.place + length c.args.bytes.now in
    let none : length l.reader.bytes ≤ 0 = omega arith in
    sym (counted-all l.found end c.args.frame.now l.least l.reader.bytes none) ∙ l.invariant.told
