use Rattle.std.proofs.Common.{sym, ap, ◌∙◌}
use Rattle.pc_cursor.specs.Cursor.{not_below, records_from}
use Rattle.pc_cursor.proofs.LogLemmas.{batch_from-fault}
use Rattle.pc_cursor.proofs.CursorLemmas.{from-none, from-step}
use Rattle.pc_cursor.proofs.SeekLaws.{gives-none}
use Rattle.pc_cursor.proofs.cursor.CursorIterator.next.Goals as goal

pub batches-preserved : goal.batches-preserved
batches-preserved c =
    let s = c.batches.self-inside in
    let step = from-step s.bytes.now s.place c.in-Ok.batch c.in-Ok.ensures.value in
    rw (c.records-self-inside.ensures, c.end-self-inside.ensures) (
      ap (not_below s.least) (sym step) ∙ sym (gives-none s.least s.records
          (records_from s.bytes.now s.place) c.in_default.ensures.0) ∙ c.batches.invariant.0,
      c.batches.invariant.1,
      c.batches.invariant.2,
    )

pub returns-in_default-read_batch-clause-steps : goal.returns-in_default-read_batch-clause-steps
returns-in_default-read_batch-clause-steps c =
    let s = c.batches.self-inside in
    let ended = from-none s.bytes.now s.place c.in_default-read_batch.field-0
    (batch_from-fault s.bytes.now s.place c.in_default-read_batch.field-0
    c.in_default-read_batch.ensures.fault) in
    let none = ap (not_below s.least) ended in (
      (
        sym c.batches.invariant.0 ∙ gives-none s.least s.records
            (records_from s.bytes.now s.place) c.in_default.ensures.0 ∙ none,
        gives-none s.least c.next_of.new.records (records_from s.bytes.now s.place)
            c.in_default.ensures.1 ∙ none,
      ),
      c.batches.invariant.1,
    )
