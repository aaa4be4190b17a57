use Rattle.std.proofs.Common.{◌+◌, ◌∷◌, ap, sym, ◌∙◌, length, rules}
use Rattle.pc_batch.specs.Record.{record_at, plain}
use Rattle.pc_batch.specs.Records.{front_records}
use Rattle.pc_batch.proofs.RecordsLemmas.{front-fails, front-step}
use Rattle.pc_batch.proofs.records.RecordsIterator.next.Goals as goal

pub returns-in_default-clause-steps : goal.returns-in_default-clause-steps
returns-in_default-clause-steps c =
    let s = c.self.inside in
    let e = ap (λ r. record_at s.frame s.least r.bytes) (sym c.new-reader.ensures) ∙ c.in_default.ensures.value in
    let none = sym c.self.view_is ∙ front-fails (length s.bytes.now) s.frame s.least s.bytes.now c.in_default.field-0 e in
    (none, none)

pub returns-clause-steps : goal.returns-clause-steps
returns-clause-steps c =
    let s = c.self.inside in
    let e = ap (λ r. record_at s.frame s.least r.bytes) (sym c.new-reader.ensures) ∙ c.in-Ok.ensures.value in
    sym c.self.view_is
    ∙ front-step s.frame s.least s.bytes.now (plain c.in-Ok.record, c.next.new.reader.bytes) e
    ∙ ap (λ b. plain c.in-Ok.record ∷ front_records (length b) s.frame (c.in-Ok.record.offset + 1) b) (sym c.rest-self-inside.ensures)

pub returns-clause-goes : goal.returns-clause-goes
returns-clause-goes c =
    let s = c.self.inside in
    let e = ap (λ r. record_at s.frame s.least r.bytes) (sym c.new-reader.ensures) ∙ c.in-Ok.ensures.value in
    let step = sym c.self.view_is
    ∙ front-step s.frame s.least s.bytes.now (plain c.in-Ok.record, c.next.new.reader.bytes) e
    ∙ ap (λ b. plain c.in-Ok.record ∷ front_records (length b) s.frame (c.in-Ok.record.offset + 1) b) (sym c.rest-self-inside.ensures) in
    let shorter = ap length step in
    search rules
