use Rattle.std.proofs.Common.{ap, sym, ◌∙◌, length, rules}
use Rattle.pc_batch.specs.Headers.{header_at}
use Rattle.pc_batch.specs.Headers.{headers_left}
use Rattle.pc_batch.proofs.HeadersLemmas.{front-none, front-fails, front-step}
use Rattle.pc_batch.proofs.headers.HeadersIterator.next.Goals as goal

pub returns-then-self-eq0-clause-steps : goal.returns-then-self-eq0-clause-steps
unfolding headers_left
returns-then-self-eq0-clause-steps c =
    let none = front-none c.args.self.now.count c.args.self.now.bytes.now c.if-self-eq0.true in (none, none)

pub returns-in_default-clause-steps : goal.returns-in_default-clause-steps
unfolding headers_left
returns-in_default-clause-steps c =
    let none = front-fails c.args.self.now.count c.args.self.now.bytes.now c.in_default.field-0 (ap (λ r. header_at r.bytes) (sym c.new-reader.ensures) ∙ c.in_default.ensures) in
    (none, none)

pub returns-clause-steps : goal.returns-clause-steps
unfolding headers_left
returns-clause-steps c =
    let h = ap (λ r. header_at r.bytes) (sym c.new-reader.ensures) ∙ c.in-Ok.ensures in
    let step = front-step c.args.self.now.count c.args.self.now.bytes.now c.header.new.reader.bytes _ c.if-self-eq0.false h in
    rw c.rest-self.ensures step

pub returns-clause-goes : goal.returns-clause-goes
unfolding headers_left
returns-clause-goes c =
    let h = ap (λ r. header_at r.bytes) (sym c.new-reader.ensures) ∙ c.in-Ok.ensures in
    let step = front-step c.args.self.now.count c.args.self.now.bytes.now c.header.new.reader.bytes _ c.if-self-eq0.false h in
    let shorter = ap length step in
    rw c.rest-self.ensures (search rules)
