use Rattle.std.proofs.Common.{ap, sym, ◌∙◌, arith}
use Rattle.std.proofs.lemmas.Result.{err_from_is_err_and}
use Rattle.pc_batch.specs.Headers.{after_headers}
use Rattle.pc_batch.specs.Headers.{headers_left}
use Rattle.pc_batch.proofs.HeadersLemmas.{all-uncounted, all-fails, all-leftover, all-is}
use Rattle.pc_batch.proofs.headers.Headers.of_rest.Goals as goal

pub returns-in_err-count-clause-fault : goal.returns-in_err-count-clause-fault
returns-in_err-count-clause-fault c =
    let p = err_from_is_err_and c.from_residual.result c.from_residual.ensures.1 in
    rw (p.1, p.2) (all-uncounted c.args.reader.now.bytes _ c.in_err-count.ensures)

pub returns-in_err-skip-clause-fault : goal.returns-in_err-skip-clause-fault
returns-in_err-skip-clause-fault c =
    let p = err_from_is_err_and c.from_residual-in_err-skip.result c.from_residual-in_err-skip.ensures.1 in
    let ahead = ap (λ r. r.bytes) c.new-ahead.ensures ∙ c.rest-bytes.ensures in
    let fails = ap (after_headers c.in_ok-count.count) (sym ahead) ∙ c.in_err-skip.ensures.fault in
    rw (p.1, p.2) (all-fails c.args.reader.now.bytes c.count.new.reader.bytes c.in_ok-count.count _ c.in_ok-count.ensures fails)

pub returns-then-left-gt0-clause-fault : goal.returns-then-left-gt0-clause-fault
returns-then-left-gt0-clause-fault c =
    let ahead = ap (λ r. r.bytes) c.new-ahead.ensures ∙ c.rest-bytes.ensures in
    let passed = ap (after_headers c.in_ok-count.count) (sym ahead) ∙ c.in_ok-skip.ensures.value in
    all-leftover c.args.reader.now.bytes c.count.new.reader.bytes c.skip.new.reader.bytes c.in_ok-count.count c.in_ok-count.ensures passed (omega arith)

pub returns-clause-value : goal.returns-clause-value
unfolding headers_left
returns-clause-value c =
    let ahead = ap (λ r. r.bytes) c.new-ahead.ensures ∙ c.rest-bytes.ensures in
    let passed = ap (after_headers c.in_ok-count.count) (sym ahead) ∙ c.in_ok-skip.ensures.value in
    rw c.rest-bytes.ensures (all-is c.args.reader.now.bytes c.count.new.reader.bytes c.skip.new.reader.bytes c.in_ok-count.count c.in_ok-count.ensures passed (omega arith))
