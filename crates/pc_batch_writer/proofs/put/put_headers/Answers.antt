-- A header that is too long makes the headers too long.
use Rattle.std.proofs.lemmas.Result.{err_from_is_err_and}
use Rattle.pc_batch_writer.specs.Writing.{plain_header, header_spelling}
use Rattle.pc_batch_writer.proofs.PutLemmas.{Fails-more, item-le}
use Rattle.pc_batch_writer.proofs.put.put_headers.Goals as goal

pub returns-in_err-put_header : goal.returns-in_err-put_header
returns-in_err-put_header c =
    let p = err_from_is_err_and c.from_residual.result c.from_residual.ensures.1 in
    let i = c.loop-header.invariant in
    rw (p.1, p.2) (Fails-more _ _ _ (item-le header_spelling plain_header c.args.headers.now c.loop-header.header-index _ c.loop-header-test.true _ _ i.text i.more) c.in_err-put_header.ensures)
