-- A count that is too large makes the headers too long.
use Rattle.std.proofs.lemmas.Result.{err_from_is_err_and}
use Rattle.pc_batch_writer.proofs.PutLemmas.{counted-fails}
use Rattle.pc_batch_writer.specs.Writing.{plain_header}
use Rattle.std.proofs.Common.{map, length, sym}
use Rattle.std.proofs.lemmas.List.{length-map}
use Rattle.pc_batch_writer.proofs.put.put_counted.Goals as goal

pub returns-in_err-put_len : goal.returns-in_err-put_len
returns-in_err-put_len c =
    let p = err_from_is_err_and c.from_residual.result c.from_residual.ensures.1 in
    rw (p.1, p.2) (counted-fails _ (length c.args.headers.now) (map plain_header c.args.headers.now) (sym (length-map c.args.headers.now plain_header)) c.in_err-put_len.ensures)
