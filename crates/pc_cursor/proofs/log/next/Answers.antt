use Rattle.std.proofs.Common.{refl}
use Rattle.pc_cursor.proofs.LogLemmas.{batch_from-fault}
use Rattle.pc_cursor.proofs.log.next.Goals as goal

pub returns-in-Err : goal.returns-in-Err
returns-in-Err c =
    let e = batch_from-fault c.args.bytes.now c.args.place c.in-Err.fault c.in-Err.ensures.fault in
    rw e refl
