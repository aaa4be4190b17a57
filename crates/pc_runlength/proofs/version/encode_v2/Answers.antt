-- The letter's encoding is a RunLength.
use Rattle.std.proofs.Common.{arith}
use Rattle.pc_model.specs.MapSpelling.{spelling_of}
use Rattle.pc_runlength.proofs.ReadingLemmas.{spelled_reads_back_ok}
use Rattle.pc_runlength.proofs.version.encode_v2.Goals as goal

pub returns-clause-spelled : goal.returns-clause-spelled
unfolding spelling_of
returns-clause-spelled c = c.encode.ensures

pub returns-clause-read_back : goal.returns-clause-read_back
returns-clause-read_back c = spelled_reads_back_ok 4 c.args.bits.now (λ v. v.items) c.encode.result (omega arith) c.encode.ensures
