-- The letter's encoding is a BitSet.
use Rattle.pc_bitset.proofs.PackingLemmas.{spelled_reads_back_ok}
use Rattle.pc_model.specs.MapSpelling.{spelling_of}
use Rattle.pc_bitset.proofs.version.encode_v1.Goals as goal

pub returns : goal.returns
unfolding spelling_of
returns c = record {
  spelled = c.encode.ensures;
  read_back = spelled_reads_back_ok 2 c.args.bits.now (λ v. v.items) c.encode.result c.encode.ensures;
}
