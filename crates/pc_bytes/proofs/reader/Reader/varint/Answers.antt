use Rattle.pc_bytes.proofs.VarintLaws.{varint-found, varint-only}
use Rattle.pc_bytes.proofs.reader.Reader.varint.Goals as goal

pub returns-clause-found : goal.returns-clause-found
returns-clause-found c = let e = c.next_varint.ensures in varint-found _ _ c.next_varint.result e.value

pub returns-clause-only : goal.returns-clause-only
returns-clause-only c = let e = c.next_varint.ensures in varint-only _ _ _ c.next_varint.result e.value e.fault
