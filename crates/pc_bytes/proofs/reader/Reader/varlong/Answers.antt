use Rattle.pc_bytes.proofs.VarintLaws.{varlong-found, varlong-only}
use Rattle.pc_bytes.proofs.reader.Reader.varlong.Goals as goal

pub returns-clause-found : goal.returns-clause-found
returns-clause-found c = let e = c.next_varlong.ensures in varlong-found _ _ c.next_varlong.result e.value

pub returns-clause-only : goal.returns-clause-only
returns-clause-only c = let e = c.next_varlong.ensures in varlong-only _ _ _ c.next_varlong.result e.value e.fault
