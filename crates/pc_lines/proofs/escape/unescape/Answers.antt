-- Where nothing is left, the bytes are those of the word.
use Rattle.std.proofs.Common.{sym}
use Rattle.std.proofs.lemmas.Bool.{eqb-true}
use Rattle.pc_lines.specs.Escape.{unescaped_of}
use Rattle.pc_lines.proofs.EscapeLemmas.{unescaped_of-end, escaped_of-unescaped_of}
use Rattle.pc_lines.proofs.escape.unescape.Goals as goal

pub returns-clause-ok : goal.returns-clause-ok
returns-clause-ok c = unescaped_of-end c.loop-rest.rest.now c.loop-rest.bytes.items (unescaped_of c.args.word.now) (eqb-true _ 0 (sym c.loop-rest-test.ensures)) c.loop-rest.invariant

pub returns-clause-spelled : goal.returns-clause-spelled
returns-clause-spelled c = (escaped_of-unescaped_of c.args.word.now c.loop-rest.bytes.items (returns-clause-ok c)).0
