-- A file that was read into an empty buffer.
use Rattle.std.proofs.Common.{inr}
use Rattle.pc_inputs.proofs.ReadingLemmas.{file-read}
use Rattle.pc_inputs.proofs.reading.read.Goals as goal

pub returns-in-Ok-clause-answer : goal.returns-in-Ok-clause-answer
returns-in-Ok-clause-answer g c = inr (file-read (g.F.Files.told c.args.files.now c.args.name.now)
    (g.F.Files.faults c.args.files.now c.args.name.now)
    (g.F.Files.faults c.read.new.self c.args.name.now) c.args.name.now
    c.new-bytes.result.items c.read.new.into.items c.new-bytes.ensures.items
    c.in-Ok.ensures.contents)
