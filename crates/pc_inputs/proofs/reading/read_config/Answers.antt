-- The file that is named is read, if one is.
use Rattle.std.proofs.Common.{List, ℕ, [], Option, Ok, ap, inr, subst, sym}
use Rattle.std.specs.Prelude.{option_map}
use Rattle.pc_inputs.specs.Reading.{IsFromConfig}
use Rattle.pc_inputs.proofs.ReadingLemmas.{no-config}
use Rattle.pc_inputs.proofs.reading.read_config.Goals as goal

pub returns-in-None-clause-text : goal.returns-in-None-clause-text
returns-in-None-clause-text g c =
    inr (subst (λ (name : Option (List ℕ)). IsFromConfig name (g.F.Files.told c.args.files.now)
    (g.F.Files.faults c.args.files.now) (g.F.Files.faults c.args.files.now) (Ok []))
    (sym (ap (option_map (λ n. n.now)) c.in-None.is))
    (no-config (g.F.Files.told c.args.files.now) (g.F.Files.faults c.args.files.now)))
