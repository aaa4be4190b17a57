-- The name of the failure stands behind the others.
use Rattle.std.proofs.Common.{◌∙◌, sym}
use Rattle.std.specs.Prelude.{bytes_eq, string_bytes}
use Rattle.std.proofs.lemmas.Slice.Eq.{bytes_eq-Decides}
use Rattle.pc_world.proofs.FailedLemmas.{counts-it, is-not, leaves-it}
use Rattle.pc_world.proofs.failed_reads.FailedReads.add.Goals as goal

pub returns-clause-rose : goal.returns-clause-rose
returns-clause-rose c =
    counts-it (λ s. bytes_eq (string_bytes s) c.args.name.now) c.args.self.now.names.items
    c.push.new.self.items c.in_ok-name.name
    ((bytes_eq-Decides (string_bytes c.in_ok-name.name) c.args.name.now).1 c.in_ok-name.ensures.ok)
    c.in_ok-push.ensures.items

pub returns-clause-others : goal.returns-clause-others
returns-clause-others c n other =
    leaves-it (λ s. bytes_eq (string_bytes s) n) c.args.self.now.names.items
    c.push.new.self.items c.in_ok-name.name
    (is-not (string_bytes c.in_ok-name.name) n
    (λ is. other (sym is ∙ c.in_ok-name.ensures.ok))) c.in_ok-push.ensures.items
