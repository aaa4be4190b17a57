-- The empty text has no keys.
use Rattle.std.proofs.Common.{Ok, sym, ap, ◌∙◌}
use Rattle.pc_config.proofs.DefaultLemmas.{config_of-nil}
use Rattle.pc_config.proofs.config.default_config.Goals as goal

pub returns-clause-empty : goal.returns-clause-empty
returns-clause-empty c = config_of-nil ∙ ap (λ s. Ok (record { settings = s; workers = 16 })) (sym c.in_ok-with_defaults.ensures)
