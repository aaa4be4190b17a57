-- The configuration of the empty text.
use Rattle.std.proofs.Common.{◌≡◌, [], Ok, Some, refl, ◌∙◌}
use Rattle.toml.specs.Data.{no_members}
use Rattle.toml.specs.Parse.{parse_document}
use Rattle.toml.proofs.OnLiterals.{toml_on_literals}
use Rattle.pc_model.specs.Defaults.{default_settings}
use Rattle.pc_config.specs.Config.{config_of, configured_of, front_of, back_of}
use Rattle.pc_config.specs.Lists.{delays_of, fails_of, starts_of}
use Rattle.pc_config.specs.Members.{member_of, known_keys}
use Rattle.pc_config.proofs.ConfigLemmas.{config_of-read}

no_text : parse_document [] ≡ Some no_members
unfolding toml_on_literals
no_text = refl

no_keys : configured_of no_members ≡ Ok (record { settings = default_settings; workers = 16 })
unfolding configured_of front_of back_of delays_of fails_of starts_of member_of known_keys
no_keys = refl

pub config_of-nil : config_of [] ≡ Ok (record { settings = default_settings; workers = 16 })
config_of-nil = config_of-read [] no_members ([], (refl, refl)) no_text ∙ no_keys
