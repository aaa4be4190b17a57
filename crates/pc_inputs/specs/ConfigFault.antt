-- The words of a configuration's fault.
use Rattle.std.specs.Prelude.{ℕ, List, [], ◌∷◌, codes}
use Rattle.std.specs.Fmt.{decimal}
use Rattle.pc_config.specs.declared.fault.ConfigFault.{ConfigFault}
use Rattle.pc_config.specs.declared.fault.ConfigFault.TheVariants.{NotToml, UnknownKey, MissingKey, BadValue, OutOfRange, NoMemory}
use Rattle.pc_print.specs.Line.{marked}

-- the words of what is wrong with a configuration
abbrev pub config_words : ConfigFault → List (List ℕ)
config_words NotToml = codes "not-toml" ∷ []
config_words (UnknownKey key) = codes "unknown" ∷ marked key ∷ []
config_words (MissingKey key) = codes "missing" ∷ marked key ∷ []
config_words (BadValue key) = codes "value" ∷ marked key ∷ []
config_words (OutOfRange key least most) =
    codes "range" ∷ marked key ∷ decimal least ∷ decimal most ∷ []
config_words NoMemory = codes "no-memory" ∷ []
