-- A setup has no more than its settings.
use Rattle.std.proofs.Common.{◌≡◌, true, refl, ap, subst}
use Rattle.std.specs.Prelude.{IsTrue, is_none}
use Rattle.std.proofs.Math.Bool.{Bool-set}
use Rattle.pc_model.specs.declared.setup.Settings.{Settings}
use Rattle.pc_model.specs.declared.setup.Setup.{Setup}
use Rattle.pc_model.specs.Defaults.{default_settings}
use Rattle.pc_model.specs.Ranges.{settings_fault}

setup_with : (v : Settings) → IsTrue (is_none (settings_fault v)) → Setup
setup_with v in_range = record { settings = v; in_range = in_range }

same-setup : (v w : Settings) → v ≡ w → (a : IsTrue (is_none (settings_fault v)))
    → (b : IsTrue (is_none (settings_fault w))) → setup_with v a ≡ setup_with w b
unfolding setup_with
same-setup v w same a =
    subst (λ (x : Settings). (b : IsTrue (is_none (settings_fault x)))
    → setup_with v a ≡ setup_with x b) same
    (λ b. ap (setup_with v) (Bool-set (is_none (settings_fault v)) true a b))

-- so a setup has no more than its settings
pub same-settings : (s s' : Setup) → s.settings ≡ s'.settings → s ≡ s'
unfolding setup_with
same-settings s s' same = same-setup s.settings s'.settings same s.in_range s'.in_range

pub default_in_range : IsTrue (is_none (settings_fault default_settings))
unfolding settings_fault
default_in_range = refl

-- some setup, where nothing is asked of it
abbrev pub default_setup : Setup
default_setup = record { settings = default_settings; in_range = default_in_range }
