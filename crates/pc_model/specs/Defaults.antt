-- The values that hold where nothing else is said.
use Rattle.std.specs.Prelude.{[], ◌∷◌}
use Rattle.pc_model.specs.declared.choices.Order.TheVariants.{None}
use Rattle.pc_model.specs.declared.choices.Work.TheVariants.{Length}
use Rattle.pc_model.specs.declared.choices.BadMapRule.TheVariants.{Redo}
use Rattle.pc_model.specs.declared.setup.Settings.{Settings}
use Rattle.pc_model.specs.declared.limits.TheConstants.{MAX_METADATA_BYTES}

-- the default settings
abbrev pub default_settings : Settings
default_settings = record {
  order = None;
  rules = record { work = Length; fails = [] };
  map_limit = MAX_METADATA_BYTES;
  press_percent = 75;
  delays = 100 ∷ [];
  give_up = 10;
  buffer = 5000;
  poll_max = 500;
  commit_every = 1000;
  bad_map = Redo;
  starts = [];
}
