-- The configuration of a text, or its first fault.
use Rattle.std.specs.Prelude.{ℕ, ◌≤◌, List, Option, Some, None, Result, Ok, Err, if◌then◌else◌}
use Rattle.std.specs.Str.{is_utf8}
use Rattle.toml.specs.Data.{Members}
use Rattle.toml.specs.Parse.{parse_document}
use Rattle.pc_model.specs.declared.choices.Order.TheVariants as order
use Rattle.pc_model.specs.declared.choices.Work.TheVariants as work
use Rattle.pc_model.specs.declared.choices.BadMapRule.TheVariants as bad_map
use Rattle.pc_model.specs.declared.outcome.FailRule.{FailRule}
use Rattle.pc_model.specs.declared.outcome.Start.{Start}
use Rattle.pc_model.specs.declared.setup.Settings.{Settings}
use Rattle.pc_model.specs.declared.limits.TheConstants.{MAX_METADATA_BYTES, MAX_RECORDS}
use Rattle.pc_config.specs.declared.config.Config.{Config}
use Rattle.pc_config.specs.declared.scalars.FrontKeys.{FrontKeys}
use Rattle.pc_config.specs.declared.scalars.BackKeys.{BackKeys}
use Rattle.pc_config.specs.declared.key.Key.TheVariants as key
use Rattle.pc_config.specs.declared.place.Place.TheVariants as place
use Rattle.pc_config.specs.declared.fault.ConfigFault.{ConfigFault}
use Rattle.pc_config.specs.declared.fault.ConfigFault.TheVariants.{NotToml}
use Rattle.pc_config.specs.declared.fault.KeyFault.{KeyFault}
use Rattle.pc_config.specs.Faults.{◌>>=◌, public}
use Rattle.pc_config.specs.Lists.{delays_of, fails_of, starts_of}
use Rattle.pc_config.specs.Members.{integer_at, text_at, number_or, word_or, known_keys, order_named, work_named, bad_map_named}

-- what a configuration says
pub record Configured : Type 0 where
  pub settings : Settings
  pub workers : ℕ

abbrev pub configured : Config → Configured
configured c = record { settings = c.setup.settings; workers = c.workers }

-- the keys before the delays
unfoldable pub front_of : Members → Result FrontKeys KeyFault
front_of ms = do
  order ← word_or key.Order order_named order.None (text_at key.Order ms)
  work ← word_or key.Function work_named work.Length (text_at key.Function ms)
  workers ← number_or key.Workers 16 (integer_at key.Workers ms)
  map_limit ← number_or key.MapLimit MAX_METADATA_BYTES (integer_at key.MapLimit ms)
  press_percent ← number_or key.PressPercent 75 (integer_at key.PressPercent ms)
  Ok (record { order = order; work = work; workers = workers; map_limit = map_limit; press_percent = press_percent })

-- the keys from the delays to the lists of tables
unfoldable pub back_of : Members → Result BackKeys KeyFault
back_of ms = do
  give_up ← number_or key.GiveUp 10 (integer_at key.GiveUp ms)
  buffer ← number_or key.Buffer 5000 (integer_at key.Buffer ms)
  poll_max ← number_or key.PollMax 500 (integer_at key.PollMax ms)
  commit_every ← number_or key.CommitEvery 1000 (integer_at key.CommitEvery ms)
  bad_map ← word_or key.BadMap bad_map_named bad_map.Redo (text_at key.BadMap ms)
  Ok (record { give_up = give_up; buffer = buffer; poll_max = poll_max; commit_every = commit_every; bad_map = bad_map })

abbrev pub settings_from : FrontKeys → List ℕ → BackKeys → List FailRule → List Start → Settings
settings_from front delays back fails starts = record {
  order = front.order;
  rules = record { work = front.work; fails = fails };
  map_limit = front.map_limit;
  press_percent = front.press_percent;
  delays = delays;
  give_up = back.give_up;
  buffer = back.buffer;
  poll_max = back.poll_max;
  commit_every = back.commit_every;
  bad_map = back.bad_map;
  starts = starts;
}

-- what a table says, key by key in the order of the table of keys
unfoldable pub configured_of : Members → Result Configured ConfigFault
configured_of ms = do
  known ← known_keys place.Top ms
  front ← public (front_of ms)
  delays ← delays_of ms
  back ← public (back_of ms)
  fails ← fails_of ms
  starts ← starts_of ms
  Ok (record { settings = settings_from front delays back fails starts; workers = front.workers })

abbrev pub or_not_toml : Option Members → Result Configured ConfigFault
or_not_toml None = Err NotToml
or_not_toml (Some ms) = configured_of ms

-- the configuration of a text
unfoldable pub config_of : List ℕ → Result Configured ConfigFault
config_of bytes = or_not_toml (if is_utf8 bytes then parse_document bytes else None)

-- ---- the ranges

pub record IsFront (f : FrontKeys) : Type 0 where
  pub workers_least : 1 ≤ f.workers
  pub workers_most : f.workers ≤ 256
  pub map_limit_most : f.map_limit ≤ MAX_METADATA_BYTES
  pub press_percent_least : 1 ≤ f.press_percent
  pub press_percent_most : f.press_percent ≤ 100

pub record IsBack (b : BackKeys) : Type 0 where
  pub give_up_least : 1 ≤ b.give_up
  pub give_up_most : b.give_up ≤ MAX_RECORDS
  pub buffer_least : 1 ≤ b.buffer
  pub buffer_most : b.buffer ≤ MAX_RECORDS
  pub poll_max_least : 1 ≤ b.poll_max
  pub poll_max_most : b.poll_max ≤ MAX_RECORDS
  pub commit_every_least : 1 ≤ b.commit_every
  pub commit_every_most : b.commit_every ≤ MAX_RECORDS
