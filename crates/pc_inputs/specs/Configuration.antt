-- What the text of a configuration gives.
use Rattle.std.specs.Prelude.{ℕ, List, Result, Ok, Err}
use Rattle.pc_config.specs.declared.fault.ConfigFault.{ConfigFault}
use Rattle.pc_config.specs.declared.fault.ConfigFault.TheVariants.{NoMemory}
use Rattle.pc_config.specs.Config.{Configured, config_of}
use Rattle.pc_inputs.specs.declared.status.Status.{Status}
use Rattle.pc_inputs.specs.declared.status.Status.TheVariants as status

-- the status of a configuration that is refused
abbrev pub config_status : ConfigFault → Status
config_status NoMemory = status.NoMemory
config_status fault = status.BadConfig fault

abbrev pub configured_or_status : Result Configured ConfigFault → Result Configured Status
configured_or_status (Ok configured) = Ok configured
configured_or_status (Err fault) = Err (config_status fault)

-- what a text configures, or the status of its first fault
abbrev pub configured_in : List ℕ → Result Configured Status
configured_in text = configured_or_status (config_of text)
