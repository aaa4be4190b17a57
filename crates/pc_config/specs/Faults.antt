-- The faults of keys, as callers see them, and the steps of a reading.
use Rattle.std.specs.Prelude.{Result, Ok, Err}
use Rattle.pc_config.specs.declared.fault.ConfigFault.{ConfigFault}
use Rattle.pc_config.specs.declared.fault.ConfigFault.TheVariants.{MissingKey, BadValue, OutOfRange}
use Rattle.pc_config.specs.declared.fault.KeyFault.{KeyFault}
use Rattle.pc_config.specs.declared.fault.KeyFault.TheVariants.{Missing, Bad, Beyond}
use Rattle.pc_config.specs.Keys.{name_of, least_of, most_of}

-- a key's fault with the key's name and range
abbrev pub fault_of : KeyFault → ConfigFault
fault_of (Missing k) = MissingKey (name_of k)
fault_of (Bad k) = BadValue (name_of k)
fault_of (Beyond k) = OutOfRange (name_of k) (least_of k) (most_of k)

abbrev pub public : {A : Type 0} → Result A KeyFault → Result A ConfigFault
public (Ok x) = Ok x
public (Err fault) = Err (fault_of fault)

-- the next step, where there is no fault
infixl 10 ◌>>=◌
abbrev pub ◌>>=◌ : {A B E : Type 0} → Result A E → (A → Result B E) → Result B E
(Ok x) >>= f = f x
(Err fault) >>= f = Err fault
