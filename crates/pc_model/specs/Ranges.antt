-- The ranges of a setup's fields, and the first field that is out of its range.
use Rattle.std.specs.Prelude.{ℕ, ◌-◌, ◌^◌, ◌&&◌, ◌==◌, nat_le, if◌then◌else◌, List, [], ◌∷◌, ◌++◌, length, Option, Some, None, Result, Ok, Err}
use Rattle.std.specs.List.{list_any}
use Rattle.std.specs.Option.{option_or}
use Rattle.pc_model.specs.Numbers.{first_some}
use Rattle.pc_model.specs.declared.limits.TheConstants.{MAX_DELAY, MAX_METADATA_BYTES, MAX_PARTS, MAX_RECORDS}
use Rattle.pc_model.specs.declared.outcome.FailRule.{FailRule}
use Rattle.pc_model.specs.declared.outcome.Start.{Start}
use Rattle.pc_model.specs.declared.setup.Settings.{Settings}
use Rattle.pc_model.specs.declared.setup.SetupField.{SetupField}
use Rattle.pc_model.specs.declared.setup.SetupField.TheVariants.{MapLimit, PressPercent, Delays, Delay, GiveUp, Buffer, PollMax, CommitEvery, Fails, FailPart, FailOffset, FailTimes, Starts, StartPart, StartPosition, StartMap}
use Rattle.pc_model.specs.declared.setup.SetupFault.{SetupFault}
use Rattle.pc_model.specs.declared.setup.SetupFault.TheVariants.{OutOfRange, PartTwice}

-- the least and the most that a field may be, or how long a list or a text may be
abbrev pub range_of : SetupField → ℕ × ℕ
range_of MapLimit = (0, MAX_METADATA_BYTES)
range_of PressPercent = (1, 100)
range_of Delays = (1, 16)
range_of Delay = (0, MAX_DELAY)
range_of GiveUp = (1, MAX_RECORDS)
range_of Buffer = (1, MAX_RECORDS)
range_of PollMax = (1, MAX_RECORDS)
range_of CommitEvery = (1, MAX_RECORDS)
range_of Fails = (0, MAX_RECORDS)
range_of FailPart = (0, MAX_PARTS - 1)
range_of FailOffset = (0, 2 ^ 63 - 2)
range_of FailTimes = (1, MAX_RECORDS)
range_of Starts = (0, MAX_PARTS)
range_of StartPart = (0, MAX_PARTS - 1)
range_of StartPosition = (0, 2 ^ 63 - 1)
range_of StartMap = (0, MAX_METADATA_BYTES)

-- the fault of a field whose value lies outside its range
abbrev pub range_fault : SetupField → ℕ → Option SetupFault
range_fault field value = if nat_le (range_of field).0 value && nat_le value (range_of field).1
    then None else Some (OutOfRange field (range_of field).0 (range_of field).1)

-- the first fault of the numbers
abbrev pub number_fault : Settings → Option SetupFault
number_fault s = option_or (range_fault MapLimit s.map_limit)
    (option_or (range_fault PressPercent s.press_percent)
    (option_or (range_fault GiveUp s.give_up)
    (option_or (range_fault Buffer s.buffer)
    (option_or (range_fault PollMax s.poll_max)
    (range_fault CommitEvery s.commit_every)))))

-- the fault of a delay
abbrev pub delay_fault : ℕ → Option SetupFault
delay_fault d = range_fault Delay d

-- the first fault of the delays: how many there are, or one of them
abbrev pub delays_fault : List ℕ → Option SetupFault
delays_fault delays = option_or (range_fault Delays (length delays))
    (first_some delay_fault delays)

-- the first fault of a fail rule
abbrev pub rule_fault : FailRule → Option SetupFault
rule_fault f = option_or (range_fault FailPart f.part)
    (option_or (range_fault FailOffset f.offset)
    (range_fault FailTimes f.times))

-- the first fault of the fail rules
abbrev pub rules_fault : List FailRule → Option SetupFault
rules_fault fails = option_or (range_fault Fails (length fails))
    (first_some rule_fault fails)

-- the first fault of a start
abbrev pub start_fault : Start → Option SetupFault
start_fault s = option_or (range_fault StartPart s.part)
    (option_or (range_fault StartPosition s.position)
    (range_fault StartMap (length s.map)))

-- the first start whose part stands in an earlier one
abbrev pub twice_fault : List Start → List Start → Option SetupFault
twice_fault earlier [] = None
twice_fault earlier (s ∷ rest) = if list_any (λ t. t.part == s.part) earlier then Some
    (PartTwice s.part)
    else twice_fault (earlier ++ s ∷ []) rest

-- the first fault of the starts
abbrev pub starts_fault : List Start → Option SetupFault
starts_fault starts = option_or (range_fault Starts (length starts))
    (option_or (first_some start_fault starts) (twice_fault [] starts))

-- the first fault of a setup's values: of the numbers, the delays, the fail rules, the starts
unfoldable pub settings_fault : Settings → Option SetupFault
settings_fault s = option_or (number_fault s)
    (option_or (delays_fault s.delays)
    (option_or (rules_fault s.rules.fails) (starts_fault s.starts)))

-- a check that refuses with the fault, if there is one
abbrev pub refuses : Option SetupFault → Result (Unit {0}) SetupFault
refuses None = Ok tt
refuses (Some fault) = Err fault
