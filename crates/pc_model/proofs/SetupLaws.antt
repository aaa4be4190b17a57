-- The numbers of a setup lie in their ranges.
use Rattle.std.proofs.Common.{◌≡◌, ℕ, ◌≤◌, true, Option, Some, None, refl, inl, inr}
use Rattle.std.specs.Prelude.{is_none, nat_le}
use Rattle.std.specs.Option.{option_or}
use Rattle.std.proofs.lemmas.Bool.{cases_Bool, leb-true}
use Rattle.pc_model.specs.declared.setup.Settings.{Settings}
use Rattle.pc_model.specs.declared.setup.Setup.{Setup}
use Rattle.pc_model.specs.declared.setup.SetupFault.{SetupFault}
use Rattle.pc_model.specs.declared.setup.SetupField.{SetupField}
use Rattle.pc_model.specs.declared.setup.SetupField.TheVariants.{MapLimit, PressPercent, GiveUp, Buffer, PollMax, CommitEvery}
use Rattle.pc_model.specs.Ranges.{number_fault, range_fault, range_of, settings_fault}

-- that a number lies in the field's range
pub record IsWithin (field : SetupField) (n : ℕ) : Type 0 where
  pub least : (range_of field).0 ≤ n
  pub most : n ≤ (range_of field).1

-- that each number of the settings lies in its range
pub record AreWithin (s : Settings) : Type 0 where
  pub map_limit : IsWithin MapLimit s.map_limit
  pub press_percent : IsWithin PressPercent s.press_percent
  pub give_up : IsWithin GiveUp s.give_up
  pub buffer : IsWithin Buffer s.buffer
  pub poll_max : IsWithin PollMax s.poll_max
  pub commit_every : IsWithin CommitEvery s.commit_every

within : (field : SetupField) (n : ℕ) → is_none (range_fault field n) ≡ true → IsWithin field n
within field n is = elim (cases_Bool (nat_le (range_of field).0 n)) [
  | inl low ↦ elim (cases_Bool (nat_le n (range_of field).1)) [
    | inl high ↦ record { least = leb-true (range_of field).0 n low; most = leb-true n (range_of field).1 high }
    | inr above ↦ let out = rw (low, above) at is in cc out
  ]
  | inr below ↦ let out = rw below at is in cc out
]

both-none : (a b : Option SetupFault) → is_none (option_or a b) ≡ true
    → (is_none a ≡ true) × (is_none b ≡ true)
both-none None b is = (refl, is)
both-none (Some f) b is = cc

numbers-within : (s : Settings) → is_none (number_fault s) ≡ true → AreWithin s
numbers-within s is =
    let a = both-none (range_fault MapLimit s.map_limit) _ is in
    let b = both-none (range_fault PressPercent s.press_percent) _ a.1 in
    let c = both-none (range_fault GiveUp s.give_up) _ b.1 in
    let d = both-none (range_fault Buffer s.buffer) _ c.1 in
    let e = both-none (range_fault PollMax s.poll_max) _ d.1 in
    record {
      map_limit = within MapLimit s.map_limit a.0;
      press_percent = within PressPercent s.press_percent b.0;
      give_up = within GiveUp s.give_up c.0;
      buffer = within Buffer s.buffer d.0;
      poll_max = within PollMax s.poll_max e.0;
      commit_every = within CommitEvery s.commit_every e.1;
    }

pub setup-within : (setup : Setup) → AreWithin setup.settings
unfolding settings_fault
setup-within setup = numbers-within setup.settings (both-none _ _ setup.in_range).0
