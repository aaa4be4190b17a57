-- The configuration of a text, and the ranges of its values.
use Rattle.std.proofs.Common.{◌≡◌, ℕ, ◌≤◌, Bool, true, false, cond, le-leb, List, Option, Some, None, Result, Ok, Err, IfOk, IsUtf8, refl, ap, subst, arith}
use Rattle.std.specs.Str.{is_utf8}
use Rattle.std.proofs.lemmas.Str.{IsUtf8-from_is_utf8, is_utf8-from_IsUtf8}
use Rattle.toml.specs.Data.{Members}
use Rattle.toml.specs.Parse.{parse_document}
use Rattle.pc_model.specs.declared.setup.SetupField.{SetupField}
use Rattle.pc_model.specs.declared.outcome.FailRule.{FailRule}
use Rattle.pc_model.specs.declared.outcome.Start.{Start}
use Rattle.pc_model.specs.Ranges.{range_fault, range_of, delays_fault, rules_fault, starts_fault, settings_fault}
use Rattle.pc_config.specs.declared.scalars.FrontKeys.{FrontKeys}
use Rattle.pc_config.specs.declared.scalars.BackKeys.{BackKeys}
use Rattle.pc_config.specs.declared.fault.ConfigFault.TheVariants.{NotToml}
use Rattle.pc_config.specs.declared.fault.KeyFault.{KeyFault}
use Rattle.pc_config.specs.Faults.{public}
use Rattle.pc_config.specs.Config.{IsFront, IsBack, config_of, configured_of, or_not_toml, settings_from}

text_of : List ℕ → Bool → Option Members
text_of bytes utf8 = cond utf8 (parse_document bytes) None

-- a text that is a document
pub config_of-read : (bytes : List ℕ) (ms : Members) → IsUtf8 bytes → parse_document bytes ≡ Some ms → config_of bytes ≡ configured_of ms
unfolding config_of
config_of-read bytes ms utf8 parsed = rw (is_utf8-from_IsUtf8 bytes utf8, parsed) refl

not_document : (bytes : List ℕ) (b : Bool) → (b ≡ true → parse_document bytes ≡ None) → cond b (parse_document bytes) None ≡ None
not_document bytes true h = h refl
not_document bytes false h = refl

-- a text that is none
pub config_of-not : (bytes : List ℕ) → (IsUtf8 bytes → parse_document bytes ≡ None) → config_of bytes ≡ Err NotToml
unfolding config_of
config_of-not bytes h = ap or_not_toml (not_document bytes (is_utf8 bytes) (λ e. h (IsUtf8-from_is_utf8 bytes e)))

-- ---- ranges

pub range_fault-in : (field : SetupField) (v : ℕ) → (range_of field).0 ≤ v → v ≤ (range_of field).1 → range_fault field v ≡ None
range_fault-in field v low high = rw (le-leb (range_of field).0 v low, le-leb v (range_of field).1 high) refl

pub ok_public : {A : Type 0} (P : A → Type 0) (r : Result A KeyFault) (x : A) → public r ≡ Ok x → IfOk r P → P x
ok_public P (Ok y) x e h =
    let same : y ≡ x = cc in
    subst P same h
ok_public P (Err fault) x e h = absurd cc

pub settings_fault-in : (front : FrontKeys) (delays : List ℕ) (back : BackKeys) (fails : List FailRule) (starts : List Start) → IsFront front → IsBack back → delays_fault delays ≡ None → rules_fault fails ≡ None → starts_fault starts ≡ None → settings_fault (settings_from front delays back fails starts) ≡ None
unfolding settings_fault
settings_fault-in front delays back fails starts f b d r s =
    rw (
      le-leb 0 front.map_limit (omega arith),
      le-leb front.map_limit 4096 f.map_limit_most,
      le-leb 1 front.press_percent f.press_percent_least,
      le-leb front.press_percent 100 f.press_percent_most,
      le-leb 1 back.give_up b.give_up_least,
      le-leb back.give_up 1000000 b.give_up_most,
      le-leb 1 back.buffer b.buffer_least,
      le-leb back.buffer 1000000 b.buffer_most,
      le-leb 1 back.poll_max b.poll_max_least,
      le-leb back.poll_max 1000000 b.poll_max_most,
      le-leb 1 back.commit_every b.commit_every_least,
      le-leb back.commit_every 1000000 b.commit_every_most,
      d,
      r,
      s,
    ) refl
