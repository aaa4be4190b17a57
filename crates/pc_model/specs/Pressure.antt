-- Pressure: a part whose last commit had a map near or past the limit is blocked until a smaller
-- one.
use Rattle.std.specs.Prelude.{ℕ, Bool, false, ◌==◌, nat_lt, nat_le, if◌then◌else◌, List, [], ◌∷◌, Option, Some, None, is_some}
use Rattle.std.specs.Option.{option_map_or, option_or}
use Rattle.pc_model.specs.declared.event.Event.{Event}
use Rattle.pc_model.specs.declared.event.Event.TheVariants.{Commit as Committed, CommitFailed}
use Rattle.pc_model.specs.BestMap.{is_pressed}
use Rattle.pc_model.specs.Given.{Given}
use Rattle.pc_model.specs.Known.{assigned_by, high_of}

-- the size of the commit that this event made of the part, or that failed
abbrev pub size_in : Event → ℕ → Option ℕ
size_in (Committed p position text size) q = if p == q then Some size else None
size_in (CommitFailed p position text size) q = if p == q then Some size else None
size_in _ q = None

-- the size of the part's last commit since its assignment, failed or not
abbrev pub last_size : List Event → ℕ → Option ℕ
last_size [] p = None
last_size (e ∷ h) p = if is_some (assigned_by e p) then None else option_or (size_in e p)
    (last_size h p)

-- whether that size takes more than its share of the limit
abbrev pub is_blocked : Given → List Event → ℕ → Bool
is_blocked given h p =
    option_map_or (λ size. is_pressed size given.setup.settings.map_limit given.setup.settings.press_percent)
    (last_size h p) false

-- whether the offset lies below the part's greatest complete one
abbrev pub is_below_high : Given → List Event → ℕ → ℕ → Bool
is_below_high given h p o = option_map_or (nat_lt o) (high_of given h p) false

-- whether the offset is that one or lies below it
abbrev pub is_upto_high : Given → List Event → ℕ → ℕ → Bool
is_upto_high given h p o = option_map_or (nat_le o) (high_of given h p) false
