-- What is kept of the parts while a journal is read from its first event on.
use Rattle.std.specs.Prelude.{ℕ, ◌≡◌, ◌≤◌, ◌<◌, ◌==◌, Bool, false, List, length, Option, IfSome, slice_index_or}
use Rattle.std.specs.Option.{option_map, option_map_or}
use Rattle.pc_model.specs.declared.commit.Commit.{Commit}
use Rattle.pc_model.specs.declared.event.Event.{Event}
use Rattle.pc_model.specs.Epochs.{is_held}
use Rattle.pc_print.specs.declared.held_parts.First.{First}
use Rattle.pc_print.specs.declared.held_parts.Assigned.{Assigned}
use Rattle.pc_print.specs.Summary.{first_assigned}

-- a first assignment as a commit
abbrev pub plain_first : First → Commit
plain_first first = record { position = first.position; map = first.map.now }

-- what is kept: of each part that was assigned its assignments, and how many crashes there were
pub record PartsView : Type 0 where
  pub parts : List (Option Assigned)
  pub crashes : ℕ

-- whether the part is held after this many crashes
abbrev pub is_held_after : ℕ → Option Assigned → Bool
is_held_after crashes part = option_map_or (λ a. option_map_or (λ n. n == crashes) a.after false)
    part false

-- of a part this is kept after a history with this many crashes
pub record IsKept (h : List Event) (p crashes : ℕ) (part : Option Assigned) : Type 0 where
  pub first : first_assigned h p ≡ option_map (λ a. plain_first a.first) part
  pub held : is_held h p ≡ is_held_after crashes part
  pub past : IfSome part (λ a. IfSome a.after (λ n. n ≤ crashes))

-- this is kept after a history
pub record AreKept (h : List Event) (kept : PartsView) : Type 0 where
  pub each : (p : ℕ) (d : Option Assigned) → p < length kept.parts
      → IsKept h p kept.crashes (slice_index_or kept.parts p d)
