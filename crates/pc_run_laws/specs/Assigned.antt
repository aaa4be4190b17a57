-- The first assignment of a part.
use Rattle.std.specs.Prelude.{ℕ, List, [], ◌∷◌, Option, None}
use Rattle.std.specs.Option.{option_or}
use Rattle.pc_model.specs.declared.event.Event.{Event}
use Rattle.pc_model.specs.declared.commit.Commit.{Commit}
use Rattle.pc_model.specs.Known.{assigned_by}

-- the commit of the part's first assignment, if there was one
abbrev pub first_assigned : List Event → ℕ → Option Commit
first_assigned [] p = None
first_assigned (e ∷ h) p = option_or (first_assigned h p) (assigned_by e p)
