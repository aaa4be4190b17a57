-- The epochs of a part, and which jobs belong to the present one.
use Rattle.std.specs.Prelude.{ℕ, ◌+◌, Bool, true, false, ◌&&◌, ◌==◌, if◌then◌else◌, List, [], ◌∷◌}
use Rattle.std.specs.Option.{option_map_or}
use Rattle.pc_model.specs.declared.event.Event.{Event}
use Rattle.pc_model.specs.declared.event.Event.TheVariants.{Assign, Revoke, Lost, Crash}
use Rattle.pc_model.specs.Jobs.{Job, job_of}

-- whether this event begins or ends an epoch of the part
abbrev pub moves : Event → ℕ → Bool
moves (Assign p e position text) q = p == q
moves (Revoke p e) q = p == q
moves (Lost p e) q = p == q
moves Crash q = true
moves _ q = false

-- whether this event is an assignment, of whichever part
abbrev pub is_assign : Event → Bool
is_assign (Assign p e position text) = true
is_assign _ = false

-- the part's epoch: how many of its assignments, revocations and losses and of all crashes there
-- were
abbrev pub epoch_of : List Event → ℕ → ℕ
epoch_of [] p = 0
epoch_of (e ∷ h) p = if moves e p then epoch_of h p + 1 else epoch_of h p

-- whether the last of these events is an assignment
abbrev pub is_held : List Event → ℕ → Bool
is_held [] p = false
is_held (e ∷ h) p = if moves e p then is_assign e else is_held h p

-- whether the job's part is held, in the job's epoch
abbrev pub is_current : List Event → Job → Bool
is_current h j = is_held h j.part && (j.epoch == epoch_of h j.part)

-- the same of a ticket, and no where it was not dispatched
abbrev pub is_current_ticket : List Event → ℕ → Bool
is_current_ticket h t = option_map_or (is_current h) (job_of h t) false
