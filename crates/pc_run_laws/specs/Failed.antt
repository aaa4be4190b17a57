-- What makes a commit fail: the broker refuses it, or the link's count of faults rises.
use Rattle.std.specs.Prelude.{ℕ, ◌+◌, ◌≡◌, ◌≤◌, ⊤, Bool, true, false, not, if◌then◌else◌, List, [], ◌∷◌}
use Rattle.pc_model.specs.declared.event.Event.{Event}
use Rattle.pc_model.specs.declared.event.Event.TheVariants.{CommitFailed}
use Rattle.pc_model.specs.declared.commit.Commit.{Commit}
use Rattle.pc_world.specs.World.{HasRisen}

-- whether the event is a failed commit that the broker does not refuse
abbrev pub is_unrefused : (ℕ → Commit → Bool) → Event → Bool
is_unrefused refuses (CommitFailed p position text size) = not
    (refuses p (record { position = position; map = text }))
is_unrefused refuses _ = false

-- how many there are
abbrev pub unrefused_commits : (ℕ → Commit → Bool) → List Event → ℕ
unrefused_commits refuses [] = 0
unrefused_commits refuses (e ∷ h) = if is_unrefused refuses e then unrefused_commits refuses h + 1
    else unrefused_commits refuses h

-- the last of these counts, or that of the start
abbrev pub last_count : ℕ → List ℕ → ℕ
last_count start [] = start
last_count start (n ∷ counts) = n

-- The link's count of faults after each event, the newest first: it never falls, and rises where a
-- commit failed that the broker does not refuse.
abbrev pub AreCaused : (ℕ → Commit → Bool) → ℕ → List Event → List ℕ → Type 0
AreCaused refuses start [] [] = ⊤
AreCaused refuses start (e ∷ h) (n ∷ counts) = (last_count start counts ≤ n)
    × (is_unrefused refuses e ≡ true → HasRisen (last_count start counts) n)
    × AreCaused refuses start h counts
AreCaused refuses start [] (n ∷ counts) = ⊥
AreCaused refuses start (e ∷ h) [] = ⊥
