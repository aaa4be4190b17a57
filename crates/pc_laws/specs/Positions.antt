-- That the positions of a part never go down.
use Rattle.std.specs.Prelude.{ℕ, ◌≡◌, ◌≤◌, true, List, [], ◌∷◌}
use Rattle.pc_model.specs.declared.commit.Commit.{Commit}
use Rattle.pc_model.specs.declared.event.Event.{Event}
use Rattle.pc_model.specs.declared.event.Event.TheVariants.{Assign, Commit as Committed}
use Rattle.pc_model.specs.Given.{Given}
use Rattle.pc_model.specs.Epochs.{is_held}
use Rattle.pc_model.specs.Stored.{may_store}
use Rattle.pc_model.specs.Known.{position_of}
use Rattle.pc_laws.specs.Lists.{In}

-- no commit of the part that was stored has a position above this one
abbrev pub CommitsUpTo : List Event → ℕ → ℕ → Type 0
CommitsUpTo [] p position = Unit {0}
CommitsUpTo (Committed q x text size ∷ h) p position =
    (q ≡ p → x ≤ position) × CommitsUpTo h p position
CommitsUpTo (v ∷ h) p position = CommitsUpTo h p position

-- this event, if it is an assignment or a stored commit, does not begin below an earlier commit of
-- its part
abbrev pub RisesAt : Event → List Event → Type 0
RisesAt (Assign p epoch position text) h = CommitsUpTo h p position
RisesAt (Committed p position text size) h = CommitsUpTo h p position
RisesAt _ h = Unit {0}

-- the positions of each part's stored commits never go down, and no assignment begins below an
-- earlier commit
abbrev pub PositionsRise : List Event → Type 0
PositionsRise [] = Unit {0}
PositionsRise (v ∷ h) = RisesAt v h × PositionsRise h

-- the position of the first of some commits
abbrev pub first_position : List Commit → ℕ
first_position [] = 0
first_position (c ∷ cs) = c.position

-- the first commit that may be stored for a part is not above the others, nor are the stored
-- commits above it; and while the part is held none is above its position
pub record IsInOrder (given : Given) (h : List Event) (p : ℕ) : Type 0 where
  pub first : (c : Commit) → In c (may_store given h p) → first_position
      (may_store given h p) ≤ c.position
  pub within : (c : Commit) → is_held h p ≡ true → In c (may_store given h p) →
      c.position ≤ position_of given h p
  pub commits : CommitsUpTo h p (first_position (may_store given h p))
  pub some : (c : Commit) × In c (may_store given h p) ×
      (first_position (may_store given h p) ≡ c.position)
