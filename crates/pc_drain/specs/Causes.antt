-- That failed commits keep their causes through a call.
use Rattle.std.specs.Prelude.{ℕ, ◌≡◌, ◌≤◌, Bool, not, List}
use Rattle.std.specs.Ordering.{int_eq}
use Rattle.pc_model.specs.declared.api.TheConstants.{NO_ERROR}
use Rattle.pc_model.specs.declared.commit.Commit.{Commit}
use Rattle.pc_model.specs.declared.event.Event.{Event}
use Rattle.pc_model.specs.Broker.{Broker}
use Rattle.pc_offset_client.specs.Client.{commit_code}
use Rattle.pc_engine.specs.Stand.{Stand}
use Rattle.pc_run_laws.specs.Failed.{AreCaused, last_count}

-- whether the broker refuses the client's commit of the part
abbrev pub is_refused : Broker → ℕ → Commit → Bool
is_refused store p c = not (int_eq (commit_code store p c) NO_ERROR)

-- the failed commits have their causes, by some counts of the link's faults up to this one
pub record HaveCauses (refuses : ℕ → Commit → Bool) (start : ℕ) (h : List Event) (faults : ℕ)
    : Type 0 where
  pub counts : List ℕ
  pub caused : AreCaused refuses start h counts
  pub last : last_count start counts ≤ faults

-- they have them after a call too, whatever broker refuses what the link's refuses
abbrev pub KeepsCauses : Stand → Stand → Type 0
KeepsCauses before after = (refuses : ℕ → Commit → Bool) (start : ℕ)
    → ((p : ℕ) (c : Commit) → refuses p c ≡ is_refused before.store p c)
    → HaveCauses refuses start before.history before.faults
    → HaveCauses refuses start after.history after.faults
