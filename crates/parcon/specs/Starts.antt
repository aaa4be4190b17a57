-- The starting commits: what sending them over a link comes to.
use Rattle.std.specs.Prelude.{ℕ, ◌≡◌, ◌≤◌, ◌<◌, ◌^◌, ◌⊎◌, Bool, List, [], ◌∷◌, length, take, Result, Ok, Err}
use Rattle.pc_model.specs.declared.commit.Commit.{Commit as StoredCommit}
use Rattle.pc_model.specs.declared.outcome.Start.{Start}
use Rattle.pc_offset_client.specs.declared.fault.ClientFault.{ClientFault}
use Rattle.pc_offset_client.specs.declared.fault.ClientFault.TheVariants.{NoMemory as Forgot}
use Rattle.pc_engine.specs.Effect.{IsStored}
use Rattle.pc_inputs.specs.declared.status.Status.{Status}
use Rattle.pc_inputs.specs.declared.status.Status.TheVariants.{NoMemory}
use Rattle.pc_play.specs.Play.{IsAborted, Moment}

-- what the client answered to a commit
abbrev pub Sent : Type 0
Sent = Result (Unit {0}) ClientFault

-- the commit of a start
abbrev pub commit_at : Start → StoredCommit
commit_at s = record { position = s.position; map = s.map }

-- A start was sent: over a link that tells its store it was stored or not as the broker's step says.
-- The link failed only where its count of faults rose.
pub record SendsStart (told : Bool) (s : Start) (before after : Moment) (answer : Sent) : Type 0 where
  pub stored : IsStored told before.store after.store before.faults after.faults s.part
      (commit_at s) answer
  pub later : before.faults ≤ after.faults
  pub answered : answer ≡ Err Forgot → ⊥

-- the starts were sent in their order, all of them or up to the first that was not stored
abbrev pub SendsStarts : Bool → List Start → Moment → Moment → Sent → Type 0
SendsStarts told [] before after answer = (answer ≡ Ok tt) × (after ≡ before)
SendsStarts told (s ∷ starts) before after answer =
    ((fault : ClientFault) × (answer ≡ Err fault) × SendsStart told s before after (Err fault))
    ⊎ ((next : Moment) × SendsStart told s before next (Ok tt)
    × SendsStarts told starts next after answer)

-- How the sending of the starts ended. Each was sent, up to the first that was not stored, unless
-- memory ran out; then the first of them were, and a told store is as these left it.
pub record Begins (told : Bool) (starts : List Start) (before after : Moment) (answer : Sent)
    (status : Status) : Type 0 where
  -- how many of the starts were to be sent, and the link after the last that was sent
  pub count : ℕ
  pub last : Moment
  pub sends : SendsStarts told (take count starts) before last answer
  pub all : (status ≡ NoMemory → ⊥) → take count starts ≡ starts
  pub end : (status ≡ NoMemory → ⊥) → after ≡ last
  pub stopped : IsAborted told last after

-- ---- what the code keeps to

-- a start that a frame holds
pub record IsSendable (s : Start) : Type 0 where
  pub part : s.part < 2 ^ 31
  pub position : s.position < 2 ^ 63
  pub map : length s.map < 2 ^ 15

-- memory ran out: the first of the starts were sent
pub record Breaks (told : Bool) (starts : List Start) (before after : Moment) : Type 0 where
  pub count : ℕ
  pub last : Moment
  pub sends : SendsStarts told (take count starts) before last (Ok tt)
  pub stopped : IsAborted told last after

-- the starts were sent with this answer, which says when memory ran out
abbrev pub Sends : Bool → List Start → Moment → Moment → Sent → Type 0
Sends told starts before after (Err Forgot) = Breaks told starts before after
Sends told starts before after answer = SendsStarts told starts before after answer
