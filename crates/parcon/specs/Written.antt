-- What stands in a sink after it was written.
use Rattle.std.specs.Prelude.{ℕ, ◌≡◌, ◌⊎◌, List, ◌++◌, Option, option_map, Result, Ok, Err}
use Rattle.pc_world.specs.World.{HasRisen}
use Rattle.pc_inputs.specs.declared.status.Status.{Status}
use Rattle.pc_inputs.specs.declared.status.Status.TheVariants.{SinkFault, NoMemory}
use Rattle.parcon.specs.declared.output.OutputFault.{OutputFault}
use Rattle.parcon.specs.declared.output.OutputFault.TheVariants as output

-- what a sink tells once the bytes stand behind what stood in it
abbrev pub with_bytes : Option (List ℕ) → List ℕ → Option (List ℕ)
with_bytes told bytes = option_map (λ w. w ++ bytes) told

-- the first bytes of a text stand behind what stood in a sink
pub record HasFront (before after : Option (List ℕ)) (text : List ℕ) : Type 0 where
  pub front : List ℕ
  pub rest : List ℕ
  pub whole : front ++ rest ≡ text
  pub appended : after ≡ with_bytes before front

-- a text that is on its way into a sink: its first bytes stand there, and the rest in a buffer
pub record IsOnItsWay (before now : Option (List ℕ)) (buffer text : List ℕ) : Type 0 where
  pub front : List ℕ
  pub whole : front ++ buffer ≡ text
  pub appended : now ≡ with_bytes before front

-- A text that was to be written with a status: it stands there whole, the status is that one and no
-- write failed; or its first bytes do, a write having failed or memory having run out.
pub record IsWritten (before after : Option (List ℕ)) (faults_before faults_after : ℕ)
    (text : List ℕ) (wanted given : Status) : Type 0 where
  pub status : ((given ≡ wanted) × (faults_after ≡ faults_before))
      ⊎ ((given ≡ SinkFault) × HasRisen faults_before faults_after)
      ⊎ (given ≡ NoMemory)
  pub front : HasFront before after text
  pub whole : given ≡ wanted → after ≡ with_bytes before text

-- the status that was wanted, or that of the fault which kept the output from being whole
abbrev pub status_after : Status → Result (Unit {0}) OutputFault → Status
status_after wanted (Ok done) = wanted
status_after wanted (Err output.SinkFailed) = SinkFault
status_after wanted (Err output.NoMemory) = NoMemory
