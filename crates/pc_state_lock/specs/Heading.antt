-- What a locked value is worth that no turn changes.
use Rattle.std.specs.Prelude.{ℕ, List}
use Rattle.pc_model.specs.declared.step.Step.{Step}
use Rattle.pc_model.specs.Given.{Given}
use Rattle.pc_model.specs.Broker.{Broker}

pub record Heading : Type 0 where
  -- the setup, the records of the logs, the start, and whether the link tells its store
  pub given : Given
  -- what a told store of the link holds at the start, with what is beside the start
  pub store : Broker
  -- the steps by which the parts move
  pub steps : List Step
  -- how many workers there are
  pub workers : ℕ
  -- how many faults the link had counted at the start
  pub faults : ℕ
