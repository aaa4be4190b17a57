-- The epochs of a history, and how a part's assignment and end are answered.
use Rattle.std.specs.Prelude.{ℕ, ◌+◌, ◌-◌, ◌^◌, ◌≡◌, ◌<◌, not, nat_lt, if◌then◌else◌, List, length, Option, Some, None, Result, Ok, Err, slice_index_or}
use Rattle.std.specs.List.{All}
use Rattle.pc_model.specs.declared.event.Event.{Event}
use Rattle.pc_model.specs.Epochs.{epoch_of, is_held}
use Rattle.pc_assignment.specs.declared.epochs.PartEpoch.{PartEpoch}
use Rattle.pc_assignment.specs.declared.fault.EpochFault.{EpochFault}
use Rattle.pc_assignment.specs.declared.fault.EpochFault.TheVariants.{UnknownPart, AlreadyHeld, NotHeld}

-- the epochs are those of the history: each part has its epoch, and is held where it is
pub record AreEpochs (h : List Event) (epochs : List PartEpoch) : Type 0 where
  pub each : (p : ℕ) (d : PartEpoch) → p < length epochs → slice_index_or epochs p d ≡ record
      { epoch = epoch_of h p; is_held = is_held h p }

-- one more event has a number for every epoch
pub record AreSmall (epochs : List PartEpoch) : Type 0 where
  pub each : All (λ part. part.epoch < 2 ^ 64 - 1) epochs

-- this of a part that is one of this many, and None of another
abbrev pub of_part : {X : Type 0} → ℕ → ℕ → X → Option X
of_part parts p x = if nat_lt p parts then Some x else None

-- an assignment's epoch, or why it does not begin
abbrev pub assign_answer : ℕ → List Event → ℕ → Result ℕ EpochFault
assign_answer parts h p = if not (nat_lt p parts) then Err UnknownPart
    else if is_held h p then Err AlreadyHeld else Ok (epoch_of h p + 1)

-- the epoch that a revocation or a loss ends, or why it does not end
abbrev pub drop_answer : ℕ → List Event → ℕ → Result ℕ EpochFault
drop_answer parts h p = if not (nat_lt p parts) then Err UnknownPart
    else if not (is_held h p) then Err NotHeld else Ok (epoch_of h p)
