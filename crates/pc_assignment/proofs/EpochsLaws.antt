-- Which epochs stay, and how large they are.
use Rattle.std.proofs.Common.{◌≡◌, ℕ, ◌+◌, ◌-◌, ◌^◌, ◌≤◌, ◌<◌, Bool, true, false, cond, List, [], ◌∷◌, length, ap, arith}
use Rattle.pc_model.specs.declared.event.Event.{Event}
use Rattle.pc_model.specs.Epochs.{moves, epoch_of}
use Rattle.pc_assignment.specs.declared.epochs.PartEpoch.{PartEpoch}
use Rattle.pc_assignment.specs.Epochs.{AreEpochs, AreSmall}

-- an event that begins or ends no epoch leaves them those of the history
AreEpochs-stay : (v : Event) (h : List Event) (epochs : List PartEpoch) → ((p : ℕ) → moves v p ≡ false)
    → AreEpochs h epochs → AreEpochs (v ∷ h) epochs
AreEpochs-stay v h epochs still are = record {
  each = λ p d below. rw still (are.each p d below);
}

one_more : (moved : Bool) (epoch events : ℕ) → epoch ≤ events
    → cond moved (epoch + 1) epoch ≤ events + 1
one_more true epoch events h = omega arith
one_more false epoch events h = omega arith

-- an epoch is at most the number of events
pub epoch_of-le : (h : List Event) (p : ℕ) → epoch_of h p ≤ length h
epoch_of-le [] p = omega arith
epoch_of-le (v ∷ h) p = let e = one_more (moves v p) (epoch_of h p) (length h) (epoch_of-le h p) in omega (arith, e)

-- after so few events one more has a number for every epoch
pub AreSmall-few : (h : List Event) (epochs : List PartEpoch) → length h < 2 ^ 64 - 1 → AreEpochs h epochs
    → AreSmall epochs
AreSmall-few h epochs few are = record {
  each = λ p d below. let same = ap (λ (x : PartEpoch). x.epoch) (are.each p d below) in
      let le = epoch_of-le h p in omega (arith, same, le);
}
