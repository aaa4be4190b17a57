-- What one more event changes of a part's epoch and of whether it is held.
use Rattle.std.proofs.Common.{◌≡◌, ℕ, ◌+◌, true, false, List, ◌∷◌, refl}
use Rattle.pc_model.specs.declared.event.Event.{Event}
use Rattle.pc_model.specs.declared.event.Event.TheVariants.{Assign, Revoke, Lost, Crash}
use Rattle.pc_model.specs.Epochs.{epoch_of, is_held}
use Rattle.pc_model.proofs.ListLemmas.{same_number}

module _ (h : List Event) (p epoch : ℕ) where
  pub epoch_of-assign : (position : ℕ) (text : List ℕ) → epoch_of
      (Assign p epoch position text ∷ h) p ≡ epoch_of h p + 1
  epoch_of-assign position text = simp (same_number p)

  pub is_held-assign : (position : ℕ) (text : List ℕ) → is_held (Assign p epoch position text ∷ h) p
      ≡ true
  is_held-assign position text = simp (same_number p)

  pub epoch_of-revoke : epoch_of (Revoke p epoch ∷ h) p ≡ epoch_of h p + 1
  epoch_of-revoke = simp (same_number p)

  pub is_held-revoke : is_held (Revoke p epoch ∷ h) p ≡ false
  is_held-revoke = simp (same_number p)

  pub epoch_of-lost : epoch_of (Lost p epoch ∷ h) p ≡ epoch_of h p + 1
  epoch_of-lost = simp (same_number p)

  pub is_held-lost : is_held (Lost p epoch ∷ h) p ≡ false
  is_held-lost = simp (same_number p)

-- a crash ends every part's epoch
epoch_of-crash : (h : List Event) (p : ℕ) → epoch_of (Crash ∷ h) p ≡ epoch_of h p + 1
epoch_of-crash h p = refl

is_held-crash : (h : List Event) (p : ℕ) → is_held (Crash ∷ h) p ≡ false
is_held-crash h p = refl
