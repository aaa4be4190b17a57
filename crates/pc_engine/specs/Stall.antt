-- That no held part stands still while work is left.
use Rattle.std.specs.Prelude.{ℕ, ◌≡◌, ◌⊎◌, true, false, List, []}
use Rattle.pc_model.specs.declared.event.Event.{Event}
use Rattle.pc_model.specs.Given.{Given}
use Rattle.pc_model.specs.Jobs.{is_draining}
use Rattle.pc_model.specs.Epochs.{is_held}
use Rattle.pc_model.specs.Known.{unpolled_records}
use Rattle.pc_laws.specs.Stall.{GoesOn, HasWork}

-- the part goes on, unless the run drains before all of its records were polled
abbrev pub GoesOnUnlessDrained : Given → List Event → ℕ → Type 0
GoesOnUnlessDrained given h p = (is_draining h ≡ false) ⊎ (unpolled_records given h p ≡ [])
    → GoesOn given h p

-- so does each held part with a record left
abbrev pub NoneStalls : Given → List Event → Type 0
NoneStalls given h = (p : ℕ) → is_held h p ≡ true → HasWork given h p → GoesOnUnlessDrained given h p
