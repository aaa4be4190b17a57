-- No held part stands still, and the part that is not done is one of them.
use Rattle.std.proofs.Common.{◌≡◌, ℕ, List, Option, Some, None, ap, sym, ◌∙◌}
use Rattle.std.specs.Prelude.{option_map}
use Rattle.std.specs.Option.{option_or}
use Rattle.pc_model.specs.declared.event.Event.{Event}
use Rattle.pc_model.specs.Given.{Given}
use Rattle.pc_model.specs.Known.{position_of}
use Rattle.pc_model.specs.Lawful.{IsLegal}
use Rattle.pc_laws.proofs.StallLaw.{goes_on}
use Rattle.pc_state.specs.declared.queries.Unfinished.{Unfinished}
use Rattle.pc_state.specs.declared.queries.Unfinished.TheVariants as state
use Rattle.pc_state.specs.Queries.{first_uncommitted, first_unfinished, unfinished_part}
use Rattle.pc_state.proofs.UnfinishedLemmas.{unfinished-held}
use Rattle.pc_engine.specs.declared.fault.EngineFault.{EngineFault}
use Rattle.pc_engine.specs.declared.fault.EngineFault.TheVariants.{NotDone}
use Rattle.pc_engine.specs.Fault.{unfinished_fault}
use Rattle.pc_engine.specs.Stall.{GoesOnUnlessDrained, NoneStalls}

-- the part and offset of what is not done
abbrev not_done_at : Option Unfinished → Option (ℕ × ℕ)
not_done_at (Some (state.NotDone p o)) = Some (p, o)
not_done_at _ = None

abbrev refused_at : EngineFault → Option (ℕ × ℕ)
refused_at (NotDone p o) = Some (p, o)
refused_at _ = None

module _ (given : Given) (h : List Event) (legal : IsLegal given h) where
  pub none-stalls : NoneStalls given h
  none-stalls p held work running = goes_on given h p legal held running work

  -- the part of a reason is the first that is unfinished
  first-of : (p o : ℕ) (first other : Option (ℕ × ℕ)) (reason : Unfinished)
      → Some reason ≡ option_or (option_map (λ it. state.NotDone it.0 it.1) first)
      (option_map (λ it. state.Uncommitted it.0 it.1 (position_of given h it.0)) other)
      → unfinished_fault reason ≡ NotDone p o → Some (p, o) ≡ first
  first-of p o (Some (q, u)) other (state.NotDone r v) is fault =
      sym (ap refused_at fault) ∙ ap not_done_at is
  first-of p o None (Some (q, u)) (state.NotDone r v) is fault = cc
  first-of p o None None (state.NotDone r v) is fault = cc
  first-of p o first other (state.Uncommitted r stored position) is fault = cc

  pub not_done-goes_on : (reason : Unfinished) (p o : ℕ) → Some reason ≡ unfinished_part given h
      → unfinished_fault reason ≡ NotDone p o → GoesOnUnlessDrained given h p
  not_done-goes_on reason p o is fault running =
      let found = unfinished-held given h p o (first-of p o (first_unfinished given h)
      (first_uncommitted given h) reason is fault) in
      goes_on given h p legal found.0 running found.1
