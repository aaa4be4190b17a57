-- Lemmas on the ranges of a setup.
use Rattle.std.proofs.Common.{◌≡◌, ℕ, ◌+◌, ◌<◌, ◌==◌, [], List, take, drop, length, get_or, Some, true, false, add-one, ◌∙◌}
use Rattle.std.specs.Prelude.{if◌then◌else◌}
use Rattle.std.specs.List.{list_any}
use Rattle.std.proofs.Math.Seq.{drop-cons, take-suc}
use Rattle.pc_model.specs.declared.outcome.Start.{Start}
use Rattle.pc_model.specs.declared.setup.SetupFault.TheVariants.{PartTwice}
use Rattle.pc_model.specs.Ranges.{twice_fault}

-- one start more is looked at
twice_fault-step : (starts : List Start) (i : ℕ) (d : Start) → i < length starts →
    twice_fault (take i starts) (drop i starts)
    ≡ (if list_any (λ t. t.part == (get_or starts i d).part) (take i starts) then Some
    (PartTwice (get_or starts i d).part)
    else twice_fault (take (i + 1) starts) (drop (i + 1) starts))
twice_fault-step starts i d h = rw (drop-cons starts i d h, add-one, take-suc starts i d h)

-- the start at i has the part of an earlier one, and none before it has
pub twice_fault-found : (starts : List Start) (i : ℕ) (s : Start) → i < length starts → s
    ≡ get_or starts i s →
    list_any (λ t. t.part == s.part) (take i starts) ≡ true → twice_fault [] starts ≡ twice_fault
    (take i starts) (drop i starts) →
    twice_fault [] starts ≡ Some (PartTwice s.part)
twice_fault-found starts i s h is found before =
    before ∙ rw (twice_fault-step starts i s h, ← is, found)

-- the start at i has the part of no earlier one
pub twice_fault-passed : (starts : List Start) (i : ℕ) (s : Start) → i < length starts → s
    ≡ get_or starts i s →
    list_any (λ t. t.part == s.part) (take i starts) ≡ false → twice_fault [] starts ≡ twice_fault
    (take i starts) (drop i starts) →
    twice_fault [] starts ≡ twice_fault (take (i + 1) starts) (drop (i + 1) starts)
twice_fault-passed starts i s h is free before =
    before ∙ rw (twice_fault-step starts i s h, ← is, free)
