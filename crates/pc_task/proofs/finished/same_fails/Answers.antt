-- Two rules are equal where their three numbers are.
use Rattle.std.proofs.Common.{◌≡◌, ℕ, Decides, ap, ◌∙◌}
use Rattle.std.proofs.lemmas.Bool.Decides.{Decides-and, Decides-eqb, Decides-like}
use Rattle.std.proofs.lemmas.Slice.Eq.{slice_eq-Decides}
use Rattle.pc_model.specs.contracts.outcome.FailRulePartialEq.TheImpl as rule_eq
use Rattle.pc_model.specs.declared.outcome.FailRule.{FailRule}
use Rattle.pc_task.proofs.finished.same_fails.Goals as goal

rule-is : (a b : FailRule) → a.part ≡ b.part → a.offset ≡ b.offset → a.times ≡ b.times → a ≡ b
rule-is a b part offset times =
    ap (λ (n : ℕ). record a { part = n }) part
    ∙ ap (λ (n : ℕ). record a { part = b.part; offset = n }) offset
    ∙ ap (λ (n : ℕ). record b { times = n }) times

eq-Decides : (a b : FailRule) → Decides (rule_eq.eq-value.it a b) (a ≡ b)
eq-Decides a b = Decides-like (rule_eq.eq-value.it a b) (λ p. rule-is a b p.0 p.1.0 p.1.1)
    (λ e. (
      ap (λ (r : FailRule). r.part) e,
      (ap (λ (r : FailRule). r.offset) e, ap (λ (r : FailRule). r.times) e),
    ))
    (Decides-and _ _ (Decides-eqb a.part b.part)
    (Decides-and _ _ (Decides-eqb a.offset b.offset) (Decides-eqb a.times b.times)))

pub returns : goal.returns
returns c = slice_eq-Decides eq-Decides c.args.one.now c.args.other.now c.eq.result c.eq.ensures
