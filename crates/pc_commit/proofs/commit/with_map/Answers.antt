-- The chosen map is the best.
use Rattle.std.proofs.Common.{ℕ, List, Bool, ◌≤◌, length, sym, ap, subst, ◌∙◌}
use Rattle.pc_model.specs.BestMap.{best_map}
use Rattle.pc_model.specs.Marks.{bits_at}
use Rattle.pc_commit.proofs.CommitLemmas.{best-none, best_map-short, bits-none, bits-some, commit-is}
use Rattle.pc_commit.proofs.commit.with_map.Goals as goal

pub returns-in_default-clause-commit : goal.returns-in_default-clause-commit
returns-in_default-clause-commit c = λ begin n marks is.
    let none = bits-none (bits_at begin marks) (sym (sym (c.in_ok-bits.ensures begin n marks is) ∙ c.in_default.is)) in
    commit-is c.without_map.result c.args.limit begin marks _ (best-none (bits_at begin marks) c.args.limit none)
    (c.without_map.ensures.position ∙ c.position-position.ensures.position begin n marks is)
    c.without_map.ensures.map c.without_map.ensures.size

pub returns-clause-commit : goal.returns-clause-commit
returns-clause-commit c = λ begin n marks is.
    let same = (bits-some (bits_at begin marks) c.in-Some.bits (sym c.in-Some.is ∙ c.in_ok-bits.ensures begin n marks is)).0 in
    commit-is _ c.args.limit begin marks (best_map c.in-Some.bits c.args.limit) (ap (λ (bits : List Bool). best_map bits c.args.limit) same)
    (c.position-position.ensures.position begin n marks is) c.in_ok-choice.ensures.text c.in_ok-choice.ensures.size

pub returns-clause-map : goal.returns-clause-map
returns-clause-map c = subst (λ (text : List ℕ). length text ≤ c.args.limit) (sym c.in_ok-choice.ensures.text)
    (best_map-short c.in-Some.bits c.args.limit)
