-- Without bits, without a text, with a text that is too long, and with one that is not.
use Rattle.std.proofs.Common.{sym, ap, ◌∙◌}
use Rattle.pc_model.specs.Marks.{bits_at}
use Rattle.pc_choice.proofs.ChoiceLemmas.{best_map-long, best_map-none}
use Rattle.pc_partition.specs.declared.lengths.Lengths.{Lengths}
use Rattle.pc_commit.proofs.CommitLemmas.{best-none, commit-is, lengths-none, lengths-some, map-some, text-some}
use Rattle.pc_commit.proofs.commit.commit_of.Goals as goal

pub returns-in_default-clause-commit : goal.returns-in_default-clause-commit
returns-in_default-clause-commit c = λ begin n marks is.
    let none = lengths-none (bits_at begin marks) (c.in_default.ensures begin n marks is) in
    commit-is c.without_map.result c.args.limit begin marks _ (best-none (bits_at begin marks) c.args.limit none)
    (c.without_map.ensures.position ∙ c.position-position.ensures.position begin n marks is)
    c.without_map.ensures.map c.without_map.ensures.size

pub returns-in-None-clause-commit : goal.returns-in-None-clause-commit
returns-in-None-clause-commit c = λ begin n marks is.
    let some = lengths-some (bits_at begin marks) c.in-Some.lengths (c.in-Some.ensures begin n marks is) in
    let best = c.in-None.ensures (bits_at begin marks) (ap (λ (l : Lengths). l.bitset) some.0) (ap (λ (l : Lengths). l.runlength) some.0)
    (ap (λ (l : Lengths). l.bitset2) some.0) (ap (λ (l : Lengths). l.runlength2) some.0) in
    commit-is c.without_map-in-None.result c.args.limit begin marks _ (best_map-none (bits_at begin marks) c.args.limit some.1 best)
    (c.without_map-in-None.ensures.position ∙ c.position-position.ensures.position begin n marks is)
    c.without_map-in-None.ensures.map c.without_map-in-None.ensures.size

pub returns-in-Some-shortest-clause-commit : goal.returns-in-Some-shortest-clause-commit
returns-in-Some-shortest-clause-commit c = λ begin n marks is.
    let some = lengths-some (bits_at begin marks) c.in-Some.lengths (c.in-Some.ensures begin n marks is) in
    let best = c.in-Some-shortest.ensures (bits_at begin marks) (ap (λ (l : Lengths). l.bitset) some.0) (ap (λ (l : Lengths). l.runlength) some.0)
    (ap (λ (l : Lengths). l.bitset2) some.0) (ap (λ (l : Lengths). l.runlength2) some.0) in
    commit-is c.without_map-in-Some-shortest.result c.args.limit begin marks _
    (best_map-long (bits_at begin marks) c.args.limit _ _ some.1 best c.if-size-limit.true)
    (c.without_map-in-Some-shortest.ensures.position ∙ c.position-position.ensures.position begin n marks is)
    c.without_map-in-Some-shortest.ensures.map c.without_map-in-Some-shortest.ensures.size

pub returns-in-Some-2-clause-without_memory : goal.returns-in-Some-2-clause-without_memory
returns-in-Some-2-clause-without_memory c = λ begin n marks is empty.
    let some = lengths-some (bits_at begin marks) c.in-Some.lengths (c.in-Some.ensures begin n marks is) in
    let best = c.in-Some-shortest.ensures (bits_at begin marks) (ap (λ (l : Lengths). l.bitset) some.0) (ap (λ (l : Lengths). l.runlength) some.0)
    (ap (λ (l : Lengths). l.bitset2) some.0) (ap (λ (l : Lengths). l.runlength2) some.0) in
    absurd (text-some (bits_at begin marks) c.args.limit _ _ some.1 best c.if-size-limit.false
    (sym (map-some c.args.limit begin marks) ∙ empty))
