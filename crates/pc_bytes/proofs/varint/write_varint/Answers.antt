use Rattle.std.proofs.Common.{ℕ, ◌^◌, ◌≡◌, ◌++◌, ◌∙◌, ap, subst, rules}
use Rattle.std.specs.Prelude.{OnOk}
use Rattle.std.proofs.lemmas.Int.{to_z-of_z}
use mir.Val.{SFits}
use mir.Syntax.{w32, w64}
use Rattle.pc_bytes.specs.Varint.{zigzag_of, shortest_of, groups_of}
use Rattle.pc_bytes.proofs.VarintLaws.{IsVarint-shortest_of, shortest_of-least, varint_at-again, zigzag_of-lt_32}
use Rattle.pc_bytes.proofs.varint.write_varint.Goals as goal

pub returns-clause-ok : goal.returns-clause-ok
unfolding shortest_of
returns-clause-ok c =
    let kept : c.from.result ≡ c.args.n = c.from.ensures ∙ to_z-of_z w32 c.args.n c.ranges.n in
    let fits : SFits w64 c.from.result = search rules in
    let z : c.zigzag.result ≡ zigzag_of c.args.n = c.zigzag.ensures ∙ ap zigzag_of (to_z-of_z w64 c.from.result fits ∙ kept) in
    subst (λ (u : ℕ). OnOk c.put_groups.result (c.put_groups.new.out.items ≡ c.args.out.now.items ++ groups_of 9 u)) z c.put_groups.ensures.ok

pub returns-clause-spells : goal.returns-clause-spells
returns-clause-spells c = IsVarint-shortest_of c.args.n (zigzag_of-lt_32 c.args.n c.ranges.n)

pub returns-clause-shortest : goal.returns-clause-shortest
returns-clause-shortest c other is = shortest_of-least 5 (2 ^ 32) other c.args.n is

pub returns-clause-read_again : goal.returns-clause-read_again
returns-clause-read_again c rest = varint_at-again (shortest_of c.args.n) rest c.args.n (IsVarint-shortest_of c.args.n (zigzag_of-lt_32 c.args.n c.ranges.n))
