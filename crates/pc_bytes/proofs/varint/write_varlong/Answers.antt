use Rattle.std.proofs.Common.{ℕ, ◌^◌, ◌≡◌, ◌++◌, ◌∙◌, ap, subst}
use Rattle.std.specs.Prelude.{OnOk}
use Rattle.std.proofs.lemmas.Int.{to_z-of_z}
use mir.Syntax.{w64}
use Rattle.pc_bytes.specs.Varint.{zigzag_of, shortest_of, groups_of}
use Rattle.pc_bytes.proofs.VarintLaws.{IsVarlong-shortest_of, shortest_of-least, varlong_at-again, zigzag_of-lt_64}
use Rattle.pc_bytes.proofs.varint.write_varlong.Goals as goal

pub returns-clause-ok : goal.returns-clause-ok
unfolding shortest_of
returns-clause-ok c =
    let z : c.zigzag.result ≡ zigzag_of c.args.n = c.zigzag.ensures ∙ ap zigzag_of (to_z-of_z w64 c.args.n c.ranges.n) in
    subst (λ (u : ℕ). OnOk c.put_groups.result (c.put_groups.new.out.items ≡ c.args.out.now.items ++ groups_of 9 u)) z c.put_groups.ensures.ok

pub returns-clause-spells : goal.returns-clause-spells
returns-clause-spells c = IsVarlong-shortest_of c.args.n (zigzag_of-lt_64 c.args.n c.ranges.n)

pub returns-clause-shortest : goal.returns-clause-shortest
returns-clause-shortest c other is = shortest_of-least 10 (2 ^ 64) other c.args.n is

pub returns-clause-read_again : goal.returns-clause-read_again
returns-clause-read_again c rest = varlong_at-again (shortest_of c.args.n) rest c.args.n (IsVarlong-shortest_of c.args.n (zigzag_of-lt_64 c.args.n c.ranges.n))
