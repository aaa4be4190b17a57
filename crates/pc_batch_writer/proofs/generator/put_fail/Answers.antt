-- A number with its rule, or without.
use Rattle.std.proofs.Common.{◌≡◌, ◌++◌, ◌∷◌, [], ◌/◌, ◌%◌, ap, rules}
use Rattle.pc_batch_writer.proofs.GeneratorLemmas.{fails-other, fails-own}
use Rattle.pc_batch_writer.proofs.generator.put_fail.Goals as goal

pub returns-then-number-ne0 : goal.returns-then-number-ne0
returns-then-number-ne0 c = λ others. ap (λ l. c.args.fails.now.items ++ l) (fails-other c.args.i c.args.number others c.if-number-ne0.true)

pub returns : goal.returns
returns c = λ others.
    let e : c.push.new.self.items ≡ c.args.fails.now.items ++ record { part = c.args.i % 8; offset = c.args.i / 8; times = 1 } ∷ [] = search rules in
    fails-own c.args.i c.args.number others c.args.fails.now.items c.push.new.self.items c.if-number-ne0.false e
