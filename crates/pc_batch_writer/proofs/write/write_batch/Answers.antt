-- The batch is what is due, step by step.
use Rattle.std.proofs.Common.{◌≡◌, ◌∷◌, true, false, FitsSigned, w64, inr, sym, rules}
use Rattle.std.specs.Prelude.{◌-ℤ◌}
use Rattle.std.proofs.lemmas.Int.{to_z-of_z}
use Rattle.std.specs.List.{list_all}
use Rattle.pc_batch.specs.Record.{fits_64}
use Rattle.pc_batch_writer.proofs.WriteLemmas.{due-far, due-ok, due-err, due-batch, batch-above, batch-within}
use Rattle.pc_batch_writer.proofs.write.write_batch.Goals as goal

pub returns-then-not-are_near-clause-fault : goal.returns-then-not-are_near-clause-fault
returns-then-not-are_near-clause-fault c =
    let all : c.args.records.now ≡ c.in-Some.first.now ∷ c.in-Some.rest.now = search rules in
    let far : list_all (λ r. fits_64 (r.time -ℤ c.in-Some.first.now.time)) c.args.records.now ≡ false = search rules in
    inr (due-far c.args.records.now c.in-Some.first.now c.in-Some.rest.now c.in_ok-last.last all (sym c.in_ok-last.ensures) far)

pub short-requires-clause-above : goal.short-requires-clause-above
short-requires-clause-above c =
    let all : c.args.records.now ≡ c.in-Some.first.now ∷ c.in-Some.rest.now = search rules in
    batch-above c.args.records.now c.in-Some.first.now c.in-Some.rest.now c.in_ok-last.last all (sym c.in_ok-last.ensures)

pub short-requires-clause-within : goal.short-requires-clause-within
short-requires-clause-within c =
    let all : c.args.records.now ≡ c.in-Some.first.now ∷ c.in-Some.rest.now = search rules in
    let near : list_all (λ r. fits_64 (r.time -ℤ c.in-Some.first.now.time)) c.args.records.now ≡ true = search rules in
    let fits : FitsSigned w64 c.in-Some.first.now.time = search rules in
    rw (to_z-of_z w64 c.in-Some.first.now.time fits) (batch-within c.args.records.now c.in-Some.first.now c.in-Some.rest.now c.in_ok-last.last all (sym c.in_ok-last.ensures) near)

pub returns-clause-written : goal.returns-clause-written
returns-clause-written c =
    let all : c.args.records.now ≡ c.in-Some.first.now ∷ c.in-Some.rest.now = search rules in
    let near : list_all (λ r. fits_64 (r.time -ℤ c.in-Some.first.now.time)) c.args.records.now ≡ true = search rules in
    let fits : FitsSigned w64 c.in-Some.first.now.time = search rules in
    let answers = rw (to_z-of_z w64 c.in-Some.first.now.time fits) at c.short.ensures.answers in
    due-ok c.args.records.now c.in-Some.first.now c.in-Some.rest.now c.in_ok-last.last all (sym c.in_ok-last.ensures) (λ v. v.items) c.short.result near answers

pub returns-clause-fault : goal.returns-clause-fault
returns-clause-fault c =
    let all : c.args.records.now ≡ c.in-Some.first.now ∷ c.in-Some.rest.now = search rules in
    let near : list_all (λ r. fits_64 (r.time -ℤ c.in-Some.first.now.time)) c.args.records.now ≡ true = search rules in
    let fits : FitsSigned w64 c.in-Some.first.now.time = search rules in
    let answers = rw (to_z-of_z w64 c.in-Some.first.now.time fits) at c.short.ensures.answers in
    due-err c.args.records.now c.in-Some.first.now c.in-Some.rest.now c.in_ok-last.last all (sym c.in_ok-last.ensures) (λ v. v.items) c.short.result near answers

pub returns-clause-batch : goal.returns-clause-batch
returns-clause-batch c =
    let all : c.args.records.now ≡ c.in-Some.first.now ∷ c.in-Some.rest.now = search rules in
    let near : list_all (λ r. fits_64 (r.time -ℤ c.in-Some.first.now.time)) c.args.records.now ≡ true = search rules in
    let fits : FitsSigned w64 c.in-Some.first.now.time = search rules in
    let answers = rw (to_z-of_z w64 c.in-Some.first.now.time fits) at c.short.ensures.answers in
    due-batch c.args.records.now c.in-Some.first.now c.in-Some.rest.now c.in_ok-last.last all (sym c.in_ok-last.ensures) (λ v. v.items) c.short.result near answers fits c.short.ensures.fit
