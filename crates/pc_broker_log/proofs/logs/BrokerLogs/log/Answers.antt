use Rattle.std.proofs.Common.{List, Option, Some, ap, sym, ◌∙◌}
use Rattle.std.specs.Prelude.{slice_get}
use Rattle.std.proofs.lemmas.Option.{slice_get-get_or}
use Rattle.pc_batch.specs.Batch.{Placed}
use Rattle.pc_broker_log.proofs.TableLemmas.{lent-rises}
use Rattle.pc_broker_log.proofs.logs.BrokerLogs.log.Goals as goal

pub returns-clause-rise : goal.returns-clause-rise
returns-clause-rise c =
    let items = c.self.inside.logs.items in
    let got = c.in_ok-get.ensures.lookup in
    let at = ap (λ (l : List (Option (List Placed))). slice_get l c.args.part)
    (sym c.deref.ensures.value) ∙ slice_get-get_or c.deref.result.now c.args.part
    c.in_ok-get.field-0.now got.3.0 ∙ ap (λ (o : Option (List Placed)). Some o) (sym got.1) in
    lent-rises items c.args.part c.self.inside.records c.in_ok-get.field-0.now c.as_ref.result
    c.self.invariant at c.as_ref.ensures.value
