use Rattle.std.proofs.Common.{◌≡◌, List, Option, Some, Result, Ok, Err, set, ap, ◌∙◌}
use Rattle.pc_model.specs.Record.{Record}
use Rattle.pc_batch.specs.Batch.{Placed}
use Rattle.pc_cursor.specs.Log.{contents_of, records_of}
use Rattle.pc_broker_log.specs.declared.fault.AddFault.{AddFault}
use Rattle.pc_broker_log.specs.Logs.{logs_of, with_log, add_refusal}
use Rattle.pc_broker_log.proofs.TableLemmas.{no-refusal, table-added, logs_of-with}
use Rattle.pc_broker_log.proofs.logs.BrokerLogs.add.Goals as goal

not_both : (fault : AddFault) → ◌≡◌ {A = Result (Unit {0}) AddFault} (Ok tt) (Err fault) → ⊥
not_both fault e = cc

pub invariant_of-self-2 : goal.invariant_of-self-2
invariant_of-self-2 c =
    let items = c.self.inside.logs.items in
    let allowed = no-refusal (add_refusal c.args.self.now c.args.part c.records-records.result)
    (λ fault e. not_both fault (c.in_ok-may_add.ensures.refused fault e)) in
    let here = ap (λ (l : List (Option (List Record))). add_refusal l c.args.part
    c.records-records.result) c.self.view_is ∙ allowed in
    table-added items c.grow.new.logs.items c.self.inside.records c.args.part
    c.records-records.result c.args.log c.self.invariant c.in_ok-grow.ensures.ok here
    c.records-records.ensures.count c.records-records.ensures.rise

pub returns-clause-added : goal.returns-clause-added
returns-clause-added c =
    ap (λ (l : List (Option (List Placed))). logs_of
    (set l c.args.part (Some c.args.log))) c.in_ok-grow.ensures.ok
    ∙ logs_of-with c.self.inside.logs.items c.args.part c.args.log
    ∙ ap (λ (l : List (Option (List Record))). with_log l c.args.part
    (records_of (contents_of c.args.log))) c.self.view_is
