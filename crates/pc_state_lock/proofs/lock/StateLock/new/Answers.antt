use Rattle.std.proofs.Common.{ap, sym, subst, ◌∙◌, ◌∷◌, ◌++◌, [], List, Option, Some, length}
use Rattle.atomic_table.specs.Table.{opening}
use Rattle.pc_state_lock.specs.Rule.{IsKept}
use Rattle.pc_state_lock.specs.Views.{first_view}
use Rattle.pc_state_lock.proofs.Steps.{opens}
use Rattle.pc_state_lock.proofs.lock.StateLock.new.Goals as goal

pub new-requires : goal.new-requires
new-requires g c =
    let start = c.of-start.result.value in
    let items = c.push_reserved.ensures.items
    ∙ (ap (λ (l : List (Option g.row.V.Denot)). l ++ Some c.args.value ∷ []) c.in-Ok-with_capacity.ensures.items
    ∙ ap (λ (x : g.row.V.Denot). Some x ∷ []) (sym c.of-start.ensures)) in
    let count = c.events-events.ensures ∙ ap (λ (x : g.row.V.Denot). length (g.V.Shown.history x))
    (sym c.of-start.ensures) in
    subst (λ (l : List (Option g.row.V.Denot)). IsKept g.V.Shown.heading g.V.Shown.history start
    (opening (0 ∷ 0 ∷ c.events-events.result ∷ []) l (first_view g.V.Shown.history start))) (sym items)
    (opens g.V.Shown.heading g.V.Shown.history start c.events-events.result count)
