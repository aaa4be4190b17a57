use Rattle.std.proofs.Common.{rules, ap, sym, subst, ◌∙◌, ◌∷◌, ℕ, List, Option, Some}
use Rattle.atomic_table.specs.Table.{rest}
use Rattle.pc_state_lock.specs.History.{Continues}
use Rattle.pc_state_lock.specs.Views.{Standing}
use Rattle.pc_state_lock.proofs.Steps.{counts, leaves}
use Rattle.pc_state_lock.proofs.lock.StateLock.lay.Goals as goal

pub store-requires : goal.store-requires
store-requires g c =
    let is = c.exchange-before.ensures.3 in
    let turns = ap (λ (m : Standing g.row.V.Denot). m.0.stage) is ∙ c.requires.turn.stage in
    let carried = ap (λ (m : Standing g.row.V.Denot). m.1) is
    ∙ ap (λ (l : List (ℕ × Option g.row.V.Denot)). (0, Some c.args.held.value) ∷ rest l) c.requires.turn.slots in
    let told = ap (λ (m : Standing g.row.V.Denot). m.0.told) is ∙ c.requires.pass.told in
    let more = subst (λ (m : Standing g.row.V.Denot). Continues (g.V.Shown.history c.args.held.value) m.0.seen) (sym is) c.requires.later in
    (search rules, search rules, counts _ _ _ _ _ _ c.requires.turn.ticket _ c.args.held.value turns carried told more c.events-events.ensures)

pub fetch_add-served-requires : goal.fetch_add-served-requires
fetch_add-served-requires g c =
    let was = c.exchange-before.ensures.3 in
    let carried = ap (λ (m : Standing g.row.V.Denot). m.1) was
    ∙ ap (λ (l : List (ℕ × Option g.row.V.Denot)). (0, Some c.args.held.value) ∷ rest l) c.requires.turn.slots in
    let told = ap (λ (m : Standing g.row.V.Denot). m.0.told) was ∙ c.requires.pass.told in
    let is = (c.store.ensures.2 c.args.held.value carried told).is in
    let turns = ap (λ (m : Standing g.row.V.Denot). m.0.stage) is
    ∙ (ap (λ (m : Standing g.row.V.Denot). m.0.stage) was ∙ c.requires.turn.stage) in
    let has = ap (λ (m : Standing g.row.V.Denot). m.1) is ∙ carried in
    let seen = ap (λ (m : Standing g.row.V.Denot). m.0.seen) is in
    (search rules, search rules, leaves _ _ _ _ _ _ c.requires.turn.ticket c.args.held.value turns has c.requires.heading seen)
