use Rattle.std.proofs.Common.{rules, ap, sym, ◌∙◌, ◌∷◌, ℕ, List, Option, Some}
use Rattle.atomic_table.specs.Table.{rest}
use Rattle.pc_state_lock.specs.Views.{Standing}
use Rattle.pc_state_lock.proofs.lock.StateLock.turn.Goals as goal

pub exchange-requires : goal.exchange-requires
exchange-requires g c =
    let takes = c.wait_for.ensures.turn in
    let carried = ap (λ (m : Standing g.row.V.Denot). m.1) takes.is in (
      search rules,
      (
        Some takes.value,
        carried ∙ ap (λ (l : List (ℕ
            × Option g.row.V.Denot)). (0, Some takes.value) ∷ rest l) (sym carried),
      ),
    )
