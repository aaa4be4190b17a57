-- The parts behind that of the last dispatch, and then those up to it.
use Rattle.std.proofs.Common.{◌≡◌, ◌-◌, ◌≤◌, ℕ, Some, None, refl, arith}
use Rattle.std.specs.List.{range_with_len}
use Rattle.pc_model.specs.Numbers.{first_some}
use Rattle.pc_model.specs.Next.{next_of_part}
use Rattle.pc_state.proofs.NextLemmas.{from-none, from-some, from-within, from_of, next-is}
use Rattle.pc_state.proofs.state.State.next.Goals as goal
use Rattle.pc_state.proofs.state.State.next.Goals.{in-Some, in-None}

pub returns-in-Some-next_within : goal.returns-in-Some-next_within
returns-in-Some-next_within c =
    let from : c.match-self.from ≡ from_of c.parts-parts.result c.args.self.now.last =
    elim c.match-self.branch [
      | in-Some w ↦ from-some c.parts-parts.result w.in-Some.last c.match-self.from
          w.min-from.result
          w.saturating_add.result c.args.self.now.last w.in-Some.is w.from-is w.min-from.ensures
          w.saturating_add.ensures c.parts-parts.type_inv
      | in-None w ↦ from-none c.parts-parts.result c.match-self.from c.args.self.now.last
          w.in-None.is w.from-is
    ] in
    λ given h knows. next-is given h c.args.self.now c.parts-parts.result c.match-self.from
    (Some c.in-Some-next_within.next)
    (first_some (next_of_part given h) (range_with_len 0 (c.match-self.from - 0)))
    knows c.parts-parts.ensures.count from
    (c.in-Some-next_within.ensures given h knows (from-within _ _ c.args.self.now.last from)) refl

pub returns-in-None-next_within : goal.returns-in-None-next_within
returns-in-None-next_within c =
    let from : c.match-self.from ≡ from_of c.parts-parts.result c.args.self.now.last =
    elim c.match-self.branch [
      | in-Some w ↦ from-some c.parts-parts.result w.in-Some.last c.match-self.from
          w.min-from.result
          w.saturating_add.result c.args.self.now.last w.in-Some.is w.from-is w.min-from.ensures
          w.saturating_add.ensures c.parts-parts.type_inv
      | in-None w ↦ from-none c.parts-parts.result c.match-self.from c.args.self.now.last
          w.in-None.is w.from-is
    ] in
    λ given h knows. next-is given h c.args.self.now c.parts-parts.result c.match-self.from
    None c.next_within-in-None-next_within.result
    knows c.parts-parts.ensures.count from
    (c.in-None-next_within.ensures given h knows (from-within _ _ c.args.self.now.last from))
    (c.next_within-in-None-next_within.ensures given h knows (from-least c.match-self.from))
  where
    from-least : (n : ℕ) → 0 ≤ n
    from-least n = omega arith
