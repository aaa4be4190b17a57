use Rattle.std.proofs.Common.{rules, ap, ◌∙◌}
use Rattle.pc_state_lock.specs.Views.{Standing}
use Rattle.pc_state_lock.proofs.Steps.{looks}
use Rattle.pc_state_lock.proofs.lock.StateLock.wait_for.Goals as goal

pub load-served-requires : goal.load-served-requires
load-served-requires g c =
    let knows = c.loop.invariant.knows in
    let waits = ap (λ (m : Standing g.row.V.Denot). m.0.stage) knows ∙ c.requires.ticket.0 in
    let empty = ap (λ (m : Standing g.row.V.Denot). m.1) knows ∙ c.requires.ticket.1 in
    let started = ap (λ (m : Standing g.row.V.Denot). m.0.start) knows ∙ c.requires.pass.start in
    (c.loop.invariant.same ∙ c.requires.pass.same, search rules, looks _ _ _ _ _ _ c.args.ticket waits empty started)

pub loop-preserved : goal.loop-preserved
loop-preserved g c =
    let knows = c.loop.invariant.knows in
    let waits = ap (λ (m : Standing g.row.V.Denot). m.0.stage) knows ∙ c.requires.ticket.0 in
    let empty = ap (λ (m : Standing g.row.V.Denot). m.1) knows ∙ c.requires.ticket.1 in
    let told = c.load-served.ensures.2 c.args.ticket waits empty in record {
      same = c.load-served.ensures.0 ∙ c.loop.invariant.same;
      knows = told.2 c.if-served-ticket.false ∙ knows;
    }
