-- No part, one part more, and the part that is refused.
use Rattle.std.proofs.Common.{◌∙◌, Result, Ok, Err, ap, refl, subst, sym, get_or, arith}
use Rattle.std.proofs.lemmas.Result.{err_from_is_err_and}
use Rattle.pc_engine.specs.declared.fault.EngineFault.{EngineFault}
use Rattle.pc_engine.specs.Engine.{given_of}
use Rattle.pc_engine.specs.Stand.{stand_of}
use Rattle.pc_rebalance.specs.Apply.{AssignsAll}
use Rattle.pc_rebalance.proofs.CallLemmas.{all-next, all-none, all-stopped, asks-trans, assigns-of, assigns-over}
use Rattle.pc_rebalance.proofs.calls.assign_all.Goals as goal

pub loop-part-init : goal.loop-part-init
loop-part-init g c = record {
  block = all-none (g.L.Link.is_told c.args.engine.now.link)
      (given_of g.T.Task.outcome c.args.engine.now)
      (stand_of g.L.Link.store g.L.Link.faults c.args.engine.now);
  asks = record {
    given = refl;
    task = refl;
    told = refl;
    count = omega arith;
  };
  keeps = λ told. refl;
}

pub returns-in_err-assign-clause-block : goal.returns-in_err-assign-clause-block
returns-in_err-assign-clause-block g c =
    let got = err_from_is_err_and c.from_residual.result c.from_residual.ensures.1 in
    let old = c.args.engine.now in
    let mid = c.loop-part.engine in
    let part = get_or c.args.parts.now c.loop-part.part-index 0 in
    subst (λ (r : Result (Unit {0}) EngineFault). AssignsAll (g.L.Link.is_told old.link)
    (given_of g.T.Task.outcome old) c.args.parts.now (stand_of g.L.Link.store g.L.Link.faults old)
    (stand_of g.L.Link.store g.L.Link.faults c.assign.new.self) r)
    (sym (got.1 ∙ ap (λ (x : EngineFault). Err x) got.2))
    (all-stopped (g.L.Link.is_told old.link) (given_of g.T.Task.outcome old) c.args.parts.now
    c.loop-part.part-index part 0 (stand_of g.L.Link.store g.L.Link.faults old)
    (stand_of g.L.Link.store g.L.Link.faults mid)
    (stand_of g.L.Link.store g.L.Link.faults c.assign.new.self) c.in_err-assign.field-0.0
    c.loop-part-test.true refl c.loop-part.invariant.block
    (assigns-over (g.L.Link.is_told old.link) (g.L.Link.is_told mid.link)
    (given_of g.T.Task.outcome old) (given_of g.T.Task.outcome mid) part
    (stand_of g.L.Link.store g.L.Link.faults mid)
    (stand_of g.L.Link.store g.L.Link.faults c.assign.new.self) (Err c.in_err-assign.field-0.0)
    c.loop-part.invariant.asks.told c.loop-part.invariant.asks.given
    (assigns-of g.L.Link.is_told g.L.Link.store g.L.Link.faults g.T.Task.outcome mid
    c.assign.new.self part (Err c.in_err-assign.field-0.0) c.in_err-assign.ensures.effect
    c.in_err-assign.ensures.refused c.in_err-assign.ensures.keeps c.in_err-assign.ensures.asks)))

pub loop-part-preserved : goal.loop-part-preserved
loop-part-preserved g c =
    let old = c.args.engine.now in
    let mid = c.loop-part.engine in
    let part = get_or c.args.parts.now c.loop-part.part-index 0 in
    record {
      block = all-next (g.L.Link.is_told old.link) (given_of g.T.Task.outcome old)
          c.args.parts.now c.loop-part.part-index part 0
          (stand_of g.L.Link.store g.L.Link.faults old)
          (stand_of g.L.Link.store g.L.Link.faults mid)
          (stand_of g.L.Link.store g.L.Link.faults c.assign.new.self) c.loop-part-test.true refl
          c.loop-part.invariant.block
          (assigns-over (g.L.Link.is_told old.link) (g.L.Link.is_told mid.link)
          (given_of g.T.Task.outcome old) (given_of g.T.Task.outcome mid) part
          (stand_of g.L.Link.store g.L.Link.faults mid)
          (stand_of g.L.Link.store g.L.Link.faults c.assign.new.self) (Ok tt)
          c.loop-part.invariant.asks.told c.loop-part.invariant.asks.given
          (assigns-of g.L.Link.is_told g.L.Link.store g.L.Link.faults g.T.Task.outcome mid
          c.assign.new.self part (Ok tt) c.in_ok-assign.ensures.effect
          c.in_ok-assign.ensures.refused c.in_ok-assign.ensures.keeps c.in_ok-assign.ensures.asks));
      asks = asks-trans g.T.Task.outcome g.L.Link.is_told g.L.Link.faults old mid
          c.assign.new.self c.loop-part.invariant.asks c.in_ok-assign.ensures.asks;
      keeps = λ told. c.in_ok-assign.ensures.keeps (c.loop-part.invariant.asks.told ∙ told)
          ∙ c.loop-part.invariant.keeps told;
    }
