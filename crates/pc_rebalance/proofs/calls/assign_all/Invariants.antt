-- The parts so far are assigned.
use Rattle.std.proofs.Common.{◌≡◌, true, take, Ok}
use Rattle.pc_engine.specs.Engine.{Asks, given_of}
use Rattle.pc_engine.specs.Stand.{stand_of}
use Rattle.pc_rebalance.specs.Apply.{AssignsAll}
use Rattle.pc_rebalance.proofs.calls.assign_all.Given as goal

abbrev pub invariant-loop-part : goal.invariant-loop-part
invariant-loop-part g l = record {
  block : AssignsAll (g.L.Link.is_told l.fn.engine.link) (given_of g.T.Task.outcome l.fn.engine)
      (take l.part-index l.parts) (stand_of g.L.Link.store g.L.Link.faults l.fn.engine)
      (stand_of g.L.Link.store g.L.Link.faults l.engine) (Ok tt);
  asks : Asks g.T.Task.outcome g.L.Link.is_told g.L.Link.faults l.fn.engine l.engine;
  keeps : g.L.Link.is_told l.fn.engine.link ≡ true
      → g.L.Link.store l.engine.link ≡ g.L.Link.store l.fn.engine.link;
}
