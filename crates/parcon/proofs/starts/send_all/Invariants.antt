-- The starts so far were stored.
use Rattle.std.proofs.Common.{◌≡◌, Ok, take}
use Rattle.pc_play.specs.Play.{moment}
use Rattle.parcon.specs.Starts.{SendsStarts}
use Rattle.parcon.proofs.starts.send_all.Given as goal

abbrev pub invariant-loop-start : goal.invariant-loop-start
invariant-loop-start g l = record {
  sent : SendsStarts (g.L.Link.is_told l.fn.client.link) (take l.start-index l.starts)
      (moment (g.L.Link.store l.fn.client.link) (g.L.Link.faults l.fn.client.link))
      (moment (g.L.Link.store l.client.link) (g.L.Link.faults l.client.link)) (Ok tt);
  told : g.L.Link.is_told l.client.link ≡ g.L.Link.is_told l.fn.client.link;
}
