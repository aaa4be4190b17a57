-- The lines so far are played.
use Rattle.std.proofs.Common.{◌≡◌, ◌≤◌, true, take, List}
use Rattle.pc_model.specs.Given.{has_log}
use Rattle.pc_task.specs.Jobs.{PlainJob}
use Rattle.pc_engine.specs.Effect.{StoresOnly}
use Rattle.pc_play.specs.Hand.{HasInHand}
use Rattle.pc_play.specs.Play.{given_by_rules, LeadTo, moment}
use Rattle.pc_play.proofs.lines.play_lines.Given as goal

abbrev pub invariant-loop-line : goal.invariant-loop-line
invariant-loop-line g l = record {
  plays : (jobs : List PlainJob)
      → HasInHand (given_by_rules l.fn.engine) l.fn.engine.journal.events jobs l.fn.hand
      → LeadTo (g.L.Link.is_told l.fn.engine.link) (given_by_rules l.fn.engine) (record {
        history = l.fn.engine.journal.events;
        hand = jobs;
        remarks = l.fn.remarks.items;
      }) (take l.line-index l.lines)
      (moment (g.L.Link.store l.fn.engine.link) (g.L.Link.faults l.fn.engine.link))
      (moment (g.L.Link.store l.engine.link) (g.L.Link.faults l.engine.link))
      l.engine.journal.events l.hand l.remarks.items;
  keeps : g.L.Link.is_told l.fn.engine.link ≡ true → StoresOnly (has_log (given_by_rules l.fn.engine))
      (g.L.Link.store l.fn.engine.link) (g.L.Link.store l.engine.link);
  given : (given_by_rules l.engine) ≡ (given_by_rules l.fn.engine);
  told : g.L.Link.is_told l.engine.link ≡ g.L.Link.is_told l.fn.engine.link;
  count : g.L.Link.faults l.fn.engine.link ≤ g.L.Link.faults l.engine.link;
}
