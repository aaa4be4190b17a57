-- No line, one line more, and the line at which memory runs out.
use Rattle.std.proofs.Common.{◌∙◌, Bool, refl, ap, subst, arith, get_or, List}
use Rattle.pc_script.specs.declared.play.PlayAct.TheVariants.{Assign}
use Rattle.pc_model.specs.Given.{Given, has_log}
use Rattle.pc_task.specs.Jobs.{PlainJob}
use Rattle.pc_play.specs.Hand.{HasInHand}
use Rattle.pc_play.specs.Play.{given_by_rules, Breaks, LeadsTo, moment}
use Rattle.pc_play.proofs.PlayLemmas.{lead-none, lead-next, lead-stops, on-err, playable-at, stores_only-next}
use Rattle.pc_engine.proofs.EngineLemmas.{stores_only-same}
use Rattle.pc_play.proofs.lines.play_lines.Goals as goal

pub loop-line-init : goal.loop-line-init
loop-line-init g c = record {
  plays = λ jobs has. lead-none (g.L.Link.is_told c.args.engine.now.link) (given_by_rules c.args.engine.now)
      c.args.engine.now.journal.events jobs c.args.hand.now c.args.remarks.now.items
      (moment (g.L.Link.store c.args.engine.now.link) (g.L.Link.faults c.args.engine.now.link)) has;
  keeps = λ told. stores_only-same _ _ _ refl;
  given = refl;
  told = refl;
  count = omega arith;
}

pub play_line-requires : goal.play_line-requires
play_line-requires g c = playable-at c.args.lines.now c.loop-line.line-index
    (record { line = 0; act = Assign 0 }) c.loop-line-test.true c.requires

pub loop-line-preserved : goal.loop-line-preserved
loop-line-preserved g c = record {
  plays = λ jobs has. lead-next (g.L.Link.is_told c.args.engine.now.link) (given_by_rules c.args.engine.now)
      (record {
        history = c.args.engine.now.journal.events;
        hand = jobs;
        remarks = c.args.remarks.now.items;
      })
      c.args.lines.now c.loop-line.line-index
      (get_or c.args.lines.now c.loop-line.line-index (record { line = 0; act = Assign 0 }))
      (record { line = 0; act = Assign 0 }) (moment (g.L.Link.store c.args.engine.now.link) (g.L.Link.faults c.args.engine.now.link))
      (moment (g.L.Link.store c.loop-line.engine.link) (g.L.Link.faults c.loop-line.engine.link))
      (moment (g.L.Link.store c.play_line.new.engine.link)
      (g.L.Link.faults c.play_line.new.engine.link))
      c.loop-line.engine.journal.events c.play_line.new.engine.journal.events
      c.loop-line.hand c.loop-line.remarks.items c.loop-line-test.true refl
      (c.loop-line.invariant.plays jobs has) c.play_line.new.hand c.play_line.new.remarks.items
      (subst (λ (given : Given). (jobs : List PlainJob)
      → HasInHand given c.loop-line.engine.journal.events jobs c.loop-line.hand
      → LeadsTo (g.L.Link.is_told c.args.engine.now.link) given (record {
        history = c.loop-line.engine.journal.events;
        hand = jobs;
        remarks = c.loop-line.remarks.items;
      }) (get_or c.args.lines.now c.loop-line.line-index (record { line = 0; act = Assign 0 }))
      (moment (g.L.Link.store c.loop-line.engine.link) (g.L.Link.faults c.loop-line.engine.link))
      (moment (g.L.Link.store c.play_line.new.engine.link)
      (g.L.Link.faults c.play_line.new.engine.link))
      c.play_line.new.engine.journal.events c.play_line.new.hand c.play_line.new.remarks.items)
      c.loop-line.invariant.given
      (subst (λ (told : Bool). (jobs : List PlainJob)
      → HasInHand (given_by_rules c.loop-line.engine) c.loop-line.engine.journal.events jobs c.loop-line.hand
      → LeadsTo told (given_by_rules c.loop-line.engine) (record {
        history = c.loop-line.engine.journal.events;
        hand = jobs;
        remarks = c.loop-line.remarks.items;
      }) (get_or c.args.lines.now c.loop-line.line-index (record { line = 0; act = Assign 0 }))
      (moment (g.L.Link.store c.loop-line.engine.link) (g.L.Link.faults c.loop-line.engine.link))
      (moment (g.L.Link.store c.play_line.new.engine.link)
      (g.L.Link.faults c.play_line.new.engine.link))
      c.play_line.new.engine.journal.events c.play_line.new.hand c.play_line.new.remarks.items)
      c.loop-line.invariant.told c.in_ok-play_line.ensures.ok));
  keeps = λ told. stores_only-next _ _ _ _ _ (ap has_log c.loop-line.invariant.given)
      (c.loop-line.invariant.keeps told)
      (c.in_ok-play_line.ensures.keeps (c.loop-line.invariant.told ∙ told));
  given = c.in_ok-play_line.ensures.given ∙ c.loop-line.invariant.given;
  told = c.in_ok-play_line.ensures.told ∙ c.loop-line.invariant.told;
  count = omega (arith, c.loop-line.invariant.count, c.in_ok-play_line.ensures.count);
}

pub returns-in_err-play_line-clause-err : goal.returns-in_err-play_line-clause-err
returns-in_err-play_line-clause-err g c =
    on-err c.from_residual.result (λ jobs has. lead-stops (g.L.Link.is_told c.args.engine.now.link)
    (given_by_rules c.args.engine.now)
    (record {
      history = c.args.engine.now.journal.events;
      hand = jobs;
      remarks = c.args.remarks.now.items;
    })
    c.args.lines.now c.loop-line.line-index
    (get_or c.args.lines.now c.loop-line.line-index (record { line = 0; act = Assign 0 }))
    (record { line = 0; act = Assign 0 }) (moment (g.L.Link.store c.args.engine.now.link) (g.L.Link.faults c.args.engine.now.link))
    (moment (g.L.Link.store c.loop-line.engine.link) (g.L.Link.faults c.loop-line.engine.link))
    (moment (g.L.Link.store c.play_line.new.engine.link)
    (g.L.Link.faults c.play_line.new.engine.link))
    c.loop-line.engine.journal.events c.play_line.new.engine.journal.events
    c.loop-line.hand c.loop-line.remarks.items c.loop-line-test.true refl
    (c.loop-line.invariant.plays jobs has)
    (subst (λ (given : Given). (jobs : List PlainJob)
    → HasInHand given c.loop-line.engine.journal.events jobs c.loop-line.hand
    → Breaks (g.L.Link.is_told c.args.engine.now.link) given c.loop-line.engine.journal.events jobs
    (get_or c.args.lines.now c.loop-line.line-index (record { line = 0; act = Assign 0 })).act
    (moment (g.L.Link.store c.loop-line.engine.link) (g.L.Link.faults c.loop-line.engine.link))
    (moment (g.L.Link.store c.play_line.new.engine.link)
    (g.L.Link.faults c.play_line.new.engine.link))
    c.play_line.new.engine.journal.events)
    c.loop-line.invariant.given
    (subst (λ (told : Bool). (jobs : List PlainJob)
    → HasInHand (given_by_rules c.loop-line.engine) c.loop-line.engine.journal.events jobs c.loop-line.hand
    → Breaks told (given_by_rules c.loop-line.engine) c.loop-line.engine.journal.events jobs
    (get_or c.args.lines.now c.loop-line.line-index (record { line = 0; act = Assign 0 })).act
    (moment (g.L.Link.store c.loop-line.engine.link) (g.L.Link.faults c.loop-line.engine.link))
    (moment (g.L.Link.store c.play_line.new.engine.link)
    (g.L.Link.faults c.play_line.new.engine.link))
    c.play_line.new.engine.journal.events)
    c.loop-line.invariant.told c.in_err-play_line.ensures.err)))
