-- From the start on the lines are played, and what the link keeps is as before but for the part.
use Rattle.std.proofs.Common.{ap}
use Rattle.pc_model.specs.History.{History}
use Rattle.pc_play.specs.Play.{given_by_rules, moment}
use Rattle.pc_play.proofs.PlayLemmas.{kept-from, lead-from-start, left-err, left-ok, stops-from-start}
use Rattle.pc_play.proofs.lines.play_on.Goals as goal

pub returns-in-Ok-clause-kept : goal.returns-in-Ok-clause-kept
returns-in-Ok-clause-kept g c = kept-from (given_by_rules c.args.engine) (given_by_rules c.play_lines-played.new.engine)
    (g.L.Link.is_told c.args.engine.link) (g.L.Link.is_told c.play_lines-played.new.engine.link)
    (g.L.Link.store c.args.engine.link) (g.L.Link.store c.play_lines-played.new.engine.link)
    (g.L.Link.store c.left.result.link) c.left.result.journal.events c.play_lines-played.ensures.given
    c.left.ensures.told c.play_lines-played.ensures.told c.play_lines-played.ensures.keeps c.left.ensures.kept

pub returns-in-Err-clause-kept : goal.returns-in-Err-clause-kept
returns-in-Err-clause-kept g c = kept-from (given_by_rules c.args.engine) (given_by_rules c.play_lines-played.new.engine)
    (g.L.Link.is_told c.args.engine.link) (g.L.Link.is_told c.play_lines-played.new.engine.link)
    (g.L.Link.store c.args.engine.link) (g.L.Link.store c.play_lines-played.new.engine.link)
    (g.L.Link.store c.left-in-Err.result.link) c.left-in-Err.result.journal.events c.play_lines-played.ensures.given
    c.left-in-Err.ensures.told c.play_lines-played.ensures.told c.play_lines-played.ensures.keeps c.left-in-Err.ensures.kept

pub returns-in-Ok-clause-played : goal.returns-in-Ok-clause-played
returns-in-Ok-clause-played g c =
    left-ok (λ remarks. remarks.items) (g.L.Link.is_told c.args.engine.link) (given_by_rules c.args.engine)
    c.args.lines.now
    (moment (g.L.Link.store c.args.engine.link) (g.L.Link.faults c.args.engine.link))
    (moment (g.L.Link.store c.play_lines-played.new.engine.link)
    (g.L.Link.faults c.play_lines-played.new.engine.link))
    (moment (g.L.Link.store c.left.result.link) (g.L.Link.faults c.left.result.link))
    c.play_lines-played.new.engine.journal.events c.left.result.journal.events
    c.left.result.remarks (ap (λ (h : History). h.events) c.left.ensures.journal)
    (ap (λ l. moment (g.L.Link.store l) (g.L.Link.faults l)) c.left.ensures.link)
    c.play_lines-played.new.remarks c.left.ensures.remarks
    (lead-from-start (g.L.Link.is_told c.args.engine.link) (given_by_rules c.args.engine)
    c.args.engine.journal.events c.new-remarks.result.items c.args.lines.now
    (moment (g.L.Link.store c.args.engine.link) (g.L.Link.faults c.args.engine.link))
    (moment (g.L.Link.store c.play_lines-played.new.engine.link)
    (g.L.Link.faults c.play_lines-played.new.engine.link))
    c.play_lines-played.new.engine.journal.events c.new-hand.result c.requires.empty
    c.new-remarks.ensures.items c.new-hand.ensures c.play_lines-played.new.hand
    c.play_lines-played.new.remarks.items c.in-Ok.ensures.ok)

pub returns-in-Err-clause-played : goal.returns-in-Err-clause-played
returns-in-Err-clause-played g c =
    left-err (λ remarks. remarks.items) (g.L.Link.is_told c.args.engine.link) (given_by_rules c.args.engine)
    c.args.lines.now
    (moment (g.L.Link.store c.args.engine.link) (g.L.Link.faults c.args.engine.link))
    (moment (g.L.Link.store c.play_lines-played.new.engine.link)
    (g.L.Link.faults c.play_lines-played.new.engine.link))
    (moment (g.L.Link.store c.left-in-Err.result.link) (g.L.Link.faults c.left-in-Err.result.link))
    c.play_lines-played.new.engine.journal.events c.left-in-Err.result.journal.events
    c.left-in-Err.result.remarks (ap (λ (h : History). h.events) c.left-in-Err.ensures.journal)
    (ap (λ l. moment (g.L.Link.store l) (g.L.Link.faults l)) c.left-in-Err.ensures.link)
    c.in-Err.fault c.left-in-Err.ensures.remarks
    (stops-from-start (g.L.Link.is_told c.args.engine.link) (given_by_rules c.args.engine)
    c.args.engine.journal.events c.new-remarks.result.items c.args.lines.now
    (moment (g.L.Link.store c.args.engine.link) (g.L.Link.faults c.args.engine.link))
    (moment (g.L.Link.store c.play_lines-played.new.engine.link)
    (g.L.Link.faults c.play_lines-played.new.engine.link))
    c.play_lines-played.new.engine.journal.events c.new-hand.result c.requires.empty
    c.new-remarks.ensures.items c.new-hand.ensures c.in-Err.ensures.err)
