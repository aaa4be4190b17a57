-- The engine that was begun plays the lines.
use Rattle.std.proofs.Common.{◌∙◌, List, [], ap, sym, subst}
use Rattle.pc_model.specs.Outcomes.{outcome_of}
use Rattle.pc_model.specs.Given.{Given}
use Rattle.pc_model.specs.declared.event.Event.{Event}
use Rattle.pc_offset_client.specs.Client.{kept_for}
use Rattle.pc_engine.specs.Engine.{given_by}
use Rattle.pc_play.specs.Play.{given_by_rules, IsPlayed, moment}
use Rattle.pc_play.specs.Kept.{IsKept}
use Rattle.pc_play.proofs.NoLine.{kept-at-start}
use Rattle.pc_play.proofs.PlayLemmas.{played-err, stops-at-once}
use Rattle.pc_play.proofs.lines.play.Goals as goal

pub returns-in-Ok-clause-kept : goal.returns-in-Ok-clause-kept
returns-in-Ok-clause-kept g c =
    subst (λ (given : Given). IsKept given (g.L.Link.store c.args.link)
    (g.L.Link.store c.play_on.result.link) c.play_on.result.journal.events) c.in-Ok.ensures.given
    (subst (λ l. IsKept (given_by_rules c.in-Ok.engine) (g.L.Link.store l)
    (g.L.Link.store c.play_on.result.link) c.play_on.result.journal.events)
    c.in-Ok.ensures.link c.play_on.ensures.kept)

pub returns-in-Ok-clause-played : goal.returns-in-Ok-clause-played
returns-in-Ok-clause-played g c =
    subst (λ (given : Given). IsPlayed (λ remarks. remarks.items) (g.L.Link.is_told c.args.link)
    given c.args.lines.now (moment (g.L.Link.store c.args.link) (g.L.Link.faults c.args.link))
    (moment (g.L.Link.store c.play_on.result.link) (g.L.Link.faults c.play_on.result.link))
    c.play_on.result.journal.events c.play_on.result.remarks) c.in-Ok.ensures.given
    (subst (λ l. IsPlayed (λ remarks. remarks.items) (g.L.Link.is_told l)
    (given_by_rules c.in-Ok.engine) c.args.lines.now (moment (g.L.Link.store l) (g.L.Link.faults l))
    (moment (g.L.Link.store c.play_on.result.link) (g.L.Link.faults c.play_on.result.link))
    c.play_on.result.journal.events c.play_on.result.remarks) c.in-Ok.ensures.link
    c.play_on.ensures.played)

pub returns-in-Err-clause-played : goal.returns-in-Err-clause-played
returns-in-Err-clause-played g c =
    played-err (λ remarks. remarks.items) (g.L.Link.is_told c.args.link)
    (given_by c.args.setup.now c.args.logs.now [] (g.L.Link.is_told c.args.link)
    outcome_of (kept_for (g.L.Link.store c.args.link))) c.args.lines.now
    (moment (g.L.Link.store c.args.link) (g.L.Link.faults c.args.link))
    (moment (g.L.Link.store c.unplayed.result.link) (g.L.Link.faults c.unplayed.result.link))
    c.unplayed.result.journal.events c.unplayed.result.remarks c.unplayed.ensures.remarks
    (stops-at-once (g.L.Link.is_told c.args.link)
    (given_by c.args.setup.now c.args.logs.now [] (g.L.Link.is_told c.args.link)
    outcome_of (kept_for (g.L.Link.store c.args.link))) c.args.lines.now
    (moment (g.L.Link.store c.args.link) (g.L.Link.faults c.args.link))
    (moment (g.L.Link.store c.unplayed.result.link) (g.L.Link.faults c.unplayed.result.link))
    c.unplayed.result.journal.events c.unplayed.ensures.journal
    (ap (λ l. moment (g.L.Link.store l) (g.L.Link.faults l))
    (c.unplayed.ensures.link ∙ c.in-Err.ensures.back)))

pub returns-in-Err-clause-kept : goal.returns-in-Err-clause-kept
returns-in-Err-clause-kept g c =
    subst (λ (h : List Event). IsKept (given_by c.args.setup.now c.args.logs.now []
    (g.L.Link.is_told c.args.link) outcome_of (kept_for (g.L.Link.store c.args.link)))
    (g.L.Link.store c.args.link) (g.L.Link.store c.unplayed.result.link) h)
    (sym c.unplayed.ensures.journal)
    (subst (λ l. IsKept (given_by c.args.setup.now c.args.logs.now []
    (g.L.Link.is_told c.args.link) outcome_of (kept_for (g.L.Link.store c.args.link)))
    (g.L.Link.store c.args.link) (g.L.Link.store l) [])
    (sym (c.unplayed.ensures.link ∙ c.in-Err.ensures.back))
    (kept-at-start c.args.setup.now c.args.logs.now (g.L.Link.is_told c.args.link)
    (g.L.Link.store c.args.link) c.start.ensures.legal))
