-- One start more was stored, or one was not.
use Rattle.std.proofs.Common.{◌≡◌, ◌⊎◌, ◌∙◌, Bool, Err, Ok, ap, subst, sym}
use Rattle.std.proofs.lemmas.Result.{err_from_is_err_and}
use Rattle.pc_offset_client.specs.declared.fault.ClientFault.{ClientFault}
use Rattle.pc_offset_client.specs.declared.fault.ClientFault.TheVariants.{NoMemory as Forgot}
use Rattle.pc_play.specs.Play.{IsAborted, moment}
use Rattle.parcon.specs.Starts.{Sends, SendsStart, Sent}
use Rattle.parcon.proofs.StartLemmas.{sends-next, sends-stopped}
use Rattle.parcon.proofs.starts.send_all.Goals as goal

pub returns-in_err-send-clause-sends : goal.returns-in_err-send-clause-sends
returns-in_err-send-clause-sends g c =
    let told = g.L.Link.is_told c.args.client.now.link in
    let first = moment (g.L.Link.store c.args.client.now.link)
    (g.L.Link.faults c.args.client.now.link) in
    let now = moment (g.L.Link.store c.loop-start.client.link)
    (g.L.Link.faults c.loop-start.client.link) in
    let next = moment (g.L.Link.store c.send.new.client.link)
    (g.L.Link.faults c.send.new.client.link) in
    let fault : ClientFault = c.in_err-send.field-0.0 in
    let got = err_from_is_err_and c.from_residual.result c.from_residual.ensures.1 in
    subst (λ (r : Sent). Sends told c.args.starts.now first next r)
    (sym (got.1 ∙ ap (λ (f : ClientFault). Err f) got.2))
    (sends-stopped told c.args.starts.now c.loop-start.start-index c.start-item.result first now
    next c.loop-start-test.true c.start-item.is c.loop-start.invariant.sent fault
    (subst (λ (b : Bool). ◌≡◌ {A = Sent} (Err fault) (Err Forgot)
    ⊎ SendsStart b c.start-item.result now next (Err fault)) c.loop-start.invariant.told
    c.in_err-send.ensures.sends)
    (subst (λ (b : Bool). ◌≡◌ {A = Sent} (Err fault) (Err Forgot) → IsAborted b now next)
    c.loop-start.invariant.told c.in_err-send.ensures.forgot))

pub loop-start-preserved : goal.loop-start-preserved
loop-start-preserved g c =
    let told = g.L.Link.is_told c.args.client.now.link in
    let first = moment (g.L.Link.store c.args.client.now.link)
    (g.L.Link.faults c.args.client.now.link) in
    let now = moment (g.L.Link.store c.loop-start.client.link)
    (g.L.Link.faults c.loop-start.client.link) in
    let next = moment (g.L.Link.store c.send.new.client.link)
    (g.L.Link.faults c.send.new.client.link) in
    record {
      sent = sends-next told c.args.starts.now c.loop-start.start-index c.start-item.result first
          now next c.loop-start-test.true c.start-item.is c.loop-start.invariant.sent
          (subst (λ (b : Bool). ◌≡◌ {A = Sent} (Ok tt) (Err Forgot)
          ⊎ SendsStart b c.start-item.result now next (Ok tt)) c.loop-start.invariant.told
          c.in_ok-send.ensures.sends);
      told = c.in_ok-send.ensures.told ∙ c.loop-start.invariant.told;
    }
