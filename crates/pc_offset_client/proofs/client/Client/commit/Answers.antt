-- The question has a frame, and what comes back is what the laws say.
use Rattle.std.proofs.Common.{◌∙◌, Err, ap}
use Rattle.std.proofs.lemmas.Result.{err_from_is_err_and}
use Rattle.pc_offset_client.specs.declared.fault.ClientFault.{ClientFault}
use Rattle.pc_offset_client.proofs.ClientLaws.{commit-cause, commit-reads, commit-replied, commit-unsent}
use Rattle.pc_offset_client.proofs.client.Client.commit.Goals as goal

pub send-requires-clause-reads : goal.send-requires-clause-reads
send-requires-clause-reads g c = commit-reads c.as_slice.result.now c.in_ok-frame.frame.items _
    c.as_slice.ensures.value c.in_ok-frame.ensures.frame

pub returns-in_err-reply-clause-gives : goal.returns-in_err-reply-clause-gives
returns-in_err-reply-clause-gives g c = λ told.
    let got = err_from_is_err_and c.from_residual-in_err-reply.result
    c.from_residual-in_err-reply.ensures.1 in
    commit-unsent _ _ _ c.args.part c.args.commit.now c.as_slice.result.now c.in_ok-frame.frame.items
    c.from_residual-in_err-reply.result c.in_err-reply.field-0.0
    c.as_slice.ensures.value c.in_ok-frame.ensures.frame
    (got.1 ∙ ap (λ (x : ClientFault). Err x) got.2) c.in_err-reply.ensures.fault
    (λ is. c.in_err-reply.ensures.may_store told (ap (λ (x : ClientFault). Err x) is))
    (λ is. c.in_err-reply.ensures.no_memory told (ap (λ (x : ClientFault). Err x) is))

pub returns-clause-gives : goal.returns-clause-gives
returns-clause-gives g c = λ told.
    commit-replied _ _ _ c.args.part c.args.commit.now c.as_slice.result.now c.in_ok-frame.frame.items
    c.as_slice-2.result.now c.in_ok-reply.reply.items c.of_commit.result c.requires.part
    c.as_slice.ensures.value c.in_ok-frame.ensures.frame (c.in_ok-reply.ensures.answered told)
    c.as_slice-2.ensures.value c.of_commit.ensures

pub returns-clause-cause : goal.returns-clause-cause
returns-clause-cause g c = λ failed. absurd (commit-cause _ c.args.part c.as_slice-2.result.now
    c.of_commit.result c.of_commit.ensures failed)
