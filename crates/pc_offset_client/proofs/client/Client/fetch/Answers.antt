-- The question has a frame, and what comes back is what the laws say.
use Rattle.std.proofs.Common.{Err, ap}
use Rattle.pc_offset_client.specs.declared.fault.ClientFault.{ClientFault}
use Rattle.pc_offset_client.proofs.ClientLaws.{fetch-cause, fetch-reads, fetch-replied, fetch-unsent}
use Rattle.pc_offset_client.proofs.client.Client.fetch.Goals as goal

pub send-requires-clause-reads : goal.send-requires-clause-reads
send-requires-clause-reads g c = fetch-reads c.as_slice.result.now c.in_ok-frame.frame.items _
    c.as_slice.ensures.value c.in_ok-frame.ensures.frame

pub returns-in_err-reply-clause-keeps : goal.returns-in_err-reply-clause-keeps
returns-in_err-reply-clause-keeps g c = λ told.
    fetch-unsent _ _ _ c.args.part c.as_slice.result.now c.in_ok-frame.frame.items
    c.in_err-reply.field-0.0 c.as_slice.ensures.value c.in_ok-frame.ensures.frame
    c.in_err-reply.ensures.fault
    (λ is. c.in_err-reply.ensures.may_store told (ap (λ (x : ClientFault). Err x) is))
    (λ is. c.in_err-reply.ensures.no_memory told (ap (λ (x : ClientFault). Err x) is))

pub returns-clause-gives : goal.returns-clause-gives
returns-clause-gives g c = λ told.
    (fetch-replied _ _ _ c.args.part c.as_slice.result.now c.in_ok-frame.frame.items
    c.as_slice-2.result.now c.in_ok-reply.reply.items c.of_fetch.result c.requires
    (c.in_ok-reply.ensures.storable told)
    c.as_slice.ensures.value c.in_ok-frame.ensures.frame (c.in_ok-reply.ensures.answered told)
    c.as_slice-2.ensures.value c.of_fetch.ensures.answer).0

pub returns-clause-keeps : goal.returns-clause-keeps
returns-clause-keeps g c = λ told.
    (fetch-replied _ _ _ c.args.part c.as_slice.result.now c.in_ok-frame.frame.items
    c.as_slice-2.result.now c.in_ok-reply.reply.items c.of_fetch.result c.requires
    (c.in_ok-reply.ensures.storable told)
    c.as_slice.ensures.value c.in_ok-frame.ensures.frame (c.in_ok-reply.ensures.answered told)
    c.as_slice-2.ensures.value c.of_fetch.ensures.answer).1

pub returns-clause-cause : goal.returns-clause-cause
returns-clause-cause g c = λ failed. absurd (fetch-cause _ c.args.part c.as_slice-2.result.now
    c.of_fetch.result c.of_fetch.ensures.answer failed)
