-- The reply has an entry for each part.
use Rattle.std.proofs.Common.{◌∙◌, List, Err, length, map, ap, sym, subst}
use Rattle.std.proofs.lemmas.List.{length-map}
use Rattle.std.proofs.lemmas.Result.{err_from_is_err_and}
use Rattle.pc_model.specs.Broker.{Fetches, fetch_entry}
use Rattle.pc_offset_wire.specs.declared.fetch.FetchEntry.{FetchEntry}
use Rattle.pc_offset_wire.specs.declared.write_fault.WireWriteFault.{WireWriteFault}
use Rattle.pc_offset_wire.specs.Views.{plain_fetch_entry, plain_fetch_request}
use Rattle.pc_world.specs.World.{AreStorable}
use Rattle.pc_offset_store.proofs.AnswerLemmas.{length-answers}
use Rattle.pc_offset_store.proofs.PositionLemmas.{are-answerable}
use Rattle.pc_offset_store.proofs.StepLemmas.{fetches-long, fetches-step, refused}
use Rattle.pc_offset_store.proofs.broker.OffsetBroker.fetched.Goals as goal

pub write_fetch_reply-requires-clause-count : goal.write_fetch_reply-requires-clause-count
write_fetch_reply-requires-clause-count c =
    let r = plain_fetch_request c.args.request.now in
    ap length c.as_slice.ensures.value ∙ sym (length-map c.in_ok-entries.entries.items plain_fetch_entry)
    ∙ ap length c.in_ok-entries.ensures ∙ length-answers (fetch_entry c.args.self.now r.group) r.topics

pub write_fetch_reply-requires-clause-positions : goal.write_fetch_reply-requires-clause-positions
write_fetch_reply-requires-clause-positions c =
    let b = c.args.self.now in
    let are = ap (λ (es : List FetchEntry). map plain_fetch_entry es) c.as_slice.ensures.value ∙ c.in_ok-entries.ensures in
    are-answerable b (plain_fetch_request c.args.request.now) (subst AreStorable c.self.view_is c.self.invariant)
    c.as_slice.result.now are

pub returns-in_err-write_fetch_reply-clause-reply : goal.returns-in_err-write_fetch_reply-clause-reply
returns-in_err-write_fetch_reply-clause-reply c =
    let p = err_from_is_err_and c.from_residual-in_err-write_fetch_reply.result c.from_residual-in_err-write_fetch_reply.ensures.1 in
    let b = c.args.self.now in
    let r = plain_fetch_request c.args.request.now in
    let are = ap (λ (es : List FetchEntry). map plain_fetch_entry es) c.as_slice.ensures.value ∙ c.in_ok-entries.ensures in
    rw (p.1, p.2) (refused (λ v. v.items) (Fetches r) b c.in_err-write_fetch_reply.field-0.0
    (λ e. fetches-long b r c.as_slice.result.now are (subst AreStorable c.self.view_is c.self.invariant)
    c.requires.correlation c.requires.topics
    (c.in_err-write_fetch_reply.ensures.too_long (ap (λ (f : WireWriteFault). Err f) e))))

pub returns-clause-reply : goal.returns-clause-reply
returns-clause-reply c =
    let are = ap (λ (es : List FetchEntry). map plain_fetch_entry es) c.as_slice.ensures.value ∙ c.in_ok-entries.ensures in
    fetches-step c.args.self.now (plain_fetch_request c.args.request.now) c.as_slice.result.now are
    c.in_ok-write_fetch_reply.field-0.items c.in_ok-write_fetch_reply.ensures.frame

pub returns-in_err-write_fetch_reply-clause-storable : goal.returns-in_err-write_fetch_reply-clause-storable
returns-in_err-write_fetch_reply-clause-storable c = subst AreStorable c.self.view_is c.self.invariant

pub returns-clause-storable : goal.returns-clause-storable
returns-clause-storable c = subst AreStorable c.self.view_is c.self.invariant
