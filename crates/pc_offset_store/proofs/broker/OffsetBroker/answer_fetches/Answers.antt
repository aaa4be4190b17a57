-- The frame is a fetch request, whose reply is short where the frame is.
use Rattle.std.proofs.Common.{Ok, Err}
use Rattle.std.proofs.lemmas.Result.{err_from_is_err_and}
use Rattle.pc_model.specs.Broker.{Fetches}
use Rattle.pc_offset_wire.specs.Views.{plain_fetch_request}
use Rattle.pc_offset_store.proofs.BoundLemmas.{fetch-short}
use Rattle.pc_offset_store.proofs.FrameLemmas.{answered-reply, answered-unread, on_ok, fetches-reading}
use Rattle.pc_offset_store.proofs.broker.OffsetBroker.answer_fetches.Goals as goal

pub fetched-requires : goal.fetched-requires
fetched-requires c = let is = c.in_ok-request.ensures.found in record {
  correlation = is.correlation;
  client = is.client;
  group = is.group;
  topics = is.topics;
}

pub returns-in_err-request-clause-answer : goal.returns-in_err-request-clause-answer
returns-in_err-request-clause-answer c =
    let p = err_from_is_err_and c.from_residual.result c.from_residual.ensures.1 in
    let fault = c.in_err-request.field-0.0 in
    rw (p.1, p.2) (answered-unread c.args.self.now c.args.frame.now fault
    (fetches-reading c.args.frame.now (Err fault) c.requires c.in_err-request.ensures.exact))

pub returns-clause-answer : goal.returns-clause-answer
returns-clause-answer c =
    let r = plain_fetch_request c.in_ok-request.request in
    answered-reply (λ v. v.items) c.fetched.result (Fetches r) c.args.frame.now c.args.self.now c.args.self.now
    (fetches-reading c.args.frame.now (Ok r) c.requires c.in_ok-request.ensures.exact)
    (fetch-short c.args.self.now r c.args.frame.now c.fetched.ensures.storable c.in_ok-request.ensures.found) c.fetched.ensures.reply

pub returns-clause-storable : goal.returns-clause-storable
returns-clause-storable c = on_ok c.fetched.result c.fetched.ensures.storable
