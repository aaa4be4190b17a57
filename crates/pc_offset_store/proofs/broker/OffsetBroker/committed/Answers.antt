-- The reply has a code for each item, and what was accepted is stored.
use Rattle.std.proofs.Common.{◌≡◌, ◌∙◌, List, length, map, ap, sym, subst, Err}
use Rattle.pc_offset_wire.specs.declared.write_fault.WireWriteFault.{WireWriteFault}
use Rattle.std.specs.List.{AllByRecursion}
use Rattle.std.specs.String.{string_bytes}
use Rattle.std.proofs.lemmas.Result.{err_from_is_err_and}
use Rattle.pc_model.specs.Broker.{Broker, Commits, Stored, item_code}
use Rattle.pc_world.specs.World.{AreStorable, IsStorable}
use Rattle.pc_offset_wire.specs.Views.{plain_commit_request}
use Rattle.pc_offset_store.specs.Store.{membership_of, put_each, stored_of}
use Rattle.pc_offset_store.specs.declared.commits.GroupCommit.{GroupCommit}
use Rattle.pc_offset_store.proofs.AcceptedLemmas.{accepted-hold}
use Rattle.pc_offset_store.proofs.AnswerLemmas.{length-answers}
use Rattle.pc_offset_store.proofs.FoldLemmas.{storing}
use Rattle.pc_offset_store.proofs.PutLemmas.{all-put_each}
use Rattle.pc_offset_store.proofs.StepLemmas.{commits-done, commits-long, refused}
use Rattle.pc_offset_store.proofs.broker.OffsetBroker.committed.Goals as goal

abbrev Holds : Stored → Type 0
Holds s = IsStorable s.commit

pub write_commit_reply-requires : goal.write_commit_reply-requires
write_commit_reply-requires c =
    let r = plain_commit_request c.args.request.now in
    ap length (c.as_slice.ensures.value ∙ c.in_ok-codes.ensures.codes) ∙ length-answers (item_code c.args.self.now r) r.topics

pub returns-in_err-reply-clause-reply : goal.returns-in_err-reply-clause-reply
returns-in_err-reply-clause-reply c =
    let p = err_from_is_err_and c.from_residual-in_err-reply.result c.from_residual-in_err-reply.ensures.1 in
    let r = plain_commit_request c.args.request.now in
    let b = c.args.self.now in
    let are = c.as_slice.ensures.value ∙ c.in_ok-codes.ensures.codes in
    rw (p.1, p.2) (refused (λ v. v.items) (Commits r) b c.in_err-reply.field-0.0
    (λ e. commits-long b r c.as_slice.result.now are c.requires.correlation c.requires.topics (c.in_err-reply.ensures.too_long (ap (λ (f : WireWriteFault). Err f) e))))

pub invariant_of-self-2 : goal.invariant_of-self-2
invariant_of-self-2 c =
    let b = c.args.self.now in
    let r = plain_commit_request c.args.request.now in
    let before = map stored_of c.self.inside.commits.items in
    let put = c.put_all.ensures
    ∙ ap (λ (items : List GroupCommit). put_each (map stored_of c.in_ok-codes.field-0.accepted.items) (map stored_of items)) c.reserve.ensures.items in
    let may : AllByRecursion Holds (map stored_of c.in_ok-codes.field-0.accepted.items) =
    subst (AllByRecursion Holds) (sym c.in_ok-codes.ensures.accepted) (accepted-hold b r r.topics c.requires.topics.each) in
    subst (AllByRecursion Holds) (sym put) (all-put_each Holds (map stored_of c.in_ok-codes.field-0.accepted.items) before may c.self.invariant)

pub returns-clause-reply : goal.returns-clause-reply
returns-clause-reply c =
    let b = c.args.self.now in
    let r = plain_commit_request c.args.request.now in
    let inside = c.self.inside in
    let accepted = map stored_of c.in_ok-codes.field-0.accepted.items in
    let put = c.put_all.ensures
    ∙ ap (λ (items : List GroupCommit). put_each accepted (map stored_of items)) c.reserve.ensures.items in
    let with_commits : List Stored → Broker = λ (commits : List Stored). record {
      topic = string_bytes inside.topic;
      parts = inside.parts;
      commits = commits;
      memberships = map membership_of inside.groups.items;
    } in
    let after = with_commits (map stored_of c.put_all.new.commits.items) in
    let stored : after ≡ storing b (put_each accepted b.commits) =
    ap with_commits put ∙ ap (λ (x : Broker). storing x (put_each accepted x.commits)) c.self.view_is in
    commits-done b after r c.as_slice.result.now accepted c.in_ok-reply.reply.items
    (c.as_slice.ensures.value ∙ c.in_ok-codes.ensures.codes) c.in_ok-codes.ensures.accepted stored
    c.in_ok-reply.ensures.frame

pub returns-in_err-reply-clause-storable : goal.returns-in_err-reply-clause-storable
returns-in_err-reply-clause-storable c = subst AreStorable c.self.view_is c.self.invariant

pub returns-clause-storable : goal.returns-clause-storable
returns-clause-storable c = subst AreStorable c.self.view_is c.self.invariant
