use Rattle.std.proofs.Common.{◌≡◌, refl, ap, ◌∙◌}
use Rattle.pc_model.specs.MessageReading.{commit_request_reading, fetch_request_reading}
use Rattle.pc_offset_wire.specs.declared.tests.TheConstants.{LONG_REQUEST, LONG_FETCH}
use Rattle.pc_offset_wire.proofs.CountLemmas.{commit_count, fetch_count}
use Rattle.pc_offset_wire.proofs.OnLiterals.{frames_on_literals}
use Rattle.pc_offset_wire.proofs.tests.replies_to_several_topics.Goals as goal

three_items : 3 ≡ commit_count (commit_request_reading LONG_REQUEST)
unfolding frames_on_literals
three_items = refl

three_parts : 3 ≡ fetch_count (fetch_request_reading LONG_FETCH)
unfolding frames_on_literals
three_parts = refl

pub write_commit_reply-requires : goal.write_commit_reply-requires
write_commit_reply-requires g c = three_items ∙ ap commit_count c.in_ok-request.ensures.exact

pub write_fetch_reply-requires-clause-count : goal.write_fetch_reply-requires-clause-count
write_fetch_reply-requires-clause-count g c = three_parts ∙ ap fetch_count c.in_ok-request-2.ensures.exact
