use Rattle.std.proofs.Common.{◌≡◌, refl, ap, ◌∙◌}
use Rattle.pc_model.specs.MessageReading.{fetch_request_reading}
use Rattle.pc_offset_wire.specs.declared.tests.TheConstants.{FETCH}
use Rattle.pc_offset_wire.proofs.CountLemmas.{fetch_count}
use Rattle.pc_offset_wire.proofs.OnLiterals.{frames_on_literals}
use Rattle.pc_offset_wire.proofs.tests.texts_that_are_too_long.Goals as goal

one : 1 ≡ fetch_count (fetch_request_reading FETCH)
unfolding frames_on_literals
one = refl

pub write_fetch_reply-requires-clause-count : goal.write_fetch_reply-requires-clause-count
write_fetch_reply-requires-clause-count g c = one ∙ ap fetch_count c.in_ok-request.ensures.exact
