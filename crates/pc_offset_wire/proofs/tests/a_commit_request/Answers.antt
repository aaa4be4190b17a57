use Rattle.std.proofs.Common.{◌≡◌, refl, ap, ◌∙◌}
use Rattle.pc_model.specs.MessageReading.{commit_request_reading}
use Rattle.pc_offset_wire.specs.declared.tests.TheConstants.{REQUEST}
use Rattle.pc_offset_wire.proofs.CountLemmas.{commit_count}
use Rattle.pc_offset_wire.proofs.OnLiterals.{frames_on_literals}
use Rattle.pc_offset_wire.proofs.tests.a_commit_request.Goals as goal

one : 1 ≡ commit_count (commit_request_reading REQUEST)
unfolding frames_on_literals
one = refl

pub write_commit_reply-requires : goal.write_commit_reply-requires
write_commit_reply-requires g c = one ∙ ap commit_count c.in_ok-request.ensures.exact
