-- The question has a frame.
use Rattle.std.proofs.Common.{Err, ap}
use Rattle.std.proofs.lemmas.Str.{is_utf8-from_IsUtf8}
use Rattle.pc_model.specs.Messages.{commit_request_body, frame_spelling}
use Rattle.pc_offset_client.specs.Client.{commit_question}
use Rattle.pc_offset_client.proofs.ClientLaws.{question-fits_by}
use Rattle.pc_offset_client.proofs.question.commit_frame.Goals as goal

pub unreachable-requires : goal.unreachable-requires
unreachable-requires c =
    c.in-Err-TooLong.ensures.too_long (ap (λ f. Err f) c.in-Err-TooLong.field-0-is)
    (frame_spelling (commit_request_body (commit_question c.args.id c.args.part c.args.commit.now)))
    (question-fits_by c.args.id c.args.part c.args.commit.now c.part_id.result c.offset.result
    c.as_str.result.now c.part_id.ensures c.offset.ensures c.as_str.ensures c.ranges.id c.requires.part
    c.requires.position c.requires.map (is_utf8-from_IsUtf8 _ c.as_str.utf8))
