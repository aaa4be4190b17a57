-- The question has a frame.
use Rattle.std.proofs.Common.{Err, ap}
use Rattle.pc_model.specs.Messages.{fetch_request_body, frame_spelling}
use Rattle.pc_offset_client.specs.Client.{fetch_question}
use Rattle.pc_offset_client.proofs.ClientLaws.{fetch_question-fits_by}
use Rattle.pc_offset_client.proofs.question.fetch_frame.Goals as goal

pub unreachable-requires : goal.unreachable-requires
unreachable-requires c =
    c.in-Err-TooLong.ensures.too_long (ap (λ f. Err f) c.in-Err-TooLong.field-0-is)
    (frame_spelling (fetch_request_body (fetch_question c.args.id c.args.part)))
    (fetch_question-fits_by c.args.id c.args.part c.part_id.result c.part_id.ensures c.ranges.id
    c.requires)
