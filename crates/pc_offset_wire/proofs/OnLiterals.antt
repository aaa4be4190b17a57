-- The readings at frames that are written out: a proof with the line `unfolding frames_on_literals` computes
-- them.
use Rattle.std.specs.Prelude.{⊤}
use Rattle.std.specs.Char.{encode_utf8}
use Rattle.std.specs.Str.{is_utf8, chars}
use Rattle.pc_model.specs.MessageReading.{size_at, text_at, string_at, nullable_of, nullable_at, items_at, array_at, topic_at, fixed_at, position_at, commit_item_at, commit_code_at, part_id_at, entry_at, body_at, header_at, commit_request_at, commit_reply_at, fetch_request_at, fetch_reply_at, frame_reading}

unfoldable pub frames_on_literals : ⊤
unfolding encode_utf8 is_utf8 chars size_at text_at string_at nullable_of nullable_at items_at array_at topic_at fixed_at position_at commit_item_at commit_code_at part_id_at entry_at body_at header_at commit_request_at commit_reply_at fetch_request_at fetch_reply_at frame_reading
frames_on_literals = tt
