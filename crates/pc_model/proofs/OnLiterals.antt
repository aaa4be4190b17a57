-- A name under which the definitions compute on histories that are written out.
use Rattle.std.specs.Bool.{⊤}
use Rattle.std.specs.Fmt.{digits}
use Rattle.base64.proofs.OnLiterals.{base64_on_literals}
use Rattle.hex.specs.Hex.{encode_with}
use Rattle.pc_model.specs.MapSpelling.{spelling_of}
use Rattle.pc_model.specs.MapReading.{map_reading}
use Rattle.pc_model.specs.BestMap.{best_map, shortest_text, text_of}
use Rattle.pc_model.specs.Stored.{map_bits, map_end, passes}
use Rattle.pc_model.specs.Marks.{high_at, end_at, position_at, bits_at, commit_at}
use Rattle.pc_model.specs.Known.{polled_records, unpolled_records, known_records, is_complete, marks_of}
use Rattle.pc_model.specs.Outcomes.{ticket_outcome, ticket_attempt}
use Rattle.pc_model.specs.Next.{is_busy, is_first, is_eligible_record, eligible_offsets, next_record}
use Rattle.pc_model.specs.Lawful.{is_stored, is_finished}
use Rattle.pc_model.specs.Run.{open_records, poll_number, is_given_up, is_at_rest, next_time}

-- write it on an `unfolding` line
unfoldable pub history_on_literals : ⊤
unfolding digits base64_on_literals encode_with spelling_of map_reading best_map shortest_text text_of map_bits map_end passes high_at end_at position_at bits_at commit_at polled_records unpolled_records known_records is_complete marks_of ticket_outcome ticket_attempt is_busy is_first is_eligible_record eligible_offsets next_record is_stored is_finished open_records poll_number is_given_up is_at_rest next_time
history_on_literals = tt
