-- What follows from a part's begin and from which of its known offsets are complete.
use Rattle.std.specs.Prelude.{ℕ, ◌+◌, Bool, not, List, [], map, Option, filter, unwrap_or}
use Rattle.std.specs.Option.{option_map_or}
use Rattle.pc_model.specs.declared.commit.SizedCommit.{SizedCommit}
use Rattle.pc_model.specs.Numbers.{least_of, greatest_of}
use Rattle.pc_model.specs.Bits.{bits_between}
use Rattle.pc_model.specs.BestMap.{best_map}

-- a known offset, and whether it is complete
pub record Mark : Type 0 where
  pub offset : ℕ
  pub is_complete : Bool

-- the known offsets
abbrev pub offsets_of : List Mark → List ℕ
offsets_of marks = map (λ m. m.offset) marks

-- those that are complete
abbrev pub complete_offsets : List Mark → List ℕ
complete_offsets marks = offsets_of (filter (λ m. m.is_complete) marks)

-- those that are not
abbrev pub incomplete_offsets : List Mark → List ℕ
incomplete_offsets marks = offsets_of (filter (λ m. not m.is_complete) marks)

-- the greatest complete offset, if there is one
unfoldable pub high_at : List Mark → Option ℕ
high_at marks = greatest_of (complete_offsets marks)

-- the offset after the known ones, which is the begin where none is known
unfoldable pub end_at : ℕ → List Mark → ℕ
end_at begin marks = option_map_or (λ o. o + 1) (greatest_of (offsets_of marks)) begin

-- the least incomplete offset, or else the offset after the known ones
unfoldable pub position_at : ℕ → List Mark → ℕ
position_at begin marks = unwrap_or (least_of (incomplete_offsets marks)) (end_at begin marks)

-- the completion bits from the position to the greatest complete offset, and none where there is no
-- such offset
unfoldable pub bits_at : ℕ → List Mark → List Bool
bits_at begin marks = option_map_or
    (λ high. bits_between (position_at begin marks) high (incomplete_offsets marks)) (high_at marks)
    []

-- the commit of a part: its position, and the best map of its completion bits within the limit
unfoldable pub commit_at : ℕ → ℕ → List Mark → SizedCommit
commit_at limit begin marks = let best = best_map (bits_at begin marks) limit in
    record {
      commit = record { position = position_at begin marks; map = best.text };
      size =
          best.size;
    }
