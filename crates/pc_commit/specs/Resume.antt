-- What a part knows at its assignment, by the stored commit.
use Rattle.std.specs.Prelude.{◌≡◌, ℕ, Bool, nat_le, nat_lt, List, [], map, filter, Option, Some, None, Result, Ok, Err, IfSome}
use Rattle.std.specs.Option.{option_map_or}
use Rattle.pc_model.specs.declared.choices.BadMapRule.{BadMapRule}
use Rattle.pc_model.specs.declared.choices.BadMapRule.TheVariants.{Redo, Refuse}
use Rattle.pc_model.specs.declared.commit.Commit.{Commit}
use Rattle.pc_model.specs.declared.map_fault.MapFault.{MapFault}
use Rattle.pc_model.specs.MapReading.{map_reading}
use Rattle.pc_model.specs.Marks.{Mark}
use Rattle.pc_model.specs.Record.{Record}
use Rattle.pc_model.specs.Stored.{map_bits, map_end, passes}
use Rattle.pc_model.specs.declared.map_fault.MapFault.TheVariants.{NoMemory}
use Rattle.pc_offset_map.specs.declared.map.OffsetMap.{OffsetMap}
use Rattle.pc_commit.specs.declared.fault.ResumeFault.{ResumeFault}
use Rattle.pc_commit.specs.declared.fault.ResumeFault.TheVariants.{BadMap, NoMemory as ResumeNoMemory}

-- the fault of a map's reading
abbrev pub reading_fault : {A : Type 0} → Result A MapFault → Option MapFault
reading_fault (Ok bits) = None
reading_fault (Err fault) = Some fault

-- why a stored commit is refused: under that rule, where its map does not read
abbrev pub map_refusal : BadMapRule → Commit → Option MapFault
map_refusal Redo c = None
map_refusal Refuse c = reading_fault (map_reading c.position c.map)

-- what a fault of the reading makes of a resumption; only `NoMemory` does not ask the rule
abbrev pub refusal_of : BadMapRule → MapFault → Option ResumeFault
refusal_of rule NoMemory = Some ResumeNoMemory
refusal_of Redo fault = None
refusal_of Refuse fault = Some (BadMap fault)

-- the records from the position on that the map says something about
abbrev pub mapped_records : Commit → List Record → List Record
mapped_records c records = filter (λ r. nat_lt r.offset (map_end c)) (filter (λ r. nat_le c.position r.offset) records)

-- each of them with whether the commit passes over it
abbrev pub resumed_marks : Commit → List Record → List Mark
resumed_marks c records = map (λ r. record { offset = r.offset; is_complete = passes c r.offset }) (mapped_records c records)

-- the same as pairs
abbrev pub resumed_pairs : Commit → List Record → List (ℕ × Bool)
resumed_pairs c records = map (λ r. (r.offset, passes c r.offset)) (mapped_records c records)

-- the map is that of the commit; a map that does not read has no bits
pub record IsMapOf (c : Commit) (m : Option OffsetMap) : Type 0 where
  pub bits : option_map_or (λ (m : OffsetMap). m.bits) m [] ≡ map_bits c
  pub base : IfSome m (λ m. m.base ≡ c.position)
