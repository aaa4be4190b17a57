-- The bits of a map that was read.
use Rattle.std.specs.Prelude.{Bool, List, [], Option}
use Rattle.std.specs.Option.{option_map_or}
use Rattle.pc_offset_map.specs.declared.map.OffsetMap.{OffsetMap}

-- the bits of a map, and none where there is no map
abbrev pub bits_in : Option OffsetMap → List Bool
bits_in map = option_map_or (λ m. m.bits) map []
