-- The offsets that a commit passes over, once its map is read.
use Rattle.std.specs.Prelude.{ℕ, ◌-◌, ◌≡◌, nat_lt, Bool, false, not, ◌||◌, List, filter, slice_index_or}
use Rattle.std.specs.List.{flat_map}
use Rattle.pc_model.specs.declared.choices.Work.{Work}
use Rattle.pc_model.specs.declared.commit.Commit.{Commit}
use Rattle.pc_model.specs.Record.{Record}
use Rattle.pc_model.specs.Stored.{map_bits}
use Rattle.pc_print.specs.MapBits.{bits_in}
use Rattle.pc_print.specs.Summary.{record_line}
use Rattle.pc_print.specs.declared.passed.Passed.{Passed}

-- whether what was read passes over the offset
unfoldable pub is_over : Passed → ℕ → Bool
is_over passed o = nat_lt o passed.position
    || slice_index_or (bits_in passed.map) (o - passed.position) false

-- this was read of the commit; a map that does not read has no bits
pub record IsReadOf (c : Commit) (passed : Passed) : Type 0 where
  pub position : passed.position ≡ c.position
  pub bits : bits_in passed.map ≡ map_bits c

-- the lines of the records of a part over which it does not pass
abbrev pub lines_past : Work → ℕ → Passed → List Record → List ℕ
lines_past work p passed records = flat_map (record_line work p)
    (filter (λ r. not (is_over passed r.offset)) records)
