-- What files in memory tell.
use Rattle.std.specs.Prelude.{ℕ, List, Option, option_map, find, bytes_eq, string_bytes}
use Rattle.pc_world.specs.declared.memory_files.MemoryFiles.{MemoryFiles}

-- the contents of the file of a name, if there is one
abbrev pub contents_of : MemoryFiles → List ℕ → Option (List ℕ)
contents_of files name = option_map (λ f. f.bytes.items) (find (λ f. bytes_eq (string_bytes f.name) name) files.files.items)
