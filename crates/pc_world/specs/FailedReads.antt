-- How often the reads of a file have failed.
use Rattle.std.specs.Prelude.{ℕ, List, bytes_eq, string_bytes, if◌then◌else◌}
use Rattle.std.specs.List.{sum_by}
use Rattle.pc_world.specs.declared.failed_reads.FailedReads.{FailedReads}

-- how many of the names are this one
abbrev pub count_of : FailedReads → List ℕ → ℕ
count_of failed name =
    sum_by (λ s. if bytes_eq (string_bytes s) name then 1 else 0) failed.names.items
