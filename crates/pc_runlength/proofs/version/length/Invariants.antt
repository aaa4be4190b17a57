-- So many bytes for the lengths so far, all of which fit.
use Rattle.std.proofs.Common.{◌≡◌, ◌*◌, ◌++◌, true, length}
use Rattle.std.specs.List.{list_all}
use Rattle.pc_model.specs.MapSpelling.{number_fits, run_lengths}
use Rattle.pc_runlength.proofs.version.length.Given as goal

abbrev pub invariant-loop-n : goal.invariant-loop-n
invariant-loop-n l = (l.yielded ++ l.n-iterator ≡ run_lengths l.bits)
    × (l.length ≡ l.width * length l.yielded) × (list_all (number_fits l.width) l.yielded ≡ true)
