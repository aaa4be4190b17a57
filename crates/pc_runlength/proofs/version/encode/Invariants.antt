-- The bytes of the lengths so far, all of which fit.
use Rattle.std.proofs.Common.{◌≡◌, ◌++◌, true}
use Rattle.std.specs.List.{flat_map, list_all}
use Rattle.byteorder.specs.Endian.{big_bytes}
use Rattle.pc_model.specs.MapSpelling.{number_fits, run_lengths}
use Rattle.pc_runlength.proofs.version.encode.Given as goal

abbrev pub invariant-loop-n : goal.invariant-loop-n
invariant-loop-n l = (l.yielded ++ l.n-iterator ≡ run_lengths l.bits)
    × (l.out.items ≡ flat_map (big_bytes l.width) l.yielded) × (list_all (number_fits l.width) l.yielded ≡ true)
