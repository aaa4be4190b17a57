-- The logs so far are read.
use Rattle.std.proofs.Common.{◌≡◌, ◌≤◌, List, ℕ, map, take, length}
use Rattle.pc_inputs.specs.Reading.{text_of}
use Rattle.pc_inputs.proofs.ReadingLemmas.{AreRead, IsLater}
use Rattle.pc_inputs.proofs.reading.read_logs.Given as goal

abbrev pub invariant-loop-name : goal.invariant-loop-name
invariant-loop-name g l = record {
  read : AreRead (map (λ n. n.now) (take l.name-index l.names)) (g.F.Files.told l.fn.files)
      (g.F.Files.faults l.fn.files) (g.F.Files.faults l.files) (map text_of l.logs.items) l.used;
  fits : l.used ≤ 268_435_456;
  many : length l.logs.items ≡ l.name-index;
  keeps : (n : List ℕ) → g.F.Files.told l.files n ≡ g.F.Files.told l.fn.files n;
  count : IsLater (g.F.Files.faults l.fn.files) (g.F.Files.faults l.files);
}
