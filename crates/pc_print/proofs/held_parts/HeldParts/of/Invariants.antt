-- What the events so far say of the parts.
use Rattle.std.proofs.Common.{◌≡◌, ◌≤◌, take, length, reverse}
use Rattle.pc_print.specs.HeldParts.{AreKept}
use Rattle.pc_print.proofs.held_parts.HeldParts.of.Given as goal

abbrev pub invariant-loop-event : goal.invariant-loop-event
invariant-loop-event l = record {
  kept : AreKept (reverse (take l.event-index (reverse l.journal.events))) l.kept;
  parts : length l.kept.parts ≡ l.parts;
  crashes : l.kept.crashes ≤ l.event-index;
}
