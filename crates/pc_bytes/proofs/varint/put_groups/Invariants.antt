use Rattle.std.proofs.Common.{◌≡◌, ◌≤◌, ◌<◌, ◌-◌, ◌*◌, ◌^◌, ◌++◌, length, take}
use Rattle.pc_bytes.specs.Varint.{groups_of}
use Rattle.pc_bytes.proofs.varint.put_groups.Given as goal

-- the groups so far, and those of what is left
abbrev pub invariant-loop-rest : goal.invariant-loop-rest
invariant-loop-rest l = record {
  told : take l.len l.groups ++ groups_of (9 - l.len) l.rest ≡ groups_of 9 l.unsigned;
  size : length l.groups ≡ 10;
  room : l.len ≤ 9;
  left : l.rest < 2 ^ (64 - 7 * l.len);
}

abbrev pub decreases-loop-rest : goal.decreases-loop-rest
decreases-loop-rest l = l.rest
