-- The map that was read, or none.
use Rattle.std.proofs.Common.{inl, inr}
use Rattle.pc_commit.proofs.ResumeLemmas.{IsMapOf-read, IsMapOf-refused, refusal-none}
use Rattle.pc_commit.proofs.stored.stored_map.Goals as goal

pub returns-in-Ok-clause-map : goal.returns-in-Ok-clause-map
returns-in-Ok-clause-map c = IsMapOf-read c.args.stored.now c.in-Ok.map
    (rw (c.as_bytes.ensures.value, c.as_str.ensures) at c.in-Ok.ensures.bits) c.in-Ok.ensures.base

pub returns-in-None-clause-map : goal.returns-in-None-clause-map
returns-in-None-clause-map c = elim c.in-Err.ensures.fault [
  | inl memory ↦ absurd (refusal-none c.args.rule c.in-Err.fault c.in-None.ensures memory)
  | inr refused ↦ IsMapOf-refused c.args.stored.now c.in-Err.fault (rw (c.as_bytes.ensures.value, c.as_str.ensures) at refused)
]
