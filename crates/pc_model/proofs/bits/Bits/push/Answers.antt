-- One bit n times more.
use Rattle.std.proofs.Common.{◌≡◌, ◌⊎◌, true, length, arith, ap, inl, inr}
use Rattle.pc_model.proofs.BitsLemmas.{AreBits-push, AreBits-push_zeros, bits_of-push, bits_of-push_zeros, length-view}
use Rattle.pc_model.proofs.bits.Bits.push.Goals as goal
use Rattle.pc_model.proofs.bits.Bits.push.Goals.{then-bit-via-then-bit, then-bit-via-else-bit+then-n-eq0}

pub invariant_of-self : goal.invariant_of-self
invariant_of-self c =
    let count = ap length c.self.view_is in
    let is = length-view _ _ c.self.invariant in
    AreBits-push _ _ _ (omega (arith, count, is, c.requires)) c.self.invariant

pub returns-then-bit-clause-ok : goal.returns-then-bit-clause-ok
returns-then-bit-clause-ok c =
    let one : (c.args.bit ≡ true) ⊎ (c.args.n ≡ 0) = elim c.then-bit.branch [
      | then-bit-via-then-bit w ↦ inl w.if-bit.true
      | then-bit-via-else-bit+then-n-eq0 w ↦ inr w.if-n-eq0.true
    ] in
    rw (← c.self.view_is) (bits_of-push _ _ _ _ one c.self.invariant)

pub append_zeros-requires-clause-small : goal.append_zeros-requires-clause-small
append_zeros-requires-clause-small c =
    let count = ap length c.self.view_is in
    let is = length-view _ _ c.self.invariant in
    omega (arith, count, is, c.requires)

pub invariant_of-self-2 : goal.invariant_of-self-2
invariant_of-self-2 c =
    let count = ap length c.self.view_is in
    let is = length-view _ _ c.self.invariant in
    let few = rw c.in_ok-append_zeros.ensures.ok at c.in_ok-append_zeros.ensures.few in
    rw c.in_ok-append_zeros.ensures.ok
    (AreBits-push_zeros _ _ _ (omega arith) few (omega (arith, count, is, c.requires)) c.self.invariant)

pub returns-clause-ok : goal.returns-clause-ok
returns-clause-ok c =
    rw (c.in_ok-append_zeros.ensures.ok, ← c.self.view_is, c.if-bit.false)
    (bits_of-push_zeros _ _ _ c.self.invariant)
