-- First the bits in the last byte, and then the others.
use Rattle.std.proofs.Common.{◌≡◌, ◌⊎◌, ℕ, ◌+◌, ◌-◌, ◌%◌, arith, inl, inr, min}
use Rattle.std.proofs.lemmas.Bool.{cases_lt}
use Rattle.std.proofs.lemmas.Result.{on_ok_weaker}
use Rattle.pc_bitset.proofs.PackingLemmas.{AppendsBits-more}
use Rattle.pc_bitset.proofs.packing.append.Goals as goal

-- the bits are all within the last byte, or fill it
fills : (n place within : ℕ) → within ≡ min n ((8 - place % 8) % 8) → (n ≡ within) ⊎ ((place + within) % 8 ≡ 0)
fills n place within is = elim (cases_lt n ((8 - place % 8) % 8)) [
  | inl less ↦ inl (omega (arith, is, less))
  | inr more ↦ inr (omega (arith, is, more))
]

pub returns : goal.returns
returns c =
    on_ok_weaker c.append_whole.result
    (AppendsBits-more c.args.place c.min-within.result c.args.n c.args.bit c.args.out.now.items c.append_within.new.out.items c.append_whole.new.out.items
    (omega (arith, c.min-within.ensures)) (fills c.args.n c.args.place c.min-within.result c.min-within.ensures) c.append_within.ensures)
    c.append_whole.ensures
