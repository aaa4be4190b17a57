-- The groups that a writer has put, and those of what is left.
use Rattle.std.proofs.Common.{◌≡◌, ℕ, zero, suc, ◌+◌, ◌*◌, ◌-◌, ◌/◌, ◌%◌, ◌^◌, ◌<◌, ◌≤◌, List, [], ◌∷◌, ◌++◌, length, take, set, refl, sym, ap, subst, ◌∙◌, inl, inr, arith, append_assoc}
use Rattle.std.proofs.Math.Pow.{pow-add}
use Rattle.std.proofs.lemmas.Bool.{cases_lt, le-ltb, lt-ltb}
use Rattle.std.proofs.lemmas.List.{take_more_set}
use Rattle.pc_bytes.specs.Varint.{groups_of}

-- a number of one group
groups_of-low : (more u : ℕ) → u < 128 → groups_of more u ≡ u ∷ []
unfolding groups_of
groups_of-low zero u h = refl
groups_of-low (suc more) u h = rw (lt-ltb u 128 h) refl

groups_of-high : (more u : ℕ) → 128 ≤ u → groups_of (suc more) u ≡ (u % 128 + 128) ∷ groups_of more (u / 128)
unfolding groups_of
groups_of-high more u h = let turned : 128 + u % 128 ≡ u % 128 + 128 = omega arith in rw (le-ltb u 128 h, turned) refl

-- one group put, and more left
pub put-step : (groups : List ℕ) (len rest x : ℕ) (whole : List ℕ) → len < length groups → len < 9 → 128 ≤ rest → x ≡ rest / 128 → take len groups ++ groups_of (9 - len) rest ≡ whole
    → take (len + 1) (set groups len (rest % 128 + 128)) ++ groups_of (9 - (len + 1)) x ≡ whole
put-step groups len rest x whole room few high x-is told =
    let counted : 9 - len ≡ suc (9 - (len + 1)) = omega arith in
    let before = ap (λ (k : ℕ). take len groups ++ groups_of k rest) counted ∙ ap (λ (l : List ℕ). take len groups ++ l) (groups_of-high (9 - (len + 1)) rest high) in
    rw (x-is, take_more_set groups len (rest % 128 + 128) room) (append_assoc (take len groups) ((rest % 128 + 128) ∷ []) (groups_of (9 - (len + 1)) (rest / 128)) ∙ sym before ∙ told)

-- the last group put
pub put-last : (groups : List ℕ) (len rest : ℕ) (whole : List ℕ) → len < length groups → rest < 128 → take len groups ++ groups_of (9 - len) rest ≡ whole → take (len + 1) (set groups len rest) ≡ whole
put-last groups len rest whole room low told =
    take_more_set groups len rest room ∙ ap (λ (l : List ℕ). take len groups ++ l) (sym (groups_of-low (9 - len) rest low)) ∙ told

-- what is left of 64 bits
pub left-step : (len rest : ℕ) → len ≤ 9 → rest < 2 ^ (64 - 7 * len) → 128 ≤ rest → (len < 9) × (rest / 128 < 2 ^ (64 - 7 * (len + 1)))
left-step len rest room left high =
    elim (cases_lt len 9) [
      | inl few ↦ (
        few,
        (
            let counted : 64 - 7 * len ≡ (64 - 7 * (len + 1)) + 7 = omega arith in
            let split : 2 ^ (64 - 7 * len) ≡ 2 ^ (64 - 7 * (len + 1)) * 128 = ap (λ (k : ℕ). 2 ^ k) counted ∙ pow-add 2 (64 - 7 * (len + 1)) 7 in
            omega arith),
      )
      | inr most ↦ (
          let one : 64 - 7 * len ≡ 1 = omega arith in
          let small : rest < 2 ^ 1 = subst (λ (k : ℕ). rest < 2 ^ k) one left in
          absurd (omega arith))
    ]
