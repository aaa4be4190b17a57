-- A line cut at its spaces.
use Rattle.std.proofs.Common.{◌≡◌, ℕ, ◌+◌, Bool, true, false, cond, List, [], ◌∷◌, length, take, drop, Some, None, refl, arith}
use Rattle.std.specs.Prelude.{position}
use Rattle.std.specs.List.{position_or_len, slice_split}
use Rattle.std.proofs.lemmas.Bool.{ltb-true, ltb-false}
use Rattle.std.proofs.lemmas.List.Sums.{fails_before_first}
use Rattle.std.proofs.lemmas.List.Splits.{slice_split_none, slice_split_first}
use Rattle.std.proofs.lemmas.Option.{cond_some}
use Rattle.pc_lines.specs.Pieces.{is_space}

none_then_false : {A : Type 0} (b : Bool) (x : A) → cond b (Some x) None ≡ None → b ≡ false
none_then_false true x e = absurd cc
none_then_false false x e = refl

-- the first word ends at the first space
pub slice_split-found : (line : List ℕ) (at : ℕ) → position is_space line ≡ Some at → slice_split is_space line ≡ take at line ∷ slice_split is_space (drop (at + 1) line)
slice_split-found line at e =
    let found = cond_some _ _ _ e in
    let first = slice_split_first is_space line 0 (ltb-true _ _ found.0) in
    rw found.1 at first

-- a line without a space is one word
pub slice_split-whole : (line : List ℕ) → position is_space line ≡ None → slice_split is_space line ≡ line ∷ []
slice_split-whole line e =
    let past = ltb-false (position_or_len is_space line) (length line) (none_then_false _ _ e) in
    slice_split_none is_space line (λ k d lt. fails_before_first is_space line k d (omega arith))
