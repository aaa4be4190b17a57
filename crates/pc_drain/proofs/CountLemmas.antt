-- How many results were taken.
use Rattle.std.proofs.Common.{◌≡◌, ◌∙◌, ℕ, zero, suc, ◌+◌, ◌<◌, List, [], ◌∷◌, ◌++◌, length, map, refl, ap, sym, arith}
use Rattle.std.specs.Prelude.{slice_index_or, slice_set, sum}
use Rattle.std.proofs.lemmas.List.{length-append}
use Rattle.std.proofs.lemmas.List.Sums.{sum-map, sum_by-cons}
use Rattle.pc_mailbox.specs.Delivery.{with_taken}
use Rattle.pc_mailbox.specs.Ends.{Missed, Receiving, TakenNext}
use Rattle.pc_drain.specs.Counts.{taken_count}

module _ {T : Type 0} where
  count-cons : (own : List T) (taken : List (List T))
      → taken_count (own ∷ taken) ≡ length own + taken_count taken
  count-cons own taken = sum-map length (own ∷ taken) ∙ sum_by-cons length own taken
      ∙ ap (λ (n : ℕ). length own + n) (sym (sum-map length taken))

  one-more : (taken : List (List T)) (sender : ℕ) (done : T) → sender < length taken
      → taken_count (with_taken taken sender done) ≡ taken_count taken + 1
  one-more [] sender done below = absurd (omega arith)
  one-more (own ∷ taken) zero done below =
      let more : length (own ++ done ∷ []) ≡ length own + 1 = length-append own (done ∷ []) in
      let new = count-cons (own ++ done ∷ []) taken in
      let old = count-cons own taken in omega (arith, more, new, old)
  one-more (own ∷ taken) (suc sender) done below =
      let less : sender < length taken = omega arith in
      let rest : taken_count (with_taken taken sender done) ≡ taken_count taken + 1 =
      one-more taken sender done less in
      let new = count-cons own (with_taken taken sender done) in
      let old = count-cons own taken in omega (arith, rest, new, old)

  pub taken-one : (old new : Receiving T) (done : T) → TakenNext old new done
      → taken_count new.taken ≡ taken_count old.taken + 1
  taken-one old new done next = ap (λ (r : Receiving T). taken_count r.taken) next.after
      ∙ one-more old.taken next.sender done next.known

  pub taken-none : (old new : Receiving T) → Missed old new
      → taken_count new.taken ≡ taken_count old.taken
  taken-none old new missed = ap (λ (r : Receiving T). taken_count r.taken) missed
