-- The first records of those whose offsets rise.
use Rattle.std.proofs.Common.{◌≡◌, ℕ, zero, suc, ◌-◌, ◌<◌, ◌≤◌, ◌^◌, Bool, true, false, cond, leb, ltb, List, [], ◌∷◌, take, refl, sym, ap, ◌∙◌, arith}
use Rattle.std.specs.Prelude.{filter}
use Rattle.std.specs.List.{take_while}
use Rattle.std.proofs.lemmas.Bool.{leb-true, leb-false, ltb-true, le-leb, lt-leb}
use Rattle.std.proofs.lemmas.List.Sums.{take_while-cons}
use Rattle.pc_model.specs.Record.{Record}
use Rattle.pc_model.specs.Given.{rises_from}
use Rattle.pc_cursor.proofs.BatchFacts.{and-left, and-right, rises-cons, rises-lower}
use Rattle.pc_broker_log.specs.Logs.{upto, first_upto}

take-nil : (n : ℕ) → take {A = Record} n [] ≡ []
take-nil zero = refl
take-nil (suc n) = refl

-- ---- one record after the other

first-none : (most last : ℕ) → first_upto most last [] ≡ []
first-none most last = take-nil most

pub first-one : (most last : ℕ) (r : Record) (rs : List Record) → 0 < most → r.offset ≤ last
    → first_upto most last (r ∷ rs) ≡ r ∷ first_upto (most - 1) last rs
first-one most last r rs some le =
    let test : leb r.offset last ≡ true = le-leb r.offset last le in
    let next : take_while (λ (q : Record). leb q.offset last) (r ∷ rs)
    ≡ r ∷ take_while (λ (q : Record). leb q.offset last) rs =
    take_while-cons (λ (q : Record). leb q.offset last) r rs
    ∙ ap (λ (b : Bool). cond b (r ∷ take_while (λ (q : Record). leb q.offset last) rs) []) test
    in
    let e : most ≡ suc (most - 1) = omega arith in
    ap (take most) next ∙ ap (λ (n : ℕ). take n (r ∷ take_while
    (λ (q : Record). leb q.offset last) rs)) e

-- ---- where the offsets rise

pub rises-filter : (f : Record → Bool) (n : ℕ) (rs : List Record) → rises_from n rs ≡ true
    → rises_from n (filter f rs) ≡ true
rises-filter f n [] e = refl
rises-filter f n (r ∷ rs) e = by_test (f r) (rises-filter f (suc r.offset) rs rest)
  where
    above : n ≤ r.offset
    above = leb-true n r.offset (and-left _ _ e)

    top : r.offset < 2 ^ 63 - 1
    top = ltb-true r.offset _ (and-left _ _ (and-right (leb n r.offset) _ e))

    rest : rises_from (suc r.offset) rs ≡ true
    rest = and-right (ltb r.offset _) _ (and-right (leb n r.offset) _ e)

    by_test : (t : Bool) → rises_from (suc r.offset) (filter f rs) ≡ true
        → rises_from n (cond t (r ∷ filter f rs) (filter f rs)) ≡ true
    by_test true more = rises-cons n r (filter f rs) above top more
    by_test false more = rises-lower n (suc r.offset) (filter f rs) (omega (arith, above)) more

upto-none : (n last : ℕ) (rs : List Record) → last < n → rises_from n rs ≡ true → upto last rs ≡ []
upto-none n last [] lt e = refl
upto-none n last (r ∷ rs) lt e =
    let first = leb-true n r.offset (and-left _ _ e) in
    let rest = and-right (ltb r.offset _) _ (and-right (leb n r.offset) _ e) in
    let no : leb r.offset last ≡ false = lt-leb r.offset last (omega arith) in
    rw no (upto-none (suc r.offset) last rs (omega arith) rest)

-- the first that are not above an offset are all that are not
pub upto-while : (n last : ℕ) (rs : List Record) → rises_from n rs ≡ true
    → take_while (λ (q : Record). leb q.offset last) rs ≡ upto last rs
upto-while n last [] e = refl
upto-while n last (r ∷ rs) e = take_while-cons (λ (q : Record). leb q.offset last) r rs
    ∙ by_test (leb r.offset last) refl (upto-while (suc r.offset) last rs rest)
  where
    rest : rises_from (suc r.offset) rs ≡ true
    rest = and-right (ltb r.offset _) _ (and-right (leb n r.offset) _ e)

    by_test : (t : Bool) → leb r.offset last ≡ t → take_while (λ (q : Record). leb q.offset last) rs
        ≡ upto last rs
        → cond t (r ∷ take_while (λ (q : Record). leb q.offset last) rs) []
        ≡ cond t (r ∷ upto last rs) (upto last rs)
    by_test true h more = ap (λ (l : List Record). r ∷ l) more
    by_test false h more = sym (upto-none (suc r.offset) last rs (let over =
        leb-false r.offset last h in omega arith) rest)
