-- Lists that a function of the index makes.
use Rattle.std.proofs.Common.{◌≡◌, ℕ, zero, suc, ◌+◌, ◌<◌, ◌≤◌, ◌++◌, map, replicate, refl, arith, add-zero}
use Rattle.std.specs.List.{range_with_len}

-- two tables, one after the other
pub table-append : {X : Type 0} (f : ℕ → X) (a n m : ℕ) → map f (range_with_len a (n + m)) ≡ map f (range_with_len a n) ++ map f (range_with_len (a + n) m)
table-append f a zero m =
    let e : zero + m ≡ m = omega arith in
    rw (e, add-zero) refl
table-append f a (suc n) m =
    let e : suc n + m ≡ suc (n + m) = omega arith in
    let at : a + 1 + n ≡ a + suc n = omega arith in
    rw (e, table-append f (a + 1) n m, at) refl

-- a table of functions that agree
pub table_same : {X : Type 0} (f g : ℕ → X) (a b n : ℕ) → ((i : ℕ) → i < n → f (a + i) ≡ g (b + i)) → map f (range_with_len a n) ≡ map g (range_with_len b n)
table_same f g a b zero same = refl
table_same f g a b (suc n) same =
    let first : f a ≡ g b = rw (add-zero, add-zero) at (same 0 (omega arith)) in
    let rest = table_same f g (a + 1) (b + 1) n (λ i h.
    let ea : a + 1 + i ≡ a + (i + 1) = omega arith in
    let eb : b + 1 + i ≡ b + (i + 1) = omega arith in
    rw (ea, eb) (same (i + 1) (omega arith))) in
    rw (first, rest) refl

-- a table of one value
pub table_const : {X : Type 0} (f : ℕ → X) (x : X) (a n : ℕ) → ((i : ℕ) → a ≤ i → f i ≡ x) → map f (range_with_len a n) ≡ replicate n x
table_const f x a zero same = refl
table_const f x a (suc n) same =
    rw (same a (omega arith), table_const f x (a + 1) n (λ i h. same i (omega arith))) refl

-- the same where the function has that value at the table's own places
pub table_const_below : {X : Type 0} (f : ℕ → X) (x : X) (a n : ℕ) → ((i : ℕ) → a ≤ i → i < a + n → f i ≡ x) → map f (range_with_len a n) ≡ replicate n x
table_const_below f x a zero same = refl
table_const_below f x a (suc n) same =
    rw (same a (omega arith) (omega arith), table_const_below f x (a + 1) n (λ i low high. same i (omega arith) (omega arith))) refl
