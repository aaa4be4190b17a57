-- Logs whose offsets rise: the known records are the first of those from the begin on.
use Rattle.std.proofs.Common.{◌≡◌, ℕ, zero, suc, ◌-◌, ◌≤◌, ◌<◌, ◌^◌, Bool, true, false, cond, ◌&&◌, List, [], ◌∷◌, ◌++◌, take, drop, Option, Some, None, refl, ap, sym, ◌∙◌, arith, inl, inr}
use Rattle.std.specs.Prelude.{filter, nat_lt, nat_le, unwrap_or, slice_get}
use Rattle.std.specs.List.{list_all}
use Rattle.std.specs.Option.{option_flatten}
use Rattle.std.proofs.lemmas.Bool.{leb-true, ltb-true, lt-ltb}
use Rattle.pc_model.specs.declared.event.Event.{Event}
use Rattle.pc_model.specs.Record.{Record}
use Rattle.pc_model.specs.Given.{Given, records_of, rises_from}
use Rattle.pc_model.specs.Lawful.{IsLegal}
use Rattle.pc_laws.proofs.Lists.{In, and-left, and-right, In-filter, In-filtered}

-- each offset is above the one before it, the first at least n, and all at most 2^63 - 2
abbrev pub Rises : ℕ → List Record → Type 0
Rises n [] = Unit {0}
Rises n (r ∷ rs) = (n ≤ r.offset) × (r.offset < 2 ^ 63 - 1) × Rises (suc r.offset) rs

Rises-test : (n : ℕ) (rs : List Record) → rises_from n rs ≡ true → Rises n rs
Rises-test n [] e = tt
Rises-test n (r ∷ rs) e =
    let rest = and-right (nat_le n r.offset)
    (nat_lt r.offset (2 ^ 63 - 1) && rises_from (suc r.offset) rs) e in (
      leb-true n r.offset (and-left _ _ e),
      ltb-true r.offset (2 ^ 63 - 1)
          (and-left _ _ rest),
      Rises-test (suc r.offset) rs (and-right _ _ rest),
    )

pub Rises-lower : (m n : ℕ) (rs : List Record) → m ≤ n → Rises n rs → Rises m rs
Rises-lower m n [] le rises = tt
Rises-lower m n (r ∷ rs) le rises = let above : n ≤ r.offset = rises.0 in
    (omega arith, rises.1, rises.2)

pub Rises-In : (n : ℕ) (r : Record) (rs : List Record) → Rises n rs → In r rs →
    (n ≤ r.offset) × (r.offset < 2 ^ 63 - 1)
Rises-In n r [] rises i = elim i [ ]
Rises-In n r (q ∷ qs) rises (inl same) = rw same (rises.0, rises.1)
Rises-In n r (q ∷ qs) rises (inr i) = let rest = Rises-In (suc q.offset) r qs rises.2 i in
    let above : suc q.offset ≤ r.offset = rest.0 in let first : n ≤ q.offset = rises.0 in
    (omega arith, rest.1)

-- what stands at two places with one offset is one record
pub Rises-same : (n : ℕ) (r s : Record) (rs : List Record) → Rises n rs → In r rs → In s rs →
    r.offset ≡ s.offset → r ≡ s
Rises-same n r s [] rises i j e = elim i [ ]
Rises-same n r s (q ∷ qs) rises (inl a) (inl b) e = a ∙ sym b
Rises-same n r s (q ∷ qs) rises (inl a) (inr j) e =
    let above : suc q.offset ≤ s.offset =
    (Rises-In (suc q.offset) s qs rises.2 j).0 in let at : r.offset ≡ q.offset = ap
    (λ (x : Record). x.offset) a in
    absurd (omega arith)
Rises-same n r s (q ∷ qs) rises (inr i) (inl b) e =
    let above : suc q.offset ≤ r.offset =
    (Rises-In (suc q.offset) r qs rises.2 i).0 in let at : s.offset ≡ q.offset = ap
    (λ (x : Record). x.offset) b in
    absurd (omega arith)
Rises-same n r s (q ∷ qs) rises (inr i) (inr j) e = Rises-same (suc q.offset) r s qs rises.2 i j e

pub Rises-filter : (f : Record → Bool) (n : ℕ) (rs : List Record) → Rises n rs → Rises n
    (filter f rs)
Rises-filter f n [] rises = tt
Rises-filter f n (r ∷ rs) rises = elim (f r) as
    (λ b. Rises n (cond b (r ∷ filter f rs) (filter f rs))) [
      | true ↦ (rises.0, rises.1, Rises-filter f (suc r.offset) rs rises.2)
      | false ↦ let le : n ≤ r.offset = rises.0 in Rises-filter f n rs
          (Rises-lower n (suc r.offset) rs (omega arith) rises.2)
    ]

-- ---- the logs of a legal history rise

logs-rise : (p : ℕ) (logs : List (Option (List Record))) → list_all
    (λ log. rises_from 0 (unwrap_or log [])) logs ≡ true
    → rises_from 0 (unwrap_or (option_flatten (slice_get logs p)) []) ≡ true
logs-rise p [] e = refl
logs-rise zero (None ∷ logs) e = refl
logs-rise zero (Some log ∷ logs) e = and-left _ _ e
logs-rise (suc p) (log ∷ logs) e = logs-rise p logs
    (and-right (rises_from 0 (unwrap_or log [])) _ e)

pub legal-rises : (given : Given) (h : List Event) → IsLegal given h →
    (p : ℕ) → Rises 0 (records_of given p)
legal-rises given [] legal p = Rises-test 0 (records_of given p) (logs-rise p given.logs legal)
legal-rises given (v ∷ h) legal p = legal-rises given h legal.2 p

-- ---- the first k records of a list, and behind them those of the rest below an end

abbrev pub known_of : ℕ → ℕ → List Record → List Record
known_of k end rs = take k rs ++ filter (λ r. nat_lt r.offset end) (drop k rs)

-- whatever stands before one of them is one of them
pub known_of-below : (k end n : ℕ) (rs : List Record) (r s : Record) → Rises n rs → In r rs → In s
    (known_of k end rs)
    → r.offset ≤ s.offset → In r (known_of k end rs)
known_of-below zero end n rs r s rises i j le =
    let last = In-filtered (λ q. nat_lt q.offset end) s rs j in let below : s.offset < end =
    ltb-true s.offset end last.1 in
    In-filter (λ q. nat_lt q.offset end) r rs i (lt-ltb r.offset end (omega arith))
known_of-below (suc k) end n [] r s rises i j le = elim i [ ]
known_of-below (suc k) end n (q ∷ qs) r s rises (inl same) j le = inl same
known_of-below (suc k) end n (q ∷ qs) r s rises (inr i) (inl same) le =
    let above : suc q.offset ≤ r.offset =
    (Rises-In (suc q.offset) r qs rises.2 i).0 in let at : s.offset ≡ q.offset = ap
    (λ (x : Record). x.offset) same in
    absurd (omega arith)
known_of-below (suc k) end n (q ∷ qs) r s rises (inr i) (inr j) le = inr
    (known_of-below k end (suc q.offset) qs r s rises.2 i j le)

pub known_of-In : (k end : ℕ) (rs : List Record) (r : Record) → In r (known_of k end rs) → In r rs
known_of-In zero end rs r i = (In-filtered (λ q. nat_lt q.offset end) r rs i).0
known_of-In (suc k) end [] r i = elim i [ ]
known_of-In (suc k) end (q ∷ qs) r (inl same) = inl same
known_of-In (suc k) end (q ∷ qs) r (inr i) = inr (known_of-In k end qs r i)

-- the same of the first k records alone
pub take-below : (k n : ℕ) (rs : List Record) (r s : Record) → Rises n rs → In r rs → In s
    (take k rs) → r.offset ≤ s.offset → In r (take k rs)
take-below zero n rs r s rises i j le = elim j [ ]
take-below (suc k) n [] r s rises i j le = elim i [ ]
take-below (suc k) n (q ∷ qs) r s rises (inl same) j le = inl same
take-below (suc k) n (q ∷ qs) r s rises (inr i) (inl same) le =
    let above : suc q.offset ≤ r.offset =
    (Rises-In (suc q.offset) r qs rises.2 i).0 in let at : s.offset ≡ q.offset = ap
    (λ (x : Record). x.offset) same in
    absurd (omega arith)
take-below (suc k) n (q ∷ qs) r s rises (inr i) (inr j) le = inr
    (take-below k (suc q.offset) qs r s rises.2 i j le)

pub take-In : {X : Type 0} (k : ℕ) (x : X) (xs : List X) → In x (take k xs) → In x xs
take-In zero x xs i = elim i [ ]
take-In (suc k) x [] i = elim i [ ]
take-In (suc k) x (y ∷ ys) (inl same) = inl same
take-In (suc k) x (y ∷ ys) (inr i) = inr (take-In k x ys i)
