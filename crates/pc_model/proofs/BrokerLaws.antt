-- What a broker stores after a commit was put.
use Rattle.std.proofs.Common.{◌≡◌, ℕ, Bool, true, false, ◌==◌, cond, List, [], ◌∷◌, Some, refl, ap, sym, inl, inr, ◌∙◌, true≢false}
use Rattle.pc_model.proofs.ListLemmas.{same_number}
use Rattle.std.specs.Prelude.{◌&&◌, bytes_eq, find}
use Rattle.std.proofs.lemmas.Bool.{cases_Bool, eqb-true}
use Rattle.std.proofs.lemmas.Slice.Eq.{bytes_eq-Decides}
use Rattle.pc_model.specs.declared.commit.Commit.{Commit}
use Rattle.pc_model.specs.Broker.{Broker, Stored, is_for, put_stored, stored_for, with_stored}

and-both : (a b : Bool) → (a && b) ≡ true → (a ≡ true) × (b ≡ true)
and-both true b is = (refl, is)
and-both false b is = cc

-- two commits of one group and part are for the same groups and parts
is_for-same : (s t : Stored) (group : List ℕ) (part : ℕ) → is_for s.group s.part t ≡ true
    → is_for group part t ≡ is_for group part s
is_for-same s t group part is =
    let both = and-both (bytes_eq t.group s.group) (t.part == s.part) is in
    let groups : t.group ≡ s.group = (bytes_eq-Decides t.group s.group).0 both.0 in
    let parts : t.part ≡ s.part = eqb-true t.part s.part both.1 in
    ap (λ (g : List ℕ). bytes_eq g group && t.part == part) groups
    ∙ ap (λ (q : ℕ). bytes_eq s.group group && q == part) parts

is_for-joined : (s t : Stored) (group : List ℕ) (part : ℕ) → is_for group part s ≡ true
    → is_for group part t ≡ true → is_for s.group s.part t ≡ true
is_for-joined s t group part of_s of_t =
    let a = and-both (bytes_eq s.group group) (s.part == part) of_s in
    let b = and-both (bytes_eq t.group group) (t.part == part) of_t in
    let groups : t.group ≡ s.group = (bytes_eq-Decides t.group group).0 b.0
    ∙ sym ((bytes_eq-Decides s.group group).0 a.0) in
    let parts : t.part ≡ s.part = eqb-true t.part part b.1 ∙ sym (eqb-true s.part part a.1) in
    rw (groups, parts, same_number s.part, (bytes_eq-Decides s.group s.group).1 refl) refl

-- what is found for a group and a part is the commit that was put, or what was found before
find-put_stored : (s : Stored) (ts : List Stored) (group : List ℕ) (part : ℕ)
    → find (is_for group part) (put_stored s ts)
    ≡ cond (is_for group part s) (Some s) (find (is_for group part) ts)
find-put_stored s [] group part = refl
find-put_stored s (t ∷ ts) group part = elim (cases_Bool (is_for s.group s.part t)) [
  | inl same ↦ elim (cases_Bool (is_for group part s)) [
    | inl here ↦ rw (same, here) refl
    | inr other ↦ rw (same, other, is_for-same s t group part same, other) refl
  ]
  | inr apart ↦ elim (cases_Bool (is_for group part t)) [
    | inl found ↦ elim (cases_Bool (is_for group part s)) [
      | inl here ↦ absurd (true≢false (sym (is_for-joined s t group part here found) ∙ apart))
      | inr other ↦ rw (apart, found, other) refl
    ]
    | inr further ↦ rw (apart, further) (find-put_stored s ts group part)
  ]
]

-- the same of what is stored
pub stored_for-with_stored : (b : Broker) (g : List ℕ) (p : ℕ) (c : Commit) (group : List ℕ) (part : ℕ)
    → stored_for (with_stored b g p c) group part
    ≡ cond (bytes_eq g group && p == part) (Some c) (stored_for b group part)
stored_for-with_stored b g p c group part = elim (cases_Bool (bytes_eq g group && p == part)) [
  | inl here ↦ rw (find-put_stored (record { group = g; part = p; commit = c }) b.commits group part, here) refl
  | inr other ↦ rw (find-put_stored (record { group = g; part = p; commit = c }) b.commits group part, other) refl
]
