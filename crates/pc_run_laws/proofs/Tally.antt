-- Counts of the events of a history that pass a test, by classes.
use Rattle.std.proofs.Common.{◌≡◌, ◌⊎◌, ℕ, suc, ◌+◌, ◌*◌, ◌≤◌, Bool, true, false, cond, List, [], ◌∷◌, length, refl, subst, arith, inl, inr}
use Rattle.std.proofs.Math.Nat.{suc-mul}
use Rattle.std.proofs.lemmas.Bool.{cases_Bool}
use Rattle.pc_model.specs.declared.event.Event.{Event}
use Rattle.pc_laws.specs.Lists.{In}

-- a test of an event that follows a history
abbrev pub Test : Type 0
Test = Event → List Event → Bool

-- one more where the test is passed
abbrev pub add_if : Bool → ℕ → ℕ
add_if b n = cond b (suc n) n

-- how many events pass the test, after the last one that begins the count anew
abbrev pub tally : (Event → Bool) → Test → List Event → ℕ
tally anew test [] = 0
tally anew test (e ∷ h) = cond (anew e) 0 (add_if (test e h) (tally anew test h))

-- how many events of the whole history pass it
abbrev pub never : Event → Bool
never e = false

abbrev pub sum_of : {K : Type 0} → (K → ℕ) → List K → ℕ
sum_of f [] = 0
sum_of f (k ∷ ks) = f k + sum_of f ks

module _ {K : Type 0} where
  pub sum-le : (f g : K → ℕ) (ks : List K) → ((k : K) → In k ks → f k ≤ g k) → sum_of f ks ≤ sum_of g ks
  sum-le f g [] le = omega arith
  sum-le f g (k ∷ ks) le =
      let here : f k ≤ g k = le k (inl refl) in
      let rest : sum_of f ks ≤ sum_of g ks = sum-le f g ks (λ u i. le u (inr i)) in omega arith

  pub sum-add : (f g : K → ℕ) (ks : List K) → sum_of (λ k. f k + g k) ks ≡ sum_of f ks + sum_of g ks
  sum-add f g [] = refl
  sum-add f g (k ∷ ks) = let rest : sum_of (λ u. f u + g u) ks ≡ sum_of f ks + sum_of g ks = sum-add f g ks
      in omega arith

  pub sum-ones : (ks : List K) → sum_of (λ k. 1) ks ≡ length ks
  sum-ones [] = refl
  sum-ones (k ∷ ks) = let rest : sum_of (λ (u : K). 1) ks ≡ length ks = sum-ones ks in omega arith

pub add_if-le : (b : Bool) (n : ℕ) → n ≤ add_if b n
add_if-le true n = omega arith
add_if-le false n = omega arith

pub add_if-one : (b : Bool) → add_if b 0 ≤ 1
add_if-one true = omega arith
add_if-one false = omega arith

pub add_if-apart : (b : Bool) (n : ℕ) → add_if b n ≡ add_if b 0 + n
add_if-apart true n = omega arith
add_if-apart false n = omega arith

-- ---- by classes

module _ {K : Type 0} (anew : Event → Bool) (test : Test) (class : K → Test) where
  -- one more event counts in each of its classes
  more : (e : Event) (h : List Event) (ks : List K) → sum_of (λ k. tally anew (class k) h) ks
      ≤ sum_of (λ k. add_if (class k e h) (tally anew (class k) h)) ks
  more e h ks = sum-le _ _ ks (λ k i. add_if-le (class k e h) (tally anew (class k) h))

  one-more : (e : Event) (h : List Event) (ks : List K) (k : K) → In k ks → class k e h ≡ true
      → suc (sum_of (λ k. tally anew (class k) h) ks)
      ≤ sum_of (λ k. add_if (class k e h) (tally anew (class k) h)) ks
  one-more e h [] k i in_class = absurd i
  one-more e h (u ∷ us) k (inl same) in_class =
      let rest : sum_of (λ k. tally anew (class k) h) us
      ≤ sum_of (λ k. add_if (class k e h) (tally anew (class k) h)) us = more e h us in
      let here : class u e h ≡ true = subst (λ (x : K). class x e h ≡ true) same in_class in
      rw here (omega arith)
  one-more e h (u ∷ us) k (inr i) in_class =
      let rest : suc (sum_of (λ k. tally anew (class k) h) us)
      ≤ sum_of (λ k. add_if (class k e h) (tally anew (class k) h)) us = one-more e h us k i in_class in
      let here : tally anew (class u) h ≤ add_if (class u e h) (tally anew (class u) h) =
      add_if-le (class u e h) (tally anew (class u) h) in omega arith

  -- where each event that passes the test is in a class, the classes count no fewer
  pub classes : {P : List Event → Type 0} (ks : List K)
      → ((e : Event) (h : List Event) → P (e ∷ h) → P h)
      → ((e : Event) (h : List Event) → P (e ∷ h) → test e h ≡ true → (k : K) × In k ks × (class k e h ≡ true))
      → (h : List Event) → P h → tally anew test h ≤ sum_of (λ k. tally anew (class k) h) ks
  classes ks before each [] at = omega arith
  classes ks before each (e ∷ h) at = elim (cases_Bool (anew e)) [
    | inl begins ↦ rw begins (omega arith)
    | inr goes ↦
        let rest : tally anew test h ≤ sum_of (λ k. tally anew (class k) h) ks =
        classes ks before each h (before e h at) in
        elim (cases_Bool (test e h)) [
          | inr fails ↦
              let up : sum_of (λ k. tally anew (class k) h) ks
              ≤ sum_of (λ k. add_if (class k e h) (tally anew (class k) h)) ks = more e h ks in
              rw (goes, fails) (omega arith)
          | inl passes ↦
              let of = each e h at passes in
              let up : suc (sum_of (λ k. tally anew (class k) h) ks)
              ≤ sum_of (λ k. add_if (class k e h) (tally anew (class k) h)) ks = one-more e h ks of.0 of.1 of.2 in
              rw (goes, passes) (omega arith)
        ]
  ]

-- a count that an event which passes leaves within a bound stays within it
pub tally-most : {P : List Event → Type 0} (anew : Event → Bool) (test : Test) (most : ℕ)
    → ((e : Event) (h : List Event) → P (e ∷ h) → P h)
    → ((e : Event) (h : List Event) → P (e ∷ h) → test e h ≡ true → tally anew test (e ∷ h) ≤ most)
    → (h : List Event) → P h → tally anew test h ≤ most
tally-most anew test most before each [] at = omega arith
tally-most anew test most before each (e ∷ h) at = elim (cases_Bool (test e h)) [
  | inl passes ↦ each e h at passes
  | inr fails ↦ elim (cases_Bool (anew e)) [
    | inl begins ↦ rw begins (omega arith)
    | inr goes ↦ rw (goes, fails) (tally-most anew test most before each h (before e h at))
  ]
]

-- what passes one test passes the other
pub tally-le : {P : List Event → Type 0} (anew : Event → Bool) (f g : Test)
    → ((e : Event) (h : List Event) → P (e ∷ h) → P h)
    → ((e : Event) (h : List Event) → P (e ∷ h) → f e h ≡ true → g e h ≡ true)
    → (h : List Event) → P h → tally anew f h ≤ tally anew g h
tally-le anew f g before each [] at = omega arith
tally-le anew f g before each (e ∷ h) at = elim (cases_Bool (anew e)) [
  | inl begins ↦ rw begins (omega arith)
  | inr goes ↦
      let rest : tally anew f h ≤ tally anew g h = tally-le anew f g before each h (before e h at) in
      elim (cases_Bool (f e h)) [
        | inl passes ↦ rw (goes, passes, each e h at passes) (omega arith)
        | inr fails ↦ let up : tally anew g h ≤ add_if (g e h) (tally anew g h) =
            add_if-le (g e h) (tally anew g h) in rw (goes, fails) (omega arith)
      ]
]

-- ---- all epochs of a part

grow : (n most all now : ℕ) → all + most ≤ n * most + now → now ≤ most → all + most ≤ suc n * most + 0
grow n most all now fits le = let next : suc n * most ≡ n * most + most = suc-mul n most in omega arith

-- Each assignment begins the count anew: a test that fails before the first one, and of which no
-- count is more than `most`, is passed at most so often in all for each assignment.
pub all-epochs : {P : List Event → Type 0} (anew : Event → Bool) (test : Test) (most : ℕ)
    → ((e : Event) (h : List Event) → P (e ∷ h) → P h)
    → ((e : Event) (h : List Event) → P (e ∷ h) → anew e ≡ true → test e h ≡ false)
    → ((e : Event) (h : List Event) → P (e ∷ h) → test e h ≡ true
    → tally never (λ v k. anew v) h ≡ 0 → ⊥)
    → ((h : List Event) → P h → tally anew test h ≤ most)
    → (h : List Event) → P h
    → ((tally never (λ v k. anew v) h ≡ 0) × (tally never test h ≡ 0))
    ⊎ (tally never test h + most ≤ tally never (λ v k. anew v) h * most + tally anew test h)
all-epochs anew test most before apart first bound [] at = inl (refl, refl)
all-epochs anew test most before apart first bound (e ∷ h) at =
    let rest = all-epochs anew test most before apart first bound h (before e h at) in
    elim (cases_Bool (anew e)) [
      | inl begins ↦
          let le : tally anew test h ≤ most = bound h (before e h at) in
          elim rest [
            | inl none ↦ inr (rw (begins, apart e h at begins, none.0, none.1) (omega arith))
            | inr some ↦
                let fits : tally never test h + most ≤ tally never (λ v k. anew v) h * most + tally anew test h = some in
                inr (rw (begins, apart e h at begins)
                (grow (tally never (λ v k. anew v) h) most (tally never test h) (tally anew test h) fits le))
          ]
      | inr goes ↦ elim (cases_Bool (test e h)) [
        | inl passes ↦ elim rest [
          | inl none ↦ absurd (first e h at passes none.0)
          | inr some ↦
              let fits : tally never test h + most ≤ tally never (λ v k. anew v) h * most + tally anew test h = some in
              inr (rw (goes, passes) (omega arith))
        ]
        | inr fails ↦ elim rest [
          | inl none ↦ inl (rw (goes, none.0) refl, rw (fails, none.1) refl)
          | inr some ↦ inr (rw (goes, fails) some)
        ]
      ]
    ]
