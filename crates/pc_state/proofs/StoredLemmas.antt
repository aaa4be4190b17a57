-- The commits that may be stored of a held part lie between the first of them and the part's
-- position.
use Rattle.std.proofs.Common.{◌≡◌, ℕ, ◌≤◌, Bool, true, false, not, ◌==◌, ◌||◌, cond, List, [], ◌∷◌, ◌++◌, Option, Some, None, refl, sym, ap, subst, ◌∙◌, inl, inr, arith, eq-eqb}
use Rattle.std.specs.Prelude.{find, option_map}
use Rattle.std.specs.List.{list_all}
use Rattle.std.proofs.lemmas.Bool.{cases_Bool, eqb-true}
use Rattle.pc_model.specs.declared.commit.Commit.{Commit}
use Rattle.pc_model.specs.declared.commit.SizedCommit.{SizedCommit}
use Rattle.pc_model.specs.declared.event.Event.{Event}
use Rattle.pc_model.specs.declared.event.Event.TheVariants.{Assign, Commit as Committed, CommitFailed, Crash, Lost, Revoke}
use Rattle.pc_model.specs.Given.{Given}
use Rattle.pc_model.specs.Epochs.{epoch_of, is_held, moves}
use Rattle.pc_model.specs.Run.{has_unstored_success, is_unsaved}
use Rattle.pc_model.specs.Known.{begin_of, commit_of, position_of}
use Rattle.pc_model.specs.Marks.{commit_at}
use Rattle.pc_model.specs.Lawful.{IsLegal, is_stored}
use Rattle.pc_model.specs.Stored.{may_store}
use Rattle.pc_model.proofs.ListLemmas.{same_number}
use Rattle.pc_model.proofs.KnownLaws.{assigned_commit-assign}
use Rattle.pc_laws.specs.Lists.{In}
use Rattle.pc_laws.proofs.PositionLaw.{held_apart, position_of-begin_le, position_of-le}
use Rattle.pc_state.proofs.LedgerLemmas.{first_position}
use Rattle.pc_state.specs.Queries.{other_stored}

-- the first of these commits is at this position, and none is below it or above the limit
pub record LieWithin (first limit : ℕ) (commits : List Commit) : Type 0 where
  pub is : first_position commits ≡ Some first
  pub upper : first ≤ limit
  pub each : (c : Commit) → In c commits → (first ≤ c.position) × (c.position ≤ limit)

wider : (first limit more : ℕ) (cs ds : List Commit) → ds ≡ cs → limit ≤ more
    → LieWithin first limit cs → LieWithin first more ds
wider first limit more cs ds same le lie = record {
  is = ap first_position same ∙ lie.is;
  upper = let upper = lie.upper in omega (arith, upper, le);
  each = λ c i. let at = lie.each c (subst (λ (xs : List Commit). In c xs) same i) in
      (at.0, let below = at.1 in omega (arith, below, le));
}

one : (c : Commit) (first limit : ℕ) → c.position ≡ first → first ≤ limit
    → LieWithin first limit (c ∷ [])
one c first limit is le = record {
  is = ap (λ (n : ℕ). Some n) is;
  upper = le;
  each = λ d i. only d i;
}
  where
    only : (d : Commit) → In d (c ∷ []) → (first ≤ d.position) × (d.position ≤ limit)
    only d (inl same) = let at : d.position ≡ c.position = ap (λ (x : Commit). x.position) same in
        (omega (arith, at, is), omega (arith, at, is, le))
    only d (inr none) = absurd none

-- one more at the limit
one-more : (cs : List Commit) (c : Commit) (first limit more : ℕ) → c.position ≡ limit
    → limit ≤ more → LieWithin first limit cs → LieWithin first more (cs ++ c ∷ [])
one-more cs c first limit more at le lie = record {
  is = first-of cs lie.is;
  upper = let upper = lie.upper in omega (arith, upper, le);
  each = λ d i. within cs (λ x j. lie.each x j) d i;
}
  where
    first-of : (cs : List Commit) → first_position cs ≡ Some first
        → first_position (cs ++ c ∷ []) ≡ Some first
    first-of [] is = cc
    first-of (d ∷ ds) is = is

    last : (d : Commit) → d ≡ c → (first ≤ d.position) × (d.position ≤ more)
    last d same = let is : d.position ≡ c.position = ap (λ (x : Commit). x.position) same in
        let upper = lie.upper in (omega (arith, is, at, upper), omega (arith, is, at, le))

    within : (ds : List Commit)
        → ((x : Commit) → In x ds → (first ≤ x.position) × (x.position ≤ limit))
        → (d : Commit) → In d (ds ++ c ∷ []) → (first ≤ d.position) × (d.position ≤ more)
    within [] each d (inl same) = last d same
    within [] each d (inr none) = absurd none
    within (x ∷ ds) each d (inl same) = let is = each d (inl same) in
        (is.0, let below = is.1 in omega (arith, below, le))
    within (x ∷ ds) each d (inr i) = within ds (λ y j. each y (inr j)) d i

-- of a held part
pub record Between (given : Given) (h : List Event) (p : ℕ) : Type 0 where
  pub first : ℕ
  pub lie : LieWithin first (position_of given h p) (may_store given h p)

-- the event moves no epoch of the part, and stores nothing of it
goes-on : (given : Given) (v : Event) (h : List Event) (p : ℕ) → IsLegal given h
    → moves v p ≡ false → may_store given (v ∷ h) p ≡ may_store given h p → Between given h p
    → Between given (v ∷ h) p
goes-on given v h p legal still same before = record {
  first = before.first;
  lie = wider before.first (position_of given h p) (position_of given (v ∷ h) p)
      (may_store given h p) (may_store given (v ∷ h) p) same
      (position_of-le given v h p legal still) before.lie;
}

begin-assign : (given : Given) (p epoch position : ℕ) (text : List ℕ) (h : List Event)
    → begin_of (Assign p epoch position text ∷ h) p ≡ position
begin-assign given p epoch position text h =
    ap (λ (c : Commit). c.position) (assigned_commit-assign given h p epoch position text)

-- a commit has the part's position
commit-position : (given : Given) (h : List Event) (p : ℕ)
    → (commit_of given h p).commit.position ≡ position_of given h p
unfolding commit_at
commit-position given h p = refl

pub between : (given : Given) (h : List Event) (p : ℕ) → IsLegal given h → is_held h p ≡ true
    → Between given h p
between given [] p legal held = cc
between given (Assign q epoch position text ∷ h) p legal held = elim (cases_Bool (q == p)) [
  | inl same ↦ subst (λ (u : ℕ). Between given (Assign q epoch position text ∷ h) u)
      (eqb-true q p same) (record {
        first = position;
        lie = rw (same_number q) (one _ position _ refl
            (subst (λ (b : ℕ). b ≤ position_of given (Assign q epoch position text ∷ h) q)
            (begin-assign given q epoch position text h)
            (position_of-begin_le given (Assign q epoch position text ∷ h) q)));
      })
  | inr apart ↦ goes-on given (Assign q epoch position text) h p legal.2 apart (rw apart refl)
      (between given h p legal.2 (rw apart at held))
]
between given (Committed q position text size ∷ h) p legal held = elim (cases_Bool (q == p)) [
  | inl same ↦ subst (λ (u : ℕ). Between given (Committed q position text size ∷ h) u)
      (eqb-true q p same)
      (let at : position_of given h q ≡ position = sym (commit-position given h q)
      ∙ ap (λ (c : SizedCommit). c.commit.position) legal.0.commit_is in
      let more = position_of-le given (Committed q position text size) h q legal.2 refl in
      record {
        first = position;
        lie = rw (same_number q) (one _ position _ refl (omega (arith, at, more)));
      })
  | inr apart ↦ goes-on given (Committed q position text size) h p legal.2 refl (rw apart refl)
      (between given h p legal.2 held)
]
between given (CommitFailed q position text size ∷ h) p legal held = elim (cases_Bool (q == p)) [
  | inl same ↦
      let before = between given h p legal.2 held in
      let at : position_of given h q ≡ position = sym (commit-position given h q)
      ∙ ap (λ (c : SizedCommit). c.commit.position) legal.0.commit_is in
      let here : position ≡ position_of given h p =
      sym at ∙ ap (position_of given h) (eqb-true q p same) in
      record {
        first = before.first;
        lie = rw same (one-more (may_store given h p) _ before.first (position_of given h p) _ here
            (position_of-le given (CommitFailed q position text size) h p legal.2 refl) before.lie);
      }
  | inr apart ↦ goes-on given (CommitFailed q position text size) h p legal.2 refl (rw apart refl)
      (between given h p legal.2 held)
]
between given (Revoke q epoch ∷ h) p legal held = let was = held_apart (q == p) (is_held h p) held in
    goes-on given (Revoke q epoch) h p legal.2 was.0 refl (between given h p legal.2 was.1)
between given (Lost q epoch ∷ h) p legal held = let was = held_apart (q == p) (is_held h p) held in
    goes-on given (Lost q epoch) h p legal.2 was.0 refl (between given h p legal.2 was.1)
between given (Crash ∷ h) p legal held = cc
between given (v ∷ h) p legal held = goes-on given v h p legal.2 refl refl
    (between given h p legal.2 held)

-- ---- whether all of them are at the limit

all-at : (cs : List Commit) (n : ℕ) → ((c : Commit) → In c cs → c.position ≡ n)
    → list_all (λ (c : Commit). c.position == n) cs ≡ true
all-at [] n each = refl
all-at (c ∷ cs) n each = rw (eq-eqb c.position n (each c (inl refl)))
    (all-at cs n (λ d i. each d (inr i)))

none-apart : (cs : List Commit) (n : ℕ) → ((c : Commit) → In c cs → c.position ≡ n)
    → find (λ (c : Commit). not (c.position == n)) cs ≡ None
none-apart [] n each = refl
none-apart (c ∷ cs) n each = rw (eq-eqb c.position n (each c (inl refl)))
    (none-apart cs n (λ d i. each d (inr i)))

module _ (first limit : ℕ) where
  -- they are, where the first is
  within-all : (cs : List Commit) → LieWithin first limit cs
      → list_all (λ (c : Commit). c.position == limit) cs ≡ (first == limit)
  within-all cs lie = elim (cases_Bool (first == limit)) [
    | inl same ↦ let is = eqb-true first limit same in
        rw same (all-at cs limit (λ c i. let at = lie.each c i in
        omega (arith, is, at.0, at.1)))
    | inr apart ↦ rw apart (first-fails cs lie.is apart)
  ]
    where
      first-fails : (cs : List Commit) → first_position cs ≡ Some first
          → (first == limit) ≡ false → list_all (λ (c : Commit). c.position == limit) cs ≡ false
      first-fails [] is apart = cc
      first-fails (c ∷ cs) is apart = let at : c.position ≡ first = cc in rw (at, apart) refl

  -- and else the first is the first that is not
  within-other : (cs : List Commit) → LieWithin first limit cs
      → option_map (λ (c : Commit). c.position) (find (λ (c : Commit). not (c.position == limit)) cs)
      ≡ cond (first == limit) None (Some first)
  within-other cs lie = elim (cases_Bool (first == limit)) [
    | inl same ↦ let is = eqb-true first limit same in
        rw (
          same,
          none-apart cs limit (λ c i. let at = lie.each c i in
              omega (arith, is, at.0, at.1)),
        ) refl
    | inr apart ↦ rw apart (first-is cs lie.is apart)
  ]
    where
      first-is : (cs : List Commit) → first_position cs ≡ Some first → (first == limit) ≡ false
          → option_map (λ (c : Commit). c.position)
          (find (λ (c : Commit). not (c.position == limit)) cs) ≡ Some first
      first-is [] is apart = cc
      first-is (c ∷ cs) is apart = let at : c.position ≡ first = cc in
          rw (at, apart) refl

ne-eqb : (a b : ℕ) → (a ≡ b → ⊥) → (a == b) ≡ false
ne-eqb a b apart = elim (cases_Bool (a == b)) [
  | inl same ↦ absurd (apart (eqb-true a b same))
  | inr other ↦ other
]

some-injective : (a b : ℕ) → ◌≡◌ {A = Option ℕ} (Some a) (Some b) → a ≡ b
some-injective a b is = cc

-- what the position says of which the ledger keeps
module _ (given : Given) (h : List Event) (p stored : ℕ) (legal : IsLegal given h)
    (held : is_held h p ≡ true) (kept : first_position (may_store given h p) ≡ Some stored) where
  lies : LieWithin stored (position_of given h p) (may_store given h p)
  lies = let b = between given h p legal held in
      subst (λ (n : ℕ). LieWithin n (position_of given h p) (may_store given h p))
      (some-injective b.first stored (sym b.lie.is ∙ kept)) b.lie

  pub stored-is : is_stored given h p ≡ (stored == position_of given h p)
  unfolding is_stored
  stored-is = within-all stored (position_of given h p) (may_store given h p) lies

  pub other-is : other_stored given h p
      ≡ cond (stored == position_of given h p) None (Some stored)
  other-is = within-other stored (position_of given h p) (may_store given h p) lies

-- what a state answers of a held part whose first commit and position are these
module _ (given : Given) (h : List Event) (p stored position : ℕ) (legal : IsLegal given h)
    (held : is_held h p ≡ true) (kept : first_position (may_store given h p) ≡ Some stored)
    (at : position ≡ position_of given h p) where
  pub none-other : stored ≡ position
      → ◌≡◌ {A = Option ℕ} None (cond (is_held h p) (other_stored given h p) None)
  none-other same = rw (
    held,
    other-is given h p stored legal held kept,
    eq-eqb stored (position_of given h p) (same ∙ at),
  ) refl

  pub some-other : (stored ≡ position → ⊥)
      → ◌≡◌ {A = Option ℕ} (Some stored) (cond (is_held h p) (other_stored given h p) None)
  some-other apart = rw (
    held,
    other-is given h p stored legal held kept,
    ne-eqb stored (position_of given h p) (λ same. apart (same ∙ sym at)),
  ) refl

  -- and of one without a success after its last stored commit
  pub unsaved-apart : has_unstored_success h p (epoch_of h p) ≡ false
      → not (stored == position) ≡ is_unsaved given h p
  unsaved-apart none = rw (held, stored-is given h p stored legal held kept, none, at)
      (or-none (not (stored == position_of given h p)))
    where
      or-none : (b : Bool) → b ≡ (b || false)
      or-none true = refl
      or-none false = refl
