-- What a broker finds in what it stores.
use Rattle.std.proofs.Common.{◌≡◌, ℕ, Bool, true, false, cond, List, [], ◌∷◌, map, Option, Some, None, refl, sym, ap, subst, ◌∙◌}
use Rattle.std.specs.Prelude.{bytes_eq, find, option_map}
use Rattle.std.specs.List.{AllByRecursion}
use Rattle.pc_model.specs.declared.commit.Commit.{Commit}
use Rattle.pc_model.specs.Broker as model
use Rattle.pc_model.specs.Broker.{Broker, Stored, is_for, stored_for}
use Rattle.pc_world.specs.World.{AreStorable, IsStorable}
use Rattle.pc_offset_store.specs.Store.{membership_of, stored_of}
use Rattle.pc_offset_store.specs.declared.commits.GroupCommit.{GroupCommit}
use Rattle.pc_offset_store.specs.declared.members.Group.{Group}
use Rattle.pc_offset_store.proofs.PutLemmas.{find-map}

commit_of-stored : (found : Option GroupCommit)
    → option_map (λ (s : Stored). s.commit) (option_map stored_of found)
    ≡ option_map (λ (c : GroupCommit). c.commit) found
commit_of-stored None = refl
commit_of-stored (Some c) = refl

-- the commit of a group and a part, by the vector's items
pub stored_is : (b : Broker) (items : List GroupCommit) (group : List ℕ) (part : ℕ)
    (found : Option GroupCommit) → b.commits ≡ map stored_of items
    → found ≡ find (λ c. is_for group part (stored_of c)) items
    → stored_for b group part ≡ option_map (λ (c : GroupCommit). c.commit) found
stored_is b items group part found are is =
    ap (λ (ts : List Stored). option_map (λ (s : Stored). s.commit) (find (is_for group part) ts)) are
    ∙ ap (option_map (λ (s : Stored). s.commit)) (find-map stored_of (is_for group part) items
    ∙ ap (option_map stored_of) (sym is)) ∙ commit_of-stored found

-- the membership of a group, by the vector's items
pub membership_is : (b : Broker) (items : List Group) (group : List ℕ) (found : Option Group)
    → b.memberships ≡ map membership_of items
    → found ≡ find (λ g. bytes_eq (membership_of g).group group) items
    → model.membership_of b group ≡ option_map membership_of found
membership_is b items group found are is =
    ap (find (λ m. bytes_eq m.group group)) are
    ∙ find-map membership_of (λ m. bytes_eq m.group group) items
    ∙ ap (option_map membership_of) (sym is)

-- what is found of all has what all have
holds_at : {A : Type 0} (Holds : A → Type 0) (here : Bool) (x y : A) (others : Option A)
    → Holds x → (others ≡ Some y → Holds y) → (cond here (Some x) others) ≡ Some y → Holds y
holds_at Holds true x y others one more e = let same : x ≡ y = cc in subst Holds same one
holds_at Holds false x y others one more e = more e

all-find : {A : Type 0} (Holds : A → Type 0) (p : A → Bool) (xs : List A) (x : A)
    → AllByRecursion Holds xs → find p xs ≡ Some x → Holds x
all-find Holds p [] x all e = absurd cc
all-find Holds p (y ∷ ys) x all e =
    holds_at Holds (p y) y x (find p ys) all.0 (all-find Holds p ys x all.1) e

commit_at : (found : Option Stored) (c : Commit) → option_map (λ (s : Stored). s.commit) found ≡ Some c
    → (s : Stored) × (found ≡ Some s) × (s.commit ≡ c)
commit_at None c e = absurd cc
commit_at (Some s) c e = (s, refl, cc)

-- a commit that is stored has a position and a map that may be stored
pub storable : (b : Broker) (group : List ℕ) (part : ℕ) (c : Commit) → AreStorable b
    → stored_for b group part ≡ Some c → IsStorable c
storable b group part c all e =
    let at = commit_at (find (is_for group part) b.commits) c e in
    subst IsStorable at.2 (all-find (λ s. IsStorable s.commit) (is_for group part) b.commits at.0 all at.1)
