-- What stays of a broker whose store changed for some parts alone.
use Rattle.std.proofs.Common.{◌≡◌, ◌∙◌, ℕ, Bool, List, [], ap}
use Rattle.std.specs.Prelude.{ℤ, ◌&&◌, bytes_eq}
use Rattle.pc_model.specs.declared.commit.Commit.{Commit}
use Rattle.pc_model.specs.Broker.{Broker, Membership, has_part, is_part}
use Rattle.pc_drain.specs.Causes.{is_refused}
use Rattle.pc_offset_client.specs.Client.{commit_code}
use Rattle.pc_engine.specs.Effect.{StoresOnly}

-- whether a broker with this topic, so many parts and these memberships refuses the commit
abbrev refused_with : List ℕ → ℕ → List Membership → ℕ → Commit → Bool
refused_with topic parts memberships p c = is_refused (record {
  topic = topic;
  parts = parts;
  commits = [];
  memberships = memberships;
}) p c

-- the code with which it answers the commit
abbrev code_with : List ℕ → ℕ → List Membership → ℕ → Commit → ℤ
code_with topic parts memberships p c = commit_code (record {
  topic = topic;
  parts = parts;
  commits = [];
  memberships = memberships;
}) p c

module _ (may : ℕ → Bool) (a b : Broker) (only : StoresOnly may a b) where
  -- it has the same parts
  pub same-part : (topic : List ℕ) (p : ℤ) → has_part b topic p ≡ has_part a topic p
  same-part topic p =
      ap (λ (t : List ℕ). bytes_eq topic t && is_part b.parts p) only.topic
      ∙ ap (λ (n : ℕ). bytes_eq topic a.topic && is_part n p) only.parts

  -- and refuses the same commits
  pub same-refused : (p : ℕ) (c : Commit) → is_refused b p c ≡ is_refused a p c
  same-refused p c =
      ap (λ (t : List ℕ). refused_with t b.parts b.memberships p c) only.topic
      ∙ ap (λ (n : ℕ). refused_with a.topic n b.memberships p c) only.parts
      ∙ ap (λ (m : List Membership). refused_with a.topic a.parts m p c) only.memberships

  -- and answers it with the same code
  pub same-code : (p : ℕ) (c : Commit) → commit_code b p c ≡ commit_code a p c
  same-code p c =
      ap (λ (t : List ℕ). code_with t b.parts b.memberships p c) only.topic
      ∙ ap (λ (n : ℕ). code_with a.topic n b.memberships p c) only.parts
      ∙ ap (λ (m : List Membership). code_with a.topic a.parts m p c) only.memberships

  -- one change after the other
  pub stores-more : (c : Broker) → StoresOnly may b c → StoresOnly may a c
  stores-more c next = record {
    topic = next.topic ∙ only.topic;
    parts = next.parts ∙ only.parts;
    memberships = next.memberships ∙ only.memberships;
    others = λ group q other. next.others group q other ∙ only.others group q other;
  }
