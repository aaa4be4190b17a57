-- What the outside's calls do to what it tells.
use Rattle.std.specs.Prelude.{ℕ, ◌≡◌, ◌≤◌, ◌<◌, ◌-◌, ◌^◌, ◌⊎◌, ◌++◌, true, List, length, Option, Some, Result, Ok}
use Rattle.std.specs.List.{AllByRecursion}
use Rattle.std.specs.Str.{is_utf8}
use Rattle.pc_model.specs.declared.limits.TheConstants.{MAX_METADATA_BYTES}
use Rattle.pc_model.specs.declared.commit.Commit.{Commit}
use Rattle.pc_model.specs.declared.wire_fault.WireFault.{WireFault}
use Rattle.pc_model.specs.Broker.{Broker, Request, after_some}

-- a count of faults rose, or it stands where it stops
abbrev pub HasRisen : ℕ → ℕ → Type 0
HasRisen before after = (before < after) ⊎ (after ≡ 2 ^ 64 - 1)

-- a file's contents stand after what was there: those that are told, where they are, and at most
-- this many
pub record AppendsFile (most : ℕ) (told : Option (List ℕ)) (before after : List ℕ) : Type 0 where
  pub contents : List ℕ
  pub behind : after ≡ before ++ contents
  pub short : length contents ≤ most
  pub as_told : (bytes : List ℕ) → told ≡ Some bytes → contents ≡ bytes

-- a broker stored some first items of a request, from none to all
pub record MayStore (read : Result Request WireFault) (before after : Broker) : Type 0 where
  pub request : Request
  pub is_read : read ≡ Ok request
  pub some : ℕ
  pub stored : after ≡ after_some some request before

-- what a broker stores: a position of 63 bits, and a text of at most 4,096 bytes
pub record IsStorable (c : Commit) : Type 0 where
  pub position : c.position < 2 ^ 63
  pub short : length c.map ≤ MAX_METADATA_BYTES
  pub utf8 : is_utf8 c.map ≡ true

-- every commit of the broker is such
abbrev pub AreStorable : Broker → Type 0
AreStorable b = AllByRecursion (λ s. IsStorable s.commit) b.commits
