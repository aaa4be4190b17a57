-- What a broker in memory stores, as plain values, and what it decides of the items of a request.
use Rattle.std.specs.Prelude.{◌≡◌, ℕ, ◌++◌, List, [], ◌∷◌, ℤ, map, if◌then◌else◌, string_bytes, unsigned_abs}
use Rattle.std.specs.List.{flat_map}
use Rattle.std.specs.Ordering.{int_eq}
use Rattle.pc_model.specs.declared.api.TheConstants.{NO_ERROR}
use Rattle.pc_model.specs.Broker.{Broker, Membership, Stored, commit_in, fetch_entry, item_code, put_stored}
use Rattle.pc_model.specs.Messages.{CommitItem, CommitRequest, FetchEntry, FetchRequest, Topic}
use Rattle.pc_offset_wire.specs.declared.write_fault.WireWriteFault.{WireWriteFault}
use Rattle.pc_offset_wire.specs.declared.write_fault.WireWriteFault.TheVariants.{TooLong as LongFrame, NoMemory as NoFrame}
use Rattle.pc_offset_store.specs.declared.commits.GroupCommit.{GroupCommit}
use Rattle.pc_offset_store.specs.declared.fault.BrokerFault.{BrokerFault}
use Rattle.pc_offset_store.specs.declared.fault.BrokerFault.TheVariants.{NoMemory, TooLong}
use Rattle.pc_offset_store.specs.declared.members.Group.{Group}
use Rattle.pc_offset_store.specs.declared.verdict.Verdict.{Verdict}

-- ---- what is stored

abbrev pub stored_of : GroupCommit → Stored
stored_of c = record { group = string_bytes c.group; part = c.part; commit = c.commit }

abbrev pub membership_of : Group → Membership
membership_of g = record
    { group = string_bytes g.name; generation = g.generation; members = g.members.items }

-- the commits with each of these put, in their order
abbrev pub put_each : List Stored → List Stored → List Stored
put_each [] stored = stored
put_each (s ∷ ss) stored = put_each ss (put_stored s stored)

-- ---- what is decided of a commit request

-- the codes of a topic's items
abbrev pub codes_of : Broker → CommitRequest → Topic CommitItem → List ℤ
codes_of b r topic = map (item_code b r topic.name) topic.items

-- what is stored for an item, if it is accepted
abbrev pub accepted_item : Broker → CommitRequest → List ℕ → CommitItem → List Stored
accepted_item b r name item = if int_eq (item_code b r name item) NO_ERROR
    then record { group = r.group; part = unsigned_abs item.part; commit = commit_in item } ∷ []
    else []

-- what is stored for a topic's items
abbrev pub accepted_of : Broker → CommitRequest → Topic CommitItem → List Stored
accepted_of b r topic = flat_map (accepted_item b r topic.name) topic.items

-- these codes and commits were put after those that stood in the verdict
pub record IsDecided (codes : List ℤ) (accepted : List Stored) (old new : Verdict) : Type 0 where
  pub codes_behind : new.codes.items ≡ old.codes.items ++ codes
  pub accepted_behind : map stored_of new.accepted.items
      ≡ map stored_of old.accepted.items ++ accepted

-- ---- what is answered of a fetch request

-- the entries of a topic's parts
abbrev pub entries_of : Broker → FetchRequest → Topic ℤ → List FetchEntry
entries_of b r topic = map (fetch_entry b r.group topic.name) topic.items

-- ---- faults

abbrev pub fault_of : WireWriteFault → BrokerFault
fault_of LongFrame = TooLong
fault_of NoFrame = NoMemory
