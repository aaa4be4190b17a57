-- No position of a reply to a fetch is below -1.
use Rattle.std.proofs.Common.{◌≡◌, ℕ, ℤ, List, [], ◌∷◌, ◌++◌, map, sym, subst}
use Rattle.std.specs.Prelude.{All}
use Rattle.std.specs.List.{AllByRecursion, flat_map}
use Rattle.std.proofs.lemmas.List.Elements.{All-from_recursion}
use Rattle.pc_model.specs.Broker.{Broker, fetch_entry}
use Rattle.pc_model.specs.Messages.{FetchEntry, FetchRequest, Topic}
use Rattle.pc_offset_wire.specs.declared.fetch.FetchEntry as wire
use Rattle.pc_offset_wire.specs.Replies.{IsAnswerable}
use Rattle.pc_offset_wire.specs.Views.{plain_fetch_entry}
use Rattle.pc_world.specs.World.{AreStorable}
use Rattle.pc_offset_store.specs.Store.{entries_of}
use Rattle.pc_offset_store.proofs.EntryLemmas.{IsSmall, small}

all-append : (xs ys : List FetchEntry) → AllByRecursion IsSmall xs → AllByRecursion IsSmall ys
    → AllByRecursion IsSmall (xs ++ ys)
all-append [] ys these others = others
all-append (x ∷ xs) ys these others = (these.0, all-append xs ys these.1 others)

module _ (b : Broker) (r : FetchRequest) (all : AreStorable b) where
  parts-small : (name : List ℕ) (parts : List ℤ)
      → AllByRecursion IsSmall (map (fetch_entry b r.group name) parts)
  parts-small name [] = tt
  parts-small name (part ∷ parts) = (small b r.group name part all, parts-small name parts)

  topics-small : (topics : List (Topic ℤ)) → AllByRecursion IsSmall (flat_map (entries_of b r) topics)
  topics-small [] = tt
  topics-small (topic ∷ topics) = all-append (entries_of b r topic) (flat_map (entries_of b r) topics)
      (parts-small topic.name topic.items) (topics-small topics)

  answerable : (entries : List wire.FetchEntry) → AllByRecursion IsSmall (map plain_fetch_entry entries)
      → AllByRecursion IsAnswerable entries
  answerable [] these = tt
  answerable (e ∷ es) these = (these.0.least, answerable es these.1)

  pub are-answerable : (entries : List wire.FetchEntry)
      → map plain_fetch_entry entries ≡ flat_map (entries_of b r) r.topics → All IsAnswerable entries
  are-answerable entries are = All-from_recursion IsAnswerable entries
      (answerable entries (subst (AllByRecursion IsSmall) (sym are) (topics-small r.topics)))
