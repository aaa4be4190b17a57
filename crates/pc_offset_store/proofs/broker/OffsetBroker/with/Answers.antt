-- What is put may be stored, as what was stored before.
use Rattle.std.proofs.Common.{◌≡◌, ◌∙◌, List, map, sym, ap, subst, true}
use Rattle.std.specs.List.{AllByRecursion}
use Rattle.std.specs.Str.{is_utf8}
use Rattle.std.proofs.lemmas.Str.{is_utf8-from_IsUtf8}
use Rattle.pc_model.specs.Broker.{Stored, put_stored}
use Rattle.pc_world.specs.World.{IsStorable}
use Rattle.pc_offset_store.specs.Store.{stored_of}
use Rattle.pc_offset_store.specs.declared.commits.GroupCommit.{GroupCommit}
use Rattle.pc_offset_store.proofs.PutLemmas.{all-put}
use Rattle.pc_offset_store.proofs.broker.OffsetBroker.with.Goals as goal

abbrev Holds : Stored → Type 0
Holds s = IsStorable s.commit

pub invariant_of-self-2 : goal.invariant_of-self-2
invariant_of-self-2 c =
    let s : Stored = record { group = c.in_ok-group.group.bytes.items; part = c.args.part; commit = c.args.commit } in
    let utf8 : is_utf8 c.args.commit.map ≡ true = ap is_utf8 (sym c.as_str-text.ensures) ∙ is_utf8-from_IsUtf8 _ c.as_str-text.utf8 in
    let may : Holds s = record { position = c.requires.position; short = c.requires.map; utf8 = utf8 } in
    let put = c.put.ensures.put ∙ ap (λ (items : List GroupCommit). put_stored s (map stored_of items)) c.reserve.ensures.items in
    subst (AllByRecursion Holds) (sym put) (all-put Holds s (map stored_of c.self.inside.commits.items) may c.self.invariant)
