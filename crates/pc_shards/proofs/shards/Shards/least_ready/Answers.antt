-- The first of the part's ready offsets.
use Rattle.std.proofs.Common.{◌≡◌, ℕ, List, [], Option, Some, length, slice_get, refl, ap, sym, subst, ◌∙◌}
use Rattle.std.specs.Option.{option_map_or}
use Rattle.std.proofs.lemmas.Option.{slice_get_read}
use Rattle.pc_shards.specs.declared.part.Part.{Part}
use Rattle.pc_shards.specs.Entries.{least_ready_of}
use Rattle.pc_shards.specs.Rising.{Rises}
use Rattle.pc_shards.specs.Shards.{entries_at, ready_at, room_at}
use Rattle.pc_shards.proofs.EntriesLemmas.{least_ready-first}
use Rattle.pc_shards.proofs.ShardsLemmas.{of-all}
use Rattle.pc_shards.proofs.shards.Shards.least_ready.Goals as goal

pub least-requires : goal.least-requires
least-requires c =
    let parts = c.self.inside.parts.items in
    let found = c.in_ok-state.ensures.lookup in
    let state : slice_get parts c.args.part ≡ Some c.in_ok-state.state.now =
    ap (λ (xs : List Part). slice_get xs c.args.part) (sym c.as_slice.ensures.value)
    ∙ slice_get_read c.as_slice.result.now (length c.as_slice.result.now) c.args.part
    c.in_ok-state.state.now refl found.3.0 found.1 in
    subst (λ (o : Option Part). Rises (option_map_or (λ s. s.ready.offsets) o [])) state
    (c.self.invariant.each c.args.part).ready_rises

pub returns-clause-least : goal.returns-clause-least
returns-clause-least c =
    let parts = c.self.inside.parts.items in
    let found = c.in_ok-state.ensures.lookup in
    let state : slice_get parts c.args.part ≡ Some c.in_ok-state.state.now =
    ap (λ (xs : List Part). slice_get xs c.args.part) (sym c.as_slice.ensures.value)
    ∙ slice_get_read c.as_slice.result.now (length c.as_slice.result.now) c.args.part
    c.in_ok-state.state.now refl found.3.0 found.1 in
    let least = least_ready-first c.self.inside.order c.args.part (entries_at parts c.args.part)
    (ready_at parts c.args.part) (room_at parts c.args.part) (c.self.invariant.each c.args.part) in
    rw (← c.self.view_is) (c.least.ensures
    ∙ ap (λ (xs : List ℕ). slice_get xs 0) (ap (λ (o : Option Part). option_map_or (λ s. s.ready.offsets) o []) (sym state)) ∙ least
    ∙ ap (least_ready_of c.self.inside.order c.args.part) (sym (of-all parts c.args.part)))
