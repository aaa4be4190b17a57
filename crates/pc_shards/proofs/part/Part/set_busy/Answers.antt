-- The entry at the offset's place is marked.
use Rattle.std.proofs.Common.{◌≡◌, Bool, get_or, set, refl, sym, subst}
use Rattle.pc_shards.specs.declared.part.EntryRef.{EntryRef}
use Rattle.pc_shards.specs.Entries.{Entry, with_busy}
use Rattle.pc_shards.specs.Part.{EachAt, plain_entries}
use Rattle.pc_shards.proofs.PartLemmas.{each-at, set-changed}
use Rattle.pc_shards.proofs.part.Part.set_busy.Goals as goal

-- the entry, which is busy or not
abbrev marked_ref : Bool → EntryRef → EntryRef
marked_ref b e = record { «record» = e.record; failures = e.failures; is_busy = b }

pub returns-clause-entries : goal.returns-clause-entries
returns-clause-entries c =
    let es = c.args.self.now.entries.items in
    let d = c.index-entry.result.now in
    subst (λ (x : EntryRef). plain_entries (set es c.place-at.result (marked_ref c.args.is_busy x))
    ≡ with_busy c.args.offset c.args.is_busy (plain_entries es)) (sym c.index-entry.ensures)
    (set-changed c.args.offset (λ (e : Entry). record
    { «record» = e.record; failures = e.failures; is_busy = c.args.is_busy }) es c.place-at.result d
    (marked_ref c.args.is_busy (get_or es c.place-at.result d)) c.requires.rises c.place-at.ensures.within
    (c.place-at.ensures.place d) refl)

pub returns-clause-was : goal.returns-clause-was
returns-clause-was c =
    let es = c.args.self.now.entries.items in
    let d = c.index-entry.result.now in
    subst (λ (x : EntryRef). EachAt c.args.offset (plain_entries es) (λ e. e.is_busy ≡ x.is_busy))
    (sym c.index-entry.ensures) (each-at c.args.offset es c.place-at.result d
    (λ e. e.is_busy ≡ (get_or es c.place-at.result d).is_busy) c.requires.rises
    c.place-at.ensures.within
    (c.place-at.ensures.place d) refl)
