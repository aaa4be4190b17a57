-- The entry at the offset's place failed once more.
use Rattle.std.proofs.Common.{◌≡◌, ◌+◌, ◌<◌, ◌^◌, get_or, set, rules, refl, sym, subst}
use Rattle.pc_shards.specs.declared.part.EntryRef.{EntryRef}
use Rattle.pc_shards.specs.Entries.{Entry, with_failure}
use Rattle.pc_shards.specs.Part.{plain, plain_entries}
use Rattle.pc_shards.proofs.Lists.{In-map}
use Rattle.pc_shards.proofs.RisingLemmas.{In-get_or}
use Rattle.pc_shards.proofs.PartLemmas.{set-changed}
use Rattle.pc_shards.proofs.part.Part.fail.Goals as goal

-- the entry, which failed once more
abbrev failed_ref : EntryRef → EntryRef
failed_ref e = record
    { «record» = e.record; failures = e.failures + 1; is_busy = e.is_busy }

pub overflow_add-entry : goal.overflow_add-entry
overflow_add-entry c =
    let es = c.args.self.now.entries.items in
    let d = c.index-entry.result.now in
    let fits : d.failures + 1 < 2 ^ 32 =
    subst (λ (x : EntryRef). x.failures + 1 < 2 ^ 32) (sym c.index-entry.ensures)
    (c.requires.fits (plain (get_or es c.place-at.result d))
    (In-map plain (get_or es c.place-at.result d) es
    (In-get_or es c.place-at.result d c.place-at.ensures.within)) (c.place-at.ensures.place d)) in
    search (rules, fits)

pub returns-clause-entries : goal.returns-clause-entries
returns-clause-entries c =
    let es = c.args.self.now.entries.items in
    let d = c.index-entry.result.now in
    subst (λ (x : EntryRef). plain_entries (set es c.place-at.result (failed_ref x))
    ≡ with_failure c.args.offset (plain_entries es)) (sym c.index-entry.ensures)
    (set-changed c.args.offset (λ (e : Entry). record
    { «record» = e.record; failures = e.failures + 1; is_busy = e.is_busy }) es c.place-at.result d
    (failed_ref (get_or es c.place-at.result d)) c.requires.holds.rises c.place-at.ensures.within
    (c.place-at.ensures.place d) refl)
