-- The entry at the offset's place is taken out.
use Rattle.std.proofs.Common.{true, ◌≡◌, get_or, ap, refl, sym, subst, ◌∙◌}
use Rattle.std.specs.Option.{option_copied}
use Rattle.pc_shards.specs.declared.part.EntryRef.{EntryRef}
use Rattle.pc_shards.specs.Part.{EachAt, plain_entries}
use Rattle.pc_shards.proofs.PartLemmas.{each-at, remove-without}
use Rattle.pc_shards.proofs.part.Part.take.Goals as goal

pub returns-clause-entries : goal.returns-clause-entries
returns-clause-entries c =
    let es = c.args.self.now.entries.items in
    ap (λ v. plain_entries v.items) c.unready.ensures.entries
    ∙ ap plain_entries c.in-Some.ensures.items
    ∙ remove-without c.args.offset es c.place-at.result c.in-Some.entry
    c.requires.rises c.place-at.ensures.within (c.place-at.ensures.place c.in-Some.entry)

pub returns-clause-key : goal.returns-clause-key
returns-clause-key c =
    let es = c.args.self.now.entries.items in
    let d = c.in-Some.entry in
    subst (λ (x : EntryRef). EachAt c.args.offset (plain_entries es) (λ e. e.record.key
    ≡ option_copied x.record.key))
    (sym c.in-Some.ensures.value) (each-at c.args.offset es c.place-at.result d
    (λ e. e.record.key ≡ option_copied (get_or es c.place-at.result d).record.key) c.requires.rises
    c.place-at.ensures.within
    (c.place-at.ensures.place d) refl)

pub unready-requires-clause-apart : goal.unready-requires-clause-apart
unready-requires-clause-apart c =
    let es = c.args.self.now.entries.items in
    let d = c.in-Some.entry in
    λ is. c.requires.apart (each-at c.args.offset es c.place-at.result d (λ e. e.is_busy ≡ true)
    c.requires.rises c.place-at.ensures.within (c.place-at.ensures.place d)
    (subst (λ (x : EntryRef). x.is_busy ≡ true) c.in-Some.ensures.value is))
