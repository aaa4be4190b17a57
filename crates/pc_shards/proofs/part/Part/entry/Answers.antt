-- What is found is the first entry that is not below the offset, if it is at it.
use Rattle.std.proofs.Common.{◌≡◌, ◌<◌, ◌==◌, cond, length, get_or, Option, Some, None, option_map, ap, sym, subst, ◌∙◌}
use Rattle.pc_shards.specs.declared.part.EntryRef.{EntryRef}
use Rattle.pc_shards.specs.Entries.{Entry}
use Rattle.pc_shards.specs.Part.{plain}
use Rattle.pc_shards.proofs.Lists.{number-other, number-same}
use Rattle.pc_shards.proofs.PartLemmas.{find-past, find-place}
use Rattle.pc_shards.proofs.part.Part.entry.Goals as goal

pub returns-in_err-entry : goal.returns-in_err-entry
returns-in_err-entry c = ap (option_map plain) c.from_residual.ensures
    ∙ sym (find-past c.args.offset c.args.self.now.entries.items c.count_below-at.result
    c.count_below-at.ensures.below c.in_err-entry.ensures.item.3)

pub returns-then-entry-offset : goal.returns-then-entry-offset
returns-then-entry-offset c =
    let es = c.args.self.now.entries.items in
    let e : EntryRef = c.in_ok-entry.entry.now in
    let i = c.count_below-at.result in
    let within : i < length es = c.in_ok-entry.ensures.item.3.0 in
    let is : e ≡ get_or es i e = c.in_ok-entry.ensures.item.1 in
    sym (find-place c.args.offset es i e c.requires c.count_below-at.ensures.below
    c.count_below-at.ensures.above within
    ∙ subst (λ (x : EntryRef). cond (x.record.offset == c.args.offset) (Some (plain x)) None
    ≡ Some (plain e)) is (ap (λ b. cond b (Some (plain e)) None)
    (number-same e.record.offset c.args.offset c.if-entry-offset.true)))

pub returns-else-entry-offset : goal.returns-else-entry-offset
returns-else-entry-offset c =
    let es = c.args.self.now.entries.items in
    let e : EntryRef = c.in_ok-entry.entry.now in
    let i = c.count_below-at.result in
    let within : i < length es = c.in_ok-entry.ensures.item.3.0 in
    let is : e ≡ get_or es i e = c.in_ok-entry.ensures.item.1 in
    let none : Option Entry = None in
    sym (find-place c.args.offset es i e c.requires c.count_below-at.ensures.below
    c.count_below-at.ensures.above within
    ∙ subst (λ (x : EntryRef). cond (x.record.offset == c.args.offset) (Some (plain x)) none
    ≡ none) is (ap (λ b. cond b (Some (plain e)) none)
    (number-other e.record.offset c.args.offset c.if-entry-offset.false)))
