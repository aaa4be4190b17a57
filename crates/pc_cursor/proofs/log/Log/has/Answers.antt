use Rattle.std.proofs.Common.{◌≡◌, true, List, ap, sym, subst, ◌∙◌}
use Rattle.pc_batch.specs.Batch.{Placed}
use Rattle.pc_model.specs.Record.{Record}
use Rattle.pc_model.specs.Given.{rises_from}
use Rattle.pc_cursor.specs.Cursor.{not_below}
use Rattle.pc_cursor.specs.Log.{records_of, contents_of}
use Rattle.pc_cursor.proofs.Standing.{checked-rise}
use Rattle.pc_cursor.proofs.SeekLaws.{find-sought, begins_at}
use Rattle.pc_cursor.proofs.log.Log.has.Goals as goal

pub returns-in-Some : goal.returns-in-Some
returns-in-Some c =
    let o = c.args.offset in
    let records = records_of (contents_of c.args.self.now) in
    let log = ap (λ (l : List Placed). records_of (contents_of l)) c.self.view_is in
    let rises = subst (λ (l : List Record). rises_from 0 l
    ≡ true) log (checked-rise c.self.inside.bytes.now c.self.invariant.0.checked) in
    let left = ap (not_below o) (sym log) ∙ sym (ap (not_below o) c.new-cursor.ensures.all)
    ∙ sym c.seek.ensures.left ∙ c.in-Some.ensures.steps.0 in
    sym (find-sought 0 o records rises ∙ ap (begins_at o) left)

pub returns-in-None : goal.returns-in-None
returns-in-None c =
    let o = c.args.offset in
    let records = records_of (contents_of c.args.self.now) in
    let log = ap (λ (l : List Placed). records_of (contents_of l)) c.self.view_is in
    let rises = subst (λ (l : List Record). rises_from 0 l
    ≡ true) log (checked-rise c.self.inside.bytes.now c.self.invariant.0.checked) in
    let left = ap (not_below o) (sym log) ∙ sym (ap (not_below o) c.new-cursor.ensures.all)
    ∙ sym c.seek.ensures.left ∙ c.in-None.ensures.steps.0.0 in
    sym (find-sought 0 o records rises ∙ ap (begins_at o) left)
