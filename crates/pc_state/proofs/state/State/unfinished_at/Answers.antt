-- The first entry is that of the first open record.
use Rattle.std.proofs.Common.{◌≡◌, ℕ, Bool, true, cond, Option, None, sym, ap, ◌∙◌}
use Rattle.std.specs.Prelude.{option_map}
use Rattle.pc_shards.specs.Part.{plain as plain_entry}
use Rattle.pc_state.proofs.UnfinishedLemmas.{unfinished-left, unfinished-open}
use Rattle.pc_state.proofs.state.State.unfinished_at.Goals as goal

while-held : (b : Bool) (o x : Option ℕ) → b ≡ true → o ≡ x → o ≡ cond b x None
while-held b o x held is = rw held is

pub returns-in-Some : goal.returns-in-Some
returns-in-Some c = λ given h knows.
    let held = (c.in_ok-_held.ensures.knows given h knows).0 in
    while-held _ _ _ held (unfinished-open given h c.args.self.now c.args.part knows held
    (plain_entry c.in-Some.entry)
    (sym c.first.ensures ∙ ap (option_map plain_entry) c.in-Some.is))

pub returns-in-None : goal.returns-in-None
returns-in-None c = λ given h knows.
    let held = (c.in_ok-_held.ensures.knows given h knows).0 in
    while-held _ _ _ held (unfinished-left given h c.args.self.now c.args.part knows held
    c.first_left.result (sym c.first.ensures ∙ ap (option_map plain_entry) c.in-None.is)
    (c.first_left.ensures given h knows held))
