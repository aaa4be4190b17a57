-- What `clap` found is what the words say, and words that it refused say nothing.
use Rattle.std.proofs.Common.{◌∙◌, Err, inl, inr, map, ap, sym, subst}
use Rattle.std.specs.Prelude.{ok_or, string_bytes}
use Rattle.clap.specs.Simple.{is_simple, matches_of}
use Rattle.clap.specs.Faults.{fault_of, is_simple_and_free}
use Rattle.clap.specs.Kinds.{HasKind}
use Rattle.pc_inputs.specs.Words.{refused}
use Rattle.pc_inputs.specs.declared.status.Status.{Status}
use Rattle.pc_inputs.specs.declared.status.Status.TheVariants.{Usage}
use Rattle.pc_inputs.proofs.WordSteps.{app-is_simple, app-simple}
use Rattle.pc_inputs.proofs.WordsLemmas.{clap-flag, clap-found, clap-refused, texts-are}
use Rattle.pc_inputs.proofs.words.matches_of.Goals as goal

pub returns-in-Ok-clause-found : goal.returns-in-Ok-clause-found
returns-in-Ok-clause-found c =
    let app = c.in_ok-command.ensures in
    let words = map string_bytes c.args.words.now in
    let found = c.in-Ok.ensures.matches (ap is_simple app ∙ app-is_simple) in
    let taken = c.in-Ok.ensures.kinds (ap is_simple_and_free app ∙ app-simple) in
    inr (ap (λ said. ok_or said Usage) (sym (clap-found c.in-Ok.matches words (texts-are
    c.args.words.now)
    (found.0 ∙ ap (λ a. matches_of a words) app) (sym (ap (λ a. fault_of a words) app) ∙ taken))))

pub returns-in-Ok-clause-flag : goal.returns-in-Ok-clause-flag
returns-in-Ok-clause-flag c =
    let app = c.in_ok-command.ensures in
    let words = map string_bytes c.args.words.now in
    let found = c.in-Ok.ensures.matches (ap is_simple app ∙ app-is_simple) in
    let taken = c.in-Ok.ensures.kinds (ap is_simple_and_free app ∙ app-simple) in
    clap-flag c.in-Ok.matches words (texts-are c.args.words.now)
    (found.0 ∙ ap (λ a. matches_of a words) app) (sym (ap (λ a. fault_of a words) app) ∙ taken)

pub returns-in-Err-clause-found : goal.returns-in-Err-clause-found
returns-in-Err-clause-found c =
    let app = c.in_ok-command.ensures in
    let words = map string_bytes c.args.words.now in
    let kinds = c.in-Err.ensures.kinds (ap is_simple_and_free app ∙ app-simple) in
    elim (clap-refused words c.in-Err.error.kind (texts-are c.args.words.now)
    (subst (λ a. HasKind (fault_of a words) c.in-Err.error) app kinds)) [
      | inl memory ↦ inl (ap (λ (s : Status). Err s) (c.refused.ensures
          ∙ ap refused c.kind.ensures ∙ memory))
      | inr usage ↦ inr (ap (λ (s : Status). Err s) (c.refused.ensures ∙ ap refused c.kind.ensures
          ∙ usage.0)
          ∙ ap (λ said. ok_or said Usage) (sym usage.1))
    ]
