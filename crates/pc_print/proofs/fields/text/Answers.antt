-- Whether bytes are a text is decided by a test.
use Rattle.std.proofs.Common.{sym, ap, ◌∙◌, inl, inr}
use Rattle.std.specs.Prelude.{Some, None, if◌then◌else◌}
use Rattle.std.specs.Str.{is_utf8}
use Rattle.std.proofs.lemmas.Bool.{cases_Bool}
use Rattle.std.proofs.lemmas.Str.{IsUtf8-from_is_utf8, is_utf8-from_IsUtf8}
use Rattle.pc_print.proofs.fields.text.Goals as goal

pub returns-in_ok-from_str-in-Ok : goal.returns-in_ok-from_str-in-Ok
returns-in_ok-from_str-in-Ok c =
    let bytes = c.args.bytes.now in
    let text = is_utf8-from_IsUtf8 bytes c.in-Ok.ensures.cases.1 in
    ap (λ test. if test then Some bytes else None) text ∙ ap Some (sym (c.in_ok-from_str-in-Ok.ensures ∙ c.in-Ok.ensures.cases.0))

pub returns-in-Err : goal.returns-in-Err
returns-in-Err c =
    let bytes = c.args.bytes.now in
    elim (cases_Bool (is_utf8 bytes)) [
      | inl text ↦ absurd (c.in-Err.ensures.cases.0 (IsUtf8-from_is_utf8 bytes text))
      | inr other ↦ ap (λ test. if test then Some bytes else None) other
    ]
