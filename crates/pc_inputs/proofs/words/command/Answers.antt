-- Each call of the builder does to the plain command what it says.
use Rattle.std.proofs.Common.{◌≡◌, ◌∙◌, true, ap, ap₂, rules, codes, Some}
use Rattle.std.proofs.lemmas.Result.{IfOk-weaker}
use Rattle.clap.specs.Walk.{rule_of}
use Rattle.clap.specs.Simple.{app_of, app_of_fields, new_app, new_rule, on_top, with_rule}
use Rattle.clap.specs.declared.builder.action.ArgAction.TheVariants.{Append, Set, SetTrue}
use Rattle.pc_inputs.specs.Words.{CONFIG, FILES, SUMMARY}
use Rattle.pc_inputs.proofs.words.command.Goals as goal

pub returns : goal.returns
returns c =
    let config_is : rule_of c.action-config.result ≡ record (new_rule CONFIG) {
      long = Some CONFIG;
      action = Some Set;
    } = search rules in
    let summary_is : rule_of c.action-summary.result ≡ record (new_rule SUMMARY) {
      long = Some SUMMARY;
      action = Some SetTrue;
    } = search rules in
    let files_is : rule_of c.action-files.result ≡ record (new_rule FILES) { action = Some Append }
    = search rules in
    let plain : app_of c.disable_help_flag.result ≡ on_top (λ s. record s {
      no_binary_name = true;
      disable_help_flag = true;
    }) (new_app (codes "parcon")) =
    ap app_of_fields c.disable_help_flag.ensures
    ∙ ap (on_top (λ s. record s { disable_help_flag = true }))
    (ap app_of_fields c.no_binary_name.ensures
    ∙ ap (on_top (λ s. record s { no_binary_name = true })) c.new-4.ensures.app) in
    let one = c.in_ok-arg.ensures.shape (search rules) ∙ ap₂ with_rule plain config_is in
    let two = c.in_ok-arg-2.ensures.shape (search rules) ∙ ap₂ with_rule one summary_is in
    IfOk-weaker c.arg-3.result _ _ (λ command added. added.shape (search rules)
    ∙ ap₂ with_rule two files_is) c.arg-3.ensures
