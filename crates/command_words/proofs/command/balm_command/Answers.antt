use Rattle.std.proofs.Common.{◌≡◌, ◌∙◌, ap, ap₂, codes, rules}
use Rattle.std.proofs.lemmas.Result.{IfOk-weaker}
use Rattle.clap.specs.Words.{app_of, rule_of, with_rule, new_app}
use Rattle.clap.specs.Simple.{app_of_fields}
use Rattle.command_words.specs.Given.{option_named, unnamed}
use Rattle.command_words.proofs.command.balm_command.Goals as goal

pub returns : goal.returns
returns c =
    let new_is : app_of c.no_binary_name-command.result ≡ unnamed (new_app (codes "balm")) =
    ap app_of_fields c.no_binary_name-command.ensures ∙ ap unnamed c.new.ensures.app in
    let in_is : rule_of c.option.result ≡ option_named (codes "in") = search rules in
    let out_is : rule_of c.option-2.result ≡ option_named (codes "out") = search rules in
    let mode_is : rule_of c.option-3.result ≡ option_named (codes "mode") = search rules in
    let class_is : rule_of c.option-4.result ≡ option_named (codes "class") = search rules in
    let limit_is : rule_of c.option-5.result ≡ option_named (codes "limit") = search rules in
    let one = c.in_ok-command.ensures.shape c.command_word.ensures.here ∙ ap₂ with_rule new_is c.command_word.ensures.rule in
    let two = c.in_ok-command-2.ensures.shape c.further_words.ensures.here ∙ ap₂ with_rule one c.further_words.ensures.rule in
    let three = c.in_ok-command-3.ensures.shape c.option.ensures.here ∙ ap₂ with_rule two in_is in
    let four = c.in_ok-command-4.ensures.shape c.option-2.ensures.here ∙ ap₂ with_rule three out_is in
    let five = c.in_ok-command-5.ensures.shape c.option-3.ensures.here ∙ ap₂ with_rule four mode_is in
    let six = c.in_ok-command-6.ensures.shape c.option-4.ensures.here ∙ ap₂ with_rule five class_is in
    IfOk-weaker c.arg-7.result _ _ (λ command added. added.shape c.option-5.ensures.here ∙ ap₂ with_rule six limit_is) c.arg-7.ensures
