use Rattle.std.proofs.Common.{◌∙◌, ap, sym}
use Rattle.blifmv_names.specs.LineFaults.{is_model_word}
use Rattle.blifmv_names.proofs.Faultless.{first_word}
use Rattle.blifmv_names.proofs.first_pass.begins_model.Goals as goal

pub returns : goal.returns
returns c =
    c.is_model_word.ensures
    ∙ (ap is_model_word c.directive_of.ensures ∙ sym (first_word c.args.line.now.words c.in-Some.word.now c.in-Some.ensures))
