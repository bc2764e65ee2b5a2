use Rattle.std.proofs.Common.{◌∙◌, ap, codes, refl}
use Rattle.clap.specs.Words.{found_of}
use Rattle.clap.proofs.WalkLemmas.{first_value-rows}
use Rattle.command_words.proofs.Outcomes.{same_given, text_or_none}
use Rattle.command_words.proofs.reading.given_in.Goals as goal

pub returns : goal.returns
returns c =
    let found = found_of c.args.matches.now in
    let command = c.get_str.ensures ∙ first_value-rows found (codes "command") in
    same_given _ _
    (ap (λ text. text.now) c.unwrap_or.ensures ∙ text_or_none c.get_str.result _ _ command refl)
    c.in_ok-names.ensures
    (c.get_str-2.ensures ∙ first_value-rows found (codes "in"))
    (c.get_str-3.ensures ∙ first_value-rows found (codes "out"))
    (c.get_str-4.ensures ∙ first_value-rows found (codes "mode"))
    (c.get_str-5.ensures ∙ first_value-rows found (codes "class"))
    (c.get_str-6.ensures ∙ first_value-rows found (codes "limit"))
