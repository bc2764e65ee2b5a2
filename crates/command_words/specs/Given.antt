use Rattle.std.specs.Prelude.{◌≡◌, List, [], Option, Some, true, codes, unwrap_or}
use Rattle.clap.specs.Lexer.{usize_max}
use Rattle.clap.specs.Words.{App, Row, Rule, Text, new_app, new_rule, with_rule, matches_of, all_of, first_of, fault_of}
use Rattle.clap.specs.declared.builder.action.ArgAction.TheVariants.{Set, Append}

-- The words of the command line as one simple command of clap: a command's name, one or more names of files, and five
-- options of which each has a text and comes once at most.

-- a positional word that has to be there
abbrev pub the_command : Rule
the_command = record (new_rule (codes "command")) { action = Some Set; required = true }

-- one or more positional words
abbrev pub the_names : Rule
the_names = record (new_rule (codes "names")) {
  action = Some Append;
  required = true;
  range = Some (record { start_inclusive = 1; end_inclusive = usize_max });
}

abbrev pub option_named : Text → Rule
option_named name = record (new_rule name) { long = Some name; action = Some Set }

-- the command, whose words are those after the program's name
abbrev pub unnamed : App → App
unnamed app = record app { top = record app.top { no_binary_name = true } }

abbrev pub balm : App
balm =
    with_rule (with_rule (with_rule (with_rule (with_rule (with_rule (with_rule
    (unnamed (new_app (codes "balm")))
    the_command) the_names)
    (option_named (codes "in"))) (option_named (codes "out")))
    (option_named (codes "mode"))) (option_named (codes "class"))) (option_named (codes "limit"))

-- what the words give: the command, the names behind it, and the text of each option that is there
pub record Given : Type 0 where
  pub command : Text
  pub names : List Text
  pub ins : Option Text
  pub outs : Option Text
  pub mode : Option Text
  pub class : Option Text
  pub limit : Option Text

-- all values of an argument
abbrev pub values_in : Text → List Row → List Text
values_in id rows = unwrap_or (all_of id rows) []

abbrev pub given_in : List Row → Given
given_in rows = record {
  command = unwrap_or (first_of (codes "command") rows) [];
  names = values_in (codes "names") rows;
  ins = first_of (codes "in") rows;
  outs = first_of (codes "out") rows;
  mode = first_of (codes "mode") rows;
  class = first_of (codes "class") rows;
  limit = first_of (codes "limit") rows;
}

-- clap takes the words
unfoldable pub AreTaken : List Text → Type 0
AreTaken words = fault_of balm words ≡ []

-- what clap finds in the words, where it takes them
unfoldable pub rows_for : List Text → List Row
rows_for words = matches_of balm words

-- clap takes the words, and they give this
abbrev pub Give : List Text → Given → Type 0
Give words given = AreTaken words × (given ≡ given_in (rows_for words))
