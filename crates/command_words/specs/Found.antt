use Rattle.std.specs.Prelude.{map, option_map}
use Rattle.command_words.specs.Given.{Given}
use Rattle.command_words.specs.declared.reading.Given.{Given as Found}

-- what the code has read
abbrev pub given_of : Found → Given
given_of found = record {
  command = found.command.now;
  names = map (λ name. name.now) found.names.items;
  ins = option_map (λ text. text.now) found.ins;
  outs = option_map (λ text. text.now) found.outs;
  mode = option_map (λ text. text.now) found.mode;
  class = option_map (λ text. text.now) found.class;
  limit = option_map (λ text. text.now) found.limit;
}
