use Rattle.std.proofs.Common.{rules}
use Rattle.command_words.proofs.Outcomes.{taken, not_taken, found}
use Rattle.clap.specs.declared.parser.matches.ArgMatches.{ArgMatches}
use Rattle.command_words.proofs.reading.parsed.Goals as goal

pub returns-in-Ok-clause-taken : goal.returns-in-Ok-clause-taken
returns-in-Ok-clause-taken c =
    taken _ _ c.args.words.now c.in-Ok.matches c.in_ok-command.ensures c.as_slice.ensures c.in-Ok.ensures.kinds

pub returns-in-Ok-clause-rows : goal.returns-in-Ok-clause-rows
returns-in-Ok-clause-rows c =
    found _ _ c.args.words.now _ c.in_ok-command.ensures c.as_slice.ensures (λ simple. (c.in-Ok.ensures.matches simple).0)

pub returns : goal.returns
returns c = record {
  taken = tt;
  rows = tt;
  none = not_taken ArgMatches _ _ c.args.words.now c.in-Err.error c.in_ok-command.ensures c.as_slice.ensures c.in-Err.ensures.kinds (λ memory. search (rules, memory));
}
