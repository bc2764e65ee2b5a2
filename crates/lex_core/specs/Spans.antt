use Rattle.std.specs.Prelude.{◌+◌, length}
use Rattle.lex_core.specs.declared.words.Span.{Span}
use Rattle.lex_core.specs.LogicalLines.{TextWord}

-- from where a word starts up to behind its last byte
abbrev pub span_of : TextWord → Span
span_of word = record { start = word.start; end = word.start + length word.bytes }
