use Rattle.std.specs.Prelude.{ℕ, List, [], ◌∷◌, map}
use Rattle.std.specs.Borrow.{Bor}
use Rattle.lex_core.specs.LogicalLines.{TextWord}
use Rattle.net_model.specs.Forms as forms
use Rattle.net_model.specs.Forms.{Name}
use Rattle.net_model.specs.Spellings as spellings
use Rattle.blifmv_lines.specs.declared.entry.Spelled.{Spelled}
use Rattle.blifmv_lines.specs.declared.entry.Spelled.TheVariants as entries
use Rattle.blifmv_lines.specs.declared.entry.Taken.{Taken}
use Rattle.blifmv_lines.specs.declared.form.Form.{Form}
use Rattle.blifmv_lines.specs.declared.form.Form.TheVariants as lines

-- What is read, in the words of the definitions.

-- the bytes of each word
abbrev pub texts : List (Bor (List ℕ)) → List Name
texts words = map (λ word. word.now) words

abbrev pub word_texts : List TextWord → List Name
word_texts words = map (λ word. word.bytes) words

-- of words that are names with commas between them the names: every second word, from the first on
abbrev pub listed_names : List Name → List Name
listed_names [] = []
listed_names (name ∷ []) = name ∷ []
listed_names (name ∷ comma ∷ words) = name ∷ listed_names words

-- what a line says
abbrev pub form_said : Form → forms.Form
form_said (lines.Model names) = forms.ModelLine (texts names.now)
form_said (lines.Inputs names) = forms.InputsLine (texts names.now)
form_said (lines.Outputs names) = forms.OutputsLine (texts names.now)
form_said (lines.Domains names count values) = forms.DomainsLine (listed_names (texts names.now)) count.now (texts values.now)
form_said (lines.Table ins outs) = forms.TableLine (texts ins.now) (texts outs.now)
form_said (lines.Reset ins outs) = forms.ResetLine (texts ins.now) (texts outs.now)
form_said (lines.Latch input output) = forms.LatchLine input.now output.now
form_said (lines.Default words) = forms.DefaultLine (texts words.now)
form_said lines.End = forms.EndLine
form_said (lines.Row words) = forms.RowLine (texts words.now)

-- an entry as it is spelled
abbrev pub spelled_said : Spelled → spellings.Spelled
spelled_said entries.Dash = spellings.Dash
spelled_said (entries.One name) = spellings.One name.now
spelled_said (entries.Listed names) = spellings.Listed (listed_names (texts names.now))
spelled_said (entries.NotThis name) = spellings.NotThis name.now
spelled_said (entries.NotListed names) = spellings.NotListed (listed_names (texts names.now))
spelled_said (entries.Same name) = spellings.Same name.now

-- an entry, and the words behind it
abbrev pub taken_said : Taken → spellings.Taken spellings.Spelled
taken_said had = record { taken = spelled_said had.entry; rest = texts had.rest.now }

-- the names of a list, and the words behind it
abbrev pub list_taken : List (Bor (List ℕ)) → List (Bor (List ℕ)) → spellings.Taken (List Name)
list_taken names rest = record { taken = listed_names (texts names); rest = texts rest }

-- an entry with these words behind it
abbrev pub entry_taken : List Name → Spelled → spellings.Taken spellings.Spelled
entry_taken rest entry = record { taken = spelled_said entry; rest = rest }
