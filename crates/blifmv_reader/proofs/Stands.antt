-- The network that was read is the one that the bytes stand for.
use Rattle.std.proofs.Common.{◌≡◌, ℕ, true, List, [], ◌∷◌, length, map, Some, None, eqb-true, refl, sym, ◌∙◌, ap, subst}
use Rattle.std.specs.List.{All, flat_map}
use Rattle.std.proofs.lemmas.Bool.{and_parts}
use Rattle.std.proofs.lemmas.List.Elements.{All-nil, All-cons, All-append}
use Rattle.name_table.specs.Variables.{IsTable}
use Rattle.net_model.specs.Words.{Scope}
use Rattle.net_model.specs.Forms.{Form, ModelLine, InputsLine, OutputsLine, DomainsLine, TableLine, ResetLine, LatchLine, DefaultLine, EndLine, RowLine}
use Rattle.net_model.specs.Nets.{Latch, Net}
use Rattle.net_model.specs.Spellings.{domain_at}
use Rattle.net_model.specs.Conditions.{MeetsConditions}
use Rattle.net_model.specs.NetTexts.{variables_in, latches_on, net_with, net_said, rows_stand, text_in, LinesSay, StandsForNet}
use Rattle.net_model.specs.SoundNets.{HasKnownSignals}
use Rattle.blifmv_tables.specs.Drafts.{latch_fits, latches_fit}
use Rattle.blifmv_reader.proofs.Signals.{known_signals}

pub known_net : (text : List Form) (vars : Scope) (net : Net) → IsTable vars → vars ≡ variables_in text → net ≡ net_with vars text → HasKnownSignals net
known_net text vars net table is says =
    subst HasKnownSignals (sym (says ∙ ap (λ v. net_with v text) is)) (known_signals text (subst IsTable is table))

pub said_net : (text : List Form) (vars : Scope) (net : Net) → net ≡ net_with vars text → net ≡ net_with net.names text
said_net text vars net says = says ∙ ap (λ v. net_with v text) (sym (ap (λ (n : Net). n.names) says))

-- latches

abbrev pub HasEqualSizes : Scope → Latch → Type 0
HasEqualSizes vars latch = length (domain_at vars latch.input) ≡ length (domain_at vars latch.output)

fits_on : (vars : Scope) (form : Form) → latch_fits vars form ≡ true → All (HasEqualSizes vars) (latches_on vars form)
fits_on vars (ModelLine names) h = All-nil (HasEqualSizes vars)
fits_on vars (InputsLine names) h = All-nil (HasEqualSizes vars)
fits_on vars (OutputsLine names) h = All-nil (HasEqualSizes vars)
fits_on vars (DomainsLine names count values) h = All-nil (HasEqualSizes vars)
fits_on vars (TableLine ins outs) h = All-nil (HasEqualSizes vars)
fits_on vars (ResetLine ins outs) h = All-nil (HasEqualSizes vars)
fits_on vars (LatchLine input output) h = All-cons (HasEqualSizes vars) _ [] (eqb-true _ _ h) (All-nil (HasEqualSizes vars))
fits_on vars (DefaultLine words) h = All-nil (HasEqualSizes vars)
fits_on vars EndLine h = All-nil (HasEqualSizes vars)
fits_on vars (RowLine words) h = All-nil (HasEqualSizes vars)

pub fits_in : (vars : Scope) (text : List Form) → latches_fit vars text ≡ true → All (HasEqualSizes vars) (flat_map (latches_on vars) text)
fits_in vars [] h = All-nil (HasEqualSizes vars)
fits_in vars (form ∷ text) h =
    let parts = and_parts _ _ h in
    All-append (HasEqualSizes vars) (latches_on vars form) (flat_map (latches_on vars) text) (fits_on vars form parts.0) (fits_in vars text parts.1)

pub fit_net : (text : List Form) (vars : Scope) (net : Net) → latches_fit vars text ≡ true → net ≡ net_with vars text → All (HasEqualSizes net.names) net.latches
fit_net text vars net fits says = subst (λ (n : Net). All (HasEqualSizes n.names) n.latches) (sym says) (fits_in vars text fits)

-- what the bytes stand for

pub stands_net : (bytes : List ℕ) (vars : Scope) (net : Net) → LinesSay bytes (text_in bytes) → vars ≡ variables_in (text_in bytes) → rows_stand vars None (text_in bytes) ≡ true → net ≡ net_with vars (text_in bytes) → MeetsConditions net → StandsForNet bytes net
stands_net bytes vars net lines is rows says conditions = record {
  text = text_in bytes;
  lines = lines;
  rows = ap (λ v. rows_stand v None (text_in bytes)) (sym is) ∙ rows;
  says = says ∙ ap (λ v. net_with v (text_in bytes)) is;
  conditions = conditions;
}
