-- A text has no fault exactly where it stands for a network within the limits.
use Rattle.std.proofs.Common.{◌≡◌, ℕ, true, List, [], ◌∷◌, length, map, Some, None, refl, sym, ◌∙◌, ap, subst, arith}
use Rattle.std.specs.List.{All, flat_map, filter_map, cons_option}
use Rattle.std.proofs.lemmas.Bool.{eq-eqb}
use Rattle.lex_core.specs.LogicalLines.{LogicalLine, logical_lines}
use Rattle.net_model.specs.Words.{Scope}
use Rattle.net_model.specs.Forms.{Form, ModelLine, InputsLine, OutputsLine, DomainsLine, TableLine, ResetLine, LatchLine, DefaultLine, EndLine, RowLine, said_by}
use Rattle.net_model.specs.Nets.{Latch}
use Rattle.net_model.specs.Spellings.{domain_at}
use Rattle.net_model.specs.Conditions.{MeetsConditions}
use Rattle.net_model.specs.NetTexts.{place_in, variables_in, latches_on, net_said, rows_stand, text_in, LinesSay}
use Rattle.blifmv_names.specs.LineFaults.{line_fault}
use Rattle.blifmv_names.proofs.Within.{text_faultless}
use Rattle.blifmv_names.proofs.Backward.{no_fault_said}
use Rattle.blifmv_tables.specs.Drafts.{latch_fits, latches_fit}
use Rattle.blifmv_tables.proofs.Faultless.{rows_faultless}
use Rattle.blifmv_signals.proofs.Backward.{without_fault}
use Rattle.blifmv_signals.proofs.Faultless.{All-left, All-right}
use Rattle.blifmv_reader.specs.Told.{HasNoFault, StandsWithinLimits}
use Rattle.blifmv_reader.proofs.Stands.{HasEqualSizes, fits_in}
use Rattle.blifmv_reader.proofs.Told.{known_of}
use Rattle.blifmv_reader.proofs.Widths.{stand_fits}

-- without a fault

pub stands_faultless : (bytes : List ℕ) → HasNoFault bytes → StandsWithinLimits bytes
stands_faultless bytes h =
    let text = text_in bytes in
    let vars = variables_in text in
    let lines = text_faultless bytes h.lines in
    let rows = (rows_faultless vars bytes).0 h.rows in
    let conditions = (without_fault (net_said text) bytes h.signals.known refl h.signals.right (fits_in vars text rows.1)).0 h.signals.picked in
    record {
      net = net_said text;
      stands = record { text = text; lines = lines.says; rows = rows.0; says = refl; conditions = conditions };
      within = lines.within;
    }

-- and the other way round

text_found : (lines : List LogicalLine) (text : List Form) → map said_by lines ≡ map Some text → filter_map said_by lines ≡ text
text_found [] [] h = refl
text_found [] (form ∷ text) h = cc
text_found (line ∷ lines) [] h = cc
text_found (line ∷ lines) (form ∷ text) h =
    let first : said_by line ≡ Some form = cc in
    let rest : map said_by lines ≡ map Some text = cc in
    ap (λ said. cons_option said (filter_map said_by lines)) first ∙ ap (λ more. form ∷ more) (text_found lines text rest)

line_fits : (vars : Scope) (form : Form) → All (HasEqualSizes vars) (latches_on vars form) → latch_fits vars form ≡ true
line_fits vars (ModelLine names) h = refl
line_fits vars (InputsLine names) h = refl
line_fits vars (OutputsLine names) h = refl
line_fits vars (DomainsLine names count values) h = refl
line_fits vars (TableLine ins outs) h = refl
line_fits vars (ResetLine ins outs) h = refl
line_fits vars (LatchLine input output) h =
    let latch : Latch = record { input = place_in vars input; output = place_in vars output } in
    eq-eqb (length (domain_at vars (place_in vars input))) (length (domain_at vars (place_in vars output))) (h 0 latch (omega arith))
line_fits vars (DefaultLine words) h = refl
line_fits vars EndLine h = refl
line_fits vars (RowLine words) h = refl

all_fit : (vars : Scope) (text : List Form) → All (HasEqualSizes vars) (flat_map (latches_on vars) text) → latches_fit vars text ≡ true
all_fit vars [] h = refl
all_fit vars (form ∷ text) h =
    let here = line_fits vars form (All-left (HasEqualSizes vars) (latches_on vars form) (flat_map (latches_on vars) text) h) in
    let more = all_fit vars text (All-right (HasEqualSizes vars) (latches_on vars form) (flat_map (latches_on vars) text) h) in
    rw (here, more) refl

pub faultless_standing : (bytes : List ℕ) → StandsWithinLimits bytes → HasNoFault bytes
faultless_standing bytes h =
    let text = text_in bytes in
    let vars = variables_in text in
    let same : h.stands.text ≡ text = sym (text_found (logical_lines bytes) h.stands.text h.stands.lines.lines) in
    let says : LinesSay bytes text = subst (LinesSay bytes) same h.stands.lines in
    let rows : rows_stand vars None text ≡ true = subst (λ t. rows_stand (variables_in t) None t ≡ true) same h.stands.rows in
    let conditions : MeetsConditions (net_said text) = subst MeetsConditions (h.stands.says ∙ ap net_said same) h.stands.conditions in
    let lines : line_fault bytes ≡ None = no_fault_said bytes (record { says = says; fit = stand_fits vars None text rows; within = h.within }) in
    let known = known_of bytes lines in
    record {
      lines = lines;
      rows = (rows_faultless vars bytes).1 (rows, all_fit vars text conditions.latches);
      signals = record {
        known = known.0;
        right = known.1;
        picked = (without_fault (net_said text) bytes known.0 refl known.1 conditions.latches).1 conditions;
      };
    }
