use Rattle.std.proofs.Common.{◌≡◌, ◌+◌, ℕ, List, [], ◌∷◌, ◌++◌, length, map, codes, sym, ap, ◌∙◌, append_assoc, zero-add, rules}
use Rattle.std.proofs.lemmas.List.{flat_map_more}
use Rattle.std.proofs.lemmas.List.FromFn.{map-range_with_len_more}
use Rattle.std.proofs.lemmas.List.Concat.{flat_map-append}
use Rattle.std.specs.List.{flat_map, join_with_byte, range_with_len}
use Rattle.net_model.specs.Listings.{Listing}
use Rattle.name_table.specs.Variables.{names_of}
use Rattle.net_model.specs.Printed.{state_name, domain_line, states_line, mark_lines, row_line, line_bytes, printed_text}
use Rattle.aut_format.specs.Fields.{blank_before, comma_before}
use Rattle.aut_format.proofs.Joins.{join-cons, join-commas}

-- the names of the states below k, and a blank and the name of k
pub states_more : (start t t' : List ℕ) (k : ℕ) → t ≡ start ++ blank_before (map state_name (range_with_len 0 k)) → t' ≡ (t ++ 32 ∷ []) ++ state_name k → t' ≡ start ++ blank_before (map state_name (range_with_len 0 (k + 1)))
states_more start t t' k so_far more =
    more
    ∙ append_assoc t (32 ∷ []) (state_name k)
    ∙ ap (λ s. s ++ (32 ∷ state_name k)) so_far
    ∙ flat_map_more (λ (field : List ℕ). 32 ∷ field) start (map state_name (range_with_len 0 k)) (state_name k)
    ∙ ap (λ names. start ++ blank_before names) (sym (map-range_with_len_more state_name 0 k k (zero-add k)))

-- a line of a variable's domain, written piece by piece
pub domain_written : (t t₁ t₂ t₃ t₄ t₅ t₆ name size : List ℕ) (values : List (List ℕ)) → t₁ ≡ t ++ codes ".mv" → t₂ ≡ t₁ ++ 32 ∷ name → t₃ ≡ t₂ ++ 32 ∷ [] → t₄ ≡ t₃ ++ size → t₅ ≡ t₄ ++ blank_before values → t₆ ≡ t₅ ++ 10 ∷ [] → t₆ ≡ t ++ line_bytes (codes ".mv" ∷ name ∷ size ∷ values)
domain_written t t₁ t₂ t₃ t₄ t₅ t₆ name size values e₁ e₂ e₃ e₄ e₅ e₆ = rw (join-cons size values) (search (rules, append_assoc))

-- the line of the states' domain
pub states_written : (t t₁ t₂ t₃ t₄ size : List ℕ) (names : List (List ℕ)) → t₁ ≡ t ++ codes ".mv CS,NS " → t₂ ≡ t₁ ++ size → t₃ ≡ t₂ ++ blank_before names → t₄ ≡ t₃ ++ 10 ∷ [] → t₄ ≡ t ++ line_bytes (codes ".mv" ∷ codes "CS,NS" ∷ size ∷ names)
states_written t t₁ t₂ t₃ t₄ size names e₁ e₂ e₃ e₄ = rw (join-cons size names) (search (rules, append_assoc))

-- the head of the table of steps
abbrev pub table_head : List (List ℕ) → List (List ℕ)
table_head names = codes ".table" ∷ (names ++ (codes "CS" ∷ codes "->" ∷ codes "NS" ∷ []))

pub table_written : (t t₁ t₂ t₃ : List ℕ) (names : List (List ℕ)) → t₁ ≡ t ++ codes ".table" → t₂ ≡ t₁ ++ blank_before names → t₃ ≡ t₂ ++ codes " CS -> NS\n" → t₃ ≡ t ++ line_bytes (table_head names)
table_written t t₁ t₂ t₃ names e₁ e₂ e₃ =
    e₃
    ∙ ap (λ s. s ++ codes " CS -> NS\n") (e₂ ∙ ap (λ s. s ++ blank_before names) e₁)
    ∙ regroup t (codes ".table") (blank_before names) (codes " CS -> NS") (10 ∷ [])
    ∙ ap (λ s. t ++ ((codes ".table" ++ s) ++ 10 ∷ [])) (sym (flat_map-append (λ (field : List ℕ). 32 ∷ field) names (codes "CS" ∷ codes "->" ∷ codes "NS" ∷ [])))
    ∙ ap (λ s. t ++ (s ++ 10 ∷ [])) (sym (join-cons (codes ".table") (names ++ (codes "CS" ∷ codes "->" ∷ codes "NS" ∷ []))))
  where
    regroup : (a b c d e : List ℕ) → ((a ++ b) ++ c) ++ (d ++ e) ≡ a ++ ((b ++ (c ++ d)) ++ e)
    regroup a b c d e = simp append_assoc

-- the parts of a printed text
pub printed_text-parts : (name : List ℕ) (auto : Listing) →
    printed_text name auto
    ≡ line_bytes (codes ".model" ∷ name ∷ [])
    ++ (line_bytes (codes ".inputs" ∷ names_of auto.vars)
    ++ (codes ".outputs Acc\n"
    ++ (flat_map line_bytes (map domain_line auto.vars)
    ++ (line_bytes (states_line (length auto.accepting))
    ++ (codes ".latch NS CS\n.reset CS\ns0\n.table CS -> Acc\n"
    ++ (flat_map line_bytes (mark_lines 0 auto.accepting)
    ++ (line_bytes (table_head (names_of auto.vars))
    ++ (flat_map line_bytes (map (row_line auto.vars) auto.rows) ++ codes ".end\n"))))))))
printed_text-parts name auto =
    let model = line_bytes (codes ".model" ∷ name ∷ []) in
    let inputs = line_bytes (codes ".inputs" ∷ names_of auto.vars) in
    let domains = flat_map line_bytes (map domain_line auto.vars) in
    let states = line_bytes (states_line (length auto.accepting)) in
    let marks = flat_map line_bytes (mark_lines 0 auto.accepting) in
    let table = line_bytes (table_head (names_of auto.vars)) in
    let last = map (row_line auto.vars) auto.rows ++ ((codes ".end" ∷ []) ∷ []) in
    ap (λ t. model ++ (inputs ++ (codes ".outputs Acc\n" ++ t)))
    (flat_map-append line_bytes (map domain_line auto.vars) (states_line (length auto.accepting) ∷ (codes ".latch" ∷ codes "NS" ∷ codes "CS" ∷ []) ∷ (codes ".reset" ∷ codes "CS" ∷ []) ∷ (codes "s0" ∷ []) ∷ (codes ".table" ∷ codes "CS" ∷ codes "->" ∷ codes "Acc" ∷ []) ∷ (mark_lines 0 auto.accepting ++ (table_head (names_of auto.vars) ∷ last))))
    ∙ ap (λ t. model ++ (inputs ++ (codes ".outputs Acc\n" ++ (domains ++ (states ++ (codes ".latch NS CS\n.reset CS\ns0\n.table CS -> Acc\n" ++ t))))))
    (flat_map-append line_bytes (mark_lines 0 auto.accepting) (table_head (names_of auto.vars) ∷ last))
    ∙ ap (λ t. model ++ (inputs ++ (codes ".outputs Acc\n" ++ (domains ++ (states ++ (codes ".latch NS CS\n.reset CS\ns0\n.table CS -> Acc\n" ++ (marks ++ (table ++ t))))))))
    (flat_map-append line_bytes (map (row_line auto.vars) auto.rows) ((codes ".end" ∷ []) ∷ []))

-- a text written part by part
parts_written : (t₁ t₂ t₃ t₄ t₅ t₆ t₇ t₈ t₉ t₀ a b c d e f g h i j : List ℕ) → t₁ ≡ a → t₂ ≡ t₁ ++ b → t₃ ≡ t₂ ++ c → t₄ ≡ t₃ ++ d → t₅ ≡ t₄ ++ e → t₆ ≡ t₅ ++ f → t₇ ≡ t₆ ++ g → t₈ ≡ t₇ ++ h → t₉ ≡ t₈ ++ i → t₀ ≡ t₉ ++ j → t₀ ≡ a ++ (b ++ (c ++ (d ++ (e ++ (f ++ (g ++ (h ++ (i ++ j))))))))
parts_written t₁ t₂ t₃ t₄ t₅ t₆ t₇ t₈ t₉ t₀ a b c d e f g h i j e₁ e₂ e₃ e₄ e₅ e₆ e₇ e₈ e₉ e₀ = simp (e₀, e₉, e₈, e₇, e₆, e₅, e₄, e₃, e₂, e₁, append_assoc)

-- the text of an automaton, written part by part
pub auto_written : (name : List ℕ) (auto : Listing) (t₁ t₂ t₃ t₄ t₅ t₆ t₇ t₈ t₉ t₀ : List ℕ) →
    t₁ ≡ line_bytes (codes ".model" ∷ name ∷ [])
    → t₂ ≡ t₁ ++ line_bytes (codes ".inputs" ∷ names_of auto.vars)
    → t₃ ≡ t₂ ++ codes ".outputs Acc\n"
    → t₄ ≡ t₃ ++ flat_map line_bytes (map domain_line auto.vars)
    → t₅ ≡ t₄ ++ line_bytes (states_line (length auto.accepting))
    → t₆ ≡ t₅ ++ codes ".latch NS CS\n.reset CS\ns0\n.table CS -> Acc\n"
    → t₇ ≡ t₆ ++ flat_map line_bytes (mark_lines 0 auto.accepting)
    → t₈ ≡ t₇ ++ line_bytes (table_head (names_of auto.vars))
    → t₉ ≡ t₈ ++ flat_map line_bytes (map (row_line auto.vars) auto.rows)
    → t₀ ≡ t₉ ++ codes ".end\n"
    → t₀ ≡ printed_text name auto
auto_written name auto t₁ t₂ t₃ t₄ t₅ t₆ t₇ t₈ t₉ t₀ e₁ e₂ e₃ e₄ e₅ e₆ e₇ e₈ e₉ e₀ =
    parts_written t₁ t₂ t₃ t₄ t₅ t₆ t₇ t₈ t₉ t₀ _ _ _ _ _ _ _ _ _ _ e₁ e₂ e₃ e₄ e₅ e₆ e₇ e₈ e₉ e₀ ∙ sym (printed_text-parts name auto)

-- a list of names, written piece by piece
pub list_written : (t t₁ t₂ t₃ t₄ first : List ℕ) (names : List (List ℕ)) → t₁ ≡ t ++ codes "(" → t₂ ≡ t₁ ++ first → t₃ ≡ t₂ ++ comma_before names → t₄ ≡ t₃ ++ codes ")" → t₄ ≡ t ++ (codes "(" ++ (join_with_byte 44 (first ∷ names) ++ codes ")"))
list_written t t₁ t₂ t₃ t₄ first names e₁ e₂ e₃ e₄ = rw (join-commas first names) (search (rules, append_assoc))
