use Rattle.std.proofs.Common.{◌≡◌, ◌≢◌, ◌+◌, ◌<◌, ◌≤◌, ◌^◌, ◌||◌, ℕ, zero, suc, Bool, true, false, not, List, [], ◌∷◌, ◌++◌, length, map, refl, sym, ap, ◌∙◌, subst, arith, append_assoc, codes, decimal, inl, inr}
use Rattle.std.specs.List.{flat_map, list_all, list_any, AllByRecursion, range_with_len}
use Rattle.std.specs.Str.{bytes_eq}
use Rattle.std.proofs.lemmas.Bool.{and_parts, false≢true}
use Rattle.std.proofs.lemmas.List.{append-nil}
use Rattle.std.proofs.lemmas.List.FromFn.{length-map-range_with_len}
use Rattle.std.proofs.lemmas.List.Concat.{flat_map-append}
use Rattle.std.proofs.lemmas.Fmt.{decimal_injective}
use Rattle.std.proofs.lemmas.Slice.Eq.{bytes_eq-Decides}
use Rattle.name_table.specs.Variables.{names_of, is_in, with_name, are_different, are_same, numbers}
use Rattle.name_table.proofs.Apart.{bytes_eq_flip, not_equal, not_different, different_push, not_true}
use Rattle.net_model.specs.Words.{Variable, Scope}
use Rattle.net_model.specs.Listings.{Row, Listing}
use Rattle.net_model.specs.Forms.{Name, Form, EndLine}
use Rattle.net_model.specs.NetTexts.{mentions, distinct, names_in, domain_given, domain_in, variables_in, has_domains}
use Rattle.net_model.specs.Written.{IsTextVariable}
use Rattle.net_model.specs.Printed.{state_name, IsPrintedVariable, IsPrintable}
use Rattle.printed_nets.proofs.Members.{IsOneOf}
use Rattle.printed_nets.specs.PrintedNets.{acc_variable, state_names, state_variable, printed_names, domain_form, mark_forms, row_form, step_forms, table_forms, state_forms, printed_forms}

-- The names of a printed text, and their domains.

pub same_bytes : (name : Name) → bytes_eq name name ≡ true
same_bytes name = (bytes_eq-Decides name name).1 refl

is_in_cons : (had : Name) (names : List Name) (name : Name) → is_in names name ≡ true → is_in (had ∷ names) name ≡ true
is_in_cons had names name h =
    elim (bytes_eq name had) as (λ b. (b || is_in names name) ≡ true) [ true ↦ refl | false ↦ h ]

pub is_in_left : (names more : List Name) (name : Name) → is_in names name ≡ true → is_in (names ++ more) name ≡ true
is_in_left [] more name h = absurd (false≢true h)
is_in_left (first ∷ names) more name h =
    elim (bytes_eq name first) as (λ b. (b || is_in names name) ≡ true → (b || is_in (names ++ more) name) ≡ true) [
      | true ↦ λ e. refl
      | false ↦ λ e. is_in_left names more name e
    ] h

pub is_in_right : (names more : List Name) (name : Name) → is_in more name ≡ true → is_in (names ++ more) name ≡ true
is_in_right [] more name h = h
is_in_right (first ∷ names) more name h = is_in_cons first (names ++ more) name (is_in_right names more name h)

pub all_in : (names : List Name) (more : List Name) → list_all (is_in (more ++ names)) names ≡ true
all_in [] more = refl
all_in (name ∷ names) more =
    let here : is_in (more ++ name ∷ names) name ≡ true = is_in_right more (name ∷ names) name (rw (same_bytes name) refl) in
    let rest : list_all (is_in (more ++ name ∷ names)) names ≡ true =
    subst (λ ns. list_all (is_in ns) names ≡ true) (append_assoc more (name ∷ []) names) (all_in names (more ++ name ∷ [])) in
    rw here rest

all_in_more : (had more names : List Name) → list_all (is_in had) names ≡ true → list_all (is_in (had ++ more)) names ≡ true
all_in_more had more [] h = refl
all_in_more had more (name ∷ names) h =
    let parts = and_parts (is_in had name) (list_all (is_in had) names) h in
    rw (is_in_left had more name parts.0) (all_in_more had more names parts.1)

-- names that are new
pub not_before : (had names : List Name) (name : Name) → are_different (had ++ name ∷ names) ≡ true → is_in had name ≡ false
not_before had names name different =
    elim (is_in had name) as (λ b. is_in had name ≡ b → b ≡ false) [
      | true ↦ λ e. absurd (false≢true (sym (not_different had name names e) ∙ different))
      | false ↦ λ e. refl
    ] refl

pub distinct_new : (had names rest : List Name) → are_different (had ++ names) ≡ true → distinct had (names ++ rest) ≡ distinct (had ++ names) rest
distinct_new had [] rest different = ap (λ h. distinct h rest) (sym (append-nil had))
distinct_new had (name ∷ names) rest different =
    let new : with_name had name ≡ had ++ name ∷ [] = rw (not_before had names name different) refl in
    let joined : (had ++ name ∷ []) ++ names ≡ had ++ name ∷ names = append_assoc had (name ∷ []) names in
    ap (λ h. distinct h (names ++ rest)) new
    ∙ (distinct_new (had ++ name ∷ []) names rest (ap are_different joined ∙ different)
    ∙ ap (λ h. distinct h rest) joined)

-- and names that aren't
pub distinct_old : (had names rest : List Name) → list_all (is_in had) names ≡ true → distinct had (names ++ rest) ≡ distinct had rest
distinct_old had [] rest h = refl
distinct_old had (name ∷ names) rest h =
    let parts = and_parts (is_in had name) (list_all (is_in had) names) h in
    let known : with_name had name ≡ had = rw parts.0 refl in
    ap (λ h. distinct h (names ++ rest)) known ∙ distinct_old had names rest parts.1

-- the names of an automaton's network

abbrev pub own_names : List Name
own_names = codes "Acc" ∷ codes "CS" ∷ codes "NS" ∷ []

abbrev pub all_names : Listing → List Name
all_names auto = names_of auto.vars ++ own_names

-- none of them is another one

no_own : (vars : Scope) (own : Name) → AllByRecursion (λ v. v.name ≢ own) vars → is_in (names_of vars) own ≡ false
no_own [] own all = refl
no_own (v ∷ vars) own all = rw (bytes_eq_flip own v.name) (rw (not_equal v.name own all.0) (no_own vars own all.1))

no_acc : (vars : Scope) → AllByRecursion IsPrintedVariable vars → AllByRecursion (λ v. v.name ≢ codes "Acc") vars
no_acc [] all = tt
no_acc (v ∷ vars) all = (all.0.not_accepting, no_acc vars all.1)

no_present : (vars : Scope) → AllByRecursion IsPrintedVariable vars → AllByRecursion (λ v. v.name ≢ codes "CS") vars
no_present [] all = tt
no_present (v ∷ vars) all = (all.0.not_present, no_present vars all.1)

no_next : (vars : Scope) → AllByRecursion IsPrintedVariable vars → AllByRecursion (λ v. v.name ≢ codes "NS") vars
no_next [] all = tt
no_next (v ∷ vars) all = (all.0.not_next, no_next vars all.1)

is_in_push : (names : List Name) (last name : Name) → is_in names name ≡ false → bytes_eq name last ≡ false → is_in (names ++ last ∷ []) name ≡ false
is_in_push [] last name h e = rw e refl
is_in_push (first ∷ names) last name h e =
    elim (bytes_eq name first) as (λ b. (b || is_in names name) ≡ false → (b || is_in (names ++ last ∷ []) name) ≡ false) [
      | true ↦ λ f. f
      | false ↦ λ f. is_in_push names last name f e
    ] h

pub own_apart : (auto : Listing) → IsPrintable auto → (is_in (names_of auto.vars) (codes "Acc") ≡ false) × (is_in (names_of auto.vars) (codes "CS") ≡ false) × (is_in (names_of auto.vars) (codes "NS") ≡ false)
own_apart auto printable = (
  no_own auto.vars (codes "Acc") (no_acc auto.vars printable.vars),
  no_own auto.vars (codes "CS") (no_present auto.vars printable.vars),
  no_own auto.vars (codes "NS") (no_next auto.vars printable.vars),
)

-- so with `Acc`, and with all three
pub with_acc : (auto : Listing) → IsPrintable auto → are_different (names_of auto.vars ++ codes "Acc" ∷ []) ≡ true
with_acc auto printable = different_push (names_of auto.vars) (codes "Acc") printable.different (own_apart auto printable).0

pub all_different : (auto : Listing) → IsPrintable auto → are_different (all_names auto) ≡ true
all_different auto printable =
    let names = names_of auto.vars in
    let apart = own_apart auto printable in
    let two : are_different ((names ++ codes "Acc" ∷ []) ++ codes "CS" ∷ []) ≡ true =
    different_push (names ++ codes "Acc" ∷ []) (codes "CS") (with_acc auto printable) (is_in_push names (codes "Acc") (codes "CS") apart.1 refl) in
    let three : are_different (((names ++ codes "Acc" ∷ []) ++ codes "CS" ∷ []) ++ codes "NS" ∷ []) ≡ true =
    different_push ((names ++ codes "Acc" ∷ []) ++ codes "CS" ∷ []) (codes "NS") two
    (is_in_push (names ++ codes "Acc" ∷ []) (codes "CS") (codes "NS") (is_in_push names (codes "Acc") (codes "NS") apart.2 refl) refl) in
    let same : ((names ++ codes "Acc" ∷ []) ++ codes "CS" ∷ []) ++ codes "NS" ∷ [] ≡ all_names auto =
    append_assoc (names ++ codes "Acc" ∷ []) (codes "CS" ∷ []) (codes "NS" ∷ []) ∙ append_assoc names (codes "Acc" ∷ []) (codes "CS" ∷ codes "NS" ∷ []) in
    subst (λ ns. are_different ns ≡ true) same three

-- what the lines mention

domains_mention : (vars : Scope) → flat_map mentions (map domain_form vars) ≡ names_of vars
domains_mention [] = refl
domains_mention (v ∷ vars) = ap (λ ns. v.name ∷ ns) (domains_mention vars)

marks_mention : (k : ℕ) (marks : List Bool) → flat_map mentions (mark_forms k marks) ≡ []
marks_mention k [] = refl
marks_mention k (mark ∷ marks) = marks_mention (k + 1) marks

rows_mention : (vars : Scope) (rows : List Row) → flat_map mentions (map (row_form vars) rows) ≡ []
rows_mention vars [] = refl
rows_mention vars (row ∷ rows) = rows_mention vars rows

steps_mention : (auto : Listing) → flat_map mentions (step_forms auto) ≡ (names_of auto.vars ++ codes "CS" ∷ []) ++ codes "NS" ∷ []
steps_mention auto =
    ap (λ ns. ((names_of auto.vars ++ codes "CS" ∷ []) ++ codes "NS" ∷ []) ++ ns)
    (flat_map-append mentions (map (row_form auto.vars) auto.rows) (EndLine ∷ []) ∙ ap (λ ns. ns ++ []) (rows_mention auto.vars auto.rows))
    ∙ append-nil ((names_of auto.vars ++ codes "CS" ∷ []) ++ codes "NS" ∷ [])

-- the names on the lines from the table of accepting states on
tables_mention : (auto : Listing) → flat_map mentions (table_forms auto) ≡ codes "CS" ∷ codes "Acc" ∷ ((names_of auto.vars ++ codes "CS" ∷ []) ++ codes "NS" ∷ [])
tables_mention auto =
    ap (λ ns. codes "CS" ∷ codes "Acc" ∷ ns)
    (flat_map-append mentions (mark_forms 0 auto.accepting) (step_forms auto)
    ∙ (ap (λ ns. ns ++ flat_map mentions (step_forms auto)) (marks_mention 0 auto.accepting) ∙ steps_mention auto))

abbrev later_names : Listing → List Name
later_names auto = codes "NS" ∷ codes "CS" ∷ codes "CS" ∷ codes "CS" ∷ codes "Acc" ∷ ((names_of auto.vars ++ codes "CS" ∷ []) ++ codes "NS" ∷ [])

states_mention : (auto : Listing) → flat_map mentions (state_forms auto) ≡ (codes "CS" ∷ codes "NS" ∷ []) ++ later_names auto
states_mention auto = ap (λ ns. codes "CS" ∷ codes "NS" ∷ codes "NS" ∷ codes "CS" ∷ codes "CS" ∷ ns) (tables_mention auto)

all_mention : (name : Name) (auto : Listing) → flat_map mentions (printed_forms name auto) ≡ (names_of auto.vars ++ codes "Acc" ∷ []) ++ (names_of auto.vars ++ ((codes "CS" ∷ codes "NS" ∷ []) ++ later_names auto))
all_mention name auto =
    ap (λ ns. names_of auto.vars ++ (codes "Acc" ∷ ns))
    (flat_map-append mentions (map domain_form auto.vars) (state_forms auto)
    ∙ (ap (λ ns. ns ++ flat_map mentions (state_forms auto)) (domains_mention auto.vars) ∙ ap (λ ns. names_of auto.vars ++ ns) (states_mention auto)))
    ∙ sym (append_assoc (names_of auto.vars) (codes "Acc" ∷ []) (names_of auto.vars ++ ((codes "CS" ∷ codes "NS" ∷ []) ++ later_names auto)))

later_in : (auto : Listing) → list_all (is_in (all_names auto)) (later_names auto) ≡ true
later_in auto =
    let names = names_of auto.vars in
    let N = all_names auto in
    let cs : is_in N (codes "CS") ≡ true = is_in_right names own_names (codes "CS") refl in
    let ns : is_in N (codes "NS") ≡ true = is_in_right names own_names (codes "NS") refl in
    let acc : is_in N (codes "Acc") ≡ true = is_in_right names own_names (codes "Acc") refl in
    let vars : list_all (is_in N) names ≡ true = all_in_more names own_names names (all_in names []) in
    let last : list_all (is_in N) ((names ++ codes "CS" ∷ []) ++ codes "NS" ∷ []) ≡ true = push N (names ++ codes "CS" ∷ []) (codes "NS") (push N names (codes "CS") vars cs) ns in
    rw ns (rw cs (rw acc last))
  where
    push : (had names : List Name) (name : Name) → list_all (is_in had) names ≡ true → is_in had name ≡ true → list_all (is_in had) (names ++ name ∷ []) ≡ true
    push had [] name h e = rw e refl
    push had (first ∷ more) name h e =
        let parts = and_parts (is_in had first) (list_all (is_in had) more) h in
        rw parts.0 (push had more name parts.1 e)

pub names_are : (name : Name) (auto : Listing) → IsPrintable auto → names_in (printed_forms name auto) ≡ all_names auto
names_are name auto printable =
    let names = names_of auto.vars in
    let first = names ++ codes "Acc" ∷ [] in
    let own = codes "CS" ∷ codes "NS" ∷ [] in
    let later = later_names auto in
    let joined : first ++ own ≡ all_names auto = append_assoc names (codes "Acc" ∷ []) own in
    ap (distinct []) (all_mention name auto)
    ∙ (distinct_new [] first (names ++ (own ++ later)) (with_acc auto printable)
    ∙ (distinct_old first names (own ++ later) (all_in_more names (codes "Acc" ∷ []) names (all_in names []))
    ∙ (distinct_new first own later (ap are_different joined ∙ all_different auto printable)
    ∙ (ap (λ h. distinct h later) joined
    ∙ (ap (distinct (all_names auto)) (sym (append-nil later)) ∙ distinct_old (all_names auto) later [] (later_in auto))))))

-- domains

-- a line that gives no domain to this name
domain_passed : (v : Variable) (rest : List Form) (name : Name) → bytes_eq name v.name ≡ false → domain_in (domain_form v ∷ rest) name ≡ domain_in rest name
domain_passed v rest name other = rw other refl

given_some : (count : Name) (values : List Name) → 0 < length values → domain_given count values ≡ values
given_some count [] some = absurd (omega arith)
given_some count (value ∷ values) some = refl

domain_found : (v : Variable) (rest : List Form) → 0 < length v.values → domain_in (domain_form v ∷ rest) v.name ≡ v.values
domain_found v rest some = rw (same_bytes v.name) (given_some (decimal (length v.values)) v.values some)

others_passed : (vars : Scope) (rest : List Form) (name : Name) → is_in (names_of vars) name ≡ false → domain_in (map domain_form vars ++ rest) name ≡ domain_in rest name
others_passed [] rest name none = refl
others_passed (v ∷ vars) rest name none =
    elim (bytes_eq name v.name) as (λ b. bytes_eq name v.name ≡ b → (b || is_in (names_of vars) name) ≡ false → domain_in (map domain_form (v ∷ vars) ++ rest) name ≡ domain_in rest name) [
      | true ↦ λ e f. absurd (false≢true (sym f))
      | false ↦ λ e f. domain_passed v (map domain_form vars ++ rest) name e ∙ others_passed vars rest name f
    ] refl none

pub named_in : (vars : Scope) (v : Variable) → IsOneOf vars v → is_in (names_of vars) v.name ≡ true
named_in [] v one = absurd one
named_in (u ∷ vars) v (inl is) = rw (ap (λ (w : Variable). bytes_eq v.name w.name) is ∙ same_bytes v.name) refl
named_in (u ∷ vars) v (inr one) = is_in_cons u.name (names_of vars) v.name (named_in vars v one)

own_domain : (vars : Scope) (rest : List Form) (v : Variable) → AllByRecursion IsPrintedVariable vars → are_different (names_of vars) ≡ true → IsOneOf vars v → domain_in (map domain_form vars ++ rest) v.name ≡ v.values
own_domain [] rest v all different one = absurd one
own_domain (u ∷ vars) rest v all different (inl is) =
    subst (λ (w : Variable). domain_in (domain_form u ∷ (map domain_form vars ++ rest)) w.name ≡ w.values) is
    (domain_found u (map domain_form vars ++ rest) all.0.text.some)
own_domain (u ∷ vars) rest v all different (inr one) =
    let parts = and_parts (not (list_any (bytes_eq u.name) (names_of vars))) (are_different (names_of vars)) different in
    let none : is_in (names_of vars) u.name ≡ false = not_true _ parts.0 in
    let other : bytes_eq v.name u.name ≡ false =
    not_equal v.name u.name (λ e. absurd (false≢true (sym none ∙ (ap (is_in (names_of vars)) (sym e) ∙ named_in vars v one)))) in
    domain_passed u (map domain_form vars ++ rest) v.name other ∙ own_domain vars rest v all.1 parts.1 one

marks_passed : (k : ℕ) (marks : List Bool) (rest : List Form) (name : Name) → domain_in (mark_forms k marks ++ rest) name ≡ domain_in rest name
marks_passed k [] rest name = refl
marks_passed k (mark ∷ marks) rest name = marks_passed (k + 1) marks rest name

rows_passed : (vars : Scope) (rows : List Row) (rest : List Form) (name : Name) → domain_in (map (row_form vars) rows ++ rest) name ≡ domain_in rest name
rows_passed vars [] rest name = refl
rows_passed vars (row ∷ rows) rest name = rows_passed vars rows rest name

-- the lines from the table of accepting states on give none
tables_give_none : (auto : Listing) (name : Name) → domain_in (table_forms auto) name ≡ numbers 2
tables_give_none auto name = marks_passed 0 auto.accepting (step_forms auto) name ∙ rows_passed auto.vars auto.rows (EndLine ∷ []) name

pub acc_domain : (name : Name) (auto : Listing) → IsPrintable auto → domain_in (printed_forms name auto) (codes "Acc") ≡ numbers 2
acc_domain name auto printable =
    others_passed auto.vars (state_forms auto) (codes "Acc") (own_apart auto printable).0 ∙ tables_give_none auto (codes "Acc")

some_states : (n : ℕ) → 0 < n → 0 < length (state_names n)
some_states n some = let size = length-map-range_with_len state_name 0 n in omega arith

pub state_domain : (name : Name) (auto : Listing) → IsPrintable auto →
    (domain_in (printed_forms name auto) (codes "CS") ≡ state_names (length auto.accepting))
    × (domain_in (printed_forms name auto) (codes "NS") ≡ state_names (length auto.accepting))
state_domain name auto printable =
    let n = length auto.accepting in
    let given = given_some (decimal n) (state_names n) (some_states n printable.states) in (
      others_passed auto.vars (state_forms auto) (codes "CS") (own_apart auto printable).1 ∙ given,
      others_passed auto.vars (state_forms auto) (codes "NS") (own_apart auto printable).2 ∙ given,
    )

-- the variables

vars_said : (domain : Name → List Name) (vars : Scope) → ((v : Variable) → IsOneOf vars v → domain v.name ≡ v.values) → map (λ name. record { name = name; values = domain name }) (names_of vars) ≡ vars
vars_said domain [] each = refl
vars_said domain (v ∷ vars) each =
    ap (λ values. record { name = v.name; values = values } ∷ map (λ name. record { name = name; values = domain name }) (names_of vars)) (each v (inl refl))
    ∙ ap (λ vs. v ∷ vs) (vars_said domain vars (λ u one. each u (inr one)))

map_names : (f : Name → Variable) (names more : List Name) → map f (names ++ more) ≡ map f names ++ map f more
map_names f [] more = refl
map_names f (name ∷ names) more = ap (λ vs. f name ∷ vs) (map_names f names more)

pub variables_are : (name : Name) (auto : Listing) → IsPrintable auto → variables_in (printed_forms name auto) ≡ printed_names auto
variables_are name auto printable =
    let domain = domain_in (printed_forms name auto) in
    let variable = λ (n : Name). let v : Variable = record { name = n; values = domain n } in v in
    let state = state_domain name auto printable in
    let own : map variable own_names ≡ acc_variable ∷ state_variable (codes "CS") (length auto.accepting) ∷ state_variable (codes "NS") (length auto.accepting) ∷ [] =
    rw (acc_domain name auto printable) (rw state.0 (rw state.1 refl)) in
    ap (map variable) (names_are name auto printable)
    ∙ (map_names variable (names_of auto.vars) own_names
    ∙ (ap (λ vs. vs ++ map variable own_names) (vars_said domain auto.vars (λ v one. own_domain auto.vars (state_forms auto) v printable.vars printable.different one))
    ∙ ap (λ vs. auto.vars ++ vs) own))

-- which are right

same_names : (names : List Name) → are_same names names ≡ true
same_names [] = refl
same_names (name ∷ names) = rw (same_bytes name) (same_names names)

domain_right : (domain : Name → List Name) (v : Variable) → IsTextVariable v → domain v.name ≡ v.values → has_domains domain (domain_form v) ≡ true
domain_right domain v text is = rw text.different (rw is (rw (given_some (decimal (length v.values)) v.values text.some) (rw (same_names v.values) refl)))

domains_right : (domain : Name → List Name) (vars : Scope) (rest : List Form) → AllByRecursion IsPrintedVariable vars → ((v : Variable) → IsOneOf vars v → domain v.name ≡ v.values) → list_all (has_domains domain) rest ≡ true → list_all (has_domains domain) (map domain_form vars ++ rest) ≡ true
domains_right domain [] rest all each more = more
domains_right domain (v ∷ vars) rest all each more =
    rw (domain_right domain v all.0.text (each v (inl refl))) (domains_right domain vars rest all.1 (λ u one. each u (inr one)) more)

marks_right : (domain : Name → List Name) (k : ℕ) (marks : List Bool) (rest : List Form) → list_all (has_domains domain) (mark_forms k marks ++ rest) ≡ list_all (has_domains domain) rest
marks_right domain k [] rest = refl
marks_right domain k (mark ∷ marks) rest = marks_right domain (k + 1) marks rest

rows_right : (domain : Name → List Name) (vars : Scope) (rows : List Row) (rest : List Form) → list_all (has_domains domain) (map (row_form vars) rows ++ rest) ≡ list_all (has_domains domain) rest
rows_right domain vars [] rest = refl
rows_right domain vars (row ∷ rows) rest = rows_right domain vars rows rest

state_apart : (low n k : ℕ) → k < low → low + n ≤ 2 ^ 64 → is_in (map state_name (range_with_len low n)) (state_name k) ≡ false
state_apart low zero k below few = refl
state_apart low (suc n) k below few =
    let differ : bytes_eq (state_name k) (state_name low) ≡ false =
    not_equal (decimal k) (decimal low) (λ e. let is : k ≡ low = decimal_injective k low (omega arith) (omega arith) e in absurd (omega arith)) in
    rw differ (state_apart (low + 1) n k (omega arith) (omega arith))

pub states_different : (low n : ℕ) → low + n ≤ 2 ^ 64 → are_different (map state_name (range_with_len low n)) ≡ true
states_different low zero few = refl
states_different low (suc n) few =
    rw (state_apart (low + 1) n low (omega arith) (omega arith)) (states_different (low + 1) n (omega arith))

pub all_domains_right : (name : Name) (auto : Listing) → IsPrintable auto → list_all (has_domains (domain_in (printed_forms name auto))) (printed_forms name auto) ≡ true
all_domains_right name auto printable =
    let domain = domain_in (printed_forms name auto) in
    let n = length auto.accepting in
    let few = printable.few in
    let state = state_domain name auto printable in
    let given = given_some (decimal n) (state_names n) (some_states n printable.states) in
    let tables : list_all (has_domains domain) (table_forms auto) ≡ true =
    marks_right domain 0 auto.accepting (step_forms auto) ∙ rows_right domain auto.vars auto.rows (EndLine ∷ []) in
    let states : list_all (has_domains domain) (state_forms auto) ≡ true =
    rw (states_different 0 n (omega arith)) (rw state.0 (rw state.1 (rw given (rw (same_names (state_names n)) tables)))) in
    domains_right domain auto.vars (state_forms auto) printable.vars (λ v one. own_domain auto.vars (state_forms auto) v printable.vars printable.different one) states
