use Rattle.std.proofs.Common.{◌≡◌, ◌+◌, ◌<◌, ◌^◌, ℕ, zero, suc, Bool, true, false, List, [], ◌∷◌, ◌++◌, length, map, Option, Some, refl, sym, ap, ◌∙◌, arith, append_assoc, codes, decimal}
use Rattle.std.specs.Prelude.{unwrap_or, slice_get, slice_index_or}
use Rattle.std.specs.Option.{option_map}
use Rattle.std.specs.Fmt.{digits}
use Rattle.std.specs.List.{range_with_len}
use Rattle.std.proofs.lemmas.List.{length-map}
use Rattle.name_table.specs.Variables.{names_of, place_of, are_different, numbers}
use Rattle.net_model.specs.Words.{Variable, Scope}
use Rattle.net_model.specs.Listings as listings
use Rattle.net_model.specs.Listings.{Listing}
use Rattle.net_model.specs.Nets.{Value}
use Rattle.net_model.specs.Forms.{Name}
use Rattle.net_model.specs.Spellings.{One, taken_of, as_taken, input_entry, domain_at, with_entry, entries_at, inputs_at, outputs_at, whole, row_behind, row_spelled}
use Rattle.net_model.specs.NetTexts.{place_in, places_in}
use Rattle.net_model.specs.Printed.{state_name, mark_field, IsPrintedRow, IsPrintable}
use Rattle.printed_nets.specs.PrintedNets.{acc_variable, state_names, state_variable, printed_names, letter_places, acc_place, present_place, next_place, net_entries, net_row, mark_value, mark_row, entries_words}
use Rattle.printed_nets.proofs.Named.{own_names, all_names, all_different}
use Rattle.printed_nets.proofs.Rowed.{place_at, state_place, DomainsFrom, read_in, entries_read}

-- The network that the lines of a printed text say.

-- places of names

names_append : (vars more : Scope) → names_of (vars ++ more) ≡ names_of vars ++ names_of more
names_append [] more = refl
names_append (v ∷ vars) more = ap (λ ns. v.name ∷ ns) (names_append vars more)

names_of_all : (auto : Listing) → names_of (printed_names auto) ≡ all_names auto
names_of_all auto = names_append auto.vars (acc_variable ∷ state_variable (codes "CS") (length auto.accepting) ∷ state_variable (codes "NS") (length auto.accepting) ∷ [])

behind_at : (front back : List Name) (k : ℕ) → slice_index_or (front ++ back) (length front + k) [] ≡ slice_index_or back k []
behind_at [] back k = let same : zero + k ≡ k = omega arith in ap (λ i. slice_index_or back i []) same
behind_at (name ∷ front) back k =
    let same : length (name ∷ front) + k ≡ suc (length front + k) = omega arith in
    ap (λ i. slice_index_or (name ∷ (front ++ back)) i []) same ∙ behind_at front back k

longer : (front back : List Name) → length (front ++ back) ≡ length front + length back
longer [] back = omega arith
longer (name ∷ front) back = let rest = longer front back in omega arith

place_behind : (front back : List Name) (name : Name) (k : ℕ) → are_different (front ++ back) ≡ true → k < length back → slice_index_or back k [] ≡ name → place_of (front ++ back) name ≡ Some (length front + k)
place_behind front back name k different below is =
    let size = longer front back in
    let here : slice_index_or (front ++ back) (length front + k) [] ≡ name = behind_at front back k ∙ is in
    ap (place_of (front ++ back)) (sym here) ∙ place_at (front ++ back) (length front + k) different (omega arith)

names_length : (vars : Scope) → length (names_of vars) ≡ length vars
names_length vars = length-map vars (λ v. v.name)

own_place : (auto : Listing) → IsPrintable auto → (name : Name) (k : ℕ) → k < 3 → slice_index_or own_names k [] ≡ name → place_in (printed_names auto) name ≡ length auto.vars + k
own_place auto printable name k below is =
    let N = printed_names auto in
    let place = place_behind (names_of auto.vars) own_names name k (all_different auto printable) (omega arith) is in
    ap (λ ns. unwrap_or (place_of ns name) 0) (names_of_all auto)
    ∙ (ap (λ o. unwrap_or o 0) place ∙ ap (λ n. n + k) (names_length auto.vars))

pub acc_place_is : (auto : Listing) → IsPrintable auto → place_in (printed_names auto) (codes "Acc") ≡ acc_place auto
acc_place_is auto printable = let same : length auto.vars + 0 ≡ acc_place auto = omega arith in own_place auto printable (codes "Acc") 0 (omega arith) refl ∙ same

pub present_place_is : (auto : Listing) → IsPrintable auto → place_in (printed_names auto) (codes "CS") ≡ present_place auto
present_place_is auto printable = own_place auto printable (codes "CS") 1 (omega arith) refl

pub next_place_is : (auto : Listing) → IsPrintable auto → place_in (printed_names auto) (codes "NS") ≡ next_place auto
next_place_is auto printable = own_place auto printable (codes "NS") 2 (omega arith) refl

-- those of names that follow one another
places_follow : (all front names back : List Name) → all ≡ front ++ (names ++ back) → are_different all ≡ true → map (λ name. unwrap_or (place_of all name) 0) names ≡ range_with_len (length front) (length names)
places_follow all front [] back is different = refl
places_follow all front (name ∷ names) back is different =
    let here : place_of all name ≡ Some (length front) =
    ap (λ ns. place_of ns name) is
    ∙ (place_behind front (name ∷ (names ++ back)) name 0 (ap are_different (sym is) ∙ different) (omega arith) refl
    ∙ (let same : length front + 0 ≡ length front = omega arith in ap Some same)) in
    let next : all ≡ (front ++ name ∷ []) ++ (names ++ back) = is ∙ sym (append_assoc front (name ∷ []) (names ++ back)) in
    let size : length (front ++ name ∷ []) ≡ length front + 1 = longer front (name ∷ []) in
    ap (λ o. unwrap_or o 0 ∷ map (λ n. unwrap_or (place_of all n) 0) names) here
    ∙ ap (λ ns. length front ∷ ns) (places_follow all (front ++ name ∷ []) names back next different ∙ ap (λ low. range_with_len low (length names)) size)

pub letter_places_are : (auto : Listing) → IsPrintable auto → places_in (printed_names auto) (names_of auto.vars) ≡ letter_places auto
letter_places_are auto printable =
    ap (λ ns. map (λ name. unwrap_or (place_of ns name) 0) (names_of auto.vars)) (names_of_all auto)
    ∙ (places_follow (all_names auto) [] (names_of auto.vars) own_names refl (all_different auto printable)
    ∙ ap (range_with_len 0) (names_length auto.vars))

-- domains

pub variable_here : (front back : Scope) (v : Variable) → slice_get (front ++ v ∷ back) (length front) ≡ Some v
variable_here [] back v = refl
variable_here (u ∷ front) back v = variable_here front back v

vars_longer : (front : Scope) (v : Variable) → length (front ++ v ∷ []) ≡ length front + 1
vars_longer [] v = omega arith
vars_longer (u ∷ front) v = let rest = vars_longer front v in omega arith

domain_here : (all front back : Scope) (v : Variable) (k : ℕ) → all ≡ front ++ v ∷ back → k ≡ length front → domain_at all k ≡ v.values
domain_here all front back v k is at =
    ap (λ i. domain_at all i) at ∙ (ap (λ vs. domain_at vs (length front)) is ∙ ap (λ (o : Option Variable). (unwrap_or {T = Variable} o (record { name = []; values = [] })).values) (variable_here front back v))

pub domains_follow : (all front vars back : Scope) (low : ℕ) → all ≡ front ++ (vars ++ back) → low ≡ length front → DomainsFrom (domain_at all) low vars
domains_follow all front [] back low is at = tt
domains_follow all front (v ∷ vars) back low is at =
    let next : all ≡ (front ++ v ∷ []) ++ (vars ++ back) = is ∙ sym (append_assoc front (v ∷ []) (vars ++ back)) in
    let size = vars_longer front v in
    (domain_here all front (vars ++ back) v low is at, domains_follow all (front ++ v ∷ []) vars back (low + 1) next (omega arith))

abbrev pub own_variables : Listing → Scope
own_variables auto = acc_variable ∷ state_variable (codes "CS") (length auto.accepting) ∷ state_variable (codes "NS") (length auto.accepting) ∷ []

pub acc_domain_at : (auto : Listing) → domain_at (printed_names auto) (acc_place auto) ≡ numbers 2
acc_domain_at auto = domain_here (printed_names auto) auto.vars (state_variable (codes "CS") (length auto.accepting) ∷ state_variable (codes "NS") (length auto.accepting) ∷ []) acc_variable (acc_place auto) refl refl

pub present_domain_at : (auto : Listing) → domain_at (printed_names auto) (present_place auto) ≡ state_names (length auto.accepting)
present_domain_at auto =
    let cs = state_variable (codes "CS") (length auto.accepting) in
    let ns = state_variable (codes "NS") (length auto.accepting) in
    domain_here (printed_names auto) (auto.vars ++ acc_variable ∷ []) (ns ∷ []) cs (present_place auto)
    (sym (append_assoc auto.vars (acc_variable ∷ []) (cs ∷ ns ∷ []))) (sym (vars_longer auto.vars acc_variable))

pub next_domain_at : (auto : Listing) → domain_at (printed_names auto) (next_place auto) ≡ state_names (length auto.accepting)
next_domain_at auto =
    let cs = state_variable (codes "CS") (length auto.accepting) in
    let ns = state_variable (codes "NS") (length auto.accepting) in
    let one = vars_longer auto.vars acc_variable in
    let two = vars_longer (auto.vars ++ acc_variable ∷ []) cs in
    domain_here (printed_names auto) ((auto.vars ++ acc_variable ∷ []) ++ cs ∷ []) [] ns (next_place auto)
    (sym (append_assoc (auto.vars ++ acc_variable ∷ []) (cs ∷ []) (ns ∷ []) ∙ append_assoc auto.vars (acc_variable ∷ []) (cs ∷ ns ∷ []))) (omega arith)

-- rows

state_means : (auto : Listing) (place k : ℕ) → domain_at (printed_names auto) place ≡ state_names (length auto.accepting) → k < length auto.accepting → length auto.accepting < 2 ^ 64 → input_entry (domain_at (printed_names auto) place) (One (state_name k)) ≡ Some (Value k)
state_means auto place k is below few =
    ap (λ d. input_entry d (One (state_name k))) is ∙ ap (option_map Value) (state_place (length auto.accepting) k below few)

-- the columns of the table of steps
abbrev pub step_ins : Listing → List ℕ
step_ins auto = letter_places auto ++ present_place auto ∷ []

pub step_row_spelled : (auto : Listing) (row : listings.Row) → IsPrintable auto → IsPrintedRow auto.vars (length auto.accepting) row
    → row_spelled (printed_names auto) (step_ins auto) (next_place auto ∷ []) (entries_words auto.vars row.entries ++ (state_name row.present ∷ state_name row.next ∷ [])) ≡ Some (net_row auto.vars row)
step_row_spelled auto row printable printed =
    let N = printed_names auto in
    let states = state_name row.present ∷ state_name row.next ∷ [] in
    let resolve = read_in (domain_at N) in
    let present : entries_at resolve (present_place auto ∷ []) states ≡ taken_of (Value row.present ∷ []) (state_name row.next ∷ []) =
    ap (λ o. with_entry o (taken_of [] (state_name row.next ∷ []))) (state_means auto (present_place auto) row.present (present_domain_at auto) printed.present printable.few) in
    let ins : inputs_at N (step_ins auto) (entries_words auto.vars row.entries ++ states) ≡ taken_of (net_entries auto.vars row.entries ++ Value row.present ∷ []) (state_name row.next ∷ []) =
    entries_read (domain_at N) 0 auto.vars row.entries (present_place auto ∷ []) states (domains_follow N [] auto.vars (own_variables auto) 0 refl refl) printable.vars printed.entries
    ∙ ap (as_taken (λ es. net_entries auto.vars row.entries ++ es)) present in
    let next : outputs_at N (step_ins auto) (next_place auto ∷ []) (state_name row.next ∷ []) ≡ taken_of (Value row.next ∷ []) [] =
    ap (λ o. with_entry o (taken_of [] [])) (state_means auto (next_place auto) row.next (next_domain_at auto) printed.next printable.few) in
    ap (row_behind N (step_ins auto) (next_place auto ∷ [])) ins
    ∙ ap (λ o. option_map (λ entries. record { ins = net_entries auto.vars row.entries ++ Value row.present ∷ []; outs = entries }) (whole o)) next

decimal_0 : decimal 0 ≡ codes "0"
unfolding digits
decimal_0 = refl

decimal_1 : decimal 1 ≡ codes "1"
unfolding digits
decimal_1 = refl

two_numbers : numbers 2 ≡ codes "0" ∷ codes "1" ∷ []
two_numbers = rw decimal_0 (rw decimal_1 refl)

mark_means : (auto : Listing) (mark : Bool) → outputs_at (printed_names auto) (present_place auto ∷ []) (acc_place auto ∷ []) (mark_field mark ∷ []) ≡ taken_of (Value (mark_value mark) ∷ []) []
mark_means auto true = ap (λ d. with_entry (input_entry d (One (codes "1"))) (taken_of [] [])) (acc_domain_at auto ∙ two_numbers)
mark_means auto false = ap (λ d. with_entry (input_entry d (One (codes "0"))) (taken_of [] [])) (acc_domain_at auto ∙ two_numbers)

pub mark_row_spelled : (auto : Listing) (k : ℕ) (mark : Bool) → k < length auto.accepting → length auto.accepting < 2 ^ 64
    → row_spelled (printed_names auto) (present_place auto ∷ []) (acc_place auto ∷ []) (state_name k ∷ mark_field mark ∷ []) ≡ Some (mark_row k mark)
mark_row_spelled auto k mark below few =
    let N = printed_names auto in
    let ins : inputs_at N (present_place auto ∷ []) (state_name k ∷ mark_field mark ∷ []) ≡ taken_of (Value k ∷ []) (mark_field mark ∷ []) =
    ap (λ o. with_entry o (taken_of [] (mark_field mark ∷ []))) (state_means auto (present_place auto) k (present_domain_at auto) below few) in
    ap (row_behind N (present_place auto ∷ []) (acc_place auto ∷ [])) ins
    ∙ ap (λ o. option_map (λ entries. record { ins = Value k ∷ []; outs = entries }) (whole o)) (mark_means auto mark)

pub reset_row_spelled : (auto : Listing) → 0 < length auto.accepting → length auto.accepting < 2 ^ 64
    → row_spelled (printed_names auto) [] (present_place auto ∷ []) (codes "s0" ∷ []) ≡ Some (record { ins = []; outs = Value 0 ∷ [] })
reset_row_spelled auto some few =
    let first : state_name 0 ≡ codes "s0" = ap (λ ds. codes "s" ++ ds) decimal_0 in
    let means : input_entry (domain_at (printed_names auto) (present_place auto)) (One (codes "s0")) ≡ Some (Value 0) =
    ap (λ name. input_entry (domain_at (printed_names auto) (present_place auto)) (One name)) (sym first) ∙ state_means auto (present_place auto) 0 (present_domain_at auto) some few in
    let out : outputs_at (printed_names auto) [] (present_place auto ∷ []) (codes "s0" ∷ []) ≡ taken_of (Value 0 ∷ []) [] =
    ap (λ o. with_entry o (taken_of [] [])) means in
    ap (λ o. option_map (λ entries. record { ins = []; outs = entries }) (whole o)) out
