-- A variable that another file has too.
use Rattle.std.proofs.Common.{◌≡◌, ◌<◌, ◌+◌, ◌||◌, ◌&&◌, ℕ, true, not, List, ◌∷◌, length, get_or, drop, sym, ◌∙◌, ap}
use Rattle.std.specs.Prelude.{if◌then◌else◌}
use Rattle.std.specs.Str.{bytes_eq}
use Rattle.std.proofs.lemmas.List.{drop_more}
use Rattle.name_table.specs.ScopeVars.{variables_of}
use Rattle.name_table.specs.Variables.{Variable, are_same}
use Rattle.name_table.specs.declared.scope_var.ScopeVar.{ScopeVar}
use Rattle.net_model.specs.Words.{Scope}
use Rattle.net_model.specs.Topologies.{is_named, variable_named}
use Rattle.net_model.specs.Problems.{has_other_domain}

first_domain : (v : Variable) (vars : Scope) (name : List ℕ) (values : List (List ℕ)) → bytes_eq v.name name ≡ true → has_other_domain (v ∷ vars) name values ≡ not (are_same values v.values)
first_domain v vars name values same =
    ap (λ b. (b || is_named vars name) && not (are_same values (if b then v else variable_named vars name).values)) same

-- the variable at a place has this name
pub domain_at : (s : List ScopeVar) (i : ℕ) (var : ScopeVar) (name : List ℕ) (values : List (List ℕ)) → i < length s → var ≡ get_or s i var → bytes_eq var.name.items name ≡ true → has_other_domain (variables_of (drop i s)) name values ≡ not (are_same values var.domain)
domain_at s i var name values within is same =
    ap (λ vars. has_other_domain (variables_of vars) name values) (drop_more s i var within ∙ ap (λ v. v ∷ drop (i + 1) s) (sym is))
    ∙ first_domain (record { name = var.name.items; values = var.domain }) (variables_of (drop (i + 1) s)) name values same
