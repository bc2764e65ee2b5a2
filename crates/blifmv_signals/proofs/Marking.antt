-- Marks of the signals of names.
use Rattle.std.proofs.Common.{◌≡◌, ◌≤◌, ◌+◌, ℕ, Bool, true, false, ◌||◌, List, [], ◌∷◌, ◌++◌, length, replicate, slice_set, Option, Some, None, refl, sym, ◌∙◌, subst, append_assoc, arith}
use Rattle.std.specs.Str.{bytes_eq}
use Rattle.std.specs.Prelude.{unwrap_or}
use Rattle.std.proofs.lemmas.List.{append-nil, length-map, length-set, length-replicate}
use Rattle.std.proofs.lemmas.List.Quantifiers.{position-Some}
use Rattle.name_table.specs.Variables.{names_of, place_of}
use Rattle.net_model.specs.Words.{Scope}
use Rattle.net_model.specs.Forms.{Name, Form}
use Rattle.net_model.specs.NetTexts.{place_in, places_in}
use Rattle.net_conditions.specs.Marks.{Adds}
use Rattle.net_conditions.proofs.Marking.{Adds-more, marks_alone}
use Rattle.blifmv_signals.specs.declared.above.Above.{Above}
use Rattle.blifmv_signals.specs.SignalFaults.{drives_on, sets_on, some_twice}
use Rattle.blifmv_signals.specs.Marked.{all_marked, marks_twice, HasMarks, above_by}

length_marked : (set : List Bool) (signals : List ℕ) → length (all_marked set signals) ≡ length set
length_marked set [] = refl
length_marked set (signal ∷ signals) = length_marked (slice_set set signal true) signals ∙ length-set set signal true

-- a line more leaves as many marks
pub marks_by : (vars : Scope) (above : Above) (said : Option Form) → HasMarks vars above → HasMarks vars (above_by vars above said)
marks_by vars above None marks = marks
marks_by vars above (Some form) marks =
    let driven = length_marked above.driven (drives_on vars form) in
    let reset = length_marked above.reset (sets_on vars form) in record {
      driven = omega (arith, marks.driven, driven);
      reset = omega (arith, marks.reset, reset);
    }

-- the place of a name is that of a variable, or the first
place_by : (vars : Scope) (name : Name) (found : Option ℕ) → place_of (names_of vars) name ≡ found → unwrap_or found 0 ≤ length vars
place_by vars name None is = omega arith
place_by vars name (Some place) is =
    let within = (position-Some (bytes_eq name) (names_of vars) place [] is).0 in
    let long = length-map vars (λ v. v.name) in
    omega (arith, within, long)

place_within : (vars : Scope) (name : Name) → place_in vars name ≤ length vars
place_within vars name = place_by vars name (place_of (names_of vars) name) refl

-- a set of these signals alone, of so many as there are names, and one more
abbrev pub IsOf : Scope → List ℕ → List Bool → Type 0
IsOf vars signals set = Adds (replicate (length vars + 1) false) signals set

-- one name more
marked_one : (vars : Scope) (had : List ℕ) (set : List Bool) (name : Name) → IsOf vars had set → IsOf vars (had ++ place_in vars name ∷ []) (slice_set set (place_in vars name) true)
marked_one vars had set name of =
    let long = length-replicate (length vars + 1) false in
    let within = place_within vars name in
    Adds-more (replicate (length vars + 1) false) set (slice_set set (place_in vars name) true) had (place_in vars name) of (omega (arith, long, within)) refl

pub twice_named : (vars : Scope) (had : List ℕ) (set : List Bool) (names : List Name) → IsOf vars had set → some_twice had (places_in vars names) ≡ marks_twice set (places_in vars names)
twice_named vars had set [] of = refl
twice_named vars had set (name ∷ names) of =
    let k = place_in vars name in
    let here = sym (marks_alone (length vars + 1) had set of k) in
    let rest = twice_named vars (had ++ k ∷ []) (slice_set set k true) names (marked_one vars had set name of) in
    λ i. (here i) || (rest i)

pub marked_named : (vars : Scope) (had : List ℕ) (set : List Bool) (names : List Name) → IsOf vars had set → IsOf vars (had ++ places_in vars names) (all_marked set (places_in vars names))
marked_named vars had set [] of = subst (λ signals. IsOf vars signals set) (sym (append-nil had)) of
marked_named vars had set (name ∷ names) of =
    let k = place_in vars name in
    let rest = marked_named vars (had ++ k ∷ []) (slice_set set k true) names (marked_one vars had set name of) in
    let P : List ℕ → Type 0 = λ signals. IsOf vars signals (all_marked (slice_set set k true) (places_in vars names)) in
    subst P (append_assoc had (k ∷ []) (places_in vars names)) rest
