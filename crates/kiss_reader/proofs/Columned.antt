-- The columns of a machine.
use Rattle.std.proofs.Common.{◌≡◌, ◌≤◌, ◌+◌, ◌++◌, ◌||◌, ◌&&◌, ℕ, Bool, true, false, not, List, [], ◌∷◌, length, get_or, drop, decimal, if◌then◌else◌, refl, sym, ◌∙◌, ap, subst, zero-add, append_assoc, arith}
use Rattle.std.specs.List.{list_any}
use Rattle.std.specs.Str.{bytes_eq}
use Rattle.std.proofs.lemmas.Bool.{false≢true, and_parts}
use Rattle.std.proofs.lemmas.List.{map-append}
use Rattle.std.proofs.lemmas.List.FromFn.{map-range_with_len_more}
use Rattle.name_table.specs.ScopeVars.{variable_of, variables_of}
use Rattle.name_table.specs.Variables.{Variable, names_of, is_in, with_name, are_different, numbers}
use Rattle.name_table.proofs.Apart.{different_push, not_different}
use Rattle.name_table.specs.declared.scope_var.ScopeVar.{ScopeVar}
use Rattle.net_model.specs.Forms.{Name}
use Rattle.net_model.specs.KissTexts.{numbered_names, columns_named}
use Rattle.kiss_reader.specs.Columns.{IsJoined}

abbrev pub column_named : Name → Variable
column_named name = record { name = name; values = numbers 2 }

pub next_numbered : (front : List ℕ) (k : ℕ) → columns_named (numbered_names front (k + 1)) ≡ columns_named (numbered_names front k) ++ column_named (front ++ decimal k) ∷ []
next_numbered front k =
    ap columns_named (map-range_with_len_more (λ n. front ++ decimal n) 0 k k (zero-add k))
    ∙ map-append column_named (numbered_names front k) ((front ++ decimal k) ∷ [])

-- one more column
pub with_column : (items items' : List ScopeVar) (v : ScopeVar) (text : Name) (front k : ℕ) → items' ≡ items ++ v ∷ [] → variables_of items ≡ columns_named (numbered_names (front ∷ []) k) → text ≡ front ∷ decimal k → variable_of v ≡ column_named text → variables_of items' ≡ columns_named (numbered_names (front ∷ []) (k + 1))
with_column items items' v text front k pushed had named is =
    ap variables_of pushed
    ∙ (map-append variable_of items (v ∷ [])
    ∙ ((λ i. had i ++ (is ∙ ap column_named named) i ∷ []) ∙ sym (next_numbered (front ∷ []) k)))

any_more : (p : Name → Bool) (names more : List Name) → list_any p names ≡ true → list_any p (names ++ more) ≡ true
any_more p [] more h = cc
any_more p (name ∷ names) more h =
    let rest = any_more p names more in
    elim (p name) as (λ b. (b || list_any p names) ≡ true → (b || list_any p (names ++ more)) ≡ true) [
      | true ↦ λ e. refl
      | false ↦ λ e. rest e
    ] h

and_false : (b : Bool) → (b && false) ≡ false
and_false true = refl
and_false false = refl

-- two lists of which the first has a name twice
pub not_different_front : (names more : List Name) → are_different names ≡ false → are_different (names ++ more) ≡ false
not_different_front [] more h = cc
not_different_front (name ∷ names) more h =
    let rest = not_different_front names more in
    elim (list_any (bytes_eq name) names) as (λ b. list_any (bytes_eq name) names ≡ b → (not b && are_different names) ≡ false → (not (list_any (bytes_eq name) (names ++ more)) && are_different (names ++ more)) ≡ false) [
      | true ↦ λ is e. ap (λ b. not b && are_different (names ++ more)) (any_more (bytes_eq name) names more is)
      | false ↦ λ is e. ap (λ b. not (list_any (bytes_eq name) (names ++ more)) && b) (rest e) ∙ and_false _
    ] refl h

pub added_joined : (old new : List Name) (name item : Name) (is_new : Bool) → are_different old ≡ true → item ≡ name → is_new ≡ not (is_in old item) → new ≡ with_name old item → IsJoined old (name ∷ []) new is_new
added_joined old new name item is_new different same is added =
    subst (IsJoined old (name ∷ []) new) (sym (is ∙ ap (λ n. not (is_in old n)) same))
    (elim (is_in old name) as (λ b. is_in old name ≡ b → new ≡ (if b then old else old ++ name ∷ []) → IsJoined old (name ∷ []) new (not b)) [
      | true ↦ λ e h. not_different old name [] e
      | false ↦ λ e h. (h, different_push old name different e)
    ] refl (added ∙ ap (with_name old) same))

pub joined_more : (names names' whole : List Name) (left more : List ScopeVar) (name : Name) (v : ScopeVar) (new : Bool) → new ≡ true → IsJoined names (name ∷ []) names' new → 1 ≤ length left → v ≡ get_or left 0 v → name ≡ v.name.items → more ≡ drop 1 left → names ++ names_of (variables_of left) ≡ whole → (names' ++ names_of (variables_of more) ≡ whole) × (are_different names' ≡ true)
joined_more names names' whole [] more name v new is_new joined some is named rest h = absurd (omega arith)
joined_more names names' whole (w ∷ left) more name v new is_new joined some is named rest h =
    let both : (names' ≡ names ++ name ∷ []) × (are_different (names ++ name ∷ []) ≡ true) = subst (IsJoined names (name ∷ []) names') is_new joined in
    let same : name ≡ w.name.items = named ∙ ap (λ (x : ScopeVar). x.name.items) is in (
      (λ i. both.0 i ++ names_of (variables_of (rest i)))
          ∙ (append_assoc names (name ∷ []) (names_of (variables_of left))
          ∙ (ap (λ n. names ++ n ∷ names_of (variables_of left)) same ∙ h)),
      ap are_different both.0 ∙ both.1,
    )

pub joined_none : (names names' whole : List Name) (left : List ScopeVar) (name : Name) (v : ScopeVar) (new : Bool) → new ≡ false → IsJoined names (name ∷ []) names' new → 1 ≤ length left → v ≡ get_or left 0 v → name ≡ v.name.items → names ++ names_of (variables_of left) ≡ whole → are_different whole ≡ false
joined_none names names' whole [] name v new no_new joined some is named h = absurd (omega arith)
joined_none names names' whole (w ∷ left) name v new no_new joined some is named h =
    let twice : are_different (names ++ name ∷ []) ≡ false = subst (IsJoined names (name ∷ []) names') no_new joined in
    let same : name ≡ w.name.items = named ∙ ap (λ (x : ScopeVar). x.name.items) is in
    ap are_different (sym h ∙ (ap (λ n. names ++ n ∷ names_of (variables_of left)) (sym same) ∙ sym (append_assoc names (name ∷ []) (names_of (variables_of left)))))
    ∙ not_different_front (names ++ name ∷ []) (names_of (variables_of left)) twice

pub front_twice : (old inputs outputs new : List Name) (joined : Bool) → joined ≡ false → old ≡ [] → IsJoined old inputs new joined → false ≡ are_different (inputs ++ outputs)
front_twice old inputs outputs new joined no_join empty h =
    let twice : are_different (old ++ inputs) ≡ false = subst (IsJoined old inputs new) no_join h in
    sym (not_different_front inputs outputs (ap (λ o. are_different (o ++ inputs)) (sym empty) ∙ twice))

-- of two lists together each has different names

pub different_front : (names more : List Name) → are_different (names ++ more) ≡ true → are_different names ≡ true
different_front names more h =
    elim (are_different names) as (λ b. are_different names ≡ b → b ≡ true) [
      | true ↦ λ is. refl
      | false ↦ λ is. absurd (false≢true (sym (not_different_front names more is) ∙ h))
    ] refl

pub different_back : (names more : List Name) → are_different (names ++ more) ≡ true → are_different more ≡ true
different_back [] more h = h
different_back (name ∷ names) more h = different_back names more (and_parts _ _ h).1

-- the names of columns
pub names_back : (names : List Name) → names_of (columns_named names) ≡ names
names_back [] = refl
names_back (name ∷ names) = ap (λ ns. name ∷ ns) (names_back names)
