-- Numbers that stand in a list.
use Rattle.std.proofs.Common.{◌≡◌, ◌<◌, ◌∙◌, ℕ, true, nat_eq, List, [], ◌∷◌, map, length, get_or, refl, sym, ap, subst, arith}
use Rattle.std.proofs.lemmas.List.{length-map, get_or-map}
use Rattle.std.specs.Prelude.{All}
use Rattle.std.specs.List.{list_any, AllByRecursion}
use Rattle.std.proofs.lemmas.Bool.{eqb-true}
use Rattle.std.proofs.lemmas.List.Folds.{Any-from_list_any}

-- what holds of all holds of one that is among them
pub holds-among : (P : ℕ → Type 0) (numbers : List ℕ) → All P numbers → (n : ℕ) → list_any (nat_eq n) numbers ≡ true → P n
holds-among P numbers all n there =
    let any = Any-from_list_any (nat_eq n) numbers there in
    let is : n ≡ any.1 = eqb-true n any.1 any.4 in
    subst P (sym is) (subst P any.3 (all any.0 any.1 any.2))

pub map-map : {X Y Z : Type 0} (g : Y → Z) (f : X → Y) (xs : List X) → map g (map f xs) ≡ map (λ x. g (f x)) xs
map-map g f [] = refl
map-map g f (x ∷ xs) = ap (λ zs. g (f x) ∷ zs) (map-map g f xs)

-- what holds of a list's images, at a place of the list
pub mapped-holds : {X Y : Type 0} (P : Y → Type 0) (f : X → Y) (xs : List X) (ys : List Y) → map f xs ≡ ys → All P ys → (i : ℕ) (d : X) → i < length xs → P (f (get_or xs i d))
mapped-holds P f xs ys are all i d within =
    let inside : i < length ys = let size = sym (length-map xs f) ∙ ap length are in omega (arith, within, size) in
    let at = get_or-map f xs i d (f d) within in
    let same = ap (λ zs. get_or zs i (f d)) are in
    subst P (sym same ∙ at) (all i (f d) inside)

pub each-weaker : {X : Type 0} (P Q : X → Type 0) → ((x : X) → P x → Q x) → (xs : List X) → AllByRecursion P xs → AllByRecursion Q xs
each-weaker P Q each [] all = tt
each-weaker P Q each (x ∷ xs) all = (each x all.0, each-weaker P Q each xs all.1)
