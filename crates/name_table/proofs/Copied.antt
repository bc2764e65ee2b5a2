-- What the copies of some values show.
use Rattle.std.proofs.Common.{◌≡◌, List, [], ◌∷◌, map, refl}
use Rattle.std.specs.List.{AllZip}

pub copies_show : {A B : Type 0} (f : A → B) (xs ys : List A) → AllZip (λ x y. f y ≡ f x) xs ys → map f ys ≡ map f xs
copies_show f [] [] h = refl
copies_show f [] (y ∷ ys) h = absurd h
copies_show f (x ∷ xs) [] h = absurd h
copies_show f (x ∷ xs) (y ∷ ys) h =
    let more = copies_show f xs ys h.1 in
    λ j. h.0 j ∷ more j
