-- Lists that are gathered one element after another.
use Rattle.std.proofs.Common.{◌≡◌, ◌+◌, ◌<◌, ◌∙◌, ℕ, List, [], ◌∷◌, ◌++◌, map, length, get_or, take, sym, ap, arith, add-one}
use Rattle.std.specs.List.{flat_map, range_with_len}
use Rattle.std.proofs.lemmas.List.{append-nil, map_more, take_more}
use Rattle.std.proofs.lemmas.List.Concat.{flat_map-append}
use Rattle.std.proofs.lemmas.List.FromFn.{map-range_with_len_more}
use Rattle.net_model.proofs.Counting.{range-suc}

module _ {X : Type 0} where
  pub mapped-more : (f : ℕ → X) (had now : List X) (x : X) (n : ℕ) → had ≡ map f (range_with_len 0 n) → x ≡ f n → now ≡ had ++ x ∷ [] → now ≡ map f (range_with_len 0 (n + 1))
  mapped-more f had now x n so_far is more =
      more ∙ (λ i. so_far i ++ is i ∷ []) ∙ sym (map-range_with_len_more f 0 n n (omega arith))

  pub joined-more : (f : ℕ → List X) (had now xs : List X) (n : ℕ) → had ≡ flat_map f (range_with_len 0 n) → xs ≡ f n → now ≡ had ++ xs → now ≡ flat_map f (range_with_len 0 (n + 1))
  joined-more f had now xs n so_far is more =
      let first : 0 + n ≡ n = omega arith in
      let longer : range_with_len 0 (n + 1) ≡ range_with_len 0 n ++ n ∷ [] = rw add-one (range-suc n 0 ∙ ap (λ k. range_with_len 0 n ++ k ∷ []) first) in
      more ∙ (λ i. so_far i ++ is i)
      ∙ ap (λ ys. flat_map f (range_with_len 0 n) ++ ys) (sym (append-nil (f n)))
      ∙ sym (ap (flat_map f) longer ∙ flat_map-append f (range_with_len 0 n) (n ∷ []))

  pub taken-more : {Y : Type 0} (f : Y → X) (ys : List Y) (had now : List X) (x : X) (i : ℕ) (d : Y) → i < length ys → had ≡ map f (take i ys) → x ≡ f (get_or ys i d) → now ≡ had ++ x ∷ [] → now ≡ map f (take (i + 1) ys)
  taken-more f ys had now x i d within so_far is more =
      more ∙ (λ j. so_far j ++ is j ∷ []) ∙ sym (map_more f ys i d within)

  pub taken-joined : {Y : Type 0} (f : Y → List X) (ys : List Y) (had now : List X) (i : ℕ) (y : Y) → i < length ys → y ≡ get_or ys i y → had ≡ flat_map f (take i ys) → now ≡ had ++ f y → now ≡ flat_map f (take (i + 1) ys)
  taken-joined f ys had now i y within is so_far more =
      more ∙ (λ j. so_far j ++ f (is j))
      ∙ ap (λ xs. flat_map f (take i ys) ++ xs) (sym (append-nil (f (get_or ys i y))))
      ∙ sym (ap (flat_map f) (take_more ys i y within) ∙ flat_map-append f (take i ys) (get_or ys i y ∷ []))
