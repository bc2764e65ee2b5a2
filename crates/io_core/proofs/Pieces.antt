use Rattle.std.proofs.Common.{◌≡◌, ℕ, zero, suc, ◌<◌, List, [], ◌∷◌, ◌++◌, length, take, drop, get_or, Option, refl, ap, ◌∙◌, subst, append_assoc, arith}
use Rattle.std.specs.Prelude.{Result, Ok, Err, OnErr}
use Rattle.std.specs.Borrow.{Bor}
use Rattle.io_core.specs.Gained.{gained, joined, GainsFrontOf}
use Rattle.io_core.proofs.Gained.{front_first, front_second}

-- A text that is at hand in pieces.

-- what stands before a piece, the piece, and what stands behind it
joined_around : (pieces : List (Bor (List ℕ))) (i : ℕ) (d : Bor (List ℕ)) → i < length pieces → (joined (take i pieces) ++ (get_or pieces i d).now) ++ joined (drop (suc i) pieces) ≡ joined pieces
joined_around [] i d within = absurd (omega arith)
joined_around (piece ∷ pieces) zero d within = refl
joined_around (piece ∷ pieces) (suc i) d within =
    let front = joined (take i pieces) in
    let here = (get_or pieces i d).now in
    ap (λ t. t ++ joined (drop (suc i) pieces)) (append_assoc piece.now front here)
    ∙ (append_assoc piece.now (front ++ here) (joined (drop (suc i) pieces)) ∙ ap (λ t. piece.now ++ t) (joined_around pieces i d (omega arith)))

-- a front of a piece, behind all pieces before it, is a front of the text
pub front_of_pieces : (old between new : Option (List ℕ)) (pieces : List (Bor (List ℕ))) (i : ℕ) (d : Bor (List ℕ)) → i < length pieces → between ≡ gained old (joined (take i pieces)) → GainsFrontOf between new (get_or pieces i d).now → GainsFrontOf old new (joined pieces)
front_of_pieces old between new pieces i d within so_far front =
    subst (GainsFrontOf old new) (joined_around pieces i d within)
    (front_first old new (joined (take i pieces) ++ (get_or pieces i d).now) (joined (drop (suc i) pieces)) (front_second old between new (joined (take i pieces)) (get_or pieces i d).now so_far front))

-- what holds holds on a refusal
pub on_any_err : {T E P : Type 0} (result : Result T E) → P → OnErr result P
on_any_err (Ok x) h = tt
on_any_err (Err e) h = h
