-- Parts that are added, each for its meaning.
use Rattle.std.proofs.Common.{◌≡◌, ◌∙◌, ◌&&◌, ◌+◌, ◌<◌, ℕ, Bool, List, [], ◌∷◌, ◌++◌, length, map, take, get_or, refl, sym, ap, arith, subst, Result, Ok, Err, IfOk, OnOk}
use Rattle.std.proofs.lemmas.List.{take_more, map-append, append_assoc}
use Rattle.std.proofs.lemmas.List.Elements.{All-cons}
use Rattle.node_table.specs.Table.{Bits, Table, IsValid, Grows}
use Rattle.node_table.specs.declared.space.MkFault.{MkFault}
use Rattle.node_table.proofs.Growth.{valid-grows}
use Rattle.bdd_ops.specs.Meaning.{StandsFor}
use Rattle.part_relation.specs.Plans.{all_hold, AreValid}
use Rattle.net_relation.specs.Relations.{AreFor, all_mean}

pub are-grow : (s t : Table) → Grows s t → (refs : List ℕ) (ms : List (Bits → Bool)) → AreFor s refs ms → AreFor t refs ms
are-grow s t grows [] [] are = tt
are-grow s t grows [] (m ∷ ms) are = are
are-grow s t grows (r ∷ refs) [] are = are
are-grow s t grows (r ∷ refs) (m ∷ ms) are =
    (record { valid = valid-grows s t grows r are.0.valid; value = λ bits. grows.value r are.0.valid.held bits ∙ are.0.value bits }, are-grow s t grows refs ms are.1)

pub are-more : (t : Table) (r : ℕ) (m : Bits → Bool) → StandsFor t r m → (refs : List ℕ) (ms : List (Bits → Bool)) → AreFor t refs ms → AreFor t (refs ++ r ∷ []) (ms ++ m ∷ [])
are-more t r m stands [] [] are = (stands, tt)
are-more t r m stands [] (n ∷ ms) are = absurd are
are-more t r m stands (s ∷ refs) [] are = absurd are
are-more t r m stands (s ∷ refs) (n ∷ ms) are = (are.0, are-more t r m stands refs ms are.1)

pub are-all : (t : Table) (refs : List ℕ) (ms : List (Bits → Bool)) → AreFor t refs ms → (bits : Bits) → all_hold t refs bits ≡ all_mean ms bits
are-all t [] [] are bits = refl
are-all t [] (m ∷ ms) are bits = absurd are
are-all t (r ∷ refs) [] are bits = absurd are
are-all t (r ∷ refs) (m ∷ ms) are bits = λ i. are.0.value bits i && are-all t refs ms are.1 bits i

pub are-valid : (t : Table) (refs : List ℕ) (ms : List (Bits → Bool)) → AreFor t refs ms → AreValid t refs
are-valid t [] [] are k d within = absurd (omega (arith, within))
are-valid t [] (m ∷ ms) are k d within = absurd are
are-valid t (r ∷ refs) [] are k d within = absurd are
are-valid t (r ∷ refs) (m ∷ ms) are k d within = All-cons (IsValid t) r refs are.0.valid (are-valid t refs ms are.1) k d within

-- one more of mapped meanings
pub mapped-more : {A X : Type 0} (f : A → Bits → Bool) (g : X → A) (xs : List X) (k : ℕ) (x : X) (before : List (Bits → Bool)) → k < length xs → get_or xs k x ≡ x
    → (before ++ map f (map g (take k xs))) ++ f (g x) ∷ [] ≡ before ++ map f (map g (take (k + 1) xs))
mapped-more f g xs k x before within is =
    let longer = take_more xs k x within ∙ ap (λ y. take k xs ++ y ∷ []) is in
    let mapped = ap (λ l. map f (map g l)) longer ∙ ap (map f) (map-append g (take k xs) (x ∷ [])) ∙ map-append f (map g (take k xs)) (g x ∷ []) in
    append_assoc before (map f (map g (take k xs))) (f (g x) ∷ []) ∙ ap (λ l. before ++ l) (sym mapped)

-- a part that was made and added is for its meaning
pub added-so : (s t : Table) (part : Result ℕ MkFault) (m : Bits → Bool) (old new : List ℕ) → Grows s t → IfOk part (λ r. StandsFor t r m)
    → (r : ℕ) × (part ≡ Ok r) × (new ≡ old ++ r ∷ []) → (before : List (Bits → Bool)) → AreFor s old before → AreFor t new (before ++ m ∷ [])
added-so s t part m old new grows stands ok before are =
    let P : Result ℕ MkFault → Type 0 = λ p. IfOk p (λ r. StandsFor t r m) in
    let Q : List ℕ → Type 0 = λ refs. AreFor t refs (before ++ m ∷ []) in
    subst Q (sym ok.2) (are-more t ok.0 m (subst P ok.1 stands) old before (are-grow s t grows old before are))

pub added : {F : Type 0} (s t : Table) (result : Result (Unit {0}) F) (part : Result ℕ MkFault) (m : Bits → Bool) (old new : List ℕ) → Grows s t → IfOk part (λ r. StandsFor t r m)
    → OnOk result ((r : ℕ) × (part ≡ Ok r) × (new ≡ old ++ r ∷ [])) → OnOk result ((before : List (Bits → Bool)) → AreFor s old before → AreFor t new (before ++ m ∷ []))
added s t (Ok u) part m old new grows stands ok = added-so s t part m old new grows stands ok
added s t (Err e) part m old new grows stands ok = tt
