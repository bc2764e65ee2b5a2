-- Latches and their spots, one by one.
use Rattle.std.proofs.Common.{◌≡◌, ◌∙◌, ◌+◌, ◌<◌, ℕ, zero, suc, Bool, List, [], ◌∷◌, ◌++◌, length, map, take, get_or, refl, sym, ap, arith, subst}
use Rattle.std.specs.Prelude.{All}
use Rattle.std.proofs.lemmas.List.{get_or-map, get_or_default, length-map, append_assoc}
use Rattle.std.proofs.Math.ListN.{get_or-map as get_or-mapped}
use Rattle.node_table.specs.Table.{Bits, Table}
use Rattle.mv_encoding.specs.Layouts.{Layout}
use Rattle.mv_encoding.specs.Spots.{spot_at}
use Rattle.net_model.specs.Nets.{Latch, latch_of}
use Rattle.net_model.specs.declared.net.Latch as declared
use Rattle.net_relation.specs.Relations.{has_value_of, latch_value, latch_values, present_values, CanAgree}
use Rattle.net_relation.proofs.Spelled.{nowhere}

next-latch : (signals : List Layout) (latches : List Latch) (present next : List Layout) (k : ℕ) (d : Latch) → k < length latches → length present ≡ length latches → length next ≡ length latches
    → latch_values signals (take (suc k) latches) (take (suc k) present) (take (suc k) next) ≡ latch_values signals (take k latches) (take k present) (take k next) ++ latch_value signals (get_or latches k d) (get_or present k nowhere) (get_or next k nowhere) ∷ []
next-latch signals [] present next k d within same also = absurd (omega (arith, within))
next-latch signals (l ∷ latches) [] next k d within same also = absurd (omega (arith, same))
next-latch signals (l ∷ latches) (p ∷ present) [] k d within same also = absurd (omega (arith, also))
next-latch signals (l ∷ latches) (p ∷ present) (n ∷ next) zero d within same also = refl
next-latch signals (l ∷ latches) (p ∷ present) (n ∷ next) (suc k) d within same also =
    ap (λ ms. latch_value signals l p n ∷ ms) (next-latch signals latches present next k d (omega (arith, within)) (omega (arith, same)) (omega (arith, also)))

next-present : (signals : List Layout) (latches : List Latch) (present : List Layout) (k : ℕ) (d : Latch) → k < length latches → length present ≡ length latches
    → present_values signals (take (suc k) latches) (take (suc k) present) ≡ present_values signals (take k latches) (take k present) ++ has_value_of signals (get_or present k nowhere) (get_or latches k d).output ∷ []
next-present signals [] present k d within same = absurd (omega (arith, within))
next-present signals (l ∷ latches) [] k d within same = absurd (omega (arith, same))
next-present signals (l ∷ latches) (p ∷ present) zero d within same = refl
next-present signals (l ∷ latches) (p ∷ present) (suc k) d within same =
    ap (λ ms. has_value_of signals p l.output ∷ ms) (next-present signals latches present k d (omega (arith, within)) (omega (arith, same)))

-- the read of a list at any default
pub read-at : {X : Type 0} (xs : List X) (k : ℕ) (x d : X) → k < length xs → x ≡ get_or xs k x → get_or xs k d ≡ x
read-at xs k x d within is = get_or_default xs k d x within ∙ sym is

-- the read of a mapped list
pub mapped-at : {X Y : Type 0} (f : X → Y) (xs : List X) (k : ℕ) (x : X) (d : Y) → k < length xs → x ≡ get_or xs k x → get_or (map f xs) k d ≡ f x
mapped-at f xs k x d within is = get_or-map f xs k x d within ∙ ap f (sym is)

pub one-latch : (signals : List Layout) (latches : List Latch) (present next : List Layout) (k : ℕ) (l : Latch) (p n : Layout) (before : List (Bits → Bool))
    → k < length latches → length present ≡ length latches → length next ≡ length latches → get_or latches k l ≡ l → get_or present k nowhere ≡ p → get_or next k nowhere ≡ n
    → (before ++ latch_values signals (take k latches) (take k present) (take k next)) ++ latch_value signals l p n ∷ []
    ≡ before ++ latch_values signals (take (k + 1) latches) (take (k + 1) present) (take (k + 1) next)
one-latch signals latches present next k l p n before within same also is p-is n-is =
    let here = next-latch signals latches present next k l within same also in
    let value : latch_values signals (take k latches) (take k present) (take k next) ++ latch_value signals (get_or latches k l) (get_or present k nowhere) (get_or next k nowhere) ∷ [] ≡ latch_values signals (take k latches) (take k present) (take k next) ++ latch_value signals l p n ∷ []
    = λ i. latch_values signals (take k latches) (take k present) (take k next) ++ latch_value signals (is i) (p-is i) (n-is i) ∷ [] in
    let more : k + 1 ≡ suc k = omega arith in
    append_assoc before (latch_values signals (take k latches) (take k present) (take k next)) (latch_value signals l p n ∷ [])
    ∙ ap (λ ms. before ++ ms) (sym value ∙ sym here)
    ∙ ap (λ j. before ++ latch_values signals (take j latches) (take j present) (take j next)) (sym more)

pub one-present : (signals : List Layout) (latches : List Latch) (present : List Layout) (k : ℕ) (l : Latch) (p : Layout) (before : List (Bits → Bool))
    → k < length latches → length present ≡ length latches → get_or latches k l ≡ l → get_or present k nowhere ≡ p
    → (before ++ present_values signals (take k latches) (take k present)) ++ has_value_of signals p l.output ∷ []
    ≡ before ++ present_values signals (take (k + 1) latches) (take (k + 1) present)
one-present signals latches present k l p before within same is p-is =
    let here = next-present signals latches present k l within same in
    let value : present_values signals (take k latches) (take k present) ++ has_value_of signals (get_or present k nowhere) (get_or latches k l).output ∷ [] ≡ present_values signals (take k latches) (take k present) ++ has_value_of signals p l.output ∷ []
    = λ i. present_values signals (take k latches) (take k present) ++ has_value_of signals (p-is i) (is i).output ∷ [] in
    let more : k + 1 ≡ suc k = omega arith in
    append_assoc before (present_values signals (take k latches) (take k present)) (has_value_of signals p l.output ∷ [])
    ∙ ap (λ ms. before ++ ms) (sym value ∙ sym here)
    ∙ ap (λ j. before ++ present_values signals (take j latches) (take j present)) (sym more)

-- spots that can agree can still, where the levels stay
pub agree-kept : (s t : Table) (a b : Layout) → t.levels ≡ s.levels → CanAgree s a b → CanAgree t a b
agree-kept s t a b same agree = record {
  a_spot = agree.a_spot;
  b_spot = agree.b_spot;
  bits = agree.bits;
  a_laid = λ k within. omega (arith, agree.a_laid k within, same);
  b_laid = λ k within. omega (arith, agree.b_laid k within, same);
}

-- what holds of each latch holds of the one that the code reads
pub all-at : (P : Latch → Type 0) (ls : List declared.Latch) → All P (map latch_of ls) → (k : ℕ) (d : declared.Latch) → k < length ls → P (latch_of (get_or ls k d))
all-at P ls all k d within =
    let long = length-map ls latch_of in
    subst P (get_or-mapped latch_of ls k d) (all k (latch_of d) (omega (arith, within, long)))

-- the spots of the latch that the code reads can agree
pub agree-at : (s t : Table) (signals spots : List Layout) (ls : List declared.Latch) (signal : Latch → ℕ)
    → ((k : ℕ) (d : Latch) → k < length (map latch_of ls) → CanAgree s (spot_at spots k) (spot_at signals (signal (get_or (map latch_of ls) k d))))
    → length spots ≡ length (map latch_of ls) → t.levels ≡ s.levels → (k : ℕ) (d : declared.Latch) (spot : Layout) → k < length ls → spot ≡ get_or spots k spot
    → CanAgree t spot (spot_at signals (signal (latch_of (get_or ls k d))))
agree-at s t signals spots ls signal agree same levels k d spot within is =
    let long = length-map ls latch_of in
    let P : Latch → Type 0 = λ l. CanAgree s (spot_at spots k) (spot_at signals (signal l)) in
    let Q : Layout → Type 0 = λ p. CanAgree s p (spot_at signals (signal (latch_of (get_or ls k d)))) in
    agree-kept s t spot (spot_at signals (signal (latch_of (get_or ls k d)))) levels
    (subst Q (read-at spots k spot nowhere (omega (arith, within, long, same)) is) (subst P (get_or-mapped latch_of ls k d) (agree k (latch_of d) (omega (arith, within, long)))))

-- how the latch that the code reads stands among all
pub latch-read : (ls : List declared.Latch) (k : ℕ) (d : declared.Latch) (e : Latch) → k < length ls → get_or (map latch_of ls) k e ≡ latch_of (get_or ls k d)
latch-read ls k d e within = get_or-map latch_of ls k d e within
