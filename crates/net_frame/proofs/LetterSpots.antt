-- The codes of a file's letters.
use Rattle.std.proofs.Common.{◌≡◌, ◌≤◌, ◌∙◌, ℕ, true, false, cond, nat_eq, List, [], ◌∷◌, map, length, refl, sym, ap, subst, arith}
use Rattle.std.specs.List.{list_any, AllByRecursion, IsDistinct}
use Rattle.std.proofs.lemmas.Bool.{eq-eqb, or_left, or_right}
use Rattle.name_table.specs.ScopeVars.{variable_at, chosen_of}
use Rattle.net_model.specs.Nets.{Net}
use Rattle.net_model.specs.NetLanguages.{letter_signals, letters_of}
use Rattle.net_model.specs.Outlines.{IsWired}
use Rattle.net_model.specs.declared.class.Mode.{Mode}
use Rattle.net_model.proofs.Letters.{letters_known, letters_distinct}
use Rattle.name_table.proofs.Chosen.{length_chosen, chosen_differ}
use Rattle.name_table.specs.Variables.{names_of, are_different}
use Rattle.mv_encoding.specs.Layouts.{Layout}
use Rattle.net_frame.specs.Frames.{letter_spot, signal_spot, own_spot}

-- each number of a list is among them
pub all-among : (numbers : List ℕ) → AllByRecursion (λ n. list_any (nat_eq n) numbers ≡ true) numbers
all-among [] = tt
all-among (n ∷ numbers) = (or_left (nat_eq n n) (list_any (nat_eq n) numbers) (eq-eqb n n refl), later numbers (all-among numbers))
  where
    later : (rest : List ℕ) → AllByRecursion (λ m. list_any (nat_eq m) numbers ≡ true) rest → AllByRecursion (λ m. list_any (nat_eq m) (n ∷ numbers) ≡ true) rest
    later [] all = tt
    later (m ∷ rest) all = (or_right (nat_eq m n) (list_any (nat_eq m) numbers) all.0, later rest all.1)

pub same-images : {X : Type 0} (f g : ℕ → X) (P : ℕ → Type 0) → ((n : ℕ) → P n → f n ≡ g n) → (numbers : List ℕ) → AllByRecursion P numbers → map f numbers ≡ map g numbers
same-images f g P same [] all = refl
same-images f g P same (n ∷ numbers) all =
    let here = same n all.0 in
    let rest = same-images f g P same numbers all.1 in
    λ i. here i ∷ rest i

-- the code of a signal that is a letter
pub letter-is : (mode : Mode) (joint : List Layout) (net : Net) (start signal : ℕ) → list_any (nat_eq signal) (letter_signals net) ≡ true → signal_spot mode joint net start signal ≡ letter_spot mode joint (variable_at net.names signal).name
letter-is mode joint net start signal is =
    ap (λ b. cond b (letter_spot mode joint (variable_at net.names signal).name) (own_spot net start signal)) is

pub own-is : (mode : Mode) (joint : List Layout) (net : Net) (start signal : ℕ) → list_any (nat_eq signal) (letter_signals net) ≡ false → signal_spot mode joint net start signal ≡ own_spot net start signal
own-is mode joint net start signal is =
    ap (λ b. cond b (letter_spot mode joint (variable_at net.names signal).name) (own_spot net start signal)) is

pub letters-are : (mode : Mode) (joint : List Layout) (net : Net) (start : ℕ) → map (λ signal. letter_spot mode joint (variable_at net.names signal).name) (letter_signals net) ≡ map (signal_spot mode joint net start) (letter_signals net)
letters-are mode joint net start =
    same-images (λ signal. letter_spot mode joint (variable_at net.names signal).name) (signal_spot mode joint net start) (λ n. list_any (nat_eq n) (letter_signals net) ≡ true)
    (λ signal is. sym (letter-is mode joint net start signal is)) (letter_signals net) (all-among (letter_signals net))

map-same : (xs : List ℕ) → map (λ x. x) xs ≡ xs
map-same [] = refl
map-same (x ∷ xs) = ap (λ ys. x ∷ ys) (map-same xs)

pub letters-few : (net : Net) → IsWired net → length (letter_signals net) ≤ 4096
letters-few net sound =
    let few = length_chosen net.names (letter_signals net) (λ signal. signal) (letters_known net sound) (subst (λ (ks : List ℕ). IsDistinct nat_eq ks) (sym (map-same (letter_signals net))) (letters_distinct net sound)) in
    omega (arith, few, sound.known.names.few)

pub letters-different : (net : Net) → IsWired net → are_different (names_of (letters_of net)) ≡ true
letters-different net sound =
    ap (λ signals. are_different (names_of (chosen_of net.names signals))) (sym (map-same (letter_signals net)))
    ∙ chosen_differ net.names (letter_signals net) (λ signal. signal) (letters_known net sound) (subst (λ (ks : List ℕ). IsDistinct nat_eq ks) (sym (map-same (letter_signals net))) (letters_distinct net sound)) sound.known.names.different
