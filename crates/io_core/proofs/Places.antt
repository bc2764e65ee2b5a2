use Rattle.std.proofs.Common.{◌≡◌, ℕ, suc, ◌+◌, ◌≤◌, ◌<◌, List, [], ◌∷◌, length, get_or, map, cond, eqb, ltb, Bool, true, false, not, Option, Some, None, unwrap_or, String, Vec, Contains, string_bytes, refl, sym, ap, ◌∙◌, arith}
use Rattle.std.specs.Ordering.{nat_cmp}
use Rattle.std.specs.Cmp.Lexicographic.{slice_cmp}
use Rattle.std.specs.Str.{bytes_eq}
use Rattle.std.specs.List.{position_or_len}
use Rattle.std.specs.FinMap.{get-from_entries}
use Rattle.std.specs.FinMap.Entries.{find}
use Rattle.std.specs.declared.alloc.Global.{Global}
use Rattle.std.proofs.Math.Numerals.{one-add}
use Rattle.std.proofs.lemmas.Bool.{eqb-true}
use Rattle.std.proofs.lemmas.Bool.Decides.{nat_tests}
use Rattle.std.proofs.lemmas.Cmp.{nat_list_cmp_total}
use Rattle.std.proofs.lemmas.List.{length-map, get_or-map, get_or_past}
use Rattle.std.proofs.lemmas.List.Sums.{prefix_len-le-length}
use Rattle.std.proofs.lemmas.Map.Text.{is_eq-slice_cmp}
use Rattle.io_core.specs.Files.{bytes_under}
use Rattle.io_core.specs.Memory.{files_of, named_files, place_of}

-- the first that passes among values that are made from others stands where the first whose value passes stands
pub position_of_map : {X Y : Type 0} (f : X → Y) (p : Y → Bool) (xs : List X) → position_or_len p (map f xs) ≡ position_or_len (λ x. p (f x)) xs
position_of_map f p [] = refl
position_of_map f p (x ∷ xs) = ap (λ n. cond (not (p (f x))) (1 + n) 0) (position_of_map f p xs)

-- a place below the end, or the end where a search found none
pub place_or_end : (k n : ℕ) → k ≤ n → unwrap_or (cond (ltb k n) (Some k) None) n ≡ k
place_or_end k n within = grind (arith, nat_tests)

-- what a search among the entries found is the place of the name
pub place_from_search : (entries : List (String Global × Vec ℕ Global)) (name : List ℕ) (found : Option ℕ) → found ≡ cond (ltb (position_or_len (λ f. bytes_eq name (string_bytes f.0)) entries) (length entries)) (Some (position_or_len (λ f. bytes_eq name (string_bytes f.0)) entries)) None → unwrap_or found (length entries) ≡ place_of (named_files entries) name
place_from_search entries name found is =
    ap (λ o. unwrap_or o (length entries)) is
    ∙ place_or_end (position_or_len (λ f. bytes_eq name (string_bytes f.0)) entries) (length entries) (prefix_len-le-length _ entries)
    ∙ sym (position_of_map (λ f. (string_bytes f.0, f.1.items)) (λ f. bytes_eq name f.0) entries)

-- the first entry of a name stands at its place
pub found_at_place : (files : List (List ℕ × List ℕ)) (name : List ℕ) → unwrap_or (find (slice_cmp nat_cmp) name files) [] ≡ (get_or files (place_of files name) ([], [])).1
found_at_place [] name = refl
found_at_place (file ∷ files) name =
    rw (is_eq-slice_cmp, one-add (place_of files name))
    (elim (bytes_eq name file.0) as (λ b. unwrap_or (cond b (Some file.1) (find (slice_cmp nat_cmp) name files)) [] ≡ (get_or (file ∷ files) (cond (not b) (suc (place_of files name)) 0) ([], [])).1) [ true ↦ refl | false ↦ found_at_place files name ])

-- the bytes that are held under a name stand at its place
pub held_at_place : (files : List (List ℕ × List ℕ)) (name : List ℕ) → bytes_under (files_of files) name ≡ (get_or files (place_of files name) ([], [])).1
held_at_place files name =
    ap (λ found. unwrap_or found []) (get-from_entries nat_list_cmp_total files name) ∙ found_at_place files name

-- a list of entries names as many files
pub length_named : (entries : List (String Global × Vec ℕ Global)) → length (named_files entries) ≡ length entries
length_named entries = length-map entries _

-- a name whose place is the end is held with no bytes
pub nothing_at_end : (entries : List (String Global × Vec ℕ Global)) (name : List ℕ) (place : ℕ) → place ≡ place_of (named_files entries) name → length entries ≤ place → bytes_under (files_of (named_files entries)) name ≡ []
nothing_at_end entries name place here past =
    held_at_place (named_files entries) name
    ∙ ap (λ (file : List ℕ × List ℕ). file.1) (get_or_past (named_files entries) (place_of (named_files entries) name) ([], []) (omega (arith, here, length_named entries)))

-- the entry at the place of a name has the bytes that are held under it
pub bytes_at_place : (entries : List (String Global × Vec ℕ Global)) (name : List ℕ) (place : ℕ) (other : String Global × Vec ℕ Global) → place ≡ place_of (named_files entries) name → place < length entries → bytes_under (files_of (named_files entries)) name ≡ (get_or entries place other).1.items
bytes_at_place entries name place other here within =
    held_at_place (named_files entries) name
    ∙ ap (λ k. (get_or (named_files entries) k ([], [])).1) (sym here)
    ∙ ap (λ (file : List ℕ × List ℕ). file.1) (get_or-map (λ f. (string_bytes f.0, f.1.items)) entries place other ([], []) within)

-- a number that equals what stands at some place is in the list
pub contained : (xs : List ℕ) (x : ℕ) → ((k : ℕ) × (k < length xs) × ((other : ℕ) → eqb (get_or xs k other) x ≡ true)) → Contains xs x
contained xs x h = (h.0, h.1, eqb-true (get_or xs h.0 x) x (h.2 x))
