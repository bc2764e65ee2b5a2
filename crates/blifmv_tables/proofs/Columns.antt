-- Lists of signals by their numbers.
use Rattle.std.proofs.Common.{◌≡◌, ◌<◌, ◌+◌, ◌++◌, ℕ, Bool, not, cond, List, [], ◌∷◌, length, get_or, take, map, slice_get, position, Option, Some, None, Bor, zero, suc, refl, sym, ◌∙◌, ap, arith}
use Rattle.std.specs.Prelude.{nat_lt, nat_eq, slice_index}
use Rattle.std.specs.List.{position_or_len}
use Rattle.std.proofs.lemmas.List.{length-map, map-append, take_more}
use Rattle.name_table.specs.declared.names.VarId.{VarId}
use Rattle.net_model.specs.Words.{Scope}
use Rattle.net_model.specs.Forms.{Name}
use Rattle.net_model.specs.Spellings.{column_of}
use Rattle.net_model.specs.NetTexts.{place_in, places_in}
use Rattle.blifmv_lines.specs.Said.{texts}

module _ {K X : Type 0} where
  place_or_len_of_map : (ks : List K) (f : K → X) (p : X → Bool) → position_or_len (λ k. p (f k)) ks ≡ position_or_len p (map f ks)
  place_or_len_of_map [] f p = refl
  place_or_len_of_map (k ∷ ks) f p = ap (λ n. cond (not (p (f k))) (1 + n) 0) (place_or_len_of_map ks f p)

  pub position_of_map : (ks : List K) (f : K → X) (p : X → Bool) → position (λ k. p (f k)) ks ≡ position p (map f ks)
  position_of_map ks f p =
      let place = place_or_len_of_map ks f p in
      let len = sym (length-map ks f) in
      λ j. cond (nat_lt (place j) (len j)) (Some (place j)) None

pub places_more : (vars : Scope) (words : List (Bor (List ℕ))) (i : ℕ) (d : Bor (List ℕ)) → i < length words → places_in vars (texts (take (i + 1) words)) ≡ places_in vars (texts (take i words)) ++ place_in vars (get_or words i d).now ∷ []
places_more vars words i d within =
    ap (λ ws. places_in vars (texts ws)) (take_more words i d within)
    ∙ (ap (places_in vars) (map-append (λ w. w.now) (take i words) (get_or words i d ∷ []))
    ∙ map-append (place_in vars) (texts (take i words)) ((get_or words i d).now ∷ []))

-- the signal at a place
pub signal_at : (ins : List VarId) (k : ℕ) (d : VarId) → k < length ins → slice_index (map (λ v. v.0) ins) k ≡ (get_or ins k d).0
signal_at [] k d h = absurd (omega arith)
signal_at (v ∷ ins) zero d h = refl
signal_at (v ∷ ins) (suc k) d h = signal_at ins k d (omega arith)

-- the column that a named signal is
pub found_column : (ins : List VarId) (signal : ℕ) (found named : Option ℕ) → Some signal ≡ named → found ≡ position (λ column. nat_eq signal column.0) ins → found ≡ column_of (map (λ v. v.0) ins) named
found_column ins signal found named is at = at ∙ (position_of_map ins (λ v. v.0) (nat_eq signal) ∙ ap (column_of (map (λ v. v.0) ins)) is)

-- one name more of a list
pub place_more : (vars : Scope) (names : List Name) (k : ℕ) (name : Name) → Some name ≡ slice_get names k → places_in vars (take (k + 1) names) ≡ places_in vars (take k names) ++ place_in vars name ∷ []
place_more vars [] k name h = cc
place_more vars (n ∷ names) zero name h = let is : name ≡ n = cc in ap (λ m. place_in vars m ∷ []) (sym is)
place_more vars (n ∷ names) (suc k) name h = let next : suc k + 1 ≡ suc (k + 1) = omega arith in rw next (ap (λ places. place_in vars n ∷ places) (place_more vars names k name h))
