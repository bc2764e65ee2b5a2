-- What the entries of the table of signals show.
use Rattle.std.proofs.Common.{◌≡◌, ◌||◌, true, false, List, [], ◌∷◌, map, Option, Some, is_some, if◌then◌else◌, refl, ◌∙◌, ap}
use Rattle.std.specs.Option.{option_flatten}
use Rattle.std.specs.List.{AllByRecursion}
use Rattle.std.specs.Map.{lookup}
use Rattle.std.specs.Str.{bytes_eq}
use Rattle.indexmap.specs.IndexMap.{insert_entry}
use Rattle.name_table.specs.Variables.{is_in, are_different}
use Rattle.name_table.proofs.Apart.{different_with}
use Rattle.net_model.specs.Forms.{Name}
use Rattle.blifmv_names.specs.Signals.{Signal, HasFewValues, AreSignals, names_of, put_in, given_in}
use Rattle.blifmv_names.proofs.Gathered.{names_put}

module _ {K : Type 0} where
  abbrev pub shown : (K → Name) → List (K × Option (List Name)) → List Signal
  shown f es = map (λ e. record { name = f e.0; given = e.1 }) es

  pub given_shown : (es : List (K × Option (List Name))) (f : K → Name) (name : Name) → option_flatten (lookup (λ k. bytes_eq name (f k)) es) ≡ given_in (shown f es) name
  given_shown [] f name = refl
  given_shown (e ∷ es) f name =
      let more = given_shown es f name in
      elim (bytes_eq name (f e.0)) as (λ b. option_flatten (if b then Some e.1 else lookup (λ k. bytes_eq name (f k)) es) ≡ (if b then e.1 else given_in (shown f es) name)) [
        | true ↦ refl
        | false ↦ more
      ]

  pub there_shown : (es : List (K × Option (List Name))) (f : K → Name) (name : Name) → is_some (lookup (λ k. bytes_eq name (f k)) es) ≡ is_in (names_of (shown f es)) name
  there_shown [] f name = refl
  there_shown (e ∷ es) f name =
      let more = there_shown es f name in
      elim (bytes_eq name (f e.0)) as (λ b. is_some (if b then Some e.1 else lookup (λ k. bytes_eq name (f k)) es) ≡ (b || is_in (names_of (shown f es)) name)) [
        | true ↦ refl
        | false ↦ more
      ]

  put_shown : (es : List (K × Option (List Name))) (k : K) (given : Option (List Name)) (f : K → Name) → shown f (insert_entry (λ x y. bytes_eq (f x) (f y)) es k given) ≡ put_in (shown f es) (record { name = f k; given = given })
  put_shown [] k given f = refl
  put_shown (e ∷ es) k given f =
      let more = put_shown es k given f in
      elim (bytes_eq (f k) (f e.0)) as (λ b. shown f (if b then (e.0, given) ∷ es else e ∷ insert_entry (λ x y. bytes_eq (f x) (f y)) es k given) ≡ (if b then record { name = f e.0; given = given } ∷ shown f es else record { name = f e.0; given = e.1 } ∷ put_in (shown f es) (record { name = f k; given = given }))) [
        | true ↦ refl
        | false ↦ ap (λ signals. record { name = f e.0; given = e.1 } ∷ signals) more
      ]

  -- the signals after one was put
  pub shown_after : (es es' : List (K × Option (List Name))) (k : K) (given : Option (List Name)) (f : K → Name) (signals : List Signal) → es' ≡ insert_entry (λ x y. bytes_eq (f x) (f y)) es k given → shown f es ≡ signals → shown f es' ≡ put_in signals (record { name = f k; given = given })
  shown_after es es' k given f signals e is =
      ap (shown f) e ∙ (put_shown es k given f ∙ ap (λ s. put_in s (record { name = f k; given = given })) is)

different_put : (signals : List Signal) (s : Signal) → are_different (names_of signals) ≡ true → are_different (names_of (put_in signals s)) ≡ true
different_put signals s h = ap are_different (names_put signals s) ∙ different_with (names_of signals) s.name h

few_put : (signals : List Signal) (s : Signal) → AllByRecursion (λ signal. HasFewValues signal.given) signals → HasFewValues s.given → AllByRecursion (λ signal. HasFewValues signal.given) (put_in signals s)
few_put [] s all few = (few, tt)
few_put (h ∷ signals) s all few =
    let more = few_put signals s all.1 few in
    elim (bytes_eq s.name h.name) as (λ b. AllByRecursion (λ signal. HasFewValues signal.given) (if b then record h { given = s.given } ∷ signals else h ∷ put_in signals s)) [
      | true ↦ (few, all.1)
      | false ↦ (all.0, more)
    ]

pub signals_put : (signals : List Signal) (s : Signal) → AreSignals signals → HasFewValues s.given → AreSignals (put_in signals s)
signals_put signals s all few = record {
  different = different_put signals s all.different;
  few = few_put signals s all.few few;
}
