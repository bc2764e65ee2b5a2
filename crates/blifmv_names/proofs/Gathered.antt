-- What the signals of the lines tell of the names and domains of a text.
use Rattle.std.proofs.Common.{◌≡◌, ◌||◌, ◌++◌, Bool, true, false, List, [], ◌∷◌, map, Option, Some, None, is_some, unwrap_or, if◌then◌else◌, refl, sym, ◌∙◌, ap}
use Rattle.std.specs.Option.{option_or}
use Rattle.std.specs.List.{flat_map, list_any}
use Rattle.std.specs.Str.{bytes_eq}
use Rattle.std.proofs.lemmas.Bool.{false≢true, and_parts}
use Rattle.std.proofs.lemmas.List.Folds.{list_any-append}
use Rattle.std.proofs.lemmas.Slice.Eq.{bytes_eq-Decides}
use Rattle.name_table.specs.Variables.{is_in, with_name, are_different, numbers}
use Rattle.name_table.proofs.Apart.{bytes_eq_flip, not_true}
use Rattle.net_model.specs.Words.{Scope}
use Rattle.net_model.specs.Forms.{Name, Form, ModelLine, InputsLine, OutputsLine, DomainsLine, TableLine, ResetLine, LatchLine, DefaultLine, EndLine, RowLine}
use Rattle.net_model.specs.NetTexts.{mentions, distinct, domain_given, domain_on, domain_in, variables_in}
use Rattle.blifmv_names.specs.Signals.{Signal, names_of, put_in, given_in, mentioned, given_to, all_mentioned, given_to_all, signals_behind, signals_from, variables_of}

-- the names behind one that is put among them

with_name_cons : (h : Name) (names : List Name) (name : Name) → h ∷ with_name names name ≡ (if is_in names name then h ∷ names else (h ∷ names) ++ name ∷ [])
with_name_cons h names name =
    elim (is_in names name) as (λ b. h ∷ (if b then names else names ++ name ∷ []) ≡ (if b then h ∷ names else (h ∷ names) ++ name ∷ [])) [
      | true ↦ refl
      | false ↦ refl
    ]

pub names_put : (signals : List Signal) (s : Signal) → names_of (put_in signals s) ≡ with_name (names_of signals) s.name
names_put [] s = refl
names_put (h ∷ signals) s =
    let more = names_put signals s in
    elim (bytes_eq s.name h.name) as (λ b. names_of (if b then record h { given = s.given } ∷ signals else h ∷ put_in signals s) ≡ (if (b || is_in (names_of signals) s.name) then names_of (h ∷ signals) else names_of (h ∷ signals) ++ s.name ∷ [])) [
      | true ↦ refl
      | false ↦ ap (λ names. h.name ∷ names) more ∙ with_name_cons h.name (names_of signals) s.name
    ]

-- the domain of a name that is put, and of any other

pub given_put : (signals : List Signal) (s : Signal) (name : Name) → given_in (put_in signals s) name ≡ (if bytes_eq name s.name then s.given else given_in signals name)
given_put [] s name = refl
given_put (h ∷ signals) s name =
    let more = given_put signals s name in
    elim (bytes_eq s.name h.name) as (λ b. bytes_eq s.name h.name ≡ b → given_in (if b then record h { given = s.given } ∷ signals else h ∷ put_in signals s) name ≡ (if bytes_eq name s.name then s.given else given_in (h ∷ signals) name)) [
      | true ↦ λ is.
          let same = (bytes_eq-Decides s.name h.name).0 is in
          rw same (elim (bytes_eq name h.name) as (λ b. (if b then s.given else given_in signals name) ≡ (if b then s.given else (if b then h.given else given_in signals name))) [ true ↦ refl | false ↦ refl ])
      | false ↦ λ is.
          rw more
          (elim (bytes_eq name s.name) as (λ b. bytes_eq name s.name ≡ b → (if bytes_eq name h.name then h.given else (if b then s.given else given_in signals name)) ≡ (if b then s.given else (if bytes_eq name h.name then h.given else given_in signals name))) [
            | true ↦ λ at. rw ((bytes_eq-Decides name s.name).0 at) (rw is refl)
            | false ↦ λ at. refl
          ] refl)
    ] refl

-- a name that isn't there has no domain
given_absent : (signals : List Signal) (name : Name) → is_in (names_of signals) name ≡ false → given_in signals name ≡ None
given_absent [] name h = refl
given_absent (s ∷ signals) name h =
    let more = given_absent signals name in
    elim (bytes_eq name s.name) as (λ b. (b || is_in (names_of signals) name) ≡ false → (if b then s.given else given_in signals name) ≡ None) [
      | true ↦ λ e. absurd (false≢true (sym e))
      | false ↦ λ e. more e
    ] h

pub names_mentioned : (signals : List Signal) (name : Name) → names_of (mentioned signals name) ≡ with_name (names_of signals) name
names_mentioned signals name =
    let put = names_put signals (record { name = name; given = None }) in
    elim (is_in (names_of signals) name) as (λ b. is_in (names_of signals) name ≡ b → names_of (if b then signals else put_in signals (record { name = name; given = None })) ≡ (if b then names_of signals else names_of signals ++ name ∷ [])) [
      | true ↦ λ is. refl
      | false ↦ λ is. put ∙ ap (λ b. if b then names_of signals else names_of signals ++ name ∷ []) is
    ] refl

given_mentioned : (signals : List Signal) (name other : Name) → given_in (mentioned signals name) other ≡ given_in signals other
given_mentioned signals name other =
    let put = given_put signals (record { name = name; given = None }) other in
    elim (is_in (names_of signals) name) as (λ b. is_in (names_of signals) name ≡ b → given_in (if b then signals else put_in signals (record { name = name; given = None })) other ≡ given_in signals other) [
      | true ↦ λ is. refl
      | false ↦ λ is.
          put
          ∙ elim (bytes_eq other name) as (λ b. bytes_eq other name ≡ b → (if b then None else given_in signals other) ≡ given_in signals other) [
            | true ↦ λ at. sym (ap (given_in signals) ((bytes_eq-Decides other name).0 at) ∙ given_absent signals name is)
            | false ↦ λ at. refl
          ] refl
    ] refl

-- a name with a domain is there
there_given : (signals : List Signal) (name : Name) → is_some (given_in signals name) ≡ true → is_in (names_of signals) name ≡ true
there_given [] name h = absurd (false≢true h)
there_given (s ∷ signals) name h =
    let more = there_given signals name in
    elim (bytes_eq name s.name) as (λ b. is_some (if b then s.given else given_in signals name) ≡ true → (b || is_in (names_of signals) name) ≡ true) [
      | true ↦ λ e. refl
      | false ↦ λ e. more e
    ] h

names_given : (domain : List Name) (signals : List Signal) (name : Name) → names_of (given_to domain signals name) ≡ with_name (names_of signals) name
names_given domain signals name =
    let put = names_put signals (record { name = name; given = Some domain }) in
    elim (is_some (given_in signals name)) as (λ b. is_some (given_in signals name) ≡ b → names_of (if b then signals else put_in signals (record { name = name; given = Some domain })) ≡ with_name (names_of signals) name) [
      | true ↦ λ is. sym (ap (λ b. if b then names_of signals else names_of signals ++ name ∷ []) (there_given signals name is))
      | false ↦ λ is. put
    ] refl

given_given : (domain : List Name) (signals : List Signal) (name other : Name) → given_in (given_to domain signals name) other ≡ option_or (given_in signals other) (if bytes_eq other name then Some domain else None)
given_given domain signals name other =
    let put = given_put signals (record { name = name; given = Some domain }) other in
    elim (given_in signals name) as (λ o. given_in signals name ≡ o → given_in (if is_some o then signals else put_in signals (record { name = name; given = Some domain })) other ≡ option_or (given_in signals other) (if bytes_eq other name then Some domain else None)) [
      | Some had ↦ λ is.
          elim (bytes_eq other name) as (λ b. bytes_eq other name ≡ b → given_in signals other ≡ option_or (given_in signals other) (if b then Some domain else None)) [
            | true ↦ λ at. rw ((bytes_eq-Decides other name).0 at) (rw is refl)
            | false ↦ λ at. or_none (given_in signals other)
          ] refl
      | None ↦ λ is.
          put
          ∙ elim (bytes_eq other name) as (λ b. bytes_eq other name ≡ b → (if b then Some domain else given_in signals other) ≡ option_or (given_in signals other) (if b then Some domain else None)) [
            | true ↦ λ at. rw ((bytes_eq-Decides other name).0 at) (rw is refl)
            | false ↦ λ at. or_none (given_in signals other)
          ] refl
    ] refl
  where
    or_none : (o : Option (List Name)) → o ≡ option_or o None
    or_none None = refl
    or_none (Some had) = refl

-- lists of names

pub names_all_mentioned : (signals : List Signal) (names : List Name) → names_of (all_mentioned signals names) ≡ distinct (names_of signals) names
names_all_mentioned signals [] = refl
names_all_mentioned signals (name ∷ names) =
    names_all_mentioned (mentioned signals name) names ∙ ap (λ had. distinct had names) (names_mentioned signals name)

pub given_all_mentioned : (signals : List Signal) (names : List Name) (other : Name) → given_in (all_mentioned signals names) other ≡ given_in signals other
given_all_mentioned signals [] other = refl
given_all_mentioned signals (name ∷ names) other =
    given_all_mentioned (mentioned signals name) names other ∙ given_mentioned signals name other

names_given_to_all : (domain : List Name) (signals : List Signal) (names : List Name) → names_of (given_to_all domain signals names) ≡ distinct (names_of signals) names
names_given_to_all domain signals [] = refl
names_given_to_all domain signals (name ∷ names) =
    names_given_to_all domain (given_to domain signals name) names ∙ ap (λ had. distinct had names) (names_given domain signals name)

given_given_to_all : (domain : List Name) (signals : List Signal) (names : List Name) (other : Name) → given_in (given_to_all domain signals names) other ≡ option_or (given_in signals other) (if is_in names other then Some domain else None)
given_given_to_all domain signals [] other = or_none (given_in signals other)
  where
    or_none : (o : Option (List Name)) → o ≡ option_or o None
    or_none None = refl
    or_none (Some had) = refl
given_given_to_all domain signals (name ∷ names) other =
    given_given_to_all domain (given_to domain signals name) names other
    ∙ (ap (λ o. option_or o (if is_in names other then Some domain else None)) (given_given domain signals name other)
    ∙ both (given_in signals other) (bytes_eq other name) (is_in names other))
  where
    both : (o : Option (List Name)) (b c : Bool) → option_or (option_or o (if b then Some domain else None)) (if c then Some domain else None) ≡ option_or o (if (b || c) then Some domain else None)
    both (Some had) b c = refl
    both None true c = refl
    both None false c = refl

-- names that are all there add nothing

abbrev pub AreThere : List Name → List Name → Type 0
AreThere had [] = Unit {0}
AreThere had (name ∷ names) = (is_in had name ≡ true) × AreThere had names

in_with : (had : List Name) (name : Name) → is_in (with_name had name) name ≡ true
in_with had name =
    elim (is_in had name) as (λ b. is_in had name ≡ b → is_in (if b then had else had ++ name ∷ []) name ≡ true) [
      | true ↦ λ is. is
      | false ↦ λ is. rw list_any-append (rw ((bytes_eq-Decides name name).1 refl) (or_true (is_in had name)))
    ] refl
  where
    or_true : (b : Bool) → (b || true) ≡ true
    or_true true = refl
    or_true false = refl

stays_with : (had : List Name) (name other : Name) → is_in had other ≡ true → is_in (with_name had name) other ≡ true
stays_with had name other h =
    elim (is_in had name) as (λ b. is_in (if b then had else had ++ name ∷ []) other ≡ true) [
      | true ↦ h
      | false ↦ rw list_any-append (rw h refl)
    ]

pub stays_distinct : (had names : List Name) (other : Name) → is_in had other ≡ true → is_in (distinct had names) other ≡ true
stays_distinct had [] other h = h
stays_distinct had (name ∷ names) other h = stays_distinct (with_name had name) names other (stays_with had name other h)

pub all_there : (had names : List Name) → AreThere (distinct had names) names
all_there had [] = tt
all_there had (name ∷ names) = (stays_distinct (with_name had name) names name (in_with had name), all_there (with_name had name) names)

nothing_new : (had names : List Name) → AreThere had names → distinct had names ≡ had
nothing_new had [] h = refl
nothing_new had (name ∷ names) h =
    ap (λ b. distinct (if b then had else had ++ name ∷ []) names) h.0 ∙ nothing_new had names h.1

distinct_again : (had names : List Name) → distinct (distinct had names) names ≡ distinct had names
distinct_again had names = nothing_new (distinct had names) names (all_there had names)

distinct_more : (had names more : List Name) → distinct had (names ++ more) ≡ distinct (distinct had names) more
distinct_more had [] more = refl
distinct_more had (name ∷ names) more = distinct_more (with_name had name) names more

-- one line

pub names_behind : (signals : List Signal) (form : Form) → names_of (signals_behind signals form) ≡ distinct (names_of signals) (mentions form)
names_behind signals (ModelLine names) = names_all_mentioned signals []
names_behind signals (InputsLine names) = names_all_mentioned signals names
names_behind signals (OutputsLine names) = names_all_mentioned signals names
names_behind signals (DomainsLine names count values) =
    names_given_to_all (domain_given count values) (all_mentioned signals names) names
    ∙ (ap (λ had. distinct had names) (names_all_mentioned signals names) ∙ distinct_again (names_of signals) names)
names_behind signals (TableLine ins outs) = names_all_mentioned signals (ins ++ outs)
names_behind signals (ResetLine ins outs) = names_all_mentioned signals (ins ++ outs)
names_behind signals (LatchLine input output) = names_all_mentioned signals (input ∷ output ∷ [])
names_behind signals (DefaultLine words) = names_all_mentioned signals []
names_behind signals EndLine = names_all_mentioned signals []
names_behind signals (RowLine words) = names_all_mentioned signals []

or_none : (o p : Option (List Name)) → p ≡ o → p ≡ option_or o None
or_none None p h = h
or_none (Some had) p h = h

pub given_behind : (signals : List Signal) (form : Form) (name : Name) → given_in (signals_behind signals form) name ≡ option_or (given_in signals name) (domain_on form name)
given_behind signals (ModelLine names) name = or_none _ _ (given_all_mentioned signals [] name)
given_behind signals (InputsLine names) name = or_none _ _ (given_all_mentioned signals names name)
given_behind signals (OutputsLine names) name = or_none _ _ (given_all_mentioned signals names name)
given_behind signals (DomainsLine names count values) name =
    given_given_to_all (domain_given count values) (all_mentioned signals names) names name
    ∙ ap (λ o. option_or o (domain_on (DomainsLine names count values) name)) (given_all_mentioned signals names name)
given_behind signals (TableLine ins outs) name = or_none _ _ (given_all_mentioned signals (ins ++ outs) name)
given_behind signals (ResetLine ins outs) name = or_none _ _ (given_all_mentioned signals (ins ++ outs) name)
given_behind signals (LatchLine input output) name = or_none _ _ (given_all_mentioned signals (input ∷ output ∷ []) name)
given_behind signals (DefaultLine words) name = or_none _ _ (given_all_mentioned signals [] name)
given_behind signals EndLine name = or_none _ _ (given_all_mentioned signals [] name)
given_behind signals (RowLine words) name = or_none _ _ (given_all_mentioned signals [] name)

-- a text

-- the domain of a name in these lines, where the lines above gave what the signals have
abbrev pub domain_with : List Signal → List Form → Name → List Name
domain_with signals text name = unwrap_or (given_in signals name) (domain_in text name)

or_unwrapped : (o p : Option (List Name)) (d : List Name) → unwrap_or (option_or o p) d ≡ unwrap_or o (unwrap_or p d)
or_unwrapped None p d = refl
or_unwrapped (Some had) p d = refl

pub domain_behind : (signals : List Signal) (form : Form) (text : List Form) (name : Name) → domain_with (signals_behind signals form) text name ≡ domain_with signals (form ∷ text) name
domain_behind signals form text name =
    ap (λ o. unwrap_or o (domain_in text name)) (given_behind signals form name)
    ∙ or_unwrapped (given_in signals name) (domain_on form name) (domain_in text name)

pub names_from : (signals : List Signal) (text : List Form) → names_of (signals_from signals text) ≡ distinct (names_of signals) (flat_map mentions text)
names_from signals [] = refl
names_from signals (form ∷ text) =
    names_from (signals_behind signals form) text
    ∙ (ap (λ had. distinct had (flat_map mentions text)) (names_behind signals form)
    ∙ sym (distinct_more (names_of signals) (mentions form) (flat_map mentions text)))

pub domain_from : (signals : List Signal) (text : List Form) (name : Name) → domain_with (signals_from signals text) [] name ≡ domain_with signals text name
domain_from signals [] name = refl
domain_from signals (form ∷ text) name = domain_from (signals_behind signals form) text name ∙ domain_behind signals form text name

-- the variables of signals that differ

abbrev pub variables_named : List Signal → List Name → Scope
variables_named signals names = map (λ name. record { name = name; values = unwrap_or (given_in signals name) (numbers 2) }) names

same_elsewhere : (s : Signal) (signals : List Signal) (names : List Name) → list_any (bytes_eq s.name) names ≡ false → map (λ name. record { name = name; values = unwrap_or (given_in (s ∷ signals) name) (numbers 2) }) names ≡ variables_named signals names
same_elsewhere s signals [] h = refl
same_elsewhere s signals (name ∷ names) h =
    let more = same_elsewhere s signals names in
    elim (bytes_eq s.name name) as (λ b. bytes_eq s.name name ≡ b → (b || list_any (bytes_eq s.name) names) ≡ false → map (λ name. record { name = name; values = unwrap_or (given_in (s ∷ signals) name) (numbers 2) }) (name ∷ names) ≡ variables_named signals (name ∷ names)) [
      | true ↦ λ is e. absurd (false≢true (sym e))
      | false ↦ λ is e.
          let apart : bytes_eq name s.name ≡ false = bytes_eq_flip name s.name ∙ is in
          λ i. record { name = name; values = unwrap_or (if apart i then s.given else given_in signals name) (numbers 2) } ∷ more e i
    ] refl h

pub variables_by_name : (signals : List Signal) → are_different (names_of signals) ≡ true → variables_of signals ≡ variables_named signals (names_of signals)
variables_by_name [] h = refl
variables_by_name (s ∷ signals) h =
    let parts = and_parts _ _ h in
    let more = variables_by_name signals parts.1 in
    let there : bytes_eq s.name s.name ≡ true = (bytes_eq-Decides s.name s.name).1 refl in
    let rest = same_elsewhere s signals (names_of signals) (not_true _ parts.0) in
    (λ i. record { name = s.name; values = unwrap_or (if sym there i then s.given else given_in signals s.name) (numbers 2) } ∷ (more ∙ sym rest) i)

-- the signals of a whole text are its variables
pub variables_from : (text : List Form) → are_different (names_of (signals_from [] text)) ≡ true → variables_of (signals_from [] text) ≡ variables_in text
variables_from text h =
    variables_by_name (signals_from [] text) h
    ∙ (λ i. map (λ name. record { name = name; values = domain_from [] text name i }) (names_from [] text i))
