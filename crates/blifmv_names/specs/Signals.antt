use Rattle.std.specs.Prelude.{◌≡◌, ◌≤◌, Bool, true, List, [], ◌∷◌, length, map, Option, Some, None, if◌then◌else◌, is_some, unwrap_or}
use Rattle.std.specs.Str.{bytes_eq}
use Rattle.std.specs.List.{AllByRecursion}
use Rattle.name_table.specs.Variables.{Variable, is_in, are_same, are_different, numbers}
use Rattle.net_model.specs.Words.{Scope}
use Rattle.net_model.specs.Forms.{Name, Form, DomainsLine}
use Rattle.net_model.specs.NetTexts.{mentions, domain_given}

-- The signals that the lines above mention, in the order of first appearance, each with the domain that a line gave it.

pub record Signal : Type 0 where
  pub name : Name
  pub given : Option (List Name)

-- a domain that a signal can have
abbrev pub HasFewValues : Option (List Name) → Type 0
HasFewValues None = Unit {0}
HasFewValues (Some domain) = length domain ≤ 65536

abbrev pub names_of : List Signal → List Name
names_of signals = map (λ signal. signal.name) signals

-- the signal in the place of the one of its name, or else behind all others
abbrev pub put_in : List Signal → Signal → List Signal
put_in [] signal = signal ∷ []
put_in (had ∷ signals) signal =
    if bytes_eq signal.name had.name then record had { given = signal.given } ∷ signals else had ∷ put_in signals signal

-- the domain that a line gave the name
abbrev pub given_in : List Signal → Name → Option (List Name)
given_in [] name = None
given_in (signal ∷ signals) name = if bytes_eq name signal.name then signal.given else given_in signals name

abbrev pub mentioned : List Signal → Name → List Signal
mentioned signals name = if is_in (names_of signals) name then signals else put_in signals (record { name = name; given = None })

-- a name keeps the domain that it has
abbrev pub given_to : List Name → List Signal → Name → List Signal
given_to domain signals name =
    if is_some (given_in signals name) then signals else put_in signals (record { name = name; given = Some domain })

abbrev pub all_mentioned : List Signal → List Name → List Signal
all_mentioned signals [] = signals
all_mentioned signals (name ∷ names) = all_mentioned (mentioned signals name) names

abbrev pub given_to_all : List Name → List Signal → List Name → List Signal
given_to_all domain signals [] = signals
given_to_all domain signals (name ∷ names) = given_to_all domain (given_to domain signals name) names

-- the signals that a line mentions are there, and it gives its domain
abbrev pub gives : Form → List Signal → List Signal
gives (DomainsLine names count values) signals = given_to_all (domain_given count values) signals names
gives _ signals = signals

-- with the signals that a line mentions
abbrev pub with_mentions : List Signal → Form → List Signal
with_mentions signals form = all_mentioned signals (mentions form)

abbrev pub signals_behind : List Signal → Form → List Signal
signals_behind signals form = gives form (with_mentions signals form)

abbrev pub signals_from : List Signal → List Form → List Signal
signals_from signals [] = signals
signals_from signals (form ∷ text) = signals_from (signals_behind signals form) text

-- the name has no other domain than this
abbrev pub agrees : List Name → Option (List Name) → Bool
agrees domain None = true
agrees domain (Some had) = are_same domain had

-- the names of some of the signals have no other domain than this
abbrev pub AreAgreeing : List Name → List Signal → List Signal → Type 0
AreAgreeing domain signals some = (name : Name) → is_in (names_of some) name ≡ true → agrees domain (given_in signals name) ≡ true

-- a signal without a domain has the values 0 and 1
abbrev pub variable_of : Signal → Variable
variable_of signal = record { name = signal.name; values = unwrap_or signal.given (numbers 2) }

abbrev pub variables_of : List Signal → Scope
variables_of signals = map variable_of signals

-- signals of which no two have one name
pub record AreSignals (signals : List Signal) : Type 0 where
  pub different : are_different (names_of signals) ≡ true
  pub few : AllByRecursion (λ signal. HasFewValues signal.given) signals
