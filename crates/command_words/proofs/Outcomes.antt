use Rattle.std.proofs.Common.{◌≡◌, ◌∙◌, ap, subst, true, refl, List, [], Result, Ok, Err, inl, inr, Option, Some, None, option_map, unwrap_or, Bor}
use Rattle.clap.specs.Words.{App, FailsBy, IsAmong, Kinds, Row, Text, fault_of, is_simple, is_simple_and_free, kind_of, matches_of}
use Rattle.clap.specs.declared.error.Error.{Error}
use Rattle.clap.specs.declared.error.kind.ErrorKind.TheVariants.{OutOfMemory}
use Rattle.clap.specs.declared.error.kind.ErrorKind.{ErrorKind}
use Rattle.command_words.specs.Given.{AreTaken, Given, balm, rows_for}

-- a kind among those of no fault is none
among_none : (k : ErrorKind) (kinds : Kinds) → IsAmong k kinds → kinds ≡ [] → ⊥
among_none k kinds among none = subst (IsAmong k) none among

-- `balm` is a command of which clap says all
is_told : is_simple_and_free balm ≡ true
is_told = refl

is_plain : is_simple balm ≡ true
is_plain = refl

-- what a parse of the command tells
told : {T : Type 0} (a : App) (words said : List Text) (r : Result T Error) → a ≡ balm → words ≡ said
    → (is_simple_and_free a ≡ true → FailsBy (fault_of a words) r) → FailsBy (fault_of balm said) r
told a words said r app same fails =
    subst (λ w. FailsBy (fault_of balm w) r) same (subst (λ b. is_simple_and_free b ≡ true → FailsBy (fault_of b words) r) app fails is_told)

pub taken : {T : Type 0} (a : App) (words said : List Text) (m : T) → a ≡ balm → words ≡ said
    → (is_simple_and_free a ≡ true → FailsBy (fault_of a words) (Ok m)) → AreTaken said
unfolding AreTaken
taken {T = T} a words said m app same fails = told {T = T} a words said (Ok m) app same fails

pub not_taken : (T : Type 0) (a : App) (words said : List Text) (e : Error) → a ≡ balm → words ≡ said
    → (is_simple_and_free a ≡ true → FailsBy {T = T} (fault_of a words) (Err e)) → (kind_of e ≡ OutOfMemory → ⊥) → AreTaken said → ⊥
unfolding AreTaken
not_taken T a words said e app same fails other none = elim (told {T = T} a words said (Err e) app same fails) [
  | inl memory ↦ other memory
  | inr among ↦ among_none _ _ among none
]

pub found : (a : App) (words said : List Text) (rows : List Row) → a ≡ balm → words ≡ said
    → (is_simple a ≡ true → rows ≡ matches_of a words) → rows ≡ rows_for said
unfolding rows_for
found a words said rows app same finds =
    subst (λ b. is_simple b ≡ true → rows ≡ matches_of b words) app finds is_plain ∙ ap (matches_of balm) same

-- what is given, field by field
pub same_given : (a b : Given) → a.command ≡ b.command → a.names ≡ b.names → a.ins ≡ b.ins → a.outs ≡ b.outs → a.mode ≡ b.mode → a.class ≡ b.class → a.limit ≡ b.limit → a ≡ b
same_given a b command names ins outs mode class limit = λ i. record {
  command = command i;
  names = names i;
  ins = ins i;
  outs = outs i;
  mode = mode i;
  class = class i;
  limit = limit i;
}

-- a text that is not there is the empty one
pub text_or_none : (o : Option (Bor Text)) (none : Bor Text) (first : Option Text) → option_map (λ s. s.now) o ≡ first → none.now ≡ [] → (unwrap_or o none).now ≡ unwrap_or first []
text_or_none None none first same empty = empty ∙ ap (λ f. unwrap_or f []) same
text_or_none (Some text) none first same empty = ap (λ f. unwrap_or f []) same
