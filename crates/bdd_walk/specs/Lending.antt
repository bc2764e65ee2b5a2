-- What a walk is once the path that it lent is given back.
use Rattle.std.specs.Prelude.{◌≡◌, List, [], ◌∷◌, Option, MatchOption}
use Rattle.std.specs.Borrow.{Fml, Bor, MutBor}
use Rattle.std.specs.Io.BufRead.{Rests}
use mir.Syntax.{named}
use Rattle.bdd_walk.specs.declared.paths.Lit.{Lit}
use Rattle.bdd_walk.specs.declared.paths.Paths.{Paths}
use Rattle.bdd_walk.specs.contracts.paths.Paths.{the_row}
use Rattle.bdd_walk.specs.Paths.{Path, path_of}

-- no path is to come before nor after, or the one that is lent was the first, and those behind it are still to come
abbrev pub IsNext : Option (Bor (List Lit)) → List Path → List Path → Type 0
IsNext lent before after = MatchOption lent ((before ≡ []) × (after ≡ [])) (λ path. before ≡ path_of path.now ∷ after)

-- `named 0` is the place of the space's lifetime in the signature
abbrev pub EndsAs : MutBor Paths → Option (Bor (List Lit)) → Fml
EndsAs walk lent = Rests (the_row (record { mir = named 0; lft = [] })) walk (IsNext lent walk.now)
