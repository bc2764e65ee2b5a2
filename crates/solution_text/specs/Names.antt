-- Names of X's variables.
use Rattle.std.specs.Prelude.{◌≢◌, ℕ, List, codes}

-- a name that automaton files don't use themselves
pub record IsFreeName (name : List ℕ) : Type 0 where
  pub not_present : name ≢ codes "CS"
  pub not_next : name ≢ codes "NS"
  pub not_accepting : name ≢ codes "Acc"
