use Rattle.std.specs.Prelude.{ℕ, Bool, false, ◌&&◌, List, [], ◌∷◌, nat_eq}
use Rattle.std.specs.List.{list_any, list_all}
use Rattle.net_model.specs.Nets.{Table}

-- How the code tests whether a network is an automaton as the format wants it, for no reader to believe.

-- the only one of these signals
abbrev pub is_only : List ℕ → ℕ → Bool
is_only [] signal = false
is_only (other ∷ []) signal = nat_eq other signal
is_only (other ∷ next ∷ signals) signal = false

-- the table sets this signal alone, and reads some of the states alone
abbrev pub computes : List ℕ → ℕ → Table → Bool
computes states signal table = is_only table.outs signal && list_all (λ input. list_any (nat_eq input) states) table.ins
