-- What hiding all levels but some leaves.
use Rattle.std.proofs.Common.{◌≡◌, ◌∙◌, ◌&&◌, ◌||◌, ◌==◌, ◌<◌, ◌≤◌, inl, inr, ℕ, Bool, true, false, not, List, [], ◌∷◌, refl, sym, ap, arith, subst}
use Rattle.std.specs.Prelude.{All}
use Rattle.std.proofs.lemmas.Bool.{and_parts, and_from, false≢true, cases_lt, eqb-true}
use Rattle.node_table.specs.Table.{Bits, Table, value_at}
use Rattle.bdd_ops.specs.Levels.{is_in}
use Rattle.bdd_ops.specs.Meaning.{StandsForHidden}
use Rattle.net_relation.specs.Projections.{Projects}
use Rattle.net_relation.proofs.Spelled.{head, tail}

-- a level of a set of levels below a bound is below it
pub in-within : (n : ℕ) (levels : List ℕ) → All (λ level. level < n) levels → (k : ℕ) → is_in levels k ≡ true → k < n
in-within n [] all k is = absurd (false≢true is)
in-within n (l ∷ levels) all k is =
    elim (l == k) as (λ b. (l == k) ≡ b → (b || is_in levels k) ≡ true → k < n) [
      | true ↦ λ same more. let e = eqb-true l k same in subst (λ j. j < n) e (head (λ level. level < n) l levels all)
      | false ↦ λ other more. in-within n levels (tail (λ level. level < n) l levels all) k more
    ] refl is

pub projected : (old new : Table) (r one : ℕ) (named keep : List ℕ) (meaning : Bits → Bool) → new.levels ≡ old.levels → All (λ level. level < old.levels) keep
    → ((level : ℕ) → level < old.levels → is_in named level ≡ not (is_in keep level)) → ((bits : Bits) → value_at old one bits ≡ true)
    → StandsForHidden new r named (λ bits. value_at old one bits && meaning bits) → Projects new r keep meaning
projected old new r one named keep meaning levels within names all hidden = record {
  valid = hidden.valid;
  found = λ bits is.
      let some = hidden.found bits is in
      (some.0, (λ k kept. some.1 k (names k (in-within old.levels keep within k kept) ∙ ap not kept)), (and_parts (value_at old one some.0) (meaning some.0) some.2).1);
  holds = λ bits u same is.
      hidden.holds bits (u, (λ k out. same k (λ dropped. beyond k out dropped)), and_from (value_at old one u) (meaning u) (all u) is);
}
  where
    beyond : (k : ℕ) → is_in named k ≡ false → is_in keep k ≡ false → new.levels ≤ k
    beyond k out dropped = elim (cases_lt k old.levels) [
      | inl low ↦ absurd (false≢true (sym out ∙ names k low ∙ ap not dropped))
      | inr high ↦ omega (arith, high, levels)
    ]
