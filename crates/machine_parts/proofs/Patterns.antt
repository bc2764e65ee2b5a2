-- Patterns beside the columns that they are about.
use Rattle.std.proofs.Common.{◌≡◌, ◌&&◌, ◌+◌, ◌<◌, ◌≤◌, ◌∙◌, ℕ, Bool, true, List, [], ◌∷◌, ◌++◌, length, get_or, drop, refl, sym, ap, arith}
use Rattle.std.proofs.lemmas.List.{drop_more, drop_all, length-map, map-append}
use Rattle.net_model.specs.declared.machine.Bit.{Bit}
use Rattle.net_model.specs.Machines.{bit_allows, bits_allow}
use Rattle.node_table.specs.Table.{Bits}
use Rattle.mv_encoding.specs.Layouts.{Layout, number_of}
use Rattle.mv_encoding.specs.Spots.{spelled}

module _ (columns : List Layout) (pattern : List Bit) (bits : Bits) where
  -- the characters from a place on allow what the first of them allows and the others do
  pub bits-step : (k next : ℕ) (column : Layout) (bit : Bit) → next ≡ k + 1 → k < length columns → k < length pattern → column ≡ get_or columns k column → bit ≡ get_or pattern k bit
      → (bit_allows bit (number_of column 0 bits) && bits_allow (drop next pattern) (spelled (drop next columns) bits)) ≡ bits_allow (drop k pattern) (spelled (drop k columns) bits)
  bits-step k next column bit after within has here is =
      (λ i. bit_allows (is i) (number_of (here i) 0 bits) && bits_allow (drop (after i) pattern) (spelled (drop (after i) columns) bits))
      ∙ (λ i. bits_allow (sym (drop_more pattern k bit has) i) (spelled (sym (drop_more columns k column within) i) bits))

  -- no characters allow anything
  pub bits-none : (k : ℕ) → length columns ≤ k → length pattern ≤ k → true ≡ bits_allow (drop k pattern) (spelled (drop k columns) bits)
  bits-none k all more = λ i. bits_allow (sym (drop_all k pattern more) i) (spelled (sym (drop_all k columns all) i) bits)

and-assoc : (a b c : Bool) → ((a && b) && c) ≡ (a && (b && c))
and-assoc a b c = grind arith

-- two patterns one behind the other
both : (first second : List Bit) (values others : List ℕ) → length first ≡ length values → (bits_allow first values && bits_allow second others) ≡ bits_allow (first ++ second) (values ++ others)
both [] second [] others same = refl
both [] second (v ∷ values) others same = absurd (omega (arith, same))
both (b ∷ first) second [] others same = absurd (omega (arith, same))
both (b ∷ first) second (v ∷ values) others same =
    and-assoc (bit_allows b v) (bits_allow first values) (bits_allow second others) ∙ ap (λ rest. bit_allows b v && rest) (both first second values others (omega (arith, same)))

pub bits-both : (columns front back : List Layout) (first second : List Bit) (bits : Bits) → columns ≡ front ++ back → length first ≡ length front → (bits_allow first (spelled front bits) && bits_allow second (spelled back bits)) ≡ bits_allow (first ++ second) (spelled columns bits)
bits-both columns front back first second bits halves same =
    both first second (spelled front bits) (spelled back bits) (same ∙ sym (length-map front (λ (spot : Layout). number_of spot 0 bits)))
    ∙ ap (bits_allow (first ++ second)) (sym (map-append (λ (spot : Layout). number_of spot 0 bits) front back) ∙ ap (λ all. spelled all bits) (sym halves))
