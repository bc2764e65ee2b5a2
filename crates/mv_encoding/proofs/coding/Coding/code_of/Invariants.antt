use Rattle.std.proofs.Common.{◌≡◌, ◌≤◌, ℕ, false, take}
use Rattle.bdd_ops.specs.Words.{bit_of}
use Rattle.mv_encoding.specs.Layouts.{bits_before, numbers_at}
use Rattle.mv_encoding.proofs.coding.Coding.code_of.Given as goal

abbrev pub invariant-loop-var : goal.invariant-loop-var
invariant-loop-var l = record {
  numbers : numbers_at (take l.var l.self.scope) 0 (bit_of l.code) ≡ take l.var l.letter.values.items;
  rest : (k : ℕ) → bits_before l.self.scope l.var ≤ k → bit_of l.code k ≡ false;
}
