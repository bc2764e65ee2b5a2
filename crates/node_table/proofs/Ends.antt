-- What `level`, `lo`, `hi` and `mk` tell of a node that is held.
use Rattle.std.proofs.Common.{◌≡◌, ◌<◌, ℕ, true, false, if◌then◌else◌, Some, refl, sym, ap, ◌∙◌, subst, inl, arith}
use Rattle.node_table.specs.declared.node.Node.{Node}
use Rattle.node_table.specs.Table.{Bits, Table, number_of_next, node_of, value_at, top_of, IsTable, IsValid, IsConstant, IsEnd, Makes}
use Rattle.node_table.proofs.Nodes.{Holds, node-held, held-node, value-zero, value-one, level-constant}

-- what is known of a ref that names this node
pub record Tells (t : Table) (r : ℕ) (n : Node) : Type 0 where
  pub valid : IsValid t r
  pub top : top_of t r ≡ n.level
  pub level_exists : n.level < t.levels
  pub lo : IsEnd t r false n.lo
  pub hi : IsEnd t r true n.hi
  pub value : (bits : Bits) → value_at t r bits ≡ (if bits n.level then value_at t n.hi bits else value_at t n.lo bits)

from-Holds : (t : Table) → IsTable t → (r : ℕ) → r < number_of_next t.nodes → (h : Holds t.levels t.nodes r) → Tells t r h.node
from-Holds t is r held h = record {
  valid = record { table = is; held = held };
  top = h.level;
  level_exists = h.level_exists;
  lo = record {
    valid = record { table = is; held = omega (arith, h.lo_older) };
    below = omega (arith, h.level, h.lo_below);
    older = h.lo_older;
    value = λ bits at. h.value bits ∙ ap (λ b. if b then value_at t h.node.hi bits else value_at t h.node.lo bits) (ap bits (sym h.level) ∙ at);
  };
  hi = record {
    valid = record { table = is; held = omega (arith, h.hi_older) };
    below = omega (arith, h.level, h.hi_below);
    older = h.hi_older;
    value = λ bits at. h.value bits ∙ ap (λ b. if b then value_at t h.node.hi bits else value_at t h.node.lo bits) (ap bits (sym h.level) ∙ at);
  };
  value = h.value;
}

same-node : (n m : Node) → Some n ≡ Some m → n ≡ m
same-node n m e = cc

pub tells : (t : Table) → IsTable t → (r : ℕ) (n : Node) → node_of t.nodes r ≡ Some n → Tells t r n
tells t is r n at =
    let held = held-node t.nodes r n at in
    let h = node-held t.levels t.nodes is.nodes r held.0 held.1 in
    let P : Node → Type 0 = λ m. Tells t r m in
    subst P (same-node h.node n (sym h.is ∙ at)) (from-Holds t is r held.1 h)

-- `mk` of a node that is there
pub makes-held : (t : Table) → IsTable t → (level lo hi r : ℕ) → (lo ≡ hi → ⊥) → node_of t.nodes r ≡ Some (record { level = level; lo = lo; hi = hi }) → Makes t t level lo hi r
makes-held t is level lo hi r differ at =
    let told = tells t is r (record { level = level; lo = lo; hi = hi }) at in
    record {
      valid = told.valid;
      top = omega (arith, told.top);
      value = told.value;
      same_ends = λ same. absurd (differ same);
      node = λ other. at;
      once = inl refl;
    }

-- the constants
pub constant-zero : (t : Table) → IsTable t → IsConstant t false 0
constant-zero t is = record {
  number = refl;
  valid = record { table = is; held = omega arith };
  top = level-constant t.levels t.nodes 0 (omega arith);
  value = value-zero t.nodes;
}

pub constant-one : (t : Table) → IsTable t → IsConstant t true 1
constant-one t is = record {
  number = refl;
  valid = record { table = is; held = omega arith };
  top = level-constant t.levels t.nodes 1 (omega arith);
  value = value-one t.nodes;
}
