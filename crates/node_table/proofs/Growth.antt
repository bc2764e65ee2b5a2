-- How a Space may become another one.
use Rattle.std.proofs.Common.{◌≡◌, ◌<◌, ◌≤◌, ℕ, length, refl, ap, ◌∙◌, arith}
use Rattle.node_table.specs.declared.node.Node.{Node}
use Rattle.node_table.specs.declared.node.TheConstants.{MAX_LEVELS}
use Rattle.node_table.specs.Table.{Table, number_of_next, top_of, with_node, FitsOn, IsTable, IsValid, Grows}
use Rattle.node_table.proofs.Nodes.{value-cons, node-cons, level-cons, AreNodes-rises}

pub grows-refl : (t : Table) → IsTable t → Grows t t
grows-refl t is = record {
  count = omega arith;
  node = λ r held. refl;
  value = λ r held bits. refl;
  top = λ same r held. refl;
  levels = omega arith;
  limit = refl;
  peak = omega (arith, is.peak);
  table = is;
}

pub grows-trans : (a b c : Table) → Grows a b → Grows b c → Grows a c
grows-trans a b c p q =
    let later : (r : ℕ) → r < number_of_next a.nodes → r < number_of_next b.nodes = λ r held. omega (arith, held, p.count) in
    record {
      count = omega (arith, p.count, q.count);
      node = λ r held. q.node r (later r held) ∙ p.node r held;
      value = λ r held bits. q.value r (later r held) bits ∙ p.value r held bits;
      top = λ same r held.
          let first : b.levels ≡ a.levels = omega (arith, same, p.levels, q.levels) in
          let second : c.levels ≡ b.levels = omega (arith, same, first) in
          q.top second r (later r held) ∙ p.top first r held;
      levels = omega (arith, p.levels, q.levels);
      limit = q.limit ∙ p.limit;
      peak = omega (arith, p.peak, q.peak, p.count, q.count);
      table = q.table;
    }

pub valid-grows : (a b : Table) → Grows a b → (r : ℕ) → IsValid a r → IsValid b r
valid-grows a b grow r valid = record { table = grow.table; held = omega (arith, valid.held, grow.count) }

-- one more node
pub table-with_node : (t : Table) (n : Node) → IsTable t → FitsOn t.levels t.nodes n → length t.nodes < t.limit → IsTable (with_node t n)
table-with_node t n is fits room = record {
  nodes = (fits, is.nodes);
  few_levels = is.few_levels;
  few = omega (arith, room);
  peak = omega arith;
  countable = is.countable;
}

pub grows-with_node : (t : Table) (n : Node) → IsTable (with_node t n) → Grows t (with_node t n)
grows-with_node t n is = record {
  count = omega arith;
  node = λ r held. node-cons n t.nodes r held;
  value = λ r held bits. value-cons n t.nodes r held bits;
  top = λ same r held. level-cons n t.nodes t.levels r held;
  levels = omega arith;
  limit = refl;
  peak = omega arith;
  table = is;
}

-- levels below all others
pub table-with_levels : (t : Table) (levels : ℕ) → t.levels ≤ levels → levels ≤ MAX_LEVELS → IsTable t → IsTable (record t { levels = levels })
table-with_levels t levels more bound is = record {
  nodes = AreNodes-rises t.levels levels more t.nodes is.nodes;
  few_levels = bound;
  few = is.few;
  peak = is.peak;
  countable = is.countable;
}

pub grows-with_levels : (t : Table) (levels : ℕ) → t.levels ≤ levels → levels ≤ MAX_LEVELS → IsTable t → Grows t (record t { levels = levels })
grows-with_levels t levels more bound is = record {
  count = omega arith;
  node = λ r held. refl;
  value = λ r held bits. refl;
  top = λ same r held. ap (λ l. top_of (record t { levels = l }) r) same;
  levels = more;
  limit = refl;
  peak = omega (arith, is.peak);
  table = table-with_levels t levels more bound is;
}
