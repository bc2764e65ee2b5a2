use Rattle.std.proofs.Common.{◌≡◌, ◌++◌, map}
use Rattle.std.specs.Vec.Iter.{into_iter_items}
use Rattle.name_table.proofs.domain.set_of.Given as goal

-- the names so far, and those that are left, are the names
abbrev pub invariant-loop-name : goal.invariant-loop-name
invariant-loop-name l = record {
  can : (goal.iterator-loop-name).can_next l.name-iterator;
  finite : (goal.iterator-loop-name).is_finite l.name-iterator;
  added : l.set ++ map (λ n. n.items) (into_iter_items l.name-iterator) ≡ map (λ n. n.items) l.fn.names.items;
}
