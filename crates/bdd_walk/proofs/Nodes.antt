-- What `lo`, `hi` and `level` tell of a node.
use Rattle.std.proofs.Common.{◌≡◌, ◌≤◌, ℕ, Some, sym, ap, ◌∙◌}
use Rattle.std.specs.Option.{option_map}
use Rattle.node_table.specs.Table.{Table, lo_of, hi_of, IsValid}
use Rattle.node_table.proofs.Nodes.{Holds, node-held}

pub same-some : {X : Type 0} (a b : X) → Some a ≡ Some b → a ≡ b
same-some a b e = cc

-- the node of a ref, by the answers of `lo` and `hi`
pub record HasEnds (t : Table) (r lo hi : ℕ) : Type 0 where
  pub held : Holds t.levels t.nodes r
  pub lo_is : held.node.lo ≡ lo
  pub hi_is : held.node.hi ≡ hi
  pub differ : lo ≡ hi → ⊥

pub has-ends : (t : Table) (r lo hi : ℕ) → IsValid t r → 2 ≤ r → lo_of t r ≡ Some lo → hi_of t r ≡ Some hi → HasEnds t r lo hi
has-ends t r lo hi valid node is_lo is_hi =
    let h = node-held t.levels t.nodes valid.table.nodes r node valid.held in
    let first : h.node.lo ≡ lo = same-some h.node.lo lo (sym (ap (option_map (λ n. n.lo)) h.is) ∙ is_lo) in
    let second : h.node.hi ≡ hi = same-some h.node.hi hi (sym (ap (option_map (λ n. n.hi)) h.is) ∙ is_hi) in
    record { held = h; lo_is = first; hi_is = second; differ = λ same. h.ends_differ (first ∙ same ∙ sym second) }
