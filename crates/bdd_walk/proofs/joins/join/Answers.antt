use Rattle.std.proofs.Common.{◌≡◌, ℕ, List, length}
use Rattle.bdd_walk.specs.declared.joins.Ends.{Ends}
use Rattle.bdd_walk.specs.declared.splits.Piece.{Piece}
use Rattle.bdd_walk.specs.Splitting.{AreOver, IsJoin}
use Rattle.bdd_walk.proofs.Joined.{paired, ok-both, ends-under, join-of}
use Rattle.bdd_walk.proofs.joins.join.Goals as goal

pub nodes_over-requires : goal.nodes_over-requires
nodes_over-requires c =
    let lo : List Piece = c.args.lo.now in
    let hi : List Piece = c.args.hi.now in
    let before : List (ℕ × Ends) = c.in_ok-ends.ends.entries in
    let ends : List (ℕ × Ends) = c.add_high_ends.new.ends.entries in
    ends-under c.args.space.now c.args.level c.allocator-alloc.ensures.table c.requires.exists ends lo hi c.requires.lo c.requires.hi
    (paired before ends lo hi c.in_ok-ends.ensures.lo c.in_ok-add_high_ends.ensures.lo c.in_ok-add_high_ends.ensures.hi c.in_ok-add_high_ends.ensures.some)

pub returns-clause-ok : goal.returns-clause-ok
returns-clause-ok c =
    let lo : List Piece = c.args.lo.now in
    let hi : List Piece = c.args.hi.now in
    let before : List (ℕ × Ends) = c.in_ok-ends.ends.entries in
    let ends : List (ℕ × Ends) = c.add_high_ends.new.ends.entries in
    let n = c.nodes_over.new.space in
    let both = paired before ends lo hi c.in_ok-ends.ensures.lo c.in_ok-add_high_ends.ensures.lo c.in_ok-add_high_ends.ensures.hi c.in_ok-add_high_ends.ensures.some in
    ok-both c.nodes_over.result (λ pieces. AreOver n c.args.level ends pieces.items) (λ pieces. length pieces.items ≡ length ends) (λ pieces. IsJoin n c.args.level lo hi pieces.items)
    (λ pieces over every. join-of n c.args.level ends lo hi pieces.items c.nodes_over.ensures.grows.table c.nodes_over.ensures.unique both over every)
    c.nodes_over.ensures.ok
    c.nodes_over.ensures.every
