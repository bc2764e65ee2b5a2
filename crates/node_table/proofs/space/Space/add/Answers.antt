use Rattle.std.proofs.Common.{◌≡◌, ◌+◌, ◌∷◌, length, reverse, max, sym, ap, ◌∙◌, subst, arith}
use Rattle.std.proofs.lemmas.List.{length-reverse}
use Rattle.node_table.specs.Table.{Table, table_of, with_node, number_of_next, IsNew}
use Rattle.node_table.proofs.Keys.{insert_key-new}
use Rattle.node_table.proofs.space.Space.add.Goals as goal

pub returns-in-Ok-clause-ok : goal.returns-in-Ok-clause-ok
returns-in-Ok-clause-ok c =
    let keys = c.self.inside.held.keys in
    let old : Table = table_of keys c.self.inside.levels c.self.inside.limit c.self.inside.peak in
    let New : Table → Type 0 = λ t. IsNew t.nodes c.args.node in
    let new : New old = subst New (sym c.self.view_is) c.requires.fits.is_new in
    let nodes : reverse c.insert.new.self.keys ≡ c.args.node ∷ reverse keys = ap reverse c.in-Ok.ensures.keys ∙ insert_key-new keys c.args.node new in
    let peak : c.max-self-inside.result ≡ max c.self.inside.peak (length (reverse keys) + 1) = omega (arith, length-reverse keys, c.len.ensures.len) in
    let P : Table → Type 0 = λ t. (c.numbered.result ≡ number_of_next t.nodes)
    × (table_of c.insert.new.self.keys c.self.inside.levels c.self.inside.limit c.max-self-inside.result ≡ with_node t c.args.node) in
    subst P c.self.view_is (
      omega (arith, length-reverse keys, c.len.ensures.len),
      λ i. record { nodes = nodes i; levels = c.self.inside.levels; limit = c.self.inside.limit; peak = peak i },
    )
