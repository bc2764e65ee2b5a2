use Rattle.std.proofs.Common.{◌≡◌, ◌<◌, ℕ, Bool, List, length, map, take, get_or, Contains, refl, [], ◌∷◌, ◌++◌, sym, ap, subst, ◌∙◌, arith}
use Rattle.std.proofs.lemmas.Bool.{false≢true}
use Rattle.std.proofs.lemmas.List.{take_all}
use Rattle.net_model.specs.Nets as nets
use Rattle.net_model.specs.Nets.{table_of, net_of}
use Rattle.net_model.specs.declared.net.Table.{Table}
use Rattle.net_conditions.specs.Marks.{GrowsIf}
use Rattle.net_conditions.specs.Rounds.{IsClosed}
use Rattle.net_conditions.proofs.Named.{are_below, table_outs_known}
use Rattle.net_conditions.proofs.Listed.{images_more, image_member}
use Rattle.net_conditions.proofs.Closure.{varying_more, closed_more, grows_then, grows_no_more, closed_by_test}
use Rattle.net_conditions.proofs.varying.add_outputs.Goals as goal
use Rattle.net_conditions.proofs.varying.add_outputs.Goals.{then-add_outputs_of, else-add_outputs_of}

pub add_outputs_of-requires : goal.add_outputs_of-requires
add_outputs_of-requires c =
    let table : nets.Table = table_of c.table-item.result in
    let within : c.loop-table.table-index < length c.args.net.now.tables.items = omega (arith, ap length c.deref-table-items.ensures.value) in
    let held = image_member table_of c.args.net.now.tables.items c.loop-table.table-index c.table-item.result within
    (c.table-item.is ∙ ap (λ tables. get_or tables c.loop-table.table-index c.table-item.result) c.deref-table-items.ensures.value) in
    are_below (length c.args.net.now.names) (length c.loop-table.varying) table.outs table.outs c.loop-table.invariant.varying.len refl
    (table_outs_known (net_of c.args.net.now) table held c.requires.known)

pub loop-table-preserved : goal.loop-table-preserved
loop-table-preserved c =
    let old : List Bool = c.args.varying.now in
    let mid : List Bool = c.loop-table.varying in
    let new : List Bool = c.add_outputs_of.new.varying in
    let tables : List Table = c.args.net.now.tables.items in
    let i : ℕ = c.loop-table.table-index in
    let item : Table = c.table-item.result in
    let within : i < length tables = omega (arith, ap length c.deref-table-items.ensures.value) in
    let here : item ≡ get_or tables i item = c.table-item.is ∙ ap (λ ts. get_or ts i item) c.deref-table-items.ensures.value in
    let held : Contains (map table_of tables) (table_of item) = image_member table_of tables i item within here in
    let more = images_more table_of tables i item within ∙ ap (λ table. map table_of (take i tables) ++ table_of table ∷ []) (sym here) in
    let P : Bool → Type 0 = λ grown. GrowsIf grown old new in
    let Q : List nets.Table → Type 0 = λ front. IsClosed front new in record {
      varying = varying_more (net_of c.args.net.now) (table_of item) mid new held c.loop-table.invariant.varying c.add_outputs_of.ensures.added;
      grown = elim c.if-add_outputs_of.branch [
        | then-add_outputs_of w ↦ subst P (sym w.grown-is) (grows_then c.loop-table.grown c.add_outputs_of.result old mid new c.loop-table.invariant.grown c.add_outputs_of.ensures.grown w.if-add_outputs_of.true)
        | else-add_outputs_of w ↦ subst P (sym w.grown-is) (grows_no_more c.loop-table.grown c.add_outputs_of.result old mid new c.loop-table.invariant.grown c.add_outputs_of.ensures.grown w.if-add_outputs_of.false)
      ];
      closed = λ is. subst Q (sym more) (elim c.if-add_outputs_of.branch [
        | then-add_outputs_of w ↦ absurd (false≢true (sym is ∙ w.grown-is))
        | else-add_outputs_of w ↦ closed_more (map table_of (take i tables)) (table_of item) mid new (c.loop-table.invariant.closed (sym w.grown-is ∙ is))
            (subst (λ b. GrowsIf b mid new) w.if-add_outputs_of.false c.add_outputs_of.ensures.grown) c.add_outputs_of.ensures.added
      ]);
    }

pub returns-clause-closed : goal.returns-clause-closed
returns-clause-closed c =
    let all = take_all c.loop-table.table-index c.args.net.now.tables.items (omega (arith, ap length c.deref-table-items.ensures.value)) in
    closed_by_test c.loop-table.grown _ _ c.loop-table.varying (ap (map table_of) all) c.loop-table.invariant.closed
