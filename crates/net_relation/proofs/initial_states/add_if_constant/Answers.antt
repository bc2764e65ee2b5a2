use Rattle.std.proofs.Common.{◌∙◌, ◌++◌, ◌∷◌, [], Bool, List, map, cond, not, OnOk, sym, ap, subst}
use Rattle.std.specs.List.{list_any}
use Rattle.std.proofs.lemmas.List.{append-nil}
use Rattle.net_relation.proofs.StateSets.{any-mapped}
use Rattle.node_table.specs.Table.{Bits}
use Rattle.net_model.specs.Nets.{table_of}
use Rattle.net_conditions.specs.Marks.{is_marked}
use Rattle.table_parts.specs.TableParts.{part_value}
use Rattle.net_relation.specs.Relations.{AreFor}
use Rattle.net_relation.proofs.initial_states.add_if_constant.Goals as goal

pub returns-then-has_any-clause-ok : goal.returns-then-has_any-clause-ok
returns-then-has_any-clause-ok c before are =
    let marked = any-mapped (is_marked c.args.varying.now) (λ v. v.0) c.args.table.now.outs.items
    ∙ sym (ap (list_any (λ v. is_marked c.args.varying.now v.0)) c.deref.ensures.value) ∙ sym c.has_any.ensures ∙ c.if-has_any.true in
    let P : List (Bits → Bool) → Type 0 = λ ms. AreFor c.args.space.now c.args.parts.now ms in
    subst P (sym (append-nil before) ∙ ap (λ b. before ++ map (part_value c.args.signals.now) (cond (not b) (table_of c.args.table.now ∷ []) [])) (sym marked)) are

pub returns-clause-ok : goal.returns-clause-ok
returns-clause-ok c =
    let marked = any-mapped (is_marked c.args.varying.now) (λ v. v.0) c.args.table.now.outs.items
    ∙ sym (ap (list_any (λ v. is_marked c.args.varying.now v.0)) c.deref.ensures.value) ∙ sym c.has_any.ensures ∙ c.if-has_any.false in
    let P : Bool → Type 0 = λ b. OnOk c.add_table.result ((before : List (Bits → Bool)) → AreFor c.args.space.now c.args.parts.now before
    → AreFor c.add_table.new.space c.add_table.new.parts (before ++ map (part_value c.args.signals.now) (cond (not b) (table_of c.args.table.now ∷ []) []))) in
    subst P (sym marked) c.add_table.ensures.ok
