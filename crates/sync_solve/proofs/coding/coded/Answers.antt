use Rattle.std.proofs.Common.{◌≡◌, ◌^◌, ◌<◌, ◌≤◌, ℕ, List, length, sym, ap, ◌∙◌, subst, arith}
use Rattle.std.specs.List.{All}
use Rattle.std.proofs.lemmas.List.FromFn.{length-range_with_len}
use Rattle.sync_solve.proofs.Codes.{range-low}
use Rattle.sync_solve.proofs.Encoded.{coded-are}
use Rattle.sync_solve.proofs.coding.coded.Goals as goal

pub encode-requires-clause-present : goal.encode-requires-clause-present
encode-requires-clause-present c = subst (λ levels. All (λ level. level < c.args.space.now.levels) levels) (sym c.in_ok-present.ensures) (range-low c.args.first c.args.digits c.args.space.now.levels (omega (arith, c.requires.levels)))

pub encode-requires-clause-next : goal.encode-requires-clause-next
encode-requires-clause-next c = subst (λ levels. All (λ level. level < c.args.space.now.levels) levels) (sym c.in_ok-next.ensures) (range-low _ c.args.digits c.args.space.now.levels (omega (arith, c.requires.levels)))

pub encode-requires-clause-enough : goal.encode-requires-clause-enough
encode-requires-clause-enough c =
    let enough : (levels : List ℕ) → length levels ≡ c.args.digits → length c.args.det.now ≤ 2 ^ length levels = λ levels long. subst (λ n. length c.args.det.now ≤ 2 ^ n) (sym long) c.requires.enough in
    (enough c.in_ok-present.present (ap length c.in_ok-present.ensures ∙ length-range_with_len _ c.args.digits), enough c.in_ok-next.next (ap length c.in_ok-next.ensures ∙ length-range_with_len _ c.args.digits))

pub ends-requires : goal.ends-requires
ends-requires c = subst (λ levels. All (λ level. level < c.encode.new.space.levels) levels) (sym c.in_ok-present.ensures)
    (let same = c.encode.ensures.levels in range-low c.args.first c.args.digits c.encode.new.space.levels (omega (arith, c.requires.levels, same)))

pub returns-in-Ok-clause-ok : goal.returns-in-Ok-clause-ok
returns-in-Ok-clause-ok c =
    coded-are c.args.space.now c.encode.new.space c.ends.new.space c.args.det.now c.args.first c.args.digits c.in_ok-parts.parts _ _ c.in_ok-present.present c.in_ok-next.next
    c.in_ok-present.ensures c.in_ok-next.ensures c.ends.ensures.grows c.in_ok-parts.ensures.valid c.in_ok-parts.ensures.steps c.in-Ok.ensures.init c.in-Ok.ensures.acc
