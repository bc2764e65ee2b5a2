use Rattle.std.proofs.Common.{◌≡◌, ◌&&◌, ◌+◌, ◌-◌, ◌<◌, ◌∙◌, length, refl, rules, arith}
use Rattle.node_table.proofs.Growth.{grows-refl, grows-trans}
use Rattle.table_parts.specs.Columns.{sizes_at, numbers_in}
use Rattle.table_parts.proofs.Spelled.{laid-later}
use Rattle.table_parts.proofs.Sides.{entry-at, as-many, entries-step, entries-none}
use Rattle.table_parts.proofs.Kept.{right-later}
use Rattle.table_parts.proofs.entries.entries_part.Goals as goal

pub loop-place-init : goal.loop-place-init
loop-place-init c =
    let many = as-many (sizes_at c.args.signals.now c.args.ins.now) c.args.signals.now c.args.columns.now c.args.entries.now c.requires.entries in
    record {
      stands = record {
        valid = c.one-allowed.ensures.valid;
        value = λ bits. c.one-allowed.ensures.value bits
            ∙ entries-none (numbers_in c.args.signals.now c.args.ins.now bits) c.args.signals.now c.args.columns.now c.args.entries.now bits (length c.args.columns.now) (omega arith) (omega (arith, many));
      };
      grows = grows-refl c.args.space.now c.one-allowed.ensures.valid.table;
      levels = refl;
      right = c.requires.right;
    }

pub offset_bounds-entries-place : goal.offset_bounds-entries-place
offset_bounds-entries-place c =
    let many = as-many (sizes_at c.args.signals.now c.args.ins.now) c.args.signals.now c.args.columns.now c.args.entries.now c.requires.entries in
    let within : c.loop-place.place - 1 < length c.args.entries.now = omega (arith, many, c.loop-place.auto.place, c.loop-place-test.true) in
    search rules

pub bounds-entries-place : goal.bounds-entries-place
bounds-entries-place c =
    let many = as-many (sizes_at c.args.signals.now c.args.ins.now) c.args.signals.now c.args.columns.now c.args.entries.now c.requires.entries in
    omega (arith, many, c.loop-place.auto.place, c.loop-place-test.true)

pub entry_part-requires-clause-laid : goal.entry_part-requires-clause-laid
entry_part-requires-clause-laid c = laid-later c.args.space.now c.loop-place.space c.args.signals.now c.loop-place.invariant.levels c.requires.laid

pub entry_part-requires-clause-entry : goal.entry_part-requires-clause-entry
entry_part-requires-clause-entry c =
    entry-at (sizes_at c.args.signals.now c.args.ins.now) c.args.signals.now c.args.columns.now c.args.entries.now (c.loop-place.place - 1) (record { 0 = 0 }) c.index-entries-place.result c.requires.entries (omega (arith, c.loop-place.auto.place, c.loop-place-test.true)) c.index-entries-place.is

pub loop-place-preserved : goal.loop-place-preserved
loop-place-preserved c =
    let signals = c.args.signals.now in
    let ins = c.args.ins.now in
    let columns = c.args.columns.now in
    let entries = c.args.entries.now in
    let before = c.loop-place.invariant in
    let here = c.in_ok-here.ensures in
    let after = c.in_ok-allowed.ensures in
    let kept = here.grows.value c.loop-place.allowed before.stands.valid.held in
    let many = as-many (sizes_at signals ins) signals columns entries c.requires.entries in
    let within : c.loop-place.place - 1 < length columns = omega (arith, c.loop-place.auto.place, c.loop-place-test.true) in
    let next : c.loop-place.place ≡ c.loop-place.place - 1 + 1 = omega (arith, c.loop-place-test.true) in
    record {
      stands = record {
        valid = after.ok.valid;
        value = λ bits. after.ok.value bits
            ∙ (λ i. here.ok.value bits i && (kept bits ∙ before.stands.value bits) i)
            ∙ entries-step (numbers_in signals ins bits) signals columns entries bits (c.loop-place.place - 1) c.loop-place.place (record { 0 = 0 }) c.index-entries-place.result next within (omega (arith, many, within)) c.index-entries-place.is;
      };
      grows = grows-trans c.args.space.now c.loop-place.space c.and.new.space before.grows (grows-trans c.loop-place.space c.entry_part.new.space c.and.new.space here.grows after.grows);
      levels = after.levels ∙ here.levels ∙ before.levels;
      right = right-later signals c.entry_part.new.space c.and.new.space c.entry_part.new.equalities after.grows here.right;
    }
