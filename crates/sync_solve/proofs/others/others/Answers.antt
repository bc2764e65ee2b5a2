use Rattle.std.proofs.Common.{◌∙◌, sym, subst, arith}
use Rattle.net_model.specs.Problems.{file_of}
use Rattle.net_frame.specs.Frames.{spots_in}
use Rattle.mv_encoding.specs.Spots.{all_levels, spell_values}
use Rattle.det_core.specs.Automata.{MeetsRule, ReadsAlone}
use Rattle.subset_build.specs.Relations.{AreInOrder}
use Rattle.sync_solve.proofs.Files.{diagrams-grow}
use Rattle.sync_solve.proofs.Orders.{behind-file, order-of}
use Rattle.sync_solve.proofs.Turned.{file-letters-laid, values-same, others-are, turned-rule, turned-reads, reads-same}
use Rattle.sync_solve.proofs.others.others.Goals as goal

pub letters-requires : goal.letters-requires
letters-requires c =
    let are = c.in_ok-machine.ensures.ok in
    file-letters-laid c.of_file.new.space (file_of c.args.file.now) (spots_in c.args.frame.now c.args.slot) are.sound are.placed

pub determinise-requires-clause-order : goal.determinise-requires-clause-order
determinise-requires-clause-order c =
    let file = file_of c.args.file.now in
    let spots = spots_in c.args.frame.now c.args.slot in
    let (start, within, around) = c.requires.order in
    let levels = c.letters.ensures.levels ∙ c.of_file.ensures.levels in
    let are = diagrams-grow c.of_file.new.space c.letters.new.space c.letters.ensures.grows c.letters.ensures.levels file spots
    c.in_ok-machine.machine.parts c.in_ok-machine.machine.init c.in_ok-machine.machine.acc c.in_ok-machine.ensures.ok in
    let behind = behind-file c.letters.new.space start file spots c.in_ok-machine.machine.parts c.in_ok-machine.machine.init c.in_ok-machine.machine.acc are (record {
      letters = around.letters;
      signals = around.signals;
      present = λ k member. let at = around.present k member in (at.0, omega (arith, at.1, levels));
      next = λ k member. let at = around.next k member in (at.0, omega (arith, at.1, levels));
    }) in
    subst (λ back. AreInOrder c.letters.new.space.levels c.letters-2.result.now back) (sym c.back.ensures)
    (order-of c.letters.new.space start c.letters-2.result.now spots.back (omega (arith, within, levels)) (λ k member. around.letters k (sym (c.letters-2.ensures.same k) ∙ member)) behind)

pub determinise-requires-clause-valid : goal.determinise-requires-clause-valid
determinise-requires-clause-valid c =
    let spots = spots_in c.args.frame.now c.args.slot in
    let valid = c.in_ok-valid.ensures.ok in
    record {
      valid = valid.valid;
      depends = λ u v same. valid.value u ∙ values-same spots.letters u v (λ k member. same k (c.letters-2.ensures.same k ∙ member)) ∙ sym (valid.value v);
    }

pub returns-clause-others : goal.returns-clause-others
returns-clause-others c =
    let file = file_of c.args.file.now in
    let spots = spots_in c.args.frame.now c.args.slot in
    let machine = c.in_ok-machine.machine in
    others-are c.letters.new.space c.determinise.new.space file spots machine.parts machine.init machine.acc c.letters-2.result.now c.back.result.now
    (diagrams-grow c.of_file.new.space c.letters.new.space c.letters.ensures.grows c.letters.ensures.levels file spots machine.parts machine.init machine.acc c.in_ok-machine.ensures.ok)
    c.letters-2.ensures.same c.back.ensures c.in_ok-valid.valid c.in_ok-valid.ensures.ok c.in_ok-det.det c.complement.result c.in_ok-det.ensures.words c.in_ok-det.ensures.complete c.complement.ensures.words

pub returns-clause-rule : goal.returns-clause-rule
returns-clause-rule c =
    let spots = spots_in c.args.frame.now c.args.slot in
    let valid = c.in_ok-valid.ensures.ok in
    subst (λ det. MeetsRule c.determinise.new.space (spell_values spots.letters) det) (sym c.complement.ensures.states)
    (turned-rule c.determinise.new.space (spell_values spots.letters) c.in_ok-det.det
    (subst (λ letters. MeetsRule c.determinise.new.space letters c.in_ok-det.det) (λ i bits. valid.value bits i) c.in_ok-det.ensures.rule))

pub returns-clause-reads : goal.returns-clause-reads
returns-clause-reads c =
    let spots = spots_in c.args.frame.now c.args.slot in
    subst (λ det. ReadsAlone c.determinise.new.space (all_levels spots.letters) det) (sym c.complement.ensures.states)
    (turned-reads c.determinise.new.space (all_levels spots.letters) c.in_ok-det.det
    (reads-same c.determinise.new.space c.letters-2.result.now (all_levels spots.letters) c.letters-2.ensures.same c.in_ok-det.det c.in_ok-det.ensures.reads))
