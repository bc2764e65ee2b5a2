use Rattle.std.proofs.Common.{sym, ap, subst, arith}
use Rattle.std.specs.Option.{option_map}
use Rattle.node_table.specs.Table.{Table}
use Rattle.net_model.specs.Problems.{file_of}
use Rattle.net_frame.specs.Frames as frames
use Rattle.net_frame.specs.Frames.{FitsProblem}
use Rattle.net_frame.proofs.Fitting.{fits}
use Rattle.net_frame.proofs.frame.Frame.of.Goals as goal

pub returns-clause-fits : goal.returns-clause-fits
returns-clause-fits c =
    let t = c.push_levels.new.self in
    let levels = ap (λ (table : Table). table.levels) c.push_levels.ensures.levels in
    subst (λ (frame : frames.Frame). FitsProblem c.push_levels.new.self c.args.problem.now (option_map (λ file. file_of file.now) c.args.third) frame) (sym c.in_ok-frame.ensures.is)
    (fits c.push_levels.new.self c.levels-first.result c.args.problem.now (option_map (λ file. file_of file.now) c.args.third) c.in_ok-frame.ensures.built c.requires.third
    (omega (arith, levels, c.levels-first.ensures.levels, c.bits-bits.ensures.bits)))
