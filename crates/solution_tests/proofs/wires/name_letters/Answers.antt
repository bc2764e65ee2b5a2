use Rattle.std.proofs.Common.{◌≡◌, sym, ap, subst}
use Rattle.net_model.specs.Words.{Scope}
use Rattle.net_frame.specs.Frames.{Frame}
use Rattle.aut_format.specs.Rows.{HaveTextNames}
use Rattle.solution_text.proofs.GoodNames.{problem_names}
use Rattle.solution_tests.proofs.wires.name_letters.Goals as goal

pub returns : goal.returns
returns c =
    subst (λ (scope : Scope). HaveTextNames scope) (sym (ap (λ (f : Frame). f.x.scope) c.requires.fits.is))
    (problem_names c.args.problem.now c.mode-mode.ensures.built c.requires.sync)
