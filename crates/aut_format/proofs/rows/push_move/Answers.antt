use Rattle.std.proofs.Common.{◌++◌, List, map, ap}
use Rattle.std.specs.List.{flat_map}
use Rattle.net_model.specs.Printed.{line_bytes, row_line}
use Rattle.bdd_walk.specs.Paths.{Path, path_of}
use Rattle.aut_format.specs.Rows.{row_along}
use Rattle.aut_format.proofs.Parts.{all-rise, first-rises}
use Rattle.aut_format.proofs.rows.push_move.Goals as goal

pub loop-path-init : goal.loop-path-init
loop-path-init c = record {
  rising = all-rise c.in_ok-paths.paths c.in_ok-paths.ensures.meaning.rising;
  written = ap (λ (paths : List Path). c.args.text.now.items ++ flat_map line_bytes (map (row_line c.args.coding.now.scope) (map (row_along c.args.coding.now c.args.present c.args.m.now.target) paths))) c.in_ok-paths.ensures.paths;
}

pub push_row-requires : goal.push_row-requires
push_row-requires c = first-rises c.loop-path.paths (path_of c.in-Some.path.now) c.loop-path.invariant.rising c.in-Some.ensures.path
