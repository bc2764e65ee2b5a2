use Rattle.std.proofs.Common.{sym, subst}
use Rattle.node_table.specs.Table.{Table}
use Rattle.mv_encoding.specs.Spots.{AreSpots, AreLaid}
use Rattle.net_model.specs.Outlines.{outline}
use Rattle.net_model.specs.Problems.{File}
use Rattle.net_frame.specs.Placing.{FileSpots}
use Rattle.net_frame.specs.Frames.{IsFilePlaced}
use Rattle.net_relation.proofs.Spelled.{spots-of}
use Rattle.relation_tests.proofs.frames.signals_of_f.Goals as goal

signals-placed : (t : Table) (file : File) (spots : FileSpots) → IsFilePlaced t file spots → AreSpots spots.signals × AreLaid t spots.signals
signals-placed t file spots is = ((spots-of spots.signals (outline file).names is.signals).0, is.signals_laid)

pub returns-clause-spots : goal.returns-clause-spots
returns-clause-spots c =
    let both = signals-placed c.args.space.now c.args.problem.now.f c.args.frame.now.f (c.requires.fits.f c.requires.sync) in
    subst AreSpots (sym c.signal_codings.ensures) both.0

pub returns-clause-laid : goal.returns-clause-laid
returns-clause-laid c =
    let both = signals-placed c.args.space.now c.args.problem.now.f c.args.frame.now.f (c.requires.fits.f c.requires.sync) in
    subst (AreLaid c.args.space.now) (sym c.signal_codings.ensures) both.1
