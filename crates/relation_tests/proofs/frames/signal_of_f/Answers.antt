use Rattle.std.proofs.Common.{◌≡◌, ◌<◌, ℕ, List, length, get_or, sym, subst}
use Rattle.std.specs.Prelude.{All}
use Rattle.mv_encoding.specs.Layouts.{Layout, IsLaid}
use Rattle.mv_encoding.specs.Spots.{IsSpot}
use Rattle.relation_tests.proofs.frames.signal_of_f.Goals as goal

holds-at : (P : Layout → Type 0) (spots : List Layout) (k : ℕ) (spot : Layout) → spot ≡ get_or spots k spot → k < length spots → All P spots → P spot
holds-at P spots k spot is within all = subst P (sym is) (all k spot within)

pub returns-then-signal-codes : goal.returns-then-signal-codes
returns-then-signal-codes c =
    let spots = c.signals_of_f-codes.result.now in
    let Laid : Layout → Type 0 = λ spot. IsLaid spot c.args.space.now in (
      holds-at IsSpot spots c.args.signal c.index-codes-signal.result c.index-codes-signal.is c.if-signal-codes.true c.signals_of_f-codes.ensures.spots,
      holds-at Laid spots c.args.signal c.index-codes-signal.result c.index-codes-signal.is c.if-signal-codes.true c.signals_of_f-codes.ensures.laid,
    )
