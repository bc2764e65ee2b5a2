use Rattle.sync_solve.proofs.Composed.{both-are}
use Rattle.sync_solve.proofs.composing.beside.Goals as goal

pub returns-clause-ok : goal.returns-clause-ok
returns-clause-ok c =
    both-are c.args.space.now c.and.new.space c.and-2.new.space c.args.first c.args.second.now c.append.new.parts c.in_ok-init.init c.in_ok-acc.acc
    c.requires.first c.requires.second c.and.ensures.grows c.and-2.ensures.grows c.in_ok-init.ensures.ok c.in_ok-acc.ensures.ok c.in_ok-append.ensures.ok
