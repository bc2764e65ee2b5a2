use Rattle.std.proofs.Common.{ap, codes, ◌∙◌}
use Rattle.std.specs.Str.{bytes_eq}
use Rattle.net_conditions.proofs.Tabled.{Decides-named, Decides-unnamed}
use Rattle.net_conditions.proofs.acceptance.is_named_acc.Goals as goal

pub returns-in-Some : goal.returns-in-Some
returns-in-Some c =
    Decides-named c.args.names.now c.args.signal.0 c.in-Some.name.now (codes "Acc") c.eq.result c.in-Some.ensures
    (c.eq.ensures ∙ ap (bytes_eq c.in-Some.name.now) c.as_slice.ensures)

pub returns-in-None : goal.returns-in-None
returns-in-None c = Decides-unnamed c.args.names.now c.args.signal.0 c.in-None.ensures
