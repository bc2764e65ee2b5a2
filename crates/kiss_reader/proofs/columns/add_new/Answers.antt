use Rattle.std.proofs.Common.{◌≡◌, rules}
use Rattle.kiss_reader.proofs.Columned.{added_joined}
use Rattle.kiss_reader.proofs.columns.add_new.Goals as goal

pub returns : goal.returns
returns c =
    let same : c.in_ok-to_vec.field-0.items ≡ c.args.name.now = search rules in
    added_joined c.args.names.now c.add.new.self c.args.name.now c.in_ok-to_vec.field-0.items c.in_ok-new.new c.requires same
    c.in_ok-new.ensures.is_new c.in_ok-new.ensures.added
