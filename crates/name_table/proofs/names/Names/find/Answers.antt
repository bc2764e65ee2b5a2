use Rattle.std.proofs.Common.{◌∙◌, ap}
use Rattle.name_table.specs.Variables.{names_of, place_of}
use Rattle.name_table.proofs.Shown.{place_of_entries}
use Rattle.name_table.proofs.names.Names.find.Goals as goal

pub returns-in-Some : goal.returns-in-Some
returns-in-Some c =
    c.in-Some.ensures.index
    ∙ (place_of_entries c.self.inside.table.entries (λ n. n.items) c.args.name.now
    ∙ ap (λ vars. place_of (names_of vars) c.args.name.now) c.self.view_is)

pub returns-in-None : goal.returns-in-None
returns-in-None c =
    c.in-None.ensures.index
    ∙ (place_of_entries c.self.inside.table.entries (λ n. n.items) c.args.name.now
    ∙ ap (λ vars. place_of (names_of vars) c.args.name.now) c.self.view_is)
