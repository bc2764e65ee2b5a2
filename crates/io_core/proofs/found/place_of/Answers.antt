use Rattle.std.proofs.Common.{rules, tests, ◌∙◌, string_bytes}
use Rattle.std.specs.Str.{bytes_eq}
use Rattle.std.proofs.lemmas.Iterator.{YieldsList-from_slice}
use Rattle.std.proofs.lemmas.Iterator.Search.{position_from_yields_List}
use Rattle.io_core.proofs.Places.{place_from_search}
use Rattle.io_core.proofs.found.place_of.Goals as goal

pub returns-clause-place : goal.returns-clause-place
returns-clause-place c =
    let files = c.args.files.now in
    let name = c.args.name.now in
    let found = position_from_yields_List (λ f. bytes_eq name (string_bytes f.0)) _ _ c.position.result c.position.ensures.ran (YieldsList-from_slice files cc) (λ x b q k. search (rules, tests)) in
    c.unwrap_or.ensures ∙ place_from_search files name c.position.result found
