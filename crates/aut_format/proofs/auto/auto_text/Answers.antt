use Rattle.std.proofs.Common.{◌≡◌, ◌++◌, ◌∷◌, [], length, map, codes, ap, sym, ◌∙◌}
use Rattle.std.proofs.lemmas.List.{length-map}
use Rattle.net_model.specs.Printed.{line_bytes, states_line}
use Rattle.det_core.specs.Automata.{State}
use Rattle.aut_format.specs.Rows.{listing_of_det}
use Rattle.aut_format.proofs.Written.{auto_written}
use Rattle.aut_format.proofs.auto.auto_text.Goals as goal

pub returns : goal.returns
returns c =
    let det = c.args.det.now in
    let count : c.states.result ≡ length (map (λ (s : State). s.accepting) det) = c.states.ensures.states ∙ sym (length-map det (λ (s : State). s.accepting)) in
    let model = c.in_ok-push_model.ensures ∙ ap (λ t. t ++ line_bytes (codes ".model" ∷ c.args.name.now ∷ [])) c.new-text.ensures.items in
    let inputs = rw c.scope-scope.ensures at c.in_ok-push_inputs.ensures in
    let domains = rw c.scope-scope.ensures at c.in_ok-push_domains.ensures in
    let states = c.in_ok-push_states_line.ensures ∙ ap (λ n. c.push_domains.new.text.items ++ line_bytes (states_line n)) count in
    let table = rw c.scope-scope.ensures at c.in_ok-push_table_head.ensures in
    auto_written c.args.name.now (listing_of_det c.args.space.now c.args.coding.now det) _ _ _ _ _ _ _ _ _ _ model inputs c.in_ok-extend_from_slice.ensures.items domains states c.in_ok-extend_from_slice-2.ensures.items c.in_ok-push_marks.ensures table c.in_ok-push_rows.ensures c.in_ok-extend_from_slice-3.ensures.items
