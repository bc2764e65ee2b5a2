use Rattle.std.proofs.Common.{rules, ◌≡◌, ◌++◌, [], ◌∷◌, length, map, sym, ◌∙◌, ap, arith}
use Rattle.std.proofs.lemmas.List.{length-map}
use Rattle.name_table.specs.Variables.{are_different, is_in, place_of}
use Rattle.name_table.proofs.Apart.{different_push}
use Rattle.name_table.proofs.Ordered.{found_push}
use Rattle.name_table.proofs.Shown.{map_push}
use Rattle.name_table.proofs.name_set.NameSet.push_new.Goals as goal

pub invariant_of-self-in-Ok : goal.invariant_of-self-in-Ok
invariant_of-self-in-Ok c =
    let after : map (λ n. n.items) c.push.new.self.items ≡ map (λ n. n.items) c.self.inside.names.items ++ c.args.name.items ∷ [] =
    ap (λ names. map (λ n. n.items) names) c.in_ok-push.ensures.items ∙ map_push c.self.inside.names.items (λ n. n.items) c.args.name in
    let fresh = ap (λ names. is_in names c.args.name.items) c.self.view_is ∙ c.requires in
    let key : c.in_ok-key.key.items ≡ c.args.name.items = search rules in
    let last : c.len-place.result ≡ length (map (λ n. n.items) c.self.inside.names.items) = omega (arith, length-map c.self.inside.names.items (λ n. n.items), c.len-place.ensures, c.self.inside.names.ok) in (
      ap are_different after ∙ different_push (map (λ n. n.items) c.self.inside.names.items) c.args.name.items c.self.invariant.0 fresh,
      λ q.
          found_push (λ n. n.items) c.self.inside.places.entries c.insert.new.self.entries c.in_ok-key.key c.len-place.result (map (λ n. n.items) c.self.inside.names.items) c.args.name.items
          c.in-Ok.ensures.entries key last fresh c.self.invariant.1 q
          ∙ ap (λ names. place_of names q) (sym after),
    )
