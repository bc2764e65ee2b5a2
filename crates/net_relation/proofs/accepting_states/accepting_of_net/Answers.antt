use Rattle.std.proofs.Common.{◌≡◌, ◌∙◌, ℕ, List, Option, Some, None, MatchOption, ap, sym, subst}
use Rattle.std.specs.Option.{option_map}
use Rattle.std.proofs.lemmas.Result.{IfOk-weaker}
use Rattle.node_table.specs.Table.{Table as Nodes}
use Rattle.mv_encoding.specs.Layouts.{Layout}
use Rattle.mv_encoding.specs.Spots.{StandsForValues}
use Rattle.net_model.specs.Nets.{Net, net_of}
use Rattle.net_model.specs.NetLanguages.{IsAccepting}
use Rattle.net_frame.specs.Frames.{spots_in}
use Rattle.net_relation.proofs.PlacedNet as placed-net
use Rattle.net_relation.proofs.StateSets.{told-as}
use Rattle.net_relation.proofs.accepting_states.accepting_of_net.Goals as goal

none-some : (x : ℕ) → None ≡ Some x → ⊥
none-some x e = let P : Option ℕ → Type 0 = λ o. MatchOption o (Unit {0}) (λ y. ⊥) in subst P e tt

pub accepting_by-requires-clause-acc : goal.accepting_by-requires-clause-acc
accepting_by-requires-clause-acc c = (c.accepting_signal.ensures c.in-Some.signal.0).0 (ap (option_map (λ v. v.0)) c.in-Some.is)

pub all_states-requires-clause-spots : goal.all_states-requires-clause-spots
all_states-requires-clause-spots c = placed-net.present-are c.args.space.now (net_of c.args.net.now) (spots_in c.args.frame.now c.args.slot) c.requires.sound c.requires.placed

pub all_states-requires-clause-laid : goal.all_states-requires-clause-laid
all_states-requires-clause-laid c = placed-net.present-laid c.args.space.now (net_of c.args.net.now) (spots_in c.args.frame.now c.args.slot) c.requires.sound c.requires.placed

pub returns-in-None-clause-states : goal.returns-in-None-clause-states
returns-in-None-clause-states c =
    let new : Nodes = c.all_states.new.space in
    let net : Net = net_of c.args.net.now in
    let present : List Layout = (spots_in c.args.frame.now c.args.slot).present in
    IfOk-weaker c.all_states.result (λ r. StandsForValues new present r (λ q. Unit {0})) (λ r. StandsForValues new present r (IsAccepting net))
    (λ r set. told-as new present r (λ q. Unit {0}) (IsAccepting net)
    (λ q any signal automaton. absurd (none-some signal (ap (option_map (λ v. v.0)) (sym c.in-None.is) ∙ (c.accepting_signal.ensures signal).1 automaton)))
    (λ q is. tt) set)
    c.all_states.ensures.states
