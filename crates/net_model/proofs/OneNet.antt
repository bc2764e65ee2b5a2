-- Bytes stand for one network at most, and for one machine at most.
use Rattle.std.proofs.Common.{◌≡◌, ℕ, List, [], ◌∷◌, map, Some, sym, ◌∙◌, ap, refl}
use Rattle.net_model.specs.Nets.{Net}
use Rattle.net_model.specs.NetTexts.{net_said, StandsForNet}
use Rattle.net_model.specs.Machines.{Machine}
use Rattle.net_model.specs.KissTexts.{machine_said, StandsForMachine}

same_some : {T : Type 0} (text other : List T) → map Some text ≡ map Some other → text ≡ other
same_some [] [] h = refl
same_some [] (g ∷ other) h = cc
same_some (f ∷ text) [] h = cc
same_some (f ∷ text) (g ∷ other) h =
    let first : Some f ≡ Some g = cc in
    let same : f ≡ g = cc in
    let rest : map Some text ≡ map Some other = cc in
    λ i. same i ∷ same_some text other rest i

-- bytes stand for one network at most
pub one_net : (bytes : List ℕ) (net other : Net) → StandsForNet bytes net → StandsForNet bytes other → net ≡ other
one_net bytes net other h k =
    let same : h.text ≡ k.text = same_some h.text k.text (sym h.lines.lines ∙ k.lines.lines) in
    h.says ∙ (ap net_said same ∙ sym k.says)

-- bytes stand for one machine at most
pub one_machine : (bytes : List ℕ) (machine other : Machine) → StandsForMachine bytes machine → StandsForMachine bytes other → machine ≡ other
one_machine bytes machine other h k =
    let same : h.text ≡ k.text = same_some h.text k.text (sym h.lines ∙ k.lines) in
    h.says ∙ (ap machine_said same ∙ sym k.says)
