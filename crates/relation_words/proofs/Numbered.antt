-- A machine has the same words where its states are told as lists of one number.
use Rattle.std.proofs.Common.{◌≡◌, ◌↔◌, ℕ, List, [], ◌∷◌, get_or, refl, sym, ◌∙◌, ap, subst}
use Rattle.net_model.specs.Words.{Letter, Word}
use Rattle.net_model.specs.Automata.{RunsFrom, LanguageOf}
use Rattle.net_model.specs.Machines.{Machine, MachineSteps, MachineWords}
use Rattle.net_model.specs.Files.{File, NetFile, MachineFile, FileWords}
use Rattle.net_relation.specs.Relations.{MovesOf, StepsOf, IsInitialOf, IsAcceptingOf}

module _ (machine : Machine) where
  run-of-lists : (word : Word) (q : ℕ) → RunsFrom (MovesOf machine) (λ s. Unit {0}) (q ∷ []) word → RunsFrom (MachineSteps machine) (λ s. Unit {0}) q word
  run-of-lists [] q run = tt
  run-of-lists (a ∷ word) q (r, move, run) =
      let from : q ≡ move.from = ap (λ l. get_or l 0 0) move.from_is in
      let step = subst (λ (p : ℕ). MachineSteps machine p a move.to) (sym from) move.step in
      (move.to, step, run-of-lists word move.to (subst (λ (s : List ℕ). RunsFrom (MovesOf machine) (λ s. Unit {0}) s word) move.to_is run))

  run-of-numbers : (word : Word) (q : ℕ) → RunsFrom (MachineSteps machine) (λ s. Unit {0}) q word → RunsFrom (MovesOf machine) (λ s. Unit {0}) (q ∷ []) word
  run-of-numbers [] q run = tt
  run-of-numbers (a ∷ word) q (r, step, run) =
      (r ∷ [], record { from = q; to = r; from_is = refl; to_is = refl; step = step }, run-of-numbers word r run)

pub file-language : (file : File) (word : Word) → LanguageOf (IsInitialOf file) (StepsOf file) (IsAcceptingOf file) word ↔ FileWords file word
file-language (NetFile net) word = (λ h. h, λ h. h)
file-language (MachineFile machine) word = (
  λ (q, initial, run). (machine.reset, refl, run-of-lists machine word machine.reset (subst (λ (s : List ℕ). RunsFrom (MovesOf machine) (λ s. Unit {0}) s word) initial run)),
  λ (q, initial, run). (machine.reset ∷ [], refl, run-of-numbers machine word machine.reset (subst (λ (s : ℕ). RunsFrom (MachineSteps machine) (λ s. Unit {0}) s word) initial run)),
)
