-- The letters that bits spell in a frame.
use Rattle.std.proofs.Common.{◌≡◌, ◌+◌, ◌∙◌, ℕ, true, false, List, [], ◌∷◌, ◌++◌, map, Option, None, refl, sym, ap, subst, arith}
use Rattle.std.specs.List.{list_all, AllByRecursion}
use Rattle.std.proofs.lemmas.Bool.{and_parts}
use Rattle.name_table.specs.CodeBits.{bits_in}
use Rattle.name_table.specs.Variables.{names_of, are_different}
use Rattle.node_table.specs.Table.{Table}
use Rattle.mv_encoding.specs.Spots.{spelled}
use Rattle.mv_encoding.proofs.Apart.{written}
use Rattle.mv_encoding.proofs.Letters.{one-code}
use Rattle.net_model.specs.Words.{Scope, IsLetter}
use Rattle.net_model.specs.Parts.{value_of}
use Rattle.net_model.specs.Equation.{Topology}
use Rattle.net_model.specs.Topologies.{is_named, variable_named, joint_scope, topology_by}
use Rattle.net_model.specs.Problems.{File, Problem, IsSoundFile, file_letters, file_refusal, first_refusal, IsBuilt}
use Rattle.net_model.specs.declared.class.Mode.{Mode}
use Rattle.net_model.specs.declared.class.Mode.TheVariants.{Sync, Parallel}
use Rattle.net_problem.specs.ProblemBits.{file_bits, joint_bits}
use Rattle.net_problem.proofs.Joined.{joint_names_different}
use Rattle.net_problem.proofs.NamesKnown.{known_named}
use Rattle.net_problem.proofs.Refused.{both_none}
use Rattle.net_problem.proofs.ScopesGood.{names_good, named_so}
use Rattle.net_frame.specs.Placing.{FileSpots}
use Rattle.net_frame.specs.Frames.{Frame, AreJoint, FitsProblem, file_spots, joint_spots, joint_of, frame_of}
use Rattle.net_frame.proofs.Grounds.{Grounds, file-different, grounds, files-joint}
use Rattle.net_frame.proofs.JointLevels.{joint-are-spots}
use Rattle.frame_words.specs.Letters.{SpellsParts}
use Rattle.frame_words.proofs.Parted.{file-part, joint-variables, joint-part, both-letters, part-letter, joint-apart, x-part}

-- X's variables have the names that were given, and are joint ones
names-given : (joint : Scope) (names : List (List ℕ)) → list_all (is_named joint) names ≡ true → names_of (map (variable_named joint) names) ≡ names
names-given joint [] all = refl
names-given joint (n ∷ names) all =
    let parts = and_parts (is_named joint n) (list_all (is_named joint) names) all in
    let here = named_so joint n parts.0 in
    let rest = names-given joint names parts.1 in
    λ i. here i ∷ rest i

given-named : (joint : Scope) (names : List (List ℕ)) → list_all (is_named joint) names ≡ true → AllByRecursion (λ v. is_named joint v.name ≡ true) (map (variable_named joint) names)
given-named joint [] all = tt
given-named joint (n ∷ names) all =
    let parts = and_parts (is_named joint n) (list_all (is_named joint) names) all in
    (ap (is_named joint) (named_so joint n parts.0) ∙ parts.0, given-named joint names parts.1)

-- a frame on these levels, for a third file that has these codes
abbrev frame_on : Topology → ℕ → ℕ → ℕ → File → File → Option FileSpots → Frame
frame_on topology first start level f s third = record {
  mode = topology.mode;
  x = record { scope = topology.x; first = first };
  joint = joint_of topology first;
  f = file_spots topology.mode (joint_of topology first) start f;
  s = file_spots topology.mode (joint_of topology first) level s;
  third = third;
}

sync-spells : (f s : File) (ins outs : List (List ℕ)) (first start level : ℕ) (third : Option FileSpots) → IsSoundFile f → IsSoundFile s → first_refusal Sync f s ins outs ≡ None
    → Grounds (topology_by Sync (file_letters f) (file_letters s) ins outs) → AreJoint (joint_scope (file_letters f) (file_letters s)) (file_letters s)
    → SpellsParts (topology_by Sync (file_letters f) (file_letters s) ins outs) (frame_on (topology_by Sync (file_letters f) (file_letters s) ins outs) first start level f s third)
sync-spells f s ins outs first start level third f_sound s_sound none ground s_joint =
    let joint = joint_scope (file_letters f) (file_letters s) in
    let x = map (variable_named joint) (ins ++ outs) in
    let next = first + bits_in x in
    let spots = joint_spots x first next joint in
    let different = joint_names_different (file_letters f) (file_letters s) (file-different f f_sound) (file-different s s_sound) in
    let parts = both_none (file_refusal Sync f s) _ none in
    let good = names_good Sync (names_of joint) ins outs parts.1 in
    let named = known_named joint (ins ++ outs) good.0 in
    let x_different : are_different (names_of x) ≡ true = ap are_different (names-given joint (ins ++ outs) named) ∙ good.1 in
    record {
      f_part = λ bits. file-part x first next joint start f bits;
      s_part = λ bits. file-part x first next joint level s bits;
      x_part = λ bits. x-part x first next joint ground.shared (omega arith) x_different (given-named joint (ins ++ outs) named) bits;
      is_joint = λ bits of_f of_s.
          let letter = spelled spots bits in
          subst (IsLetter joint) (sym (joint-part x first next joint bits different))
          (both-letters (value_of joint letter) (file_letters f) (file_letters s)
          (subst (IsLetter (file_letters f)) (file-part x first next joint start f bits) of_f)
          (subst (IsLetter (file_letters s)) (file-part x first next joint level s bits) of_s));
      is_s = λ bits of_joint.
          subst (IsLetter (file_letters s)) (sym (file-part x first next joint level s bits))
          (part-letter joint (file_letters s) (spelled spots bits) of_joint s_joint);
      codes = λ letter is.
          let code = written spots (joint-are-spots x first next joint) (joint-apart x first next joint ground.shared (omega arith) different) letter
          (subst (λ (scope : Scope). IsLetter scope letter) (sym (joint-variables x first next joint)) is) (λ k. false) in
          (code.0, code.1);
      x_code = λ u v same. (one-code x first u v).0 same;
    }

by-mode : (mode : Mode) (f s : File) (ins outs : List (List ℕ)) (first start level : ℕ) (third : Option FileSpots) → mode ≡ Sync → IsSoundFile f → IsSoundFile s → first_refusal mode f s ins outs ≡ None
    → Grounds (topology_by mode (file_letters f) (file_letters s) ins outs) → AreJoint (topology_by mode (file_letters f) (file_letters s) ins outs).joint (file_letters s)
    → SpellsParts (topology_by mode (file_letters f) (file_letters s) ins outs) (frame_on (topology_by mode (file_letters f) (file_letters s) ins outs) first start level f s third)
by-mode Sync f s ins outs first start level third sync f_sound s_sound none ground s_joint = sync-spells f s ins outs first start level third f_sound s_sound none ground s_joint
by-mode Parallel f s ins outs first start level third sync f_sound s_sound none ground s_joint = cc

pub spells-parts : (t : Table) (problem : Problem) (third : Option File) (frame : Frame) → IsBuilt problem → problem.topology.mode ≡ Sync → FitsProblem t problem third frame → SpellsParts problem.topology frame
spells-parts t problem third frame built sync fits =
    let mode = problem.topology.mode in
    let made = topology_by problem.topology.mode (file_letters problem.f) (file_letters problem.s) built.ins built.outs in
    let is : problem.topology ≡ made = ap (λ (p : Problem). p.topology) built.scopes in
    let first = fits.first in
    let start = first + joint_bits problem.topology in
    let level = first + joint_bits problem.topology + file_bits problem.f in
    let codes = (frame_of first problem third).third in
    subst (λ (other : Frame). SpellsParts problem.topology other) (sym fits.is)
    (subst (λ (other : Topology). SpellsParts other (frame_on other first start level problem.f problem.s codes)) (sym is)
    (by-mode mode problem.f problem.s built.ins built.outs first start level codes sync built.f_sound built.s_sound built.accepted
    (subst (λ (other : Topology). Grounds other) is (grounds problem built))
    (subst (λ (other : Topology). AreJoint other.joint (file_letters problem.s)) is (files-joint problem built sync).1)))
