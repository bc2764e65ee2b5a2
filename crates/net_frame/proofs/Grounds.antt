-- What the scopes of a problem are, for its codes to be laid.
use Rattle.std.proofs.Common.{◌≡◌, ◌+◌, ◌<◌, ◌≤◌, ◌∙◌, ℕ, true, List, [], ◌∷◌, ◌++◌, length, get_or, Option, Some, None, refl, sym, ap, subst, arith}
use Rattle.std.specs.Prelude.{All, IfSome}
use Rattle.std.proofs.lemmas.Bool.{false≢true, lt-ltb}
use Rattle.std.proofs.lemmas.List.Elements.{All-weaker}
use Rattle.std.proofs.lemmas.List.{length-map}
use Rattle.name_table.specs.CodeBits.{bits_in}
use Rattle.name_table.specs.ScopeVars.{variable_at}
use Rattle.name_table.specs.Variables.{names_of, are_different}
use Rattle.net_model.specs.Words.{Scope}
use Rattle.net_model.specs.Equation.{Topology}
use Rattle.net_model.specs.NetLanguages.{letter_signals, letters_of}
use Rattle.net_model.specs.Outlines.{outline}
use Rattle.net_model.specs.Parts.{actions_of}
use Rattle.net_model.specs.Problems.{File, Problem, IsSoundFile, file_letters, file_refusal, first_refusal, IsBuilt}
use Rattle.net_model.specs.Topologies.{is_named, variable_named, joint_scope, joint_actions, acting, topology_by}
use Rattle.net_model.specs.declared.class.Mode.{Mode}
use Rattle.net_model.specs.declared.class.Mode.TheVariants.{Sync, Parallel}
use Rattle.mv_encoding.specs.Layouts.{Layout}
use Rattle.std.specs.Option.{option_map}
use Rattle.net_problem.specs.ProblemBits.{joint_bits, third_bits, file_bits}
use Rattle.net_model.proofs.Outlined.{outline-letters, file-wired}
use Rattle.net_problem.proofs.Joined.{joint_names_different, joint_few}
use Rattle.net_problem.proofs.NamesKnown.{known_named}
use Rattle.net_problem.proofs.Refused.{both_none}
use Rattle.net_problem.proofs.ScopesGood.{names_good}
use Rattle.net_frame.specs.Frames.{shared_by, joint_spots, joint_of, AreJoint}
use Rattle.net_frame.specs.Making.{added_bits, FileHasLetters, AreJointCodes}
use Rattle.net_frame.proofs.Among.{mapped-holds}
use Rattle.net_frame.proofs.Beside.{AreShared}
use Rattle.net_frame.proofs.JointLevels.{EndsBelow, joint-are-spots, joint-length, joint-has, joint-all-below, joint-none}
use Rattle.net_frame.proofs.JointNames.{x-same, x-counted}
use Rattle.net_frame.proofs.LetterSpots.{letters-few, letters-different}
use Rattle.net_frame.proofs.SharedNames.{joint-has-f, joint-has-s}

pub file-different : (file : File) → IsSoundFile file → are_different (names_of (file_letters file)) ≡ true
file-different file sound = subst (λ (letters : Scope). are_different (names_of letters) ≡ true) (outline-letters file) (letters-different (outline file) (file-wired file sound))

pub file-few : (file : File) → IsSoundFile file → length (file_letters file) ≤ 4096
file-few file sound =
    let few = letters-few (outline file) (file-wired file sound) in
    let size = length-map (letter_signals (outline file)) (variable_at (outline file).names) in
    let same = ap length (outline-letters file) in
    omega (arith, few, size, same)

-- letters that are joint variables have codes
pub joint-letters : (x : Scope) (first next : ℕ) (joint : Scope) (file : File) → AreJoint joint (file_letters file) → FileHasLetters Sync (joint_spots x first next joint) file
joint-letters x first next joint file are =
    λ i d within.
    let net = outline file in
    let are = subst (AreJoint joint) (sym (outline-letters file)) are in
    let one = mapped-holds (λ v. (is_named joint v.name ≡ true) × (variable_named joint v.name ≡ v)) (variable_at net.names) (letter_signals net) (letters_of net) refl are i d within in
    joint-has x first next joint (variable_at net.names (get_or (letter_signals net) i d)).name ∙ one.0

-- in parallel mode there is a joint variable
pub act-letters : (spots : List Layout) (file : File) → 0 < length spots → FileHasLetters Parallel spots file
act-letters spots file some = λ i d within. lt-ltb 0 (length spots) some

-- what is known of the joint variables and of X's
pub record Grounds (topology : Topology) : Type 0 where
  pub few : length topology.joint ≤ 16384
  pub x_few : bits_in topology.x ≤ joint_bits topology
  pub counted : bits_in topology.x + added_bits (shared_by topology.mode topology.x) topology.joint ≡ joint_bits topology
  pub shared : AreShared (shared_by topology.mode topology.x) topology.joint
  pub fits : bits_in (shared_by topology.mode topology.x) ≤ bits_in topology.x
  pub some : topology.mode ≡ Parallel → 0 < length topology.joint

none-shared : (joint : Scope) → AreShared [] joint
none-shared [] = tt
none-shared (v ∷ joint) = ((λ there. absurd (false≢true there)), none-shared joint)

sync-grounds : (f s : File) (ins outs : List (List ℕ)) → IsSoundFile f → IsSoundFile s → first_refusal Sync f s ins outs ≡ None → Grounds (topology_by Sync (file_letters f) (file_letters s) ins outs)
sync-grounds f s ins outs f_sound s_sound none =
    let joint = joint_scope (file_letters f) (file_letters s) in
    let apart = joint_names_different (file_letters f) (file_letters s) (file-different f f_sound) (file-different s s_sound) in
    let size = joint_few (file_letters f) (file_letters s) in
    let f_few = file-few f f_sound in
    let s_few = file-few s s_sound in
    let parts = both_none (file_refusal Sync f s) _ none in
    let good = names_good Sync (names_of joint) ins outs parts.1 in
    let named = known_named joint (ins ++ outs) good.0 in
    let counted = x-counted joint (ins ++ outs) apart named good.1 in
    record {
      few = omega (arith, size, f_few, s_few);
      x_few = omega (arith, counted);
      counted = counted;
      shared = x-same joint (ins ++ outs) apart named;
      fits = omega arith;
      some = λ is. cc;
    }

parallel-grounds : (f s : File) (ins outs : List (List ℕ)) → Grounds (topology_by Parallel (file_letters f) (file_letters s) ins outs)
parallel-grounds f s ins outs =
    let joint = acting (joint_actions (actions_of (file_letters f)) (actions_of (file_letters s))) in
    let none = joint-none joint in
    record {
      few = omega arith;
      x_few = omega arith;
      counted = omega (arith, none);
      shared = none-shared joint;
      fits = omega arith;
      some = λ is. omega arith;
    }

grounds-by : (mode : Mode) (f s : File) (ins outs : List (List ℕ)) → IsSoundFile f → IsSoundFile s → first_refusal mode f s ins outs ≡ None → Grounds (topology_by mode (file_letters f) (file_letters s) ins outs)
grounds-by Sync f s ins outs f_sound s_sound none = sync-grounds f s ins outs f_sound s_sound none
grounds-by Parallel f s ins outs f_sound s_sound none = parallel-grounds f s ins outs

pub grounds : (problem : Problem) → IsBuilt problem → Grounds problem.topology
grounds problem built =
    subst (λ (topology : Topology). Grounds topology) (sym (ap (λ (p : Problem). p.topology) built.scopes))
    (grounds-by problem.topology.mode problem.f problem.s built.ins built.outs built.f_sound built.s_sound built.accepted)

-- in synchronous mode the letters of F and S are joint variables
joint-by : (mode : Mode) (f s : File) (ins outs : List (List ℕ)) → mode ≡ Sync → IsSoundFile f → IsSoundFile s → first_refusal mode f s ins outs ≡ None → AreJoint (topology_by mode (file_letters f) (file_letters s) ins outs).joint (file_letters f) × AreJoint (topology_by mode (file_letters f) (file_letters s) ins outs).joint (file_letters s)
joint-by Sync f s ins outs is f_sound s_sound none =
    let parts = both_none (file_refusal Sync f s) _ none in
    (joint-has-f (file_letters f) (file_letters s) (file-different f f_sound), joint-has-s (file_letters f) (file_letters s) parts.0 (file-different s s_sound))
joint-by Parallel f s ins outs is f_sound s_sound none = cc

pub files-joint : (problem : Problem) → IsBuilt problem → problem.topology.mode ≡ Sync → AreJoint problem.topology.joint (file_letters problem.f) × AreJoint problem.topology.joint (file_letters problem.s)
files-joint problem built is =
    subst (λ (topology : Topology). AreJoint topology.joint (file_letters problem.f) × AreJoint topology.joint (file_letters problem.s)) (sym (ap (λ (p : Problem). p.topology) built.scopes))
    (joint-by problem.topology.mode problem.f problem.s built.ins built.outs is built.f_sound built.s_sound built.accepted)

-- the joint codes

module _ (topology : Topology) (first : ℕ) (ground : Grounds topology) where
  pub joint-ends : All (EndsBelow (first + joint_bits topology)) (joint_of topology first)
  joint-ends =
      joint-all-below (shared_by topology.mode topology.x) first (first + bits_in topology.x) (first + joint_bits topology) topology.joint ground.shared
      (omega (arith, ground.fits)) (omega (arith, ground.counted))

  pub joint-codes : first + joint_bits topology ≤ 8192 → AreJointCodes (joint_of topology first)
  joint-codes low =
      let x = shared_by topology.mode topology.x in
      let size = joint-length x first (first + bits_in topology.x) topology.joint in
      record {
        spots_are = joint-are-spots x first (first + bits_in topology.x) topology.joint;
        low = All-weaker (EndsBelow (first + joint_bits topology)) (λ spot. spot.first ≤ 8192) (λ spot ends. omega (arith, ends, low)) (joint_of topology first) joint-ends;
        few = omega (arith, size, ground.few);
      }

has-letters-by : (mode : Mode) (x : Scope) (first next : ℕ) (joint : Scope) (file : File) → (mode ≡ Sync → AreJoint joint (file_letters file)) → (mode ≡ Parallel → 0 < length joint) → FileHasLetters mode (joint_spots x first next joint) file
has-letters-by Sync x first next joint file are some = joint-letters x first next joint file (are refl)
has-letters-by Parallel x first next joint file are some =
    let size = joint-length x first next joint in
    let one = some refl in
    act-letters (joint_spots x first next joint) file (omega (arith, size, one))

pub has-letters : (topology : Topology) (first : ℕ) → Grounds topology → (file : File) → (topology.mode ≡ Sync → AreJoint topology.joint (file_letters file)) → FileHasLetters topology.mode (joint_of topology first) file
has-letters topology first ground file are = has-letters-by topology.mode (shared_by topology.mode topology.x) first (first + bits_in topology.x) topology.joint file are ground.some

pub carried : (m n : Mode) (spots others : List Layout) (file same : File) → m ≡ n → spots ≡ others → file ≡ same → FileHasLetters n others same → FileHasLetters m spots file
carried m n spots others file same mode codes is has =
    subst (λ (k : Mode). FileHasLetters k spots file) (sym mode)
    (subst (λ (ls : List Layout). FileHasLetters n ls file) (sym codes)
    (subst (λ (f : File). FileHasLetters n others f) (sym is) has))

module _ {X : Type 0} (of : X → File) where
  pub map-fused : {Y : Type 0} (g : File → Y) (third : Option X) → option_map (λ x. g (of x)) third ≡ option_map g (option_map of third)
  map-fused g None = refl
  map-fused g (Some x) = refl

  -- a third file can be laid from this level on
  pub third-fits : (topology : Topology) (first level : ℕ) (m : Mode) (spots : List Layout) (third : Option X) → Grounds topology → m ≡ topology.mode → spots ≡ joint_of topology first → IfSome (option_map of third) IsSoundFile → (topology.mode ≡ Sync → IfSome (option_map of third) (λ file. AreJoint topology.joint (file_letters file))) → level + third_bits (option_map of third) ≤ 8192 → IfSome third (λ x. IsSoundFile (of x) × FileHasLetters m spots (of x) × (level + file_bits (of x) ≤ 8192))
  third-fits topology first level m spots None ground mode codes sound joint room = tt
  third-fits topology first level m spots (Some x) ground mode codes sound joint room =
      (sound, carried m topology.mode spots (joint_of topology first) (of x) (of x) mode codes refl (has-letters topology first ground (of x) joint), room)
