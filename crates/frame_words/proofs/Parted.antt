-- The parts of the joint letter that bits spell.
use Rattle.std.proofs.Common.{◌≡◌, ◌+◌, ◌<◌, ◌≤◌, ◌||◌, ◌∙◌, ℕ, Bool, true, false, not, cond, List, [], ◌∷◌, map, length, refl, sym, ap, subst, arith}
use Rattle.std.specs.Prelude.{filter}
use Rattle.std.specs.List.{list_any, AllByRecursion, AllPairs}
use Rattle.std.specs.Str.{bytes_eq}
use Rattle.std.proofs.lemmas.Bool.{false≢true, and_parts, or_parts}
use Rattle.std.proofs.lemmas.List.{append-nil}
use Rattle.std.proofs.lemmas.List.Elements.{All-append, All-filter, All-map, All-from_recursion, recursion_from_All}
use Rattle.std.proofs.lemmas.Slice.Eq.{bytes_eq-Decides}
use Rattle.name_table.specs.CodeBits.{bits_of, bits_in}
use Rattle.name_table.specs.ScopeVars.{variable_at}
use Rattle.name_table.specs.Variables.{Variable, names_of, are_different}
use Rattle.name_table.proofs.Apart.{not_true}
use Rattle.node_table.specs.Table.{Bits}
use Rattle.mv_encoding.specs.Layouts.{Layout, number_at, numbers_at, number_of}
use Rattle.mv_encoding.specs.Spots.{IsSpot, AreApart, spelled, variables_at}
use Rattle.mv_encoding.proofs.Apart.{one-number}
use Rattle.net_model.specs.Words.{Scope, Letter, IsLetter}
use Rattle.net_model.specs.Parts.{value_of, letter_part}
use Rattle.net_model.specs.Topologies.{is_named, variable_named, joint_scope}
use Rattle.net_model.specs.NetLanguages.{letter_signals}
use Rattle.net_model.specs.Outlines.{outline}
use Rattle.net_model.proofs.Outlined.{outline-letters}
use Rattle.net_model.specs.Problems.{File, file_letters}
use Rattle.net_model.specs.declared.class.Mode.TheVariants.{Sync}
use Rattle.net_frame.specs.Frames.{level_in, joint_spot, added, joint_spots, spot_named, file_spots, AreJoint}
use Rattle.net_frame.proofs.Among.{map-map, each-weaker}
use Rattle.net_frame.proofs.Beside.{AreShared, apart-beside, joint-beside, stands-named}
use Rattle.net_frame.proofs.JointLevels.{joint-scope, joint-are-spots, joint-has}
use Rattle.net_frame.proofs.LetterSpots.{letters-are}
use Rattle.net_frame.proofs.Pairwise.{pairs-nil, pairs-cons}
use Rattle.net_frame.proofs.SharedNames.{joint-has-f}
use Rattle.frame_words.proofs.Named.{holds-named}

-- the number at the code of a name is the value that the joint letter gives to the name
pub number-named : (x : Scope) (first next : ℕ) (joint : Scope) (bits : Bits) (name : List ℕ) → number_of (spot_named (joint_spots x first next joint) name) 0 bits ≡ value_of joint (spelled (joint_spots x first next joint) bits) name
number-named x first next [] bits name = refl
number-named x first next (v ∷ joint) bits name =
    let spot = joint_spot x first next v in
    let spots = joint_spots x first (next + added x v) joint in
    let test : bytes_eq (variable_at spot.scope 0).name name ≡ bytes_eq v.name name = ap (λ vars. bytes_eq (variable_at vars 0).name name) (joint-scope x first next v) in
    let rest = number-named x first (next + added x v) joint bits name in
    subst (λ (b : Bool). number_of (cond b spot (spot_named spots name)) 0 bits ≡ cond (bytes_eq v.name name) (number_of spot 0 bits) (value_of joint (spelled spots bits) name)) (sym test)
    (elim (bytes_eq v.name name) as (λ b. number_of (cond b spot (spot_named spots name)) 0 bits ≡ cond b (number_of spot 0 bits) (value_of joint (spelled spots bits) name))
    [ true ↦ refl | false ↦ rest ])

-- what the bits spell at the letters of a file
pub file-part : (x : Scope) (first next : ℕ) (joint : Scope) (level : ℕ) (file : File) (bits : Bits) → spelled (file_spots Sync (joint_spots x first next joint) level file).letters bits ≡ letter_part joint (file_letters file) (spelled (joint_spots x first next joint) bits)
file-part x first next joint level file bits =
    let net = outline file in
    let spots = joint_spots x first next joint in
    let named : ℕ → Layout = λ signal. spot_named spots (variable_at net.names signal).name in
    ap (λ letters. spelled letters bits) (sym (letters-are Sync spots net level))
    ∙ map-map (λ (spot : Layout). number_of spot 0 bits) named (letter_signals net)
    ∙ (λ i. map (λ signal. number-named x first next joint bits (variable_at net.names signal).name i) (letter_signals net))
    ∙ sym (map-map (λ (v : Variable). value_of joint (spelled spots bits) v.name) (variable_at net.names) (letter_signals net))
    ∙ ap (λ letters. letter_part joint letters (spelled spots bits)) (outline-letters file)

-- each variable of a scope is the one of its name there
pub own-joint : (vars : Scope) → are_different (names_of vars) ≡ true → AreJoint vars vars
own-joint vars different = subst (λ (joint : Scope). AreJoint joint vars) (append-nil vars) (joint-has-f vars [] different)

-- by names, of variables that have no name of this one

names-past : (spot : Layout) (spots : List Layout) (v : Variable) (vars : Scope) → (variable_at spot.scope 0 ≡ v) → list_any (bytes_eq v.name) (names_of vars) ≡ false → map (λ w. spot_named (spot ∷ spots) w.name) vars ≡ map (λ w. spot_named spots w.name) vars
names-past spot spots v [] is none = refl
names-past spot spots v (w ∷ vars) is none =
    let parts = or_parts (bytes_eq v.name w.name) (list_any (bytes_eq v.name) (names_of vars)) none in
    let here : spot_named (spot ∷ spots) w.name ≡ spot_named spots w.name = ap (λ b. cond b spot (spot_named spots w.name)) (ap (λ (u : Variable). bytes_eq u.name w.name) is ∙ parts.0) in
    let rest = names-past spot spots v vars is parts.1 in
    λ i. here i ∷ rest i

-- the joint codes are those of the joint names
pub spots-named : (x : Scope) (first next : ℕ) (joint : Scope) → are_different (names_of joint) ≡ true → joint_spots x first next joint ≡ map (λ v. spot_named (joint_spots x first next joint) v.name) joint
spots-named x first next [] different = refl
spots-named x first next (v ∷ joint) different =
    let parts = and_parts (not (list_any (bytes_eq v.name) (names_of joint))) (are_different (names_of joint)) different in
    let spot = joint_spot x first next v in
    let spots = joint_spots x first (next + added x v) joint in
    let is : variable_at spot.scope 0 ≡ v = ap (λ vars. variable_at vars 0) (joint-scope x first next v) in
    let here : spot ≡ spot_named (spot ∷ spots) v.name =
    sym (ap (λ b. cond b spot (spot_named spots v.name)) (ap (λ (u : Variable). bytes_eq u.name v.name) is ∙ (bytes_eq-Decides v.name v.name).1 refl)) in
    let rest : spots ≡ map (λ w. spot_named (spot ∷ spots) w.name) joint =
    spots-named x first (next + added x v) joint parts.1
    ∙ sym (names-past spot spots v joint is (not_true (list_any (bytes_eq v.name) (names_of joint)) parts.0)) in
    λ i. here i ∷ rest i

pub joint-variables : (x : Scope) (first next : ℕ) (joint : Scope) → variables_at (joint_spots x first next joint) ≡ joint
joint-variables x first next [] = refl
joint-variables x first next (v ∷ joint) =
    let here : variable_at (joint_spot x first next v).scope 0 ≡ v = ap (λ vars. variable_at vars 0) (joint-scope x first next v) in
    let rest = joint-variables x first (next + added x v) joint in
    λ i. here i ∷ rest i

-- the letter that bits spell is its own part on the joint scope
pub joint-part : (x : Scope) (first next : ℕ) (joint : Scope) (bits : Bits) → are_different (names_of joint) ≡ true → spelled (joint_spots x first next joint) bits ≡ letter_part joint joint (spelled (joint_spots x first next joint) bits)
joint-part x first next joint bits different =
    let spots = joint_spots x first next joint in
    ap (λ codes. spelled codes bits) (spots-named x first next joint different)
    ∙ map-map (λ (spot : Layout). number_of spot 0 bits) (λ (v : Variable). spot_named spots v.name) joint
    ∙ (λ i. map (λ v. number-named x first next joint bits v.name i) joint)

-- values that a list of variables has by name

abbrev IsValue : (List ℕ → ℕ) → Variable → Type 0
IsValue value v = value v.name < length v.values

pub letter-values : (value : List ℕ → ℕ) (scope : Scope) → IsLetter scope (map (λ v. value v.name) scope) → AllByRecursion (IsValue value) scope
letter-values value [] is = tt
letter-values value (v ∷ scope) is = (is.0, letter-values value scope is.1)

pub values-letter : (value : List ℕ → ℕ) (scope : Scope) → AllByRecursion (IsValue value) scope → IsLetter scope (map (λ v. value v.name) scope)
values-letter value [] all = tt
values-letter value (v ∷ scope) all = (all.0, values-letter value scope all.1)

-- values at the letters of F and of S are values at all joint variables
pub both-letters : (value : List ℕ → ℕ) (f s : Scope) → IsLetter f (map (λ v. value v.name) f) → IsLetter s (map (λ v. value v.name) s) → IsLetter (joint_scope f s) (map (λ v. value v.name) (joint_scope f s))
both-letters value f s of_f of_s =
    let rest = filter (λ (v : Variable). not (is_named f v.name)) s in
    values-letter value (joint_scope f s)
    (recursion_from_All (IsValue value) (joint_scope f s)
    (All-append (IsValue value) f rest (All-from_recursion (IsValue value) f (letter-values value f of_f))
    (All-filter (λ v. not (is_named f v.name)) (IsValue value) s (All-from_recursion (IsValue value) s (letter-values value s of_s)))))

-- and a letter has a value of the variable of each name
value-named : (joint : Scope) (letter : Letter) (name : List ℕ) → IsLetter joint letter → is_named joint name ≡ true → value_of joint letter name < length (variable_named joint name).values
value-named [] letter name is there = absurd (false≢true there)
value-named (v ∷ joint) [] name is there = absurd is
value-named (v ∷ joint) (a ∷ letter) name is there =
    elim (bytes_eq v.name name) as (λ b. (b || is_named joint name) ≡ true → cond b a (value_of joint letter name) < length (cond b v (variable_named joint name)).values)
    [ true ↦ λ e. is.0 | false ↦ λ e. value-named joint letter name is.1 e ] there

values-named : (joint : Scope) (letter : Letter) → IsLetter joint letter → (scope : Scope) → AllByRecursion (λ v. (is_named joint v.name ≡ true) × (variable_named joint v.name ≡ v)) scope → AllByRecursion (IsValue (value_of joint letter)) scope
values-named joint letter is [] are = tt
values-named joint letter is (v ∷ scope) are =
    let here = value-named joint letter v.name is are.0.0 in
    (subst (λ (w : Variable). value_of joint letter v.name < length w.values) are.0.1 here, values-named joint letter is scope are.1)

pub part-letter : (joint scope : Scope) (letter : Letter) → IsLetter joint letter → AreJoint joint scope → IsLetter scope (letter_part joint scope letter)
part-letter joint scope letter is are =
    values-letter (value_of joint letter) scope
    (values-named joint letter is scope (recursion_from_All (λ v. (is_named joint v.name ≡ true) × (variable_named joint v.name ≡ v)) scope are))

-- the number at one code
spot-number : (spot : Layout) → IsSpot spot → (bits : Bits) → number_of spot 0 bits ≡ number_at spot.first (bits_in spot.scope) bits
spot-number spot one bits =
    let P : Scope → Type 0 = λ scope. number_of (record { scope = scope; first = spot.first }) 0 bits ≡ number_at spot.first (bits_in scope) bits in
    let size : bits_of one.0 ≡ bits_in (one.0 ∷ []) = omega arith in
    let at : P (one.0 ∷ []) = one-number one.0 spot.first bits ∙ ap (λ b. number_at spot.first b bits) size in
    subst P (sym one.1) at

-- the numbers of X's letter, each at the level of its name

numbers-past : (v : Variable) (x : Scope) (level : ℕ) (bits : Bits) (vars : Scope) → list_any (bytes_eq v.name) (names_of vars) ≡ false → map (λ w. number_at (level_in x (level + bits_of v) w.name) (bits_of w) bits) vars ≡ map (λ w. number_at (level_in (v ∷ x) level w.name) (bits_of w) bits) vars
numbers-past v x level bits [] none = refl
numbers-past v x level bits (w ∷ vars) none =
    let parts = or_parts (bytes_eq v.name w.name) (list_any (bytes_eq v.name) (names_of vars)) none in
    let here : level_in x (level + bits_of v) w.name ≡ level_in (v ∷ x) level w.name = sym (ap (λ b. cond b level (level_in x (level + bits_of v) w.name)) parts.0) in
    let rest = numbers-past v x level bits vars parts.1 in
    λ i. number_at (here i) (bits_of w) bits ∷ rest i

numbers-named : (x : Scope) (level : ℕ) (bits : Bits) → are_different (names_of x) ≡ true → numbers_at x level bits ≡ map (λ v. number_at (level_in x level v.name) (bits_of v) bits) x
numbers-named [] level bits different = refl
numbers-named (v ∷ x) level bits different =
    let parts = and_parts (not (list_any (bytes_eq v.name) (names_of x))) (are_different (names_of x)) different in
    let here : level ≡ level_in (v ∷ x) level v.name = sym (ap (λ b. cond b level (level_in x (level + bits_of v) v.name)) ((bytes_eq-Decides v.name v.name).1 refl)) in
    let rest = numbers-named x (level + bits_of v) bits parts.1 ∙ numbers-past v x level bits x (not_true (list_any (bytes_eq v.name) (names_of x)) parts.0) in
    λ i. number_at (here i) (bits_of v) bits ∷ rest i

-- the codes of different names share no level

module _ (x : Scope) (first next : ℕ) (joint : Scope) (shared : AreShared x joint) (behind : first + bits_in x ≤ next) where
  abbrev code_of : Variable → Layout
  code_of v = spot_named (joint_spots x first next joint) v.name

  abbrev HasCode : Variable → Type 0
  HasCode v = is_named joint v.name ≡ true

  one-apart : (v : Variable) (vars : Scope) → HasCode v → AllByRecursion HasCode vars → list_any (bytes_eq v.name) (names_of vars) ≡ false → AllByRecursion (λ w. AreApart (code_of v) (code_of w)) vars
  one-apart v [] has all none = tt
  one-apart v (w ∷ vars) has all none =
      let parts = or_parts (bytes_eq v.name w.name) (list_any (bytes_eq v.name) (names_of vars)) none in
      (apart-beside (code_of v) (code_of w) (joint-beside x first next joint v.name w.name parts.0 shared behind has all.0), one-apart v vars has all.1 parts.1)

  all-apart : (vars : Scope) → AllByRecursion HasCode vars → are_different (names_of vars) ≡ true → AllPairs AreApart (map code_of vars)
  all-apart [] all different = pairs-nil AreApart
  all-apart (v ∷ vars) all different =
      let parts = and_parts (not (list_any (bytes_eq v.name) (names_of vars))) (are_different (names_of vars)) different in
      pairs-cons AreApart (code_of v) (map code_of vars)
      (All-map (AreApart (code_of v)) code_of vars
      (All-from_recursion (λ w. AreApart (code_of v) (code_of w)) vars
      (one-apart v vars all.0 all.1 (not_true (list_any (bytes_eq v.name) (names_of vars)) parts.0))))
      (all-apart vars all.1 parts.1)

  pub joint-apart : are_different (names_of joint) ≡ true → AllPairs AreApart (joint_spots x first next joint)
  joint-apart different =
      subst (λ (spots : List Layout). AllPairs AreApart spots) (sym (spots-named x first next joint different))
      (all-apart joint
      (each-weaker (λ v. (is_named joint v.name ≡ true) × (variable_named joint v.name ≡ v)) HasCode (λ v both. both.0) joint
      (recursion_from_All (λ v. (is_named joint v.name ≡ true) × (variable_named joint v.name ≡ v)) joint (own-joint joint different)))
      different)

  -- the number at X's place in the joint letter
  number-shared : (v : Variable) (bits : Bits) → is_named x v.name ≡ true → variable_named x v.name ≡ v → is_named joint v.name ≡ true → number_at (level_in x first v.name) (bits_of v) bits ≡ value_of joint (spelled (joint_spots x first next joint) bits) v.name
  number-shared v bits of_x same of_joint =
      let spots = joint_spots x first next joint in
      let spot = spot_named spots v.name in
      let at = (stands-named x first next joint v.name shared of_joint).shared of_x in
      let one : IsSpot spot = holds-named IsSpot spots v.name (joint-are-spots x first next joint) (joint-has x first next joint v.name ∙ of_joint) in
      (λ i. number_at (sym at.0 i) (bits_of (sym same i)) bits)
      ∙ (λ i. number_at spot.first (sym at.1 i) bits)
      ∙ sym (spot-number spot one bits)
      ∙ number-named x first next joint bits v.name

  numbers-shared : (vars : Scope) (bits : Bits) → AllByRecursion (λ v. (is_named x v.name ≡ true) × (variable_named x v.name ≡ v)) vars → AllByRecursion HasCode vars → map (λ v. number_at (level_in x first v.name) (bits_of v) bits) vars ≡ letter_part joint vars (spelled (joint_spots x first next joint) bits)
  numbers-shared [] bits are has = refl
  numbers-shared (v ∷ vars) bits are has =
      let here = number-shared v bits are.0.0 are.0.1 has.0 in
      let rest = numbers-shared vars bits are.1 has.1 in
      λ i. here i ∷ rest i

  pub x-part : are_different (names_of x) ≡ true → AllByRecursion HasCode x → (bits : Bits) → numbers_at x first bits ≡ letter_part joint x (spelled (joint_spots x first next joint) bits)
  x-part different has bits =
      numbers-named x first bits different
      ∙ numbers-shared x bits (recursion_from_All (λ v. (is_named x v.name ≡ true) × (variable_named x v.name ≡ v)) x (own-joint x different)) has
