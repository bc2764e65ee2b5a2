-- What a newer node leaves as it was, and what is known of each node that is held.
use Rattle.std.proofs.Common.{◌≡◌, ◌==◌, ◌+◌, ◌<◌, ◌≤◌, ℕ, Bool, true, false, if◌then◌else◌, List, [], ◌∷◌, Some, None, refl, sym, ap, ◌∙◌, arith}
use Rattle.std.proofs.lemmas.Bool.{eqb-true, eq-eqb, eqb-false, false_from_ne_true}
use Rattle.node_table.specs.declared.node.Node.{Node}
use Rattle.node_table.specs.Table.{Bits, number_of_next, node_of, value_of, level_or, FitsOn, AreNodes}

-- a smaller number is another one
pub apart : (r m : ℕ) → r < m → (r == m) ≡ false
apart r m less = false_from_ne_true (r == m) (λ e. let is : r ≡ m = eqb-true r m e in omega arith)

-- a number that is within a list with one more node, and is not that node's, is within the list
pub older : (nodes : List Node) (r : ℕ) → r < number_of_next nodes + 1 → (r == number_of_next nodes) ≡ false → r < number_of_next nodes
older nodes r within other = let differ = eqb-false r (number_of_next nodes) other in omega (arith, differ)

module _ (n : Node) (nodes : List Node) where
  pub value-cons : (r : ℕ) → r < number_of_next nodes → (bits : Bits) → value_of (n ∷ nodes) r bits ≡ value_of nodes r bits
  value-cons r held bits =
      ap (λ b. if b then (if bits n.level then value_of nodes n.hi bits else value_of nodes n.lo bits) else value_of nodes r bits)
      (apart r (number_of_next nodes) held)

  pub node-cons : (r : ℕ) → r < number_of_next nodes → node_of (n ∷ nodes) r ≡ node_of nodes r
  node-cons r held = ap (λ b. if b then Some n else node_of nodes r) (apart r (number_of_next nodes) held)

  pub level-cons : (levels r : ℕ) → r < number_of_next nodes → level_or levels (n ∷ nodes) r ≡ level_or levels nodes r
  level-cons levels r held = ap (λ b. if b then n.level else level_or levels nodes r) (apart r (number_of_next nodes) held)

  pub value-first : (r : ℕ) → r ≡ number_of_next nodes → (bits : Bits) → value_of (n ∷ nodes) r bits ≡ (if bits n.level then value_of nodes n.hi bits else value_of nodes n.lo bits)
  value-first r is bits =
      ap (λ b. if b then (if bits n.level then value_of nodes n.hi bits else value_of nodes n.lo bits) else value_of nodes r bits)
      (eq-eqb r (number_of_next nodes) is)

  pub node-first : (r : ℕ) → r ≡ number_of_next nodes → node_of (n ∷ nodes) r ≡ Some n
  node-first r is = ap (λ b. if b then Some n else node_of nodes r) (eq-eqb r (number_of_next nodes) is)

  pub level-first : (levels r : ℕ) → r ≡ number_of_next nodes → level_or levels (n ∷ nodes) r ≡ n.level
  level-first levels r is = ap (λ b. if b then n.level else level_or levels nodes r) (eq-eqb r (number_of_next nodes) is)

-- the constants
pub value-zero : (nodes : List Node) (bits : Bits) → value_of nodes 0 bits ≡ false
value-zero [] bits = refl
value-zero (n ∷ nodes) bits = let held : 0 < number_of_next nodes = omega arith in value-cons n nodes 0 held bits ∙ value-zero nodes bits

pub value-one : (nodes : List Node) (bits : Bits) → value_of nodes 1 bits ≡ true
value-one [] bits = refl
value-one (n ∷ nodes) bits = let held : 1 < number_of_next nodes = omega arith in value-cons n nodes 1 held bits ∙ value-one nodes bits

pub level-constant : (levels : ℕ) (nodes : List Node) (r : ℕ) → r < 2 → level_or levels nodes r ≡ levels
level-constant levels [] r constant = refl
level-constant levels (n ∷ nodes) r constant =
    let held : r < number_of_next nodes = omega arith in level-cons n nodes levels r held ∙ level-constant levels nodes r constant

pub node-constant : (nodes : List Node) (r : ℕ) → r < 2 → node_of nodes r ≡ None
node-constant [] r constant = refl
node-constant (n ∷ nodes) r constant =
    let held : r < number_of_next nodes = omega arith in node-cons n nodes r held ∙ node-constant nodes r constant

-- all that is known of a ref that names a node
pub record Holds (levels : ℕ) (nodes : List Node) (r : ℕ) : Type 0 where
  pub node : Node
  pub is : node_of nodes r ≡ Some node
  pub lo_older : node.lo < r
  pub hi_older : node.hi < r
  pub ends_differ : node.lo ≡ node.hi → ⊥
  pub level : level_or levels nodes r ≡ node.level
  pub level_exists : node.level < levels
  pub lo_below : node.level < level_or levels nodes node.lo
  pub hi_below : node.level < level_or levels nodes node.hi
  pub value : (bits : Bits) → value_of nodes r bits ≡ (if bits node.level then value_of nodes node.hi bits else value_of nodes node.lo bits)

first-holds : (levels : ℕ) (n : Node) (nodes : List Node) → FitsOn levels nodes n → (r : ℕ) → r ≡ number_of_next nodes → Holds levels (n ∷ nodes) r
first-holds levels n nodes fits r is = record {
  node = n;
  is = node-first n nodes r is;
  lo_older = omega (arith, fits.lo_held);
  hi_older = omega (arith, fits.hi_held);
  ends_differ = fits.ends_differ;
  level = level-first n nodes levels r is;
  level_exists = fits.level_exists;
  lo_below = let e = level-cons n nodes levels n.lo fits.lo_held in omega (arith, e, fits.lo_below);
  hi_below = let e = level-cons n nodes levels n.hi fits.hi_held in omega (arith, e, fits.hi_below);
  value = λ bits. value-first n nodes r is bits ∙ (λ i. if bits n.level then sym (value-cons n nodes n.hi fits.hi_held bits) i else sym (value-cons n nodes n.lo fits.lo_held bits) i);
}

older-holds : (levels : ℕ) (n : Node) (nodes : List Node) (r : ℕ) → r < number_of_next nodes → Holds levels nodes r → Holds levels (n ∷ nodes) r
older-holds levels n nodes r held h =
    let lo_held : h.node.lo < number_of_next nodes = omega (arith, h.lo_older) in
    let hi_held : h.node.hi < number_of_next nodes = omega (arith, h.hi_older) in
    record {
      node = h.node;
      is = node-cons n nodes r held ∙ h.is;
      lo_older = h.lo_older;
      hi_older = h.hi_older;
      ends_differ = h.ends_differ;
      level = level-cons n nodes levels r held ∙ h.level;
      level_exists = h.level_exists;
      lo_below = let e = level-cons n nodes levels h.node.lo lo_held in omega (arith, e, h.lo_below);
      hi_below = let e = level-cons n nodes levels h.node.hi hi_held in omega (arith, e, h.hi_below);
      value = λ bits. value-cons n nodes r held bits ∙ h.value bits ∙ (λ i. if bits h.node.level then sym (value-cons n nodes h.node.hi hi_held bits) i else sym (value-cons n nodes h.node.lo lo_held bits) i);
    }

-- each ref that is held and is no constant names a node
pub node-held : (levels : ℕ) (nodes : List Node) → AreNodes levels nodes → (r : ℕ) → 2 ≤ r → r < number_of_next nodes → Holds levels nodes r
node-held levels [] all r node held = absurd (omega arith)
node-held levels (n ∷ nodes) all r node held =
    by (r == number_of_next nodes) refl (λ within. node-held levels nodes all.1 r node within)
  where
    by : (b : Bool) → (r == number_of_next nodes) ≡ b → (r < number_of_next nodes → Holds levels nodes r) → Holds levels (n ∷ nodes) r
    by true e rest = first-holds levels n nodes all.0 r (eqb-true r (number_of_next nodes) e)
    by false e rest =
        let within : r < number_of_next nodes = older nodes r (omega arith) e in older-holds levels n nodes r within (rest within)

-- a node has the number of a node
pub held-node : (nodes : List Node) (r : ℕ) (n : Node) → node_of nodes r ≡ Some n → (2 ≤ r) × (r < number_of_next nodes)
held-node [] r n is = absurd (cc)
held-node (m ∷ nodes) r n is = by (r == number_of_next nodes) refl (λ there. held-node nodes r n there)
  where
    by : (b : Bool) → (r == number_of_next nodes) ≡ b → (node_of nodes r ≡ Some n → (2 ≤ r) × (r < number_of_next nodes)) → (2 ≤ r) × (r < number_of_next (m ∷ nodes))
    by true e rest = let at = eqb-true r (number_of_next nodes) e in (omega (arith, at), omega (arith, at))
    by false e rest =
        let there : node_of nodes r ≡ Some n = sym (ap (λ b. if b then Some m else node_of nodes r) e) ∙ is in
        let h = rest there in (h.0, omega (arith, h.1))

-- no level stands above the number of levels
pub level-within : (levels : ℕ) (nodes : List Node) → AreNodes levels nodes → (r : ℕ) → level_or levels nodes r ≤ levels
level-within levels [] all r = omega arith
level-within levels (n ∷ nodes) all r =
    elim (r == number_of_next nodes) as (λ b. (if b then n.level else level_or levels nodes r) ≤ levels) [
      | true ↦ omega (arith, all.0.level_exists)
      | false ↦ level-within levels nodes all.1 r
    ]

-- levels that come below all others leave the nodes in order
pub level-rises : (levels more : ℕ) → levels ≤ more → (nodes : List Node) (r : ℕ) → level_or levels nodes r ≤ level_or more nodes r
level-rises levels more grow [] r = grow
level-rises levels more grow (n ∷ nodes) r =
    elim (r == number_of_next nodes) as (λ b. (if b then n.level else level_or levels nodes r) ≤ (if b then n.level else level_or more nodes r)) [
      | true ↦ omega arith
      | false ↦ level-rises levels more grow nodes r
    ]

pub AreNodes-rises : (levels more : ℕ) → levels ≤ more → (nodes : List Node) → AreNodes levels nodes → AreNodes more nodes
AreNodes-rises levels more grow [] all = tt
AreNodes-rises levels more grow (n ∷ nodes) all = (
  record {
    lo_held = all.0.lo_held;
    hi_held = all.0.hi_held;
    lo_below = let e = level-rises levels more grow nodes n.lo in omega (arith, e, all.0.lo_below);
    hi_below = let e = level-rises levels more grow nodes n.hi in omega (arith, e, all.0.hi_below);
    ends_differ = all.0.ends_differ;
    level_exists = omega (arith, all.0.level_exists);
    is_new = all.0.is_new;
  },
  AreNodes-rises levels more grow nodes all.1,
)

-- a node has one number
pub number-unique : (levels : ℕ) (nodes : List Node) → AreNodes levels nodes → (r s : ℕ) (n : Node) → node_of nodes r ≡ Some n → node_of nodes s ≡ Some n → r ≡ s
number-unique levels [] all r s n at there = absurd (cc)
number-unique levels (m ∷ nodes) all r s n at there =
    by (r == number_of_next nodes) (s == number_of_next nodes) refl refl (λ here also. number-unique levels nodes all.1 r s n here also)
  where
    by : (b c : Bool) → (r == number_of_next nodes) ≡ b → (s == number_of_next nodes) ≡ c → (node_of nodes r ≡ Some n → node_of nodes s ≡ Some n → r ≡ s) → r ≡ s
    by true true e f rest = eqb-true r (number_of_next nodes) e ∙ sym (eqb-true s (number_of_next nodes) f)
    by true false e f rest =
        let first : Some m ≡ Some n = sym (ap (λ b. if b then Some m else node_of nodes r) e) ∙ at in
        let later : node_of nodes s ≡ Some n = sym (ap (λ b. if b then Some m else node_of nodes s) f) ∙ there in
        absurd (all.0.is_new s (later ∙ sym first))
    by false true e f rest =
        let first : Some m ≡ Some n = sym (ap (λ b. if b then Some m else node_of nodes s) f) ∙ there in
        let later : node_of nodes r ≡ Some n = sym (ap (λ b. if b then Some m else node_of nodes r) e) ∙ at in
        absurd (all.0.is_new r (later ∙ sym first))
    by false false e f rest =
        rest (sym (ap (λ b. if b then Some m else node_of nodes r) e) ∙ at) (sym (ap (λ b. if b then Some m else node_of nodes s) f) ∙ there)
