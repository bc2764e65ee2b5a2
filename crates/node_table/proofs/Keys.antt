-- The nodes with the newest first, and the keys of the set with the oldest first.
use Rattle.std.proofs.Common.{◌≡◌, ◌==◌, ◌+◌, ◌-◌, ◌<◌, ◌≤◌, ◌⊎◌, ◌||◌, ◌&&◌, ℕ, zero, suc, Bool, true, false, if◌then◌else◌, List, [], ◌∷◌, ◌++◌, length, reverse, get_or, slice_get, position, Some, refl, sym, ap, ◌∙◌, inl, inr, arith}
use Rattle.std.proofs.lemmas.Bool.{true≢false, cases_lt, eqb-true, false_from_ne_true}
use Rattle.std.proofs.lemmas.List.{reverse-append, reverse-reverse, length-append, length-reverse}
use Rattle.std.proofs.lemmas.List.Folds.{list_any_at}
use Rattle.std.proofs.lemmas.List.Quantifiers.{position-Some}
use Rattle.std.proofs.lemmas.Option.{slice_get-get_or, slice_get_past, slice_get_within, get_or_from_slice_get}
use Rattle.std.specs.List.{list_any}
use Rattle.indexmap.specs.IndexSet.{insert_key}
use Rattle.node_table.specs.declared.node.Node.{Node}
use Rattle.node_table.specs.Table.{number_of_next, node_of, IsNew}
use Rattle.node_table.proofs.Nodes.{node-cons, node-first, held-node}

-- an inserted key stands first
reverse-push : (keys : List Node) (n : Node) → reverse (keys ++ n ∷ []) ≡ n ∷ reverse keys
reverse-push keys n = reverse-append keys (n ∷ [])

module _ {X : Type 0} where
  slice_get-front : (xs : List X) (y : X) (i : ℕ) → i < length xs → slice_get (xs ++ y ∷ []) i ≡ slice_get xs i
  slice_get-front [] y i within = absurd (omega arith)
  slice_get-front (x ∷ xs) y zero within = refl
  slice_get-front (x ∷ xs) y (suc i) within = slice_get-front xs y i (omega arith)

  slice_get-last : (xs : List X) (y : X) (i : ℕ) → i ≡ length xs → slice_get (xs ++ y ∷ []) i ≡ Some y
  slice_get-last [] y zero is = refl
  slice_get-last [] y (suc i) is = absurd (omega arith)
  slice_get-last (x ∷ xs) y zero is = absurd (omega arith)
  slice_get-last (x ∷ xs) y (suc i) is = slice_get-last xs y i (omega arith)

  -- a list with an element that passes has it at some place
  any-at : (p : X → Bool) (xs : List X) → list_any p xs ≡ true → (k : ℕ) × (x : X) × (slice_get xs k ≡ Some x) × (p x ≡ true)
  any-at p [] any = absurd (true≢false (sym any))
  any-at p (x ∷ xs) any = by (p x) refl (λ rest. any-at p xs rest)
    where
      by : (b : Bool) → p x ≡ b → (list_any p xs ≡ true → (k : ℕ) × (y : X) × (slice_get xs k ≡ Some y) × (p y ≡ true)) → (k : ℕ) × (y : X) × (slice_get (x ∷ xs) k ≡ Some y) × (p y ≡ true)
      by true e rest = (0, x, refl, e)
      by false e rest =
          let later = rest (sym (ap (λ b. b || list_any p xs) e) ∙ any) in (suc later.0, later.1, later.2, later.3)

-- a number past all is no node's
node_of-past : (n : Node) (nodes : List Node) (k : ℕ) → length nodes < k → node_of nodes (k + 2) ≡ slice_get (reverse nodes) k → node_of (n ∷ nodes) (k + 2) ≡ slice_get (reverse nodes ++ n ∷ []) k
node_of-past n nodes k past rest =
    let other : ((k + 2) == number_of_next nodes) ≡ false = false_from_ne_true ((k + 2) == number_of_next nodes) (λ e. let is = eqb-true (k + 2) (number_of_next nodes) e in omega (arith, is)) in
    ap (λ b. if b then Some n else node_of nodes (k + 2)) other
    ∙ rest
    ∙ slice_get_past (reverse nodes) k (omega (arith, length-reverse nodes))
    ∙ sym (slice_get_past (reverse nodes ++ n ∷ []) k (omega (arith, length-reverse nodes, length-append (reverse nodes) (n ∷ []))))

-- the node k + 2 is the key k
node_of-number : (nodes : List Node) (k : ℕ) → node_of nodes (k + 2) ≡ slice_get (reverse nodes) k
node_of-number [] k = refl
node_of-number (n ∷ nodes) k =
    by (cases_lt k (length nodes)) (cases_lt (length nodes) k) (node_of-number nodes k) ∙ sym (ap (λ keys. slice_get keys k) (reverse-append (n ∷ []) nodes))
  where
    by : (k < length nodes) ⊎ (length nodes ≤ k) → (length nodes < k) ⊎ (k ≤ length nodes) → node_of nodes (k + 2) ≡ slice_get (reverse nodes) k → node_of (n ∷ nodes) (k + 2) ≡ slice_get (reverse nodes ++ n ∷ []) k
    by (inl within) other rest =
        let held : k + 2 < number_of_next nodes = omega arith in
        let place : k < length (reverse nodes) = omega (arith, length-reverse nodes) in
        node-cons n nodes (k + 2) held ∙ rest ∙ sym (slice_get-front (reverse nodes) n k place)
    by (inr from) (inr upto) rest =
        let at : k + 2 ≡ number_of_next nodes = omega arith in
        let place : k ≡ length (reverse nodes) = omega (arith, length-reverse nodes) in
        node-first n nodes (k + 2) at ∙ sym (slice_get-last (reverse nodes) n k place)
    by (inr from) (inl past) rest = node_of-past n nodes k past rest

pub node_of-key : (keys : List Node) (k : ℕ) → node_of (reverse keys) (k + 2) ≡ slice_get keys k
node_of-key keys k = node_of-number (reverse keys) k ∙ ap (λ l. slice_get l k) (reverse-reverse keys)

-- the test by which the set tells nodes apart
abbrev pub is_node : Node → Node → Bool
is_node n m = (n.level == m.level) && ((n.lo == m.lo) && (n.hi == m.hi))

same-from-is_node : (n m : Node) → is_node n m ≡ true → m ≡ n
same-from-is_node n m same = grind arith

is_node-same : (n : Node) → is_node n n ≡ true
is_node-same n = grind arith

-- a key that is found is the node of its number
pub node_of-position : (keys : List Node) (n : Node) (i : ℕ) → position (is_node n) keys ≡ Some i → node_of (reverse keys) (i + 2) ≡ Some n
node_of-position keys n i found =
    let at = position-Some (is_node n) keys i n found in
    node_of-key keys i ∙ slice_get-get_or keys i n at.0 ∙ ap Some (same-from-is_node n (get_or keys i n) at.1)

-- what isn't among the keys is no node
pub IsNew-absent : (keys : List Node) (n : Node) → list_any (is_node n) keys ≡ false → IsNew (reverse keys) n
IsNew-absent keys n absent r is =
    let held = held-node (reverse keys) r n is in
    let k : ℕ = r - 2 in
    let number : k + 2 ≡ r = omega (arith, held.0) in
    let there : slice_get keys k ≡ Some n = sym (node_of-key keys k) ∙ ap (λ s. node_of (reverse keys) s) number ∙ is in
    let here : is_node n (get_or keys k n) ≡ true = ap (is_node n) (get_or_from_slice_get keys k n n there) ∙ is_node-same n in
    true≢false (sym (list_any_at (is_node n) keys k n (slice_get_within keys k n there) here) ∙ absent)

-- a new node is put last
pub insert_key-new : (keys : List Node) (n : Node) → IsNew (reverse keys) n → reverse (insert_key is_node keys n) ≡ n ∷ reverse keys
insert_key-new keys n new =
    ap (λ b. reverse (if b then keys else keys ++ n ∷ [])) (by (list_any (is_node n) keys) refl) ∙ reverse-push keys n
  where
    by : (b : Bool) → list_any (is_node n) keys ≡ b → list_any (is_node n) keys ≡ false
    by false e = e
    by true e =
        let at = any-at (is_node n) keys e in
        absurd (new (at.0 + 2) (node_of-key keys at.0 ∙ at.2 ∙ ap Some (same-from-is_node n at.1 at.3)))
