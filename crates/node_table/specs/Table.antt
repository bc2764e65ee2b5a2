use Rattle.std.specs.Prelude.{◌≡◌, ◌==◌, ◌+◌, ◌^◌, ◌<◌, ◌≤◌, ◌⊎◌, ℕ, Bool, if◌then◌else◌, List, [], ◌∷◌, length, reverse, max, Option, Some, None}
use Rattle.std.specs.Option.{option_map}
use Rattle.node_table.specs.declared.node.Node.{Node}
use Rattle.node_table.specs.declared.node.TheConstants.{MAX_LEVELS}

-- a bit for each level
abbrev pub Bits : Type 0
Bits = ℕ → Bool

-- what is seen of a Space: its nodes with the newest first, the number of its levels, how many nodes it may
-- hold, and the greatest number of nodes that it held so far
pub record Table : Type 0 where
  pub nodes : List Node
  pub levels : ℕ
  pub limit : ℕ
  pub peak : ℕ

-- 0 and 1 are the constants, and the number of a node is by two above the number of older nodes
abbrev pub number_of_next : List Node → ℕ
number_of_next older = length older + 2

-- the node of a ref; a constant has none
abbrev pub node_of : List Node → ℕ → Option Node
node_of [] r = None
node_of (n ∷ older) r = if r == number_of_next older then Some n else node_of older r

-- the value of a ref at these bits: the constant 0 has 0, the constant 1 has 1, and a node has the value of
-- the end that the bit at its level picks
abbrev pub value_of : List Node → ℕ → Bits → Bool
value_of [] r bits = r == 1
value_of (n ∷ older) r bits =
    if r == number_of_next older then (if bits n.level then value_of older n.hi bits else value_of older n.lo bits) else value_of older r bits

-- the level of a node; a constant stands `below`
abbrev pub level_or : ℕ → List Node → ℕ → ℕ
level_or below [] r = below
level_or below (n ∷ older) r = if r == number_of_next older then n.level else level_or below older r

abbrev pub value_at : Table → ℕ → Bits → Bool
value_at t r bits = value_of t.nodes r bits

-- the level of a node; the constants lie below all levels
abbrev pub top_of : Table → ℕ → ℕ
top_of t r = level_or t.levels t.nodes r

-- the level, the low end and the high end of the node of a ref
abbrev pub level_of : Table → ℕ → Option ℕ
level_of t r = option_map (λ n. n.level) (node_of t.nodes r)

abbrev pub lo_of : Table → ℕ → Option ℕ
lo_of t r = option_map (λ n. n.lo) (node_of t.nodes r)

abbrev pub hi_of : Table → ℕ → Option ℕ
hi_of t r = option_map (λ n. n.hi) (node_of t.nodes r)

-- no ref has this node
abbrev pub IsNew : List Node → Node → Type 0
IsNew nodes n = (r : ℕ) → node_of nodes r ≡ Some n → ⊥

-- a node may be put on these: both ends are held and lie below it, it is reduced, and it is no repeat
pub record FitsOn (levels : ℕ) (older : List Node) (n : Node) : Type 0 where
  pub lo_held : n.lo < number_of_next older
  pub hi_held : n.hi < number_of_next older
  pub lo_below : n.level < level_or levels older n.lo
  pub hi_below : n.level < level_or levels older n.hi
  pub ends_differ : n.lo ≡ n.hi → ⊥
  pub level_exists : n.level < levels
  pub is_new : IsNew older n

-- the nodes are reduced, ordered and without repeats
abbrev pub AreNodes : ℕ → List Node → Type 0
AreNodes levels [] = Unit {0}
AreNodes levels (n ∷ older) = FitsOn levels older n × AreNodes levels older

-- what holds of each Space
pub record IsTable (t : Table) : Type 0 where
  pub nodes : AreNodes t.levels t.nodes
  pub few_levels : t.levels ≤ MAX_LEVELS
  pub few : length t.nodes ≤ t.limit
  pub peak : length t.nodes ≤ t.peak
  pub countable : t.limit ≤ 2 ^ 62

-- the ref is a constant, or names a node that the Space holds
pub record IsValid (t : Table) (r : ℕ) : Type 0 where
  pub table : IsTable t
  pub held : r < number_of_next t.nodes

-- the ref is a constant: valid, below all levels, and of this value at all bits
pub record IsConstant (t : Table) (bit : Bool) (r : ℕ) : Type 0 where
  pub number : r ≡ (if bit then 1 else 0)
  pub valid : IsValid t r
  pub top : top_of t r ≡ t.levels
  pub value : (bits : Bits) → value_at t r bits ≡ bit

-- a Space with one more node
abbrev pub with_node : Table → Node → Table
with_node t n = record t { nodes = n ∷ t.nodes; peak = max t.peak (length t.nodes + 1) }

-- from an old Space to a new one: each ref that was valid is so still, names the same node and has the same
-- value; levels may have come below all others
pub record Grows (old new : Table) : Type 0 where
  pub count : length old.nodes ≤ length new.nodes
  pub node : (r : ℕ) → r < number_of_next old.nodes → node_of new.nodes r ≡ node_of old.nodes r
  pub value : (r : ℕ) → r < number_of_next old.nodes → (bits : Bits) → value_at new r bits ≡ value_at old r bits
  pub top : new.levels ≡ old.levels → (r : ℕ) → r < number_of_next old.nodes → top_of new r ≡ top_of old r
  pub levels : old.levels ≤ new.levels
  pub limit : new.limit ≡ old.limit
  pub peak : new.peak ≡ max old.peak (length new.nodes)
  pub table : IsTable new

-- r is the ref of the node with this level and these ends, where they differ, and else the one end; the node
-- was there, or is the only new one
pub record Makes (old new : Table) (level lo hi r : ℕ) : Type 0 where
  pub valid : IsValid new r
  pub top : level ≤ top_of new r
  pub value : (bits : Bits) → value_at new r bits ≡ (if bits level then value_at old hi bits else value_at old lo bits)
  pub same_ends : lo ≡ hi → (r ≡ lo) × (new ≡ old)
  pub node : (lo ≡ hi → ⊥) → node_of new.nodes r ≡ Some (record { level = level; lo = lo; hi = hi })
  pub once : (new ≡ old) ⊎ ((r ≡ number_of_next old.nodes) × (new ≡ with_node old (record { level = level; lo = lo; hi = hi })))

-- the node would be a new one, and there is no place for it
pub record IsRefused (t : Table) (n : Node) : Type 0 where
  pub ends_differ : n.lo ≡ n.hi → ⊥
  pub is_new : IsNew t.nodes n
  pub full : length t.nodes ≡ t.limit

-- the ref is the end of the node r at this bit
pub record IsEnd (t : Table) (r : ℕ) (bit : Bool) (end : ℕ) : Type 0 where
  pub valid : IsValid t end
  pub below : top_of t r < top_of t end
  pub older : end < r
  pub value : (bits : Bits) → bits (top_of t r) ≡ bit → value_at t r bits ≡ value_at t end bits

-- what is seen of a Space with these keys in order of insertion
abbrev pub table_of : List Node → ℕ → ℕ → ℕ → Table
table_of keys levels limit peak = record { nodes = reverse keys; levels = levels; limit = limit; peak = peak }
