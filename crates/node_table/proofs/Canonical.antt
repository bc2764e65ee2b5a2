-- Two refs of one value are one ref.
use Rattle.std.proofs.Common.{◌≡◌, ◌==◌, ◌<◌, ◌≤◌, ◌⊎◌, ℕ, zero, suc, Bool, true, false, if◌then◌else◌, List, Some, refl, sym, ap, ◌∙◌, inl, inr, arith}
use Rattle.std.proofs.lemmas.Bool.{eqb-true, eq-eqb, false_from_ne_true, true≢false, cases_lt}
use Rattle.node_table.specs.declared.node.Node.{Node}
use Rattle.node_table.specs.Table.{Bits, number_of_next, value_of, level_or, AreNodes}
use Rattle.node_table.proofs.Nodes.{Holds, node-held, number-unique, value-zero, value-one, level-constant}

-- the bits with the one at this level changed
abbrev pub changed : Bits → ℕ → Bool → Bits
changed bits level b = λ k. if k == level then b else bits k

changed-at : (bits : Bits) (level : ℕ) (b : Bool) → changed bits level b level ≡ b
changed-at bits level b = ap (λ same. if same then b else bits level) (eq-eqb level level refl)

changed-below : (bits : Bits) (level : ℕ) (b : Bool) (k : ℕ) → level < k → changed bits level b k ≡ bits k
changed-below bits level b k above =
    ap (λ same. if same then b else bits k) (false_from_ne_true (k == level) (λ e. let is = eqb-true k level e in omega (arith, is)))

module _ (levels : ℕ) (nodes : List Node) (all : AreNodes levels nodes) where
  -- a value depends on the bits from its level on alone
  below : (bound r : ℕ) → r < bound → r < number_of_next nodes → (u v : Bits) → ((k : ℕ) → level_or levels nodes r ≤ k → u k ≡ v k) → value_of nodes r u ≡ value_of nodes r v
  below zero r bounded held u v same = absurd (omega arith)
  below (suc bound) r bounded held u v same = by (cases_lt r 2) (below bound)
    where
      by : (r < 2) ⊎ (2 ≤ r) → ((s : ℕ) → s < bound → s < number_of_next nodes → (u v : Bits) → ((k : ℕ) → level_or levels nodes s ≤ k → u k ≡ v k) → value_of nodes s u ≡ value_of nodes s v) → value_of nodes r u ≡ value_of nodes r v
      by (inl constant) rest = by_number (cases_lt r 1)
        where
          by_number : (r < 1) ⊎ (1 ≤ r) → value_of nodes r u ≡ value_of nodes r v
          by_number (inl small) = let is : r ≡ 0 = omega arith in rw is (value-zero nodes u ∙ sym (value-zero nodes v))
          by_number (inr large) = let is : r ≡ 1 = omega arith in rw is (value-one nodes u ∙ sym (value-one nodes v))
      by (inr node) rest =
          let h = node-held levels nodes all r node held in
          let hi = rest h.node.hi (omega (arith, h.hi_older)) (omega (arith, h.hi_older)) u v (λ k low. same k (omega (arith, low, h.hi_below, h.level))) in
          let lo = rest h.node.lo (omega (arith, h.lo_older)) (omega (arith, h.lo_older)) u v (λ k low. same k (omega (arith, low, h.lo_below, h.level))) in
          let at : u h.node.level ≡ v h.node.level = same h.node.level (omega (arith, h.level)) in
          h.value u ∙ (λ i. if at i then hi i else lo i) ∙ sym (h.value v)

  pub value-below : (r : ℕ) → r < number_of_next nodes → (u v : Bits) → ((k : ℕ) → level_or levels nodes r ≤ k → u k ≡ v k) → value_of nodes r u ≡ value_of nodes r v
  value-below r = below (suc r) r (omega arith)

  -- a bit above the level of a ref doesn't matter to it
  pub value-changed : (r : ℕ) → r < number_of_next nodes → (level : ℕ) → level < level_or levels nodes r → (bits : Bits) (b : Bool) → value_of nodes r (changed bits level b) ≡ value_of nodes r bits
  value-changed r held level above bits b =
      value-below r held (changed bits level b) bits (λ k low. changed-below bits level b k (omega (arith, low, above)))

  -- an end's value is the node's with the bit set
  pub value-hi : (r : ℕ) → r < number_of_next nodes → (h : Holds levels nodes r) → (bits : Bits) → value_of nodes h.node.hi bits ≡ value_of nodes r (changed bits h.node.level true)
  value-hi r held h bits =
      let with = changed bits h.node.level true in
      sym (value-changed h.node.hi (omega (arith, h.hi_older)) h.node.level h.hi_below bits true)
      ∙ sym (ap (λ b. if b then value_of nodes h.node.hi with else value_of nodes h.node.lo with) (changed-at bits h.node.level true))
      ∙ sym (h.value with)

  pub value-lo : (r : ℕ) → r < number_of_next nodes → (h : Holds levels nodes r) → (bits : Bits) → value_of nodes h.node.lo bits ≡ value_of nodes r (changed bits h.node.level false)
  value-lo r held h bits =
      let with = changed bits h.node.level false in
      sym (value-changed h.node.lo (omega (arith, h.lo_older)) h.node.level h.lo_below bits false)
      ∙ sym (ap (λ b. if b then value_of nodes h.node.hi with else value_of nodes h.node.lo with) (changed-at bits h.node.level false))
      ∙ sym (h.value with)

  -- two refs have the same value at all bits
  abbrev Same : ℕ → ℕ → Type 0
  Same r s = (bits : Bits) → value_of nodes r bits ≡ value_of nodes s bits

  -- refs of one value below this number are one
  abbrev OneBelow : ℕ → Type 0
  OneBelow bound = (r s : ℕ) → r < bound → s < bound → r < number_of_next nodes → s < number_of_next nodes → Same r s → r ≡ s

  -- a node doesn't have the value of a ref that lies below its level
  split : (bound r s : ℕ) → OneBelow bound → r < suc bound → r < number_of_next nodes → s < number_of_next nodes → Same r s → (h : Holds levels nodes r) → h.node.level < level_or levels nodes s → ⊥
  split bound r s one bounded r_held s_held same h lower =
      h.ends_differ
      (one h.node.lo h.node.hi (omega (arith, h.lo_older)) (omega (arith, h.hi_older)) (omega (arith, h.lo_older)) (omega (arith, h.hi_older))
      (λ bits.
      value-lo r r_held h bits
      ∙ same (changed bits h.node.level false)
      ∙ value-changed s s_held h.node.level lower bits false
      ∙ sym (value-changed s s_held h.node.level lower bits true)
      ∙ sym (same (changed bits h.node.level true))
      ∙ sym (value-hi r r_held h bits)))

  -- two nodes of one level and one value are one
  alike : (bound r s : ℕ) → OneBelow bound → r < suc bound → s < suc bound → r < number_of_next nodes → s < number_of_next nodes → Same r s → (h : Holds levels nodes r) (g : Holds levels nodes s) → h.node.level ≡ g.node.level → r ≡ s
  alike bound r s one r_bounded s_bounded r_held s_held same h g level =
      let lo : h.node.lo ≡ g.node.lo = one h.node.lo g.node.lo (omega (arith, h.lo_older)) (omega (arith, g.lo_older)) (omega (arith, h.lo_older)) (omega (arith, g.lo_older))
      (λ bits. value-lo r r_held h bits ∙ same (changed bits h.node.level false) ∙ ap (λ l. value_of nodes s (changed bits l false)) level ∙ sym (value-lo s s_held g bits)) in
      let hi : h.node.hi ≡ g.node.hi = one h.node.hi g.node.hi (omega (arith, h.hi_older)) (omega (arith, g.hi_older)) (omega (arith, h.hi_older)) (omega (arith, g.hi_older))
      (λ bits. value-hi r r_held h bits ∙ same (changed bits h.node.level true) ∙ ap (λ l. value_of nodes s (changed bits l true)) level ∙ sym (value-hi s s_held g bits)) in
      let node : h.node ≡ g.node = λ i. record { level = level i; lo = lo i; hi = hi i } in
      number-unique levels nodes all r s h.node h.is (g.is ∙ ap Some (sym node))

  -- the two constants differ
  constants : (r s : ℕ) → r < 2 → s < 2 → Same r s → r ≡ s
  constants r s r_constant s_constant same = by (cases_lt r 1) (cases_lt s 1)
    where
      none : Bits
      none = λ _. false

      by : (r < 1) ⊎ (1 ≤ r) → (s < 1) ⊎ (1 ≤ s) → r ≡ s
      by (inl p) (inl q) = omega arith
      by (inr p) (inr q) = omega arith
      by (inl p) (inr q) =
          let is : r ≡ 0 = omega arith in
          let at : s ≡ 1 = omega arith in
          absurd (true≢false (sym (value-one nodes none) ∙ ap (λ x. value_of nodes x none) (sym at) ∙ sym (same none) ∙ ap (λ x. value_of nodes x none) is ∙ value-zero nodes none))
      by (inr p) (inl q) =
          let is : r ≡ 1 = omega arith in
          let at : s ≡ 0 = omega arith in
          absurd (true≢false (sym (value-one nodes none) ∙ ap (λ x. value_of nodes x none) (sym is) ∙ same none ∙ ap (λ x. value_of nodes x none) at ∙ value-zero nodes none))

  -- where the first is a node: it stands above the second, below it, or beside it
  node-first : (bound r s : ℕ) → OneBelow bound → r < suc bound → s < suc bound → r < number_of_next nodes → s < number_of_next nodes → Same r s → Holds levels nodes r → r ≡ s
  node-first bound r s one r_bounded s_bounded r_held s_held same h = by (cases_lt h.node.level (level_or levels nodes s))
    where
      below_it : level_or levels nodes s ≤ h.node.level → Holds levels nodes s → r ≡ s
      below_it upper g = by_level (cases_lt g.node.level h.node.level)
        where
          by_level : (g.node.level < h.node.level) ⊎ (h.node.level ≤ g.node.level) → r ≡ s
          by_level (inl lower) = absurd (split bound s r one s_bounded s_held r_held (λ bits. sym (same bits)) g (omega (arith, lower, h.level)))
          by_level (inr equal) = alike bound r s one r_bounded s_bounded r_held s_held same h g (omega (arith, equal, upper, g.level))

      by : (h.node.level < level_or levels nodes s) ⊎ (level_or levels nodes s ≤ h.node.level) → r ≡ s
      by (inl lower) = absurd (split bound r s one r_bounded r_held s_held same h lower)
      by (inr upper) = by_number (cases_lt s 2)
        where
          by_number : (s < 2) ⊎ (2 ≤ s) → r ≡ s
          by_number (inl constant) = absurd (let e = level-constant levels nodes s constant in omega (arith, e, upper, h.level_exists))
          by_number (inr node) = below_it upper (node-held levels nodes all s node s_held)

  step : (bound : ℕ) → OneBelow bound → OneBelow (suc bound)
  step bound one r s r_bounded s_bounded r_held s_held same = by (cases_lt r 2) (cases_lt s 2)
    where
      by : (r < 2) ⊎ (2 ≤ r) → (s < 2) ⊎ (2 ≤ s) → r ≡ s
      by (inr node) any = node-first bound r s one r_bounded s_bounded r_held s_held same (node-held levels nodes all r node r_held)
      by (inl constant) (inr node) = sym (node-first bound s r one s_bounded r_bounded s_held r_held (λ bits. sym (same bits)) (node-held levels nodes all s node s_held))
      by (inl constant) (inl other) = constants r s constant other same

  one-below : (bound : ℕ) → OneBelow bound
  one-below zero = λ r s r_bounded s_bounded r_held s_held same. absurd (omega arith)
  one-below (suc bound) = step bound (one-below bound)

  pub canonical : (r s : ℕ) → r < number_of_next nodes → s < number_of_next nodes → ((bits : Bits) → value_of nodes r bits ≡ value_of nodes s bits) → r ≡ s
  canonical r s r_held s_held same = one-below (number_of_next nodes) r s r_held s_held r_held s_held same
