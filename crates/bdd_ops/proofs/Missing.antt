-- Where a node was wanted and not made, no ref has the value of the answer.
use Rattle.std.proofs.Common.{◌≡◌, ◌==◌, ◌<◌, ◌≤◌, ◌⊎◌, ℕ, Bool, true, false, if◌then◌else◌, List, ◌∷◌, leb, refl, sym, ap, ◌∙◌, inl, inr, arith}
use Rattle.std.proofs.lemmas.Bool.{eqb-true, false_from_ne_true, cases_lt, leb-true, le-leb}
use Rattle.node_table.specs.declared.node.Node.{Node}
use Rattle.node_table.specs.Table.{Bits, Table, value_at, top_of, number_of_next, FitsOn, IsValid, IsEnd, IsRefused}
use Rattle.node_table.proofs.Nodes.{Holds, node-held, level-constant, level-within, value-cons, value-first}
use Rattle.node_table.proofs.Canonical.{changed, value-below, value-changed, value-lo, value-hi, canonical}
use Rattle.bdd_ops.specs.declared.choice.Choice.{Choice}
use Rattle.bdd_ops.specs.Levels.{is_in, sources, target_or, renamed}
use Rattle.bdd_ops.specs.Meaning.{DependsOn, IsMissing}
use Rattle.bdd_ops.specs.Recursion.{AreValid, ite_value, low_of, AreCofactors}
use Rattle.bdd_ops.proofs.Hiding.{changed-at, ite-free}
use Rattle.bdd_ops.proofs.Maps.{renamed-source, target-rises, target-source}
use Rattle.bdd_ops.proofs.Renamed.{IsRenaming, end-depends}

pub missing-same : (t : Table) (meaning other : Bits → Bool) → ((bits : Bits) → meaning bits ≡ other bits) → IsMissing t meaning → IsMissing t other
missing-same t meaning other same missing r valid is = missing r valid (λ bits. is bits ∙ sym (same bits))

-- `mk` was refused
pub refused-missing : {t : Table} {level lo hi : ℕ} → IsValid t lo → IsValid t hi → level < top_of t lo → level < top_of t hi → IsRefused t (record { level = level; lo = lo; hi = hi }) → IsMissing t (λ bits. if bits level then value_at t hi bits else value_at t lo bits)
refused-missing {t} {level} {lo} {hi} low high lo_below hi_below refused r valid same =
    let n : Node = record { level = level; lo = lo; hi = hi } in
    let within = level-within t.levels t.nodes low.table.nodes lo in
    let fits : FitsOn t.levels t.nodes n = record { lo_held = low.held; hi_held = high.held; lo_below = lo_below; hi_below = hi_below; ends_differ = refused.ends_differ; level_exists = omega (arith, within, lo_below); is_new = refused.is_new } in
    let is : r ≡ number_of_next t.nodes = canonical t.levels (n ∷ t.nodes) (fits, low.table.nodes) r (number_of_next t.nodes) (omega (arith, valid.held)) (omega arith)
    (λ bits. value-cons n t.nodes r valid.held bits ∙ same bits ∙ sym (value-first n t.nodes (number_of_next t.nodes) refl bits)) in
    omega (arith, is, valid.held)

module _ (t : Table) (r : ℕ) (valid : IsValid t r) (level : ℕ) where
  -- a ref that asks no bit above a level stands no higher
  pub top-from-value : level ≤ t.levels → ((u v : Bits) → ((k : ℕ) → level ≤ k → u k ≡ v k) → value_at t r u ≡ value_at t r v) → level ≤ top_of t r
  top-from-value within below = by_number (cases_lt r 2)
    where
      by_top : 2 ≤ r → (top_of t r < level) ⊎ (level ≤ top_of t r) → level ≤ top_of t r
      by_top node (inr is) = is
      by_top node (inl above) =
          let h : Holds t.levels t.nodes r = node-held t.levels t.nodes valid.table.nodes r node valid.held in
          let other : (bits : Bits) (b : Bool) (k : ℕ) → level ≤ k → changed bits h.node.level b k ≡ bits k = λ bits b k low.
          ap (λ is. if is then b else bits k) (false_from_ne_true (k == h.node.level) (λ e. let same = eqb-true k h.node.level e in omega (arith, same, low, above, h.level))) in
          absurd (h.ends_differ (canonical t.levels t.nodes valid.table.nodes h.node.lo h.node.hi (omega (arith, h.lo_older, valid.held)) (omega (arith, h.hi_older, valid.held)) (λ bits.
          value-lo t.levels t.nodes valid.table.nodes r valid.held h bits
          ∙ below (changed bits h.node.level false) (changed bits h.node.level true) (λ k low. other bits false k low ∙ sym (other bits true k low))
          ∙ sym (value-hi t.levels t.nodes valid.table.nodes r valid.held h bits))))

      by_number : (r < 2) ⊎ (2 ≤ r) → level ≤ top_of t r
      by_number (inl constant) = let top = level-constant t.levels t.nodes r constant in omega (arith, top, within)
      by_number (inr node) = by_top node (cases_lt (top_of t r) level)

  -- what is left of a ref that is held, once a bit is fixed, is held
  pub cofactor-held : level < t.levels → level ≤ top_of t r → (b : Bool) → (s : ℕ) × IsValid t s × ((bits : Bits) → value_at t s bits ≡ value_at t r (changed bits level b))
  cofactor-held exists under b = by (cases_lt level (top_of t r))
    where
      end : (b : Bool) → (h : Holds t.levels t.nodes r) → h.node.level ≡ level → (s : ℕ) × IsValid t s × ((bits : Bits) → value_at t s bits ≡ value_at t r (changed bits level b))
      end true h is = (
        h.node.hi,
        record { table = valid.table; held = omega (arith, h.hi_older, valid.held) },
        λ bits. value-hi t.levels t.nodes valid.table.nodes r valid.held h bits ∙ ap (λ l. value_at t r (changed bits l true)) is,
      )
      end false h is = (
        h.node.lo,
        record { table = valid.table; held = omega (arith, h.lo_older, valid.held) },
        λ bits. value-lo t.levels t.nodes valid.table.nodes r valid.held h bits ∙ ap (λ l. value_at t r (changed bits l false)) is,
      )

      at_level : top_of t r ≤ level → (r < 2) ⊎ (2 ≤ r) → (s : ℕ) × IsValid t s × ((bits : Bits) → value_at t s bits ≡ value_at t r (changed bits level b))
      at_level low (inl constant) = absurd (let top = level-constant t.levels t.nodes r constant in omega (arith, top, low, exists))
      at_level low (inr node) =
          let h : Holds t.levels t.nodes r = node-held t.levels t.nodes valid.table.nodes r node valid.held in
          end b h (omega (arith, h.level, low, under))

      by : (level < top_of t r) ⊎ (top_of t r ≤ level) → (s : ℕ) × IsValid t s × ((bits : Bits) → value_at t s bits ≡ value_at t r (changed bits level b))
      by (inl below) = (r, valid, λ bits. sym (value-changed t.levels t.nodes valid.table.nodes r valid.held level below bits b))
      by (inr low) = at_level low (cases_lt r 2)

-- where no ref has what is left of a meaning, none has the meaning
pub missing-cofactor : (t : Table) (level : ℕ) → level < t.levels → (b : Bool) (meaning left : Bits → Bool) → ((u v : Bits) → ((k : ℕ) → level ≤ k → u k ≡ v k) → meaning u ≡ meaning v) → ((bits : Bits) → left bits ≡ meaning (changed bits level b)) → IsMissing t left → IsMissing t meaning
missing-cofactor t level exists b meaning left below is missing r valid same =
    let top = top-from-value t r valid level (omega arith) (λ u v agree. same u ∙ below u v agree ∙ sym (same v)) in
    let s = cofactor-held t r valid level exists top b in
    missing s.0 s.1 (λ bits. s.2 bits ∙ same (changed bits level b) ∙ sym (is bits))

-- `ite` below one of its steps
pub ite-missing : {t : Table} (s : Table) {c d : Choice} {level : ℕ} {bit : Bool} → AreValid t c → level ≡ low_of t c → level < s.levels → AreCofactors t level bit c d → IsMissing s (λ bits. ite_value t d bits) → IsMissing s (λ bits. ite_value t c bits)
ite-missing {t} s {c} {d} {level} {bit} all is exists cofactors missing =
    missing-cofactor s level exists bit (ite_value t c) (ite_value t d)
    (λ u v agree.
    let f = value-below t.levels t.nodes all.f.table.nodes c.f all.f.held u v (λ k low. agree k (omega (arith, low, is))) in
    let g = value-below t.levels t.nodes all.f.table.nodes c.g all.g.held u v (λ k low. agree k (omega (arith, low, is))) in
    let h = value-below t.levels t.nodes all.f.table.nodes c.h all.h.held u v (λ k low. agree k (omega (arith, low, is))) in
    λ i. if f i then g i else h i)
    (λ bits. sym (ite-free t d cofactors.valid level cofactors.below bits bit) ∙ sym (cofactors.value (changed bits level bit) (changed-at bits level bit)))
    missing

-- a value depends on the bits that it depends on from its level on
depends-from : (t : Table) (levels : List ℕ) (f : ℕ) → IsValid t f → DependsOn t levels f → (u v : Bits) → ((k : ℕ) → is_in levels k ≡ true → top_of t f ≤ k → u k ≡ v k) → value_at t f u ≡ value_at t f v
depends-from t levels f valid depends u v same =
    let w : Bits = λ k. if leb (top_of t f) k then u k else v k in
    value-below t.levels t.nodes valid.table.nodes f valid.held u w (λ k low. sym (ap (λ b. if b then u k else v k) (le-leb (top_of t f) k low)))
    ∙ depends w v (λ k member. by k member (leb (top_of t f) k) refl)
  where
    by : (k : ℕ) → is_in levels k ≡ true → (b : Bool) → leb (top_of t f) k ≡ b → (if b then u k else v k) ≡ v k
    by k member true low = same k member (leb-true (top_of t f) k low)
    by k member false low = refl

-- `rename` below one of its steps
pub renamed-missing : {t : Table} (s : Table) (pairs : List (ℕ × ℕ)) {f level to end : ℕ} {bit : Bool} → IsRenaming pairs t f level to → IsEnd t f bit end → s.levels ≡ t.levels → IsMissing s (λ bits. value_at t end (renamed pairs bits)) → IsMissing s (λ bits. value_at t f (renamed pairs bits))
renamed-missing {t} s pairs {f} {level} {to} {end} {bit} at is levels missing =
    let within = target-source t.levels pairs at.within level at.source in
    missing-cofactor s to (omega (arith, within, levels, at.target t.levels)) bit (λ bits. value_at t f (renamed pairs bits)) (λ bits. value_at t end (renamed pairs bits))
    (λ u v agree. depends-from t (sources pairs) f at.valid at.covered (renamed pairs u) (renamed pairs v) (λ k inside low.
    renamed-source pairs k t.levels inside u
    ∙ agree (target_or t.levels pairs k) (no_higher k (cases_lt level k) (omega (arith, low, at.top)))
    ∙ sym (renamed-source pairs k t.levels inside v)))
    (λ bits.
    depends-from t (sources pairs) end is.valid (end-depends t (sources pairs) f at.valid at.covered bit end is) (renamed pairs bits) (renamed pairs (changed bits to bit)) (λ k inside low.
    renamed-source pairs k t.levels inside bits
    ∙ sym (other bits (target_or t.levels pairs k) (below k (omega (arith, low, at.top, is.below))))
    ∙ sym (renamed-source pairs k t.levels inside (changed bits to bit)))
    ∙ sym (is.value (renamed pairs (changed bits to bit)) (read bits)))
    missing
  where
    below : (k : ℕ) → level < k → to < target_or t.levels pairs k
    below k less = let rise = target-rises t.levels pairs at.rising at.within level k at.source less in omega (arith, rise, at.target t.levels)

    no_higher : (k : ℕ) → (level < k) ⊎ (k ≤ level) → level ≤ k → to ≤ target_or t.levels pairs k
    no_higher k (inl less) low = let rise = below k less in omega (arith, rise)
    no_higher k (inr more) low =
        let same : k ≡ level = omega arith in
        let equal = ap (target_or t.levels pairs) same in
        omega (arith, equal, at.target t.levels)

    other : (bits : Bits) (k : ℕ) → to < k → changed bits to bit k ≡ bits k
    other bits k less = ap (λ same. if same then bit else bits k) (false_from_ne_true (k == to) (λ e. let same = eqb-true k to e in omega (arith, same, less)))

    read : (bits : Bits) → renamed pairs (changed bits to bit) (top_of t f) ≡ bit
    read bits =
        ap (renamed pairs (changed bits to bit)) at.top
        ∙ renamed-source pairs level 0 at.source (changed bits to bit)
        ∙ ap (changed bits to bit) (at.target 0)
        ∙ changed-at bits to bit
