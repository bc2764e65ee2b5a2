-- What renaming levels gives, step by step.
use Rattle.std.proofs.Common.{◌≡◌, ◌==◌, ◌<◌, ◌≤◌, ℕ, Bool, true, false, if◌then◌else◌, List, refl, sym, ap, ◌∙◌, arith}
use Rattle.std.proofs.lemmas.Bool.{eqb-true, true≢false, false_from_ne_true}
use Rattle.node_table.specs.Table.{Bits, Table, value_at, top_of, IsValid, IsEnd, Grows, Makes}
use Rattle.node_table.proofs.Nodes.{Holds, node-held, level-constant}
use Rattle.node_table.proofs.Canonical.{changed, value-changed, value-lo, value-hi, canonical}
use Rattle.node_table.proofs.Growth.{valid-grows}
use Rattle.bdd_ops.specs.declared.choice.Choice.{Choice}
use Rattle.bdd_ops.specs.Levels.{is_in, SameAt, sources, target_or, renamed, IsRisingMap, TargetsWithin}
use Rattle.bdd_ops.specs.Meaning.{DependsOn}
use Rattle.bdd_ops.specs.Recursion.{AreValid, StandsBelow, IsRenamed}
use Rattle.bdd_ops.proofs.Choices.{by-bit, stands-grows}
use Rattle.bdd_ops.proofs.Hiding.{changed-at, value-constant}
use Rattle.bdd_ops.proofs.Maps.{renamed-source, target-within, target-rises}

module _ (t : Table) (levels : List ℕ) (f : ℕ) (valid : IsValid t f) (depends : DependsOn t levels f) where
  -- a node asks a bit that its value depends on
  pub top-in : 2 ≤ f → is_in levels (top_of t f) ≡ true
  top-in node = by (is_in levels (top_of t f)) refl
    where
      h : Holds t.levels t.nodes f
      h = node-held t.levels t.nodes valid.table.nodes f node valid.held

      same : is_in levels (top_of t f) ≡ false → (bits : Bits) → SameAt levels (changed bits h.node.level false) (changed bits h.node.level true)
      same out bits k member =
          let apart : (k == h.node.level) ≡ false = false_from_ne_true (k == h.node.level) (λ e. true≢false (sym member ∙ ap (is_in levels) (eqb-true k h.node.level e ∙ sym h.level) ∙ out)) in
          ap (λ is. if is then false else bits k) apart ∙ sym (ap (λ is. if is then true else bits k) apart)

      by : (b : Bool) → is_in levels (top_of t f) ≡ b → is_in levels (top_of t f) ≡ true
      by true is = is
      by false out =
          absurd (h.ends_differ (canonical t.levels t.nodes valid.table.nodes h.node.lo h.node.hi (omega (arith, h.lo_older, valid.held)) (omega (arith, h.hi_older, valid.held)) (λ bits.
          value-lo t.levels t.nodes valid.table.nodes f valid.held h bits
          ∙ depends (changed bits h.node.level false) (changed bits h.node.level true) (same out bits)
          ∙ sym (value-hi t.levels t.nodes valid.table.nodes f valid.held h bits))))

  -- an end depends on no more
  pub end-depends : (bit : Bool) (end : ℕ) → IsEnd t f bit end → DependsOn t levels end
  end-depends bit end is u v same =
      let level = top_of t f in
      let at : (w : Bits) → value_at t end w ≡ value_at t f (changed w level bit) = λ w.
      sym (value-changed t.levels t.nodes valid.table.nodes end is.valid.held level is.below w bit)
      ∙ sym (is.value (changed w level bit) (changed-at w level bit)) in
      at u
      ∙ depends (changed u level bit) (changed v level bit) (λ k member. λ i. if k == level then bit else same k member i)
      ∙ sym (at v)

pub depends-grows : (a b : Table) → Grows a b → (levels : List ℕ) (f : ℕ) → IsValid a f → DependsOn a levels f → DependsOn b levels f
depends-grows a b grow levels f valid depends u v same = grow.value f valid.held u ∙ depends u v same ∙ sym (grow.value f valid.held v)

module _ (pairs : List (ℕ × ℕ)) where
  -- a constant stays
  pub renamed-constant : (t : Table) (f : ℕ) → IsValid t f → f < 2 → TargetsWithin t.levels pairs → StandsBelow t (target_or t.levels pairs (top_of t f)) f (λ bits. value_at t f (renamed pairs bits))
  renamed-constant t f valid constant within = record {
    valid = valid;
    top =
        let top = level-constant t.levels t.nodes f constant in
        let under = target-within t.levels pairs within (top_of t f) in
        omega (arith, top, under);
    value = λ bits. value-constant t f constant bits (renamed pairs bits);
  }

  module _ (a b : Table) (grow : Grows a b) (same : b.levels ≡ a.levels) where
    pub renamed-later : (c : Choice) (r : ℕ) → AreValid a c → StandsBelow b (target_or a.levels pairs (top_of a c.f)) r (λ bits. value_at a c.f (renamed pairs bits)) → IsRenamed pairs b c r
    renamed-later c r all s = record {
      valid = s.valid;
      top =
          let floor : target_or b.levels pairs (top_of b c.f) ≡ target_or a.levels pairs (top_of a c.f) = λ i. target_or (same i) pairs (grow.top same c.f all.f.held i) in
          omega (arith, floor, s.top);
      value = λ bits. s.value bits ∙ sym (grow.value c.f all.f.held (renamed pairs bits));
    }

    pub IsRenamed-grows : (c : Choice) (r : ℕ) → AreValid a c → IsRenamed pairs a c r → IsRenamed pairs b c r
    IsRenamed-grows c r all s = renamed-later c r all (stands-grows a b grow same (target_or a.levels pairs (top_of a c.f)) r (λ bits. value_at a c.f (renamed pairs bits)) s)

  -- what is known of a node whose level goes to another one
  pub record IsRenaming (t : Table) (f level to : ℕ) : Type 0 where
    pub rising : IsRisingMap pairs
    pub within : TargetsWithin t.levels pairs
    pub valid : IsValid t f
    pub covered : DependsOn t (sources pairs) f
    pub top : top_of t f ≡ level
    pub source : is_in (sources pairs) level ≡ true
    pub target : (other : ℕ) → target_or other pairs level ≡ to

  pub renaming : (t : Table) (f level to : ℕ) → IsRisingMap pairs → TargetsWithin t.levels pairs → IsValid t f → DependsOn t (sources pairs) f → 2 ≤ f → top_of t f ≡ level → ((other : ℕ) → target_or other pairs level ≡ to) → IsRenaming t f level to
  renaming t f level to rising within valid covered node top target = record {
    rising = rising;
    within = within;
    valid = valid;
    covered = covered;
    top = top;
    source = sym (ap (is_in (sources pairs)) top) ∙ top-in t (sources pairs) f valid covered node;
    target = target;
  }

  -- the answers at both ends lie below the target, and a node over them has the value of f renamed
  pub record IsRenamedStep (t b : Table) (f to lo hi : ℕ) : Type 0 where
    pub floor : target_or t.levels pairs (top_of t f) ≡ to
    pub lo_valid : IsValid b lo
    pub hi_valid : IsValid b hi
    pub lo_below : to < top_of b lo
    pub hi_below : to < top_of b hi
    pub node : (bits : Bits) → (if bits to then value_at b hi bits else value_at b lo bits) ≡ value_at t f (renamed pairs bits)

  pub renamed-both : {t a b : Table} {f level to lo hi f0 f1 : ℕ} → IsRenaming t f level to → IsEnd t f false f0 → IsEnd t f true f1 → Grows t a → a.levels ≡ t.levels → Grows a b → b.levels ≡ a.levels → StandsBelow a (target_or t.levels pairs (top_of t f0)) lo (λ bits. value_at t f0 (renamed pairs bits)) → StandsBelow b (target_or a.levels pairs (top_of a f1)) hi (λ bits. value_at a f1 (renamed pairs bits)) → IsRenamedStep t b f to lo hi
  renamed-both {t} {a} {b} {f} {level} {to} {lo} {hi} {f0} {f1} at zero_end one_end first first_levels second second_levels low high = record {
    floor = ap (target_or t.levels pairs) at.top ∙ at.target t.levels;
    lo_valid = valid-grows a b second lo low.valid;
    hi_valid = high.valid;
    lo_below =
        let top = second.top second_levels lo low.valid.held in
        let rise = target-rises t.levels pairs at.rising at.within level (top_of t f0) at.source (omega (arith, at.top, zero_end.below)) in
        omega (arith, top, rise, at.target t.levels, low.top);
    hi_below =
        let same : target_or a.levels pairs (top_of a f1) ≡ target_or t.levels pairs (top_of t f1) = λ i. target_or (first_levels i) pairs (first.top first_levels f1 one_end.valid.held i) in
        let rise = target-rises t.levels pairs at.rising at.within level (top_of t f1) at.source (omega (arith, at.top, one_end.below)) in
        omega (arith, same, rise, at.target t.levels, high.top);
    node =
        by-bit to (value_at b lo) (value_at b hi) (λ bits. value_at t f (renamed pairs bits))
        (λ bits is. second.value lo low.valid.held bits ∙ low.value bits ∙ sym (zero_end.value (renamed pairs bits) (read bits false is)))
        (λ bits is. high.value bits ∙ first.value f1 one_end.valid.held (renamed pairs bits) ∙ sym (one_end.value (renamed pairs bits) (read bits true is)));
  }
    where
      -- the bit at the target is the one that is read at the level
      read : (bits : Bits) (bit : Bool) → bits to ≡ bit → renamed pairs bits (top_of t f) ≡ bit
      read bits bit is = ap (renamed pairs bits) at.top ∙ renamed-source pairs level 0 at.source bits ∙ ap bits (at.target 0) ∙ is

  pub renamed-step : {t b new : Table} {f to lo hi r : ℕ} → IsRenamedStep t b f to lo hi → Makes b new to lo hi r → StandsBelow new (target_or t.levels pairs (top_of t f)) r (λ bits. value_at t f (renamed pairs bits))
  renamed-step step made = record {
    valid = made.valid;
    top = omega (arith, step.floor, made.top);
    value = λ bits. made.value bits ∙ step.node bits;
  }
