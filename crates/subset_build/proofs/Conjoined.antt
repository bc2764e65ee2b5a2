-- Parts that are joined, and that their relation is the same.
use Rattle.std.proofs.Common.{◌≡◌, ◌+◌, ◌<◌, ◌++◌, ◌&&◌, ℕ, zero, suc, Bool, true, false, List, [], ◌∷◌, length, take, get_or, refl, sym, ap, ◌∙◌, arith}
use Rattle.std.specs.List.{list_all}
use Rattle.std.proofs.Math.Seq.{take-length}
use Rattle.std.proofs.lemmas.List.Folds.{list_all-append, list_all_more}
use Rattle.std.proofs.lemmas.List.Elements.{All-push}
use Rattle.node_table.specs.Table.{Bits, Table, value_at, IsValid, Grows}
use Rattle.node_table.proofs.Growth.{valid-grows, grows-trans}
use Rattle.bdd_ops.specs.Meaning.{StandsFor}
use Rattle.part_relation.specs.Plans.{all_hold, AreValid}
use Rattle.part_relation.proofs.Free.{parts-grow}
use Rattle.subset_build.specs.Relations.{relation_of, present_of, Reads}
use Rattle.subset_build.specs.Subsets.{AreSoMany}
use Rattle.subset_build.proofs.Making.{holds-grow, reads-grow}
use Rattle.subset_build.proofs.Exploring.{sets-first}

-- the parts that were joined, and the last, stand for the first k parts of the old space
pub record IsJoined (old now : Table) (parts joined : List ℕ) (last k : ℕ) : Type 0 where
  pub valid : AreValid now joined
  pub last_valid : IsValid now last
  pub same : (bits : Bits) → (all_hold now joined bits && value_at now last bits) ≡ list_all (λ part. value_at old part bits) (take k parts)
  pub grows : Grows old now
  pub levels : now.levels ≡ old.levels

and-assoc : (a b c : Bool) → (a && (b && c)) ≡ ((a && b) && c)
and-assoc true b c = refl
and-assoc false b c = refl

and-true : (a : Bool) → (a && true) ≡ a
and-true true = refl
and-true false = refl

module _ (old a b : Table) (parts joined : List ℕ) (last k : ℕ) (before : IsJoined old a parts joined last k) (are : AreValid old parts) (here : k < length parts) (grow : Grows a b) (same_levels : b.levels ≡ a.levels) where
  -- the value of the part is what it was
  part-same : (bits : Bits) → value_at a (get_or parts k 0) bits ≡ value_at old (get_or parts k 0) bits
  part-same bits = before.grows.value (get_or parts k 0) (are k 0 here).held bits

  more : (bits : Bits) → (list_all (λ p. value_at old p bits) (take k parts) && value_at a (get_or parts k 0) bits) ≡ list_all (λ p. value_at old p bits) (take (k + 1) parts)
  more bits =
      ap (λ x. list_all (λ p. value_at old p bits) (take k parts) && x) (part-same bits)
      ∙ sym (list_all_more (λ p. value_at old p bits) parts k 0 here)

  -- it is joined to the last
  pub joined-more : (both : ℕ) → StandsFor b both (λ bits. value_at a last bits && value_at a (get_or parts k 0) bits) → IsJoined old b parts joined both (k + 1)
  joined-more both stands = record {
    valid = parts-grow a b grow joined before.valid;
    last_valid = stands.valid;
    same = λ bits.
        (λ i. holds-grow a b grow joined before.valid bits i && stands.value bits i)
        ∙ and-assoc (all_hold a joined bits) (value_at a last bits) (value_at a (get_or parts k 0) bits)
        ∙ ap (λ x. x && value_at a (get_or parts k 0) bits) (before.same bits)
        ∙ more bits;
    grows = grows-trans old a b before.grows grow;
    levels = same_levels ∙ before.levels;
  }

  -- the last is put behind the others, and it is the last
  pub joined-anew : IsJoined old b parts (joined ++ last ∷ []) (get_or parts k 0) (k + 1)
  joined-anew = record {
    valid = All-push (IsValid b) joined last (parts-grow a b grow joined before.valid) (valid-grows a b grow last before.last_valid);
    last_valid = valid-grows a b grow (get_or parts k 0) (valid-grows old a before.grows (get_or parts k 0) (are k 0 here));
    same = λ bits.
        ap (λ x. x && value_at b (get_or parts k 0) bits) (pushed bits)
        ∙ ap (λ x. list_all (λ p. value_at old p bits) (take k parts) && x) (grow.value (get_or parts k 0) (valid-grows old a before.grows (get_or parts k 0) (are k 0 here)).held bits)
        ∙ more bits;
    grows = grows-trans old a b before.grows grow;
    levels = same_levels ∙ before.levels;
  }
    where
      pushed : (bits : Bits) → all_hold b (joined ++ last ∷ []) bits ≡ list_all (λ p. value_at old p bits) (take k parts)
      pushed bits =
          list_all-append (λ p. value_at b p bits) joined (last ∷ [])
          ∙ (λ i. holds-grow a b grow joined before.valid bits i && (and-true (value_at b last bits) ∙ grow.value last before.last_valid.held bits) i)
          ∙ before.same bits

-- all parts were taken
pub joined-all : (old now : Table) (parts joined : List ℕ) (last k : ℕ) → IsJoined old now parts joined last k → k ≡ length parts → (bits : Bits) → all_hold now (joined ++ last ∷ []) bits ≡ all_hold old parts bits
joined-all old now parts joined last k is all bits =
    list_all-append (λ p. value_at now p bits) joined (last ∷ [])
    ∙ ap (λ x. all_hold now joined bits && x) (and-true (value_at now last bits))
    ∙ is.same bits
    ∙ ap (λ xs. list_all (λ p. value_at old p bits) xs) (ap (λ n. take n parts) all ∙ take-length parts)

-- the relation of joined parts is that of the parts, and so it is in the space that has them
module _ (a b : Table) (grow : Grows a b) (parts joined : List ℕ) (init acc : ℕ) (keep : List ℕ) (state : List (ℕ × ℕ)) (is_init : IsValid a init) (is_acc : IsValid a acc) (same : (bits : Bits) → all_hold b joined bits ≡ all_hold a parts bits) where
  pub relation-same : relation_of b joined init acc keep state ≡ relation_of a parts init acc keep state
  relation-same i = record {
    init = λ q. grow.value init is_init.held q i;
    acc = λ q. grow.value acc is_acc.held q i;
    holds = λ u. same u i;
    keep = keep;
    state = state;
  }

pub letters-same : (a b : Table) → Grows a b → (valid : ℕ) → IsValid a valid → value_at b valid ≡ value_at a valid
letters-same a b grow valid is i u = grow.value valid is.held u i

-- the initial states are one set
pub one-set : (a b : Table) → Grows a b → (parts : List ℕ) (init acc : ℕ) (keep : List ℕ) (state : List (ℕ × ℕ)) (letters : Bits → Bool) → Reads a (present_of state) init → AreSoMany b (relation_of a parts init acc keep state) letters 1
one-set a b grow parts init acc keep state letters reads = record {
  sets = init ∷ [];
  are_sets = sets-first b (relation_of a parts init acc keep state) letters (init ∷ []) init 0 (reads-grow a b grow (present_of state) init reads) (grow.value init reads.valid.held)
      (record {
        extends = record { longer = omega arith; same = λ k less. absurd (omega (arith, less)) };
        few = omega arith;
        within = omega arith;
        is_set = refl;
        only = λ k later less. alone k less;
      });
  different = λ i j d less within. absurd (omega (arith, less, within));
  number = refl;
}
  where
    alone : (k : ℕ) → k < length (init ∷ []) → get_or (init ∷ []) k 0 ≡ init
    alone zero less = refl
    alone (suc k) less = absurd (omega (arith, less))
