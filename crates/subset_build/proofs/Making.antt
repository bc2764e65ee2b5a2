-- The state of a set is what its image says.
use Rattle.std.proofs.Common.{◌≡◌, ◌<◌, ◌≤◌, ◌&&◌, ℕ, suc, Bool, true, List, [], ◌∷◌, slice_index, get_or, All, refl, sym, ap, ◌∙◌, subst, inl, inr, arith}
use Rattle.node_table.specs.Table.{Bits, Table, value_at, top_of, IsValid, Grows}
use Rattle.node_table.proofs.Growth.{grows-trans, valid-grows}
use Rattle.bdd_ops.specs.Levels.{is_in, SameAt, sources}
use Rattle.bdd_ops.specs.Meaning.{DependsOn}
use Rattle.bdd_ops.proofs.Members.{same-tests}
use Rattle.bdd_ops.proofs.Renamed.{depends-grows}
use Rattle.bdd_walk.specs.Cuts.{IsLeft}
use Rattle.part_relation.specs.Plans.{all_hold, AreValid}
use Rattle.part_relation.proofs.Free.{fits-grow, parts-grow}
use Rattle.det_core.specs.declared.det.Move.{Move}
use Rattle.subset_build.specs.declared.prepared.Prepared.{Prepared}
use Rattle.subset_build.specs.Relations.{Relation, present_of, Reads, AreInOrder}
use Rattle.subset_build.specs.Tables.{IsLeftAt, AreLeft}
use Rattle.subset_build.specs.Subsets.{IsNext, IsImage, AreMovesOf, IsState, HaveCommon, AreNextOf}
use Rattle.subset_build.specs.Preparing.{IsLevelBelow, IsStepOf, IsGroundOf}
use Rattle.subset_build.proofs.Stepping.{keep-low}
use Rattle.subset_build.proofs.Cutting.{left-is-next, left-same, next-depends}

pub holds-grow : (a b : Table) → Grows a b → (parts : List ℕ) → AreValid a parts → (u : Bits) → all_hold b parts u ≡ all_hold a parts u
holds-grow a b grow [] valid u = refl
holds-grow a b grow (part ∷ parts) valid u =
    let here : IsValid a part = valid 0 part (omega arith) in
    λ i. grow.value part here.held u i && holds-grow a b grow parts (λ k d within. valid (suc k) d (omega (arith, within))) u i

pub reads-grow : (a b : Table) → Grows a b → (levels : List ℕ) (r : ℕ) → Reads a levels r → Reads b levels r
reads-grow a b grow levels r reads = record { valid = valid-grows a b grow r reads.valid; depends = depends-grows a b grow levels r reads.valid reads.depends }

module _ (a b : Table) (grow : Grows a b) (same : b.levels ≡ a.levels) (parts : List ℕ) (p : Prepared) (rel : Relation) where
  pub steps-grow : IsStepOf a parts p rel → IsStepOf b parts p rel
  steps-grow is = record {
    order = subst (λ levels. AreInOrder levels rel.keep rel.state) (sym same) is.order;
    parts_valid = parts-grow a b grow parts is.parts_valid;
    holds = λ u. holds-grow a b grow parts is.parts_valid u ∙ is.holds u;
    prepared = record {
      fits = fits-grow a b grow parts p.plan is.parts_valid is.prepared.fits;
      hides = λ k low. is.prepared.hides k (omega (arith, low, same));
      keep_rises = is.prepared.keep_rises;
      map_is = is.prepared.map_is;
      level_is = is.prepared.level_is;
    };
  }

  pub ground-grows : (acc valid : ℕ) → IsGroundOf a parts p acc valid rel → IsGroundOf b parts p acc valid rel
  ground-grows acc valid is = record {
    steps = steps-grow is.steps;
    acc_set = reads-grow a b grow (present_of rel.state) acc is.acc_set;
    acc_is = λ q. grow.value acc is.acc_set.valid.held q ∙ is.acc_is q;
    letters = reads-grow a b grow rel.keep valid is.letters;
  }

-- the level lies among those of the space
pub level-low : (levels : ℕ) (keep : List ℕ) (state : List (ℕ × ℕ)) (level : ℕ) → AreInOrder levels keep state → IsLevelBelow keep level → level ≤ levels
level-low levels keep state level order is = elim is.least [
  | inl first ↦ omega (arith, first)
  | inr some ↦ let low = keep-low levels keep state order some.0 some.1 in omega (arith, low, some.2)
]

-- all states lie below the letters
pub states-below : (keep : List ℕ) (level l : ℕ) → IsLevelBelow keep level → ((k : ℕ) → is_in keep k ≡ true → k < l) → level ≤ l
states-below keep level l is above = elim is.least [
  | inl first ↦ omega (arith, first)
  | inr some ↦ let less = above some.0 some.1 in omega (arith, less, some.2)
]

pub image-grows : (a b : Table) (rel : Relation) (from to : Bits → Bool) (f : ℕ) → Grows a b → IsValid a f → ((q : Bits) → from q ≡ to q) → IsImage a rel from f → IsImage b rel to f
image-grows a b rel from to f grow valid same is = record {
  found = λ v one. let (q, at, step) = is.found v (sym (grow.value f valid.held v) ∙ one) in (q, sym (same q) ∙ at, step);
  has = λ q v one step. grow.value f valid.held v ∙ is.has q v (same q ∙ one) step;
}

module _ (a t : Table) (grow : Grows a t) (rel : Relation) (parts : List ℕ) (p : Prepared) (acc valid set f : ℕ) (ground : IsGroundOf a parts p acc valid rel) (is_set : Reads a (present_of rel.state) set)
    (image : IsImage t rel (value_at a set) f) where
  abbrev above : (k : ℕ) → is_in rel.keep k ≡ true → k < p.level
  above = ground.steps.prepared.level_is.all

  abbrev next_below : (k : ℕ) → is_in (sources rel.state) k ≡ true → p.level ≤ k
  next_below k member = states-below rel.keep p.level k ground.steps.prepared.level_is (λ j letter. ground.steps.order.above_next j k letter member)

  abbrev present_below : (k : ℕ) → is_in (present_of rel.state) k ≡ true → p.level ≤ k
  present_below k member = states-below rel.keep p.level k ground.steps.prepared.level_is (λ j letter. ground.steps.order.above_present j k letter member)

  is-next : (letter : Bits) (s : ℕ) → IsValid t s → p.level ≤ top_of t s → IsLeft t p.level f letter s → IsNext rel (value_at a set) letter (value_at t s)
  is-next letter s s_valid low left = left-is-next t rel p.level above next_below present_below (value_at a set) is_set.depends f image letter s s_valid low left

  -- the sets that came
  pub sets-came : (old new : List ℕ) → AreLeft t (value_at a valid) p.level f old new → AreNextOf t rel (value_at a valid) (value_at a set) old new
  sets-came old new came k late less =
      let is : IsLeftAt t (value_at a valid) p.level f (slice_index new k) = came k late less in
      let next = is-next is.letter (slice_index new k) is.valid is.below is.left in
      record {
        is_set = record { valid = is.valid; depends = next-depends t rel p.level above next_below present_below (value_at a set) is_set.depends f image is.letter (value_at t (slice_index new k)) next };
        letter = is.letter;
        is_letter = is.is_letter;
        next = next;
      }

  -- a guard reads the letter alone
  guard-reads : (sets : List ℕ) (moves : List Move) → AreMovesOf t (value_at a valid) p.level f sets moves → All (λ m. DependsOn t rel.keep m.guard) moves
  guard-reads sets moves are k d within u v same = same-tests (value_at t (get_or moves k d).guard u) (value_at t (get_or moves k d).guard v) (later u v same) (later v u (λ i m. sym (same i m)))
    where
      later : (u v : Bits) → SameAt rel.keep u v → value_at t (get_or moves k d).guard u ≡ true → value_at t (get_or moves k d).guard v ≡ true
      later u v same one =
          let left = are.lefts k d within in
          are.whole k d within v
          (ground.letters.depends v u (λ i m. sym (same i m)) ∙ are.guards.within k d within u one)
          (left-same t rel p.level above next_below present_below (value_at a set) is_set.depends f image u v (slice_index sets (get_or moves k d).target) left.0 left.1 same (are.leads k d within u one))

  -- the state of the set
  pub state-made : (sets : List ℕ) (k : ℕ) (accepting : Bool) (moves : List Move) → slice_index sets k ≡ set → HaveCommon a set acc accepting → AreMovesOf t (value_at a valid) p.level f sets moves → IsState t rel (value_at a valid) sets k (record { accepting = accepting; moves = moves })
  state-made sets k accepting moves here common are =
      let now : (q : Bits) → value_at t (slice_index sets k) q ≡ value_at a set q = λ q. ap (λ r. value_at t r q) here ∙ grow.value set is_set.valid.held q in
      let from : value_at a set ≡ value_at t (slice_index sets k) = (λ i q. sym (now q) i) in
      record {
        accepts = λ yes. let (q, one, two) = common.found yes in (q, now q ∙ one, sym (ground.acc_is q) ∙ two);
        accepted = λ q one two. common.has q (sym (now q) ∙ one) (ground.acc_is q ∙ two);
        guards = are.guards;
        depends = guard-reads sets moves are;
        covers = are.covers;
        within = are.within;
        leads = λ j m within letter one.
            let left = are.lefts j m within in
            subst (λ (x : Bits → Bool). IsNext rel x letter (value_at t (slice_index sets (get_or moves j m).target))) from
            (is-next letter (slice_index sets (get_or moves j m).target) left.0 left.1 (are.leads j m within letter one));
      }

-- the same by the spaces of the calls: before, once it is known whether the set accepts, with the image, with the moves
module _ (a b d t : Table) (rel : Relation) (parts : List ℕ) (p : Prepared) (acc valid set f : ℕ) (ground : IsGroundOf a parts p acc valid rel) (is_set : Reads a (present_of rel.state) set)
    (grow : Grows a b) (same : b.levels ≡ a.levels) (grow2 : Grows b d) (grow3 : Grows d t) (f_valid : IsValid d f)
    (image : (rel : Relation) → IsStepOf b parts p rel → Reads b (present_of rel.state) set → IsImage d rel (value_at b set) f) where
  whole : Grows a d
  whole = grows-trans a b d grow grow2

  image-is : IsImage t rel (value_at a set) f
  image-is =
      image-grows d t rel (value_at b set) (value_at a set) f grow3 f_valid (λ q. grow.value set is_set.valid.held q)
      (image rel (ground-grows a b grow same parts p rel acc valid ground).steps (reads-grow a b grow (present_of rel.state) set is_set))

  letters-are : value_at d valid ≡ value_at a valid
  letters-are i u = whole.value valid ground.letters.valid.held u i

  pub made-came : (old new : List ℕ) → AreLeft t (value_at d valid) p.level f old new → AreNextOf t rel (value_at a valid) (value_at a set) old new
  made-came old new came = sets-came a t (grows-trans a d t whole grow3) rel parts p acc valid set f ground is_set image-is old new (subst (λ letters. AreLeft t letters p.level f old new) letters-are came)

  pub made-state : (sets : List ℕ) (k : ℕ) (accepting : Bool) (moves : List Move) → slice_index sets k ≡ set → HaveCommon a set acc accepting → AreMovesOf t (value_at d valid) p.level f sets moves → IsState t rel (value_at a valid) sets k (record { accepting = accepting; moves = moves })
  made-state sets k accepting moves here common are =
      state-made a t (grows-trans a d t whole grow3) rel parts p acc valid set f ground is_set image-is sets k accepting moves here common (subst (λ letters. AreMovesOf t letters p.level f sets moves) letters-are are)
