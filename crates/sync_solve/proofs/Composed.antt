-- F beside the automaton has the words of both.
use Rattle.std.proofs.Common.{◌≡◌, ◌==◌, ◌+◌, ◌-◌, ◌*◌, ◌^◌, ◌<◌, ◌≤◌, ◌&&◌, ◌++◌, ◌↔◌, ℕ, Bool, true, false, List, [], ◌∷◌, length, get_or, inl, inr, refl, sym, ap, ◌∙◌, subst, arith}
use Rattle.std.specs.List.{All}
use Rattle.node_table.specs.Table.{Bits, Table, value_at, IsValid, Grows}
use Rattle.node_table.proofs.Growth.{grows-refl, grows-trans, valid-grows}
use Rattle.bdd_ops.specs.Levels.{is_in, SameAt, sources}
use Rattle.bdd_ops.specs.Meaning.{StandsFor}
use Rattle.bdd_ops.proofs.Members.{same-tests}
use Rattle.bdd_ops.proofs.Renamed.{depends-grows}
use Rattle.mv_encoding.specs.Layouts.{Layout, levels_of, is_letter, IsLaid}
use Rattle.mv_encoding.specs.Spots.{AreLaid, all_levels, spell_values}
use Rattle.std.proofs.lemmas.List.Elements.{All-tail, All-append}
use Rattle.std.proofs.lemmas.List.Folds.{list_all-append}
use Rattle.mv_encoding.proofs.Ranges.{range-in}
use Rattle.part_relation.specs.Plans.{all_hold, AreValid}
use Rattle.net_model.specs.Problems.{File}
use Rattle.net_frame.specs.Placing.{FileSpots}
use Rattle.net_frame.specs.Frames.{Frame}
use Rattle.net_relation.proofs.Written.{each-level}
use Rattle.net_relation.proofs.PlacedNet.{left-laid}
use Rattle.frame_words.specs.Levels as levels
use Rattle.det_core.specs.Automata.{BitWord, State, state_at, AreLetters, has_word, IsDet, AreGuardsValid, MeetsRule, ReadsAlone}
use Rattle.det_core.specs.Codes.{steps_by}
use Rattle.det_core.specs.Languages.{letters_of}
use Rattle.det_core.proofs.Completions.{stands-grows}
use Rattle.det_core.proofs.Runs.{rule-grows, words-grow}
use Rattle.subset_build.specs.Relations.{Relation, HasRun, relation_of, present_of, Reads, AreInOrder}
use Rattle.subset_build.proofs.Making.{holds-grow}
use Rattle.sync_solve.specs.declared.machine.Machine.{Machine}
use Rattle.sync_solve.specs.Products.{beside, AreBeside}
use Rattle.sync_solve.specs.Codes.{code_levels, next_levels, code_back, state_number, next_number, coded, AreCoded}
use Rattle.sync_solve.specs.Files.{file_levels, AreDiagrams}
use Rattle.sync_solve.specs.Safe.{IsComposed}
use Rattle.sync_solve.specs.Composed.{AreHeld, AreBoth, IsProduct}
use Rattle.sync_solve.proofs.Products.{in-left, in-right, in-either, present-append, product-words}
use Rattle.sync_solve.proofs.Codes.{number-same, code-sources, code-targets, guard-same, in-state, coded-words}
use Rattle.sync_solve.proofs.Reading.{file-reads, layout-same}
use Rattle.sync_solve.proofs.Files.{file-words, valid-grow}
use Rattle.sync_solve.proofs.Orders.{behind-file, behind-both, order-of}

-- the diagrams of a file

pub held-later : (a b : Table) → Grows a b → (file : File) (spots : FileSpots) (m : Machine) → AreDiagrams a file spots m.parts m.init m.acc → AreHeld b m
held-later a b grow file spots m are = record {
  parts = λ k d within. valid-grows a b grow (get_or m.parts k d) (are.steps.valid k d within);
  init = valid-grows a b grow m.init are.initial.valid;
  acc = valid-grows a b grow m.acc are.accepting.valid;
}

pub coded-held : (base t : Table) (det : List State) (first digits : ℕ) (m : Machine) → AreCoded base t det first digits m.parts m.init m.acc → AreHeld t m
coded-held base t det first digits m are = record { parts = are.valid; init = are.initial.valid; acc = are.accepting.valid }

pub guards-later : (a b : Table) → Grows a b → (letters : Bits → Bool) (det : List State) → MeetsRule a letters det → All (λ s. AreGuardsValid b s.moves) det
guards-later a b grow letters det rule k d within i m inside = valid-grows a b grow (get_or (get_or det k d).moves i m).guard ((rule k d within).valid i m inside)

reads-later : (a b : Table) → Grows a b → (levels : List ℕ) (letters : Bits → Bool) (det : List State) → MeetsRule a letters det → ReadsAlone a levels det → ReadsAlone b levels det
reads-later a b grow levels letters det rule reads k d within i m inside =
    depends-grows a b grow levels (get_or (get_or det k d).moves i m).guard ((rule k d within).valid i m inside) (reads k d within i m inside)

right-laid : (t : Table) (xs ys : List Layout) → AreLaid t (xs ++ ys) → AreLaid t ys
right-laid t [] ys laid = laid
right-laid t (x ∷ xs) ys laid = right-laid t xs ys (All-tail (λ s. IsLaid s t) x (xs ++ ys) laid)

laid-low : (t : Table) (spots : List Layout) → AreLaid t spots → (k : ℕ) → is_in (all_levels spots) k ≡ true → k < t.levels
laid-low t spots laid = each-level (λ k. k < t.levels) spots (λ i d within k member.
    let at = range-in _ (get_or spots i d).first k member in
    let less = laid i d within (k - (get_or spots i d).first) (omega (arith, at.0, at.1)) in
    omega (arith, less, at.0))

module _ (t : Table) (spots : FileSpots) (parts : List ℕ) (init acc : ℕ) where
  file-low : (file : File) → AreDiagrams t file spots parts init acc → (k : ℕ) → is_in (file_levels spots) k ≡ true → k < t.levels
  file-low file are k member = elim (in-either (all_levels spots.signals) (all_levels spots.present ++ all_levels spots.next) k member) [
    | inl there ↦ laid-low t spots.signals are.placed.signals_laid k there
    | inr states ↦ elim (in-either (all_levels spots.present) (all_levels spots.next) k states) [
      | inl there ↦ laid-low t spots.present (left-laid t spots.present spots.next are.placed.states_laid) k there
      | inr there ↦ laid-low t spots.next (right-laid t spots.present spots.next are.placed.states_laid) k there
    ]
  ]

  file-now : (file : File) → AreDiagrams t file spots parts init acc → (k : ℕ) → is_in (present_of spots.back) k ≡ true → is_in (file_levels spots) k ≡ true
  file-now file are k member =
      in-right (all_levels spots.signals) (all_levels spots.present ++ all_levels spots.next) k
      (in-left (all_levels spots.present) (all_levels spots.next) k (sym (are.placed.targets_are k) ∙ member))

  file-next : (file : File) → AreDiagrams t file spots parts init acc → (k : ℕ) → is_in (sources spots.back) k ≡ true → is_in (file_levels spots) k ≡ true
  file-next file are k member =
      in-right (all_levels spots.signals) (all_levels spots.present ++ all_levels spots.next) k
      (in-right (all_levels spots.present) (all_levels spots.next) k (sym (are.placed.sources_are k) ∙ member))

  file-init : (file : File) → AreDiagrams t file spots parts init acc → (u v : Bits) → SameAt (present_of spots.back) u v → value_at t init u ≡ value_at t init v
  file-init file are u v same = are.initial.depends u v (λ k member. same k (are.placed.targets_are k ∙ member))

  file-acc : (file : File) → AreDiagrams t file spots parts init acc → (u v : Bits) → SameAt (present_of spots.back) u v → value_at t acc u ≡ value_at t acc v
  file-acc file are u v same = are.accepting.depends u v (λ k member. same k (are.placed.targets_are k ∙ member))

  -- of its levels those above its states are its letters
  file-letter : (start : ℕ) → levels.LiesAround t start spots → (k : ℕ) → k < start → is_in (file_levels spots) k ≡ true → is_in (all_levels spots.letters) k ≡ true
  file-letter start around k low member = elim (in-either (all_levels spots.signals) (all_levels spots.present ++ all_levels spots.next) k member) [
    | inl there ↦ elim (around.signals k there) [
      | inl letter ↦ letter
      | inr high ↦ absurd (omega (arith, low, high))
    ]
    | inr states ↦ elim (in-either (all_levels spots.present) (all_levels spots.next) k states) [
      | inl there ↦ let high = (around.present k there).0 in absurd (omega (arith, low, high))
      | inr there ↦ let high = (around.next k there).0 in absurd (omega (arith, low, high))
    ]
  ]

module _ (old mid s t : Table) (frame : Frame) (file : File) (f own both : Machine) (others : List State) (first digits : ℕ) (back : List (ℕ × ℕ))
    (are : AreDiagrams old file frame.f f.parts f.init f.acc) (order : levels.AreInOrder old frame) (is_det : IsDet others)
    (rule : MeetsRule old (spell_values frame.s.letters) others) (reads : ReadsAlone old (all_levels frame.s.letters) others)
    (first_is : first ≡ old.levels) (enough : length others ≤ 2 ^ digits) (to_mid : Grows old mid) (to_s : Grows old s) (high : first + 2 * digits ≤ t.levels)
    (code : AreCoded mid s others first digits own.parts own.init own.acc) (joined : AreBoth s t f own both) (back_is : back ≡ frame.f.back ++ code_back first digits) where
  abbrev f_rel : Relation
  f_rel = relation_of old f.parts f.init f.acc (all_levels frame.f.letters) frame.f.back

  abbrev own_rel : Relation
  own_rel = coded mid others (all_levels frame.s.letters) first digits

  abbrev own_levels : List ℕ
  own_levels = all_levels frame.s.letters ++ (code_levels first digits ++ next_levels first digits)

  mid-rule : MeetsRule mid (spell_values frame.s.letters) others
  mid-rule = rule-grows old mid to_mid (spell_values frame.s.letters) others rule

  mid-reads : ReadsAlone mid (all_levels frame.s.letters) others
  mid-reads = reads-later old mid to_mid (all_levels frame.s.letters) (spell_values frame.s.letters) others rule reads

  s-low : (k : ℕ) → is_in (all_levels frame.s.letters) k ≡ true → k < first
  s-low k member = let low = order.s.letters k member in let within = order.within in omega (arith, low, within, first_is)

  -- what the coded automaton reads
  steps-same : (u v : Bits) → SameAt own_levels u v → own_rel.holds u ≡ own_rel.holds v
  steps-same u v same =
      let letters : SameAt (all_levels frame.s.letters) u v = λ k member. same k (in-left (all_levels frame.s.letters) (code_levels first digits ++ next_levels first digits) k member) in
      let codes : SameAt (code_levels first digits ++ next_levels first digits) u v = λ k member. same k (in-right (all_levels frame.s.letters) (code_levels first digits ++ next_levels first digits) k member) in
      let now = number-same (code_levels first digits) u v (λ k member. codes k (in-left (code_levels first digits) (next_levels first digits) k member)) in
      let next = number-same (next_levels first digits) u v (λ k member. codes k (in-right (code_levels first digits) (next_levels first digits) k member)) in
      (λ i. steps_by mid others (now i) u (next i))
      ∙ same-tests (steps_by mid others (state_number first digits v) u (next_number first digits v)) (own_rel.holds v)
      (guard-same mid others (spell_values frame.s.letters) (all_levels frame.s.letters) first digits is_det mid-rule mid-reads enough s-low (state_number first digits v) u v letters (next_number first digits v))
      (guard-same mid others (spell_values frame.s.letters) (all_levels frame.s.letters) first digits is_det mid-rule mid-reads enough s-low (state_number first digits v) v u (λ k member. sym (letters k member)) (next_number first digits v))

  number-state : (u v : Bits) → SameAt (present_of (code_back first digits)) u v → state_number first digits u ≡ state_number first digits v
  number-state = in-state mid others (spell_values frame.s.letters) (all_levels frame.s.letters) first digits is_det mid-rule mid-reads enough s-low

  -- no level of the codes is one of the file
  code-apart : (k : ℕ) → first ≤ k → is_in (file_levels frame.f) k ≡ false
  code-apart k above = pick (is_in (file_levels frame.f) k) refl
    where
      pick : (b : Bool) → is_in (file_levels frame.f) k ≡ b → is_in (file_levels frame.f) k ≡ false
      pick false is = is
      pick true is = let low = file-low old frame.f f.parts f.init f.acc file are k is in absurd (omega (arith, low, above, first_is))

  now-level : (k : ℕ) → is_in (present_of (code_back first digits)) k ≡ true → (is_in (code_levels first digits) k ≡ true) × (first ≤ k)
  now-level k member = let there = sym (ap (λ l. is_in l k) (code-targets first digits)) ∙ member in (there, (range-in digits first k there).0)

  next-level : (k : ℕ) → is_in (sources (code_back first digits)) k ≡ true → (is_in (next_levels first digits) k ≡ true) × (first ≤ k)
  next-level k member =
      let there = sym (ap (λ l. is_in l k) (code-sources first digits)) ∙ member in
      let low = (range-in digits (first + digits) k there).0 in
      (there, omega (arith, low))

  code-high : (k : ℕ) → is_in (code_levels first digits ++ next_levels first digits) k ≡ true → first ≤ k
  code-high k member = elim (in-either (code_levels first digits) (next_levels first digits) k member) [
    | inl there ↦ (range-in digits first k there).0
    | inr there ↦ let low = (range-in digits (first + digits) k there).0 in omega (arith, low)
  ]

  -- of the automaton's levels those above its codes are its letters
  own-letter : (k : ℕ) → k < first → is_in own_levels k ≡ true → is_in (all_levels frame.s.letters) k ≡ true
  own-letter k low member = elim (in-either (all_levels frame.s.letters) (code_levels first digits ++ next_levels first digits) k member) [
    | inl there ↦ there
    | inr codes ↦ let above = code-high k codes in absurd (omega (arith, low, above))
  ]

  apart : AreBeside f_rel own_rel (levels_of frame.x) (file_levels frame.f) own_levels
  apart = record {
    a_holds = file-reads old old file frame.f f.parts are.sound are.placed are.meanings;
    b_holds = steps-same;
    a_init = file-init old frame.f f.parts f.init f.acc file are;
    b_init = λ u v same i. number-state u v same i == 0;
    a_acc = file-acc old frame.f f.parts f.init f.acc file are;
    b_acc = λ u v same i. (state_at others (number-state u v same i)).accepting;
    a_now = file-now old frame.f f.parts f.init f.acc file are;
    a_next = file-next old frame.f f.parts f.init f.acc file are;
    b_now = λ k member.
        let at = now-level k member in
        (in-right (all_levels frame.s.letters) (code_levels first digits ++ next_levels first digits) k (in-left (code_levels first digits) (next_levels first digits) k at.0), code-apart k at.1);
    b_next = λ k member.
        let at = next-level k member in
        (in-right (all_levels frame.s.letters) (code_levels first digits ++ next_levels first digits) k (in-right (code_levels first digits) (next_levels first digits) k at.0), code-apart k at.1);
    shared = λ k of_file of_own.
        let low = file-low old frame.f f.parts f.init f.acc file are k of_file in
        let letter = own-letter k (omega (arith, low, first_is)) of_own in
        (file-letter old frame.f f.parts f.init f.acc order.start order.f k (order.s.letters k letter) of_file, letter);
    kept_a = λ k member of_file. file-letter old frame.f f.parts f.init f.acc order.start order.f k (order.x k member) of_file;
    kept_b = λ k member of_own. let low = order.x k member in let within = order.within in own-letter k (omega (arith, low, within, first_is)) of_own;
  }

  f-held : AreHeld old f
  f-held = held-later old old (grows-refl old are.initial.valid.table) file frame.f f are

  -- the relation of the diagrams is that of both
  rel-is : relation_of t both.parts both.init both.acc (levels_of frame.x) back ≡ beside (levels_of frame.x) f_rel own_rel
  rel-is i = record {
    init = λ q. (joined.initial.value q ∙ (λ j. to_s.value f.init f-held.init.held q j && code.initial.value q j)) i;
    acc = λ q. (joined.accepting.value q ∙ (λ j. to_s.value f.acc f-held.acc.held q j && code.accepting.value q j)) i;
    holds = λ u. (joined.steps u ∙ (λ j. holds-grow old s to_s f.parts f-held.parts u j && code.steps u j)) i;
    keep = levels_of frame.x;
    state = back_is i;
  }

  same-words : (ws : BitWord) → HasRun own_rel ws ↔ (has_word old others ws ≡ true)
  same-words ws =
      let coded_ws = coded-words mid others (spell_values frame.s.letters) (all_levels frame.s.letters) first digits is_det mid-rule mid-reads enough s-low ws in
      let same = words-grow old mid to_mid others (λ k d within. (rule k d within).valid) ws in
      (λ run. sym same ∙ coded_ws.0 run, λ has. coded_ws.1 (same ∙ has))

  in-back-left : (k : ℕ) → is_in (present_of frame.f.back) k ≡ true → is_in (present_of back) k ≡ true
  in-back-left k member =
      ap (λ b. is_in (present_of b) k) back_is ∙ ap (λ l. is_in l k) (present-append frame.f.back (code_back first digits))
      ∙ in-left (present_of frame.f.back) (present_of (code_back first digits)) k member

  in-back-right : (k : ℕ) → is_in (present_of (code_back first digits)) k ≡ true → is_in (present_of back) k ≡ true
  in-back-right k member =
      ap (λ b. is_in (present_of b) k) back_is ∙ ap (λ l. is_in l k) (present-append frame.f.back (code_back first digits))
      ∙ in-right (present_of frame.f.back) (present_of (code_back first digits)) k member

  init-reads : Reads t (present_of back) both.init
  init-reads = record {
    valid = joined.initial.valid;
    depends = λ u v same.
        let now : SameAt (present_of frame.f.back) u v = λ k member. same k (in-back-left k member) in
        let later : SameAt (present_of (code_back first digits)) u v = λ k member. same k (in-back-right k member) in
        ap (λ r. r.init u) rel-is
        ∙ (λ i. file-init old frame.f f.parts f.init f.acc file are u v now i && (number-state u v later i == 0))
        ∙ sym (ap (λ r. r.init v) rel-is);
  }

  acc-reads : Reads t (present_of back) both.acc
  acc-reads = record {
    valid = joined.accepting.valid;
    depends = λ u v same.
        let now : SameAt (present_of frame.f.back) u v = λ k member. same k (in-back-left k member) in
        let later : SameAt (present_of (code_back first digits)) u v = λ k member. same k (in-back-right k member) in
        ap (λ r. r.acc u) rel-is
        ∙ (λ i. file-acc old frame.f f.parts f.init f.acc file are u v now i && (state_at others (number-state u v later i)).accepting)
        ∙ sym (ap (λ r. r.acc v) rel-is);
  }

  pub product-is : IsProduct old t frame file others both back
  product-is = record {
    order =
        let behind = behind-both old t order.start first digits frame.f.back (omega (arith, first_is)) high order.within (behind-file old order.start file frame.f f.parts f.init f.acc are order.f) in
        let within = order.within in
        subst (λ b. AreInOrder t.levels (levels_of frame.x) b) (sym back_is)
        (order-of t order.start (levels_of frame.x) (frame.f.back ++ code_back first digits) (omega (arith, within, first_is, high)) order.x behind);
    valid = joined.valid;
    init = init-reads;
    acc = acc-reads;
    words = λ xs.
        let runs = product-words f_rel own_rel (levels_of frame.x) (file_levels frame.f) own_levels apart xs in (
          λ run.
              let (ws, same, of_f, of_own) = runs.0 (subst (λ rel. HasRun rel xs) rel-is run) in
              (ws, same, (file-words old file frame.f f.parts f.init f.acc (all_levels frame.f.letters) are (λ k. refl) ws).0 of_f, (same-words ws).0 of_own),
          λ (ws, same, in_f, has).
              subst (λ rel. HasRun rel xs) (sym rel-is)
              (runs.1 (ws, same, (file-words old file frame.f f.parts f.init f.acc (all_levels frame.f.letters) are (λ k. refl) ws).1 in_f, (same-words ws).1 has)),
        );
  }

-- the diagrams of both

pub both-are : (s m t : Table) (a b : Machine) (parts : List ℕ) (init acc : ℕ) → AreHeld s a → AreHeld s b → Grows s m → Grows m t
    → StandsFor m init (λ q. value_at s a.init q && value_at s b.init q) → StandsFor t acc (λ q. value_at m a.acc q && value_at m b.acc q) → parts ≡ a.parts ++ b.parts
    → AreBoth s t a b (record { parts = parts; init = init; acc = acc })
both-are s m t a b parts init acc of_a of_b to_m to_t initial accepting is =
    let grow = grows-trans s m t to_m to_t in
    record {
      valid = subst (λ l. AreValid t l) (sym is) (All-append (IsValid t) a.parts b.parts (valid-grow s t grow a.parts of_a.parts) (valid-grow s t grow b.parts of_b.parts));
      steps = λ u.
          ap (λ l. all_hold t l u) is ∙ list_all-append (λ part. value_at t part u) a.parts b.parts
          ∙ (λ i. holds-grow s t grow a.parts of_a.parts u i && holds-grow s t grow b.parts of_b.parts u i);
      initial = stands-grows m t to_t init (λ q. value_at s a.init q && value_at s b.init q) initial;
      accepting = record {
        valid = accepting.valid;
        value = λ q. accepting.value q ∙ (λ i. to_m.value a.acc of_a.acc.held q i && to_m.value b.acc of_b.acc.held q i);
      };
    }

-- a relation stays as it is when the space grows
pub relation-grows : (a b : Table) → Grows a b → (parts : List ℕ) (init acc : ℕ) (keep : List ℕ) (state : List (ℕ × ℕ)) → AreValid a parts → IsValid a init → IsValid a acc
    → relation_of b parts init acc keep state ≡ relation_of a parts init acc keep state
relation-grows a b grow parts init acc keep state valid of_init of_acc i = record {
  init = λ q. grow.value init of_init.held q i;
  acc = λ q. grow.value acc of_acc.held q i;
  holds = λ u. holds-grow a b grow parts valid u i;
  keep = keep;
  state = state;
}

-- which bits are letters of a layout depends on its levels alone
pub letters-read : (t : Table) (layout : Layout) (keep : List ℕ) (r : ℕ) → keep ≡ levels_of layout → StandsFor t r (letters_of layout) → Reads t keep r
letters-read t layout keep r is stands = record {
  valid = stands.valid;
  depends = λ u v same. stands.value u ∙ (λ i. is_letter layout.scope (layout-same layout u v (λ k member. same k (ap (λ l. is_in l k) is ∙ member)) i)) ∙ sym (stands.value v);
}

-- the answer of the subset construction on the product
pub words-composed : (old s t u : Table) (frame : Frame) (file : File) (others : List State) (m : Machine) (back : List (ℕ × ℕ)) (keep : List ℕ) (valid : ℕ) (det : List State)
    → IsProduct old s frame file others m back → Grows s t → keep ≡ levels_of frame.x → StandsFor t valid (letters_of frame.x)
    → ((word : BitWord) → AreLetters (value_at t valid) word → (has_word u det word ≡ true) ↔ HasRun (relation_of t m.parts m.init m.acc keep back) word)
    → (xs : BitWord) → AreLetters (letters_of frame.x) xs → (has_word u det xs ≡ true) ↔ IsComposed old frame file others xs
words-composed old s t u frame file others m back keep valid det is grow keep_is stands words xs letters =
    let rel_is : relation_of t m.parts m.init m.acc keep back ≡ relation_of s m.parts m.init m.acc (levels_of frame.x) back =
    ap (λ k. relation_of t m.parts m.init m.acc k back) keep_is ∙ relation-grows s t grow m.parts m.init m.acc (levels_of frame.x) back is.valid is.init.valid is.acc.valid in
    let by_runs = words xs (subst (λ l. AreLetters l xs) (λ i bits. sym (stands.value bits) i) letters) in
    let runs = is.words xs in
    (λ has. runs.0 (subst (λ rel. HasRun rel xs) rel_is (by_runs.0 has)), λ composed. by_runs.1 (subst (λ rel. HasRun rel xs) (sym rel_is) (runs.1 composed)))
