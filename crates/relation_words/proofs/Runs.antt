-- Runs on bits are runs of the file.
use Rattle.std.proofs.Common.{◌≡◌, ◌==◌, ◌+◌, ◌++◌, ◌||◌, ◌↔◌, ℕ, true, false, List, [], ◌∷◌, length, map, get_or, sym, ap, ◌∙◌, subst, length-append, arith}
use Rattle.std.proofs.Math.Bool.{or-true}
use Rattle.std.proofs.lemmas.Bool.{or_parts}
use Rattle.std.proofs.lemmas.Grind.{flat_map-append}
use Rattle.std.proofs.lemmas.List.{get_or_append_left, get_or-append-add, get_or_default}
use Rattle.std.proofs.lemmas.List.Folds.{list_any-append}
use Rattle.std.specs.List.{AllPairs}
use Rattle.node_table.specs.Table.{Bits, Table}
use Rattle.bdd_ops.specs.Levels.{is_in, renamed}
use Rattle.mv_encoding.specs.Layouts.{levels_of}
use Rattle.mv_encoding.specs.Spots.{AreSpots, AreApart, all_levels, spelled, variables_at}
use Rattle.mv_encoding.proofs.Apart.{written, spelled-same, spelled-back}
use Rattle.net_model.specs.Words.{IsLetter}
use Rattle.net_model.specs.Automata.{RunsFrom}
use Rattle.net_model.specs.Files.{File, FileWords}
use Rattle.net_model.specs.Outlines.{outline}
use Rattle.net_model.proofs.Outlined.{file-wired}
use Rattle.net_model.specs.NetLanguages.{states_of}
use Rattle.net_frame.specs.Placing.{FileSpots}
use Rattle.net_relation.specs.Relations.{step_code, StepsOf, IsInitialOf, IsAcceptingOf}
use Rattle.net_relation.proofs.PlacedNet as placed-net
use Rattle.net_relation.proofs.Spelled.{spots-of}
use Rattle.net_relation.proofs.Written.{apart-out, each-level}
use Rattle.det_core.specs.Automata.{BitWord}
use Rattle.subset_build.specs.Relations.{Relation, StepsBy, HasRun, relation_of}
use Rattle.relation_words.specs.NetRelations.{IsRelationOf}
use Rattle.relation_words.proofs.Ends.{initial-letter, state-letter, next-letter}
use Rattle.relation_words.proofs.Numbered.{file-language}

module _ (t : Table) (file : File) (spots : FileSpots) (parts : List ℕ) (init acc : ℕ) (keep : List ℕ) (is : IsRelationOf t file spots parts init acc keep) where
  abbrev rel : Relation
  rel = relation_of t parts init acc keep spots.back

  present-spots : AreSpots spots.present
  present-spots = (spots-of spots.present (states_of (outline file)) is.placed.present).0

  next-spots : AreSpots spots.next
  next-spots = (spots-of spots.next (states_of (outline file)) is.placed.next).0

  letter-spots : AreSpots spots.letters
  letter-spots = placed-net.wired-are t (outline file) spots (file-wired file is.sound) is.placed

  present-apart : AllPairs AreApart spots.present
  present-apart i j d less within =
      let long = length-append spots.present spots.next in
      let apart = is.placed.states_apart i j d less (omega (arith, within, long)) in
      subst (λ b. AreApart (get_or spots.present i d) b) (get_or_append_left spots.present spots.next d j within)
      (subst (λ a. AreApart a (get_or (spots.present ++ spots.next) j d)) (get_or_append_left spots.present spots.next d i (omega (arith, less, within))) apart)

  next-apart : AllPairs AreApart spots.next
  next-apart i j d less within =
      let long = length-append spots.present spots.next in
      let apart = is.placed.states_apart (length spots.present + i) (length spots.present + j) d (omega (arith, less)) (omega (arith, within, long)) in
      subst (λ b. AreApart (get_or spots.next i d) b) (get_or-append-add spots.present spots.next j d)
      (subst (λ a. AreApart a (get_or (spots.present ++ spots.next) (length spots.present + j) d)) (get_or-append-add spots.present spots.next i d) apart)

  -- no present value has a level of a next one
  pub across : (k : ℕ) → is_in (all_levels spots.present) k ≡ true → is_in (all_levels spots.next) k ≡ false
  across = each-level (λ k. is_in (all_levels spots.next) k ≡ false) spots.present (λ i d within k at.
      apart-out (get_or spots.present i d) spots.next
      (λ j e inside.
      let long = length-append spots.present spots.next in
      let apart = is.placed.states_apart i (length spots.present + j) e (omega (arith, within)) (omega (arith, inside, long)) in
      let here : get_or (spots.present ++ spots.next) i e ≡ get_or spots.present i d = get_or_append_left spots.present spots.next e i within ∙ get_or_default spots.present i e d within in
      subst (λ b. AreApart (get_or spots.present i d) b) (get_or-append-add spots.present spots.next j e)
      (subst (λ a. AreApart a (get_or (spots.present ++ spots.next) (length spots.present + j) e)) here apart))
      k at)

  -- and no letter has one of either
  beside : (k : ℕ) → is_in (all_levels spots.letters) k ≡ true → (is_in (all_levels spots.present) k ≡ false) × (is_in (all_levels spots.next) k ≡ false)
  beside = each-level (λ k. (is_in (all_levels spots.present) k ≡ false) × (is_in (all_levels spots.next) k ≡ false)) spots.letters (λ i d within k at.
      or_parts (is_in (all_levels spots.present) k) (is_in (all_levels spots.next) k)
      (sym (list_any-append (λ l. l == k) (all_levels spots.present) (all_levels spots.next))
      ∙ ap (λ levels. is_in levels k) (sym (flat_map-append levels_of spots.present spots.next))
      ∙ apart-out (get_or spots.letters i d) (spots.present ++ spots.next) (is.placed.letters_apart i d within) k at))

  -- a step on bits is one of the file
  pub step-of : (q a r : Bits) → StepsBy rel q a r → StepsOf file (spelled spots.present q) (spelled spots.letters a) (spelled spots.present r)
  step-of q a r (u, j) =
      let now : spelled spots.present u ≡ spelled spots.present q = spelled-same spots.present present-spots u q (λ k member. j.now k (is.placed.targets_are k ∙ member)) in
      let letter : spelled spots.letters u ≡ spelled spots.letters a = spelled-same spots.letters letter-spots u a (λ k member. j.letter k (is.letters k ∙ member)) in
      let next : spelled spots.next u ≡ spelled spots.present r = spelled-same spots.next next-spots u (renamed spots.back r) (λ k member. j.next k (is.placed.sources_are k ∙ member)) ∙ is.placed.reads r in
      subst (λ p. StepsOf file p (spelled spots.letters a) (spelled spots.present r)) now
      (subst (λ l. StepsOf file (spelled spots.present u) l (spelled spots.present r)) letter
      (subst (λ n. StepsOf file (spelled spots.present u) (spelled spots.letters u) n) next
      (is.steps.found u j.is_step)))

  over-states : (q : Bits) → IsLetter (states_of (outline file)) (spelled spots.present q) → IsLetter (variables_at spots.present) (spelled spots.present q)
  over-states q letter = subst (λ scope. IsLetter scope (spelled spots.present q)) (sym (spots-of spots.present (states_of (outline file)) is.placed.present).1) letter

  -- the levels of a step are those of its present state, its letter and its next state
  in-first : (k : ℕ) → is_in (all_levels spots.present) k ≡ true → is_in (step_code spots).levels k ≡ true
  in-first k member = list_any-append (λ l. l == k) (all_levels spots.present) (all_levels spots.letters ++ all_levels spots.next) ∙ ap (λ b. b || is_in (all_levels spots.letters ++ all_levels spots.next) k) member

  behind : (k : ℕ) → is_in (all_levels spots.letters ++ all_levels spots.next) k ≡ true → is_in (step_code spots).levels k ≡ true
  behind k member =
      list_any-append (λ l. l == k) (all_levels spots.present) (all_levels spots.letters ++ all_levels spots.next)
      ∙ ap (λ b. is_in (all_levels spots.present) k || b) member ∙ or-true (is_in (all_levels spots.present) k)

  in-second : (k : ℕ) → is_in (all_levels spots.letters) k ≡ true → is_in (step_code spots).levels k ≡ true
  in-second k member = behind k (list_any-append (λ l. l == k) (all_levels spots.letters) (all_levels spots.next) ∙ ap (λ b. b || is_in (all_levels spots.next) k) member)

  in-third : (k : ℕ) → is_in (all_levels spots.next) k ≡ true → is_in (step_code spots).levels k ≡ true
  in-third k member =
      behind k (list_any-append (λ l. l == k) (all_levels spots.letters) (all_levels spots.next)
      ∙ ap (λ b. is_in (all_levels spots.letters) k || b) member ∙ or-true (is_in (all_levels spots.letters) k))

  -- and each step of the file is one on bits
  pub step-on : (q a : Bits) (s : List ℕ) → StepsOf file (spelled spots.present q) (spelled spots.letters a) s → (r : Bits) × StepsBy rel q a r × (spelled spots.present r ≡ s)
  step-on q a s step =
      let over = over-states q (state-letter file is.sound (spelled spots.present q) (spelled spots.letters a) s step) in
      let over_next = next-letter file is.sound (spelled spots.present q) (spelled spots.letters a) s step in
      let over_at : IsLetter (variables_at spots.next) s = subst (λ scope. IsLetter scope s) (sym (spots-of spots.next (states_of (outline file)) is.placed.next).1) over_next in
      let over_r : IsLetter (variables_at spots.present) s = subst (λ scope. IsLetter scope s) (sym (spots-of spots.present (states_of (outline file)) is.placed.present).1) over_next in
      let (u, now_u, out_u) = written spots.present present-spots present-apart (spelled spots.present q) over a in
      let (v, next_v, out_v) = written spots.next next-spots next-apart s over_at u in
      let (r, is_r, out_r) = written spots.present present-spots present-apart s over_r (λ k. false) in
      let now_v : spelled spots.present v ≡ spelled spots.present q = spelled-same spots.present present-spots v u (λ k member. out_v k (across k member)) ∙ now_u in
      let letter_v : spelled spots.letters v ≡ spelled spots.letters a = spelled-same spots.letters letter-spots v a (λ k member. let apart = beside k member in out_v k apart.1 ∙ out_u k apart.0) in
      let there : StepsOf file (spelled spots.present v) (spelled spots.letters v) (spelled spots.next v) =
      subst (λ p. StepsOf file p (spelled spots.letters v) (spelled spots.next v)) (sym now_v)
      (subst (λ l. StepsOf file (spelled spots.present q) l (spelled spots.next v)) (sym letter_v)
      (subst (λ n. StepsOf file (spelled spots.present q) (spelled spots.letters a) n) (sym next_v) step)) in
      let (w, same, all) = is.steps.holds v there in
      let now_w : spelled spots.present w ≡ spelled spots.present q = spelled-same spots.present present-spots w v (λ k member. same k (in-first k member)) ∙ now_v in
      let letter_w : spelled spots.letters w ≡ spelled spots.letters a = spelled-same spots.letters letter-spots w v (λ k member. same k (in-second k member)) ∙ letter_v in
      let next_w : spelled spots.next w ≡ spelled spots.next (renamed spots.back r) = spelled-same spots.next next-spots w v (λ k member. same k (in-third k member)) ∙ next_v ∙ sym is_r ∙ sym (is.placed.reads r) in (
        r,
        (
          w,
          record {
            now = λ k member. spelled-back spots.present present-spots w q now_w k (sym (is.placed.targets_are k) ∙ member);
            letter = λ k member. spelled-back spots.letters letter-spots w a letter_w k (sym (is.letters k) ∙ member);
            next = λ k member. spelled-back spots.next next-spots w (renamed spots.back r) next_w k (sym (is.placed.sources_are k) ∙ member);
            is_step = all;
          },
        ),
        is_r,
      )

  abbrev Accepts : List ℕ → Type 0
  Accepts s = IsAcceptingOf file s

  run-of : (word : BitWord) (q : Bits) → RunsFrom (StepsBy rel) (λ q. rel.acc q ≡ true) q word → RunsFrom (StepsOf file) (IsAcceptingOf file) (spelled spots.present q) (map (spelled spots.letters) word)
  run-of [] q accepts = (is.accepting.found q accepts).1
  run-of (a ∷ word) q (r, step, run) = (spelled spots.present r, step-of q a r step, run-of word r run)

  run-on : (word : BitWord) (q : Bits) → IsLetter (states_of (outline file)) (spelled spots.present q) → RunsFrom (StepsOf file) (IsAcceptingOf file) (spelled spots.present q) (map (spelled spots.letters) word) → RunsFrom (StepsBy rel) (λ q. rel.acc q ≡ true) q word
  run-on [] q letter accepts = is.accepting.holds q (over-states q letter) accepts
  run-on (a ∷ word) q letter (s, step, run) =
      let (r, on, spells) = step-on q a s step in
      let over : IsLetter (states_of (outline file)) (spelled spots.present r) = subst (IsLetter (states_of (outline file))) (sym spells) (next-letter file is.sound (spelled spots.present q) (spelled spots.letters a) s step) in
      (r, on, run-on word r over (subst (λ n. RunsFrom (StepsOf file) (IsAcceptingOf file) n (map (spelled spots.letters) word)) (sym spells) run))

  pub same-words : (word : BitWord) → HasRun rel word ↔ FileWords file (map (spelled spots.letters) word)
  same-words word = (
    λ (q, initial, run). (file-language file (map (spelled spots.letters) word)).0 (spelled spots.present q, (is.initial.found q initial).1, run-of word q run),
    λ in'.
        let (s, initial, run) = (file-language file (map (spelled spots.letters) word)).1 in' in
        let over = initial-letter file is.sound s initial in
        let (q, spells, outside) = written spots.present present-spots present-apart s (subst (λ scope. IsLetter scope s) (sym (spots-of spots.present (states_of (outline file)) is.placed.present).1) over) (λ k. false) in
        let letter : IsLetter (states_of (outline file)) (spelled spots.present q) = subst (IsLetter (states_of (outline file))) (sym spells) over in
        (q, is.initial.holds q (over-states q letter) (subst (IsInitialOf file) (sym spells) initial), run-on word q letter (subst (λ n. RunsFrom (StepsOf file) (IsAcceptingOf file) n (map (spelled spots.letters) word)) (sym spells) run)),
  )
