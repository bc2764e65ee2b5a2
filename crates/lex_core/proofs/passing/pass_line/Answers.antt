use Rattle.std.proofs.Common.{◌≡◌, ◌<◌, ◌||◌, true, false, length, refl, sym, ◌∙◌, ap, arith}
use Rattle.std.proofs.lemmas.List.{take_rest, length-drop}
use Rattle.lex_core.specs.Signs.{place_behind}
use Rattle.lex_core.proofs.Fronts.{part_lines, part_has_word}
use Rattle.lex_core.proofs.passing.pass_line.Goals as goal

-- a byte of a word keeps the place, and shows that the line has a word
pub loop-left-preserved-in-Part : goal.loop-left-preserved-in-Part
loop-left-preserved-in-Part c =
    let some : 0 < length c.loop-left.left.now = omega arith in
    let rest = take_rest c.loop-left.left.now 1 in
    let is = sym c.sign_at-sign.ensures ∙ c.in-Part.is in
    let lines = part_lines c.loop-left.place c.loop-left.at c.loop-left.now c.loop-left.left.now _ some rest is in
    let word = part_has_word c.loop-left.place c.loop-left.at c.loop-left.left.now _ some rest is in
    let same_place = c.place_behind-place.ensures ∙ ap (place_behind c.loop-left.place) c.in-Part.is in
    let found = elim c.loop-left.found as (λ f. (f || true) ≡ true) [ true ↦ refl | false ↦ refl ] in
    record {
      lines = rw same_place (sym lines ∙ c.loop-left.invariant.lines);
      word = sym found ∙ (ap (λ w. c.loop-left.found || w) (sym word) ∙ c.loop-left.invariant.word);
      place = rw (rest, length-drop) (omega arith);
      number = rw (rest, length-drop) (omega arith);
      shorter = rw (rest, length-drop) (omega arith);
    }
