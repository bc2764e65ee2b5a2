-- How often the lines of a text drive a signal.
use Rattle.std.proofs.Common.{◌≡◌, ◌+◌, ℕ, cond, List, [], ◌∷◌, ◌++◌, map, nat_eq, count_by, refl, ◌∙◌, ap, arith}
use Rattle.std.specs.List.{flat_map}
use Rattle.std.proofs.lemmas.List.{map-append}
use Rattle.std.proofs.lemmas.List.Sums.{sum_by-append}
use Rattle.net_model.specs.Words.{Scope}
use Rattle.net_model.specs.Forms.{Form, ModelLine, InputsLine, OutputsLine, DomainsLine, TableLine, ResetLine, LatchLine, DefaultLine, EndLine, RowLine}
use Rattle.net_model.specs.NetTexts.{place_in, places_in, inputs_on, latches_on, tables_in, net_with}
use Rattle.net_model.specs.Conditions.{times_driven}
use Rattle.blifmv_signals.specs.SignalFaults.{drives_on}

module _ (vars : Scope) (signal : ℕ) where
  abbrev times : List ℕ → ℕ
  times signals = count_by (nat_eq signal) signals

  times_both : (xs ys : List ℕ) → times (xs ++ ys) ≡ times xs + times ys
  times_both xs ys = sum_by-append (λ x. cond (nat_eq signal x) 1 0) xs ys

  abbrev by_inputs : List Form → ℕ
  by_inputs text = times (places_in vars (flat_map inputs_on text))

  abbrev by_tables : List Form → ℕ
  by_tables text = times (flat_map (λ table. table.outs) (tables_in vars text))

  abbrev by_latches : List Form → ℕ
  by_latches text = times (map (λ latch. latch.output) (flat_map (latches_on vars) text))

  abbrev by_lines : List Form → ℕ
  by_lines text = times (flat_map (drives_on vars) text)

  by_parts : (text : List Form) → by_inputs text + (by_tables text + by_latches text) ≡ by_lines text
  by_parts [] = refl
  by_parts (ModelLine names ∷ text) = by_parts text
  by_parts (InputsLine names ∷ text) =
      let front = places_in vars names in
      let more : by_inputs (InputsLine names ∷ text) ≡ times front + by_inputs text =
      ap times (map-append (place_in vars) names (flat_map inputs_on text)) ∙ times_both front (places_in vars (flat_map inputs_on text)) in
      let all = times_both front (flat_map (drives_on vars) text) in
      let rest = by_parts text in
      omega (arith, more, all, rest)
  by_parts (OutputsLine names ∷ text) = by_parts text
  by_parts (DomainsLine names count values ∷ text) = by_parts text
  by_parts (TableLine ins outs ∷ text) =
      let front = places_in vars outs in
      let more = times_both front (flat_map (λ table. table.outs) (tables_in vars text)) in
      let all = times_both front (flat_map (drives_on vars) text) in
      let rest = by_parts text in
      omega (arith, more, all, rest)
  by_parts (ResetLine ins outs ∷ text) = by_parts text
  by_parts (LatchLine input output ∷ text) =
      let front = place_in vars output ∷ [] in
      let more = times_both front (map (λ latch. latch.output) (flat_map (latches_on vars) text)) in
      let all = times_both front (flat_map (drives_on vars) text) in
      let rest = by_parts text in
      omega (arith, more, all, rest)
  by_parts (DefaultLine words ∷ text) = by_parts text
  by_parts (EndLine ∷ text) = by_parts text
  by_parts (RowLine words ∷ text) = by_parts text

-- the network of a text drives a signal as often as its lines do
pub counted : (vars : Scope) (text : List Form) (signal : ℕ) → times_driven (net_with vars text) signal ≡ count_by (nat_eq signal) (flat_map (drives_on vars) text)
counted vars text signal =
    let inputs = places_in vars (flat_map inputs_on text) in
    let outs = flat_map (λ table. table.outs) (tables_in vars text) in
    let latches = map (λ latch. latch.output) (flat_map (latches_on vars) text) in
    let first = times_both vars signal inputs (outs ++ latches) in
    let second = times_both vars signal outs latches in
    let parts = by_parts vars signal text in
    omega (arith, first, second, parts)
