-- What each pass tells is told of the bytes.
use Rattle.std.proofs.Common.{◌≡◌, ◌≤◌, ℕ, List, length, Option, None, Some, Result, Ok, Err, refl, sym, ◌∙◌, ap, subst}
use Rattle.std.proofs.lemmas.List.{length-map}
use Rattle.net_model.specs.declared.text_fault.TextFault.{TextFault}
use Rattle.net_model.specs.declared.text_fault.TextFault.TheVariants.{At, Memory}
use Rattle.net_model.specs.Faults.{Finds}
use Rattle.net_model.specs.Nets.{Net}
use Rattle.net_model.specs.NetTexts.{names_in, text_in, variables_in, net_with, net_said}
use Rattle.net_model.specs.Words.{Scope}
use Rattle.blifmv_names.specs.LineFaults.{line_fault}
use Rattle.blifmv_names.proofs.Within.{text_faultless}
use Rattle.blifmv_signals.specs.SignalFaults.{Known, IsKnown, signal_fault}
use Rattle.blifmv_signals.proofs.Knowing.{right_known}
use Rattle.blifmv_tables.specs.RowFaults.{row_fault}
use Rattle.blifmv_reader.specs.Told.{IsSignalFault, FindsFirst, FindsRowFault, FindsSignalFault, FindsNetFault}
use Rattle.blifmv_reader.proofs.Signals.{table_said, known_signals}
use Rattle.blifmv_reader.proofs.TextNames.{text_small}

-- the signals of a text without a fault of the first pass are known
pub known_of : (bytes : List ℕ) → line_fault bytes ≡ None → (known : Known) × IsKnown (net_said (text_in bytes)) (text_in bytes) known
known_of bytes none =
    let text = text_in bytes in
    let faultless = text_faultless bytes none in
    let names = faultless.within.signals in
    let few : length (variables_in text) ≤ 4096 = subst (λ (n : ℕ). n ≤ 4096) (sym (length-map (names_in text) _)) names in
    right_known (net_said text) text (known_signals text (table_said text (variables_in text) refl few (text_small bytes text faultless.says faultless.within)))

abbrev pub FindsIn : {T : Type 0} → Result T TextFault → List ℕ → Net → Type 0
FindsIn result bytes net = (known : Known) → IsKnown net (text_in bytes) known → Finds result (signal_fault net known bytes)

module _ {T : Type 0} where
  -- none is found in this pass
  passed : (result : Result T TextFault) (fault : Option TextFault) (later : Type 0) → fault ≡ None → later → FindsFirst result fault later
  passed result fault later none h = subst (λ o. FindsFirst result o later) (sym none) h

  -- what is told for whatever is rightly known is told by what is known
  picked : (result : Result T TextFault) (bytes : List ℕ) → line_fault bytes ≡ None → FindsIn result bytes (net_said (text_in bytes)) → FindsSignalFault result bytes
  picked result bytes none h =
      let known = known_of bytes none in
      let fault = signal_fault (net_said (text_in bytes)) known.0 bytes in
      (fault, record { known = known.0; right = known.1; picked = refl }, h known.0 known.1)

  pub signal_found : (result : Result T TextFault) (bytes : List ℕ) (vars : Scope) (net : Net) → line_fault bytes ≡ None → vars ≡ variables_in (text_in bytes) → row_fault vars bytes ≡ None → net ≡ net_with vars (text_in bytes) → FindsIn result bytes net → FindsNetFault result bytes
  signal_found result bytes vars net none is rows says h =
      passed result (line_fault bytes) (FindsRowFault result bytes (FindsSignalFault result bytes)) none
      (passed result (row_fault (variables_in (text_in bytes)) bytes) (FindsSignalFault result bytes) (sym (ap (λ v. row_fault v bytes) is) ∙ rows)
      (picked result bytes none (subst (FindsIn result bytes) (says ∙ ap (λ v. net_with v (text_in bytes)) is) h)))

same_refusal : (T U : Type 0) (e : TextFault) (fault : Option TextFault) → Finds {T = T} (Err e) fault → Finds {T = U} (Err e) fault
same_refusal T U Memory fault h = tt
same_refusal T U (At line kind) fault h = h

-- a refusal by the third pass stays what it is where a network would have been answered
pub refused_in : (T U : Type 0) (e : TextFault) (bytes : List ℕ) (net : Net) → FindsIn {T = T} (Err e) bytes net → FindsIn {T = U} (Err e) bytes net
refused_in T U e bytes net h = λ known is. same_refusal T U e (signal_fault net known bytes) (h known is)

-- so does a success
pub taken_in : (T U : Type 0) (x : T) (y : U) (bytes : List ℕ) (net : Net) → FindsIn {T = T} (Ok x) bytes net → FindsIn {T = U} (Ok y) bytes net
taken_in T U x y bytes net h = h

-- A refusal by an earlier pass.
module _ (T U : Type 0) (e : TextFault) where
  -- where the pass finds nothing it is want of memory, which every pass may tell
  refused_at : (fault : Option TextFault) (later : Type 0) → Finds {T = U} (Err e) fault → (((other : Option TextFault) → Finds {T = U} (Err e) other) → fault ≡ None → later) → FindsFirst {T = U} (Err e) fault later
  refused_at None later h on = on (by e h) refl
    where
      by : (e : TextFault) → Finds {T = U} (Err e) None → (other : Option TextFault) → Finds {T = U} (Err e) other
      by Memory told other = tt
      by (At line kind) told other = cc
  refused_at (Some fault) later h on = h

  rows_at : (bytes : List ℕ) → line_fault bytes ≡ None → Finds {T = U} (Err e) (row_fault (variables_in (text_in bytes)) bytes) → FindsRowFault {T = U} (Err e) bytes (FindsSignalFault {T = U} (Err e) bytes)
  rows_at bytes none h =
      refused_at (row_fault (variables_in (text_in bytes)) bytes) (FindsSignalFault {T = U} (Err e) bytes) h
      (λ any _. picked {T = U} (Err e) bytes none (λ known _. any (signal_fault (net_said (text_in bytes)) known bytes)))

  pub names_refused : (bytes : List ℕ) → Finds {T = T} (Err e) (line_fault bytes) → FindsNetFault {T = U} (Err e) bytes
  names_refused bytes h =
      refused_at (line_fault bytes) (FindsRowFault {T = U} (Err e) bytes (FindsSignalFault {T = U} (Err e) bytes)) (same_refusal T U e (line_fault bytes) h)
      (λ any none. rows_at bytes none (any (row_fault (variables_in (text_in bytes)) bytes)))

  pub rows_refused : (bytes : List ℕ) (vars : Scope) → line_fault bytes ≡ None → vars ≡ variables_in (text_in bytes) → Finds {T = T} (Err e) (row_fault vars bytes) → FindsNetFault {T = U} (Err e) bytes
  rows_refused bytes vars none is h =
      passed {T = U} (Err e) (line_fault bytes) (FindsRowFault {T = U} (Err e) bytes (FindsSignalFault {T = U} (Err e) bytes)) none
      (rows_at bytes none (subst (λ v. Finds {T = U} (Err e) (row_fault v bytes)) is (same_refusal T U e (row_fault vars bytes) h)))
