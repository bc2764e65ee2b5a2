use Rattle.std.proofs.Common.{◌∙◌, ◌≤◌, ap, sym, subst}
use Rattle.std.specs.List.{filter_map, flat_map}
use Rattle.blifmv_lines.specs.Said.{texts}
use Rattle.net_model.specs.KissForms.{kiss_said_by}
use Rattle.net_model.specs.KissTexts.{states_on}
use Rattle.net_model.specs.NetTexts.{distinct}
use Rattle.kiss_reader.specs.declared.place.Place.{Place}
use Rattle.kiss_reader.specs.Said.{form_said}
use Rattle.kiss_reader.specs.Above.{kind_at, fault_from, places_from}
use Rattle.kiss_reader.specs.Header.{header_said, headers_from}
use Rattle.kiss_reader.proofs.Agreeing.{no_kind, step_fault, next_place, next_header, next_states}
use Rattle.kiss_reader.proofs.Passing.{rows_behind}
use Rattle.kiss_reader.proofs.first_pass.read_lines.Goals as goal

pub loop-line-preserved : goal.loop-line-preserved
loop-line-preserved c =
    let l = c.loop-line in
    let line = c.in-Some.line in
    let lines = c.next_line.new.self in
    let comes = sym c.in-Some.ensures.line in
    let words = texts c.deref.result.now in
    let form = form_said c.in-Ok.form in
    let are = ap texts c.deref.ensures.value ∙ c.in_ok-fill.ensures in
    let taken = c.in-Ok.ensures.taken in
    let none = no_kind (kind_at l.place l.columns l.states words) c.number-number.result c.in-Ok.ensures.fault in
    let next = ap (λ p. fault_from p c.take_line.new.columns c.take_line.new.states lines) c.place_behind-place.ensures in
    record {
      fault = next ∙ (step_fault l.place l.columns c.take_line.new.columns l.states c.take_line.new.states line lines words form are none taken.says taken.taken.columns_are taken.taken.states_are
          ∙ (ap (fault_from l.place l.columns l.states) comes ∙ l.invariant.fault));
      place = next_place l.place c.place_behind-place.result _ line lines words form are taken.says c.place_behind-place.ensures
          (ap (λ ls. places_from l.place (filter_map kiss_said_by ls)) comes ∙ l.invariant.place);
      header = next_header (header_said l.header) (header_said c.keep.new.self) _ line lines words form are taken.says c.in_ok-keep.ensures
          (ap (λ ls. headers_from (header_said l.header) (filter_map kiss_said_by ls)) comes ∙ l.invariant.header);
      states = next_states l.states c.take_line.new.states _ line lines words form are taken.says taken.taken.states_are
          (ap (λ ls. distinct l.states (flat_map states_on (filter_map kiss_said_by ls))) comes ∙ l.invariant.states);
      rows = subst (λ (p : Place). p.rows ≤ 1000000) (sym c.place_behind-place.ensures)
          (rows_behind l.place l.columns l.states words form none taken.says l.invariant.rows);
      few_columns = taken.taken.few_columns;
      few_states = taken.taken.few_states;
    }
