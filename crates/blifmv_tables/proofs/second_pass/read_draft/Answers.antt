use Rattle.std.proofs.Common.{rules, ◌≡◌, ◌∙◌, ap, sym}
use Rattle.net_model.specs.Forms.{said_by, shape_of}
use Rattle.blifmv_lines.specs.Said.{texts}
use Rattle.blifmv_tables.specs.Drafts.{open_of}
use Rattle.blifmv_tables.specs.Saying.{draft_of}
use Rattle.blifmv_tables.specs.RowFaults.{first_fault}
use Rattle.blifmv_tables.proofs.Passed.{fault_passed}
use Rattle.blifmv_tables.proofs.second_pass.read_draft.Goals as goal

pub loop-line-preserved : goal.loop-line-preserved
loop-line-preserved c =
    let vars = c.args.names.now in
    let old = draft_of c.loop-line.draft in
    let said = shape_of (texts c.as_slice.result.now) in
    let is : said_by c.in-Some.line ≡ said = ap shape_of (sym (ap texts c.as_slice.ensures.value ∙ c.in_ok-fill_words.ensures)) in
    record {
      draft = search rules;
      fault =
          ap (λ d. first_fault vars (open_of d.standing) c.next_line.new.self) c.in_ok-draft.ensures.said
          ∙ (sym (fault_passed vars old said c.number.result c.in-Some.line c.next_line.new.self is c.in_ok-draft.ensures.told)
          ∙ (ap (first_fault vars (open_of old.standing)) (sym c.in-Some.ensures.line) ∙ c.loop-line.invariant.fault));
      rows = search rules;
      latches = search rules;
    }
