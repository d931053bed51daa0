-- The violations are written constraint by constraint.
use Rattle.std.proofs.Common.{◌++◌, ◌∙◌}
use Rattle.std.specs.Prelude.{flat_map}
use Rattle.constraints.specs.Violating.{violations_of}
use Rattle.json_line.specs.Parts.{listed_tokens}
use Rattle.report_text.specs.Violations.{constraint_data}
use Rattle.report_text.proofs.FoundAt.{found_at}
use Rattle.report_text.proofs.Violated.{ends, goes_on}
use Rattle.report_text.proofs.violation_lines.write_constraints.Goals as goal

pub write_constraint-requires : goal.write_constraint-requires
write_constraint-requires c = record {
  spans = c.requires.spans;
  found =
      c.as_slice-violations.ensures
      ∙ found_at (violations_of c.args.wording.now c.args.run.now) c.args.constraints.now c.args.found.now c.loop-number.number
      c.index-constraints-number.result c.index-found-number.result c.requires.found c.loop-number-test.true c.index-constraints-number.is c.index-found-number.is;
}

pub loop-number-preserved : goal.loop-number-preserved
loop-number-preserved c =
    goes_on (constraint_data c.args.detail c.args.wording.now c.args.run.now) c.args.constraints.now c.loop-number.line c.write_constraint.new.line
    c.loop-number.number c.index-constraints-number.result c.loop-number-test.true c.index-constraints-number.is c.in_ok-write_constraint.ensures
    ∙ c.loop-number.invariant

pub returns : goal.returns
returns c =
    ends (constraint_data c.args.detail c.args.wording.now c.args.run.now) c.args.constraints.now c.loop-number.line
    (c.args.line.now ++ listed_tokens (flat_map (constraint_data c.args.detail c.args.wording.now c.args.run.now) c.args.constraints.now))
    c.loop-number.number c.loop-number.auto.number-end c.loop-number-test.false c.loop-number.invariant
