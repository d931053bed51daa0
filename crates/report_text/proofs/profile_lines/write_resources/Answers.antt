-- The array is written item by item.
use Rattle.std.proofs.lemmas.Result.{IfOk-equal}
use Rattle.profiles.specs.Profiles.{profile_of}
use Rattle.report_text.specs.ProfileLines.{resource_data}
use Rattle.report_text.proofs.Arrays.{begins, goes_on, is_whole}
use Rattle.report_text.proofs.FoundAt.{found_at}
use Rattle.report_text.proofs.profile_lines.write_resources.Goals as goal

pub loop-number-init : goal.loop-number-init
loop-number-init c =
    begins (resource_data c.args.wording.now c.args.run.now) c.args.resources.now c.args.line.now c.begin_array.new.self c.in_ok-begin_array.ensures

pub write_resource-requires : goal.write_resource-requires
write_resource-requires c = record {
  found =
      found_at (λ named. profile_of c.args.wording.now c.args.run.now named.1) c.args.resources.now c.args.profiles.now c.loop-number.number
      c.index-resources-number.result c.index-profiles-number.result c.requires.found c.loop-number-test.true c.index-resources-number.is c.index-profiles-number.is;
}

pub loop-number-preserved : goal.loop-number-preserved
loop-number-preserved c =
    goes_on (resource_data c.args.wording.now c.args.run.now) c.args.resources.now c.args.line.now c.loop-number.line c.write_resource.new.line
    c.loop-number.number c.index-resources-number.result c.loop-number-test.true c.index-resources-number.is c.in_ok-write_resource.ensures c.loop-number.invariant

pub returns : goal.returns
returns c =
    IfOk-equal _ _ _ _ c.end_array.ensures
    (is_whole (resource_data c.args.wording.now c.args.run.now) c.args.resources.now c.args.line.now c.loop-number.line c.loop-number.number
    c.loop-number.auto.number-end c.loop-number-test.false c.loop-number.invariant)
