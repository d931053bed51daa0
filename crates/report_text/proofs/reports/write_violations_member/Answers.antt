-- A member is its key and its value.
use Rattle.std.proofs.Common.{append_assoc, ◌∷◌, [], codes}
use Rattle.std.proofs.lemmas.Result.{IfOk-equal}
use Rattle.json.specs.Token.{key}
use Rattle.json_line.specs.Parts.{data_tokens, member_tokens}
use Rattle.report_text.specs.Violations.{violations_data}
use Rattle.report_text.proofs.reports.write_violations_member.Goals as goal

pub returns : goal.returns
unfolding member_tokens
returns c =
    IfOk-equal _ _ _ _ c.write_violations.ensures
    (rw (c.in_ok-key.ensures)
    (append_assoc c.args.line.now (key (codes "violations") ∷ []) (data_tokens (violations_data c.args.detail c.args.wording.now c.args.run.now c.args.constraints.now))))
