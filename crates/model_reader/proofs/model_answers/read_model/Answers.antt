-- The marks that are left are those from the first token of the model on; what the grammar says of them follows by the law.
use Rattle.std.proofs.Common.{List, subst, length}
use Rattle.readers.specs.Marks.{Mark}
use Rattle.model_reader.specs.reading.Models.{model_at}
use Rattle.model_reader.specs.ModelAnswers.{marks_from, answer_of, UnlessOutOfMemory}
use Rattle.model_reader.specs.Limits.{IsWithinLimits}
use Rattle.model_reader.proofs.Answered.{answered_refused, answer_holds}
use Rattle.model_reader.proofs.Limited.Tokens.{marks_count_numbers}
use Rattle.model_reader.proofs.model_answers.read_model.Goals as goal

pub returns-clause-refused : goal.returns-clause-refused
returns-clause-refused c place h =
    let text = c.args.text.now in
    let count = length c.args.tokens.now in
    let marks = marks_from text c.args.tokens.now c.args.from in
    let exact = subst (λ (found : List Mark). UnlessOutOfMemory (answer_of text count (model_at found)) c.read_marks.result) c.new-reader.ensures c.read_marks.ensures.exact in
    answered_refused text count marks (model_at marks) place (c.models_conform.ensures.judged marks) (subst (UnlessOutOfMemory (answer_of text count (model_at marks))) h exact)

pub returns-clause-limits : goal.returns-clause-limits
returns-clause-limits c =
    let text = c.args.text.now in
    let count = length c.args.tokens.now in
    let marks = marks_from text c.args.tokens.now c.args.from in
    let exact = subst (λ (found : List Mark). UnlessOutOfMemory (answer_of text count (model_at found)) c.read_marks.result) c.new-reader.ensures c.read_marks.ensures.exact in
    answer_holds text count (model_at marks) c.read_marks.result IsWithinLimits
    (λ rest raw is. c.models_are_within_limits.ensures marks rest raw (marks_count_numbers text c.args.tokens.now c.args.from c.requires.tokens) is) exact
