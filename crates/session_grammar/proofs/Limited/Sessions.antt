-- What is read of a session is within its limits, where each mark counts a number. Of models it is handed in: it is a law of
-- model_reader.
use Rattle.std.proofs.Common.{◌≡◌, ℕ, ◌+◌, ◌≤◌, Bool, true, false, List, [], ◌∷◌, ◌++◌, Option, Some, None, length, nat_le, if◌then◌else◌, refl, arith, subst}
use Rattle.std.proofs.lemmas.Bool.{leb-false}
use Rattle.std.proofs.lemmas.List.{length-append}
use Rattle.std.specs.List.{AllByRecursion}
use Rattle.aerie_text.specs.declared.sorts.Sort.TheVariants as sort
use Rattle.model_reader.proofs.Limited.Keeping.{Keeps, gives, fails, passes, and_then, repeated_keeps}
use Rattle.model_reader.proofs.Limited.Lists.{all_behind}
use Rattle.model_reader.specs.Limits.{CountNumbers, IsWithinLimits}
use Rattle.model_reader.specs.ModelAnswers.{ReadsWithinLimits}
use Rattle.model_reader.specs.declared.raw.models.RawModel.{RawModel}
use Rattle.model_reader.specs.grammar.Rules.{model_rule}
use Rattle.model_reader.specs.reading.Models.{model_at}
use Rattle.readers.specs.Lists.{limit_passed, one_more_of, unless_passed}
use Rattle.readers.specs.Marks.{Mark}
use Rattle.readers.specs.Parsed.{Parsed, parsed, is_of}
use Rattle.readers.specs.declared.limits.Limit.{Limit}
use Rattle.readers.specs.declared.limits.Limit.TheVariants.{Models}
use Rattle.readers.specs.grammar.Forms.{rule}
use Rattle.session_grammar.proofs.Conforming.Directives.{Along}
use Rattle.session_grammar.proofs.Limited.Parts.{keeps_by, mappings_keep, plan_keeps, datasets_keep, sections_keep, clients_keep}
use Rattle.session_grammar.specs.SessionLimits.{IsLimitedSession, ReadsLimitedSessions}
use Rattle.session_grammar.specs.declared.raw.sessions.RawSession.{RawSession}
use Rattle.session_grammar.specs.grammar.Rules.{of_model}
use Rattle.session_grammar.specs.reading.Sessions.{model_limit, most_models, models_at, session_within, whole_of, whole_session_at}

-- one model or more, not too many
record AreModels (models : List RawModel) : Type 0 where
  pub all : AllByRecursion IsWithinLimits models
  pub some : 1 ≤ length models
  pub few : length models ≤ model_limit

one_more : (count : ℕ) → limit_passed most_models count ≡ None → count + 1 ≤ model_limit
one_more count e = go (nat_le model_limit count) refl e
  where
    go : (b : Bool) → nat_le model_limit count ≡ b → (if b then Some Models else None) ≡ None → count + 1 ≤ model_limit
    go true here past = cc
    go false here past = let lt = leb-false model_limit count here in omega (arith, lt)

model_behind : (so_far : List RawModel) (last : RawModel) → limit_passed most_models (length so_far) ≡ None → AreModels so_far → IsWithinLimits last → AreModels (so_far ++ last ∷ [])
model_behind so_far last e are is =
    let count = length-append so_far (last ∷ []) in let more = one_more (length so_far) e in
    record { all = all_behind IsWithinLimits so_far last are.all is; some = omega (arith, count); few = omega (arith, count, more) }

whole_keeps : (P : RawSession → Type 0) (raw : RawSession) (rest : List Mark) → P raw → CountNumbers rest → Keeps P (whole_of raw rest)
whole_keeps P raw [] is left = gives is left
whole_keeps P raw (mark ∷ rest) is left = fails

held : (P : RawSession → Type 0) (reading : Parsed RawSession) (raw : RawSession) (rest : List Mark) → Keeps P reading → reading ≡ parsed raw rest → P raw
held P reading raw rest keeps e = let read : Keeps P (parsed raw rest) = subst (Keeps P) e keeps in read.holds.0

module _ (model_law : (marks : List Mark) → Along (rule (of_model model_rule)) marks (model_at marks)) (within : ReadsWithinLimits) where
  model_keeps : (marks : List Mark) → CountNumbers marks → Keeps IsWithinLimits (model_at marks)
  model_keeps marks count = keeps_by (model_law marks) count (λ raw rest e. within marks rest raw count e)

  more_keep : (over : Option Limit) (so_far : List RawModel) (marks : List Mark) → limit_passed most_models (length so_far) ≡ over → AreModels so_far → CountNumbers marks
      → Keeps AreModels (unless_passed model_at over so_far marks)
  more_keep None so_far marks e are count = and_then _ (model_keeps marks count) (λ last rest is left. gives (model_behind so_far last e are is) left)
  more_keep (Some limit) so_far marks e are count = passes

  models_keep : (marks : List Mark) → CountNumbers marks → Keeps AreModels (models_at marks)
  unfolding models_at
  models_keep marks count =
      and_then _ (model_keeps marks count) (λ first rest is left. repeated_keeps (is_of sort.Model) (one_more_of most_models model_at)
      (λ now here are from. more_keep (limit_passed most_models (length now)) now here refl are from) (first ∷ []) rest (record { all = (is, tt); some = omega arith; few = omega arith }) left)

  session_keeps : (count : ℕ) (marks : List Mark) → CountNumbers marks → Keeps (IsLimitedSession count) (session_within count marks)
  unfolding session_within
  session_keeps count marks numbers =
      and_then _ (models_keep marks numbers) (λ models rest first left. and_then _ (mappings_keep rest left) (λ mappings rest second left.
      and_then _ (plan_keeps rest left) (λ plan rest third left. and_then _ (datasets_keep rest left) (λ datasets rest fourth left.
      and_then _ (sections_keep count rest left) (λ sections rest fifth left. and_then _ (clients_keep rest left) (λ clients rest sixth left.
      gives (record {
        models = first.all;
        some_models = first.some;
        few_models = first.few;
        literals = second.all;
        few_mappings = second.few;
        lasts = third.lasts;
        beginnings = third.beginnings;
        few_datasets = fourth.few;
        constraints = fifth.constraints;
        goals = fifth.goals;
        sequences = fifth.sequences;
        commands = sixth.all;
        few_clients = sixth.few;
      }) left))))))

  pub limited : ReadsLimitedSessions
  limited marks rest raw count e =
      held (IsLimitedSession (length marks)) (whole_session_at marks) raw rest
      (and_then _ (session_keeps (length marks) marks count) (λ read behind is left. whole_keeps (IsLimitedSession (length marks)) read behind is left)) e
