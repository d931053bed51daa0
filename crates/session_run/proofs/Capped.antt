-- Counts that stand still at their last value.
use Rattle.std.proofs.Common.{◌≡◌, ℕ, ◌+◌, Bool, true, false, List, [], ◌∷◌, ◌++◌, min, refl, ap, sym, ◌∙◌, arith}
use Rattle.goals.specs.declared.status.GoalStatus.{GoalStatus}
use Rattle.hangar_core.specs.declared.replies.Reply.{Reply}
use Rattle.report_text.specs.declared.answers.Answer.{Answer}
use Rattle.report_text.specs.declared.answers.Answer.TheVariants as answer
use Rattle.report_text.specs.declared.answers.ScheduleReport.{ScheduleReport}
use Rattle.run_data.specs.Waves.{last_count}
use Rattle.run_data.specs.laws.Weights.{one_if}
use Rattle.session_run.specs.declared.summary.Summary.{Summary}
use Rattle.session_run.specs.summary.Summaries.{command_in, completed_in, counts_otherwise, is_refusal, placed_count, placed_in, refused_in, spans_in, stopped_in, summary_of, total, total_counted, violations_in}

-- a count to which another is added
capped_both : (a b : ℕ) → min (min a last_count + min b last_count) last_count ≡ min (a + b) last_count
capped_both a b = omega arith

total_more : (count : Answer → ℕ) (answers : List Answer) (told : Answer) → total count (answers ++ (told ∷ [])) ≡ total count answers + total count (told ∷ [])
total_more count [] told = omega arith
total_more count (first ∷ answers) told = let h = total_more count answers told in omega (arith, h)

one_answer_more : (count : Answer → ℕ) (answers : List Answer) (told : Answer) →
    min (total_counted count answers + total_counted count (told ∷ [])) last_count ≡ total_counted count (answers ++ (told ∷ []))
one_answer_more count answers told =
    capped_both (total count answers) (total count (told ∷ [])) ∙ ap (λ (n : ℕ). min n last_count) (sym (total_more count answers told))

-- all counts, one by one
same_counts : (s t : Summary) → s.commands ≡ t.commands → s.completed ≡ t.completed → s.placed ≡ t.placed → s.refused ≡ t.refused → s.spans ≡ t.spans → s.stopped ≡ t.stopped →
    s.violations ≡ t.violations → s ≡ t
same_counts s t a b c d e f g =
    ap (λ (n : ℕ). record s { commands = n }) a
    ∙ ap (λ (n : ℕ). record { commands = t.commands; completed = n; placed = s.placed; refused = s.refused; spans = s.spans; stopped = s.stopped; violations = s.violations }) b
    ∙ ap (λ (n : ℕ). record { commands = t.commands; completed = t.completed; placed = n; refused = s.refused; spans = s.spans; stopped = s.stopped; violations = s.violations }) c
    ∙ ap (λ (n : ℕ). record { commands = t.commands; completed = t.completed; placed = t.placed; refused = n; spans = s.spans; stopped = s.stopped; violations = s.violations }) d
    ∙ ap (λ (n : ℕ). record { commands = t.commands; completed = t.completed; placed = t.placed; refused = t.refused; spans = n; stopped = s.stopped; violations = s.violations }) e
    ∙ ap (λ (n : ℕ). record { commands = t.commands; completed = t.completed; placed = t.placed; refused = t.refused; spans = t.spans; stopped = n; violations = s.violations }) f
    ∙ ap (λ (n : ℕ). record t { violations = n }) g

-- what is counted of an answer is added to what was counted of others
abbrev added : ℕ → ℕ → ℕ
added count one = min (count + one) last_count

pub noted : (answers : List Answer) (told : Answer) (before one : Summary) → before ≡ summary_of answers → one ≡ summary_of (told ∷ []) →
    ◌≡◌ {A = Summary} (record {
      commands = added before.commands one.commands;
      completed = added before.completed one.completed;
      placed = added before.placed one.placed;
      refused = added before.refused one.refused;
      spans = added before.spans one.spans;
      stopped = added before.stopped one.stopped;
      violations = added before.violations one.violations;
    }) (summary_of (answers ++ (told ∷ [])))
noted answers told before one was is = rw (was, is) (same_counts _ _
    (one_answer_more command_in answers told)
    (one_answer_more completed_in answers told)
    (one_answer_more placed_in answers told)
    (one_answer_more refused_in answers told)
    (one_answer_more spans_in answers told)
    (one_answer_more stopped_in answers told)
    (one_answer_more violations_in answers told))

-- ---- an answer that is no report

alone : (n : ℕ) → min n last_count ≡ min (n + 0) last_count
alone n = omega arith

one_alone : (b : Bool) → one_if b ≡ min (one_if b + 0) last_count
one_alone true = refl
one_alone false = refl

pub schedule_counted : (report : ScheduleReport) (placed : ℕ) (goals : List GoalStatus) (one : Summary) → goals ≡ report.goals → placed ≡ min (placed_count goals) last_count →
    one ≡ counts_otherwise placed false → one ≡ summary_of (answer.Schedule report ∷ [])
schedule_counted report placed goals one listed is told =
    told ∙ ap (λ (n : ℕ). counts_otherwise n false) (is ∙ ap (λ (l : List GoalStatus). min (placed_count l) last_count) listed ∙ alone (placed_count report.goals))

pub reply_counted : (reply : Reply) (refused : Bool) (one : Summary) → refused ≡ is_refusal reply → one ≡ counts_otherwise 0 refused → one ≡ summary_of (answer.Reply reply ∷ [])
reply_counted reply refused one is told =
    told
    ∙ ap (counts_otherwise 0) is
    ∙ ap (λ (n : ℕ). record { commands = 1; completed = 0; placed = 0; refused = n; spans = 0; stopped = 0; violations = 0 }) (one_alone (is_refusal reply))
