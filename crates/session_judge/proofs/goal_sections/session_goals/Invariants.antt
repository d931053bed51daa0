use Rattle.std.proofs.Common.{◌≡◌, ◌++◌, None, drop, take}
use Rattle.std.specs.List.{zip}
use Rattle.session_judge.specs.FirstRefused.{accepted_rules, first_of_both, first_refused_section}
use Rattle.session_judge.specs.OfModels.{AreEach, are_goals}
use Rattle.session_judge.specs.Rules.{goals_of_part}
use Rattle.session_judge.proofs.goal_sections.session_goals.Given as goal

-- what was gathered, with what is left, is what all come to
abbrev pub invariant-loop-number : goal.invariant-loop-number
invariant-loop-number l =
    let answer = goals_of_part l.text l.tokens l.datasets l.duration in
    let parts = zip l.models l.constraints in
    record {
      rules : l.gathered.rules ++ accepted_rules answer (drop l.number parts) ≡ accepted_rules answer parts;
      refused : first_of_both l.gathered.refused (first_refused_section (λ part. part.0.goals) answer (drop l.number parts)) ≡ first_refused_section (λ part. part.0.goals) answer parts;
      of_models : l.gathered.refused ≡ None → AreEach (λ part. are_goals part.0.model) (take l.number parts) l.gathered.rules;
    }
