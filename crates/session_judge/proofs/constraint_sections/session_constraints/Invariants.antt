use Rattle.std.proofs.Common.{◌≡◌, ◌++◌, None, drop, take}
use Rattle.session_judge.specs.FirstRefused.{accepted_rules, first_of_both, first_refused_section}
use Rattle.session_judge.specs.OfModels.{AreOfModels, are_constraints}
use Rattle.session_judge.specs.Rules.{constraints_of_part}
use Rattle.session_judge.proofs.constraint_sections.session_constraints.Given as goal

-- what was gathered, with what is left, is what all come to
abbrev pub invariant-loop-part : goal.invariant-loop-part
invariant-loop-part l =
    let answer = constraints_of_part l.text l.tokens l.datasets in
    record {
      rules : l.gathered.rules ++ accepted_rules answer (drop l.part-index l.part-items) ≡ accepted_rules answer l.part-items;
      refused : first_of_both l.gathered.refused (first_refused_section (λ part. part.constraints) answer (drop l.part-index l.part-items)) ≡ first_refused_section (λ part. part.constraints) answer l.part-items;
      of_models : l.gathered.refused ≡ None → AreOfModels are_constraints (take l.part-index l.part-items) l.gathered.rules;
    }
