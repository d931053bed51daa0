-- Of each sort of rules there is an entry for each model.
use Rattle.std.proofs.Common.{◌≡◌, ℕ, zero, suc, ◌+◌, ◌≤◌, Bool, IsTrue, List, [], ◌∷◌, length, map, drop, get_or, refl, sym, ap, ◌∙◌, subst, arith}
use Rattle.std.specs.List.{AllByRecursion}
use Rattle.aerie_base.specs.declared.models.model.Parts.{Parts}
use Rattle.aerie_base.specs.Ranges.{step_limit}
use Rattle.constraints.specs.declared.types.Constraint.{Constraint}
use Rattle.goals.specs.declared.types.Goal.{Goal}
use Rattle.seq_expand.specs.declared.rules.Sequencing.{Sequencing}
use Rattle.hangar_core.specs.declared.workspaces.Workspace.{Workspace}
use Rattle.hangar_lock.specs.Passes.{first_pass, LockView, PassView}
use Rattle.session_reader.specs.declared.session.ModelPart.{ModelPart}
use Rattle.client_work.specs.Working.{IsAtWork, IsRuled, ruled_models}
use Rattle.session_judge.specs.declared.judged.JudgedSession.{JudgedSession}
use Rattle.session_judge.specs.OfModels.{are_constraints, are_goals, are_sendable, AreEach}
use Rattle.client_work.specs.declared.missions.ReportForm.{ReportForm}
use Rattle.session_run.specs.Missions.{mission_of, opening_of, ruled_parts}
use Rattle.session_run.specs.Ruled.{CanBePerformed, HasAllRules}

each_many : {P A : Type 0} (test : P → A → Bool) (parts : List P) (rules : List A) → AreEach test parts rules → length rules ≡ length parts
each_many test [] [] are = refl
each_many test [] (first ∷ rules) are = absurd are
each_many test (part ∷ parts) [] are = absurd are
each_many test (part ∷ parts) (first ∷ rules) are = ap suc (each_many test parts rules are.1)

pub constraints_many : (judged : JudgedSession) → HasAllRules judged → length judged.constraints ≡ length judged.session.models
constraints_many judged rules = each_many _ judged.session.models judged.constraints rules.constraints

pub goals_many : (judged : JudgedSession) → HasAllRules judged → length judged.goals ≡ length judged.session.models
goals_many judged rules = each_many _ judged.session.models judged.goals rules.goals

pub sequences_many : (judged : JudgedSession) → HasAllRules judged → length judged.sequences ≡ length judged.session.models
sequences_many judged rules = each_many _ judged.session.models judged.sequences rules.sequences

-- ---- from a number on

get_behind : {A : Type 0} (xs : List A) (at : ℕ) (x none : A) (rest : List A) → drop at xs ≡ x ∷ rest → get_or xs at none ≡ x
get_behind [] zero x none rest e = absurd (no_cons e)
  where
    no_cons : {A : Type 0} {x : A} {rest : List A} → [] ≡ x ∷ rest → ⊥
    no_cons e = cc
get_behind [] (suc at) x none rest e = absurd (no_cons e)
  where
    no_cons : {A : Type 0} {x : A} {rest : List A} → [] ≡ x ∷ rest → ⊥
    no_cons e = cc
get_behind (y ∷ xs) zero x none rest e = same e
  where
    same : y ∷ xs ≡ x ∷ rest → y ≡ x
    same e = cc
get_behind (y ∷ xs) (suc at) x none rest e = get_behind xs at x none rest e

rest_behind : {A : Type 0} (xs : List A) (at : ℕ) (x : A) (rest : List A) → drop at xs ≡ x ∷ rest → drop (suc at) xs ≡ rest
rest_behind [] zero x rest e = absurd (no_cons e)
  where
    no_cons : {A : Type 0} {x : A} {rest : List A} → [] ≡ x ∷ rest → ⊥
    no_cons e = cc
rest_behind [] (suc at) x rest e = absurd (no_cons e)
  where
    no_cons : {A : Type 0} {x : A} {rest : List A} → [] ≡ x ∷ rest → ⊥
    no_cons e = cc
rest_behind (y ∷ xs) zero x rest e = same e
  where
    same : y ∷ xs ≡ x ∷ rest → xs ≡ rest
    same e = cc
rest_behind (y ∷ xs) (suc at) x rest e = rest_behind xs at x rest e

-- one part and its rules, and those behind
record IsSplit {P A : Type 0} (test : P → A → Bool) (part : P) (parts : List P) (xs : List A) (at : ℕ) (none : A) : Type 0 where
  first : IsTrue (test part (get_or xs at none))
  later : AreEach test parts (drop (suc at) xs)

split_rules : {P A : Type 0} (test : P → A → Bool) (part : P) (parts : List P) (xs : List A) (at : ℕ) (none : A) (rules : List A) → drop at xs ≡ rules → AreEach test (part ∷ parts) rules →
    IsSplit test part parts xs at none
split_rules {A = A} test part parts xs at none [] is are = absurd are
split_rules {A = A} test part parts xs at none (x ∷ rest) is are = record {
  first = subst (λ (z : A). IsTrue (test part z)) (sym (get_behind xs at x none rest is)) are.0;
  later = subst (AreEach test parts) (sym (rest_behind xs at x rest is)) are.1;
}

module _ (judged : JudgedSession) where
  abbrev of_constraints : ModelPart → List Constraint → Bool
  of_constraints part = are_constraints part.model

  abbrev of_goals : ModelPart → List Goal → Bool
  of_goals part = are_goals part.model

  abbrev of_sequences : ModelPart → Sequencing → Bool
  of_sequences part = are_sendable part.model

  all_ruled : (at : ℕ) (parts : List ModelPart) → AreEach of_constraints parts (drop at judged.constraints) → AreEach of_goals parts (drop at judged.goals) →
      AreEach of_sequences parts (drop at judged.sequences) → AllByRecursion IsRuled (ruled_parts judged at parts)
  all_ruled at [] constraints goals sequences = tt
  all_ruled at (part ∷ parts) constraints goals sequences =
      let a = split_rules of_constraints part parts judged.constraints at [] (drop at judged.constraints) refl constraints in
      let b = split_rules of_goals part parts judged.goals at [] (drop at judged.goals) refl goals in
      let c = split_rules of_sequences part parts judged.sequences at (record { rules = []; spacings = [] }) (drop at judged.sequences) refl sequences in
      let next : suc at ≡ at + 1 = omega arith in (
        record { constraints = a.first; goals = b.first; shifts = c.first },
        subst (λ (n : ℕ). AllByRecursion IsRuled (ruled_parts judged n parts)) next (all_ruled (suc at) parts a.later b.later c.later),
      )

  parts_models : (at : ℕ) (parts : List ModelPart) → ruled_models (ruled_parts judged at parts) ≡ map (λ part. part.model) parts
  parts_models at [] = refl
  parts_models at (part ∷ parts) = ap (λ (l : List Parts). part.model ∷ l) (parts_models (at + 1) parts)

  parts_many : (at : ℕ) (parts : List ModelPart) → length (ruled_parts judged at parts) ≡ length (map (λ part. part.model) parts)
  parts_many at [] = refl
  parts_many at (part ∷ parts) = ap suc (parts_many (at + 1) parts)

  pub at_work : (bound : ℕ) (form : ReportForm) (lock : LockView) (pass : PassView) → CanBePerformed judged → bound ≤ step_limit → lock.opened.workspace ≡ opening_of judged.session →
      pass ≡ first_pass lock → IsAtWork (mission_of judged bound form) lock pass
  at_work bound form lock pass can within opened is = record {
    own = ap (λ (p : PassView). p.lock) is;
    some_model = (let many = parts_many 0 judged.session.models in let some = can.session.among.some_model in omega (arith, many, some));
    models = ap (λ (w : Workspace). w.models) opened ∙ sym (parts_models 0 judged.session.models);
    ruled = all_ruled 0 judged.session.models can.rules.constraints can.rules.goals can.rules.sequences;
    bound = within;
  }
