-- One task that goes on, judged on the table with all frames.
use Rattle.std.proofs.Common.{◌≡◌, ◌≢◌, ℕ, zero, suc, nat_eq, Bool, true, false, ◌&&◌, List, Option, None, refl, sym, ap, ◌∙◌, subst, arith, if◌then◌else◌}
use Rattle.aerie_base.specs.declared.values.Value.{Value}
use Rattle.aerie_base.specs.declared.plans.Edge.{Edge}
use Rattle.aerie_base.specs.declared.plans.Edge.TheVariants.{Start, End}
use Rattle.aerie_base.specs.Paths.{child_path}
use Rattle.run_data.specs.declared.tasks.TaskState.{TaskState}
use Rattle.run_data.specs.Endings.{is_open, has_ended, has_come, back, due_phase, result_of, result_of_phase, with_result, gone_on}
use Rattle.run_data.specs.Tasks.{TaskPhase, anchored, ready, delayed, waiting, calling, over, Task, Table, task_at, after_delay}
use Rattle.run_data.specs.laws.GoingOn.{IsQuiet}
use Rattle.run_data.specs.laws.OpenTasks.{back_open, due_open}
use Rattle.run_data.specs.laws.PathsUnder.{both_true, same_number}
use Rattle.run_data.specs.laws.QuietTasks.{quiet_after}
use Rattle.live_tasks.specs.Phases.{is_same_edge, phase_with_return, phase_when_due}

pub quiet_stays : (table : Table) (now : ℕ) (path : List ℕ) (phase : TaskPhase) → IsQuiet table path phase → due_phase table now (back table path phase) ≡ phase
quiet_stays table now path (calling child into state) h = rw h refl
quiet_stays table now path (anchored to edge start state) h = rw h refl
quiet_stays table now path (ready state) h = refl
quiet_stays table now path (delayed until state) h = refl
quiet_stays table now path (waiting condition state) h = refl
quiet_stays table now path (over result) h = refl

-- neither a caller nor anchored
abbrev pub IsFree : TaskPhase → Type 0
IsFree (ready state) = Unit {0}
IsFree (delayed until state) = Unit {0}
IsFree (anchored to edge start state) = ⊥
IsFree (waiting condition state) = ⊥
IsFree (calling child into state) = ⊥
IsFree (over result) = ⊥

pub delay_free : (now n : ℕ) (state : TaskState) → IsFree (after_delay now n state)
delay_free now zero state = tt
delay_free now (suc n) state = tt

pub free_no_call : (phase : TaskPhase) → IsFree phase → (child : ℕ) (into : Option ℕ) (state : TaskState) → phase ≡ calling child into state → ⊥
free_no_call phase free child into state e = subst IsFree e free

pub free_no_anchor : (phase : TaskPhase) → IsFree phase → (to : ℕ) (edge : Edge) (start : ℕ) (state : TaskState) → phase ≡ anchored to edge start state → ⊥
free_no_anchor phase free to edge start state e = subst IsFree e free

module _ (whole : Table) (now : ℕ) (path : List ℕ) where
  pub quiet_is : (task : Task) → IsQuiet whole path task.phase → gone_on whole now path task ≡ task
  quiet_is task h = ap (λ (phase : TaskPhase). record task { phase = phase }) (quiet_stays whole now path task.phase h)

  pub twice : (task : Task) → gone_on whole now path (gone_on whole now path task) ≡ gone_on whole now path task
  twice task = quiet_is (gone_on whole now path task) (quiet_after now whole path task)

  pub gone_open : (task : Task) → is_open (gone_on whole now path task).phase ≡ is_open task.phase
  gone_open task = due_open whole now (back whole path task.phase) ∙ back_open whole path task.phase

  delay_none : (n : ℕ) (state : TaskState) → result_of_phase (after_delay now n state) ≡ None
  delay_none zero state = refl
  delay_none (suc n) state = refl

  pub gone_result : (phase : TaskPhase) → result_of_phase (due_phase whole now (back whole path phase)) ≡ result_of_phase phase
  gone_result (anchored to edge start state) = by (has_come whole to edge)
    where
      by : (b : Bool) → result_of_phase (if b then after_delay now start state else anchored to edge start state) ≡ None
      by true = delay_none start state
      by false = refl
  gone_result (calling child into state) = by (has_ended whole (child_path path child))
    where
      next : TaskState
      next = with_result into (result_of (task_at whole (child_path path child))) state

      by : (b : Bool) → result_of_phase (due_phase whole now (if b then ready next else calling child into state)) ≡ None
      by true = refl
      by false = refl
  gone_result (ready state) = refl
  gone_result (delayed until state) = refl
  gone_result (waiting condition state) = refl
  gone_result (over result) = refl

  -- tasks of which the same becomes have the same open bodies and results
  pub same_open : (task first : Task) → gone_on whole now path task ≡ gone_on whole now path first → is_open task.phase ≡ is_open first.phase
  same_open task first e = sym (gone_open task) ∙ ap (λ (t : Task). is_open t.phase) e ∙ gone_open first

  pub same_result : (task first : Task) → gone_on whole now path task ≡ gone_on whole now path first → result_of_phase task.phase ≡ result_of_phase first.phase
  same_result task first e = sym (gone_result task.phase) ∙ ap (λ (t : Task). result_of_phase t.phase) e ∙ gone_result first.phase

  -- ---- a caller is told

  pub data Came (own : ℕ) (phase new : TaskPhase) : Type 0 where
    came : new ≡ due_phase whole now (back whole path phase) → IsFree new → Came own phase new
    stayed : new ≡ phase → ((child : ℕ) (into : Option ℕ) (state : TaskState) → phase ≡ calling child into state → child ≢ own) → Came own phase new

  no_call : (own : ℕ) (phase : TaskPhase) → Came own phase phase → Came own phase phase
  no_call own phase c = c

  pub comes_back : (own : ℕ) (result : Option Value) → has_ended whole (child_path path own) ≡ true → result_of (task_at whole (child_path path own)) ≡ result →
      (phase : TaskPhase) → Came own phase (phase_with_return own result phase)
  comes_back own result ended is (calling child into state) = by (nat_eq child own) refl
    where
      by : (b : Bool) → nat_eq child own ≡ b → Came own (calling child into state) (if b then ready (with_result into result state) else calling child into state)
      by true e =
          let k : child ≡ own = same_number child own e in
          let f : has_ended whole (child_path path child) ≡ true = ap (λ n. has_ended whole (child_path path n)) k ∙ ended in
          let g : result_of (task_at whole (child_path path child)) ≡ result = ap (λ n. result_of (task_at whole (child_path path n))) k ∙ is in
          came (rw (f, g) refl) tt
      by false e = stayed refl (λ c i s f. apart c i s f)
        where
          apart : (c : ℕ) (i : Option ℕ) (s : TaskState) → calling child into state ≡ calling c i s → c ≢ own
          apart c i s f g = let k : child ≡ c = cc in let l : nat_eq child own ≡ true = rw (k, g) (own_is own) in absurd (cc)
            where
              own_is : (n : ℕ) → nat_eq n n ≡ true
              own_is n = grind arith
  comes_back own result ended is (anchored to edge start state) = stayed refl (λ c i s f. absurd (cc))
  comes_back own result ended is (ready state) = stayed refl (λ c i s f. absurd (cc))
  comes_back own result ended is (delayed until state) = stayed refl (λ c i s f. absurd (cc))
  comes_back own result ended is (waiting condition state) = stayed refl (λ c i s f. absurd (cc))
  comes_back own result ended is (over value) = stayed refl (λ c i s f. absurd (cc))

  -- ---- an anchored task is told

  pub data Fell (to : ℕ) (edge : Edge) (phase new : TaskPhase) : Type 0 where
    fell : new ≡ due_phase whole now (back whole path phase) → IsFree new → Fell to edge phase new
    held : new ≡ phase → ((start : ℕ) (state : TaskState) → phase ≡ anchored to edge start state → ⊥) → Fell to edge phase new

  same_edge : (one two : Edge) → is_same_edge one two ≡ true → one ≡ two
  same_edge Start Start e = refl
  same_edge End End e = refl
  same_edge Start End e = absurd (cc)
  same_edge End Start e = absurd (cc)

  edge_itself : (one : Edge) → is_same_edge one one ≡ true
  edge_itself Start = refl
  edge_itself End = refl

  pub falls_due : (to : ℕ) (edge : Edge) → has_come whole to edge ≡ true → (phase : TaskPhase) → Fell to edge phase (phase_when_due now to edge phase)
  falls_due to edge come (anchored id at start state) = by (nat_eq id to && is_same_edge at edge) refl
    where
      by : (b : Bool) → (nat_eq id to && is_same_edge at edge) ≡ b → Fell to edge (anchored id at start state) (if b then after_delay now start state else anchored id at start state)
      by true e =
          let fit = both_true (nat_eq id to) (is_same_edge at edge) e in
          let k : has_come whole id at ≡ true = (λ i. has_come whole (same_number id to fit.0 i) (same_edge at edge fit.1 i)) ∙ come in
          fell (rw k refl) (delay_free now start state)
      by false e = held refl (λ s t f. apart s t f)
        where
          apart : (s : ℕ) (t : TaskState) → anchored id at start state ≡ anchored to edge s t → ⊥
          apart s t f =
              let k : id ≡ to = cc in let l : at ≡ edge = cc in
              let m : (nat_eq id to && is_same_edge at edge) ≡ true = rw (k, l) (both to edge) in absurd (cc)
            where
              both : (n : ℕ) (one : Edge) → (nat_eq n n && is_same_edge one one) ≡ true
              both n one = let k : nat_eq n n ≡ true = grind arith in rw k (edge_itself one)
  falls_due to edge come (calling child into state) = held refl (λ s t f. absurd (cc))
  falls_due to edge come (ready state) = held refl (λ s t f. absurd (cc))
  falls_due to edge come (delayed until state) = held refl (λ s t f. absurd (cc))
  falls_due to edge come (waiting condition state) = held refl (λ s t f. absurd (cc))
  falls_due to edge come (over value) = held refl (λ s t f. absurd (cc))
