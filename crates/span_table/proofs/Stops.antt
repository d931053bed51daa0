-- Ends that are known already: where it stops to give tasks an end.
use Rattle.std.proofs.Common.{◌≡◌, ℕ, ◌≤◌, Bool, true, false, not, cond, ◌||◌, List, length, Option, Some, None, slice_get, refl, sym, ap, subst, ◌∙◌}
use Rattle.std.specs.Prelude.{IfSome, pos, nat_abs}
use Rattle.std.specs.Ordering.{int_eq}
use Rattle.std.proofs.lemmas.Bool.{false≢true}
use Rattle.aerie_base.specs.SameValues.{numbers_are}
use Rattle.aerie_base.specs.Paths.{child_path, is_prefix}
use Rattle.run_data.specs.Spans.{Timed, same_path}
use Rattle.span_table.specs.Begun.{last_after}
use Rattle.span_table.specs.declared.known_tasks.Ending.{Ending}
use Rattle.span_table.specs.declared.known_tasks.Ending.TheVariants.{After}
use Rattle.span_table.specs.declared.progress.LastFrame.{LastFrame}
use Rattle.span_table.specs.KnownTasks.{TaskList, Links, EndsAbove, HaveEnding, IsLinked, IsMakerOf, IsPathAt, Numbers, PutsEnding, ending_of, known_task, links_of}
use Rattle.span_table.specs.Progress.{IsLast, KnowsLast, KnowsTasks}
use Rattle.span_table.proofs.Frames.{last_more}
use Rattle.span_table.proofs.Noting.{child_prefix}

-- ---- ends that are given

-- where all have the end already nothing changes
pub stopped : (number : ℕ) (stop : Option ℕ) (ending : Ending) (tasks : TaskList) → stop ≡ Some number → IfSome stop (HaveEnding tasks ending) → EndsAbove number ending tasks tasks
stopped number stop ending tasks is have path at = (refl, λ other. refl, λ other long. by other long (is_prefix other path) refl)
  where
    have_it : HaveEnding tasks ending number
    have_it = subst (λ (o : Option ℕ). IfSome o (HaveEnding tasks ending)) is have

    by : (other : List ℕ) → 2 ≤ length other → (b : Bool) → is_prefix other path ≡ b → ending_of (known_task tasks other) ≡ cond b ending (ending_of (known_task tasks other))
    by other long true e = have_it path other at long e
    by other long false e = refl

-- they have it still once another has it too
pub have_still : (number : ℕ) (ending : Ending) (before middle : TaskList) (above maker : Option ℕ) (path : List ℕ) → PutsEnding number ending before middle above →
    slice_get (links_of before) number ≡ Some (path, maker) → (stop : Option ℕ) → IfSome stop (HaveEnding before ending) → IfSome stop (HaveEnding middle ending)
have_still number ending before middle above maker path puts link None have = have
have_still number ending before middle above maker path puts link (Some stop) have = λ there other at long under.
    let put = puts path maker link in
    put.3 other
    ∙ same (same_path path other) (ending_of (known_task before other)) (have there other (subst (λ (l : Links). IsPathAt l stop there) put.1 at) long under)
  where
    same : (b : Bool) (was : Ending) → was ≡ ending → cond b ending was ≡ ending
    same true was e = refl
    same false was e = e

-- ---- the last frame

some_same : {A : Type 0} (one other : A) → Some one ≡ Some other → one ≡ other
some_same one other e = cc

-- a number is of one path
one_path : (links : Links) (number : ℕ) (path other : List ℕ) → IsPathAt links number path → IsPathAt links number other → path ≡ other
one_path links number path other at there =
    ap (λ (l : List ℕ × Option ℕ). l.0) (some_same (path, at.0) (other, there.0) (sym at.1 ∙ there.1))

pub same_time : (time other : ℕ) (differ : Bool) → differ ≡ not (int_eq (pos time) (pos other)) → differ ≡ false → time ≡ other
same_time time other differ is same = by (int_eq (pos time) (pos other)) refl (sym same ∙ is)
  where
    by : (b : Bool) → int_eq (pos time) (pos other) ≡ b → false ≡ not b → time ≡ other
    by true e f = ap nat_abs (numbers_are (pos time) (pos other) e)
    by false e f = absurd (false≢true f)

module _ (frames : List Timed) (tasks : TaskList) (knows : KnowsTasks frames tasks) (last : LastFrame) (is : IsLast frames (links_of tasks) last) (time : ℕ) (same : last.time ≡ time) where
  ends_so : (path : List ℕ) → 2 ≤ length path → is_prefix path is.frame.path ≡ true → ending_of (known_task tasks path) ≡ After (Some time)
  ends_so path long under =
      knows.endings path long
      ∙ (ap (λ (l : List Timed). After (last_after None l path)) is.are
      ∙ (ap After (last_more None path is.before (last.time, is.frame))
      ∙ (ap (λ b. After (cond b (Some last.time) (last_after None is.before path))) under
      ∙ ap (λ t. After (Some t)) same)))

  pub last_have : HaveEnding tasks (After (Some time)) last.number
  last_have path other at long under =
      ends_so other long (subst (λ p. is_prefix other p ≡ true) (one_path (links_of tasks) last.number path is.frame.path at is.at) under)

  pub maker_have : (maker : ℕ) → IsMakerOf tasks last.number (Some maker) → HaveEnding tasks (After (Some time)) maker
  maker_have maker tells path other at long under =
      let made : Some maker ≡ is.at.0 = tells is.frame.path is.at.0 is.at.1 in
      let linked = subst (λ (o : Option ℕ). IsLinked (links_of tasks) last.number is.frame.path o) (sym made) (knows.linked last.number is.frame.path is.at.0 is.at.1) in
      let up = linked.1 in
      let above : is_prefix other up.0 ≡ true = subst (λ p. is_prefix other p ≡ true) (one_path (links_of tasks) maker path up.0 at up.1) under in
      ends_so other long
      (ap (is_prefix other) up.2.1
      ∙ (child_prefix other up.0 up.2.0
      ∙ ap (λ b. b || same_path (child_path up.0 up.2.0) other) above))

-- ---- a number more

pub knows_still : (frames : List Timed) (path : List ℕ) (number : ℕ) (before after : TaskList) → KnowsTasks frames before → Numbers path number before after → KnowsTasks frames after
knows_still frames path number before after knows numbered = record {
  linked = numbered.linked;
  bodies = λ other. numbered.same.bodies other ∙ knows.bodies other;
  endings = λ other long. numbered.same.endings other ∙ knows.endings other long;
}

pub last_still : (frames : List Timed) (path : List ℕ) (number : ℕ) (before after : TaskList) → Numbers path number before after → (last : Option LastFrame) →
    KnowsLast frames (links_of before) last → KnowsLast frames (links_of after) last
last_still frames path number before after numbered None knows = knows
last_still frames path number before after numbered (Some last) is = record {
  before = is.before;
  frame = is.frame;
  are = is.are;
  at = (is.at.0, numbered.kept last.number (is.frame.path, is.at.0) is.at.1);
}
