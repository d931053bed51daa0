-- Which tasks are unfinished, once all frames are known.
use Rattle.std.proofs.Common.{◌≡◌, ◌⊎◌, inl, inr, ℕ, zero, suc, ◌<◌, ◌≤◌, Bool, true, false, not, cond, ◌&&◌, ◌||◌, List, [], ◌∷◌, length, map, take, Option, Some, None, slice_get, refl, sym, ap, subst, ◌∙◌, arith}
use Rattle.std.specs.Cmp.Lexicographic.{same_text}
use Rattle.std.specs.List.{list_any}
use Rattle.std.proofs.lemmas.Bool.{false≢true}
use Rattle.std.proofs.lemmas.List.{take_all}
use Rattle.aerie_base.specs.declared.values.Value.{Value}
use Rattle.aerie_base.specs.Paths.{is_prefix}
use Rattle.run_data.specs.Spans.{Timed, same_path, task_ended, result_in}
use Rattle.span_table.specs.declared.known_tasks.Ending.{Ending}
use Rattle.span_table.specs.declared.known_tasks.Ending.TheVariants.{After, Unfinished}
use Rattle.span_table.specs.declared.known_tasks.KnownTask.{KnownTask}
use Rattle.span_table.specs.declared.span.Span.{Span}
use Rattle.span_table.specs.Begun.{last_after, with_end_if, with_end}
use Rattle.span_table.specs.BodyStates.{body_after, is_open_after, is_open_state, known_result}
use Rattle.span_table.specs.KnownTasks.{TaskList, AreLinked, EndsAbove, IsPathAt, Links, body_state_in, ending_of, known_task, links_of}
use Rattle.span_table.specs.Progress.{KnowsEnds, KnowsTasks}
use Rattle.span_table.proofs.Endings.{IsIn, ended_by, result_is}
use Rattle.span_table.proofs.Frames.{open_is}

abbrev pub paths_of : Links → List (List ℕ)
paths_of links = map (λ link. link.0) links

-- some open body among these is at a path or under it
abbrev pub any_open : List Timed → List ℕ → List (List ℕ) → Bool
any_open frames path paths = list_any (λ other. is_prefix path other && is_open_after frames other) paths

-- the open bodies of smaller numbers have marked what they are below
pub record MarkedTo (frames : List Timed) (number : ℕ) (before after : TaskList) : Type 0 where
  pub linked : AreLinked (links_of after)
  pub links : links_of after ≡ links_of before
  pub bodies : (path : List ℕ) → body_state_in (known_task after path) ≡ body_after frames path
  pub endings : (path : List ℕ) → 2 ≤ length path →
      ending_of (known_task after path) ≡ cond (any_open frames path (paths_of (take number (links_of before)))) Unfinished (After (last_after None frames path))

pub none_marked : (frames : List Timed) (tasks : TaskList) → KnowsTasks frames tasks → MarkedTo frames 0 tasks tasks
none_marked frames tasks knows = record { linked = knows.linked; links = refl; bodies = knows.bodies; endings = knows.endings }

-- ---- one more

link_below : (links : Links) (number : ℕ) → number < length links → (link : List ℕ × Option ℕ) × (slice_get links number ≡ Some link)
link_below [] number within = absurd (omega (arith, within))
link_below (link ∷ links) zero within = (link, refl)
link_below (link ∷ links) (suc number) within = link_below links number (omega (arith, within))

open_more : (frames : List Timed) (path : List ℕ) (links : Links) (number : ℕ) (link : List ℕ × Option ℕ) → slice_get links number ≡ Some link →
    any_open frames path (paths_of (take (suc number) links)) ≡ ((is_prefix path link.0 && is_open_after frames link.0) || any_open frames path (paths_of (take number links)))
open_more frames path [] number link is = absurd (cc)
open_more frames path (first ∷ rest) zero link is =
    ap (λ (l : List ℕ × Option ℕ). (is_prefix path l.0 && is_open_after frames l.0) || false) (some_same first link is)
  where
    some_same : (one other : List ℕ × Option ℕ) → Some one ≡ Some other → one ≡ other
    some_same one other e = cc
open_more frames path (first ∷ rest) (suc number) link is =
    ap (λ b. (is_prefix path first.0 && is_open_after frames first.0) || b) (open_more frames path rest number link is)
    ∙ exchanged (is_prefix path first.0 && is_open_after frames first.0) (is_prefix path link.0 && is_open_after frames link.0) (any_open frames path (paths_of (take number rest)))
  where
    exchanged : (a b c : Bool) → (a || (b || c)) ≡ (b || (a || c))
    exchanged true true c = refl
    exchanged true false c = refl
    exchanged false true c = refl
    exchanged false false c = refl

module _ (frames : List Timed) (number : ℕ) (before middle : TaskList) (marked : MarkedTo frames number before middle) (within : number < length before) where
  links_long : (tasks : TaskList) → length (links_of tasks) ≡ length tasks
  links_long [] = refl
  links_long (entry ∷ rest) = ap suc (links_long rest)

  link : (link : List ℕ × Option ℕ) × (slice_get (links_of before) number ≡ Some link)
  link = let long = links_long before in link_below (links_of before) number (omega (arith, within, long))

  here : IsPathAt (links_of middle) number link.0.0
  here = subst (λ (l : Links). IsPathAt l number link.0.0) (sym marked.links) (link.0.1, link.1)

  -- it is told whether the body of the number is is_open
  told : (is_open : Bool) → ((path : List ℕ) → IsPathAt (links_of middle) number path → is_open ≡ is_open_state (body_state_in (known_task middle path))) → is_open ≡ is_open_after frames link.0.0
  told is_open tells = tells link.0.0 here ∙ (ap is_open_state (marked.bodies link.0.0) ∙ sym (open_is frames link.0.0))

  abbrev any_before : List ℕ → Bool
  any_before path = any_open frames path (paths_of (take number (links_of before)))

  any_after : (path : List ℕ) (is_open : Bool) → is_open ≡ is_open_after frames link.0.0 →
      any_open frames path (paths_of (take (suc number) (links_of before))) ≡ ((is_prefix path link.0.0 && is_open) || any_before path)
  any_after path is_open is =
      open_more frames path (links_of before) number link.0 link.1 ∙ ap (λ b. (is_prefix path link.0.0 && b) || any_before path) (sym is)

  no_more : (b c : Bool) → ((b && false) || c) ≡ c
  no_more true c = refl
  no_more false c = refl

  pub marked_same : (is_open : Bool) → ((path : List ℕ) → IsPathAt (links_of middle) number path → is_open ≡ is_open_state (body_state_in (known_task middle path))) → is_open ≡ false →
      MarkedTo frames (suc number) before middle
  marked_same is_open tells closed = record {
    linked = marked.linked;
    links = marked.links;
    bodies = marked.bodies;
    endings = λ path long.
        marked.endings path long
        ∙ ap (λ b. cond b Unfinished (After (last_after None frames path)))
        (sym (any_after path false (sym closed ∙ told is_open tells) ∙ no_more (is_prefix path link.0.0) (any_before path)));
  }

  nested : (a b : Bool) (last : Option ℕ) → cond a Unfinished (cond b Unfinished (After last)) ≡ cond ((a && true) || b) Unfinished (After last)
  nested true b last = refl
  nested false b last = refl

  pub marked_more : (is_open : Bool) (after : TaskList) → ((path : List ℕ) → IsPathAt (links_of middle) number path → is_open ≡ is_open_state (body_state_in (known_task middle path))) → is_open ≡ true →
      (AreLinked (links_of middle) → EndsAbove number Unfinished middle after) → MarkedTo frames (suc number) before after
  marked_more is_open after tells still ends =
      let end = ends marked.linked link.0.0 here in
      record {
        linked = subst AreLinked (sym end.0) marked.linked;
        links = end.0 ∙ marked.links;
        bodies = λ path. end.1 path ∙ marked.bodies path;
        endings = λ path long.
            end.2 path long
            ∙ (ap (λ (e : Ending). cond (is_prefix path link.0.0) Unfinished e) (marked.endings path long)
            ∙ (nested (is_prefix path link.0.0) (any_before path) (last_after None frames path)
            ∙ ap (λ b. cond b Unfinished (After (last_after None frames path))) (sym (any_after path true (sym still ∙ told is_open tells)))));
      }

-- ---- all

among_all : (tasks : TaskList) (path : List ℕ) (task : KnownTask) → known_task tasks path ≡ Some task → IsIn (paths_of (links_of tasks)) path
among_all [] path task is = absurd (cc)
among_all (entry ∷ rest) path task is = by (same_path path entry.0) refl is (among_all rest path task)
  where
    by : (b : Bool) → same_path path entry.0 ≡ b → cond b (Some entry.1) (known_task rest path) ≡ Some task → (known_task rest path ≡ Some task → IsIn (paths_of (links_of rest)) path) →
        (entry.0 ≡ path) ⊎ IsIn (paths_of (links_of rest)) path
    by true e f further = inl (sym (same_text path entry.0 (sym e)))
    by false e f further = inr (further f)

open_known : (frames : List Timed) (tasks : TaskList) → ((path : List ℕ) → body_state_in (known_task tasks path) ≡ body_after frames path) →
    (path : List ℕ) → is_open_after frames path ≡ true → IsIn (paths_of (links_of tasks)) path
open_known frames tasks bodies path still = by (known_task tasks path) refl
  where
    by : (o : Option KnownTask) → known_task tasks path ≡ o → IsIn (paths_of (links_of tasks)) path
    by None e =
        absurd (false≢true (ap is_open_state (ap body_state_in (sym e) ∙ bodies path) ∙ (sym (open_is frames path) ∙ still)))
    by (Some task) e = among_all tasks path task e

pub all_marked : (frames : List Timed) (number : ℕ) (before after : TaskList) → KnowsTasks frames before → length before ≤ number → MarkedTo frames number before after →
    KnowsEnds frames after
all_marked frames number before after knows past marked = record {
  bodies = marked.bodies;
  endings = λ path long.
      marked.endings path long
      ∙ (ap (λ (l : Links). cond (any_open frames path (paths_of l)) Unfinished (After (last_after None frames path))) whole
      ∙ (by_negation (any_open frames path (paths_of (links_of before))) (After (last_after None frames path))
      ∙ ap (λ b. cond b (After (last_after None frames path)) Unfinished)
      (sym (ended_by frames (paths_of (links_of before)) path (any_open frames path (paths_of (links_of before))) refl (open_known frames before knows.bodies)))));
}
  where
    links_long : (tasks : TaskList) → length (links_of tasks) ≡ length tasks
    links_long [] = refl
    links_long (entry ∷ rest) = ap suc (links_long rest)

    whole : take number (links_of before) ≡ links_of before
    whole = let long = links_long before in take_all number (links_of before) (omega (arith, long, past))

    by_negation : (b : Bool) (last : Ending) → cond b Unfinished last ≡ cond (not b) last Unfinished
    by_negation true last = refl
    by_negation false last = refl

-- ---- a span

some_same : {A : Type 0} (one other : A) → Some one ≡ Some other → one ≡ other
some_same one other e = cc

after_same : (one other : Option ℕ) → After one ≡ After other → one ≡ other
after_same one other e = cc

link_at : (tasks : TaskList) (number : ℕ) (path key : List ℕ) (task : KnownTask) → IsPathAt (links_of tasks) number path → slice_get tasks number ≡ Some (key, task) → key ≡ path
link_at [] number path key task at is = absurd (cc)
link_at (entry ∷ rest) zero path key task at is =
    ap (λ (e : List ℕ × KnownTask). e.0) (sym (some_same entry (key, task) is))
    ∙ ap (λ (l : List ℕ × Option ℕ). l.0) (some_same (entry.0, entry.1.above) (path, at.0) at.1)
link_at (entry ∷ rest) (suc number) path key task at is = link_at rest number path key task at is

module _ (frames : List Timed) (tasks : TaskList) (knows : KnowsEnds frames tasks) (number : ℕ) (span : Span) (long : 2 ≤ length span.path) (at : IsPathAt (links_of tasks) number span.path)
    (key : List ℕ) (task : KnownTask) (is : slice_get tasks number ≡ Some (key, task)) (there : known_task tasks key ≡ Some task) where
  known_here : known_task tasks span.path ≡ Some task
  known_here = ap (known_task tasks) (sym (link_at tasks number span.path key task at is)) ∙ there

  ending_here : task.ending ≡ cond (task_ended frames span.path) (After (last_after None frames span.path)) Unfinished
  ending_here = ap ending_of (sym known_here) ∙ knows.endings span.path long

  result_here : known_result task.body ≡ result_in frames span.path
  result_here = ap known_result (ap body_state_in (sym known_here) ∙ knows.bodies span.path) ∙ sym (result_is span.path frames)

  pub finished : (end : Option ℕ) → task.ending ≡ After end → (result : Option Value) → result ≡ known_result task.body → record span { end = end; result = result } ≡ with_end frames span
  finished end e result tells = by (task_ended frames span.path) ending_here
    where
      by : (b : Bool) → task.ending ≡ cond b (After (last_after None frames span.path)) Unfinished → record span { end = end; result = result } ≡ with_end_if b frames span
      by true f =
          ap (λ (o : Option ℕ). record span { end = o; result = result }) (after_same end (last_after None frames span.path) (sym e ∙ f))
          ∙ ap (λ (o : Option Value). record span { end = last_after None frames span.path; result = o }) (tells ∙ result_here)
      by false f = let no : After end ≡ Unfinished = sym e ∙ f in absurd (cc)

  pub unfinished : ((end : Option ℕ) → task.ending ≡ After end → ⊥) → span ≡ with_end frames span
  unfinished never = by (task_ended frames span.path) ending_here
    where
      by : (b : Bool) → task.ending ≡ cond b (After (last_after None frames span.path)) Unfinished → span ≡ with_end_if b frames span
      by true f = absurd (never (last_after None frames span.path) f)
      by false f = refl

pub not_past : (tasks : TaskList) (number : ℕ) (path : List ℕ) → IsPathAt (links_of tasks) number path → slice_get tasks number ≡ None → ⊥
not_past [] number path at none = let k = at.1 in cc
not_past (entry ∷ rest) zero path at none = cc
not_past (entry ∷ rest) (suc number) path at none = not_past rest number path at none
