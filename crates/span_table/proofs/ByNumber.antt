-- What is known of tasks once that of a number is another.
use Rattle.std.proofs.Common.{◌≡◌, ℕ, zero, suc, ◌<◌, ◌≤◌, Bool, true, false, cond, ◌||◌, List, [], ◌∷◌, length, Option, Some, None, slice_get, refl, sym, ap, subst, ◌∙◌}
use Rattle.std.specs.Cmp.Lexicographic.{same_text}
use Rattle.std.specs.List.{IsDistinct, AllByRecursion}
use Rattle.std.specs.Map.{keys_of, values_of}
use Rattle.std.proofs.lemmas.Bool.{false≢true}
use Rattle.std.proofs.lemmas.Cmp.{nat_list_eq_equiv}
use Rattle.indexmap.specs.Layout.{set_value_at}
use Rattle.aerie_base.specs.Paths.{is_prefix}
use Rattle.run_data.specs.Spans.{same_path}
use Rattle.span_table.specs.declared.body_states.BodyState.{BodyState}
use Rattle.span_table.specs.declared.known_tasks.Ending.{Ending}
use Rattle.span_table.specs.declared.known_tasks.KnownTask.{KnownTask}
use Rattle.span_table.specs.KnownTasks.{TaskList, AreLinked, EndsAbove, IsPathAt, IsLinked, Links, PutsEnding, body_state_in, ending_of, known_task, links_of}
use Rattle.span_table.proofs.Noting.{child_prefix, root_prefix_any}

-- ---- one of a number

some_same : {A : Type 0} (one other : A) → Some one ≡ Some other → one ≡ other
some_same one other e = cc

-- the task of a number, by its link
pub there : (tasks : TaskList) (number : ℕ) (path : List ℕ) (above : Option ℕ) → slice_get (links_of tasks) number ≡ Some (path, above) →
    (task : KnownTask) × (slice_get tasks number ≡ Some (path, task)) × (task.above ≡ above)
there [] number path above is = absurd (cc)
there (entry ∷ rest) zero path above is =
    let link : (entry.0, entry.1.above) ≡ (path, above) = some_same (entry.0, entry.1.above) (path, above) is in
    (entry.1, ap (λ (l : List ℕ × Option ℕ). Some (l.0, entry.1)) link, ap (λ (l : List ℕ × Option ℕ). l.1) link)
there (entry ∷ rest) (suc number) path above is = there rest number path above is

pub value_there : (tasks : TaskList) (number : ℕ) (path : List ℕ) (task : KnownTask) → slice_get tasks number ≡ Some (path, task) → slice_get (values_of tasks) number ≡ Some task
value_there [] number path task is = absurd (cc)
value_there (entry ∷ rest) zero path task is = ap (λ (e : List ℕ × KnownTask). Some e.1) (some_same entry (path, task) is)
value_there (entry ∷ rest) (suc number) path task is = value_there rest number path task is

links_set : (tasks : TaskList) (number : ℕ) (path : List ℕ) (old new : KnownTask) → slice_get tasks number ≡ Some (path, old) → new.above ≡ old.above →
    links_of (set_value_at tasks number new) ≡ links_of tasks
links_set [] number path old new is same = refl
links_set (entry ∷ rest) zero path old new is same =
    let one : entry.1 ≡ old = ap (λ (e : List ℕ × KnownTask). e.1) (some_same entry (path, old) is) in ap (λ a. (entry.0, a) ∷ links_of rest) (same ∙ ap (λ (t : KnownTask). t.above) (sym one))
links_set (entry ∷ rest) (suc number) path old new is same = ap (λ l. (entry.0, entry.1.above) ∷ l) (links_set rest number path old new is same)

apart : (tasks : TaskList) (number : ℕ) (path first : List ℕ) (old : KnownTask) → AllByRecursion (λ p. same_path first p ≡ false) (keys_of tasks) →
    slice_get tasks number ≡ Some (path, old) → same_path first path ≡ false
apart [] number path first old all is = absurd (cc)
apart (entry ∷ rest) zero path first old all is = let one : entry.0 ≡ path = ap (λ (e : List ℕ × KnownTask). e.0) (some_same entry (path, old) is) in subst (λ p. same_path first p ≡ false) one all.0
apart (entry ∷ rest) (suc number) path first old all is = apart rest number path first old all.1 is

-- what is known of each path once the task of a number is another
pub known_set : (tasks : TaskList) (number : ℕ) (path : List ℕ) (old new : KnownTask) → IsDistinct same_path (keys_of tasks) → slice_get tasks number ≡ Some (path, old) →
    (other : List ℕ) → known_task (set_value_at tasks number new) other ≡ cond (same_path path other) (Some new) (known_task tasks other)
unfolding IsDistinct
known_set [] number path old new distinct is other = absurd (cc)
known_set (entry ∷ rest) zero path old new distinct is other =
    let one : entry.0 ≡ path = ap (λ (e : List ℕ × KnownTask). e.0) (some_same entry (path, old) is) in
    by (same_path other entry.0) (same_path path other) (nat_list_eq_equiv.symm other entry.0 ∙ ap (λ p. same_path p other) one)
  where
    by : (a b : Bool) → a ≡ b → cond a (Some new) (known_task rest other) ≡ cond b (Some new) (cond a (Some entry.1) (known_task rest other))
    by true true e = refl
    by true false e = absurd (cc)
    by false true e = absurd (cc)
    by false false e = refl
known_set (entry ∷ rest) (suc number) path old new distinct is other =
    ap (λ k. cond (same_path other entry.0) (Some entry.1) k) (known_set rest number path old new distinct.1 is other)
    ∙ by (same_path other entry.0) refl (same_path path other) refl
  where
    by : (a : Bool) → same_path other entry.0 ≡ a → (b : Bool) → same_path path other ≡ b →
        cond a (Some entry.1) (cond b (Some new) (known_task rest other)) ≡ cond b (Some new) (cond a (Some entry.1) (known_task rest other))
    by true e true f =
        let first : other ≡ entry.0 = same_text other entry.0 (sym e) in
        let second : path ≡ other = same_text path other (sym f) in
        let not_there : same_path entry.0 path ≡ false = apart rest number path entry.0 old distinct.0 is in
        absurd (false≢true (sym not_there ∙ (λ i. same_path (sym first i) (second i)) ∙ nat_list_eq_equiv.refl other))
    by true e false f = refl
    by false e true f = refl
    by false e false f = refl

-- the task of a number is what is known of its path
pub known_there : (tasks : TaskList) (number : ℕ) (path : List ℕ) (task : KnownTask) → IsDistinct same_path (keys_of tasks) → slice_get tasks number ≡ Some (path, task) →
    known_task tasks path ≡ Some task
unfolding IsDistinct
known_there [] number path task distinct is = absurd (cc)
known_there (entry ∷ rest) zero path task distinct is =
    let one : entry ≡ (path, task) = some_same entry (path, task) is in
    let other : entry.1 ≡ task = ap (λ (e : List ℕ × KnownTask). e.1) one in
    ap (λ b. cond b (Some entry.1) (known_task rest path)) (ap (λ (e : List ℕ × KnownTask). same_path path e.0) one ∙ nat_list_eq_equiv.refl path) ∙ ap Some other
known_there (entry ∷ rest) (suc number) path task distinct is =
    ap (λ b. cond b (Some entry.1) (known_task rest path)) (nat_list_eq_equiv.symm path entry.0 ∙ apart rest number path entry.0 task distinct.0 is)
    ∙ known_there rest number path task distinct.1 is

-- ---- a body, an end

module _ (tasks : TaskList) (number : ℕ) (old : KnownTask) (distinct : IsDistinct same_path (keys_of tasks)) (value : Some old ≡ slice_get (values_of tasks) number)
    (path : List ℕ) (above : Option ℕ) (link : slice_get (links_of tasks) number ≡ Some (path, above)) where
  old_there : (slice_get tasks number ≡ Some (path, old)) × (old.above ≡ above)
  old_there =
      let one = there tasks number path above link in
      let same : one.0 ≡ old = some_same one.0 old (sym (value_there tasks number path one.0 one.1) ∙ sym value) in
      (subst (λ (t : KnownTask). slice_get tasks number ≡ Some (path, t)) same one.1, subst (λ (t : KnownTask). t.above ≡ above) same one.2)

  body_put : (new : KnownTask) → new.body ≡ old.body → (other : List ℕ) → (b : Bool) → same_path path other ≡ b →
      body_state_in (cond b (Some new) (known_task tasks other)) ≡ body_state_in (known_task tasks other)
  body_put new same other true e =
      same ∙ ap body_state_in (sym (known_there tasks number path old distinct old_there.0) ∙ ap (known_task tasks) (same_text path other (sym e)))
  body_put new same other false e = refl

  ending_put : (new : KnownTask) → new.ending ≡ old.ending → (other : List ℕ) → (b : Bool) → same_path path other ≡ b →
      ending_of (cond b (Some new) (known_task tasks other)) ≡ ending_of (known_task tasks other)
  ending_put new same other true e =
      same ∙ ap ending_of (sym (known_there tasks number path old distinct old_there.0) ∙ ap (known_task tasks) (same_text path other (sym e)))
  ending_put new same other false e = refl

  body_if : (new : KnownTask) (other : List ℕ) → (b : Bool) → body_state_in (cond b (Some new) (known_task tasks other)) ≡ cond b new.body (body_state_in (known_task tasks other))
  body_if new other true = refl
  body_if new other false = refl

  ending_if : (new : KnownTask) (other : List ℕ) → (b : Bool) → ending_of (cond b (Some new) (known_task tasks other)) ≡ cond b new.ending (ending_of (known_task tasks other))
  ending_if new other true = refl
  ending_if new other false = refl

  pub puts_body : (body : BodyState) →
      let after = set_value_at tasks number (record { above = old.above; body = Some body; ending = old.ending }) in
      (links_of after ≡ links_of tasks)
      × ((other : List ℕ) → body_state_in (known_task after other) ≡ cond (same_path path other) (Some body) (body_state_in (known_task tasks other)))
      × ((other : List ℕ) → ending_of (known_task after other) ≡ ending_of (known_task tasks other))
  puts_body body =
      let new : KnownTask = record { above = old.above; body = Some body; ending = old.ending } in (
        links_set tasks number path old new old_there.0 refl,
        λ other. ap body_state_in (known_set tasks number path old new distinct old_there.0 other) ∙ body_if new other (same_path path other),
        λ other. ap ending_of (known_set tasks number path old new distinct old_there.0 other) ∙ ending_put new refl other (same_path path other) refl,
      )

  pub puts_ending : (ending : Ending) →
      let after = set_value_at tasks number (record { above = old.above; body = old.body; ending = ending }) in
      (old.above ≡ above) × (links_of after ≡ links_of tasks)
      × ((other : List ℕ) → body_state_in (known_task after other) ≡ body_state_in (known_task tasks other))
      × ((other : List ℕ) → ending_of (known_task after other) ≡ cond (same_path path other) ending (ending_of (known_task tasks other)))
  puts_ending ending =
      let new : KnownTask = record { above = old.above; body = old.body; ending = ending } in (
        old_there.1,
        links_set tasks number path old new old_there.0 refl,
        λ other. ap body_state_in (known_set tasks number path old new distinct old_there.0 other) ∙ body_put new refl other (same_path path other) refl,
        λ other. ap ending_of (known_set tasks number path old new distinct old_there.0 other) ∙ ending_if new other (same_path path other),
      )

-- there is no task of a number past all
pub none_there : (tasks : TaskList) (number : ℕ) (link : List ℕ × Option ℕ) → slice_get (links_of tasks) number ≡ Some link → None ≡ slice_get (values_of tasks) number → ⊥
none_there [] number link is none = cc
none_there (entry ∷ rest) zero link is none = cc
none_there (entry ∷ rest) (suc number) link is none = none_there rest number link is none

-- ---- all that a task is below

-- the path of a directive or daemon itself is above no other
pub ends_at_root : (number : ℕ) (ending : Ending) (before after : TaskList) (above : Option ℕ) (path : List ℕ) → PutsEnding number ending before after above →
    slice_get (links_of before) number ≡ Some (path, None) → IsLinked (links_of before) number path None →
    (links_of after ≡ links_of before)
    × ((other : List ℕ) → body_state_in (known_task after other) ≡ body_state_in (known_task before other))
    × ((other : List ℕ) → 2 ≤ length other → ending_of (known_task after other) ≡ cond (is_prefix other path) ending (ending_of (known_task before other)))
ends_at_root number ending before after above path puts link long =
    let put = puts path None link in (
      put.1,
      put.2,
      λ other least. put.3 other ∙ ap (λ b. cond b ending (ending_of (known_task before other))) (sym (root_prefix_any other path least long)),
    )

both : {A : Type 0} (b s : Bool) (time other : A) → cond b time (cond s time other) ≡ cond (b || s) time other
both true s time other = refl
both false true time other = refl
both false false time other = refl

pub ends_at_child : (number maker : ℕ) (ending : Ending) (before middle after : TaskList) (above : Option ℕ) (path : List ℕ) → PutsEnding number ending before middle above →
    slice_get (links_of before) number ≡ Some (path, Some maker) → IsLinked (links_of before) number path (Some maker) →
    ((path : List ℕ) → IsPathAt (links_of middle) maker path → (links_of after ≡ links_of middle)
    × ((other : List ℕ) → body_state_in (known_task after other) ≡ body_state_in (known_task middle other))
    × ((other : List ℕ) → 2 ≤ length other → ending_of (known_task after other) ≡ cond (is_prefix other path) ending (ending_of (known_task middle other)))) →
    (links_of after ≡ links_of before)
    × ((other : List ℕ) → body_state_in (known_task after other) ≡ body_state_in (known_task before other))
    × ((other : List ℕ) → 2 ≤ length other → ending_of (known_task after other) ≡ cond (is_prefix other path) ending (ending_of (known_task before other)))
ends_at_child number maker ending before middle after above path puts link linked further =
    let put = puts path (Some maker) link in
    let up = linked.1 in
    let rest = further up.0 (subst (λ (l : Links). IsPathAt l maker up.0) (sym put.1) up.1) in (
      rest.0 ∙ put.1,
      λ other. rest.1 other ∙ put.2 other,
      λ other least.
          rest.2 other least
          ∙ (ap (λ (e : Ending). cond (is_prefix other up.0) ending e) (put.3 other)
          ∙ (both (is_prefix other up.0) (same_path path other) ending (ending_of (known_task before other))
          ∙ ap (λ b. cond b ending (ending_of (known_task before other)))
          (ap (λ p. is_prefix other up.0 || same_path p other) up.2.1 ∙ sym (child_prefix other up.0 up.2.0) ∙ ap (is_prefix other) (sym up.2.1)))),
    )

module _ (number : ℕ) (ending : Ending) (before middle : TaskList) (above : Option ℕ) (puts : PutsEnding number ending before middle above) (linked : AreLinked (links_of before))
    (path : List ℕ) where
  maker_is : (maker : Option ℕ) → slice_get (links_of before) number ≡ Some (path, maker) → above ≡ maker
  maker_is maker link = (puts path maker link).0

  -- it was made by another, which ends too
  pub ends_with_maker : (maker : Option ℕ) → slice_get (links_of before) number ≡ Some (path, maker) → (up : ℕ) → above ≡ Some up → (after : TaskList) →
      (AreLinked (links_of middle) → EndsAbove up ending middle after) →
      (links_of after ≡ links_of before)
      × ((other : List ℕ) → body_state_in (known_task after other) ≡ body_state_in (known_task before other))
      × ((other : List ℕ) → 2 ≤ length other → ending_of (known_task after other) ≡ cond (is_prefix other path) ending (ending_of (known_task before other)))
  ends_with_maker None link up is after further = let made : None ≡ Some up = sym (maker_is None link) ∙ is in absurd (cc)
  ends_with_maker (Some maker) link up is after further =
      let same : maker ≡ up = some_same maker up (sym (maker_is (Some maker) link) ∙ is) in
      ends_at_child number maker ending before middle after above path puts link (linked number path (Some maker) link)
      (subst (λ n. EndsAbove n ending middle after) (sym same) (further (subst AreLinked (sym (puts path (Some maker) link).1) linked)))

  -- it was made by none
  pub ends_alone : (maker : Option ℕ) → slice_get (links_of before) number ≡ Some (path, maker) → ((up : ℕ) → above ≡ Some up → ⊥) →
      (links_of middle ≡ links_of before)
      × ((other : List ℕ) → body_state_in (known_task middle other) ≡ body_state_in (known_task before other))
      × ((other : List ℕ) → 2 ≤ length other → ending_of (known_task middle other) ≡ cond (is_prefix other path) ending (ending_of (known_task before other)))
  ends_alone None link is = ends_at_root number ending before middle above path puts link (linked number path None link)
  ends_alone (Some maker) link is = absurd (is maker (maker_is (Some maker) link))

  -- who made it has a smaller number
  pub made_before : (maker : Option ℕ) → slice_get (links_of before) number ≡ Some (path, maker) → (up : ℕ) → above ≡ Some up → up < number
  made_before None link up is = let made : None ≡ Some up = sym (maker_is None link) ∙ is in absurd (cc)
  made_before (Some maker) link up is =
      let same : maker ≡ up = some_same maker up (sym (maker_is (Some maker) link) ∙ is) in
      subst (λ n. n < number) same (linked number path (Some maker) link).0
