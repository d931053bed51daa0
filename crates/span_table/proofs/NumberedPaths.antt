-- The number of a path: one that is there, or the next one.
use Rattle.std.proofs.Common.{◌≡◌, ◌⊎◌, inl, inr, ℕ, zero, suc, ◌+◌, ◌<◌, Bool, true, false, cond, ◌&&◌, IsTrue, List, [], ◌∷◌, ◌++◌, length, Option, Some, None, is_some, slice_get, nat_eq, refl, sym, ap, subst, ◌∙◌, arith}
use Rattle.std.specs.Cmp.Lexicographic.{same_text}
use Rattle.std.specs.Map.{lookup_key}
use Rattle.std.proofs.lemmas.Bool.{false≢true, eqb-true}
use Rattle.indexmap.specs.IndexMap.{insert_entry}
use Rattle.aerie_base.specs.Paths.{path_of, is_path, is_prefix, child_path, children_of}
use Rattle.run_data.specs.Spans.{same_path}
use Rattle.span_table.specs.declared.known_tasks.Ending.TheVariants.{After}
use Rattle.span_table.specs.declared.known_tasks.KnownTask.{KnownTask}
use Rattle.span_table.specs.KnownTasks.{TaskList, AreLinked, IsChild, IsLinked, IsMaker, IsPathAt, KnowSame, Links, MayBeLinked, Numbers, body_state_in, ending_of, known_task, links_of}

some_same : {A : Type 0} (one other : A) → Some one ≡ Some other → one ≡ other
some_same one other e = cc

-- ---- one that is there

pub key_is : (tasks : TaskList) (path key : List ℕ) → Some key ≡ lookup_key (same_path path) tasks → path ≡ key
key_is [] path key is = absurd (cc)
key_is (entry ∷ rest) path key is = by (same_path path entry.0) refl is (key_is rest path key)
  where
    by : (b : Bool) → same_path path entry.0 ≡ b → Some key ≡ cond b (Some entry.0) (lookup_key (same_path path) rest) →
        (Some key ≡ lookup_key (same_path path) rest → path ≡ key) → path ≡ key
    by true e f further = same_text path entry.0 (sym e) ∙ sym (some_same key entry.0 f)
    by false e f further = further f

link_there : (tasks : TaskList) (number : ℕ) (path : List ℕ) (task : KnownTask) → slice_get tasks number ≡ Some (path, task) →
    slice_get (links_of tasks) number ≡ Some (path, task.above)
link_there [] number path task is = absurd (cc)
link_there (entry ∷ rest) zero path task is = ap (λ (e : List ℕ × KnownTask). Some (e.0, e.1.above)) (some_same entry (path, task) is)
link_there (entry ∷ rest) (suc number) path task is = link_there rest number path task is

pub path_at : (tasks : TaskList) (number : ℕ) (path : List ℕ) (task : KnownTask) → slice_get tasks number ≡ Some (path, task) → IsPathAt (links_of tasks) number path
path_at tasks number path task is = (task.above, link_there tasks number path task is)

nothing_changed : (tasks : TaskList) → KnowSame tasks tasks
nothing_changed tasks = record { bodies = λ path. refl; endings = λ path. refl }

pub has_number : (tasks : TaskList) (number : ℕ) (path key : List ℕ) (task : KnownTask) → Some key ≡ lookup_key (same_path path) tasks → slice_get tasks number ≡ Some (key, task) →
    AreLinked (links_of tasks) → Numbers path number tasks tasks
has_number tasks number path key task found is linked = record {
  linked = linked;
  there = path_at tasks number path task (is ∙ ap (λ p. Some (p, task)) (sym (key_is tasks path key found)));
  kept = λ other link there. there;
  same = nothing_changed tasks;
}

-- a path that has a number already
pub numbered_there : (tasks : TaskList) (number : ℕ) (path : List ℕ) → AreLinked (links_of tasks) → IsPathAt (links_of tasks) number path → Numbers path number tasks tasks
numbered_there tasks number path linked there = record {
  linked = linked;
  there = there;
  kept = λ other link is. is;
  same = nothing_changed tasks;
}

pub path_here : (tasks : TaskList) (number : ℕ) (path key : List ℕ) (task : KnownTask) → Some (key, task) ≡ slice_get tasks number → key ≡ path → IsPathAt (links_of tasks) number path
path_here tasks number path key task is same = subst (IsPathAt (links_of tasks) number) same (path_at tasks number key task (sym is))

pub not_known : (o : Option KnownTask) (found : Bool) → is_some o ≡ found → found ≡ false → o ≡ None
not_known None found e f = refl
not_known (Some task) found e f = absurd (false≢true (sym f ∙ sym e))

-- ---- the next one

module _ {A : Type 0} where
  kept : (l : List A) (x y : A) (n : ℕ) → slice_get l n ≡ Some y → slice_get (l ++ x ∷ []) n ≡ Some y
  kept [] x y n is = absurd (cc)
  kept (a ∷ l) x y zero is = is
  kept (a ∷ l) x y (suc n) is = kept l x y n is

  last_there : (l : List A) (x : A) → slice_get (l ++ x ∷ []) (length l) ≡ Some x
  last_there [] x = refl
  last_there (a ∷ l) x = last_there l x

  either : (l : List A) (x y : A) (n : ℕ) → slice_get (l ++ x ∷ []) n ≡ Some y → (slice_get l n ≡ Some y) ⊎ ((n ≡ length l) × (x ≡ y))
  either [] x y zero is = inr (refl, some_same x y is)
  either [] x y (suc n) is = absurd (cc)
  either (a ∷ l) x y zero is = inl is
  either (a ∷ l) x y (suc n) is = by (either l x y n is)
    where
      by : ((slice_get l n ≡ Some y) ⊎ ((n ≡ length l) × (x ≡ y))) → (slice_get l n ≡ Some y) ⊎ ((suc n ≡ suc (length l)) × (x ≡ y))
      by (inl there) = inl there
      by (inr last) = inr (ap suc last.0, last.1)

  within : (l : List A) (y : A) (n : ℕ) → slice_get l n ≡ Some y → n < length l
  within [] y n is = absurd (cc)
  within (a ∷ l) y zero is = omega arith
  within (a ∷ l) y (suc n) is = let further = within l y n is in omega (arith, further)

links_more : (tasks : TaskList) (path : List ℕ) (task : KnownTask) → links_of (tasks ++ (path, task) ∷ []) ≡ links_of tasks ++ (path, task.above) ∷ []
links_more [] path task = refl
links_more (entry ∷ rest) path task = ap (λ l. (entry.0, entry.1.above) ∷ l) (links_more rest path task)

links_long : (tasks : TaskList) → length (links_of tasks) ≡ length tasks
links_long [] = refl
links_long (entry ∷ rest) = ap suc (links_long rest)

inserted : (tasks : TaskList) (path : List ℕ) (task : KnownTask) → known_task tasks path ≡ None → insert_entry same_path tasks path task ≡ tasks ++ (path, task) ∷ []
inserted [] path task none = refl
inserted (entry ∷ rest) path task none = by (same_path path entry.0) none (inserted rest path task)
  where
    by : (b : Bool) → cond b (Some entry.1) (known_task rest path) ≡ None → (known_task rest path ≡ None → insert_entry same_path rest path task ≡ rest ++ (path, task) ∷ []) →
        cond b ((entry.0, task) ∷ rest) (entry ∷ insert_entry same_path rest path task) ≡ entry ∷ rest ++ (path, task) ∷ []
    by true e further = absurd (cc)
    by false e further = ap (λ l. entry ∷ l) (further e)

-- who is linked stays so
maker_stays : (links more : Links) (number : ℕ) (path : List ℕ) → ((k : ℕ) (link : List ℕ × Option ℕ) → slice_get links k ≡ Some link → slice_get more k ≡ Some link) →
    IsMaker links number path → IsMaker more number path
maker_stays links more number path keeps is = (is.0, (is.1.0, keeps number (is.0, is.1.0) is.1.1), is.2)

linked_stays : (links more : Links) (number : ℕ) (path : List ℕ) (above : Option ℕ) →
    ((k : ℕ) (link : List ℕ × Option ℕ) → slice_get links k ≡ Some link → slice_get more k ≡ Some link) → IsLinked links number path above → IsLinked more number path above
linked_stays links more number path None keeps is = is
linked_stays links more number path (Some above) keeps is = (is.0, maker_stays links more above path keeps is.1)

linked_more : (links : Links) (last : List ℕ × Option ℕ) → AreLinked links → IsLinked links (length links) last.0 last.1 → AreLinked (links ++ last ∷ [])
linked_more links last linked may number other maker is = by (either links last link number is)
  where
    link : List ℕ × Option ℕ
    link = (other, maker)

    keeps : (k : ℕ) (one : List ℕ × Option ℕ) → slice_get links k ≡ Some one → slice_get (links ++ last ∷ []) k ≡ Some one
    keeps k one there = kept links last one k there

    by : ((slice_get links number ≡ Some link) ⊎ ((number ≡ length links) × (last ≡ link))) → IsLinked (links ++ last ∷ []) number other maker
    by (inl there) = linked_stays links (links ++ last ∷ []) number other maker keeps (linked number other maker there)
    by (inr here) =
        linked_stays links (links ++ last ∷ []) number other maker keeps
        (subst (λ n. IsLinked links n other maker) (sym here.0) (subst (λ (l : List ℕ × Option ℕ). IsLinked links (length links) l.0 l.1) here.1 may))

module _ (before after : TaskList) (path : List ℕ) (above : Option ℕ) (none : known_task before path ≡ None) (may : MayBeLinked before path above) where
  abbrev fresh : KnownTask
  fresh = record { above = above; body = None; ending = After None }

  same_body : (other : List ℕ) (b : Bool) → same_path path other ≡ b → body_state_in (cond b (Some fresh) (known_task before other)) ≡ body_state_in (known_task before other)
  same_body other true e = ap body_state_in (sym none ∙ ap (known_task before) (same_text path other (sym e)))
  same_body other false e = refl

  same_ending : (other : List ℕ) (b : Bool) → same_path path other ≡ b → ending_of (cond b (Some fresh) (known_task before other)) ≡ ending_of (known_task before other)
  same_ending other true e = ap ending_of (sym none ∙ ap (known_task before) (same_text path other (sym e)))
  same_ending other false e = refl

  pub is_added : (number : ℕ) → number ≡ length before → after ≡ insert_entry same_path before path fresh →
      ((other : List ℕ) → known_task after other ≡ cond (same_path path other) (Some fresh) (known_task before other)) → Numbers path number before after
  is_added number is put knows =
      let links : links_of after ≡ links_of before ++ (path, above) ∷ [] = ap links_of (put ∙ inserted before path fresh none) ∙ links_more before path fresh in
      let long : length before ≡ length (links_of before) = sym (links_long before) in
      record {
        linked = subst AreLinked (sym links) (linked_more (links_of before) (path, above) may.0 (subst (λ n. IsLinked (links_of before) n path above) long may.1));
        there = (
          above,
          subst (λ (l : Links). slice_get l number ≡ Some (path, above)) (sym links)
              (ap (slice_get (links_of before ++ (path, above) ∷ [])) (is ∙ long) ∙ last_there (links_of before) (path, above)),
        );
        kept = λ other link there. subst (λ (l : Links). slice_get l other ≡ Some link) (sym links) (kept (links_of before) (path, above) link other there);
        same = record {
          bodies = λ other. ap body_state_in (knows other) ∙ same_body other (same_path path other) refl;
          endings = λ other. ap ending_of (knows other) ∙ same_ending other (same_path path other) refl;
        };
      }

-- ---- one after another

pub then_number : (path other : List ℕ) (number second : ℕ) (before middle after : TaskList) → Numbers path number before middle → Numbers other second middle after →
    Numbers other second before after
then_number path other number second before middle after one more = record {
  linked = more.linked;
  there = more.there;
  kept = λ k link there. more.kept k link (one.kept k link there);
  same = record {
    bodies = λ q. more.same.bodies q ∙ one.same.bodies q;
    endings = λ q. more.same.endings q ∙ one.same.endings q;
  };
}

-- a child of the task that has a number may be the next one
pub child_may : (path below : List ℕ) (number : ℕ) (before tasks : TaskList) → Numbers path number before tasks → IsChild path below → MayBeLinked tasks below (Some number)
child_may path below number before tasks one child =
    let inside = within (links_of tasks) (path, one.there.0) number one.there.1 in
    let long = links_long tasks in
    (one.linked, (omega (arith, inside, long), (path, one.there, child)))

pub maker_may : (tasks : TaskList) (path : List ℕ) (maker : ℕ) → AreLinked (links_of tasks) → IsMaker (links_of tasks) maker path → MayBeLinked tasks path (Some maker)
maker_may tasks path maker linked is =
    let inside = within (links_of tasks) (is.0, is.1.0) maker is.1.1 in
    let long = links_long tasks in
    (linked, (omega (arith, inside, long), is))

-- ---- children

pub child_from : (maker path : List ℕ) → is_prefix maker path ≡ true → length path ≡ length maker + 1 → IsChild maker path
child_from [] [] under long = absurd (omega (arith, long))
child_from [] (x ∷ []) under long = (x, refl)
child_from [] (x ∷ y ∷ path) under long = absurd (omega (arith, long))
child_from (a ∷ maker) [] under long = absurd (omega (arith, long))
child_from (a ∷ maker) (x ∷ path) under long =
    let parts = both (nat_eq a x) (is_prefix maker path) under in
    let rest = child_from maker path parts.1 (omega (arith, long)) in
    (rest.0, ap (λ l. x ∷ l) rest.1 ∙ ap (λ y. y ∷ child_path maker rest.0) (sym (eqb-true a x parts.0)))
  where
    both : (one other : Bool) → (one && other) ≡ true → (one ≡ true) × (other ≡ true)
    both one other h = (grind arith, grind arith)

long_by : (path : List ℕ) → IsTrue (is_path path) → length path ≡ length (children_of path) + 2
long_by [] is = absurd (false≢true is)
long_by (kind ∷ []) is = absurd (false≢true is)
long_by (kind ∷ id ∷ children) is = omega arith

pub child_by : (path other items others : List ℕ) (under : Bool) → IsTrue (is_path path) → IsTrue (is_path other) → items ≡ children_of path → others ≡ children_of other →
    length items ≡ length others + 1 → under ≡ is_prefix other path → IsTrue under → IsChild other path
child_by path other items others under is_one is_other same others_same more tells holds =
    let one = long_by path is_one in
    let two = long_by other is_other in
    let first : length items ≡ length (children_of path) = ap length same in
    let second : length others ≡ length (children_of other) = ap length others_same in
    child_from other path (sym tells ∙ holds) (omega (arith, one, two, first, second, more))

-- the path of a directive or daemon itself
pub root_long : (path : List ℕ) → IsTrue (is_path path) → length (children_of path) ≡ 0 → length path ≡ 2
root_long path is none = let long = long_by path is in omega (arith, long, none)

pub root_is_long : (path : List ℕ) (daemon : Bool) (id : ℕ) → path ≡ path_of daemon id [] → length path ≡ 2
root_is_long path true id is = ap length is
root_is_long path false id is = ap length is

pub maker_there : (tasks : TaskList) (number : ℕ) (path maker : List ℕ) (task : KnownTask) → Some (maker, task) ≡ slice_get tasks number → IsChild maker path →
    IsMaker (links_of tasks) number path
maker_there tasks number path maker task is child = (maker, path_at tasks number maker task (sym is), child)
