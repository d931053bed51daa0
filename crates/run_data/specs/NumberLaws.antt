-- A file of lemmas: what it proves need not be read to trust a clause.
--
-- Tasks by number, put in order of path.
use Rattle.std.proofs.Common.{◌≡◌, ℕ, zero, suc, Bool, true, false, cond, List, [], ◌∷◌, ◌++◌, Some, None, refl, sym, ap, ◌∙◌, arith, subst, slice_set, ◌⊎◌, inl, inr, length}
use Rattle.std.specs.declared.cmp.Ordering.{Ordering}
use Rattle.std.specs.declared.cmp.Ordering.TheVariants.{Less, Equal}
use Rattle.std.specs.Ordering.{is_eq}
use Rattle.std.specs.BTreeMap.{is_at}
use Rattle.std.specs.List.{slice_get}
use Rattle.std.specs.Map.{keys_of}
use Rattle.aerie_base.specs.Paths.{path_cmp}
use Rattle.run_data.specs.Tasks.{Task, Table, task_at, with_task, on_each}
use Rattle.run_data.specs.laws.OrderedTables.{Above, IsOrderedTable}
use Rattle.run_data.specs.laws.NumberedTasks.{sorted_tasks, Distinct, AreInOrder, OrderIsDistinct, OrderIsItself, FoundByNumber, NewIsNotThere, SetByNumber, PushedByNumber, SetKeepsDistinct, PushKeepsDistinct, ChangedByNumber, ChangedInTurn}
use Rattle.run_data.specs.TableLaws.{path_itself, is_same, order_with, with_twice, with_with, at_with, each_with}

-- ---- every task changed

pub each_in_order : (change : List ℕ → Task → Task) (tasks : Table) → on_each change (sorted_tasks tasks) ≡ sorted_tasks (on_each change tasks)
each_in_order change [] = refl
each_in_order change (entry ∷ rest) = each_with change (sorted_tasks rest) entry.0 entry.1 ∙ ap (λ t. with_task t entry.0 (change entry.0 entry.1)) (each_in_order change rest)

pub each_set : (change : List ℕ → Task → Task) (tasks : Table) (i : ℕ) (path : List ℕ) (old new : Task) → slice_get tasks i ≡ Some (path, old) → change path new ≡ change path old →
    on_each change (slice_set tasks i (path, new)) ≡ on_each change tasks
each_set change [] i path old new at same = absurd (cc)
each_set change (entry ∷ rest) zero path old new at same =
    let k : entry.0 ≡ path = cc in let v : entry.1 ≡ old = cc in rw (k, v, same) refl
each_set change (entry ∷ rest) (suc i) path old new at same = ap (λ t. (entry.0, change entry.0 entry.1) ∷ t) (each_set change rest i path old new at same)

-- ---- one task changed, or one more

pub distinct_rest : (entry : List ℕ × Task) (rest : Table) → Distinct (entry ∷ rest) → Distinct rest
distinct_rest entry rest distinct i j one other x y same = let k : suc i ≡ suc j = distinct (suc i) (suc j) one other x y same in omega arith

pub first_apart : (entry : List ℕ × Task) (rest : Table) → Distinct (entry ∷ rest) → (i : ℕ) (other : List ℕ × Task) → slice_get rest i ≡ Some other → entry.0 ≡ other.0 → ⊥
first_apart entry rest distinct i other x same = let k : 0 ≡ suc i = distinct 0 (suc i) entry other refl x same in omega arith

pub in_order_set : (tasks : Table) (i : ℕ) (path : List ℕ) (old new : Task) → Distinct tasks → slice_get tasks i ≡ Some (path, old) →
    sorted_tasks (slice_set tasks i (path, new)) ≡ with_task (sorted_tasks tasks) path new
in_order_set [] i path old new distinct here = absurd (cc)
in_order_set (entry ∷ rest) zero path old new distinct here =
    let k : entry.0 ≡ path = cc in
    sym (with_twice (sorted_tasks rest) path entry.1 new) ∙ ap (λ p. with_task (with_task (sorted_tasks rest) p entry.1) path new) (sym k)
in_order_set (entry ∷ rest) (suc i) path old new distinct here =
    ap (λ t. with_task t entry.0 entry.1) (in_order_set rest i path old new (distinct_rest entry rest distinct) here)
    ∙ with_with (sorted_tasks rest) path entry.0 new entry.1 (λ same. first_apart entry rest distinct i (path, old) here (sym same))

pub in_order_push : (tasks : Table) (path : List ℕ) (new : Task) → ((i : ℕ) (other : List ℕ × Task) → slice_get tasks i ≡ Some other → path ≡ other.0 → ⊥) →
    sorted_tasks (tasks ++ (path, new) ∷ []) ≡ with_task (sorted_tasks tasks) path new
in_order_push [] path new apart = refl
in_order_push (entry ∷ rest) path new apart =
    ap (λ t. with_task t entry.0 entry.1) (in_order_push rest path new (λ i other x. apart (suc i) other x))
    ∙ with_with (sorted_tasks rest) path entry.0 new entry.1 (λ same. apart 0 entry refl same)

-- ---- what stands at a path and at a number

pub none_at : (tasks : Table) (path : List ℕ) → ((i : ℕ) (other : List ℕ × Task) → slice_get tasks i ≡ Some other → path ≡ other.0 → ⊥) → task_at (sorted_tasks tasks) path ≡ None
none_at [] path apart = refl
none_at (entry ∷ rest) path apart =
    at_with (sorted_tasks rest) entry.0 path entry.1 ∙ by (is_at (path_cmp path) entry.0) refl (none_at rest path (λ i other x. apart (suc i) other x))
  where
    by : (b : Bool) → is_at (path_cmp path) entry.0 ≡ b → task_at (sorted_tasks rest) path ≡ None → cond b (Some entry.1) (task_at (sorted_tasks rest) path) ≡ None
    by true e further = absurd (apart 0 entry refl (is_same path entry.0 e))
    by false e further = further

pub at_number : (tasks : Table) (i : ℕ) (path : List ℕ) (task : Task) → Distinct tasks → slice_get tasks i ≡ Some (path, task) → task_at (sorted_tasks tasks) path ≡ Some task
at_number [] i path task distinct here = absurd (cc)
at_number (entry ∷ rest) zero path task distinct here =
    let k : entry.0 ≡ path = cc in let v : entry.1 ≡ task = cc in
    at_with (sorted_tasks rest) entry.0 path entry.1 ∙ rw (k, v) (ap (λ o. cond (is_eq o) (Some task) (task_at (sorted_tasks rest) path)) (path_itself path))
at_number (entry ∷ rest) (suc i) path task distinct here =
    at_with (sorted_tasks rest) entry.0 path entry.1 ∙ by (is_at (path_cmp path) entry.0) refl (at_number rest i path task (distinct_rest entry rest distinct) here)
  where
    by : (b : Bool) → is_at (path_cmp path) entry.0 ≡ b → task_at (sorted_tasks rest) path ≡ Some task → cond b (Some entry.1) (task_at (sorted_tasks rest) path) ≡ Some task
    by true e further = absurd (first_apart entry rest distinct i (path, task) here (sym (is_same path entry.0 e)))
    by false e further = further

-- ---- tables in order are their own

pub in_order_sorted : (tasks : Table) → IsOrderedTable (sorted_tasks tasks)
in_order_sorted [] = tt
in_order_sorted (entry ∷ rest) = order_with (sorted_tasks rest) entry.0 entry.1 (in_order_sorted rest)

pub in_order_itself : (table : Table) → IsOrderedTable table → sorted_tasks table ≡ table
in_order_itself [] order = refl
in_order_itself (entry ∷ rest) order = ap (λ t. with_task t entry.0 entry.1) (in_order_itself rest order.1) ∙ front rest order.0
  where
    front : (table : Table) → Above entry.0 table → with_task table entry.0 entry.1 ≡ entry ∷ table
    front [] above = refl
    front (next ∷ others) above = rw above.0 refl

pub above_at : (path : List ℕ) (table : Table) → Above path table → (i : ℕ) (other : List ℕ × Task) → slice_get table i ≡ Some other → path_cmp path other.0 ≡ Less
above_at path [] above i other at = absurd (cc)
above_at path (entry ∷ rest) above zero other at = let k : entry ≡ other = cc in subst (λ (e : List ℕ × Task). path_cmp path e.0 ≡ Less) k above.0
above_at path (entry ∷ rest) above (suc i) other at = above_at path rest above.1 i other at

pub not_same : (p q : List ℕ) → path_cmp p q ≡ Less → p ≡ q → ⊥
not_same p q less same = let k : path_cmp p p ≡ Less = subst (λ z. path_cmp p z ≡ Less) (sym same) less in let f : ◌≡◌ {A = Ordering} Less Equal = sym k ∙ path_itself p in absurd (cc)

pub distinct_of : (table : Table) → IsOrderedTable table → Distinct table
distinct_of [] order i j one other x y same = absurd (cc)
distinct_of (entry ∷ rest) order zero zero one other x y same = refl
distinct_of (entry ∷ rest) order zero (suc j) one other x y same =
    let k : entry ≡ one = cc in absurd (not_same entry.0 other.0 (above_at entry.0 rest order.0 j other y) (ap (λ (e : List ℕ × Task). e.0) k ∙ same))
distinct_of (entry ∷ rest) order (suc i) zero one other x y same =
    let k : entry ≡ other = cc in absurd (not_same entry.0 one.0 (above_at entry.0 rest order.0 i one x) (ap (λ (e : List ℕ × Task). e.0) k ∙ sym same))
distinct_of (entry ∷ rest) order (suc i) (suc j) one other x y same = ap suc (distinct_of rest order.1 i j one other x y same)

-- ---- paths by number

pub keys_set : (tasks : Table) (i : ℕ) (path : List ℕ) (old new : Task) → slice_get tasks i ≡ Some (path, old) → keys_of (slice_set tasks i (path, new)) ≡ keys_of tasks
keys_set [] i path old new h = absurd (cc)
keys_set (entry ∷ rest) zero path old new h = let k : entry.0 ≡ path = cc in ap (λ p. p ∷ keys_of rest) (sym k)
keys_set (entry ∷ rest) (suc i) path old new h = ap (λ ps. entry.0 ∷ ps) (keys_set rest i path old new h)

pub key_at : (tasks : Table) (i : ℕ) → (path : List ℕ) → slice_get (keys_of tasks) i ≡ Some path → (task : Task) × (slice_get tasks i ≡ Some (path, task))
key_at [] i path h = absurd (cc)
key_at (entry ∷ rest) zero path h = let k : entry.0 ≡ path = cc in (entry.1, ap (λ p. Some (p, entry.1)) k)
key_at (entry ∷ rest) (suc i) path h = key_at rest i path h

key_of : (tasks : Table) (i : ℕ) (entry : List ℕ × Task) → slice_get tasks i ≡ Some entry → slice_get (keys_of tasks) i ≡ Some entry.0
key_of [] i entry h = absurd (cc)
key_of (first ∷ rest) zero entry h = let k : first ≡ entry = cc in ap (λ e. Some e.0) k
key_of (first ∷ rest) (suc i) entry h = key_of rest i entry h

pub same_keys : (tasks others : Table) → keys_of others ≡ keys_of tasks → Distinct tasks → Distinct others
same_keys tasks others same distinct i j one other x y e =
    let p = key_at tasks i one.0 (sym (ap (λ ks. slice_get ks i) same) ∙ key_of others i one x) in
    let q = key_at tasks j other.0 (sym (ap (λ ks. slice_get ks j) same) ∙ key_of others j other y) in
    distinct i j (one.0, p.0) (other.0, q.0) p.1 q.1 e

pub are_in_order : AreInOrder
are_in_order = in_order_sorted

pub order_is_itself : OrderIsItself
order_is_itself = in_order_itself

pub order_is_distinct : OrderIsDistinct
order_is_distinct = distinct_of

pub found_by_number : FoundByNumber
found_by_number = at_number

pub new_is_not_there : NewIsNotThere
new_is_not_there = none_at

pub set_by_number : SetByNumber
set_by_number = in_order_set

pub pushed_by_number : PushedByNumber
pushed_by_number = in_order_push

pub changed_by_number : ChangedByNumber
changed_by_number = each_in_order

pub changed_in_turn : ChangedInTurn
changed_in_turn = each_set

-- ---- each path once

pub set_keeps_distinct : SetKeepsDistinct
set_keeps_distinct tasks number path old new distinct at = same_keys tasks (slice_set tasks number (path, new)) (keys_set tasks number path old new at) distinct

old_or_last : (tasks : Table) (last : List ℕ × Task) (i : ℕ) (entry : List ℕ × Task) → slice_get (tasks ++ last ∷ []) i ≡ Some entry → (slice_get tasks i ≡ Some entry) ⊎ ((i ≡ length tasks) × (entry ≡ last))
old_or_last [] last zero entry at = let same : last ≡ entry = cc in inr (refl, sym same)
old_or_last [] last (suc i) entry at = absurd (cc)
old_or_last (first ∷ rest) last zero entry at = inl at
old_or_last (first ∷ rest) last (suc i) entry at = by (old_or_last rest last i entry at)
  where
    by : (slice_get rest i ≡ Some entry) ⊎ ((i ≡ length rest) × (entry ≡ last)) → (slice_get rest i ≡ Some entry) ⊎ ((suc i ≡ suc (length rest)) × (entry ≡ last))
    by (inl h) = inl h
    by (inr h) = inr (ap suc h.0, h.1)

pub push_keeps_distinct : PushKeepsDistinct
push_keeps_distinct tasks path new distinct fresh i j one other x y same = by (old_or_last tasks (path, new) i one x) (old_or_last tasks (path, new) j other y)
  where
    by : (slice_get tasks i ≡ Some one) ⊎ ((i ≡ length tasks) × (one ≡ (path, new))) → (slice_get tasks j ≡ Some other) ⊎ ((j ≡ length tasks) × (other ≡ (path, new))) → i ≡ j
    by (inl h) (inl k) = distinct i j one other h k same
    by (inl h) (inr k) = absurd (fresh i one h (sym (same ∙ ap (λ (e : List ℕ × Task). e.0) k.1)))
    by (inr h) (inl k) = absurd (fresh j other k (sym (ap (λ (e : List ℕ × Task). e.0) h.1) ∙ same))
    by (inr h) (inr k) = h.0 ∙ sym k.0
