-- A file of lemmas: what it proves need not be read to trust a clause.
--
-- Tables in order of path, and what stands at a path after a change.
use Rattle.std.proofs.Common.{◌≡◌, ℕ, Bool, true, false, cond, List, [], ◌∷◌, Option, Some, refl, sym, ap, ◌∙◌, subst}
use Rattle.std.specs.Cmp.Lexicographic.{nat_list_cmp_total}
use Rattle.std.specs.declared.cmp.Ordering.{Ordering}
use Rattle.std.specs.declared.cmp.Ordering.TheVariants.{Less, Equal, Greater}
use Rattle.std.specs.Ordering.{match_ordering, ordering_reverse, is_eq}
use Rattle.std.specs.BTreeMap.{is_at}
use Rattle.std.proofs.lemmas.Map.Lookups.{exact_bytes}
use Rattle.aerie_base.specs.Paths.{path_cmp}
use Rattle.run_data.specs.Tasks.{Task, Table, task_at, with_task, on_each}
use Rattle.run_data.specs.laws.OrderedTables.{Above, IsOrderedTable, PutKeepsOrder, ChangesKeepOrder, PutIsThere, LaterPutStands, PutsExchange, PutThenChanged}

-- ---- the order of paths

pub path_itself : (path : List ℕ) → path_cmp path path ≡ Equal
path_itself path = by (path_cmp path path) (nat_list_cmp_total.antisymm path path)
  where
    by : (order : Ordering) → order ≡ ordering_reverse order → order ≡ Equal
    by Less e = absurd (cc)
    by Equal e = refl
    by Greater e = absurd (cc)

pub path_same : (p q : List ℕ) → path_cmp p q ≡ Equal → p ≡ q
path_same p q e = exact_bytes p q e

pub reversed : (p q : List ℕ) (order : Ordering) → path_cmp p q ≡ order → path_cmp q p ≡ ordering_reverse order
reversed p q order e = nat_list_cmp_total.antisymm q p ∙ ap ordering_reverse e

between : (p q r : List ℕ) → path_cmp p q ≡ Less → path_cmp r q ≡ Greater → path_cmp p r ≡ Less
between p q r less greater = nat_list_cmp_total.trans p q r less (reversed r q Greater greater)

pub is_same : (q z : List ℕ) → is_at (path_cmp q) z ≡ true → q ≡ z
is_same q z e = path_same q z (go (path_cmp q z) e)
  where
    go : (order : Ordering) → is_eq order ≡ true → order ≡ Equal
    go Less f = absurd (cc)
    go Equal f = refl
    go Greater f = absurd (cc)

-- ---- tables in order

pub above_all : (path other : List ℕ) (table : Table) → path_cmp path other ≡ Less → Above other table → Above path table
above_all path other [] less above = tt
above_all path other (entry ∷ rest) less above = (nat_list_cmp_total.trans path other entry.0 less above.0, above_all path other rest less above.1)

above_with : (path other : List ℕ) (task : Task) (table : Table) → Above path table → path_cmp path other ≡ Less → Above path (with_task table other task)
above_with path other task [] above less = (less, tt)
above_with path other task (entry ∷ rest) above less = by (path_cmp other entry.0) (above_with path other task rest above.1 less)
  where
    by : (order : Ordering) → Above path (with_task rest other task) →
        Above path (match_ordering order ((other, task) ∷ entry ∷ rest) ((entry.0, task) ∷ rest) (entry ∷ with_task rest other task))
    by Less further = (less, above)
    by Equal further = above
    by Greater further = (above.0, further)

pub order_with : PutKeepsOrder
order_with [] path task order = (tt, tt)
order_with (entry ∷ rest) path task order = by (path_cmp path entry.0) refl (order_with rest path task order.1)
  where
    by : (r : Ordering) → path_cmp path entry.0 ≡ r → IsOrderedTable (with_task rest path task) →
        IsOrderedTable (match_ordering r ((path, task) ∷ entry ∷ rest) ((entry.0, task) ∷ rest) (entry ∷ with_task rest path task))
    by Less e further = ((e, above_all path entry.0 rest e order.0), order)
    by Equal e further = order
    by Greater e further = (above_with entry.0 path task rest order.0 (reversed path entry.0 Greater e), further)

above_each : (path : List ℕ) (change : List ℕ → Task → Task) (table : Table) → Above path table → Above path (on_each change table)
above_each path change [] above = tt
above_each path change (entry ∷ rest) above = (above.0, above_each path change rest above.1)

pub order_each : ChangesKeepOrder
order_each change [] order = tt
order_each change (entry ∷ rest) order = (above_each entry.0 change rest order.0, order_each change rest order.1)

-- ---- two tasks put

pub with_twice : (table : Table) (p : List ℕ) (a b : Task) → with_task (with_task table p a) p b ≡ with_task table p b
with_twice [] p a b = let e = path_itself p in rw e refl
with_twice (entry ∷ rest) p a b = by (path_cmp p entry.0) refl (with_twice rest p a b)
  where
    by : (order : Ordering) → path_cmp p entry.0 ≡ order → with_task (with_task rest p a) p b ≡ with_task rest p b →
        with_task (with_task (entry ∷ rest) p a) p b ≡ with_task (entry ∷ rest) p b
    by Less e further = let f = path_itself p in rw (e, f) refl
    by Equal e further = rw (e, e) refl
    by Greater e further = rw (e, e) (ap (λ t. entry ∷ t) further)

pub with_with : (table : Table) (p q : List ℕ) (a b : Task) → (p ≡ q → ⊥) → with_task (with_task table p a) q b ≡ with_task (with_task table q b) p a
with_with [] p q a b apart = by (path_cmp p q) refl
  where
    by : (order : Ordering) → path_cmp p q ≡ order → with_task (with_task [] p a) q b ≡ with_task (with_task [] q b) p a
    by Less e = let f : path_cmp q p ≡ Greater = reversed p q Less e in rw (e, f) refl
    by Equal e = absurd (apart (path_same p q e))
    by Greater e = let f : path_cmp q p ≡ Less = reversed p q Greater e in rw (e, f) refl
with_with (entry ∷ rest) p q a b apart = by (path_cmp p entry.0) (path_cmp q entry.0) refl refl (with_with rest p q a b apart)
  where
    Same : Type 0
    Same = with_task (with_task (entry ∷ rest) p a) q b ≡ with_task (with_task (entry ∷ rest) q b) p a

    front : path_cmp p entry.0 ≡ Less → path_cmp q entry.0 ≡ Less → (order : Ordering) → path_cmp p q ≡ order → Same
    front x y Less e = let f : path_cmp q p ≡ Greater = reversed p q Less e in rw (x, y, e, f) refl
    front x y Equal e = absurd (apart (path_same p q e))
    front x y Greater e = let f : path_cmp q p ≡ Less = reversed p q Greater e in rw (x, y, e, f, x) refl

    by : (m n : Ordering) → path_cmp p entry.0 ≡ m → path_cmp q entry.0 ≡ n → with_task (with_task rest p a) q b ≡ with_task (with_task rest q b) p a → Same
    by Less Less x y further = front x y (path_cmp p q) refl
    by Less Equal x y further =
        let f : path_cmp q p ≡ Greater = subst (λ z. path_cmp z p ≡ Greater) (sym (path_same q entry.0 y)) (reversed p entry.0 Less x) in rw (x, y, f, x) refl
    by Less Greater x y further = let f : path_cmp q p ≡ Greater = reversed p q Less (between p entry.0 q x y) in rw (x, y, f, x) refl
    by Equal Less x y further =
        let f : path_cmp p q ≡ Greater = subst (λ z. path_cmp z q ≡ Greater) (sym (path_same p entry.0 x)) (reversed q entry.0 Less y) in rw (x, y, f, x) refl
    by Equal Equal x y further = absurd (apart (path_same p entry.0 x ∙ sym (path_same q entry.0 y)))
    by Equal Greater x y further = rw (x, y, x) refl
    by Greater Less x y further = let f : path_cmp p q ≡ Greater = reversed q p Less (between q entry.0 p y x) in rw (x, y, f, x) refl
    by Greater Equal x y further = rw (x, y, x) refl
    by Greater Greater x y further = rw (x, y, x) (ap (λ t. entry ∷ t) further)

-- ---- what stands at a path

pub at_with : (table : Table) (p q : List ℕ) (a : Task) → task_at (with_task table p a) q ≡ cond (is_at (path_cmp q) p) (Some a) (task_at table q)
at_with [] p q a = refl
at_with (entry ∷ rest) p q a = by (path_cmp p entry.0) refl (at_with rest p q a)
  where
    iteration : (x y : Bool) (o : Option Task) → (x ≡ true → y ≡ true → ⊥) → cond x (Some entry.1) (cond y (Some a) o) ≡ cond y (Some a) (cond x (Some entry.1) o)
    iteration true true o apart = absurd (apart refl refl)
    iteration true false o apart = refl
    iteration false y o apart = refl

    same : path_cmp p entry.0 ≡ Equal → (x : Bool) (o : Option Task) → cond x (Some a) o ≡ cond x (Some a) (cond x (Some entry.1) o)
    same e true o = refl
    same e false o = refl

    is : (z : List ℕ) → is_at (path_cmp q) z ≡ true → q ≡ z
    is z e = path_same q z (go (path_cmp q z) e)
      where
        go : (order : Ordering) → is_eq order ≡ true → order ≡ Equal
        go Less f = absurd (cc)
        go Equal f = refl
        go Greater f = absurd (cc)

    by : (order : Ordering) → path_cmp p entry.0 ≡ order → task_at (with_task rest p a) q ≡ cond (is_at (path_cmp q) p) (Some a) (task_at rest q) →
        task_at (with_task (entry ∷ rest) p a) q ≡ cond (is_at (path_cmp q) p) (Some a) (task_at (entry ∷ rest) q)
    by Less e further = rw e refl
    by Equal e further = let k : p ≡ entry.0 = path_same p entry.0 e in
        rw e (same e (is_at (path_cmp q) entry.0) (task_at rest q) ∙ ap (λ z. cond (is_at (path_cmp q) z) (Some a) (cond (is_at (path_cmp q) entry.0) (Some entry.1) (task_at rest q))) (sym k))
    by Greater e further = rw (e, further) (iteration (is_at (path_cmp q) entry.0) (is_at (path_cmp q) p) (task_at rest q)
        (λ x y. let k : p ≡ entry.0 = sym (is p y) ∙ is entry.0 x in let f : path_cmp p entry.0 ≡ Equal = subst (λ z. path_cmp p z ≡ Equal) k (path_itself p) in let g : ◌≡◌ {A = Ordering} Greater Equal = sym e ∙ f in cc))

-- ---- every task changed

pub each_with : (change : List ℕ → Task → Task) (table : Table) (p : List ℕ) (a : Task) → on_each change (with_task table p a) ≡ with_task (on_each change table) p (change p a)
each_with change [] p a = refl
each_with change (entry ∷ rest) p a = by (path_cmp p entry.0) refl (each_with change rest p a)
  where
    by : (order : Ordering) → path_cmp p entry.0 ≡ order → on_each change (with_task rest p a) ≡ with_task (on_each change rest) p (change p a) →
        on_each change (with_task (entry ∷ rest) p a) ≡ with_task (on_each change (entry ∷ rest)) p (change p a)
    by Less e further = rw e refl
    by Equal e further = rw e (ap (λ z. (entry.0, change z a) ∷ on_each change rest) (sym (path_same p entry.0 e)))
    by Greater e further = rw e (ap (λ t. (entry.0, change entry.0 entry.1) ∷ t) further)

pub later_put_stands : LaterPutStands
later_put_stands = with_twice

pub puts_exchange : PutsExchange
puts_exchange = with_with

pub put_is_there : PutIsThere
put_is_there table path other task = at_with table path other task

pub put_then_changed : PutThenChanged
put_then_changed = each_with
