-- Endings by the number of live children.
use Rattle.std.proofs.Common.{◌≡◌, ◌⊎◌, inl, inr, ℕ, zero, suc, ◌+◌, ◌<◌, ◌≤◌, nat_eq, Bool, true, false, not, List, [], ◌∷◌, length, Some, None, refl, sym, ap, ◌∙◌, IsTrue, if◌then◌else◌, arith}
use Rattle.std.proofs.lemmas.Bool.{false≢true}
use Rattle.std.proofs.lemmas.List.{length-append}
use Rattle.aerie_base.specs.Paths.{child_path, is_prefix}
use Rattle.run_data.specs.Endings.{is_open, has_ended}
use Rattle.run_data.specs.Tasks.{Task, Table, task_at}
use Rattle.run_data.specs.laws.EndedTasks.{open_is}
use Rattle.run_data.specs.laws.ReachedStates.{ComesFrom, directive, daemon, maker}
use Rattle.run_data.specs.laws.EndedTaskLaws.{open_stops, open_some, ended_below, ended_by_open_bodies, under_through}
use Rattle.run_data.specs.laws.PathsUnder.{under_itself, under_shorter, both_true, same_number}
use Rattle.run_data.specs.laws.EndedByCount.{live_children, HasMakers, EndedByCount, LiveHasMakers}
use Rattle.run_data.specs.laws.LiveParts.{is_live, live, SameHasEnded}
use Rattle.run_data.specs.laws.LivePartLaws.{ended_live}
use Rattle.run_data.specs.laws.TableParts.{order_part, part_at, part_none}
use Rattle.run_data.specs.laws.LiveAfterFrames.{prefix_child}
use Rattle.run_data.proofs.LateTasks.{long_path}

prefix_length : (path other : List ℕ) → is_prefix path other ≡ true → length path ≤ length other
prefix_length [] other under = omega arith
prefix_length (number ∷ path) [] under = absurd (false≢true under)
prefix_length (number ∷ path) (again ∷ other) under = omega (arith, prefix_length path other (both_true (nat_eq number again) (is_prefix path other) under).1)

prefix_all : (path other : List ℕ) → is_prefix path other ≡ true → length other ≤ length path → path ≡ other
prefix_all [] [] under less = refl
prefix_all [] (number ∷ other) under less = absurd (omega arith)
prefix_all (number ∷ path) [] under less = absurd (false≢true under)
prefix_all (number ∷ path) (again ∷ other) under less =
    let fit = both_true (nat_eq number again) (is_prefix path other) under in
    let further = prefix_all path other fit.1 (omega arith) in
    λ i. same_number number again fit.0 i ∷ further i

module _ (table : Table) (is : HasMakers table) (path : List ℕ) (task : Task) (there : task_at table path ≡ Some task) where
  -- a task under this one is it or is under one of its children
  record Below (other : List ℕ) : Type 0 where
    number : ℕ
    made : number < task.made
    under : is_prefix (child_path path number) other ≡ true

  below_by : (most : ℕ) (other : List ℕ) (one : Task) → length other < most → task_at table other ≡ Some one → is_prefix path other ≡ true → (path ≡ other) ⊎ Below other
  below_by zero other one short stands under = absurd (omega arith)
  below_by (suc most) other one short stands under = by (is.makers other one stands) (λ above task_ less here up. below_by most above task_ less here up)
    where
      long : 2 ≤ length path
      long = long_path table is.makers (length path + 1) path task (omega arith) there

      by : ComesFrom table other → ((above : List ℕ) (task_ : Task) → length above < most → task_at table above ≡ Some task_ → is_prefix path above ≡ true → (path ≡ above) ⊎ Below above) → (path ≡ other) ⊎ Below other
      by (directive id e) further = inl (prefix_all path other under (omega (arith, long, ap length e)))
      by (daemon number e) further = inl (prefix_all path other under (omega (arith, long, ap length e)))
      by (maker parent number task_ e here less) further = go (prefix_child path parent number (ap (is_prefix path) (sym e) ∙ under))
        where
          longer : length other ≡ length parent + 1
          longer = ap length e ∙ length-append parent (number ∷ [])

          up : is_prefix parent other ≡ true
          up = under_shorter parent (number ∷ []) other (ap (is_prefix (child_path parent number)) e ∙ under_itself (child_path parent number))

          deep : (path ≡ parent) ⊎ Below parent → (path ≡ other) ⊎ Below other
          deep (inl same) =
              let o : Some task ≡ Some task_ = sym there ∙ ap (task_at table) same ∙ here in
              let t : task ≡ task_ = cc in
              let made : task.made ≡ task_.made = ap (λ (v : Task). v.made) t in
              inr (record { number = number; made = omega (arith, less, made); under = ap (λ p. is_prefix (child_path p number) other) same ∙ ap (is_prefix (child_path parent number)) e ∙ under_itself (child_path parent number) })
          deep (inr below) = inr (record { number = below.number; made = below.made; under = under_through (child_path path below.number) parent other below.under up })

          go : (path ≡ child_path parent number) ⊎ (is_prefix path parent ≡ true) → (path ≡ other) ⊎ Below other
          go (inl same) = inl (same ∙ sym e)
          go (inr above) = deep (further parent task_ (omega (arith, longer, short)) here above)

  none_live : (count number : ℕ) → live_children table path count ≡ 0 → number < count → has_ended table (child_path path number) ≡ true
  none_live zero number none less = absurd (omega arith)
  none_live (suc count) number none less = by (has_ended table (child_path path count)) refl none (λ f lower. none_live count number f lower)
    where
      apart : (a b : ℕ) → nat_eq a b ≡ false → a ≡ b → ⊥
      apart a b e same = grind arith

      at : has_ended table (child_path path count) ≡ true → (number < count → has_ended table (child_path path number) ≡ true) → (same : Bool) → nat_eq number count ≡ same → has_ended table (child_path path number) ≡ true
      at e lower true g = ap (λ n. has_ended table (child_path path n)) (same_number number count g) ∙ e
      at e lower false g = let other : number ≡ count → ⊥ = apart number count g in lower (omega (arith, less, other))

      by : (b : Bool) → has_ended table (child_path path count) ≡ b → (if b then 0 else 1) + live_children table path count ≡ 0 →
          (live_children table path count ≡ 0 → number < count → has_ended table (child_path path number) ≡ true) → has_ended table (child_path path number) ≡ true
      by false e f further = absurd (omega arith)
      by true e f further = at e (further (omega (arith, f))) (nat_eq number count) refl

  all_ended : has_ended table path ≡ true → (count : ℕ) → live_children table path count ≡ 0
  all_ended ended zero = refl
  all_ended ended (suc count) =
      let e : has_ended table (child_path path count) ≡ true = ended_below table path (child_path path count) (under_shorter path (count ∷ []) (child_path path count) (under_itself (child_path path count))) ended in
      let f : ◌≡◌ {A = ℕ} (if has_ended table (child_path path count) then 0 else 1) 0 = ap (λ (b : Bool). if b then 0 else 1) e in
      omega (arith, f, all_ended ended count)

  closed_where_ended : has_ended table path ≡ true → is_open task.phase ≡ false
  closed_where_ended ended = by (is_open task.phase) refl
    where
      by : (b : Bool) → is_open task.phase ≡ b → b ≡ false
      by true e = absurd (false≢true (sym (open_stops path path task (under_itself path) e table there) ∙ ended))
      by false e = refl

  ended_where_none : is_open task.phase ≡ false → live_children table path task.made ≡ 0 → has_ended table path ≡ true
  ended_where_none closed none = by (has_ended table path) refl
    where
      at : (other : List ℕ) → IsTrue (open_is (task_at table other)) → is_prefix path other ≡ true → ⊥
      at other open_ under = go (below_by (length other + 1) other one.0 (omega arith) one.1 under)
        where
          one : (v : Task) × (task_at table other ≡ Some v) × (is_open v.phase ≡ true)
          one = open_some path (task_at table other) open_

          go : (path ≡ other) ⊎ Below other → ⊥
          go (inl same) =
              let o : Some task ≡ Some one.0 = sym there ∙ ap (task_at table) same ∙ one.1 in
              let t : task ≡ one.0 = cc in
              false≢true (sym closed ∙ ap (λ (v : Task). is_open v.phase) t ∙ one.2)
          go (inr below) =
              false≢true (sym (open_stops (child_path path below.number) other one.0 below.under one.2 table one.1) ∙ none_live task.made below.number none below.made)

      by : (b : Bool) → has_ended table path ≡ b → has_ended table path ≡ true
      by true e = e
      by false e = let any = (ended_by_open_bodies table path is.order).0 e in absurd (at any.0 any.1 any.2)

pub ended_by_count : EndedByCount
ended_by_count table path task is there = (
  λ ended. (closed_where_ended table is path task there ended, all_ended table is path task there ended task.made),
  λ both. ended_where_none table is path task there both.0 both.1,
)

-- ---- the live part

maker_live : (table : Table) (path parent : List ℕ) (number : ℕ) → path ≡ child_path parent number → has_ended table path ≡ false → has_ended table parent ≡ false
maker_live table path parent number e live_ = by (has_ended table parent) refl
  where
    under : is_prefix parent path ≡ true
    under = under_shorter parent (number ∷ []) path (ap (is_prefix (child_path parent number)) e ∙ under_itself (child_path parent number))

    by : (b : Bool) → has_ended table parent ≡ b → b ≡ false
    by true f = absurd (false≢true (sym live_ ∙ ended_below table parent path under f))
    by false f = refl

live_from : (table : Table) (path : List ℕ) → has_ended table path ≡ false → ComesFrom table path → ComesFrom (live table) path
live_from table path live_ (directive id e) = directive id e
live_from table path live_ (daemon number e) = daemon number e
live_from table path live_ (maker parent number task e there below) =
    maker parent number task e (part_at (is_live table) table parent (ap not (maker_live table path parent number e live_)) ∙ there) below

pub live_has_makers : LiveHasMakers
live_has_makers table is = record {
  order = order_part (is_live table) table is.order;
  makers = λ path task there. by path task (is_live table path) refl there;
}
  where
    not_false : (b : Bool) → not b ≡ true → b ≡ false
    not_false true e = absurd (cc)
    not_false false e = refl

    by : (path : List ℕ) (task : Task) (b : Bool) → is_live table path ≡ b → task_at (live table) path ≡ Some task → ComesFrom (live table) path
    by path task true e there = live_from table path (not_false (has_ended table path) e) (is.makers path task (sym (part_at (is_live table) table path e) ∙ there))
    by path task false e there = let k : None ≡ Some task = sym (part_none (is_live table) table path e) ∙ there in absurd (cc)

pub same_has_ended : SameHasEnded
same_has_ended table path order = ended_live table order path
