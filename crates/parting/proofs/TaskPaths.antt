-- The paths of tasks are long enough to tell which directive or daemon they come from.
use Rattle.std.proofs.Common.{◌≡◌, ℕ, zero, suc, ◌+◌, ◌<◌, ◌≤◌, nat_eq, Bool, true, List, [], ◌∷◌, length, Some, refl, ap, ◌∙◌, ◌&&◌, arith}
use Rattle.std.proofs.lemmas.Bool.{false≢true}
use Rattle.std.proofs.lemmas.List.{length-append}
use Rattle.aerie_base.specs.declared.models.model.Parts.{Parts}
use Rattle.aerie_base.specs.Paths.{child_path, is_prefix}
use Rattle.run_data.specs.Tasks.{Task, Table, task_at}
use Rattle.run_data.specs.laws.LateDifferences.{is_of_differing}
use Rattle.run_data.specs.laws.PathsUnder.{both_true, same_number}
use Rattle.run_data.specs.laws.ReachedStates.{ComesFrom, directive, daemon, maker, IsTableOf}

-- a child comes from the directive of its maker, and so does whatever is under a task

pub longer_of : (differs : ℕ → Bool) (path : List ℕ) (number : ℕ) → 2 ≤ length path → is_of_differing differs (child_path path number) ≡ is_of_differing differs path
longer_of differs [] number long = absurd (omega arith)
longer_of differs (kind ∷ []) number long = absurd (omega arith)
longer_of differs (kind ∷ id ∷ children) number long = refl

pub prefix_of : (differs : ℕ → Bool) (path other : List ℕ) → 2 ≤ length path → is_prefix path other ≡ true → is_of_differing differs path ≡ is_of_differing differs other
prefix_of differs [] other long under = absurd (omega arith)
prefix_of differs (kind ∷ []) other long under = absurd (omega arith)
prefix_of differs (kind ∷ id ∷ children) [] long under = absurd (false≢true under)
prefix_of differs (kind ∷ id ∷ children) (front ∷ []) long under = absurd (false≢true (both_true (nat_eq kind front) (is_prefix (id ∷ children) []) under).1)
prefix_of differs (kind ∷ id ∷ children) (front ∷ second ∷ rest) long under =
    let a = both_true (nat_eq kind front) (is_prefix (id ∷ children) (second ∷ rest)) under in
    let b = both_true (nat_eq id second) (is_prefix children rest) a.1 in
    λ i. nat_eq (same_number kind front a.0 i) 0 && differs (same_number id second b.0 i)

-- each task of a table of the model is a directive's, a daemon's or under one

long_path : (table : Table) → ((path : List ℕ) (task : Task) → task_at table path ≡ Some task → ComesFrom table path) → (most : ℕ) (path : List ℕ) (task : Task) → length path < most →
    task_at table path ≡ Some task → 2 ≤ length path
long_path table makers zero path task short there = absurd (omega arith)
long_path table makers (suc most) path task short there = by (makers path task there) (λ above one less stands. long_path table makers most above one less stands)
  where
    by : ComesFrom table path → ((above : List ℕ) (one : Task) → length above < most → task_at table above ≡ Some one → 2 ≤ length above) → 2 ≤ length path
    by (directive id e) further = omega (arith, ap length e)
    by (daemon number e) further = omega (arith, ap length e)
    by (maker parent number one e there below) further =
        let long : length path ≡ length parent + 1 = ap length e ∙ length-append parent (number ∷ []) in
        let above = further parent one (omega (arith, long, short)) there in omega (arith, long, above)

pub stands_long : (model : Parts) (table : Table) → IsTableOf model table → (path : List ℕ) (task : Task) → task_at table path ≡ Some task → 2 ≤ length path
stands_long model table is path task there = long_path table is.makers (length path + 1) path task (omega arith) there
