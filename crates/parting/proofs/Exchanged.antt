-- What stands at a path among the directives of a plan, and where those that differ are exchanged.
use Rattle.std.proofs.Common.{◌≡◌, ℕ, ◌+◌, Bool, true, false, cond, not, List, [], ◌∷◌, Option, Some, refl, sym, ap, ◌∙◌, subst, if◌then◌else◌}
use Rattle.std.specs.BTreeMap.{is_at}
use Rattle.aerie_base.specs.declared.models.Daemon.{Daemon}
use Rattle.aerie_base.specs.declared.models.model.Parts.{Parts}
use Rattle.aerie_base.specs.declared.plans.Directive.{Directive}
use Rattle.aerie_base.specs.Paths.{daemon_root, path_cmp, root}
use Rattle.run_data.specs.TaskStates.{activity_begun, daemon_begun}
use Rattle.run_data.specs.Tasks.{delayed, Task, Table, task_at, with_task, planned, with_directives, with_daemons}
use Rattle.run_data.specs.TableLaws.{at_with, is_same, order_with}
use Rattle.run_data.specs.laws.LateDifferences.{is_of_differing}
use Rattle.run_data.specs.laws.OrderedTables.{IsOrderedTable}
use Rattle.run_data.specs.laws.Orders.{EachOf}
use Rattle.parting.specs.Exchanges.{differing_directives}

abbrev pub planned_task : Parts → Directive → Task
planned_task model directive = record {
  phase = planned directive.anchor directive.start (activity_begun model directive.kind directive.arguments);
  made = 0;
  begun = false;
}

-- ---- directives put

at_beside : (table : Table) (other path : List ℕ) (task : Task) → is_at (path_cmp path) other ≡ false → task_at (with_task table other task) path ≡ task_at table path
at_beside table other path task e = at_with table other path task ∙ ap (λ b. cond b (Some task) (task_at table path)) e

pub order_directives : (model : Parts) (directives : List Directive) (table : Table) → IsOrderedTable table → IsOrderedTable (with_directives model directives table)
order_directives model [] table order = order
order_directives model (directive ∷ rest) table order =
    order_directives model rest (with_task table (root directive.id) (planned_task model directive)) (order_with table (root directive.id) (planned_task model directive) order)

-- what stands at a path behind directives goes by what stood there
pub same_at : (model : Parts) (directives : List Directive) (table other : Table) (path : List ℕ) → task_at table path ≡ task_at other path →
    task_at (with_directives model directives table) path ≡ task_at (with_directives model directives other) path
same_at model [] table other path e = e
same_at model (directive ∷ rest) table other path e =
    same_at model rest (with_task table (root directive.id) (planned_task model directive)) (with_task other (root directive.id) (planned_task model directive)) path
    (at_with table (root directive.id) path (planned_task model directive) ∙ ap (cond (is_at (path_cmp path) (root directive.id)) (Some (planned_task model directive))) e
    ∙ sym (at_with other (root directive.id) path (planned_task model directive)))

-- ---- those that differ

module _ (differs : ℕ → Bool) where
  never : (whether : Bool) → whether ≡ not whether → ⊥
  never true e = cc
  never false e = cc

  apart : (id : ℕ) (path : List ℕ) (whether : Bool) → is_of_differing differs path ≡ whether → differs id ≡ not whether → is_at (path_cmp path) (root id) ≡ false
  apart id path whether e f = by (is_at (path_cmp path) (root id)) refl
    where
      by : (same : Bool) → is_at (path_cmp path) (root id) ≡ same → same ≡ false
      by true g = absurd (never whether (sym e ∙ ap (is_of_differing differs) (is_same path (root id) g) ∙ f))
      by false g = refl

  -- a path of a directive that differs sees no other directive
  pub differing_at : (model : Parts) (directives : List Directive) (table : Table) (path : List ℕ) → is_of_differing differs path ≡ true →
      task_at (with_directives model directives table) path ≡ task_at (with_directives model (differing_directives differs directives) table) path
  differing_at model [] table path e = refl
  differing_at model (directive ∷ rest) table path e = by (differs directive.id) refl (differing_at model rest next path e)
    where
      next : Table
      next = with_task table (root directive.id) (planned_task model directive)

      differing : List Directive
      differing = differing_directives differs rest

      by : (here : Bool) → differs directive.id ≡ here → task_at (with_directives model rest next) path ≡ task_at (with_directives model differing next) path →
          task_at (with_directives model rest next) path ≡ task_at (with_directives model (if here then directive ∷ differing else differing) table) path
      by true f further = further
      by false f further = further ∙ same_at model differing next table path (at_beside table (root directive.id) path (planned_task model directive) (apart directive.id path true e f))

  -- other paths see none of those that differ
  pub common_at : (model : Parts) (directives : List Directive) (table : Table) (path : List ℕ) → is_of_differing differs path ≡ false →
      task_at (with_directives model (differing_directives differs directives) table) path ≡ task_at table path
  common_at model [] table path e = refl
  common_at model (directive ∷ rest) table path e = by (differs directive.id) refl (λ other. common_at model rest other path e)
    where
      next : Table
      next = with_task table (root directive.id) (planned_task model directive)

      differing : List Directive
      differing = differing_directives differs rest

      by : (here : Bool) → differs directive.id ≡ here → ((other : Table) → task_at (with_directives model differing other) path ≡ task_at other path) →
          task_at (with_directives model (if here then directive ∷ differing else differing) table) path ≡ task_at table path
      by true f further = further next ∙ at_beside table (root directive.id) path (planned_task model directive) (apart directive.id path false e f)
      by false f further = further table

  -- nor does a path of one that differs see daemons
  pub daemons_at : (number : ℕ) (daemons : List Daemon) (table : Table) (path : List ℕ) → is_of_differing differs path ≡ true → task_at (with_daemons number daemons table) path ≡ task_at table path
  daemons_at number [] table path e = refl
  daemons_at number (daemon ∷ rest) table path e = daemons_at (number + 1) rest (with_task table (daemon_root number) first) path e ∙ at_beside table (daemon_root number) path first (by (is_at (path_cmp path) (daemon_root number)) refl)
    where
      first : Task
      first = record { phase = delayed 0 (daemon_begun number daemon); made = 0; begun = false }

      by : (same : Bool) → is_at (path_cmp path) (daemon_root number) ≡ same → same ≡ false
      by true g = let k : true ≡ false = sym e ∙ ap (is_of_differing differs) (is_same path (daemon_root number) g) in absurd (cc)
      by false g = refl

  -- what holds of each that differs as it is planned holds of what stands there
  pub all_planned : (P : List ℕ → Task → Type 0) (model : Parts) (directives : List Directive) (table : Table) (path : List ℕ) →
      EachOf (λ directive. differs directive.id ≡ true → P (root directive.id) (planned_task model directive)) directives →
      ((task : Task) → task_at table path ≡ Some task → P path task) → (task : Task) → task_at (with_directives model (differing_directives differs directives) table) path ≡ Some task → P path task
  all_planned P model [] table path each before task there = before task there
  all_planned P model (directive ∷ rest) table path each before task there =
      by (differs directive.id) refl there (λ other stood at. all_planned P model rest other path each.1 stood task at)
    where
      next : Table
      next = with_task table (root directive.id) (planned_task model directive)

      differing : List Directive
      differing = differing_directives differs rest

      put : (same : Bool) → is_at (path_cmp path) (root directive.id) ≡ same → P (root directive.id) (planned_task model directive) → (one : Task) →
          ◌≡◌ {A = Option Task} (cond same (Some (planned_task model directive)) (task_at table path)) (Some one) → P path one
      put true here p one e =
          let k : planned_task model directive ≡ one = cc in
          subst (P path) k (subst (λ (q : List ℕ). P q (planned_task model directive)) (sym (is_same path (root directive.id) here)) p)
      put false here p one e = before one e

      by : (here : Bool) → differs directive.id ≡ here → task_at (with_directives model (if here then directive ∷ differing else differing) table) path ≡ Some task →
          ((other : Table) → ((one : Task) → task_at other path ≡ Some one → P path one) → task_at (with_directives model differing other) path ≡ Some task → P path task) → P path task
      by true f at further =
          further next (λ one e. put (is_at (path_cmp path) (root directive.id)) refl (each.0 f) one (sym (at_with table (root directive.id) path (planned_task model directive)) ∙ e)) at
      by false f at further = further table before at
