-- What is live of exchanged tasks: of the tasks in common what is live in the old table, and each directive that differs.
use Rattle.std.proofs.Common.{◌≡◌, ℕ, ◌≤◌, Bool, true, false, not, ◌||◌, List, [], ◌∷◌, length, Option, Some, None, refl, sym, ap, ◌∙◌}
use Rattle.aerie_base.specs.declared.models.model.Parts.{Parts}
use Rattle.aerie_base.specs.declared.plans.Anchor.{Anchor}
use Rattle.aerie_base.specs.declared.plans.Directive.{Directive}
use Rattle.aerie_base.specs.declared.plans.Plan.{Plan}
use Rattle.aerie_base.specs.Paths.{is_prefix}
use Rattle.run_data.specs.declared.tasks.TaskState.{TaskState}
use Rattle.run_data.specs.Endings.{is_open, has_ended}
use Rattle.run_data.specs.Tasks.{Task, Table, task_at, planned}
use Rattle.run_data.specs.laws.LateDifferences.{is_of_differing, is_common, common_tasks}
use Rattle.run_data.specs.laws.LivePartLaws.{open_live}
use Rattle.run_data.specs.laws.LiveParts.{part, is_live, live}
use Rattle.run_data.specs.laws.OrderedTables.{IsOrderedTable}
use Rattle.run_data.specs.laws.Orders.{EachOf}
use Rattle.run_data.specs.laws.ReachedStates.{ReachedIsOfModel}
use Rattle.run_data.specs.laws.TableParts.{order_part, part_at, part_none, ended_part, same_tables}
use Rattle.parting.specs.Exchanges.{differing_directives, exchanged}
use Rattle.parting.specs.LiveExchanges.{LiveIsExchanged, PrunedIsExchanged}
use Rattle.parting.proofs.Exchanged.{planned_task, order_directives, same_at, common_at, all_planned}
use Rattle.parting.proofs.TaskPaths.{prefix_of, stands_long}

none_in_part : (keep : List ℕ → Bool) (table : Table) (path : List ℕ) → task_at table path ≡ None → task_at (part keep table) path ≡ None
none_in_part keep table path none = by (keep path) refl
  where
    by : (kept : Bool) → keep path ≡ kept → task_at (part keep table) path ≡ None
    by true e = part_at keep table path e ∙ none
    by false e = part_none keep table path e

planned_open : (anchor : Option Anchor) (from : ℕ) (state : TaskState) → is_open (planned anchor from state) ≡ true
planned_open None from state = refl
planned_open (Some anchor) from state = refl

-- what has ended of the tasks in common is told by them alone
ended_common : (differs : ℕ → Bool) (table : Table) (path : List ℕ) → 2 ≤ length path → is_of_differing differs path ≡ false → has_ended (common_tasks differs table) path ≡ has_ended table path
ended_common differs table path long out = ended_part (is_common differs) path table (λ number other task at left. by other task (is_prefix path other) refl left)
  where
    by : (other : List ℕ) (task : Task) (under : Bool) → is_prefix path other ≡ under → is_common differs other ≡ false → (not (is_prefix path other) || not (is_open task.phase)) ≡ true
    by other task true e left =
        let k : true ≡ false = sym (ap not (sym (prefix_of differs path other long e) ∙ out)) ∙ left in absurd (cc)
    by other task false e left = ap (λ b. not b || not (is_open task.phase)) e

module _ (differs : ℕ → Bool) (model : Parts) (plan : Plan) (table : Table) (order : IsOrderedTable table) (long : (path : List ℕ) (task : Task) → task_at table path ≡ Some task → 2 ≤ length path) where
  abbrev differing : List Directive
  differing = differing_directives differs plan.directives

  abbrev whole : Table
  whole = exchanged differs model plan table

  order_whole : IsOrderedTable whole
  order_whole = order_directives model differing (common_tasks differs table) (order_part (is_common differs) table order)

  -- ---- a directive that differs

  none_common : (other : Table) (path : List ℕ) → is_of_differing differs path ≡ true → task_at (common_tasks differs other) path ≡ None
  none_common other path e = part_none (is_common differs) other path (ap not e)

  all_open : (directives : List Directive) → EachOf (λ directive. differs directive.id ≡ true → is_open (planned_task model directive).phase ≡ true) directives
  all_open [] = tt
  all_open (directive ∷ rest) = (λ e. planned_open directive.anchor directive.start _, all_open rest)

  open_there : (path : List ℕ) (task : Task) → is_of_differing differs path ≡ true → task_at whole path ≡ Some task → is_open task.phase ≡ true
  open_there path task e there = all_planned differs (λ (at : List ℕ) (one : Task). is_open one.phase ≡ true) model plan.directives (common_tasks differs table) path (all_open plan.directives) none task there
    where
      none : (one : Task) → task_at (common_tasks differs table) path ≡ Some one → is_open one.phase ≡ true
      none one f = let k : ◌≡◌ {A = Option Task} None (Some one) = sym (none_common table path e) ∙ f in absurd (cc)

  differing_stays : (path : List ℕ) → is_of_differing differs path ≡ true → task_at (live whole) path ≡ task_at whole path
  differing_stays path e = by (task_at whole path) refl
    where
      by : (found : Option Task) → task_at whole path ≡ found → task_at (live whole) path ≡ task_at whole path
      by None f = none_in_part (is_live whole) whole path f ∙ sym f
      by (Some task) f = part_at (is_live whole) whole path (ap not (open_live whole order_whole path task f (open_there path task e f)))

  -- ---- a task in common

  common_there : (path : List ℕ) → is_of_differing differs path ≡ false → task_at whole path ≡ task_at table path
  common_there path e = common_at differs model plan.directives (common_tasks differs table) path e ∙ part_at (is_common differs) table path (ap not e)

  same_common : common_tasks differs whole ≡ common_tasks differs table
  same_common = same_tables (common_tasks differs whole) (common_tasks differs table) (order_part (is_common differs) whole order_whole) (order_part (is_common differs) table order)
      (λ path. by path (is_of_differing differs path) refl)
    where
      by : (path : List ℕ) (whose : Bool) → is_of_differing differs path ≡ whose → task_at (common_tasks differs whole) path ≡ task_at (common_tasks differs table) path
      by path true e = none_common whole path e ∙ sym (none_common table path e)
      by path false e = part_at (is_common differs) whole path (ap not e) ∙ common_there path e ∙ sym (part_at (is_common differs) table path (ap not e))

  same_ended : (path : List ℕ) → 2 ≤ length path → is_of_differing differs path ≡ false → has_ended whole path ≡ has_ended table path
  same_ended path enough e = sym (ended_common differs whole path enough e) ∙ ap (λ t. has_ended t path) same_common ∙ ended_common differs table path enough e

  common_stays : (path : List ℕ) → is_of_differing differs path ≡ false → task_at (live whole) path ≡ task_at (live table) path
  common_stays path e = by (task_at table path) refl
    where
      some : (ended : Bool) → has_ended table path ≡ ended → 2 ≤ length path → task_at (live whole) path ≡ task_at (live table) path
      some true f enough = part_none (is_live whole) whole path (ap not (same_ended path enough e ∙ f)) ∙ sym (part_none (is_live table) table path (ap not f))
      some false f enough = part_at (is_live whole) whole path (ap not (same_ended path enough e ∙ f)) ∙ common_there path e ∙ sym (part_at (is_live table) table path (ap not f))

      by : (found : Option Task) → task_at table path ≡ found → task_at (live whole) path ≡ task_at (live table) path
      by None f = none_in_part (is_live whole) whole path (common_there path e ∙ f) ∙ sym (none_in_part (is_live table) table path f)
      by (Some task) f = some (has_ended table path) refl (long path task f)

  -- ---- all of them

  pub live_whole : live whole ≡ exchanged differs model plan (live table)
  live_whole = same_tables (live whole) (exchanged differs model plan (live table)) (order_part (is_live whole) whole order_whole)
      (order_directives model differing (common_tasks differs (live table)) (order_part (is_common differs) (live table) (order_part (is_live table) table order)))
      (λ path. by path (is_of_differing differs path) refl)
    where
      by : (path : List ℕ) (whose : Bool) → is_of_differing differs path ≡ whose → task_at (live whole) path ≡ task_at (exchanged differs model plan (live table)) path
      by path true e =
          differing_stays path e
          ∙ same_at model differing (common_tasks differs table) (common_tasks differs (live table)) path (none_common table path e ∙ sym (none_common (live table) path e))
      by path false e =
          common_stays path e
          ∙ sym (common_at differs model plan.directives (common_tasks differs (live table)) path e ∙ part_at (is_common differs) (live table) path (ap not e))

pub live_is_exchanged : ReachedIsOfModel → LiveIsExchanged
live_is_exchanged of_model differs model plan old_plan old_bound other valid is reached =
    let table_is = (of_model model old_plan old_bound other valid is reached).table in
    live_whole differs model plan other.table table_is.order (stands_long model other.table table_is)

pub pruned_is_exchanged : ReachedIsOfModel → PrunedIsExchanged
pruned_is_exchanged of_model differs model plan old_plan old_bound other valid is reached =
    λ i. record other { table = live_is_exchanged of_model differs model plan old_plan old_bound other valid is reached i }
