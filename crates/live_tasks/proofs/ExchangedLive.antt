-- Once all have joined the tasks are in step, where their table is the live part of a reached state's.
use Rattle.std.proofs.Common.{◌≡◌, ◌⊎◌, inl, inr, ℕ, zero, suc, ◌+◌, ◌<◌, ◌≤◌, nat_eq, Bool, true, false, IsTrue, List, length, Option, Some, None, refl, sym, ap, ◌∙◌, subst, arith}
use Rattle.std.proofs.lemmas.Bool.{false≢true}
use Rattle.aerie_base.specs.Paths.{root, child_path, is_prefix}
use Rattle.aerie_base.specs.declared.models.model.Parts.{Parts}
use Rattle.aerie_base.specs.declared.plans.Plan.{Plan}
use Rattle.aerie_base.specs.models.ValidModel.{valid_model}
use Rattle.aerie_base.specs.plans.OfModel.{IsPlanOf}
use Rattle.run_data.specs.Endings.{has_ended}
use Rattle.run_data.specs.Tasks.{Table, task_at}
use Rattle.run_data.specs.laws.EndedTaskLaws.{ended_by_open_bodies, open_some}
use Rattle.run_data.specs.laws.GoingOn.{IsQuiet, AllQuiet}
use Rattle.run_data.specs.laws.LiveAfterFrames.{quiet_at, prefix_child}
use Rattle.run_data.specs.laws.LiveTables.{part_quiet}
use Rattle.run_data.specs.laws.PathsUnder.{both_true, same_number}
use Rattle.run_data.specs.laws.QuietStates.{ReachedIsQuiet}
use Rattle.run_data.specs.laws.ReachedStates.{ReachedIsOfModel}
use Rattle.parting.specs.Exchanges.{exchanged}
use Rattle.live_tasks.specs.declared.slots.Slot.{Slot}
use Rattle.live_tasks.specs.declared.tasks.LiveTasks.{LiveTasks}
use Rattle.live_tasks.specs.Endings.{AreLive}
use Rattle.live_tasks.specs.Exchanging.{MayExchange}
use Rattle.live_tasks.specs.Followers.{AreFollowers}
use Rattle.live_tasks.specs.InStep.{slots_in, table_in, IsInStep}
use Rattle.live_tasks.specs.Joining.{AreUnderWay}
use Rattle.live_tasks.specs.ListedSlots.{ListsExactly}
use Rattle.live_tasks.specs.Slots.{Slots, slot_at, IsRoot, StandsUnder, HasSlot, table_of}
use Rattle.live_tasks.proofs.Forests.{below_length, long_path}
use Rattle.live_tasks.proofs.Resting.{one_table}

pub exchanged_quiet : ReachedIsOfModel → ReachedIsQuiet → (differs : ℕ → Bool) (model : Parts) (plan : Plan) (table : Table) → IsTrue (valid_model model) → IsPlanOf model plan →
    MayExchange differs model plan table → AllQuiet (exchanged differs model plan table) (exchanged differs model plan table)
exchanged_quiet of_model quiet differs model plan table valid is fits =
    let order = (of_model model plan fits.bound fits.at valid is fits.is_reached).table.order in
    subst (λ (t : Table). AllQuiet t t) fits.is_live (part_quiet fits.at.table order fits.at.table (quiet model plan fits.bound fits.at is fits.is_reached))

under_root : (to : ℕ) (path : List ℕ) → IsRoot path → is_prefix (root to) path ≡ true → path ≡ root to
under_root to path (inl directive) up =
    let k : is_prefix (root to) (root directive.0) ≡ true = ap (is_prefix (root to)) (sym directive.1) ∙ up in
    let both = both_true (nat_eq to directive.0) true k in
    directive.1 ∙ ap root (sym (same_number to directive.0 both.0))
under_root to path (inr daemon) up = absurd (false≢true (ap (is_prefix (root to)) (sym daemon.1) ∙ up))

module _ (table : Table) (tasks : LiveTasks) (way : AreUnderWay table tasks) (quiet : AllQuiet table table) where
  abbrev slots : Slots
  slots = tasks.tables.slots.slots

  -- where a task stands under a directive, that stands there
  climb : (to most n : ℕ) (s : Slot) → length s.path < most → slot_at slots n ≡ Some s → is_prefix (root to) s.path ≡ true → HasSlot slots (root to)
  climb to zero n s short at up = absurd (omega arith)
  climb to (suc most) n s short at up = by s.parent (way.forest.stands n s at) (λ m t less there above. climb to most m t less there above)
    where
      by : (parent : Option ℕ) → StandsUnder slots s.path s.own parent →
          ((m : ℕ) (t : Slot) → length t.path < most → slot_at slots m ≡ Some t → is_prefix (root to) t.path ≡ true → HasSlot slots (root to)) → HasSlot slots (root to)
      by None is further = record { number = n; slot = s; there = at; is = under_root to s.path is up }
      by (Some parent) below further = go (prefix_child (root to) below.above.path s.own (ap (is_prefix (root to)) (sym below.is) ∙ up))
        where
          go : (root to ≡ child_path below.above.path s.own) ⊎ (is_prefix (root to) below.above.path ≡ true) → HasSlot slots (root to)
          go (inl same) =
              let a : length (root to) ≡ length below.above.path + 1 = below_length (root to) below.above.path s.own same in
              let b : 2 ≤ length below.above.path = long_path slots way.forest parent below.above below.there in
              let c : length (root to) ≡ 2 = refl in
              absurd (omega (arith, a, b, c))
          go (inr above) =
              let l = below_length s.path below.above.path s.own below.is in
              further parent below.above (omega (arith, l, short)) below.there above

  root_there : (to : ℕ) → has_ended table (root to) ≡ false → HasSlot slots (root to)
  root_there to live_ =
      let any = (ended_by_open_bodies table (root to) way.are.order).0 live_ in
      let v = open_some any.0 (task_at table any.0) any.1 in
      let has = way.are.each any.0 v.0 v.1 in
      climb to (length has.slot.path + 1) has.number has.slot (omega arith) has.there (ap (is_prefix (root to)) has.is ∙ any.2)

  its_quiet : (n : ℕ) (s : Slot) → slot_at slots n ≡ Some s → IsQuiet table s.path s.task.phase
  its_quiet n s at = quiet_at table table s.path s.task quiet (way.are.tasks n s at)

  all_live : AreLive table slots
  all_live = record {
    forest = way.forest;
    are = way.are;
    calls = way.calls;
    follows = λ n s at to start state e. root_there to (subst (IsQuiet table s.path) e (its_quiet n s at));
    starts = λ n s at to start state e. subst (IsQuiet table s.path) e (its_quiet n s at);
    settled = way.settled;
  }

  pub way_table : table_in tasks ≡ table
  way_table = one_table slots table all_live

  pub way_in_step : (after : LiveTasks) → slots_in after ≡ slots → after.followers.items ≡ tasks.followers.items → ListsExactly after.tables → IsInStep after
  way_in_step after same again listed = record {
    live_ = subst (λ (s : Slots). AreLive (table_of s) s) (sym same) (subst (λ (t : Table). AreLive t slots) (sym way_table) all_live);
    followers_ = subst (λ (s : Slots). AreFollowers s after.followers.items) (sym same) (subst (λ f. AreFollowers slots f) (sym again) way.followers_);
    listed = listed;
  }
