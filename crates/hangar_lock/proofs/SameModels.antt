-- An action that is on a workspace is on each workspace of the same session.
use Rattle.std.proofs.Common.{ℕ, List, sym, ◌∙◌, subst}
use Rattle.aerie_base.specs.declared.models.model.Parts.{Parts}
use Rattle.hangar_core.specs.declared.actions.Action.{Action}
use Rattle.hangar_core.specs.declared.actions.Action.TheVariants.{New, Fork, Drop, Edit, Migrate, Fetch, Attach, Place}
use Rattle.hangar_core.specs.declared.workspaces.Workspace.{Workspace}
use Rattle.hangar_core.specs.ValidWorkspaces.{IsActionOn, IsKeptIn, IsOfSameSession, IsPlanIn}

pub same_later : (first second third : Workspace) → IsOfSameSession first second → IsOfSameSession second third → IsOfSameSession first third
same_later first second third one two = record {
  models = two.models ∙ one.models;
  mappings = two.mappings ∙ one.mappings;
  duration = two.duration ∙ one.duration;
}

pub action_on : (before after : Workspace) (action : Action) → IsOfSameSession before after → IsActionOn before action → IsActionOn after action
action_on before after (New branch) same on = on
action_on before after (Fork branch source) same on = on
action_on before after (Drop branch) same on = on
action_on before after (Edit branch edit) same on = on
action_on before after (Migrate branch model) same on = on
action_on before after (Fetch branch) same on = on
action_on before after (Attach branch kept) same on = subst (λ (models : List Parts). IsKeptIn models kept) (sym same.models) on
action_on before after (Place branch seen plan) same on =
    subst (λ (duration : ℕ). IsPlanIn after.models duration plan) (sym same.duration)
    (subst (λ (models : List Parts). IsPlanIn models before.duration plan) (sym same.models) on)
