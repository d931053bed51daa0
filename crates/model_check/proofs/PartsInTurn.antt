-- Parts that are made one declaration after another are those of all declarations.
use Rattle.std.proofs.Common.{◌≡◌, ℕ, List, [], ◌∷◌, ◌++◌, Option, sym, ap, ◌∙◌, append_assoc}
use Rattle.std.proofs.lemmas.List.{append-nil}
use Rattle.aerie_base.specs.declared.models.Activity.{Activity}
use Rattle.aerie_base.specs.declared.models.CellStart.{CellStart}
use Rattle.aerie_base.specs.declared.models.Daemon.{Daemon}
use Rattle.aerie_base.specs.declared.models.Resource.{Resource}
use Rattle.aerie_base.specs.declared.models.EnumType.{EnumType}
use Rattle.model_reader.specs.declared.raw.expressions.RawExpr.{RawExpr}
use Rattle.model_reader.specs.declared.raw.items.RawItem.{RawItem}
use Rattle.model_reader.specs.declared.raw.items.RawItem.TheVariants.{Enum, Activity as RawActivity, Daemon as RawDaemon}
use Rattle.model_reader.specs.declared.raw.items.RawParameter.{RawParameter}
use Rattle.model_reader.specs.declared.raw.names.RawName.{RawName}
use Rattle.model_reader.specs.declared.raw.statements.RawStmt.{RawStmt}
use Rattle.model_reader.specs.declared.raw.types.RawType.{RawType}
use Rattle.model_check.specs.declared.parts.CheckedParts.{CheckedParts}
use Rattle.model_check.specs.declared.symbols.Symbols.{Symbols}
use Rattle.model_check.specs.declared.bodies.CheckedBody.{CheckedBody}
use Rattle.model_check.specs.BodyScopes.{empty_scope}
use Rattle.model_check.specs.CheckedBodies.{checked_body}
use Rattle.model_check.specs.DeclaredParts.{enum_type}
use Rattle.model_check.specs.ModelDiagnostics.{parameter_scope}
use Rattle.model_check.specs.CheckedParts.{no_parts, with_checked_item, with_checked_items, checked_parts_by}
use Rattle.model_check.specs.ModelMeaning.{enum_of, cell_of_item, resource_of, activity_in, activity_of, daemon_of, parts_of_items}

module _ (symbols : Symbols) where
  abbrev behind : CheckedParts → List RawItem → CheckedParts
  behind parts items =
      record {
        enums = parts.enums ++ parts_of_items enum_of items;
        cells = parts.cells ++ parts_of_items (cell_of_item symbols) items;
        resources = parts.resources ++ parts_of_items (resource_of symbols) items;
        activities = parts.activities ++ parts_of_items (activity_of symbols) items;
        daemons = parts.daemons ++ parts_of_items (daemon_of symbols) items;
      }

  with_items_are : (parts : CheckedParts) (items : List RawItem) → with_checked_items symbols parts items ≡ behind parts items
  with_items_are parts [] = λ j. record {
    enums = sym (append-nil parts.enums) j;
    cells = sym (append-nil parts.cells) j;
    resources = sym (append-nil parts.resources) j;
    activities = sym (append-nil parts.activities) j;
    daemons = sym (append-nil parts.daemons) j;
  }
  with_items_are parts (item ∷ rest) =
      with_items_are (with_checked_item symbols parts item) rest
      ∙ (λ j. record {
        enums = append_assoc parts.enums (enum_of item) (parts_of_items enum_of rest) j;
        cells = append_assoc parts.cells (cell_of_item symbols item) (parts_of_items (cell_of_item symbols) rest) j;
        resources = append_assoc parts.resources (resource_of symbols item) (parts_of_items (resource_of symbols) rest) j;
        activities = append_assoc parts.activities (activity_of symbols item) (parts_of_items (activity_of symbols) rest) j;
        daemons = append_assoc parts.daemons (daemon_of symbols item) (parts_of_items (daemon_of symbols) rest) j;
      })

  pub parts_in_turn : (items : List RawItem) → with_checked_items symbols no_parts items ≡ checked_parts_by symbols items
  parts_in_turn items = with_items_are no_parts items

  -- ---- one declaration adds to one list

  pub enums_more : (parts after : CheckedParts) (more : List EnumType) →
      after ≡ record { enums = parts.enums ++ more; cells = parts.cells; resources = parts.resources; activities = parts.activities; daemons = parts.daemons } →
      after ≡ record { enums = parts.enums ++ more; cells = parts.cells ++ []; resources = parts.resources ++ []; activities = parts.activities ++ []; daemons = parts.daemons ++ [] }
  enums_more parts after more is = is ∙ (λ j. record {
    enums = parts.enums ++ more;
    cells = sym (append-nil parts.cells) j;
    resources = sym (append-nil parts.resources) j;
    activities = sym (append-nil parts.activities) j;
    daemons = sym (append-nil parts.daemons) j;
  })

  pub cells_more : (parts after : CheckedParts) (more : List (List ℕ × CellStart)) →
      after ≡ record { enums = parts.enums; cells = parts.cells ++ more; resources = parts.resources; activities = parts.activities; daemons = parts.daemons } →
      after ≡ record { enums = parts.enums ++ []; cells = parts.cells ++ more; resources = parts.resources ++ []; activities = parts.activities ++ []; daemons = parts.daemons ++ [] }
  cells_more parts after more is = is ∙ (λ j. record {
    enums = sym (append-nil parts.enums) j;
    cells = parts.cells ++ more;
    resources = sym (append-nil parts.resources) j;
    activities = sym (append-nil parts.activities) j;
    daemons = sym (append-nil parts.daemons) j;
  })

  pub resources_more : (parts after : CheckedParts) (more : List (List ℕ × Resource)) →
      after ≡ record { enums = parts.enums; cells = parts.cells; resources = parts.resources ++ more; activities = parts.activities; daemons = parts.daemons } →
      after ≡ record { enums = parts.enums ++ []; cells = parts.cells ++ []; resources = parts.resources ++ more; activities = parts.activities ++ []; daemons = parts.daemons ++ [] }
  resources_more parts after more is = is ∙ (λ j. record {
    enums = sym (append-nil parts.enums) j;
    cells = sym (append-nil parts.cells) j;
    resources = parts.resources ++ more;
    activities = sym (append-nil parts.activities) j;
    daemons = sym (append-nil parts.daemons) j;
  })

  pub activities_more : (parts after : CheckedParts) (more : List Activity) →
      after ≡ record { enums = parts.enums; cells = parts.cells; resources = parts.resources; activities = parts.activities ++ more; daemons = parts.daemons } →
      after ≡ record { enums = parts.enums ++ []; cells = parts.cells ++ []; resources = parts.resources ++ []; activities = parts.activities ++ more; daemons = parts.daemons ++ [] }
  activities_more parts after more is = is ∙ (λ j. record {
    enums = sym (append-nil parts.enums) j;
    cells = sym (append-nil parts.cells) j;
    resources = sym (append-nil parts.resources) j;
    activities = parts.activities ++ more;
    daemons = sym (append-nil parts.daemons) j;
  })

  pub daemons_more : (parts after : CheckedParts) (more : List Daemon) →
      after ≡ record { enums = parts.enums; cells = parts.cells; resources = parts.resources; activities = parts.activities; daemons = parts.daemons ++ more } →
      after ≡ record { enums = parts.enums ++ []; cells = parts.cells ++ []; resources = parts.resources ++ []; activities = parts.activities ++ []; daemons = parts.daemons ++ more }
  daemons_more parts after more is = is ∙ (λ j. record {
    enums = sym (append-nil parts.enums) j;
    cells = sym (append-nil parts.cells) j;
    resources = sym (append-nil parts.resources) j;
    activities = sym (append-nil parts.activities) j;
    daemons = parts.daemons ++ more;
  })

  -- ---- what a declaration adds

  pub added_enum : (parts : CheckedParts) (list : List EnumType) (one : EnumType) (name : RawName) (variants : List RawName) →
      list ≡ parts.enums ++ one ∷ [] → one ≡ enum_type name variants →
      record { enums = list; cells = parts.cells; resources = parts.resources; activities = parts.activities; daemons = parts.daemons }
      ≡ with_checked_item symbols parts (Enum name variants)
  added_enum parts list one name variants pushed is =
      enums_more parts (record { enums = list; cells = parts.cells; resources = parts.resources; activities = parts.activities; daemons = parts.daemons }) (enum_type name variants ∷ [])
      (λ j. record { enums = (pushed ∙ ap (λ (e : EnumType). parts.enums ++ e ∷ []) is) j; cells = parts.cells; resources = parts.resources; activities = parts.activities; daemons = parts.daemons })

  pub added_activity : (parts : CheckedParts) (list : List Activity) (one : Activity)
      (name : RawName) (parameters : List RawParameter) (result : Option RawType) (requires_ : List RawExpr) (body : List RawStmt) →
      list ≡ parts.activities ++ one ∷ [] →
      one ≡ activity_in symbols (parameter_scope symbols empty_scope parameters) name parameters result requires_ body →
      record { enums = parts.enums; cells = parts.cells; resources = parts.resources; activities = list; daemons = parts.daemons }
      ≡ with_checked_item symbols parts (RawActivity name parameters result requires_ body)
  added_activity parts list one name parameters result requires_ body pushed is =
      activities_more parts (record { enums = parts.enums; cells = parts.cells; resources = parts.resources; activities = list; daemons = parts.daemons })
      (activity_in symbols (parameter_scope symbols empty_scope parameters) name parameters result requires_ body ∷ [])
      (λ j. record { enums = parts.enums; cells = parts.cells; resources = parts.resources; activities = (pushed ∙ ap (λ (a : Activity). parts.activities ++ a ∷ []) is) j; daemons = parts.daemons })

  pub added_daemon : (parts : CheckedParts) (list : List Daemon) (made : CheckedBody) (body : List RawStmt) →
      list ≡ parts.daemons ++ record { slots = made.slots; body = made.statements } ∷ [] → made ≡ checked_body symbols body empty_scope →
      record { enums = parts.enums; cells = parts.cells; resources = parts.resources; activities = parts.activities; daemons = list }
      ≡ with_checked_item symbols parts (RawDaemon body)
  added_daemon parts list made body pushed is =
      daemons_more parts (record { enums = parts.enums; cells = parts.cells; resources = parts.resources; activities = parts.activities; daemons = list })
      (daemon_of symbols (RawDaemon body))
      (λ j. record { enums = parts.enums; cells = parts.cells; resources = parts.resources; activities = parts.activities; daemons = (pushed ∙ ap (λ (b : CheckedBody). parts.daemons ++ record { slots = b.slots; body = b.statements } ∷ []) is) j })
