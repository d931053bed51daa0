-- A directive that is shown, read again.
use Rattle.std.proofs.Common.{◌≡◌, ℕ, ◌<◌, ◌≤◌, ◌^◌, Bool, IsTrue, List, [], ◌∷◌, Option, Some, None, codes, map, option_map, refl, ap, ◌∙◌, arith, lt-ltb, le-leb, if◌then◌else◌}
use Rattle.std.specs.Prelude.{pos, option_and_then}
use Rattle.serde_json.specs.Data.{Data, Members, number, object, string, unsigned}
use Rattle.serde_json.specs.View.{items_of}
use Rattle.aerie_base.specs.Ranges.{time_limit, time_of_signed}
use Rattle.aerie_base.specs.declared.arguments.RawArgument.{RawArgument}
use Rattle.aerie_base.specs.declared.models.model.Parts.{Parts}
use Rattle.aerie_base.specs.declared.plans.Anchor.{Anchor}
use Rattle.aerie_base.specs.declared.plans.Edge.{Edge}
use Rattle.aerie_base.specs.declared.plans.Edge.TheVariants as edge
use Rattle.aerie_base.specs.declared.plans.Directive.{Directive}
use Rattle.aerie_base.specs.declared.plans.Plan.{Plan}
use Rattle.json_line.specs.Json.{object_of}
use Rattle.plan_edit.specs.declared.forms.WrittenDirective.{WrittenDirective}
use Rattle.plan_edit.specs.PlanForm.{anchor_of_json, arguments_of_members, checked_timing, directive_of_json, directive_of_parts, directives_of_json, edge_of_word, free_name, id_of_json, id_of_signed, is_free_name, plan_of_json, put_directive, start_of_json, Timing, values_of_items}
use Rattle.plan_edit.specs.ShownPlan.{anchor_fields, edge_word, json_of_anchor, json_of_directive, json_of_plan}

-- ---- ids and starts

pub id_read : (id : ℕ) → id < 4_294_967_296 → id_of_json (number (unsigned id)) ≡ Some id
id_read id small =
    ap (λ (t : Bool). option_and_then id_of_signed (if t then Some (pos id) else None)) (lt-ltb id (2 ^ 63) (omega (arith, small)))
    ∙ ap (λ (t : Bool). if t then Some id else None) (lt-ltb id 4_294_967_296 small)

pub start_read : (start : ℕ) → start ≤ time_limit → start_of_json (number (unsigned start)) ≡ Some start
start_read start small =
    ap (λ (t : Bool). option_and_then time_of_signed (if t then Some (pos start) else None)) (lt-ltb start (2 ^ 63) (omega (arith, small)))
    ∙ ap (λ (t : Bool). if t then Some start else None) (le-leb start time_limit small)

-- ---- anchors

edge_read : (edge : Edge) → edge_of_word (edge_word edge) ≡ Some edge
edge_read edge.Start = refl
edge_read edge.End = refl

pub anchor_read : (anchor : Anchor) → anchor.to < 4_294_967_296 → anchor_of_json (json_of_anchor anchor) ≡ Some anchor
anchor_read anchor small =
    ap (option_and_then (λ (to : ℕ). option_map (λ (e : Edge). record { to = to; edge = e }) (edge_of_word (edge_word anchor.edge)))) (id_read anchor.to small)
    ∙ ap (option_map (λ (e : Edge). record { to = anchor.to; edge = e })) (edge_read anchor.edge)

-- an anchor is to an id that the text may have
abbrev pub IsNear : Option Anchor → Type 0
IsNear None = Unit {0}
IsNear (Some anchor) = anchor.to < 4_294_967_296

-- ---- directives

abbrev timing_by : Option (Option Anchor) → Option ℕ → Option (Option ℕ) → Option Timing
timing_by anchor start id =
    option_and_then (λ id. option_and_then (λ anchor. option_map (λ start. (id, (anchor, start))) start) anchor) id

timed : (id start : ℕ) (anchor : Option Anchor) (i : Option (Option ℕ)) (a : Option (Option Anchor)) (s : Option ℕ) →
    i ≡ Some (Some id) → a ≡ Some anchor → s ≡ Some start → timing_by a s i ≡ Some (Some id, (anchor, start))
timed id start anchor i a s ids anchors starts =
    ap (timing_by a s) ids ∙ ap (λ (x : Option (Option Anchor)). timing_by x s (Some (Some id))) anchors
    ∙ ap (λ (x : Option ℕ). timing_by (Some anchor) x (Some (Some id))) starts

-- the members of a directive
abbrev shown_as : Data → ℕ → ℕ → List ℕ → Option Anchor → Data
shown_as arguments id start kind anchor =
    object_of ((codes "arguments", arguments) ∷ (codes "id", number (unsigned id)) ∷ (codes "start", number (unsigned start)) ∷ (codes "type", string kind) ∷ anchor_fields anchor)

timing_read : (arguments : Data) (id start : ℕ) (kind : List ℕ) (anchor : Option Anchor) → id < 4_294_967_296 → start ≤ time_limit → IsNear anchor →
    checked_timing (shown_as arguments id start kind anchor) ≡ Some (Some id, (anchor, start))
timing_read arguments id start kind None small early near =
    timed id start None (option_map Some (id_of_json (number (unsigned id)))) (Some None) (start_of_json (number (unsigned start)))
    (ap (option_map Some) (id_read id small)) refl (start_read start early)
timing_read arguments id start kind (Some anchor) small early near =
    timed id start (Some anchor) (option_map Some (id_of_json (number (unsigned id)))) (option_map Some (anchor_of_json (json_of_anchor anchor))) (start_of_json (number (unsigned start)))
    (ap (option_map Some) (id_read id small)) (ap (option_map Some) (anchor_read anchor near)) (start_read start early)

parts_read : (members : Members) (id start : ℕ) (kind : List ℕ) (anchor : Option Anchor) →
    directive_of_json (shown_as (object members) id start kind anchor)
    ≡ directive_of_parts (checked_timing (shown_as (object members) id start kind anchor)) (free_name kind) (arguments_of_members members)
parts_read within id start kind None = refl
parts_read within id start kind (Some anchor) = refl

pub directive_read : (members : Members) (given : List RawArgument) (id start : ℕ) (kind : List ℕ) (anchor : Option Anchor) → id < 4_294_967_296 → start ≤ time_limit → IsNear anchor →
    IsTrue (is_free_name kind) → arguments_of_members members ≡ Some given →
    directive_of_json (shown_as (object members) id start kind anchor) ≡ Some (record { id = Some id; anchor = anchor; start = start; kind = kind; arguments = given })
directive_read members given id start kind anchor small early near free read =
    parts_read members id start kind anchor
    ∙ ap (λ (t : Option Timing). directive_of_parts t (free_name kind) (arguments_of_members members)) (timing_read (object members) id start kind anchor small early near)
    ∙ ap (λ (t : Bool). directive_of_parts (Some (Some id, (anchor, start))) (if t then Some kind else None) (arguments_of_members members)) free
    ∙ ap (directive_of_parts (Some (Some id, (anchor, start))) (Some kind)) read

-- ---- plans

values_are_items : (values : List Data) → values_of_items (items_of values) ≡ values
values_are_items [] = refl
values_are_items (value ∷ rest) = ap (λ (vs : List Data). value ∷ vs) (values_are_items rest)

-- each directive that is shown is read so
abbrev pub AreShown : Parts → (Directive → WrittenDirective) → List Directive → Type 0
AreShown model written [] = Unit {0}
AreShown model written (directive ∷ rest) = (directive_of_json (json_of_directive model directive) ≡ Some (written directive)) × AreShown model written rest

all_read : (model : Parts) (written : Directive → WrittenDirective) (directives : List Directive) → AreShown model written directives →
    directives_of_json (map (json_of_directive model) directives) ≡ Some (map written directives)
all_read model written [] are = refl
all_read model written (directive ∷ rest) are =
    ap (λ (o : Option WrittenDirective). put_directive o (directives_of_json (map (json_of_directive model) rest))) are.0
    ∙ ap (put_directive (Some (written directive))) (all_read model written rest are.1)

pub plan_read : (model : Parts) (written : Directive → WrittenDirective) (plan : Plan) → AreShown model written plan.directives →
    plan_of_json (json_of_plan model plan) ≡ Some (map written plan.directives)
plan_read model written plan are =
    ap directives_of_json (values_are_items (map (json_of_directive model) plan.directives)) ∙ all_read model written plan.directives are
