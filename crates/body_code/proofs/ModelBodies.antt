-- The bodies of a valid model have few enough statements, and the model's codes are theirs.
use Rattle.std.proofs.Common.{◌≡◌, ℕ, zero, suc, ◌+◌, ◌≤◌, ◌&&◌, Bool, IsTrue, All, List, [], ◌∷◌, ◌++◌, Some, refl, sym, ap, ◌∙◌, arith, length, map, nat_le, slice_get, option_map}
use Rattle.std.specs.List.{list_all}
use Rattle.std.proofs.lemmas.Option.{slice_get-map}
use Rattle.aerie_base.specs.declared.models.Activity.{Activity}
use Rattle.aerie_base.specs.declared.models.Daemon.{Daemon}
use Rattle.aerie_base.specs.declared.models.EnumType.{EnumType}
use Rattle.aerie_base.specs.models.Cells.{NamedCells}
use Rattle.aerie_base.specs.declared.models.model.Parts.{Parts}
use Rattle.aerie_base.specs.declared.statements.Stmt.{Stmt}
use Rattle.aerie_base.specs.declared.values.Kind.{Kind}
use Rattle.aerie_base.specs.models.Activities.{is_activity, is_daemon, activity_setting, daemon_setting, are_parameters, are_requires, is_result}
use Rattle.aerie_base.specs.models.Signatures.{Signature, parameter_kinds, signatures_of}
use Rattle.aerie_base.specs.models.Bodies.{Setting, block_checked, has_slots, is_body}
use Rattle.aerie_base.specs.models.Depth.{body_depth}
use Rattle.aerie_base.specs.models.Limits.{statement_limit, type_limit, daemon_limit, depth_limit}
use Rattle.aerie_base.specs.models.ValidModel.{valid_model, has_good_activities, has_good_daemons, enum_names, cell_names}
use Rattle.aerie_base.specs.models.ValidParts.{are_good}
use Rattle.aerie_base.specs.statements.Places.{block_count}
use Rattle.body_code.specs.FlatCode.{body_code}
use Rattle.body_code.specs.ModelCodes.{activity_codes, daemon_codes, model_codes, AreCodesOf}
use Rattle.body_code.specs.declared.instructions.Instruction.{Instruction}
use Rattle.body_code.proofs.CodeOfBody.{is_code}

-- ---- few enough statements

first_of : (a b : Bool) → IsTrue (a && b) → IsTrue a
first_of a b h = grind arith

second_of : (a b : Bool) → IsTrue (a && b) → IsTrue b
second_of a b h = grind arith

middle_of : (a b c : Bool) → IsTrue (a && b && c) → IsTrue b
middle_of a b c h = grind arith

fourth_of : (a b c d : Bool) → IsTrue (a && b && c && d) → IsTrue d
fourth_of a b c d h = grind arith

-- what holds where a test passes holds of each in a list that passes it
each_passes : {A : Type 0} (p : A → Bool) (P : A → Type 0) → ((x : A) → IsTrue (p x) → P x) → (xs : List A) → IsTrue (list_all p xs) → All P xs
each_passes p P use_it [] h k d lt = absurd (omega arith)
each_passes p P use_it (x ∷ xs) h zero d lt = use_it x (first_of (p x) (list_all p xs) h)
each_passes p P use_it (x ∷ xs) h (suc k) d lt = each_passes p P use_it xs (second_of (p x) (list_all p xs) h) k d (omega arith)

few_in_body : (setting : Setting) (parameters : List Kind) (slots : ℕ) (body : List Stmt) → IsTrue (is_body setting parameters slots body) → block_count body ≤ statement_limit
unfolding is_body
few_in_body setting parameters slots body h =
    let few : IsTrue (nat_le (block_count body) statement_limit) = middle_of (has_slots slots (block_checked setting body (map Some parameters))) (nat_le (block_count body) statement_limit) (nat_le (body_depth body) depth_limit) h in
    grind arith

few_in_activity : (enums : List EnumType) (cells : NamedCells) (signatures : List Signature) (taken : List (List ℕ)) (activity : Activity) → IsTrue (is_activity enums cells signatures taken activity) → block_count activity.body ≤ statement_limit
unfolding is_activity
few_in_activity enums cells signatures taken activity h =
    few_in_body (activity_setting enums cells signatures activity) (parameter_kinds activity) activity.slots activity.body (fourth_of (are_parameters enums taken activity) (are_requires enums activity) (is_result enums activity.result activity.body) _ h)

few_in_daemon : (enums : List EnumType) (cells : NamedCells) (signatures : List Signature) (daemon : Daemon) → IsTrue (is_daemon enums cells signatures daemon) → block_count daemon.body ≤ statement_limit
unfolding is_daemon
few_in_daemon enums cells signatures daemon h =
    few_in_body (daemon_setting enums cells signatures) [] daemon.slots daemon.body h

pub few_in_activities : (model : Parts) → IsTrue (valid_model model) → All (λ activity. block_count activity.body ≤ statement_limit) model.activities
unfolding has_good_activities
few_in_activities model valid =
    let test : Activity → Bool = is_activity model.enums model.cells (signatures_of model.activities) (enum_names model ++ cell_names model) in
    each_passes test (λ activity. block_count activity.body ≤ statement_limit)
    (λ activity h. few_in_activity model.enums model.cells (signatures_of model.activities) (enum_names model ++ cell_names model) activity h)
    model.activities (second_of (nat_le (length model.activities) type_limit) (list_all test model.activities) (are_good model valid).activities)

pub few_in_daemons : (model : Parts) → IsTrue (valid_model model) → All (λ daemon. block_count daemon.body ≤ statement_limit) model.daemons
unfolding has_good_daemons
few_in_daemons model valid =
    let test : Daemon → Bool = is_daemon model.enums model.cells (signatures_of model.activities) in
    each_passes test (λ daemon. block_count daemon.body ≤ statement_limit)
    (λ daemon h. few_in_daemon model.enums model.cells (signatures_of model.activities) daemon h)
    model.daemons (second_of (nat_le (length model.daemons) daemon_limit) (list_all test model.daemons) (are_good model valid).daemons)

-- ---- the place of a body's code

get_front : {A : Type 0} (xs ys : List A) (k : ℕ) (x : A) → slice_get xs k ≡ Some x → slice_get (xs ++ ys) k ≡ Some x
get_front [] ys k x e = absurd (cc)
get_front (y ∷ xs) ys zero x e = e
get_front (y ∷ xs) ys (suc k) x e = get_front xs ys k x e

get_back : {A : Type 0} (xs ys : List A) (k : ℕ) → slice_get (xs ++ ys) (length xs + k) ≡ slice_get ys k
get_back [] ys k = (let e : 0 + k ≡ k = omega arith in ap (slice_get ys) e)
get_back (y ∷ xs) ys k = (let e : length (y ∷ xs) + k ≡ suc (length xs + k) = omega arith in ap (slice_get (y ∷ xs ++ ys)) e ∙ get_back xs ys k)

length_map : {A B : Type 0} (f : A → B) (xs : List A) → length (map f xs) ≡ length xs
length_map f [] = refl
length_map f (x ∷ xs) = omega (arith, length_map f xs)

pub are_codes : (model : Parts) (codes : List (List Instruction)) → codes ≡ model_codes model → AreCodesOf model codes
are_codes model codes e = record {
  activities = λ kind activity is_there. (
    body_code activity.body,
    ap (λ l. slice_get l kind) e ∙ get_front (activity_codes model.activities) (daemon_codes model.daemons) kind (body_code activity.body)
        (slice_get-map (λ (activity : Activity). body_code activity.body) model.activities kind ∙ ap (option_map (λ (activity : Activity). body_code activity.body)) is_there),
    is_code activity.body (body_code activity.body) refl,
  );
  daemons = λ number daemon is_there. (
    body_code daemon.body,
    ap (λ l. slice_get l (length model.activities + number)) e
        ∙ ap (λ n. slice_get (model_codes model) (n + number)) (sym (length_map (λ (activity : Activity). body_code activity.body) model.activities))
        ∙ get_back (activity_codes model.activities) (daemon_codes model.daemons) number
        ∙ slice_get-map (λ (daemon : Daemon). body_code daemon.body) model.daemons number
        ∙ ap (option_map (λ (daemon : Daemon). body_code daemon.body)) is_there,
    is_code daemon.body (body_code daemon.body) refl,
  );
}

pub all_codes : (model : Parts) (activities : List Activity) (daemons : List Daemon) (start middle codes : List (List Instruction)) → start ≡ [] → activities ≡ model.activities → middle ≡ start ++ activity_codes activities → daemons ≡ model.daemons → codes ≡ middle ++ daemon_codes daemons → codes ≡ model_codes model
all_codes model activities daemons start middle codes none are_activities first are_daemons second =
    second
    ∙ ap (λ l. l ++ daemon_codes daemons) (first ∙ ap (λ l. l ++ activity_codes activities) none ∙ ap activity_codes are_activities)
    ∙ ap (λ l. activity_codes model.activities ++ daemon_codes l) are_daemons
