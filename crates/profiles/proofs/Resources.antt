-- The resources of a valid model.
use Rattle.std.proofs.Common.{◌≡◌, ℕ, zero, suc, ◌<◌, Bool, true, ◌&&◌, IsTrue, List, [], ◌∷◌, length, get_or, Some, slice_get, sym, ap, subst, ◌∙◌, arith}
use Rattle.std.specs.List.{list_all}
use Rattle.std.specs.Option.{is_some}
use Rattle.aerie_base.specs.declared.models.Resource.{Resource}
use Rattle.aerie_base.specs.declared.models.Resource.TheVariants as resource
use Rattle.aerie_base.specs.declared.linear.Linear.{Linear}
use Rattle.aerie_base.specs.declared.models.model.Parts.{Parts}
use Rattle.aerie_base.specs.declared.operands.CellRead.{CellRead}
use Rattle.aerie_base.specs.expressions.Readings.{cell_of}
use Rattle.aerie_base.specs.models.Cells.{NamedCells, read_kind}
use Rattle.aerie_base.specs.models.Resources.{is_resource, is_shown, is_sum}
use Rattle.aerie_base.specs.models.ValidModel.{valid_model, has_good_resources}
use Rattle.aerie_base.specs.models.ValidParts.{are_good}
use Rattle.profiles.proofs.Terms.{read_there}

both : (a b : Bool) → IsTrue (a && b) → (a ≡ true) × (b ≡ true)
both a b h = (grind arith, grind arith)

each_is : (cells : NamedCells) (resources : List (List ℕ × Resource)) (i : ℕ) (named : List ℕ × Resource) → list_all (λ one. is_resource cells one.1) resources ≡ true → i < length resources →
    named ≡ get_or resources i named → is_resource cells named.1 ≡ true
each_is cells [] i named all within is = absurd (omega arith)
each_is cells (first ∷ rest) zero named all within is =
    ap (λ (one : List ℕ × Resource). is_resource cells one.1) is ∙ (both (is_resource cells first.1) (list_all (λ one. is_resource cells one.1) rest) all).0
each_is cells (first ∷ rest) (suc i) named all within is =
    each_is cells rest i named (both (is_resource cells first.1) (list_all (λ one. is_resource cells one.1) rest) all).1 (omega arith) is

-- each resource is one of the model
pub resource_is : (model : Parts) (i : ℕ) (named : List ℕ × Resource) → IsTrue (valid_model model) → i < length model.resources → named ≡ get_or model.resources i named →
    is_resource model.cells named.1 ≡ true
unfolding has_good_resources
resource_is model i named valid within is = each_is model.cells model.resources i named (both _ _ (are_good model valid).resources).1 within is

pub discrete_is : (cells : NamedCells) (one : CellRead) (of : Resource) → is_resource cells of ≡ true → of ≡ resource.Discrete one → IsTrue (is_shown one) × (cell_of one < length cells)
discrete_is cells one of good is =
    let parts = both (is_shown one) (is_some (read_kind cells one)) (subst (λ (r : Resource). is_resource cells r ≡ true) is good) in
    (parts.0, read_there cells one parts.1)

pub linear_is : (cells : NamedCells) (form : Linear) (of : Resource) → is_resource cells of ≡ true → of ≡ resource.Linear form → IsTrue (is_sum cells form)
linear_is cells form of good is = subst (λ (r : Resource). is_resource cells r ≡ true) is good

pub found_at : {A : Type 0} (items : List A) (i : ℕ) (item : A) → i < length items → item ≡ get_or items i item → slice_get items i ≡ Some item
found_at [] i item within is = absurd (omega arith)
found_at (first ∷ rest) zero item within is = ap Some (sym is)
found_at (first ∷ rest) (suc i) item within is = found_at rest i item (omega arith) is
