-- A file of lemmas: what it proves need not be read to trust a clause.
--
-- What is known of each part of a valid model.
use Rattle.std.proofs.Common.{◌≡◌, refl, [], ◌&&◌, Bool, IsTrue, arith}
use Rattle.aerie_base.specs.declared.models.model.Parts.{Parts}
use Rattle.aerie_base.specs.models.ValidModel.{valid_model, has_good_names, has_good_enums, has_good_cells, has_good_resources, has_good_activities, has_good_daemons}

-- each of six facts that hold together
record Six (a b c d e f : Bool) : Type 0 where
  first : IsTrue a
  second : IsTrue b
  third : IsTrue c
  fourth : IsTrue d
  fifth : IsTrue e
  sixth : IsTrue f

six : (a b c d e f : Bool) → IsTrue (a && b && c && d && e && f) → Six a b c d e f
six a b c d e f h = record { first = grind arith; second = grind arith; third = grind arith; fourth = grind arith; fifth = grind arith; sixth = grind arith }

-- what holds of a valid model
pub record AreGood (model : Parts) : Type 0 where
  pub names : IsTrue (has_good_names model)
  pub enums : IsTrue (has_good_enums model)
  pub cells : IsTrue (has_good_cells model)
  pub resources : IsTrue (has_good_resources model)
  pub activities : IsTrue (has_good_activities model)
  pub daemons : IsTrue (has_good_daemons model)

pub are_good : (model : Parts) → IsTrue (valid_model model) → AreGood model
unfolding valid_model
are_good model valid =
    let all : Six _ _ _ _ _ _ = six _ _ _ _ _ _ valid in
    record { names = all.first; enums = all.second; cells = all.third; resources = all.fourth; activities = all.fifth; daemons = all.sixth }

-- a model of no parts but a name is valid
pub nothing_is_valid : (model : Parts) → model.enums ≡ [] → model.cells ≡ [] → model.resources ≡ [] → model.activities ≡ [] → model.daemons ≡ [] → IsTrue (valid_model model)
unfolding valid_model has_good_names has_good_enums has_good_cells has_good_resources has_good_activities has_good_daemons
nothing_is_valid model e c r a d = rw (e, c, r, a, d) refl
