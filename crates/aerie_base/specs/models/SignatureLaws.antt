-- A file of lemmas: what it proves need not be read to trust a clause.
--
-- Each signature is that of the activity type at its place.
use Rattle.std.specs.Prelude.{◌≡◌, ℕ, zero, suc, List, [], ◌∷◌, Option, Some, None, option_map, slice_get, refl}
use mathlib.Core.Path.{ap, ◌∙◌}
use Rattle.aerie_base.specs.declared.models.Activity.{Activity}
use Rattle.aerie_base.specs.models.Signatures.{signature_of, signatures_of, signature_result, activity_result}

-- ---- each signature is that of the activity type at its place

pub signature_at : (activities : List Activity) (kind : ℕ) → slice_get (signatures_of activities) kind ≡ option_map signature_of (slice_get activities kind)
signature_at [] kind = refl
signature_at (activity ∷ rest) zero = refl
signature_at (activity ∷ rest) (suc kind) = signature_at rest kind

its_result : (found : Option Activity) → signature_result (option_map signature_of found) ≡ activity_result found
its_result None = refl
its_result (Some activity) = refl

pub result_at : (activities : List Activity) (kind : ℕ) → signature_result (slice_get (signatures_of activities) kind) ≡ activity_result (slice_get activities kind)
result_at activities kind = ap signature_result (signature_at activities kind) ∙ its_result (slice_get activities kind)
