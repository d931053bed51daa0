-- A file of lemmas: what it proves need not be read to trust a clause.
--
-- Directives that are among others.
use Rattle.std.proofs.Common.{◌≡◌, ℕ, zero, suc, ◌++◌, ◌⊎◌, inl, inr, Bool, true, false, List, [], ◌∷◌, Option, Some, None, filter_map, map, slice_get, nat_eq, refl, ap, ◌∙◌, if◌then◌else◌}
use Rattle.std.specs.List.{cons_option}
use Rattle.std.proofs.lemmas.Option.{none-some, same_Some}
use Rattle.aerie_base.specs.declared.plans.Directive.{Directive}
use Rattle.aerie_base.specs.plans.OfModel.{with_id}
use Rattle.plan_merge.specs.SourceOnly.{IsAmong}

-- the one found by an id is among them
pub id_among : (ds : List Directive) (id : ℕ) (d : Directive) → with_id ds id ≡ Some d → IsAmong ds d
id_among [] id d here = absurd (none-some d here)
id_among (first ∷ rest) id d here = go (nat_eq first.id id) here (id_among rest id d)
  where
    go : (t : Bool) → (if t then Some first else with_id rest id) ≡ Some d → (with_id rest id ≡ Some d → IsAmong rest d) → IsAmong (first ∷ rest) d
    go true here others = (0, here)
    go false here others = let one = others here in (suc one.0, one.1)

-- ---- what a function gives of each item

pub in_map : (r : Directive → Directive) (ds : List Directive) (at : ℕ) (d : Directive) → slice_get ds at ≡ Some d → slice_get (map r ds) at ≡ Some (r d)
in_map r [] at d here = absurd (none-some d here)
in_map r (first ∷ rest) zero d here = ap (λ x. Some (r x)) (same_Some first d here)
in_map r (first ∷ rest) (suc at) d here = in_map r rest at d here

pub from_map : (r : Directive → Directive) (ds : List Directive) (at : ℕ) (found : Directive) → slice_get (map r ds) at ≡ Some found →
    (d : Directive) × ((slice_get ds at ≡ Some d) × (r d ≡ found))
from_map r [] at found there = absurd (none-some found there)
from_map r (first ∷ rest) zero found there = (first, (refl, same_Some (r first) found there))
from_map r (first ∷ rest) (suc at) found there = from_map r rest at found there

-- ---- what a function gives of some items

pub in_some : (h : Directive → Option Directive) (ds : List Directive) (at : ℕ) (d found : Directive) → slice_get ds at ≡ Some d → h d ≡ Some found → IsAmong (filter_map h ds) found
in_some h [] at d found here gives = absurd (none-some d here)
in_some h (first ∷ rest) zero d found here gives =
    (0, ap (λ o. slice_get (cons_option o (filter_map h rest)) 0) (ap h (same_Some first d here) ∙ gives))
in_some h (first ∷ rest) (suc at) d found here gives = go (h first) (in_some h rest at d found here gives)
  where
    go : (o : Option Directive) → IsAmong (filter_map h rest) found → IsAmong (cons_option o (filter_map h rest)) found
    go None one = one
    go (Some other) one = (suc one.0, one.1)

-- the function gives it of a directive among these
abbrev pub IsFrom : (Directive → Option Directive) → List Directive → Directive → Type 0
IsFrom h ds found = (at : ℕ) × ((d : Directive) × ((slice_get ds at ≡ Some d) × (h d ≡ Some found)))

pub from_some : (h : Directive → Option Directive) (ds : List Directive) (to : ℕ) (found : Directive) → slice_get (filter_map h ds) to ≡ Some found → IsFrom h ds found
from_some h [] to found there = absurd (none-some found there)
from_some h (first ∷ rest) to found there = go (h first) refl to there (λ to. from_some h rest to found)
  where
    go : (o : Option Directive) → h first ≡ o → (to : ℕ) → slice_get (cons_option o (filter_map h rest)) to ≡ Some found →
        ((to : ℕ) → slice_get (filter_map h rest) to ≡ Some found → IsFrom h rest found) → IsFrom h (first ∷ rest) found
    go None is to there others = let one = others to there in (suc one.0, one.1)
    go (Some other) is zero there others = (0, (first, (refl, is ∙ there)))
    go (Some other) is (suc to) there others = let one = others to there in (suc one.0, one.1)

-- ---- two lists put together

pub in_front : (ds es : List Directive) (at : ℕ) (d : Directive) → slice_get ds at ≡ Some d → slice_get (ds ++ es) at ≡ Some d
in_front [] es at d here = absurd (none-some d here)
in_front (first ∷ rest) es zero d here = here
in_front (first ∷ rest) es (suc at) d here = in_front rest es at d here

pub in_back : (ds es : List Directive) (d : Directive) → IsAmong es d → IsAmong (ds ++ es) d
in_back [] es d one = one
in_back (first ∷ rest) es d one = let more = in_back rest es d one in (suc more.0, more.1)

pub from_either : (ds es : List Directive) (at : ℕ) (d : Directive) → slice_get (ds ++ es) at ≡ Some d → IsAmong ds d ⊎ IsAmong es d
from_either [] es at d here = inr (at, here)
from_either (first ∷ rest) es zero d here = inl (0, here)
from_either (first ∷ rest) es (suc at) d here = go (from_either rest es at d here)
  where
    go : IsAmong rest d ⊎ IsAmong es d → IsAmong (first ∷ rest) d ⊎ IsAmong es d
    go (inl one) = inl (suc one.0, one.1)
    go (inr one) = inr one
