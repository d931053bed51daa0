-- What a search by halves of the ids knows: the ids in front of what is left are smaller, those behind it greater.
use Rattle.std.proofs.Common.{◌≡◌, ℕ, zero, suc, ◌+◌, ◌<◌, ◌≤◌, Bool, true, false, List, [], ◌∷◌, Some, None, length, slice_get, nat_lt, refl, sym, ap, ◌∙◌, arith, ltb-true, ltb-false}
use Rattle.std.proofs.lemmas.Option.{same_Some, slice_get_within}
use Rattle.aerie_base.specs.declared.plans.Directive.{Directive}
use Rattle.aerie_base.specs.plans.OfModel.{with_id, Rise, IsIdAt}
use Rattle.aerie_base.specs.plans.RisingIds.{later_above, found_by_id, none_by_id}

abbrev pub AreBelow : List Directive → ℕ → ℕ → Type 0
AreBelow directives from id = (at : ℕ) (found : Directive) → at < from → slice_get directives at ≡ Some found → found.id < id

abbrev pub AreAbove : List Directive → ℕ → ℕ → Type 0
AreAbove directives to id = (at : ℕ) (found : Directive) → to ≤ at → slice_get directives at ≡ Some found → id < found.id

there : (directives : List Directive) (at : ℕ) → at < length directives → (found : Directive) × (slice_get directives at ≡ Some found)
there [] at h = absurd (omega arith)
there (directive ∷ rest) zero h = (directive, refl)
there (directive ∷ rest) (suc at) h = there rest at (omega arith)

-- the directive at no later place has no greater id
no_greater : (directives : List Directive) → Rise directives → (at then_at : ℕ) (found then_found : Directive) → at ≤ then_at →
    slice_get directives at ≡ Some found → slice_get directives then_at ≡ Some then_found → found.id ≤ then_found.id
no_greater directives rise at then_at found then_found no_later here there_is = go (nat_lt at then_at) refl
  where
    go : (b : Bool) → nat_lt at then_at ≡ b → found.id ≤ then_found.id
    go true lt =
        let rises : found.id < then_found.id = later_above rise.0 0 directives at then_at found then_found rise.1 here there_is (ltb-true at then_at lt) in
        omega (arith, rises)
    go false lt =
        let no_less : then_at ≤ at = ltb-false at then_at lt in
        let equal : at ≡ then_at = omega (arith, no_less, no_later) in
        let one_is : found ≡ then_found = same_Some found then_found (sym here ∙ ap (slice_get directives) equal ∙ there_is) in
        let id_is : found.id ≡ then_found.id = ap (λ (d : Directive). d.id) one_is in
        omega (arith, id_is)

pub below_more : (directives : List Directive) (middle here id : ℕ) → Rise directives → middle < length directives → IsIdAt directives middle here → here < id → AreBelow directives (middle + 1) id
below_more directives middle here id rise within is less at found before e =
    let one = there directives middle within in
    let same : here ≡ one.0.id = is one.0 one.1 in
    let no_more : found.id ≤ one.0.id = no_greater directives rise at middle found one.0 (omega (arith, before)) e one.1 in
    omega (arith, no_more, same, less)

pub above_more : (directives : List Directive) (middle here id : ℕ) → Rise directives → middle < length directives → IsIdAt directives middle here → id < here → AreAbove directives middle id
above_more directives middle here id rise within is less at found behind e =
    let one = there directives middle within in
    let same : here ≡ one.0.id = is one.0 one.1 in
    let no_less : one.0.id ≤ found.id = no_greater directives rise middle at one.0 found behind one.1 e in
    omega (arith, no_less, same, less)

-- a place with the id is that of the directive with it
pub found_at : (directives : List Directive) (middle here id : ℕ) → Rise directives → middle < length directives → IsIdAt directives middle here → here ≡ id →
    slice_get directives middle ≡ with_id directives id
found_at directives middle here id rise within is equal =
    let one = there directives middle within in
    let same : one.0.id ≡ id = sym (is one.0 one.1) ∙ equal in
    one.1 ∙ sym (found_by_id rise.0 0 directives middle one.0 rise.1 one.1) ∙ ap (with_id directives) same

-- where nothing is left, there is no directive with the id
pub nowhere : (directives : List Directive) (from to id : ℕ) → to ≤ from → AreBelow directives from id → AreAbove directives to id → None ≡ with_id directives id
nowhere directives from to id empty below above = sym (none_by_id directives id absent)
  where
    absent : (at : ℕ) (found : Directive) → slice_get directives at ≡ Some found → found.id ≡ id → ⊥
    absent at found e same = go (nat_lt at from) refl
      where
        go : (b : Bool) → nat_lt at from ≡ b → ⊥
        go true lt = omega (arith, below at found (ltb-true at from lt) e, same)
        go false lt = omega (arith, above at found (omega (arith, ltb-false at from lt, empty)) e, same)

-- nothing is in front of the first place, and nothing from the end on
pub none_before : (directives : List Directive) (id : ℕ) → AreBelow directives 0 id
none_before directives id at found before e = absurd (omega (arith, before))

pub past_all : (directives : List Directive) (id : ℕ) → AreAbove directives (length directives) id
past_all directives id at found behind e = absurd (omega (arith, behind, slice_get_within directives at found e))
