-- Worked cases: a plan of four directives of which the third is moved, with a directive behind it and without one.
use Rattle.std.specs.Prelude.{◌≡◌, ℕ, true, false, List, [], ◌∷◌, ◌++◌, Option, Some, None, map, refl}
use Rattle.std.proofs.Common.{arith, lit≤}
use Rattle.aerie_base.specs.declared.plans.Anchor.{Anchor}
use Rattle.aerie_base.specs.declared.plans.Directive.{Directive}
use Rattle.aerie_base.specs.declared.plans.Edge.TheVariants.{End}
use Rattle.aerie_base.specs.declared.plans.Plan.{Plan}
use Rattle.parting.specs.IdRanges.{is_id_between}
use Rattle.resimulate.specs.Partings.{others_of, IsFreeAndLate, PartFrom, SkipsTo}

abbrev pub directive : ℕ → Option Anchor → ℕ → Directive
directive id anchor start = record { id = id; start = start; anchor = anchor; kind = 0; arguments = [] }

abbrev pub behind : ℕ → Option Anchor
behind id = Some (record { to = id; edge = End })

abbrev pub plan_of : List Directive → Plan
plan_of directives = record { model = 0; duration = 100; next_id = 5; directives = directives }

-- the third at 30, and the fourth 7 behind its end
abbrev pub old : List Directive
old = directive 1 None 5 ∷ directive 2 None 20 ∷ directive 3 None 30 ∷ directive 4 (behind 3) 7 ∷ []

-- the third at 40
abbrev pub moved : List Directive
moved = directive 1 None 5 ∷ directive 2 None 20 ∷ directive 3 None 40 ∷ directive 4 (behind 3) 7 ∷ []

-- the third at 40, and the fourth 9 behind its end
abbrev pub both_changed : List Directive
both_changed = directive 1 None 5 ∷ directive 2 None 20 ∷ directive 3 None 40 ∷ directive 4 (behind 3) 9 ∷ []

-- ---- a range of ids

pub ids_of_a_range : map (is_id_between 2 4) (1 ∷ 2 ∷ 3 ∷ 4 ∷ []) ≡ false ∷ true ∷ true ∷ false ∷ []
ids_of_a_range = refl

pub no_id_of_an_empty_range : map (is_id_between 3 3) (2 ∷ 3 ∷ 4 ∷ []) ≡ false ∷ false ∷ false ∷ []
no_id_of_an_empty_range = refl

pub all_but_the_third : others_of 3 4 old ≡ directive 1 None 5 ∷ directive 2 None 20 ∷ directive 4 (behind 3) 7 ∷ []
all_but_the_third = refl

pub the_same_but_for_the_third : others_of 3 4 moved ≡ others_of 3 4 old
the_same_but_for_the_third = refl

-- a range that leaves out the third leaves the plans different
pub different_but_for_the_fourth : map (λ plan. map (λ one. one.start) (others_of 4 5 plan)) (old ∷ moved ∷ []) ≡ (5 ∷ 20 ∷ 30 ∷ []) ∷ (5 ∷ 20 ∷ 40 ∷ []) ∷ []
different_but_for_the_fourth = refl

-- ---- directives without an anchor

pub a_start_at_the_time : IsFreeAndLate 3 4 30 (directive 3 None 30)
a_start_at_the_time = record { free = refl; late = λ among. lit≤ tt }

pub no_start_before_it : IsFreeAndLate 3 4 31 (directive 3 None 30) → ⊥
no_start_before_it free = (let late = free.late refl in absurd (omega (arith, late)))

-- what is not of the range starts at any time
pub another_starts_at_any_time : IsFreeAndLate 3 4 30 (directive 1 None 5)
another_starts_at_any_time = record { free = refl; late = λ among. absurd (cc) }

pub none_with_an_anchor : IsFreeAndLate 3 4 30 (directive 4 (behind 3) 7) → ⊥
none_with_an_anchor free = (let clash = free.free in absurd (cc))

-- ---- plans without anchors

abbrev pub plain : List Directive
plain = directive 1 None 5 ∷ directive 2 None 20 ∷ directive 3 None 30 ∷ []

abbrev pub plainly_moved : List Directive
plainly_moved = directive 1 None 5 ∷ directive 2 None 20 ∷ directive 3 None 40 ∷ []

-- the third is due at 30 in the old plan, and at 40 in the new one: until 30 they go alike
pub until_the_moved_one : PartFrom 3 4 30 (plan_of plainly_moved) (plan_of plain)
until_the_moved_one = record {
  same = refl;
  late = (
    record { free = refl; late = λ e. absurd (cc) },
    (record { free = refl; late = λ e. absurd (cc) }, (record { free = refl; late = λ e. lit≤ tt }, tt)),
  );
  old_late = (
    record { free = refl; late = λ e. absurd (cc) },
    (record { free = refl; late = λ e. absurd (cc) }, (record { free = refl; late = λ e. lit≤ tt }, tt)),
  );
}

pub not_behind_thirty : PartFrom 3 4 31 (plan_of plainly_moved) (plan_of plain) → ⊥
not_behind_thirty part = (let late = part.old_late.1.1.0.late refl in absurd (omega (arith, late)))

-- one that the old plan lacks
pub until_an_added_one : PartFrom 4 5 60 (plan_of (plain ++ directive 4 None 60 ∷ [])) (plan_of plain)
until_an_added_one = record {
  same = refl;
  late = (
    record { free = refl; late = λ e. absurd (cc) },
    (
      record { free = refl; late = λ e. absurd (cc) },
      (record { free = refl; late = λ e. absurd (cc) }, (record { free = refl; late = λ e. lit≤ tt }, tt)),
    ),
  );
  old_late = (
    record { free = refl; late = λ e. absurd (cc) },
    (record { free = refl; late = λ e. absurd (cc) }, (record { free = refl; late = λ e. absurd (cc) }, tt)),
  );
}

-- no plan in which a directive has an anchor
pub not_with_an_anchor : PartFrom 3 4 30 (plan_of moved) (plan_of old) → ⊥
not_with_an_anchor part = (let clash = part.late.1.1.1.0.free in absurd (cc))

-- ---- directive by directive

pub past_the_third : SkipsTo 3 4 old 2 3
past_the_third = refl
