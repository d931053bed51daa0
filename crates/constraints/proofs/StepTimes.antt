-- The times at which a value that stays from step to step passes a test.
use Rattle.std.proofs.Common.{◌≡◌, ℕ, ◌+◌, ◌<◌, ◌≤◌, Bool, true, false, cond, List, [], ◌∷◌, ◌++◌, length, drop, map, get_or, refl, sym, ap, ◌∙◌, arith, nat_le, if◌then◌else◌}
use Rattle.std.specs.Prelude.{pos, option_map, unwrap_or, Some}
use Rattle.std.proofs.lemmas.Grind.{common_steps}
use Rattle.aerie_base.specs.declared.values.Value.{Value}
use Rattle.aerie_base.specs.declared.values.Value.TheVariants as value
use Rattle.windows.specs.Begun.{StartsRise, last_begun}
use Rattle.windows.specs.Times.{Interval, contains}
use Rattle.constraints.specs.Steps.{Step, AreSteps, first_step, step_value, times_passing}
use Rattle.constraints.specs.Meeting.{times_if}
use Rattle.constraints.proofs.Merging.{append_none, cut_at, none_left}

none_earlier : (reach : ℕ) (test : Value → Bool) (steps : List Step) (last t : ℕ) → StartsRise last (map (λ step. step.0) steps) → t ≤ last → contains (times_passing reach test steps) t ≡ false
none_earlier reach test [] last t rise early = refl
none_earlier reach test (step ∷ rest) last t rise early = go (none_earlier reach test rest step.0 t rise.1 (omega (arith, rise.0, early))) (test step.1) refl
  where
    go : contains (times_passing reach test rest) t ≡ false → (b : Bool) → test step.1 ≡ b → contains (if b then (step.0, first_step reach rest) ∷ times_passing reach test rest else times_passing reach test rest) t ≡ false
    go later true e = let after : t < step.0 = omega (arith, rise.0, early) in grind (arith, common_steps)
    go later false e = later

-- at a time that is not before the first of them, a value passes exactly where its times have the time
passing_from : (reach : ℕ) (test : Value → Bool) (step : Step) (rest : List Step) (t : ℕ) → StartsRise step.0 (map (λ step. step.0) rest) → step.0 ≤ t → t < reach →
    contains (times_passing reach test (step ∷ rest)) t ≡ test (step_value (step ∷ rest) t)
passing_from reach test step [] t rise begun within = go (test step.1) refl
  where
    go : (b : Bool) → test step.1 ≡ b → contains (if b then (step.0, reach) ∷ [] else []) t ≡ test step.1
    go true e = grind (arith, common_steps)
    go false e = sym e
passing_from reach test step (next ∷ rest) t rise begun within = by_next (λ begun_next. passing_from reach test next rest t rise.1 begun_next within) (nat_le next.0 t) refl
  where
    by_next : (next.0 ≤ t → contains (times_passing reach test (next ∷ rest)) t ≡ test (step_value (next ∷ rest) t)) → (later : Bool) → nat_le next.0 t ≡ later → contains (times_passing reach test (step ∷ next ∷ rest)) t ≡ test (step_value (step ∷ next ∷ rest) t)
    by_next there true e =
        let begun_next : next.0 ≤ t = grind arith in
        let same : step_value (next ∷ rest) t ≡ step_value (step ∷ next ∷ rest) t =
        ap (λ b. unwrap_or (option_map (λ (s : Step). s.1) (cond b (last_begun (λ (s : Step). s.0) (next ∷ rest) t) (Some step))) (value.Int (pos 0))) (sym e) in
        skip (test step.1) ∙ there begun_next ∙ ap test same
      where
        skip : (b : Bool) → contains (if b then (step.0, next.0) ∷ times_passing reach test (next ∷ rest) else times_passing reach test (next ∷ rest)) t ≡ contains (times_passing reach test (next ∷ rest)) t
        skip true = grind (arith, common_steps)
        skip false = refl
    by_next there false e =
        let before : t < next.0 = grind arith in
        let same : step.1 ≡ step_value (step ∷ next ∷ rest) t =
        ap (λ b. unwrap_or (option_map (λ (s : Step). s.1) (cond b (last_begun (λ (s : Step). s.0) (next ∷ rest) t) (Some step))) (value.Int (pos 0))) (sym e) in
        go before (test step.1) refl ∙ ap test same
      where
        none : t < next.0 → contains (times_passing reach test (next ∷ rest)) t ≡ false
        none before = none_before before (test next.1) refl
          where
            none_before : t < next.0 → (b : Bool) → test next.1 ≡ b → contains (if b then (next.0, first_step reach rest) ∷ times_passing reach test rest else times_passing reach test rest) t ≡ false
            none_before before true e = let later = none_earlier reach test rest next.0 t rise.1 (omega (arith, before)) in grind (arith, common_steps)
            none_before before false e = none_earlier reach test rest next.0 t rise.1 (omega (arith, before))

        go : t < next.0 → (b : Bool) → test step.1 ≡ b → contains (if b then (step.0, next.0) ∷ times_passing reach test (next ∷ rest) else times_passing reach test (next ∷ rest)) t ≡ test step.1
        go before true e = grind (arith, common_steps)
        go before false e = none before ∙ sym e

pub passing : (reach : ℕ) (test : Value → Bool) (steps : List Step) (t : ℕ) → AreSteps reach steps → t < reach → contains (times_passing reach test steps) t ≡ test (step_value steps t)
passing reach test [] t are within = absurd (omega (arith, are.1 (omega (arith, within))))
passing reach test (step ∷ rest) t are within = passing_from reach test step rest t are.0.1 (omega (arith, are.0.0)) within

-- ---- the loop

append_again : (made more rest : List Interval) → (made ++ more) ++ rest ≡ made ++ (more ++ rest)
append_again [] more rest = refl
append_again (y ∷ made) more rest = ap (λ l. y ∷ l) (append_again made more rest)

-- the times so far and those of the rest are those of all
pub passing_more : (reach : ℕ) (test : Value → Bool) (steps : List Step) (i : ℕ) (step : Step) (made new : List Interval) (b : Bool) (end : ℕ) → i < length steps → step ≡ get_or steps i step → b ≡ test step.1 →
    end ≡ first_step reach (drop (i + 1) steps) → new ≡ made ++ times_if b (step.0, end) → made ++ times_passing reach test (drop i steps) ≡ times_passing reach test steps →
    new ++ times_passing reach test (drop (i + 1) steps) ≡ times_passing reach test steps
passing_more reach test steps i step made new b end within is tested end_is pushed before =
    ap (λ l. l ++ times_passing reach test (drop (i + 1) steps)) pushed
    ∙ append_again made (times_if b (step.0, end)) (times_passing reach test (drop (i + 1) steps))
    ∙ ap (λ l. made ++ l) (one b (step.0, end) ∙ (λ j. if tested j then (step.0, end_is j) ∷ times_passing reach test (drop (i + 1) steps) else times_passing reach test (drop (i + 1) steps)))
    ∙ ap (λ (l : List Step). made ++ times_passing reach test l) (sym (cut_at steps i step within is))
    ∙ before
  where
    one : (b : Bool) (x : Interval) → times_if b x ++ times_passing reach test (drop (i + 1) steps) ≡ (if b then x ∷ times_passing reach test (drop (i + 1) steps) else times_passing reach test (drop (i + 1) steps))
    one true x = refl
    one false x = refl

pub passing_none : (reach : ℕ) (test : Value → Bool) (steps : List Step) → [] ++ times_passing reach test steps ≡ times_passing reach test steps
passing_none reach test steps = refl

pub passing_all : (reach : ℕ) (test : Value → Bool) (steps : List Step) (i : ℕ) (made : List Interval) → length steps ≤ i → made ++ times_passing reach test (drop i steps) ≡ times_passing reach test steps →
    AreSteps reach steps → (t : ℕ) → t < reach → contains made t ≡ test (step_value steps t)
passing_all reach test steps i made past before are t within =
    ap (λ (l : List Interval). contains l t) (sym (append_none made) ∙ ap (λ (l : List Step). made ++ times_passing reach test l) (sym (none_left steps i past)) ∙ before)
    ∙ passing reach test steps t are within
