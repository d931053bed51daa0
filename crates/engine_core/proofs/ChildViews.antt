-- The view with the effects among items, as far as the items were passed, and the children that they make.
use Rattle.std.proofs.Common.{◌≡◌, ℕ, zero, suc, ◌+◌, ◌<◌, ◌≤◌, List, [], ◌∷◌, ◌++◌, length, get_or, take, drop, map, refl, sym, ap, ◌∙◌, subst, append_assoc, add-one, arith}
use Rattle.std.proofs.lemmas.List.{take-append-drop, at_drop_more, at_drop_all, append-nil}
use Rattle.std.proofs.Math.Seq.{take-suc}
use Rattle.aerie_base.specs.declared.models.model.Parts.{Parts}
use Rattle.aerie_base.specs.declared.values.Value.{Value}
use Rattle.effect_cells.specs.declared.effects.CellState.{CellState}
use Rattle.effect_cells.specs.declared.effects.Effect.{Effect}
use Rattle.effect_cells.specs.Cells.{emitted}
use Rattle.run_data.specs.declared.frames.Item.{Item}
use Rattle.run_data.specs.declared.frames.Item.TheVariants as item
use Rattle.run_data.specs.TaskFrames.{Frame}
use Rattle.run_data.specs.declared.jobs.Job.{Job}
use Rattle.run_data.specs.Frames.{child_job}
use Rattle.run_data.specs.laws.Generations.{child_jobs, deep_frame}
use Rattle.engine_core.specs.BatchDues.{fresh, deep_children}
use Rattle.run_data.specs.StepStates.{after_items}
use Rattle.engine_core.specs.BatchViews.{CanEmitAll}

-- ---- items one after another

pub seen_append : (view : List CellState) (first second : List Item) → after_items view (first ++ second) ≡ after_items (after_items view first) second
seen_append view [] second = refl
seen_append view (item.Emit cell effect ∷ rest) second = seen_append (emitted view cell effect) rest second
seen_append view (item.Child kind arguments ∷ rest) second = seen_append view rest second

can_split : (view : List CellState) (first second : List Item) → CanEmitAll view (first ++ second) → CanEmitAll view first × CanEmitAll (after_items view first) second
can_split view [] second can = (tt, can)
can_split view (item.Emit cell effect ∷ rest) second can =
    let parts = can_split (emitted view cell effect) rest second can.1 in ((can.0, parts.0), parts.1)
can_split view (item.Child kind arguments ∷ rest) second can =
    let parts = can_split view rest second can.1 in ((can.0, parts.0), parts.1)

-- ---- at a place

take_none : {A : Type 0} (count : ℕ) → take count (let none : List A = [] in none) ≡ []
take_none zero = refl
take_none (suc count) = refl

take_parts : {A : Type 0} (items : List A) (first more : ℕ) → take (first + more) items ≡ take first items ++ take more (drop first items)
take_parts items zero more = ap (λ n. take n items) (let e : 0 + more ≡ more = omega arith in e)
take_parts {A} [] (suc first) more = take_none {A = A} (suc first + more) ∙ sym (take_none {A = A} more)
take_parts {A} (one ∷ rest) (suc first) more =
    ap (λ n. take n (one ∷ rest)) (let e : suc first + more ≡ suc (first + more) = omega arith in e) ∙ ap (λ (l : List A). one ∷ l) (take_parts rest first more)

pub here : {A : Type 0} (items : List A) (at : ℕ) (one : A) → at < length items → one ≡ get_or items at one → drop at items ≡ one ∷ drop (at + 1) items
here {A} items at one within is = at_drop_more (λ (l : List A). l) items at one within ∙ ap (λ (x : A). x ∷ drop (at + 1) items) (sym is)

pub one_more : {A : Type 0} (items : List A) (at : ℕ) (one : A) → at < length items → one ≡ get_or items at one → take (at + 1) items ≡ take at items ++ one ∷ []
one_more {A} items at one within is =
    ap (λ n. take n items) (add-one at) ∙ take-suc items at one within ∙ ap (λ (x : A). take at items ++ x ∷ []) (sym is)

-- ---- along a step

module _ (view : List CellState) (items : List Item) where
  pub all_can : (at : ℕ) → CanEmitAll view items → CanEmitAll (after_items view (take at items)) (drop at items)
  all_can at can = (can_split view (take at items) (drop at items) (subst (CanEmitAll view) (sym (take-append-drop at items)) can)).1

  -- what is between two places can be emitted after what is before them, and then all before the second was
  pub between_can : (first more : ℕ) → CanEmitAll view items → CanEmitAll (after_items view (take first items)) (take more (drop first items))
  between_can first more can =
      (can_split (after_items view (take first items)) (take more (drop first items)) (drop more (drop first items))
      (subst (CanEmitAll (after_items view (take first items))) (sym (take-append-drop more (drop first items))) (all_can first can))).0

  pub between_seen : (first more : ℕ) → after_items (after_items view (take first items)) (take more (drop first items)) ≡ after_items view (take (first + more) items)
  between_seen first more =
      sym (seen_append view (take first items) (take more (drop first items))) ∙ ap (after_items view) (sym (take_parts items first more))

  -- a child is nothing to what those behind it see
  pub child_unseen : (at : ℕ) (one : Item) → at < length items → one ≡ get_or items at one → (kind : ℕ) (arguments : List Value) → one ≡ item.Child kind arguments →
      after_items view (take at items) ≡ after_items view (take (at + 1) items)
  child_unseen at one within is kind arguments e =
      sym (ap (after_items view) (one_more items at one within is ∙ ap (λ (x : Item). take at items ++ x ∷ []) e) ∙ seen_append view (take at items) (item.Child kind arguments ∷ []))

  module _ (model : Parts) (maker : List ℕ) (number at : ℕ) (one : Item) (within : at < length items) (is : one ≡ get_or items at one) where
    abbrev left : ℕ → List Job
    left next = child_jobs model maker next (after_items view (take (at + 1) items)) (drop (at + 1) items)

    -- an effect makes no child, and the children behind it see it
    past_effect : (cell : ℕ) (effect : Effect) → one ≡ item.Emit cell effect → child_jobs model maker number (after_items view (take at items)) (drop at items) ≡ left number
    past_effect cell effect e =
        ap (child_jobs model maker number (after_items view (take at items))) (here items at one within is ∙ ap (λ (x : Item). x ∷ drop (at + 1) items) e)
        ∙ ap (λ (seen : List CellState). child_jobs model maker number seen (drop (at + 1) items))
        (sym (ap (after_items view) (one_more items at one within is ∙ ap (λ (x : Item). take at items ++ x ∷ []) e) ∙ seen_append view (take at items) (item.Emit cell effect ∷ [])))

    -- a child is made, and the next has the next number
    past_child : (kind : ℕ) (arguments : List Value) → one ≡ item.Child kind arguments →
        child_jobs model maker number (after_items view (take at items)) (drop at items)
        ≡ child_job model maker number (after_items view (take at items)) kind arguments ∷ left (number + 1)
    past_child kind arguments e =
        ap (child_jobs model maker number (after_items view (take at items))) (here items at one within is ∙ ap (λ (x : Item). x ∷ drop (at + 1) items) e)
        ∙ ap (λ (seen : List CellState). child_job model maker number (after_items view (take at items)) kind arguments ∷ child_jobs model maker (number + 1) seen (drop (at + 1) items))
        (sym (ap (after_items view) (one_more items at one within is ∙ ap (λ (x : Item). take at items ++ x ∷ []) e) ∙ seen_append view (take at items) (item.Child kind arguments ∷ [])))

    pub effect_iteration : (all whole : List (ℕ × Job)) (cell : ℕ) (effect : Effect) → one ≡ item.Emit cell effect →
        all ++ fresh (child_jobs model maker number (after_items view (take at items)) (drop at items)) ≡ whole → all ++ fresh (left number) ≡ whole
    effect_iteration all whole cell effect e made = ap (λ (jobs : List Job). all ++ fresh jobs) (sym (past_effect cell effect e)) ∙ made

    pub child_iteration : (all more whole : List (ℕ × Job)) (seen : List CellState) (job : Job) (kind : ℕ) (arguments : List Value) → one ≡ item.Child kind arguments →
        seen ≡ after_items view (take at items) → job ≡ child_job model maker number seen kind arguments → more ≡ all ++ (0, job) ∷ [] →
        all ++ fresh (child_jobs model maker number (after_items view (take at items)) (drop at items)) ≡ whole → more ++ fresh (left (number + 1)) ≡ whole
    child_iteration all more whole seen job kind arguments e sees is_job put made =
        ap (λ (l : List (ℕ × Job)). l ++ fresh (left (number + 1))) put
        ∙ append_assoc all ((0, job) ∷ []) (fresh (left (number + 1)))
        ∙ ap (λ (x : Job). all ++ (0, x) ∷ fresh (left (number + 1))) (is_job ∙ ap (λ (v : List CellState). child_job model maker number v kind arguments) sees)
        ∙ ap (λ (jobs : List Job). all ++ fresh jobs) (sym (past_child kind arguments e)) ∙ made

-- ---- children that are too deep

module _ (model : Parts) (maker : List ℕ) where
  -- what they would see does not matter
  pub deep_any : (items : List Item) (number other : ℕ) (view seen : List CellState) →
      map (deep_frame maker) (child_jobs model maker number view items) ≡ map (deep_frame maker) (child_jobs model maker other seen items)
  deep_any [] number other view seen = refl
  deep_any (item.Emit cell effect ∷ rest) number other view seen = deep_any rest number other (emitted view cell effect) (emitted seen cell effect)
  deep_any (item.Child kind arguments ∷ rest) number other view seen =
      ap (λ (frames : List Frame). deep_frame maker (child_job model maker number view kind arguments) ∷ frames) (deep_any rest (number + 1) (other + 1) view seen)

  module _ (items : List Item) (at : ℕ) (one : Item) (within : at < length items) (is : one ≡ get_or items at one) where
    pub deep_effect : (deep whole : List Frame) (cell : ℕ) (effect : Effect) → one ≡ item.Emit cell effect →
        deep ++ deep_children model maker (drop at items) ≡ whole → deep ++ deep_children model maker (drop (at + 1) items) ≡ whole
    deep_effect deep whole cell effect e made =
        ap (λ (frames : List Frame). deep ++ frames)
        (deep_any (drop (at + 1) items) 0 0 [] (emitted [] cell effect)
        ∙ ap (deep_children model maker) (sym (here items at one within is ∙ ap (λ (x : Item). x ∷ drop (at + 1) items) e))) ∙ made

    pub deep_child : (deep more whole : List Frame) (frame : Frame) (kind : ℕ) (arguments : List Value) → one ≡ item.Child kind arguments →
        frame ≡ deep_frame maker (child_job model maker 0 [] kind arguments) → more ≡ deep ++ frame ∷ [] →
        deep ++ deep_children model maker (drop at items) ≡ whole → more ++ deep_children model maker (drop (at + 1) items) ≡ whole
    deep_child deep more whole frame kind arguments e is_frame put made =
        ap (λ (l : List Frame). l ++ deep_children model maker (drop (at + 1) items)) put
        ∙ append_assoc deep (frame ∷ []) (deep_children model maker (drop (at + 1) items))
        ∙ ap (λ (x : Frame). deep ++ x ∷ deep_children model maker (drop (at + 1) items)) is_frame
        ∙ ap (λ (l : List Frame). deep ++ deep_frame maker (child_job model maker 0 [] kind arguments) ∷ l) (deep_any (drop (at + 1) items) 0 1 [] [])
        ∙ ap (λ (l : List Item). deep ++ deep_children model maker l) (sym (here items at one within is ∙ ap (λ (x : Item). x ∷ drop (at + 1) items) e)) ∙ made

-- ---- jobs behind others

-- where nothing is left, the jobs so far are all
pub all_made : (model : Parts) (maker : List ℕ) (number at : ℕ) (seen : List CellState) (items : List Item) (all whole : List (ℕ × Job)) → length items ≤ at →
    all ++ fresh (child_jobs model maker number seen (drop at items)) ≡ whole → all ≡ whole
all_made model maker number at seen items all whole past is =
    sym (append-nil all) ∙ sym (ap (λ (l : List Item). all ++ fresh (child_jobs model maker number seen l)) (at_drop_all (λ (l : List Item). l) items at past)) ∙ is

pub all_deep : (model : Parts) (maker : List ℕ) (at : ℕ) (items : List Item) (deep whole : List Frame) → length items ≤ at →
    deep ++ deep_children model maker (drop at items) ≡ whole → deep ≡ whole
all_deep model maker at items deep whole past is =
    sym (append-nil deep) ∙ sym (ap (λ (l : List Item). deep ++ deep_children model maker l) (at_drop_all (λ (l : List Item). l) items at past)) ∙ is
