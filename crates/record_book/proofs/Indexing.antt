-- The index of a book: what its ways and steps say of one another, and that it stays an index.
use Rattle.std.proofs.Common.{◌≡◌, ℕ, zero, suc, ◌<◌, ◌≤◌, true, false, List, [], ◌∷◌, ◌++◌, length, take, Option, Some, None, IfNone, IfSome, Result, Ok, Err, OnOk, OnErr, slice_get, get_or, ◌⊎◌, inl, inr, refl, ap, sym, subst, ◌∙◌, arith, length-append}
use Rattle.std.specs.Option.{option_map}
use Rattle.std.specs.Hash.{HashWrites}
use Rattle.std.specs.List.{All, Contains}
use Rattle.std.proofs.lemmas.Bool.{cases_lt}
use Rattle.std.proofs.lemmas.List.{map-append, take-map}
use Rattle.std.proofs.lemmas.Option.{slice_get_within, slice_get-map, slice_get-get_or, get_or_from_slice_get}
use Rattle.effect_cells.specs.declared.effects.CellState.{CellState}
use Rattle.run_data.specs.declared.frames.Record.{Record}
use Rattle.run_data.specs.declared.tasks.TaskState.{TaskState}
use Rattle.run_data.specs.Records.{Agrees}
use Rattle.record_book.specs.KeyedItems.{keyed_item}
use Rattle.record_book.specs.StoredSteps.{FitsView, HasNoneTwice, has_record, with_record, IsPlaceOfRecord}
use Rattle.record_book.specs.Ways.{AreStepsOf, AreWays, FitsOn, IsIndex, cells_read, records_of, state_key, step_key, way_of}
use Rattle.record_book.specs.declared.stored_steps.StoredStep.{StoredStep}
use Rattle.record_book.specs.declared.ways.KnownWay.{KnownWay}
use Rattle.record_book.proofs.Chaining.{get_front, get_last}
use Rattle.record_book.proofs.Holding.{has_if, has_not, none_twice, none_twice_first, with_known, with_new}
use Rattle.record_book.proofs.Probing.{agreeing_are_within}
use Rattle.record_book.proofs.Walks.{item_keyed}

-- ---- items with one more

module _ {T : Type 0} where
  pub item_front : (items : List (ℕ × T)) (last : ℕ × T) (at : ℕ) → at < length items → keyed_item (items ++ last ∷ []) at ≡ keyed_item items at
  item_front items last at lt = ap (option_map (λ (item : ℕ × T). item.1)) (get_front items last at lt)

  pub item_last : (items : List (ℕ × T)) (last : ℕ × T) → keyed_item (items ++ last ∷ []) (length items) ≡ Some last.1
  item_last items last = ap (option_map (λ (item : ℕ × T). item.1)) (get_last items last)

  pub item_within : (items : List (ℕ × T)) (at : ℕ) (one : T) → keyed_item items at ≡ Some one → at < length items
  item_within items at one is = let keyed = item_keyed items at one is in slice_get_within items at (keyed.0, one) keyed.1

  -- an item of these and one more is one of these, or the last
  pub item_either : (items : List (ℕ × T)) (last : ℕ × T) (at : ℕ) (one : T) → keyed_item (items ++ last ∷ []) at ≡ Some one →
      (keyed_item items at ≡ Some one) ⊎ ((at ≡ length items) × (one ≡ last.1))
  item_either items last at one is = by (cases_lt at (length items))
    where
      by : (at < length items) ⊎ (length items ≤ at) → (keyed_item items at ≡ Some one) ⊎ ((at ≡ length items) × (one ≡ last.1))
      by (inl lt) = inl (sym (item_front items last at lt) ∙ is)
      by (inr ge) =
          let within : at < length (items ++ last ∷ []) = item_within (items ++ last ∷ []) at one is in
          let same : at ≡ length items = omega (arith, length-append items (last ∷ [])) in
          let e : Some one ≡ Some last.1 = sym is ∙ ap (keyed_item (items ++ last ∷ [])) same ∙ item_last items last in
          inr (same, cc)

  pub get_either : (items : List (ℕ × T)) (last : ℕ × T) (at : ℕ) (one : ℕ × T) → slice_get (items ++ last ∷ []) at ≡ Some one →
      (slice_get items at ≡ Some one) ⊎ ((at ≡ length items) × (one ≡ last))
  get_either items last at one is = by (cases_lt at (length items))
    where
      by : (at < length items) ⊎ (length items ≤ at) → (slice_get items at ≡ Some one) ⊎ ((at ≡ length items) × (one ≡ last))
      by (inl lt) = inl (sym (get_front items last at lt) ∙ is)
      by (inr ge) =
          let within : at < length (items ++ last ∷ []) = slice_get_within (items ++ last ∷ []) at one is in
          let same : at ≡ length items = omega (arith, length-append items (last ∷ [])) in
          let e : Some one ≡ Some last = sym is ∙ ap (slice_get (items ++ last ∷ [])) same ∙ get_last items last in
          inr (same, cc)

  -- an item of the first ones is one of all
  pub first_item : (n : ℕ) (items : List (ℕ × T)) (at : ℕ) (one : ℕ × T) → slice_get (take n items) at ≡ Some one → slice_get items at ≡ Some one
  first_item zero items at one is = absurd (cc)
  first_item (suc n) [] at one is = absurd (cc)
  first_item (suc n) (first ∷ rest) zero one is = is
  first_item (suc n) (first ∷ rest) (suc at) one is = first_item n rest at one is

  pub first_item_at : (n : ℕ) (items : List (ℕ × T)) (at : ℕ) (one : T) → keyed_item (take n items) at ≡ Some one → keyed_item items at ≡ Some one
  first_item_at n items at one is =
      let keyed = item_keyed (take n items) at one is in
      ap (option_map (λ (item : ℕ × T). item.1)) (first_item n items at (keyed.0, one) keyed.1)

-- what holds of an element that is there
pub if_there : {A : Type 0} (P Q : A → Type 0) (found : Option A) → ((one : A) → found ≡ Some one → P one → Q one) → IfSome found P → IfSome found Q
if_there P Q (Some one) gives has = gives one refl has
if_there P Q None gives has = tt

pub at_there : {A : Type 0} (P : A → Type 0) (found : Option A) (one : A) → found ≡ Some one → IfSome found P → P one
at_there {A} P found one is has = subst (λ (o : Option A). IfSome o P) is has

-- ---- records of steps

pub record_at : (steps : List (ℕ × StoredStep)) (at : ℕ) (stored : StoredStep) → keyed_item steps at ≡ Some stored → slice_get (records_of steps) at ≡ Some stored.step
record_at steps at stored is =
    let keyed = item_keyed steps at stored is in
    slice_get-map (λ (one : ℕ × StoredStep). one.1.step) steps at ∙ ap (option_map (λ (one : ℕ × StoredStep). one.1.step)) keyed.1

pub step_at : (steps : List (ℕ × StoredStep)) (at : ℕ) (of : Record) → slice_get (records_of steps) at ≡ Some of →
    (stored : StoredStep) × (keyed_item steps at ≡ Some stored) × (stored.step ≡ of)
step_at steps at of is = by (slice_get steps at) refl (sym (slice_get-map (λ (one : ℕ × StoredStep). one.1.step) steps at) ∙ is)
  where
    by : (found : Option (ℕ × StoredStep)) → slice_get steps at ≡ found → option_map (λ (one : ℕ × StoredStep). one.1.step) found ≡ Some of →
        (stored : StoredStep) × (keyed_item steps at ≡ Some stored) × (stored.step ≡ of)
    by (Some one) there e = (one.1, ap (option_map (λ (item : ℕ × StoredStep). item.1)) there, (let same : one.1.step ≡ of = cc in same))
    by None there e = absurd (cc)

pub records_pushed : (steps : List (ℕ × StoredStep)) (last : ℕ × StoredStep) → records_of (steps ++ last ∷ []) ≡ records_of steps ++ last.1.step ∷ []
records_pushed steps last = map-append (λ (one : ℕ × StoredStep). one.1.step) steps (last ∷ [])

pub records_first : (n : ℕ) (steps : List (ℕ × StoredStep)) → records_of (take n steps) ≡ take n (records_of steps)
records_first n steps = sym (take-map (λ (one : ℕ × StoredStep). one.1.step) n steps)

-- what is at a position is contained
pub contains_at : (records : List Record) (at : ℕ) (of : Record) → slice_get records at ≡ Some of → Contains records of
contains_at records at of there = (at, slice_get_within records at of there, get_or_from_slice_get records at of of there)

-- ---- ways

-- a pair is another one
abbrev IsPair : {T : Type 0} → ℕ × T → ℕ × T → Type 0
IsPair pair other = pair ≡ other

pub ways_pushed : (of_task : TaskState → HashWrites) (ways : List (ℕ × KnownWay)) (key : ℕ) (way : KnownWay) → AreWays of_task ways → key ≡ state_key of_task way.state →
    ((at : ℕ) → keyed_item ways at ≡ Some way → ⊥) → AreWays of_task (ways ++ (key, way) ∷ [])
ways_pushed of_task ways key way are is_key none = record { keyed = keyed; differ = differ }
  where
    keyed : (at other : ℕ) (one : KnownWay) → slice_get (ways ++ (key, way) ∷ []) at ≡ Some (other, one) → other ≡ state_key of_task one.state
    keyed at other one there = by (get_either ways (key, way) at (other, one) there)
      where
        by : (slice_get ways at ≡ Some (other, one)) ⊎ ((at ≡ length ways) × IsPair (other, one) (key, way)) → other ≡ state_key of_task one.state
        by (inl is) = are.keyed at other one is
        by (inr (last, same)) =
            ap (λ (p : ℕ × KnownWay). p.0) same ∙ is_key ∙ ap (λ (p : ℕ × KnownWay). state_key of_task p.1.state) (sym same)

    differ : (at other : ℕ) (one : KnownWay) → keyed_item (ways ++ (key, way) ∷ []) at ≡ Some one → keyed_item (ways ++ (key, way) ∷ []) other ≡ Some one → at ≡ other
    differ at other one there also = by (item_either ways (key, way) at one there) (item_either ways (key, way) other one also)
      where
        by : (keyed_item ways at ≡ Some one) ⊎ ((at ≡ length ways) × (one ≡ way)) → (keyed_item ways other ≡ Some one) ⊎ ((other ≡ length ways) × (one ≡ way)) → at ≡ other
        by (inl is) (inl is_also) = are.differ at other one is is_also
        by (inl is) (inr (last, same)) = absurd (none at (is ∙ ap Some same))
        by (inr (last, same)) (inl is_also) = absurd (none other (is_also ∙ ap Some same))
        by (inr (last, same)) (inr (last_also, same_also)) = last ∙ sym last_also

-- the key of a way
pub way_key : (of_task : TaskState → HashWrites) (ways : List (ℕ × KnownWay)) (at : ℕ) (way : KnownWay) → AreWays of_task ways → keyed_item ways at ≡ Some way →
    slice_get ways at ≡ Some (state_key of_task way.state, way)
way_key of_task ways at way are is =
    let keyed = item_keyed ways at way is in
    keyed.1 ∙ ap (λ key. Some (key, way)) (are.keyed at keyed.0 way keyed.1)

-- ---- steps and their ways

module _ (ways : List (ℕ × KnownWay)) (steps : List (ℕ × StoredStep)) (are : AreStepsOf ways steps) where
  -- the way of a step
  pub way_is : (way : ℕ) (taken : KnownWay) (at : ℕ) (stored : StoredStep) → keyed_item ways way ≡ Some taken → keyed_item steps at ≡ Some stored → stored.way ≡ way →
      way_of stored.step.before stored.step.reads ≡ taken
  way_is way taken at stored there is_there on =
      let e : Some (way_of stored.step.before stored.step.reads) ≡ Some taken = sym (are.taken at stored is_there) ∙ ap (keyed_item ways) on ∙ there in cc

  pub steps_pushed : (key : ℕ) (stored : StoredStep) → key ≡ step_key stored.way stored.step.reads →
      keyed_item ways stored.way ≡ Some (way_of stored.step.before stored.step.reads) → AreStepsOf ways (steps ++ (key, stored) ∷ [])
  steps_pushed key stored is_key on = record { keyed = keyed; taken = taken }
    where
      keyed : (at other : ℕ) (one : StoredStep) → slice_get (steps ++ (key, stored) ∷ []) at ≡ Some (other, one) → other ≡ step_key one.way one.step.reads
      keyed at other one there = by (get_either steps (key, stored) at (other, one) there)
        where
          by : (slice_get steps at ≡ Some (other, one)) ⊎ ((at ≡ length steps) × IsPair (other, one) (key, stored)) → other ≡ step_key one.way one.step.reads
          by (inl is) = are.keyed at other one is
          by (inr (last, same)) =
              ap (λ (p : ℕ × StoredStep). p.0) same ∙ is_key ∙ ap (λ (p : ℕ × StoredStep). step_key p.1.way p.1.step.reads) (sym same)

      taken : (at : ℕ) (one : StoredStep) → keyed_item (steps ++ (key, stored) ∷ []) at ≡ Some one → keyed_item ways one.way ≡ Some (way_of one.step.before one.step.reads)
      taken at one there = by (item_either steps (key, stored) at one there)
        where
          by : (keyed_item steps at ≡ Some one) ⊎ ((at ≡ length steps) × (one ≡ stored)) → keyed_item ways one.way ≡ Some (way_of one.step.before one.step.reads)
          by (inl is) = are.taken at one is
          by (inr (last, same)) = subst (λ (s : StoredStep). keyed_item ways s.way ≡ Some (way_of s.step.before s.step.reads)) (sym same) on

  pub steps_first : (n : ℕ) → AreStepsOf ways (take n steps)
  steps_first n = record {
    keyed = λ at key stored there. are.keyed at key stored (first_item n steps at (key, stored) there);
    taken = λ at stored there. are.taken at stored (first_item_at n steps at stored there);
  }

  -- with more ways
  pub steps_stay : (more : List (ℕ × KnownWay)) → ((at : ℕ) (way : KnownWay) → keyed_item ways at ≡ Some way → keyed_item more at ≡ Some way) → AreStepsOf more steps
  steps_stay more stay = record {
    keyed = are.keyed;
    taken = λ at stored there. stay stored.way (way_of stored.step.before stored.step.reads) (are.taken at stored there);
  }

-- ---- what is stored

module _ (of_task : TaskState → HashWrites) (ways : List (ℕ × KnownWay)) (steps : List (ℕ × StoredStep))
    (index : IsIndex of_task ways steps) (state : TaskState) (reads : List (ℕ × CellState)) where
  pub stored_where : (way at : ℕ) → keyed_item ways way ≡ Some (way_of state reads) → at < length steps →
      IfSome (keyed_item steps at) (λ stored. (stored.way ≡ way) × (reads ≡ stored.step.reads)) → true ≡ has_record (records_of steps) state reads
  stored_where way at on lt found = by (slice_get steps at) refl (λ none. slice_get-get_or_none none)
    where
      slice_get-get_or_none : slice_get steps at ≡ None → ⊥
      slice_get-get_or_none none = past steps at lt none
        where
          past : (items : List (ℕ × StoredStep)) (n : ℕ) → n < length items → slice_get items n ≡ None → ⊥
          past [] n lt none = omega arith
          past (first ∷ rest) zero lt none = absurd (cc)
          past (first ∷ rest) (suc n) lt none = past rest n (omega arith) none

      by : (entry : Option (ℕ × StoredStep)) → slice_get steps at ≡ entry → (entry ≡ None → ⊥) → true ≡ has_record (records_of steps) state reads
      by None there some = absurd (some refl)
      by (Some (key, stored)) there some =
          let is : keyed_item steps at ≡ Some stored = ap (option_map (λ (item : ℕ × StoredStep). item.1)) there in
          let has = at_there (λ (s : StoredStep). (s.way ≡ way) × (reads ≡ s.step.reads)) (keyed_item steps at) stored is found in
          let same : way_of stored.step.before stored.step.reads ≡ way_of state reads = way_is ways steps index.steps_ way (way_of state reads) at stored on is has.0 in
          sym (has_if (records_of steps) at stored.step state reads (record_at steps at stored is) (ap (λ (w : KnownWay). w.state) same) (sym has.1))

  pub not_stored : (way : ℕ) → keyed_item ways way ≡ Some (way_of state reads) →
      ((at : ℕ) (stored : StoredStep) → keyed_item steps at ≡ Some stored → stored.way ≡ way → reads ≡ stored.step.reads → ⊥) →
      false ≡ has_record (records_of steps) state reads
  not_stored way on none = sym (has_not (records_of steps) state reads not)
    where
      not : (at : ℕ) (of : Record) → slice_get (records_of steps) at ≡ Some of → of.before ≡ state → of.reads ≡ reads → ⊥
      not at of there before read =
          let found = step_at steps at of there in
          let stored_before : found.0.step.before ≡ state = ap (λ (r : Record). r.before) found.2 ∙ before in
          let stored_reads : found.0.step.reads ≡ reads = ap (λ (r : Record). r.reads) found.2 ∙ read in
          let is_way : keyed_item ways found.0.way ≡ Some (way_of state reads) = index.steps_.taken at found.0 found.1 ∙ (λ i. Some (way_of (stored_before i) (stored_reads i))) in
          none at found.0 found.1 (index.ways_.differ found.0.way way (way_of state reads) is_way on) (sym stored_reads)

  pub no_way : ((at : ℕ) → keyed_item ways at ≡ Some (way_of state reads) → ⊥) → false ≡ has_record (records_of steps) state reads
  no_way none = sym (has_not (records_of steps) state reads not)
    where
      not : (at : ℕ) (of : Record) → slice_get (records_of steps) at ≡ Some of → of.before ≡ state → of.reads ≡ reads → ⊥
      not at of there before read =
          let found = step_at steps at of there in
          let stored_before : found.0.step.before ≡ state = ap (λ (r : Record). r.before) found.2 ∙ before in
          let stored_reads : found.0.step.reads ≡ reads = ap (λ (r : Record). r.reads) found.2 ∙ read in
          none found.0.way (index.steps_.taken at found.0 found.1 ∙ (λ i. Some (way_of (stored_before i) (stored_reads i))))

-- ---- what a view fits

module _ (of_task : TaskState → HashWrites) (ways : List (ℕ × KnownWay)) (steps : List (ℕ × StoredStep))
    (index : IsIndex of_task ways steps) (state : TaskState) (view : List CellState) where
  module _ (way : ℕ) (taken : KnownWay) (there : keyed_item ways way ≡ Some taken) where
    pub on_way_has_cells : (at : ℕ) (stored : StoredStep) → keyed_item steps at ≡ Some stored → stored.way ≡ way → cells_read stored.step.reads ≡ taken.cells
    on_way_has_cells at stored is on = ap (λ (w : KnownWay). w.cells) (way_is ways steps index.steps_ way taken at stored there is on)

    pub on_way_fits : (at : ℕ) → taken.state ≡ state → IfSome (keyed_item steps at) (λ stored. (stored.way ≡ way) × Agrees view stored.step.reads) →
        IfSome (keyed_item steps at) (λ stored. FitsView state view stored.step)
    on_way_fits at same found =
        if_there (λ stored. (stored.way ≡ way) × Agrees view stored.step.reads) (λ stored. FitsView state view stored.step) (keyed_item steps at)
        (λ stored is has. record {
          before = ap (λ (w : KnownWay). w.state) (way_is ways steps index.steps_ way taken at stored there is has.0) ∙ same;
          reads = has.1;
        }) found

    pub other_state : (taken.state ≡ state → ⊥) → FitsOn steps state view way → ⊥
    other_state differ fits =
        differ (sym (ap (λ (w : KnownWay). w.state) (way_is ways steps index.steps_ way taken fits.at fits.stored there fits.there fits.is_on)) ∙ fits.fits.before)

    pub not_within : (All (λ cell. cell < length view) taken.cells → ⊥) → FitsOn steps state view way → ⊥
    not_within not fits =
        not (subst (All (λ cell. cell < length view)) (on_way_has_cells fits.at fits.stored fits.there fits.is_on)
        (agreeing_are_within view fits.stored.step.reads fits.fits.reads))

  -- what fits is on a way from the state
  pub none_fits : ((way : ℕ) (taken : KnownWay) → slice_get ways way ≡ Some (state_key of_task state, taken) → FitsOn steps state view way → ⊥) →
      (at : ℕ) (stored : StoredStep) → keyed_item steps at ≡ Some stored → FitsView state view stored.step → ⊥
  none_fits none at stored there fits =
      let on : keyed_item ways stored.way ≡ Some (way_of stored.step.before stored.step.reads) = index.steps_.taken at stored there in
      let keyed = way_key of_task ways stored.way (way_of stored.step.before stored.step.reads) index.ways_ on in
      none stored.way (way_of stored.step.before stored.step.reads)
      (keyed ∙ ap (λ s. Some (state_key of_task s, way_of stored.step.before stored.step.reads)) fits.before)
      (record { at = at; stored = stored; there = there; is_on = refl; fits = fits })

  pub none_of_records : ((at : ℕ) (stored : StoredStep) → keyed_item steps at ≡ Some stored → FitsView state view stored.step → ⊥) →
      All (λ of. FitsView state view of → ⊥) (records_of steps)
  none_of_records none at other lt fits =
      let found = step_at steps at (get_or (records_of steps) at other) (slice_get-get_or (records_of steps) at other lt) in
      none at found.0 found.1 (subst (FitsView state view) (sym found.2) fits)

-- ---- what none of them is

pub if_none : {A : Type 0} (P Q : Type 0) (found : Option A) → (P → Q) → IfNone found P → IfNone found Q
if_none P Q None gives has = gives has
if_none P Q (Some one) gives has = tt

pub none_on_way : (steps : List (ℕ × StoredStep)) (way key : ℕ) (cells : List ℕ) (Agreeing : List (ℕ × CellState) → Type 0) (found : Option ℕ) →
    ((at key : ℕ) (stored : StoredStep) → slice_get steps at ≡ Some (key, stored) → key ≡ step_key stored.way stored.step.reads) →
    ((at : ℕ) (stored : StoredStep) → keyed_item steps at ≡ Some stored → stored.way ≡ way → cells_read stored.step.reads ≡ cells) →
    ((reads : List (ℕ × CellState)) → cells_read reads ≡ cells → Agreeing reads → key ≡ step_key way reads) →
    IfNone found ((at : ℕ) (stored : StoredStep) → slice_get steps at ≡ Some (key, stored) → stored.way ≡ way → Agreeing stored.step.reads → ⊥) →
    IfNone found ((at : ℕ) (stored : StoredStep) → keyed_item steps at ≡ Some stored → stored.way ≡ way → Agreeing stored.step.reads → ⊥)
none_on_way steps way key cells Agreeing found keyed on_cells is_key =
    if_none ((at : ℕ) (stored : StoredStep) → slice_get steps at ≡ Some (key, stored) → stored.way ≡ way → Agreeing stored.step.reads → ⊥)
    ((at : ℕ) (stored : StoredStep) → keyed_item steps at ≡ Some stored → stored.way ≡ way → Agreeing stored.step.reads → ⊥) found
    (λ none at stored is on agrees. none at stored (there at stored is on agrees) on agrees)
  where
    there : (at : ℕ) (stored : StoredStep) → keyed_item steps at ≡ Some stored → stored.way ≡ way → Agreeing stored.step.reads → slice_get steps at ≡ Some (key, stored)
    there at stored is on agrees =
        let has = item_keyed steps at stored is in
        let same : has.0 ≡ key =
        keyed at has.0 stored has.1 ∙ ap (λ w. step_key w stored.step.reads) on
        ∙ sym (is_key stored.step.reads (on_cells at stored is on) agrees) in
        has.1 ∙ ap (λ k. Some (k, stored)) same

pub no_way_under : (of_task : TaskState → HashWrites) (ways : List (ℕ × KnownWay)) (way : KnownWay) (key : ℕ) (found : Option ℕ) → AreWays of_task ways → key ≡ state_key of_task way.state →
    IfNone found ((at : ℕ) → slice_get ways at ≡ Some (key, way) → ⊥) → IfNone found ((at : ℕ) → keyed_item ways at ≡ Some way → ⊥)
no_way_under of_task ways way key found are is_key =
    if_none ((at : ℕ) → slice_get ways at ≡ Some (key, way) → ⊥) ((at : ℕ) → keyed_item ways at ≡ Some way → ⊥) found
    (λ none at is. none at (way_key of_task ways at way are is ∙ ap (λ k. Some (k, way)) (sym is_key)))

pub none_under_fits : (of_task : TaskState → HashWrites) (ways : List (ℕ × KnownWay)) (steps : List (ℕ × StoredStep)) (index : IsIndex of_task ways steps)
    (state : TaskState) (view : List CellState) (key : ℕ) (found : Option ℕ) → key ≡ state_key of_task state →
    IfNone found ((way : ℕ) (taken : KnownWay) → slice_get ways way ≡ Some (key, taken) → FitsOn steps state view way → ⊥) →
    IfNone found ((at : ℕ) (stored : StoredStep) → keyed_item steps at ≡ Some stored → FitsView state view stored.step → ⊥)
none_under_fits of_task ways steps index state view key found is_key =
    if_none ((way : ℕ) (taken : KnownWay) → slice_get ways way ≡ Some (key, taken) → FitsOn steps state view way → ⊥)
    ((at : ℕ) (stored : StoredStep) → keyed_item steps at ≡ Some stored → FitsView state view stored.step → ⊥) found
    (λ none. none_fits of_task ways steps index state view
    (λ way taken there. none way taken (there ∙ ap (λ k. Some (k, taken)) (sym is_key))))

-- ---- an index stays one

-- with one more way
module _ (ways more : List (ℕ × KnownWay)) (key : ℕ) (way : KnownWay) (pushed : more ≡ ways ++ (key, way) ∷ []) where
  pub ways_more : (of_task : TaskState → HashWrites) (state : TaskState) → AreWays of_task ways → key ≡ state_key of_task state → state ≡ way.state → ((at : ℕ) → keyed_item ways at ≡ Some way → ⊥) → AreWays of_task more
  ways_more of_task state are is_key same none =
      subst (AreWays of_task) (sym pushed) (ways_pushed of_task ways key way are (is_key ∙ ap (state_key of_task) same) none)

  pub way_stays : (at : ℕ) (one : KnownWay) → keyed_item ways at ≡ Some one → keyed_item more at ≡ Some one
  way_stays at one is = ap (λ items. keyed_item items at) pushed ∙ item_front ways (key, way) at (item_within ways at one is) ∙ is

  pub way_is_there : (at : ℕ) → at ≡ length ways → keyed_item more at ≡ Some way
  way_is_there at last = ap (λ items. keyed_item items at) pushed ∙ ap (keyed_item (ways ++ (key, way) ∷ [])) last ∙ item_last ways (key, way)

-- with more ways
pub index_stays : (of_task : TaskState → HashWrites) (ways more : List (ℕ × KnownWay)) (steps : List (ℕ × StoredStep)) → IsIndex of_task ways steps → AreWays of_task more →
    ((at : ℕ) (way : KnownWay) → keyed_item ways at ≡ Some way → keyed_item more at ≡ Some way) → IsIndex of_task more steps
index_stays of_task ways more steps index are stay = record { ways_ = are; steps_ = steps_stay ways steps index.steps_ more stay }

-- with one more step
module _ (ways : List (ℕ × KnownWay)) (steps more : List (ℕ × StoredStep)) (key way : ℕ) (step : Record)
    (pushed : more ≡ steps ++ (key, record { step = step; way = way }) ∷ []) where
  pub index_more : (of_task : TaskState → HashWrites) → IsIndex of_task ways steps → key ≡ step_key way step.reads → keyed_item ways way ≡ Some (way_of step.before step.reads) → IsIndex of_task ways more
  index_more of_task index is_key on = record {
    ways_ = index.ways_;
    steps_ = subst (AreStepsOf ways) (sym pushed) (steps_pushed ways steps index.steps_ key (record { step = step; way = way }) is_key on);
  }

  pub records_more : false ≡ has_record (records_of steps) step.before step.reads → records_of more ≡ with_record (records_of steps) step
  records_more new =
      ap records_of pushed ∙ records_pushed steps (key, record { step = step; way = way }) ∙ sym (with_new (records_of steps) step (sym new))

pub records_same : (steps : List (ℕ × StoredStep)) (step : Record) → true ≡ has_record (records_of steps) step.before step.reads → records_of steps ≡ with_record (records_of steps) step
records_same steps step known = sym (with_known (records_of steps) step (sym known))

-- with the first steps alone
pub index_first : (of_task : TaskState → HashWrites) (ways : List (ℕ × KnownWay)) (steps first : List (ℕ × StoredStep)) (n : ℕ) → first ≡ take n steps →
    IsIndex of_task ways steps × HasNoneTwice (records_of steps) → IsIndex of_task ways first × HasNoneTwice (records_of first)
index_first of_task ways steps first n is (index, none) =
    subst (λ (made : List (ℕ × StoredStep)). IsIndex of_task ways made × HasNoneTwice (records_of made)) (sym is)
    (record { ways_ = index.ways_; steps_ = steps_first ways steps index.steps_ n }, subst HasNoneTwice (sym (records_first n steps)) (none_twice_first n (records_of steps) none))

-- none twice, with one more
pub none_twice_more : (records made : List Record) (step : Record) → made ≡ with_record records step → HasNoneTwice records → HasNoneTwice made
none_twice_more records made step is none = subst HasNoneTwice (sym is) (none_twice records (step ∷ []) none)

pub none_twice_same : (records made : List Record) → made ≡ records → HasNoneTwice records → HasNoneTwice made
none_twice_same records made is none = subst HasNoneTwice (sym is) none

pub none_of_all : (of_task : TaskState → HashWrites) (ways : List (ℕ × KnownWay)) (steps : List (ℕ × StoredStep)) (index : IsIndex of_task ways steps) (state : TaskState)
    (view : List CellState) (records : List Record) → records_of steps ≡ records →
    ((at : ℕ) (stored : StoredStep) → keyed_item steps at ≡ Some stored → FitsView state view stored.step → ⊥) → All (λ of. FitsView state view of → ⊥) records
none_of_all of_task ways steps index state view records is none =
    subst (All (λ of. FitsView state view of → ⊥)) is (none_of_records of_task ways steps index state view none)

pub none_twice_put : {A E : Type 0} (result : Result A E) (records made : List Record) (step : Record) → OnOk result (made ≡ with_record records step) → OnErr result (made ≡ records) →
    HasNoneTwice records → HasNoneTwice made
none_twice_put (Ok done) records made step stored same none = none_twice_more records made step stored none
none_twice_put (Err error) records made step stored same none = none_twice_same records made same none

-- the step that was pushed last stands at the place behind the others
last_there : (steps : List (ℕ × StoredStep)) (last : ℕ × StoredStep) → slice_get (records_of (steps ++ last ∷ [])) (length steps) ≡ Some last.1.step
last_there [] last = refl
last_there (first ∷ rest) last = last_there rest last

pub placed_last : (steps made : List (ℕ × StoredStep)) (key way : ℕ) (step of : Record) (at : ℕ) → made ≡ steps ++ (key, record { step = step; way = way }) ∷ [] →
    at ≡ length steps → step ≡ of → IsPlaceOfRecord (records_of made) of.before of.reads at
placed_last steps made key way step of at is behind same = record {
  of = step;
  there = (λ i. slice_get (records_of (is i)) (behind i)) ∙ last_there steps (key, record { step = step; way = way });
  before = ap (λ (r : Record). r.before) same;
  reads_ = ap (λ (r : Record). r.reads) same;
}
