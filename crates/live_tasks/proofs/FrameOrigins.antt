-- The origins of frames in order of path.
use Rattle.std.proofs.Common.{◌≡◌, ◌≢◌, ◌⊎◌, inl, inr, ℕ, zero, suc, ◌+◌, ◌-◌, ◌<◌, ◌≤◌, nat_lt, Bool, true, false, IsTrue, List, [], ◌∷◌, ◌++◌, length, set, get_or, Option, Some, None, refl, sym, ap, ◌∙◌, subst, arith, slice_get}
use Rattle.std.proofs.lemmas.Bool.{false≢true}
use Rattle.std.proofs.lemmas.Bool.Decides.{nat_tests}
use Rattle.std.proofs.lemmas.List.{length-append, length-set, get_or-set_same, get_or-set_other}
use Rattle.std.specs.Cmp.Lexicographic.{nat_list_cmp_total}
use Rattle.std.proofs.lemmas.Cmp.{nat_cmp_total}
use Rattle.std.specs.Ordering.{is_lt, nat_cmp, ordering_then, ordering_reverse}
use Rattle.std.specs.declared.cmp.Ordering.{Ordering}
use Rattle.std.specs.declared.cmp.Ordering.TheVariants.{Less, Equal, Greater}
use Rattle.aerie_base.specs.Paths.{path_cmp, child_path, children_of, is_path}
use Rattle.run_data.specs.TableLaws.{path_itself}
use Rattle.run_data.specs.TaskFrames.{Frame}
use Rattle.run_data.specs.Tasks.{Task, task_at}
use Rattle.run_data.specs.laws.BatchFrames.{Among, HasPath, Differ, OfReady, OfChild, AreFramesOf}
use Rattle.run_data.specs.laws.OrderedTables.{IsOrderedTable}
use Rattle.run_data.specs.laws.Orders.{EachOf}
use Rattle.run_data.specs.laws.ReadyTasks.{is_ready_phase}
use Rattle.live_tasks.specs.declared.origins.Origin.{Origin}
use Rattle.live_tasks.specs.declared.slots.Slot.{Slot}
use Rattle.live_tasks.specs.BatchOrigins.{is_slot_below, HasSlotPath, AreBelow, depth_of, child_origin, IsFoundOrigin, of_ready, of_child}
use Rattle.live_tasks.specs.Endings.{IsNumberAmong, AreLive, IsOrigin, AreOrigins}
use Rattle.live_tasks.specs.FrameOrders.{is_before, AreByPath}
use Rattle.live_tasks.specs.Readies.{slot_entry, entries_at, AreReadyNumbers}
use Rattle.live_tasks.specs.Slots.{Slots, slot_at, HasSlot, table_of}
use Rattle.live_tasks.proofs.Forests.{same_or_not}
use Rattle.live_tasks.proofs.OrderedReadies.{less_is, above_at}
use Rattle.live_tasks.proofs.Orders.{LastOr, earlier_, last, last_or}
use Rattle.live_tasks.proofs.ReadyTasks.{in_at}
use Rattle.live_tasks.proofs.SortedReadies.{strictly}

-- ---- two numbers

data Compared (m n : ℕ) : Type 0 where
  lower : m < n → Compared m n
  same_as : m ≡ n → Compared m n
  higher : n < m → Compared m n

compared : (m n : ℕ) → Compared m n
compared m n = by (same_or_not m n)
  where
    by : (m ≡ n) ⊎ (m ≢ n) → Compared m n
    by (inl e) = same_as e
    by (inr apart) = side (nat_lt m n) refl
      where
        side : (b : Bool) → nat_lt m n ≡ b → Compared m n
        side true e = lower (grind (arith, nat_tests))
        side false e = higher (grind (arith, nat_tests))

lower_or : (m n : ℕ) → (m < n) ⊎ (n ≤ m)
lower_or m n = by (nat_lt m n) refl
  where
    by : (b : Bool) → nat_lt m n ≡ b → (m < n) ⊎ (n ≤ m)
    by true e = inl (grind (arith, nat_tests))
    by false e = inr (grind (arith, nat_tests))

-- ---- frames in order

each_at : {A : Type 0} (P : A → Type 0) (items : List A) (place : ℕ) (item : A) → EachOf P items → slice_get items place ≡ Some item → P item
each_at P [] place item each at = absurd (cc)
each_at P (first ∷ rest) zero item each at = let k : first ≡ item = cc in subst P k each.0
each_at P (first ∷ rest) (suc place) item each at = each_at P rest place item each.1 at

has_at : (frames : List Frame) (place : ℕ) (frame : Frame) → slice_get frames place ≡ Some frame → HasPath frame.path frames
has_at [] place frame at = absurd (cc)
has_at (first ∷ rest) zero frame at = let k : first ≡ frame = cc in inl (ap (λ (f : Frame). f.path) k)
has_at (first ∷ rest) (suc place) frame at = inr (has_at rest place frame at)

at_has : (frames : List Frame) (one : Frame) → Among one frames → (place : ℕ) × (slice_get frames place ≡ Some one)
at_has [] one never = absurd never
at_has (first ∷ rest) one (inl e) = (0, ap Some e)
at_has (first ∷ rest) one (inr among) = let found = at_has rest one among in (suc found.0, found.1)

-- of two frames the one before comes first
pub rises : (frames : List Frame) → AreByPath frames → Differ frames → (place later : ℕ) (frame other : Frame) → place < later → slice_get frames place ≡ Some frame → slice_get frames later ≡ Some other →
    path_cmp frame.path other.path ≡ Less
rises [] order differ place later frame other less at again = absurd (cc)
rises (first ∷ rest) order differ place zero frame other less at again = absurd (omega (arith, less))
rises (first ∷ rest) order differ zero (suc later) frame other less at again =
    let k : first ≡ frame = cc in
    let apart : first.path ≡ other.path → ⊥ = λ e. differ.0 (subst (λ p. HasPath p rest) (sym e) (has_at rest later other again)) in
    ap (λ (f : Frame). path_cmp f.path other.path) (sym k) ∙ strictly first.path other.path (each_at (λ one. is_before one first ≡ false) rest later other order.0 again) apart
rises (first ∷ rest) order differ (suc place) (suc later) frame other less at again = rises rest order.1 differ.1 place later frame other (omega (arith, less)) at again

less_through : (p q r : List ℕ) → path_cmp p q ≡ Less → path_cmp q r ≡ Less → path_cmp p r ≡ Less
less_through p q r first second = nat_list_cmp_total.trans p q r first second

not_less_itself : (path : List ℕ) → path_cmp path path ≡ Less → ⊥
not_less_itself path e = let f : ◌≡◌ {A = Ordering} Less Equal = sym e ∙ path_itself path in cc

-- ---- what stands between a path and a child of it is longer than the path

empty_not_above : (path : List ℕ) → path_cmp path [] ≡ Less → ⊥
empty_not_above [] e = cc
empty_not_above (first ∷ rest) e = cc

pub longer_between : (path between : List ℕ) (number : ℕ) → path_cmp path between ≡ Less → path_cmp between (child_path path number) ≡ Less → length path < length between
longer_between [] [] number above below = absurd (not_less_itself [] above)
longer_between [] (first ∷ rest) number above below = omega arith
longer_between (first ∷ path) [] number above below = absurd (empty_not_above (first ∷ path) above)
longer_between (first ∷ path) (other ∷ between) number above below = by (nat_cmp first other) refl (λ a b. longer_between path between number a b)
  where
    by : (order : Ordering) → nat_cmp first other ≡ order → (path_cmp path between ≡ Less → path_cmp between (child_path path number) ≡ Less → length path < length between) →
        length (first ∷ path) < length (other ∷ between)
    by Less e further =
        let f : nat_cmp other first ≡ Greater = nat_cmp_total.antisymm other first ∙ ap ordering_reverse e in
        let g : ◌≡◌ {A = Ordering} Greater Less = sym (ap (λ r. ordering_then r (path_cmp between (child_path path number))) f) ∙ below in
        absurd (cc)
    by Equal e further =
        let f : nat_cmp other first ≡ Equal = nat_cmp_total.antisymm other first ∙ ap ordering_reverse e in
        let a : path_cmp path between ≡ Less = sym (ap (λ r. ordering_then r (path_cmp path between)) e) ∙ above in
        let b : path_cmp between (child_path path number) ≡ Less = sym (ap (λ r. ordering_then r (path_cmp between (child_path path number))) f) ∙ below in
        let more = further a b in
        omega (arith, more)
    by Greater e further =
        let g : ◌≡◌ {A = Ordering} Greater Less = sym (ap (λ r. ordering_then r (path_cmp path between)) e) ∙ above in
        absurd (cc)

-- a child comes behind its parent
pub child_above : (path : List ℕ) (number : ℕ) → path_cmp path (child_path path number) ≡ Less
child_above [] number = refl
child_above (first ∷ path) number =
    ap (λ r. ordering_then r (path_cmp path (child_path path number))) (same_head first) ∙ child_above path number
  where
    same_head : (n : ℕ) → nat_cmp n n ≡ Equal
    same_head n = grind (arith, nat_tests)

pub not_both : (p q : List ℕ) → path_cmp p q ≡ Less → path_cmp q p ≡ Less → ⊥
not_both p q first second = not_less_itself p (less_through p q p first second)

-- ---- how deep paths are

pub long_is : (path : List ℕ) → IsTrue (is_path path) → length path ≡ depth_of path + 2
long_is [] is = absurd (false≢true is)
long_is (kind ∷ []) is = absurd (false≢true is)
long_is (kind ∷ id ∷ children) is = omega arith

pub shallow : (path : List ℕ) → IsTrue (is_path path) → depth_of path ≤ 64
shallow [] is = absurd (false≢true is)
shallow (kind ∷ []) is = absurd (false≢true is)
shallow (kind ∷ id ∷ children) is = grind (arith, nat_tests)

pub child_depth : (path : List ℕ) (number : ℕ) → IsTrue (is_path path) → depth_of (child_path path number) ≡ depth_of path + 1
child_depth [] number is = absurd (false≢true is)
child_depth (kind ∷ []) number is = absurd (false≢true is)
child_depth (kind ∷ id ∷ children) number is = length-append children (number ∷ [])

last_is : (numbers : List ℕ) (number : ℕ) → get_or (numbers ++ number ∷ []) (length numbers) 0 ≡ number
last_is [] number = refl
last_is (first ∷ rest) number = last_is rest number

pub child_last : (path : List ℕ) (number : ℕ) → IsTrue (is_path path) → get_or (children_of (child_path path number)) (depth_of path) 0 ≡ number
child_last [] number is = absurd (false≢true is)
child_last (kind ∷ []) number is = absurd (false≢true is)
child_last (kind ∷ id ∷ children) number is = last_is children number

-- ---- numbers in order

pub past_end : (numbers : List ℕ) (place number : ℕ) → length numbers ≤ place → slice_get numbers place ≡ Some number → ⊥
past_end [] place number most at = cc
past_end (first ∷ rest) zero number most at = omega (arith, most)
past_end (first ∷ rest) (suc place) number most at = past_end rest place number (omega (arith, most)) at

pub one_there : (numbers : List ℕ) (place number other : ℕ) → slice_get numbers place ≡ Some number → slice_get numbers place ≡ Some other → number ≡ other
one_there numbers place number other at again = let e : Some number ≡ Some other = sym at ∙ again in cc

among_at : (numbers : List ℕ) (place number : ℕ) → slice_get numbers place ≡ Some number → IsNumberAmong number numbers
among_at [] place number at = absurd (cc)
among_at (first ∷ rest) zero number at = inl (let k : first ≡ number = cc in sym k)
among_at (first ∷ rest) (suc place) number at = inr (among_at rest place number at)

at_among : (numbers : List ℕ) (number : ℕ) → IsNumberAmong number numbers → (place : ℕ) × (slice_get numbers place ≡ Some number)
at_among [] number never = absurd never
at_among (first ∷ rest) number (inl e) = (0, ap Some (sym e))
at_among (first ∷ rest) number (inr among) = let found = at_among rest number among in (suc found.0, found.1)

there_before : (numbers : List ℕ) (place later number : ℕ) → place < later → slice_get numbers later ≡ Some number → (other : ℕ) × (slice_get numbers place ≡ Some other)
there_before [] place later number less at = absurd (cc)
there_before (first ∷ rest) zero later number less at = (first, refl)
there_before (first ∷ rest) (suc place) zero number less at = absurd (omega (arith, less))
there_before (first ∷ rest) (suc place) (suc later) number less at = there_before rest place later number (omega (arith, less)) at

module _ (slots : Slots) where
  ready_rise : (numbers : List ℕ) → IsOrderedTable (entries_at slots numbers) → (place later number other : ℕ) (slot second : Slot) → place < later →
      slice_get numbers place ≡ Some number → slice_get numbers later ≡ Some other → slot_at slots number ≡ Some slot → slot_at slots other ≡ Some second → path_cmp slot.path second.path ≡ Less
  ready_rise [] order place later number other slot second less at again there after = absurd (cc)
  ready_rise (first ∷ rest) order place zero number other slot second less at again there after = absurd (omega (arith, less))
  ready_rise (first ∷ rest) order zero (suc later) number other slot second less at again there after =
      let k : first ≡ number = cc in
      let head : IsOrderedTable (slot_entry (Some slot) (entries_at slots rest)) = subst (λ o. IsOrderedTable (slot_entry o (entries_at slots rest))) (ap (slot_at slots) k ∙ there) order in
      let found = in_at slots rest other second (among_at rest later other again) after in
      above_at slots slot.path (entries_at slots rest) found.0 second.path second.task head.0 found.1
  ready_rise (first ∷ rest) order (suc place) (suc later) number other slot second less at again there after =
      ready_rise rest (tail (slot_at slots first) order) place later number other slot second (omega (arith, less)) at again there after
    where
      tail : (found : Option Slot) → IsOrderedTable (slot_entry found (entries_at slots rest)) → IsOrderedTable (entries_at slots rest)
      tail None h = h
      tail (Some one) h = h.1

  below_is : (path : List ℕ) (number : ℕ) (slot : Slot) → slot_at slots number ≡ Some slot → is_slot_below path (slot_at slots number) ≡ true → path_cmp slot.path path ≡ Less
  below_is path number slot there below = less_is (path_cmp slot.path path) (ap (is_slot_below path) (sym there) ∙ below)

  below_through : (path later : List ℕ) (number : ℕ) → is_slot_below path (slot_at slots number) ≡ true → path_cmp path later ≡ Less → is_slot_below later (slot_at slots number) ≡ true
  below_through path later number below less = by (slot_at slots number) below
    where
      by : (found : Option Slot) → is_slot_below path found ≡ true → is_slot_below later found ≡ true
      by None e = e
      by (Some slot) e = ap is_lt (less_through slot.path path later (less_is (path_cmp slot.path path) e) less)

-- ---- along the frames

-- the place that is kept for a depth is that of the last frame of this depth, which stands at a place or behind it
pub record LastOf (frames : List Frame) (place at last depth : ℕ) : Type 0 where
  pub from : at ≤ last
  pub before : last < place
  pub made : Frame
  pub there : slice_get frames last ≡ Some made
  pub deep : depth_of made.path ≡ depth

-- the origins of the frames up to a place are found; the ready tasks up to a next one come before all that are left
pub record HasFound (slots : Slots) (readies : List ℕ) (frames : List Frame) (place next : ℕ) (makers : List ℕ) (origins : List Origin) : Type 0 where
  pub long : length origins ≡ place
  pub each : (at : ℕ) (frame : Frame) (origin : Origin) → slice_get frames at ≡ Some frame → slice_get origins at ≡ Some origin → IsOrigin slots frames at frame origin
  pub within : next ≤ length readies
  pub passed : (k number at : ℕ) (frame : Frame) → k < next → slice_get readies k ≡ Some number → place ≤ at → slice_get frames at ≡ Some frame → is_slot_below frame.path (slot_at slots number) ≡ true
  pub depths : length makers ≡ 65
  pub paths : (at : ℕ) (frame : Frame) → at < place → slice_get frames at ≡ Some frame → IsTrue (is_path frame.path)
  pub lasts : (at : ℕ) (frame : Frame) → at < place → slice_get frames at ≡ Some frame → LastOf frames place at (get_or makers (depth_of frame.path) 0) (depth_of frame.path)

module _ (slots : Slots) (readies : List ℕ) (frames : List Frame) (live : AreLive (table_of slots) slots) (ready : AreReadyNumbers slots readies) (order : AreByPath frames)
    (are : AreFramesOf (table_of slots) frames) where
  pub none_found : (makers : List ℕ) → length makers ≡ 65 → HasFound slots readies frames 0 0 makers []
  none_found makers long = record {
    long = refl;
    each = λ at frame origin e f. absurd (cc);
    within = omega arith;
    passed = λ k number at frame less e most f. absurd (omega (arith, less));
    depths = long;
    paths = λ at frame less e. absurd (omega (arith, less));
    lasts = λ at frame less e. absurd (omega (arith, less));
  }

  module _ (place next : ℕ) (makers : List ℕ) (origins : List Origin) (has : HasFound slots readies frames place next makers origins) (frame : Frame) (here : slice_get frames place ≡ Some frame)
      (is : IsTrue (is_path frame.path)) (after : ℕ) (later : next ≤ after) (within : after ≤ length readies) (below : AreBelow slots frame.path readies next after)
      (first : (number : ℕ) → slice_get readies after ≡ Some number → is_slot_below frame.path (slot_at slots number) ≡ false) (origin : Origin)
      (found : IsFoundOrigin slots readies after frame.path makers origin) where
    -- ---- ready tasks

    passed_here : (k number : ℕ) → k < after → slice_get readies k ≡ Some number → is_slot_below frame.path (slot_at slots number) ≡ true
    passed_here k number less at = by (lower_or k next)
      where
        by : (k < next) ⊎ (next ≤ k) → is_slot_below frame.path (slot_at slots number) ≡ true
        by (inl old) = has.passed k number place frame old at (omega arith) here
        by (inr new) = below k number new less at

    passed_next : (k number at : ℕ) (one : Frame) → k < after → slice_get readies k ≡ Some number → place + 1 ≤ at → slice_get frames at ≡ Some one → is_slot_below one.path (slot_at slots number) ≡ true
    passed_next k number at one less there most e =
        below_through slots frame.path one.path number (passed_here k number less there) (rises frames order are.differ place at frame one (omega (arith, most)) here e)

    -- a ready task is the next one
    not_ready : ((number : ℕ) → slice_get readies after ≡ Some number → HasSlotPath frame.path (slot_at slots number) → ⊥) → OfReady (table_of slots) frame → ⊥
    not_ready none of = by (at_among readies has_.number among)
      where
        has_ : HasSlot slots frame.path
        has_ = live.are.each frame.path of.task of.there

        same : Some has_.slot.task ≡ Some of.task
        same = sym (live.are.tasks has_.number has_.slot has_.there) ∙ ap (task_at (table_of slots)) has_.is ∙ of.there

        its : has_.slot.task ≡ of.task
        its = let k : Some has_.slot.task ≡ Some of.task = same in cc

        among : IsNumberAmong has_.number readies
        among = ready.all has_.number has_.slot has_.there (ap (λ (t : Task). is_ready_phase t.phase) its ∙ ap is_ready_phase of.phase)

        by : (k : ℕ) × (slice_get readies k ≡ Some has_.number) → ⊥
        by at = go (compared at.0 after)
          where
            go : Compared at.0 after → ⊥
            go (lower less) =
                not_less_itself frame.path
                (ap (λ p. path_cmp p frame.path) (sym has_.is) ∙ below_is slots frame.path has_.number has_.slot has_.there (passed_here at.0 has_.number less at.1))
            go (same_as e) = none has_.number (ap (slice_get readies) (sym e) ∙ at.1) (subst (HasSlotPath frame.path) (sym has_.there) has_.is)
            go (higher less) =
                let other = there_before readies after at.0 has_.number less at.1 in
                let one = ready.each other.0 (among_at readies after other.0 other.1) in
                let k : path_cmp one.0.path has_.slot.path ≡ Less = ready_rise slots readies ready.sorted after at.0 other.0 has_.number one.0 has_.slot less other.1 at.1 one.1 has_.there in
                let l : is_slot_below frame.path (slot_at slots other.0) ≡ true = ap (is_slot_below frame.path) one.1 ∙ ap is_lt (ap (path_cmp one.0.path) (sym has_.is) ∙ k) in
                false≢true (sym (first other.0 other.1) ∙ l)

    -- ---- children

    module _ (of : OfChild (table_of slots) frames frame) where
      abbrev maker : Frame
      maker = of.maker

      own_is : (own : ℕ) × (frame.path ≡ child_path maker.path own)
      own_is = (_, of.is)

      maker_less : path_cmp maker.path frame.path ≡ Less
      maker_less = subst (λ p. path_cmp maker.path p ≡ Less) (sym own_is.1) (child_above maker.path own_is.0)

      maker_place : (at : ℕ) × (slice_get frames at ≡ Some maker) × (at < place)
      maker_place = (at.0, at.1, before)
        where
          at : (place : ℕ) × (slice_get frames place ≡ Some maker)
          at = at_has frames maker of.among

          before : at.0 < place
          before = by (same_or_not at.0 place)
            where
              by : (at.0 ≡ place) ⊎ (at.0 ≢ place) → at.0 < place
              by (inl e) =
                  let f : Some maker ≡ Some frame = sym at.1 ∙ ap (slice_get frames) e ∙ here in
                  let g : maker ≡ frame = cc in
                  absurd (not_less_itself frame.path (ap (λ (m : Frame). path_cmp m.path frame.path) (sym g) ∙ maker_less))
              by (inr apart) = side (nat_lt at.0 place) refl
                where
                  side : (b : Bool) → nat_lt at.0 place ≡ b → at.0 < place
                  side true e = let m = at.0 in grind (arith, nat_tests)
                  side false e =
                      let m = at.0 in
                      let less : place < m = grind (arith, nat_tests) in
                      absurd (not_both maker.path frame.path maker_less (rises frames order are.differ place at.0 frame maker less here at.1))

      maker_is : IsTrue (is_path maker.path)
      maker_is = has.paths maker_place.0 maker maker_place.2 maker_place.1

      depth_is : depth_of frame.path ≡ depth_of maker.path + 1
      depth_is = ap depth_of own_is.1 ∙ child_depth maker.path own_is.0 maker_is

      latest : LastOf frames place maker_place.0 (get_or makers (depth_of maker.path) 0) (depth_of maker.path)
      latest = has.lasts maker_place.0 maker maker_place.2 maker_place.1

      latest_maker : latest.made.path ≡ maker.path
      latest_maker = by (same_or_not maker_place.0 (get_or makers (depth_of maker.path) 0))
        where
          by : (maker_place.0 ≡ get_or makers (depth_of maker.path) 0) ⊎ (maker_place.0 ≢ get_or makers (depth_of maker.path) 0) → latest.made.path ≡ maker.path
          by (inl e) =
              let f : Some latest.made ≡ Some maker = sym latest.there ∙ ap (slice_get frames) (sym e) ∙ maker_place.1 in
              let g : latest.made ≡ maker = cc in
              ap (λ (m : Frame). m.path) g
          by (inr apart) =
              let m = maker_place.0 in
              let n = get_or makers (depth_of maker.path) 0 in
              let a = latest.from in
              let less : m < n = grind (arith, nat_tests) in
              let above = rises frames order are.differ m n maker latest.made less maker_place.1 latest.there in
              let under = rises frames order are.differ n place latest.made frame latest.before latest.there here in
              let longer = longer_between maker.path latest.made.path own_is.0 above (subst (λ p. path_cmp latest.made.path p ≡ Less) own_is.1 under) in
              let one = long_is maker.path maker_is in
              let two = long_is latest.made.path (has.paths n latest.made latest.before latest.there) in
              let deep = latest.deep in
              absurd (omega (arith, longer, one, two, deep))

      index_is : depth_of frame.path - 1 ≡ depth_of maker.path
      index_is = let e = depth_is in omega (arith, e)

      own_read : get_or (children_of frame.path) (depth_of frame.path - 1) 0 ≡ own_is.0
      own_read = ap (λ n. get_or (children_of frame.path) n 0) index_is ∙ ap (λ p. get_or (children_of p) (depth_of maker.path) 0) own_is.1 ∙ child_last maker.path own_is.0 maker_is

      pub child_is_found : IsOrigin slots frames place frame (child_origin frame.path makers)
      child_is_found =
          let n : get_or makers (depth_of frame.path - 1) 0 ≡ get_or makers (depth_of maker.path) 0 = ap (λ n. get_or makers n 0) index_is in (
            subst (λ m. m < place) (sym n) latest.before,
            latest.made,
            ap (slice_get frames) n ∙ latest.there,
            own_is.1 ∙ (λ i. child_path (sym latest_maker i) (sym own_read i)),
            of.fresh,
          )

    origin_is : IsOrigin slots frames place frame origin
    origin_is = by found
      where
        by : IsFoundOrigin slots readies after frame.path makers origin → IsOrigin slots frames place frame origin
        by (of_ready number at its e) =
            let one = ready.each number (among_at readies after number at) in
            subst (IsOrigin slots frames place frame) (sym e) (one.0, one.1, subst (HasSlotPath frame.path) one.1 its, one.2)
        by (of_child none e) = subst (IsOrigin slots frames place frame) (sym e) (go (each_at (λ one. OfReady (table_of slots) one ⊎ OfChild (table_of slots) frames one) frames place frame are.origin here))
          where
            go : OfReady (table_of slots) frame ⊎ OfChild (table_of slots) frames frame → IsOrigin slots frames place frame (child_origin frame.path makers)
            go (inl of) = absurd (not_ready none of)
            go (inr of) = child_is_found of

    -- ---- one frame more

    before_or_here : (at : ℕ) → at < place + 1 → (at < place) ⊎ (at ≡ place)
    before_or_here at less = by (same_or_not at place)
      where
        by : (at ≡ place) ⊎ (at ≢ place) → (at < place) ⊎ (at ≡ place)
        by (inl e) = inr e
        by (inr apart) = inl (grind (arith, nat_tests))

    frame_here : (at : ℕ) (one : Frame) → at ≡ place → slice_get frames at ≡ Some one → frame ≡ one
    frame_here at one e there = let f : Some frame ≡ Some one = sym here ∙ ap (slice_get frames) (sym e) ∙ there in cc

    abbrev makers_next : List ℕ
    makers_next = set makers (depth_of frame.path) place

    inside : depth_of frame.path < length makers
    inside = let long = has.depths in let low = shallow frame.path is in omega (arith, long, low)

    last_here : get_or makers_next (depth_of frame.path) 0 ≡ place
    last_here = get_or-set_same makers (depth_of frame.path) place 0 inside

    lasts_next : (at : ℕ) (one : Frame) → at < place + 1 → slice_get frames at ≡ Some one → LastOf frames (place + 1) at (get_or makers_next (depth_of one.path) 0) (depth_of one.path)
    lasts_next at one less there = by (same_or_not (depth_of one.path) (depth_of frame.path))
      where
        by : (depth_of one.path ≡ depth_of frame.path) ⊎ (depth_of one.path ≢ depth_of frame.path) → LastOf frames (place + 1) at (get_or makers_next (depth_of one.path) 0) (depth_of one.path)
        by (inl e) =
            let f : get_or makers_next (depth_of one.path) 0 ≡ place = ap (λ n. get_or makers_next n 0) e ∙ last_here in
            subst (λ n. LastOf frames (place + 1) at n (depth_of one.path)) (sym f) (record { from = omega (arith, less); before = omega arith; made = frame; there = here; deep = sym e })
        by (inr apart) = go (before_or_here at less)
          where
            go : (at < place) ⊎ (at ≡ place) → LastOf frames (place + 1) at (get_or makers_next (depth_of one.path) 0) (depth_of one.path)
            go (inl old) =
                let l = has.lasts at one old there in
                subst (λ n. LastOf frames (place + 1) at n (depth_of one.path)) (sym (get_or-set_other makers (depth_of frame.path) (depth_of one.path) place 0 apart))
                (record { from = l.from; before = (let b = l.before in omega (arith, b)); made = l.made; there = l.there; deep = l.deep })
            go (inr new) = absurd (apart (ap (λ (f : Frame). depth_of f.path) (sym (frame_here at one new there))))

    pub one_found : HasFound slots readies frames (place + 1) after makers_next (origins ++ origin ∷ [])
    one_found = record {
      long = length-append origins (origin ∷ []) ∙ ap (λ n. n + 1) has.long;
      each = each_next;
      within = within;
      passed = passed_next;
      depths = length-set makers (depth_of frame.path) place ∙ has.depths;
      paths = λ at one less there. paths_next at one there (before_or_here at less);
      lasts = lasts_next;
    }
      where
        paths_next : (at : ℕ) (one : Frame) → slice_get frames at ≡ Some one → (at < place) ⊎ (at ≡ place) → IsTrue (is_path one.path)
        paths_next at one there (inl old) = has.paths at one old there
        paths_next at one there (inr new) = subst (λ (f : Frame). IsTrue (is_path f.path)) (frame_here at one new there) is

        each_next : (at : ℕ) (one : Frame) (its : Origin) → slice_get frames at ≡ Some one → slice_get (origins ++ origin ∷ []) at ≡ Some its → IsOrigin slots frames at one its
        each_next at one its there e = by (last_or origins origin at its e)
          where
            by : LastOr origins origin at its → IsOrigin slots frames at one its
            by (earlier_ f) = has.each at one its there f
            by (last f g) =
                let h : at ≡ place = f ∙ has.long in
                subst (λ n. IsOrigin slots frames n one its) (sym h)
                (subst (λ (x : Frame). IsOrigin slots frames place x its) (frame_here at one h there) (subst (IsOrigin slots frames place frame) (sym g) origin_is))

  pub all_found : (place next : ℕ) (makers : List ℕ) (origins : List Origin) → length frames ≤ place → place ≤ length frames → HasFound slots readies frames place next makers origins → AreOrigins slots frames origins
  all_found place next makers origins most least has = record { long = (let l = has.long in omega (arith, l, most, least)); each = has.each }
