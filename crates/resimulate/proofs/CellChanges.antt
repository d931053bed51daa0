-- The last changes of all cells at once.
use Rattle.std.proofs.Common.{◌≡◌, ℕ, zero, suc, ◌+◌, ◌<◌, nat_eq, Bool, true, false, List, [], ◌∷◌, ◌++◌, length, take, get_or, Option, Some, None, option_map, slice_get, slice_set, replicate, refl, sym, ap, ◌∙◌, subst, if◌then◌else◌, add-one, arith}
use Rattle.std.proofs.Math.Seq.{take-suc}
use Rattle.effect_cells.specs.declared.effects.CellState.{CellState}
use Rattle.run_data.specs.declared.runs.Instant.{Instant}
use Rattle.run_data.specs.laws.PathsUnder.{same_number}
use Rattle.resimulate.specs.LastChanges.{CellChange, changed_at_time, last_change, ChangeAtTime, ChangeInInstants, SameLastChanges}
use Rattle.resimulate.proofs.LastChanges.{get_set, get_set_other, other_number}

taken_next : {A : Type 0} (k : ℕ) (items : List A) (one : A) → k < length items → one ≡ get_or items k one → take k items ++ one ∷ [] ≡ take (k + 1) items
taken_next k items one within is = ap (λ x. take k items ++ x ∷ []) is ∙ sym (rw add-one (take-suc items k one within))

map_map : {A : Type 0} (f g h : A → A) (one : Option A) → ((a : A) → f (g a) ≡ h a) → option_map f (option_map g one) ≡ option_map h one
map_map f g h None same = refl
map_map f g h (Some a) same = ap Some (same a)

-- ---- those of one time

changed_more : (cell time : ℕ) (changed : List (ℕ × CellState)) (one : ℕ × CellState) (last : Option CellChange) →
    changed_at_time cell time (one ∷ []) (changed_at_time cell time changed last) ≡ changed_at_time cell time (changed ++ one ∷ []) last
changed_more cell time [] one last = refl
changed_more cell time (first ∷ rest) one last = changed_more cell time rest one _

set_told : (cell time : ℕ) (one : ℕ × CellState) (all : List (Option CellChange)) →
    slice_get (slice_set all one.0 (Some (time, one.1))) cell ≡ option_map (changed_at_time cell time (one ∷ [])) (slice_get all cell)
set_told cell time one all = by (nat_eq one.0 cell) refl
  where
    constant : (found : Option (Option CellChange)) → option_map (λ old. Some (time, one.1)) found ≡ option_map (λ last. if true then Some (time, one.1) else last) found
    constant None = refl
    constant (Some last) = refl

    kept : (found : Option (Option CellChange)) → found ≡ option_map (λ last. if false then Some (time, one.1) else last) found
    kept None = refl
    kept (Some last) = refl

    by : (b : Bool) → nat_eq one.0 cell ≡ b → slice_get (slice_set all one.0 (Some (time, one.1))) cell ≡ option_map (changed_at_time cell time (one ∷ [])) (slice_get all cell)
    by true e =
        ap (λ k. slice_get (slice_set all k (Some (time, one.1))) cell) (same_number one.0 cell e) ∙ get_set all cell (Some (time, one.1)) ∙ constant (slice_get all cell)
        ∙ ap (λ (b : Bool). option_map (λ last. if b then Some (time, one.1) else last) (slice_get all cell)) (sym e)
    by false e =
        get_set_other all one.0 cell (Some (time, one.1)) (other_number one.0 cell e) ∙ kept (slice_get all cell)
        ∙ ap (λ (b : Bool). option_map (λ last. if b then Some (time, one.1) else last) (slice_get all cell)) (sym e)

pub changed_none : (time : ℕ) (all : List (Option CellChange)) → ChangeAtTime time [] all all
changed_none time all cell = by (slice_get all cell)
  where
    by : (found : Option (Option CellChange)) → found ≡ option_map (changed_at_time cell time []) found
    by None = refl
    by (Some last) = refl

pub changed_next : (time at : ℕ) (changed : List (ℕ × CellState)) (one : ℕ × CellState) (before middle after : List (Option CellChange)) → at < length changed → one ≡ get_or changed at one →
    ChangeAtTime time (take at changed) before middle → after ≡ slice_set middle one.0 (Some (time, one.1)) → ChangeAtTime time (take (at + 1) changed) before after
changed_next time at changed one before middle after less is so_far put =
    subst (λ l. ChangeAtTime time l before after) (taken_next at changed one less is)
    (λ cell. ap (λ l. slice_get l cell) put ∙ set_told cell time one middle ∙ ap (option_map (changed_at_time cell time (one ∷ []))) (so_far cell)
    ∙ map_map (changed_at_time cell time (one ∷ [])) (changed_at_time cell time (take at changed)) (changed_at_time cell time (take at changed ++ one ∷ [])) (slice_get before cell)
    (λ last. changed_more cell time (take at changed) one last))

-- ---- those of instants

instants_more : (cell : ℕ) (instants : List Instant) (one : Instant) (last : Option CellChange) →
    changed_at_time cell one.time one.changed (last_change cell instants last) ≡ last_change cell (instants ++ one ∷ []) last
instants_more cell [] one last = refl
instants_more cell (first ∷ rest) one last = instants_more cell rest one _

pub instants_none : (all : List (Option CellChange)) → ChangeInInstants [] all all
instants_none all cell = by (slice_get all cell)
  where
    by : (found : Option (Option CellChange)) → found ≡ option_map (last_change cell []) found
    by None = refl
    by (Some last) = refl

pub instants_next : (at : ℕ) (instants : List Instant) (one : Instant) (before middle after : List (Option CellChange)) → at < length instants → one ≡ get_or instants at one →
    ChangeInInstants (take at instants) before middle → ChangeAtTime one.time one.changed middle after → ChangeInInstants (take (at + 1) instants) before after
instants_next at instants one before middle after less is so_far then_ =
    subst (λ l. ChangeInInstants l before after) (taken_next at instants one less is)
    (λ cell. then_ cell ∙ ap (option_map (changed_at_time cell one.time one.changed)) (so_far cell)
    ∙ map_map (changed_at_time cell one.time one.changed) (last_change cell (take at instants)) (last_change cell (take at instants ++ one ∷ [])) (slice_get before cell)
    (λ last. instants_more cell (take at instants) one last))

-- ---- compared

get_replicate : {A : Type 0} (many : ℕ) (one : A) (at : ℕ) → at < many → slice_get (replicate many one) at ≡ Some one
get_replicate zero one at less = absurd (omega (arith, less))
get_replicate (suc many) one zero less = refl
get_replicate (suc many) one (suc at) less = get_replicate many one at (omega (arith, less))

abbrev no_change : Option CellChange
no_change = None

pub same_changes : (cells : ℕ) (instants others : List Instant) (last other : List (Option CellChange)) → ChangeInInstants instants (replicate cells no_change) last →
    ChangeInInstants others (replicate cells no_change) other → last ≡ other → SameLastChanges cells instants others
same_changes cells instants others last other one two same cell less = value (here ∙ ap (λ l. slice_get l cell) same ∙ sym there)
  where
    first : slice_get (replicate cells no_change) cell ≡ Some no_change
    first = get_replicate cells no_change cell less

    here : Some (last_change cell instants no_change) ≡ slice_get last cell
    here = sym (one cell ∙ ap (option_map (last_change cell instants)) first)

    there : Some (last_change cell others no_change) ≡ slice_get other cell
    there = sym (two cell ∙ ap (option_map (last_change cell others)) first)

    value : Some (last_change cell instants no_change) ≡ Some (last_change cell others no_change) → last_change cell instants no_change ≡ last_change cell others no_change
    value e = cc

-- ---- behind instants that are the same

-- the last change, or what was the last one before
abbrev or_last : Option CellChange → Option CellChange → Option CellChange
or_last before None = before
or_last before (Some change) = Some change

changed_from : (cell time : ℕ) (changed : List (ℕ × CellState)) (before last : Option CellChange) →
    changed_at_time cell time changed (or_last before last) ≡ or_last before (changed_at_time cell time changed last)
changed_from cell time [] before last = refl
changed_from cell time (one ∷ rest) before last = by (nat_eq one.0 cell) (changed_from cell time rest before (Some (time, one.1))) (changed_from cell time rest before last)
  where
    by : (b : Bool) → changed_at_time cell time rest (Some (time, one.1)) ≡ or_last before (changed_at_time cell time rest (Some (time, one.1))) →
        changed_at_time cell time rest (or_last before last) ≡ or_last before (changed_at_time cell time rest last) →
        changed_at_time cell time rest (if b then Some (time, one.1) else or_last before last) ≡ or_last before (changed_at_time cell time rest (if b then Some (time, one.1) else last))
    by true here_ further = here_
    by false here_ further = further

change_from : (cell : ℕ) (instants : List Instant) (before last : Option CellChange) → last_change cell instants (or_last before last) ≡ or_last before (last_change cell instants last)
change_from cell [] before last = refl
change_from cell (one ∷ rest) before last =
    ap (last_change cell rest) (changed_from cell one.time one.changed before last) ∙ change_from cell rest before (changed_at_time cell one.time one.changed last)

change_append : (cell : ℕ) (first rest : List Instant) (last : Option CellChange) → last_change cell (first ++ rest) last ≡ last_change cell rest (last_change cell first last)
change_append cell [] rest last = refl
change_append cell (one ∷ first) rest last = change_append cell first rest (changed_at_time cell one.time one.changed last)

pub same_behind_first : (cells : ℕ) (first instants others : List Instant) → SameLastChanges cells instants others → SameLastChanges cells (first ++ instants) (first ++ others)
same_behind_first cells first instants others same cell less =
    whole instants ∙ ap (or_last (last_change cell first no_change)) (same cell less) ∙ sym (whole others)
  where
    whole : (rest : List Instant) → last_change cell (first ++ rest) no_change ≡ or_last (last_change cell first no_change) (last_change cell rest no_change)
    whole rest = change_append cell first rest no_change ∙ change_from cell rest (last_change cell first no_change) no_change

-- in a loop: the changes before it are the same
abbrev pub SameTo : ℕ → List (Option CellChange) → List (Option CellChange) → Type 0
SameTo at last others = take at last ≡ take at others

pub same_next : (at : ℕ) (last others : List (Option CellChange)) (one other : Option CellChange) → at < length last → at < length others → one ≡ get_or last at one → other ≡ get_or others at other → one ≡ other →
    SameTo at last others → SameTo (at + 1) last others
same_next at last others one other less more_ is there same so_far =
    sym (taken_next at last one less is) ∙ (λ i. so_far i ++ same i ∷ []) ∙ taken_next at others other more_ there
