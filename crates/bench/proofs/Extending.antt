-- Records that stand behind others: what is held stays held.
use Rattle.std.proofs.Common.{◌≡◌, ℕ, zero, suc, ◌≤◌, Bool, true, false, ◌||◌, IsTrue, List, [], ◌∷◌, ◌++◌, length, take, drop, slice_index_or, if◌then◌else◌, refl, ap, sym, subst, ◌∙◌, arith, append_assoc, length-append}
use Rattle.std.specs.List.{All, Contains}
use Rattle.std.proofs.lemmas.List.{append-nil, take-append-drop, take-append-le, take-take}
use Rattle.std.proofs.lemmas.List.Elements.{Contains-append_left}
use Rattle.std.proofs.lemmas.List.Folds.{list_any-append}
use Rattle.run_data.specs.declared.frames.Record.{Record}
use Rattle.run_data.specs.TaskFrames.{Frame}
use Rattle.history_store.specs.Learning.{HasLearnt, with_chapters}
use Rattle.record_book.specs.StoredSteps.{IsHeldIn, StoredSteps, has_record, with_chapter, with_record, with_records}
use Rattle.bench.specs.HeldSteps.{Extends, HoldsAll}

-- ---- more behind

pub nothing_more : (before after : List Record) → after ≡ before → Extends before after
nothing_more before after same = record { more = []; is = same ∙ sym (append-nil before) }

pub more_then : (before between after : List Record) → Extends before between → Extends between after → Extends before after
more_then before between after one two = record {
  more = one.more ++ two.more;
  is = two.is ∙ ap (λ records. records ++ two.more) one.is ∙ append_assoc before one.more two.more;
}

one_more : (records : List Record) (of : Record) → Extends records (with_record records of)
one_more records of = by (has_record records of.before of.reads)
  where
    by : (held : Bool) → Extends records (if held then records else records ++ of ∷ [])
    by true = nothing_more records records refl
    by false = record { more = of ∷ []; is = refl }

pub with_one_more : (before after : List Record) (of : Record) → after ≡ with_record before of → Extends before after
with_one_more before after of is = subst (Extends before) (sym is) (one_more before of)

several_more : (records more : List Record) → Extends records (with_records records more)
several_more records [] = nothing_more records records refl
several_more records (of ∷ rest) = more_then records (with_record records of) (with_records (with_record records of) rest) (one_more records of) (several_more (with_record records of) rest)

chapters_more : (book : StoredSteps) (chapters : List StoredSteps) → Extends book.records (with_chapters book chapters).records
chapters_more book [] = nothing_more book.records book.records refl
chapters_more book (chapter ∷ rest) =
    more_then book.records (with_records book.records chapter.records) (with_chapters (with_chapter book chapter) rest).records
    (several_more book.records chapter.records) (chapters_more (with_chapter book chapter) rest)

same_model : (book : StoredSteps) (chapters : List StoredSteps) → (with_chapters book chapters).model ≡ book.model
same_model book [] = refl
same_model book (chapter ∷ rest) = same_model (with_chapter book chapter) rest

pub learnt_more : (before after : StoredSteps) → HasLearnt before after → Extends before.records after.records
learnt_more before after learnt = subst (λ (book : StoredSteps). Extends before.records book.records) (sym learnt.taken) (chapters_more before learnt.chapters)

pub learnt_model : (before after : StoredSteps) → HasLearnt before after → after.model ≡ before.model
learnt_model before after learnt = ap (λ (book : StoredSteps). book.model) learnt.taken ∙ same_model before learnt.chapters

-- ---- what is held stays held

or_first : (a b : Bool) → IsTrue a → IsTrue (a || b)
or_first true b h = refl
or_first false b h = absurd (cc)

pub held_on : (before after : List Record) → Extends before after → (frame : Frame) → IsHeldIn before frame → IsHeldIn after frame
held_on before after extends frame held =
    subst (λ records. IsTrue (has_record records frame.before frame.reads)) (sym extends.is)
    (subst IsTrue (sym (list_any-append _ before extends.more)) (or_first (has_record before frame.before frame.reads) _ held))

pub all_held_on : (before after : List Record) → Extends before after → (frames : List Frame) → All (IsHeldIn before) frames → All (IsHeldIn after) frames
all_held_on before after extends frames all at other lt = held_on before after extends (slice_index_or frames at other) (all at other lt)

-- the first records stand before the others
pub first_then : (count : ℕ) (records : List Record) → Extends (take count records) records
first_then count records = record { more = drop count records; is = sym (take-append-drop count records) }

pub first_stay : (count : ℕ) (before after : List Record) → count ≤ length before → Extends before after → take count after ≡ take count before
first_stay count before after few extends = ap (take count) extends.is ∙ take-append-le count before extends.more few

-- the first so many of some records stand before the rest of as many of more
take_front : (count : ℕ) (items more : List Record) → (rest : List Record) × (take count (items ++ more) ≡ take count items ++ rest)
take_front zero items more = ([], refl)
take_front (suc count) [] more = (take (suc count) more, refl)
take_front (suc count) (item ∷ items) more = let later = take_front count items more in (later.0, ap (λ records. item ∷ records) later.1)

pub firsts_more : (count : ℕ) (before after : List Record) → Extends before after → Extends (take count before) (take count after)
firsts_more count before after extends =
    let front = take_front count before extends.more in
    record { more = front.0; is = ap (take count) extends.is ∙ front.1 }

pub holds_more : (before after : List Record) → Extends before after → HoldsAll before after
holds_more before after extends of held =
    subst (λ (records : List Record). Contains records of) (sym extends.is) (Contains-append_left before extends.more of held)

-- the first so many of more records hold what as many held
pub firsts_hold : (count : ℕ) (before after : List Record) → Extends before after → HoldsAll (take count before) (take count after)
firsts_hold count before after extends = holds_more (take count before) (take count after) (firsts_more count before after extends)

pub first_few : (count : ℕ) (before after : List Record) → count ≤ length before → Extends before after → count ≤ length after
first_few count before after few extends = omega (arith, few, ap length extends.is, length-append before extends.more)

-- what holds of the first records goes on to hold of them
pub firsts_same : (P : List Record → Type 0) (count : ℕ) (before after : List Record) → count ≤ length before → Extends before after → P (take count before) → P (take count after)
firsts_same P count before after few extends holds = subst P (sym (first_stay count before after few extends)) holds

-- ---- what is held among the first so many

pub front_holds : (count : ℕ) (before after : List Record) → Extends before after → HoldsAll (take count before) after
front_holds count before after extends =
    holds_more (take count before) after (more_then (take count before) before after (first_then count before) extends)

pub holds_then : (before between after : List Record) → HoldsAll before between → HoldsAll between after → HoldsAll before after
holds_then before between after one two of held = two of (one of held)

pub holds_same : (before after : List Record) → after ≡ before → HoldsAll before after
holds_same before after same = holds_more before after (nothing_more before after same)

pub twice_first : (count : ℕ) (records : List Record) → take count (take count records) ≡ take count records
twice_first count records = take-take count count records (omega arith)
