-- What a stock knows, as its book goes on.
use Rattle.std.proofs.Common.{◌≡◌, ℕ, List, [], ◌++◌, Option, Some, None, IfSome, length, take, ap, sym, subst, ◌∙◌, arith}
use Rattle.std.specs.List.{All}
use Rattle.std.proofs.lemmas.List.{take_all}
use Rattle.aerie_base.specs.declared.models.model.Parts.{Parts}
use Rattle.run_data.specs.declared.frames.Record.{Record}
use Rattle.run_data.specs.declared.runs.Instant.{Instant}
use Rattle.run_data.specs.declared.runs.Run.{Run}
use Rattle.aerie_base.specs.declared.plans.Plan.{Plan}
use Rattle.run_data.specs.Fresh.{IsFresh}
use Rattle.run_data.specs.laws.FreshRuns.{FramesOfRunsAreValid}
use Rattle.run_data.specs.KeptRuns.{KeptRun}
use Rattle.run_data.specs.Records.{IsValid, record_of}
use Rattle.run_data.specs.RunFrames.{frames_in_run}
use Rattle.run_data.specs.TaskFrames.{Frame}
use Rattle.record_book.specs.StoredSteps.{IsHeldIn, StoredSteps}
use Rattle.bench.specs.HeldSteps.{AreValidFrames, Extends, HoldsInstants, HoldsRun, instants_of_kept}
use Rattle.bench.specs.Noting.{Notes, unheld}
use Rattle.bench.specs.Stocks.{IsKnownIn, IsStock}
use Rattle.bench.proofs.Extending.{all_held_on}
use Rattle.bench.proofs.NotedFrames.{by_instants, in_instants, unheld_all}

known_on : (before after : StoredSteps) → after.model ≡ before.model → Extends before.records after.records → (kept : KeptRun) →
    IsKnownIn before kept → IsKnownIn after kept
known_on before after same extends kept known = record {
  model = known.model ∙ sym same;
  held = all_held_on before.records after.records extends (frames_in_run kept.run) known.held;
}

some_on : (P Q : KeptRun → Type 0) (kept : Option KeptRun) → ((one : KeptRun) → P one → Q one) → IfSome kept P → IfSome kept Q
some_on P Q (Some one) then holds = then one holds
some_on P Q None then holds = tt

-- what is known stays known
pub known_still : (before after : StoredSteps) (old : Option KeptRun) → after.model ≡ before.model → Extends before.records after.records →
    IfSome old (IsKnownIn before) → IfSome old (IsKnownIn after)
known_still before after old same extends known = some_on (IsKnownIn before) (IsKnownIn after) old (known_on before after same extends) known

-- a book of a model that has no records
abbrev bare : Parts → StoredSteps
bare model = record { model = model; records = [] }

-- a stock whose book has more
pub stock_on : (before after none : StoredSteps) (latest earlier : Option KeptRun) → IsStock before none latest earlier → after.model ≡ before.model →
    Extends before.records after.records → IsStock after none latest earlier
stock_on before after none latest earlier stock same extends = record {
  none_ = stock.none_ ∙ ap bare (sym same);
  latest_ = known_still before after latest same extends stock.latest_;
  earlier_ = known_still before after earlier same extends stock.earlier_;
}

-- a stock of a model that has nothing
pub new_stock : (book none : StoredSteps) (one other model : Parts) → one ≡ model → other ≡ model → book ≡ bare one → none ≡ bare other →
    IsStock book none None None
new_stock book none one other model first second book_is none_is = record {
  none_ = none_is ∙ ap bare (second ∙ sym first ∙ sym (ap (λ (steps : StoredSteps). steps.model) book_is));
  latest_ = tt;
  earlier_ = tt;
}

-- a stock that knows no run, whatever records are left
pub nothing_known : (before after none : StoredSteps) (latest earlier : Option KeptRun) → IsStock before none latest earlier → after.model ≡ before.model →
    IsStock after none None None
nothing_known before after none latest earlier stock same = record {
  none_ = stock.none_ ∙ ap bare (sym same);
  latest_ = tt;
  earlier_ = tt;
}

-- a stock that knows other runs
pub other_known : (book none : StoredSteps) (latest earlier known other : Option KeptRun) → IsStock book none latest earlier → IfSome known (IsKnownIn book) →
    IfSome other (IsKnownIn book) → IsStock book none known other
other_known book none latest earlier known other stock first second = record { none_ = stock.none_; latest_ = first; earlier_ = second }

pub known_same : (book seen : StoredSteps) (known : Option KeptRun) → book ≡ seen → IfSome known (IsKnownIn seen) → IfSome known (IsKnownIn book)
known_same book seen known same holds = subst (λ (steps : StoredSteps). IfSome known (IsKnownIn steps)) (sym same) holds

-- an owner of a run that is known, where there was memory for it
pub some_owner : (book seen : StoredSteps) (kept : KeptRun) (owner : Option KeptRun) → book ≡ seen → IfSome owner (λ one. one ≡ kept) → IsKnownIn seen kept →
    IfSome owner (IsKnownIn book)
some_owner book seen kept owner same is known =
    some_on (λ one. one ≡ kept) (IsKnownIn book) owner (λ one one_is. subst (IsKnownIn book) (sym one_is) (subst (λ (steps : StoredSteps). IsKnownIn steps kept) (sym same) known)) is

pub known_latest : (book none : StoredSteps) (latest earlier : Option KeptRun) (kept : KeptRun) → IsStock book none latest earlier → latest ≡ Some kept →
    HoldsRun book.records kept.run
known_latest book none latest earlier kept stock is = of_some (subst (λ found. IfSome found (IsKnownIn book)) is stock.latest_)
  where
    of_some : IfSome (Some kept) (IsKnownIn book) → HoldsRun book.records kept.run
    of_some known = known.held

pub known_earlier : (book none : StoredSteps) (latest earlier : Option KeptRun) (kept : KeptRun) → IsStock book none latest earlier → earlier ≡ Some kept →
    HoldsRun book.records kept.run
known_earlier book none latest earlier kept stock is = of_some (subst (λ found. IfSome found (IsKnownIn book)) is stock.earlier_)
  where
    of_some : IfSome (Some kept) (IsKnownIn book) → HoldsRun book.records kept.run
    of_some known = known.held

-- ---- all records are the first so many of them

pub all_first : (records : List Record) (count : ℕ) → count ≡ length records → take count records ≡ records
all_first records count is = take_all count records (omega (arith, is))

pub held_first : (records : List Record) (count : ℕ) (instants : List Instant) → count ≡ length records → HoldsInstants records instants →
    HoldsInstants (take count records) instants
held_first records count instants is holds =
    subst (λ (first : List Record). HoldsInstants first instants) (sym (all_first records count is)) holds

-- what was noted of a run, from all records on
pub noted_run : (before after : List Record) (count : ℕ) (frames : List Frame) (noted later : List Frame) → count ≡ length before → noted ≡ [] →
    Notes (take count before) frames before after noted later → later ≡ unheld before frames
noted_run before after count frames noted later is none notes =
    notes.is_noted ∙ ap (λ front. front ++ unheld (take count before) frames) none ∙ ap (λ records. unheld records frames) (all_first before count is)

-- the instants of a run that is known are held
pub known_instants : (records : List Record) (run : Run) → HoldsRun records run → HoldsInstants records run.instants
known_instants records run all = by_instants (IsHeldIn records) run.instants all

pub is_known : (book : StoredSteps) (kept given : KeptRun) → given ≡ kept → kept.model ≡ book.model → HoldsRun book.records given.run → IsKnownIn book kept
is_known book kept given same model held = record { model = model; held = subst (λ (one : KeptRun). HoldsRun book.records one.run) same held }

pub known_old : (book : StoredSteps) (old : Option KeptRun) → IfSome old (IsKnownIn book) → HoldsInstants book.records (instants_of_kept old)
known_old book None known = λ at other lt. absurd (omega (arith, lt))
known_old book (Some kept) known = known_instants book.records kept.run known.held

-- the frames of a fresh run of the stock's model
pub frames_of : FramesOfRunsAreValid → (model other : Parts) (plan : Plan) (bound : ℕ) (run : Run) → other ≡ model → IsFresh model plan bound run →
    AreValidFrames other run.instants
frames_of valid model other plan bound run is fresh =
    subst (λ (of : Parts). AreValidFrames of run.instants) (sym is) (valid model plan bound run fresh)

-- the frames that were noted of them are valid
pub noted_valid : (model : Parts) (records : List Record) (run : Run) (noted : List Frame) → noted ≡ unheld records (frames_in_run run) → AreValidFrames model run.instants →
    All (λ frame. IsValid model (record_of frame)) noted
noted_valid model records run noted is valid =
    subst (All (λ frame. IsValid model (record_of frame))) (sym is)
    (unheld_all (λ frame. IsValid model (record_of frame)) records (frames_in_run run) (in_instants (λ frame. IsValid model (record_of frame)) run.instants valid))
