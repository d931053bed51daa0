-- The sections of models stand among the tokens.
use Rattle.std.proofs.Common.{◌≡◌, ℕ, zero, suc, ◌+◌, Bool, true, false, List, [], ◌∷◌, Option, Some, None, is_some, length, map, replicate, slice_set, refl, ap, if◌then◌else◌}
use Rattle.std.specs.List.{AllByRecursion}
use Rattle.aerie_base.specs.declared.models.model.Parts.{Parts}
use Rattle.session_grammar.specs.SessionLimits.{AreRangesWithin}
use Rattle.session_grammar.specs.declared.raw.sections.RawSection.{RawSection}
use Rattle.session_grammar.specs.declared.raw.sections.RawSections.{RawSections}
use Rattle.session_reader.specs.Sections.{SectionsByModel, TokenRange, model_of_section, no_sections, section_of, section_put, sections_by_model, with_section}
use Rattle.session_reader.specs.Sessions.{all_sections, model_parts}
use Rattle.session_reader.specs.WellFormed.{HasSectionsWithin, IsRangeWithin}
use Rattle.session_reader.specs.declared.sessions.AllSections.{AllSections}

module _ (count : ℕ) where
  abbrev AreWithin : SectionsByModel → Type 0
  AreWithin = AllByRecursion (IsRangeWithin count)

  none_within : (models : ℕ) → AreWithin (replicate models None)
  none_within zero = tt
  none_within (suc models) = (tt, none_within models)

  set_within : (sections : SectionsByModel) (model : ℕ) (range : TokenRange) → AreWithin sections → IsRangeWithin count (Some range) → AreWithin (slice_set sections model (Some range))
  set_within [] model range all one = tt
  set_within (first ∷ rest) zero range all one = (one, all.1)
  set_within (first ∷ rest) (suc model) range all one = (all.0, set_within rest model range all.1 one)

  put_within : (sections : SectionsByModel) (range : TokenRange) (model : Option ℕ) → AreWithin sections → IsRangeWithin count (Some range) → AreWithin (section_put sections range model)
  put_within sections range None all one = all
  put_within sections range (Some model) all one = go (is_some (section_of sections model))
    where
      go : (has : Bool) → AreWithin (if has then sections else slice_set sections model (Some range))
      go true = all
      go false = set_within sections model range all one

  by_model_within : (models : List Parts) (sections : SectionsByModel) (raws : List RawSection) → AreWithin sections → AreRangesWithin count raws → AreWithin (sections_by_model models sections raws)
  by_model_within models sections [] all ranges = all
  by_model_within models sections (raw ∷ rest) all ranges =
      by_model_within models (with_section models sections raw) rest
      (put_within sections (raw.from, raw.to) (model_of_section models raw.of) all (ranges.0.rises, ranges.0.within)) ranges.1

  one_within : (sections : SectionsByModel) (model : ℕ) → AreWithin sections → IsRangeWithin count (section_of sections model)
  one_within [] model all = tt
  one_within (first ∷ rest) zero all = all.0
  one_within (first ∷ rest) (suc model) all = one_within rest model all.1

  pub parts_within : (models : List Parts) (raw : RawSections) → AreRangesWithin count raw.constraints → AreRangesWithin count raw.goals → AreRangesWithin count raw.sequences →
      (number : ℕ) (rest : List Parts) → AllByRecursion (HasSectionsWithin count) (model_parts (all_sections models raw) number rest)
  parts_within models raw constraints goals sequences number [] = tt
  parts_within models raw constraints goals sequences number (model ∷ rest) =
      let none = none_within (length models) in (
        record {
          constraints = one_within (sections_by_model models (no_sections models) raw.constraints) number (by_model_within models (no_sections models) raw.constraints none constraints);
          goals = one_within (sections_by_model models (no_sections models) raw.goals) number (by_model_within models (no_sections models) raw.goals none goals);
          sequence = one_within (sections_by_model models (no_sections models) raw.sequences) number (by_model_within models (no_sections models) raw.sequences none sequences);
        },
        parts_within models raw constraints goals sequences (number + 1) rest,
      )

-- ---- the models of the parts

pub models_kept : (sections : AllSections) (number : ℕ) (models : List Parts) → map (λ part. part.model) (model_parts sections number models) ≡ models
models_kept sections number [] = refl
models_kept sections number (model ∷ rest) = ap (λ (others : List Parts). model ∷ others) (models_kept sections (number + 1) rest)
