-- What is read of a model is within the limits.
use Rattle.std.proofs.Common.{◌≡◌, List, subst}
use Rattle.aerie_text.specs.declared.sorts.Sort.TheVariants as sort
use Rattle.readers.specs.Marks.{Mark}
use Rattle.readers.specs.Parsed.{Parsed, parsed}
use Rattle.model_reader.specs.declared.raw.models.RawModel.{RawModel}
use Rattle.model_reader.specs.Limits.{CountNumbers, IsWithinLimits}
use Rattle.model_reader.specs.reading.Models.{model_at}
use Rattle.model_reader.proofs.Limited.Keeping.{Keeps, gives, and_then, take_keeps}
use Rattle.model_reader.proofs.Limited.Literals.{raw_name_keeps}
use Rattle.model_reader.proofs.Limited.Items.{items_keep}

model_keeps : (marks : List Mark) → CountNumbers marks → Keeps IsWithinLimits (model_at marks)
unfolding model_at
model_keeps marks count =
    and_then _ (take_keeps sort.Model marks count) (λ word rest unit left. and_then _ (raw_name_keeps rest left) (λ name behind unit_ from. and_then _ (take_keeps sort.OpenBrace behind from)
    (λ brace on unit__ further. and_then _ (items_keep on further) (λ items last are after. and_then _ (take_keeps sort.CloseBrace last after) (λ close over unit___ finally. gives are finally)))))

within_if : (reading : Parsed RawModel) (raw : RawModel) (rest : List Mark) → Keeps IsWithinLimits reading → reading ≡ parsed raw rest → IsWithinLimits raw
within_if reading raw rest keeps is = let read : Keeps IsWithinLimits (parsed raw rest) = subst (Keeps IsWithinLimits) is keeps in read.holds.0

pub within_limits : (marks rest : List Mark) (raw : RawModel) → CountNumbers marks → model_at marks ≡ parsed raw rest → IsWithinLimits raw
within_limits marks rest raw count is = within_if (model_at marks) raw rest (model_keeps marks count) is
