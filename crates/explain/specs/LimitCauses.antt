-- Which limit is passed, by the word that names it.
use Rattle.std.specs.Prelude.{◌≡◌, ℕ, List, [], ◌∷◌, codes, if◌then◌else◌, refl}
use Rattle.std.specs.Str.{bytes_eq}
use Rattle.explain.specs.declared.causes.Cause.{Cause}
use Rattle.explain.specs.declared.causes.Cause.TheVariants as cause

-- the words, each with its cause
abbrev pub limit_causes : List (List ℕ × Cause)
limit_causes =
    (codes "cells", cause.ManyCells) ∷
    (codes "types", cause.ManyTypes) ∷
    (codes "parameters", cause.ManyParameters) ∷
    (codes "locals", cause.ManyLocals) ∷
    (codes "statements", cause.ManyStatements) ∷
    (codes "enums", cause.ManyEnums) ∷
    (codes "variants", cause.ManyVariants) ∷
    (codes "resources", cause.ManyResources) ∷
    (codes "daemons", cause.ManyDaemons) ∷
    (codes "requires", cause.ManyRequires) ∷
    (codes "depth", cause.TooDeep) ∷
    (codes "terms", cause.ManyTerms) ∷
    (codes "constraints", cause.ManyConstraints) ∷
    (codes "goals", cause.ManyGoals) ∷
    (codes "clients", cause.ManyClients) ∷
    (codes "commands", cause.ManyCommands) ∷
    (codes "models", cause.ManyModels) ∷
    (codes "mappings", cause.ManyMappings) ∷
    (codes "datasets", cause.ManyDatasets) ∷
    (codes "rules", cause.ManyRules) ∷
    (codes "steps", cause.ManySteps) ∷
    (codes "words", cause.ManyWords) ∷
    []

-- what the words of a table stand for
abbrev pub limit_in : List (List ℕ × Cause) → List ℕ → Cause
limit_in [] word = cause.Refused
limit_in (entry ∷ later) word = if bytes_eq entry.0 word then entry.1 else limit_in later word

-- the cause where the limit of this word is passed
unfoldable pub limit_cause : List ℕ → Cause
limit_cause word = limit_in limit_causes word

-- ---- worked cases

pub terms : limit_cause (codes "terms") ≡ cause.ManyTerms
unfolding limit_cause
terms = refl
