-- What a run that ends with the rest of an old one has in common with that.
use Rattle.std.proofs.Common.{◌≡◌, ◌∙◌, ℕ, List, [], ◌++◌, length, take, drop, refl, sym, ap, append_assoc}
use Rattle.std.proofs.lemmas.List.{append-nil, length-take-le, take-append-drop}
use Rattle.run_data.specs.declared.runs.Instant.{Instant}
use Rattle.resimulate.specs.SharedEnds.{ShareFirst, SharesEnds}

pub shares_nothing : (old instants : List Instant) → SharesEnds old instants 0 0
shares_nothing old instants = record {
  front = [];
  between = instants;
  old_between = old;
  back = [];
  is = sym (append-nil instants);
  is_old = sym (append-nil old);
  first = refl;
  last = refl;
}

-- the first instants are the same, and the rest stands behind both
pub shares_both : (old before rest instants : List Instant) (many : ℕ) → old ≡ before ++ rest → ShareFirst instants before many → SharesEnds old (instants ++ rest) many (length rest)
shares_both old before rest instants many parts both = record {
  front = take many instants;
  between = drop many instants;
  old_between = drop many before;
  back = rest;
  is = ap (λ (l : List Instant). l ++ rest) (sym (take-append-drop many instants)) ∙ append_assoc (take many instants) (drop many instants) rest;
  is_old =
      parts ∙ ap (λ (l : List Instant). l ++ rest) (sym (take-append-drop many before)) ∙ append_assoc (take many before) (drop many before) rest
      ∙ ap (λ (l : List Instant). l ++ (drop many before ++ rest)) (sym both.same);
  first = length-take-le many instants both.within;
  last = refl;
}
