-- What is judged of the marks that are left says of the place of the first of them.
use Rattle.std.proofs.Common.{◌≡◌, ℕ, List, [], ◌∷◌, ◌++◌, ap, ◌∙◌}
use Rattle.aerie_base.specs.declared.places.Place.{Place}
use Rattle.readers.specs.Marks.{Mark}
use Rattle.readers.specs.Places.{place_left, IsFirstRefusedBy, at_mark, at_end, IsReadThroughBy}
use Rattle.readers.specs.Verdicts.{IsReadableThrough}
use Rattle.readers.specs.grammar.Forms.{Grammar}
use Rattle.readers.specs.grammar.Lookahead.{stops}
use Rattle.readers.specs.grammar.Tells.{Tells}

module _ {Rule Kind : Type 0} (g : Grammar Rule Kind Mark) (start : Rule) (text : List ℕ) (marks : List Mark) where
  -- reading stopped here: the mark is refused, or the end is
  pub first_refused : (rest : List Mark) (place : Place) → place ≡ place_left text rest → Tells g start marks (stops rest) → IsFirstRefusedBy g start text marks place
  first_refused [] place stands told = at_end stands told
  first_refused (mark ∷ rest) place stands told = at_mark told.front rest mark told.is stands told.refused

  -- a limit is passed here: the mark is read by some reading
  pub read_through : (rest : List Mark) (place : Place) → place ≡ place_left text rest → IsReadableThrough g start marks rest → IsReadThroughBy g start marks place
  read_through rest place stands readable =
      record {
        front = readable.front;
        mark = readable.next;
        behind = readable.behind;
        is = readable.is ∙ ap (λ (left : List Mark). readable.front ++ left) readable.here;
        stands = stands ∙ ap (place_left text) readable.here;
        readable = readable.readable;
      }
