-- A grammar over tokens that is told by their classes alone.
use Rattle.readers.specs.grammar.Forms.{Grammar}
use Rattle.readers.specs.grammar.Lookahead.{Lookahead}

module _ {Rule Sort Class Token : Type 0} (class_of : Token → Class) where
  -- a token is of a sort where its class is
  abbrev pub by_class : Grammar Rule Sort Class → Grammar Rule Sort Token
  by_class g = record { fits = λ t k. g.fits t (class_of k); form = g.form }

  -- the same lookahead, asked of the token's class
  abbrev pub look_by_class : Lookahead Rule Sort Class → Lookahead Rule Sort Token
  look_by_class look =
      record {
        grammar = by_class look.grammar;
        nullable = look.nullable;
        first = λ r k. look.first r (class_of k);
        follow = λ r k. look.follow r (class_of k);
        openings = look.openings;
      }
