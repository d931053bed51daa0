-- What the place where a reader of a text stopped says of the readings of a grammar.
use Rattle.std.specs.Prelude.{◌≡◌, List, [], ◌∷◌, ◌++◌, ℕ, length}
use Rattle.aerie_base.specs.declared.places.Place.{Place}
use Rattle.aerie_text.specs.Places.{place_of}
use Rattle.readers.specs.Marks.{Mark}
use Rattle.readers.specs.grammar.Forms.{Grammar}
use Rattle.readers.specs.grammar.Readings.{IsReadable, IsRefusedAt, IsRefusedAtEnd}

-- the place of the first of the marks that are left; where none is, that behind the text
abbrev pub place_left : List ℕ → List Mark → Place
place_left text [] = place_of text (length text)
place_left text (mark ∷ rest) = mark.at

module _ {Rule Kind : Type 0} (g : Grammar Rule Kind Mark) (start : Rule) where
  -- At the place stands the first of the marks that no reading reads; or some reading reads them all and leaves something to be
  -- read, and the place is that behind the text.
  pub data IsFirstRefusedBy (text : List ℕ) (marks : List Mark) (place : Place) : Type 0 where
    at_mark : (front behind : List Mark) (mark : Mark) → marks ≡ front ++ (mark ∷ behind) → place ≡ mark.at → IsRefusedAt g start marks (length front) → IsFirstRefusedBy text marks place
    at_end : place ≡ place_of text (length text) → IsRefusedAtEnd g start marks → IsFirstRefusedBy text marks place

  -- at the place stands a mark up to which, and with it, some reading reads the marks
  pub record IsReadThroughBy (marks : List Mark) (place : Place) : Type 0 where
    pub front : List Mark
    pub mark : Mark
    pub behind : List Mark
    pub is : marks ≡ front ++ (mark ∷ behind)
    pub stands : place ≡ mark.at
    pub readable : IsReadable g start (front ++ (mark ∷ []))
