-- What is read conforms to a grammar: when a reading that gives values and judges limits goes as one mark of lookahead goes.
use Rattle.std.specs.Prelude.{◌≡◌, ◌<◌, false, List, [], ◌∷◌, ◌++◌, length}
use Rattle.readers.specs.Marks.{Mark}
use Rattle.readers.specs.grammar.Forms.{Form}
use Rattle.readers.specs.grammar.LazyReadings.{LazyReading}
use Rattle.readers.specs.grammar.Lookahead.{Lookahead, nullable}
use Rattle.readers.specs.grammar.Parsing.{Reads, Stops}
use Rattle.readers.specs.Parsed.{Parsed, parsed, failed, over_limit}

module _ {Rule Kind : Type 0} (look : Lookahead Rule Kind Mark) where
  -- The marks in front are a whole reading of the form, and the reader of one mark ahead goes on with the rest.
  pub record Covers (form : Form Rule Kind) (marks rest : List Mark) : Type 0 where
    pub front : List Mark
    pub is : marks ≡ front ++ rest
    pub some : nullable look form ≡ false → 0 < length front
    pub reads : Reads look form marks rest
    pub whole : (xs : List (Form Rule Kind)) → LazyReading look.grammar (form ∷ xs) front xs

  -- Some reading of the form reads the marks in front, and the first of the rest too.
  pub record ReadsPast (form : Form Rule Kind) (marks rest : List Mark) : Type 0 where
    pub front : List Mark
    pub next : Mark
    pub behind : List Mark
    pub here : rest ≡ next ∷ behind
    pub is : marks ≡ front ++ rest
    pub part : (xs : List (Form Rule Kind)) → (left : List (Form Rule Kind)) × LazyReading look.grammar (form ∷ xs) (front ++ (next ∷ [])) left

  -- A part is read where the form is; reading fails where the form stops; and a limit is passed at a mark that some
  -- reading of the form reads.
  abbrev pub GoesAlong : {A : Type 0} → Form Rule Kind → List Mark → Parsed A → Type 0
  GoesAlong form marks (parsed part rest) = Covers form marks rest
  GoesAlong form marks (failed rest) = Stops look form marks rest
  GoesAlong form marks (over_limit limit rest) = ReadsPast form marks rest

  -- What is read of these marks conforms to the form: a part is read where the form is, reading fails where the form stops,
  -- and a limit is passed at a mark that some reading of the form reads.
  pub record Conforms {A : Type 0} (form : Form Rule Kind) (marks : List Mark) (reading : Parsed A) : Type 0 where
    pub goes : GoesAlong form marks reading
