-- What a reader's answer says of the readings of a grammar.
use Rattle.std.specs.Prelude.{◌≡◌, List, [], ◌∷◌, ◌++◌, Result, Ok, Err}
use Rattle.readers.specs.Marks.{Mark}
use Rattle.readers.specs.declared.refusal.Refusal.{Refusal}
use Rattle.readers.specs.declared.refusal.Refusal.TheVariants.{Syntax, TooMany, OutOfMemory}
use Rattle.readers.specs.grammar.Forms.{Grammar}
use Rattle.readers.specs.grammar.Lookahead.{stops}
use Rattle.readers.specs.grammar.Readings.{IsReadable, IsRead}
use Rattle.readers.specs.grammar.Tells.{Tells}
use Rattle.readers.specs.Parsed.{Parsed, parsed, failed, over_limit}

module _ {Rule Kind : Type 0} (g : Grammar Rule Kind Mark) (start : Rule) where
  -- The marks before the rest are read: some reading reads them all and leaves nothing.
  pub record IsReadBefore (marks rest : List Mark) : Type 0 where
    pub front : List Mark
    pub is : marks ≡ front ++ rest
    pub read : IsRead g start front

  -- The marks up to the first of the rest, and it too, can be read.
  pub record IsReadableThrough (marks rest : List Mark) : Type 0 where
    pub front : List Mark
    pub next : Mark
    pub behind : List Mark
    pub here : rest ≡ next ∷ behind
    pub is : marks ≡ front ++ rest
    pub readable : IsReadable g start (front ++ (next ∷ []))

  -- A part is read where the marks before the rest are read. Reading stops at the first mark that is refused, or at the
  -- end where that is refused. A limit is passed at a mark that some reading reads.
  abbrev pub Judges : {A : Type 0} → List Mark → Parsed A → Type 0
  Judges marks (parsed part rest) = IsReadBefore marks rest
  Judges marks (failed rest) = Tells g start marks (stops rest)
  Judges marks (over_limit limit rest) = IsReadableThrough marks rest

  -- The same where all marks are to be read: a part is read where they all are.
  abbrev pub JudgesAll : {A : Type 0} → List Mark → Parsed A → Type 0
  JudgesAll marks (parsed part rest) = IsRead g start marks
  JudgesAll marks (failed rest) = Tells g start marks (stops rest)
  JudgesAll marks (over_limit limit rest) = IsReadableThrough marks rest

  -- the same as `Judges` of a refusal, with the marks that are left
  abbrev pub Blames : List Mark → List Mark → Refusal → Type 0
  Blames marks rest Syntax = Tells g start marks (stops rest)
  Blames marks rest (TooMany limit) = IsReadableThrough marks rest
  Blames marks rest OutOfMemory = Unit {0}

  -- the same of what a reader of the code returned, with the marks that it left
  abbrev pub IsVerdict : {A : Type 0} → List Mark → List Mark → Result A Refusal → Type 0
  IsVerdict marks rest (Ok part) = IsReadBefore marks rest
  IsVerdict marks rest (Err refusal) = Blames marks rest refusal
