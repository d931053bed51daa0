-- A part that is read already, and the symbol that ends it.
use Rattle.std.specs.Prelude.{List}
use Rattle.aerie_text.specs.declared.sorts.Sort.{Sort}
use Rattle.readers.specs.Marks.{Mark}
use Rattle.readers.specs.Parsed.{Parsed, parsed, ◌>>=◌, take_at}

-- the part, behind which stands a symbol of this sort
abbrev pub ended_by : {A : Type 0} → Sort → A → List Mark → Parsed A
ended_by sort part marks = take_at sort marks >>= λ end. parsed part end.1
