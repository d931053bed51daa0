-- Reading which edge of a span is meant.
use Rattle.std.specs.Prelude.{Bool, List, [], ◌∷◌}
use Rattle.aerie_base.specs.declared.places.Place.{Place}
use Rattle.aerie_base.specs.declared.plans.Edge.{Edge}
use Rattle.aerie_base.specs.declared.plans.Edge.TheVariants as edge
use Rattle.aerie_text.specs.declared.sorts.Sort.TheVariants as sort
use Rattle.readers.specs.Marks.{Mark}
use Rattle.readers.specs.Parsed.{Parsed, parsed, ◌>>=◌, is_one_of, one_of_at}

abbrev pub is_edge : Mark → Bool
is_edge = is_one_of (sort.Start ∷ sort.End ∷ [])

-- "start" | "end", with its place
unfoldable pub placed_edge_at : List Mark → Parsed (Place × Edge)
placed_edge_at marks = one_of_at ((sort.Start, edge.Start) ∷ (sort.End, edge.End) ∷ []) marks

-- "start" | "end"
unfoldable pub edge_at : List Mark → Parsed Edge
edge_at marks = do
  edge ← placed_edge_at marks
  parsed edge.0.1 edge.1
