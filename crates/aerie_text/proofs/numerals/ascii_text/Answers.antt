use Rattle.std.proofs.lemmas.Str.{IsUtf8-from_ascii}
use Rattle.aerie_text.proofs.Figures.{ok_where}
use Rattle.aerie_text.proofs.numerals.ascii_text.Goals as goal

pub unwrap-requires : goal.unwrap-requires
unwrap-requires c = ok_where _ _ _ _ c.from_utf8.ensures.cases (IsUtf8-from_ascii _ c.requires)
