-- When two grammars read the same tokens.
use Rattle.std.specs.Prelude.{◌≡◌, Bool, true, false, List}
use Rattle.readers.specs.grammar.Forms.{Form, token, rule, nothing, both, either, many, Grammar}
use Rattle.readers.specs.grammar.Readings.{IsReadable, IsRead}

-- Readings of the one grammar from the one rule, and of the other from the other, read the same tokens.
pub record AreAlike {Rule Other Sort Token : Type 0} (g : Grammar Rule Sort Token) (start : Rule) (h : Grammar Other Sort Token) (other : Other) : Type 0 where
  pub readable : (tokens : List Token) → IsReadable g start tokens → IsReadable h other tokens
  pub readable_back : (tokens : List Token) → IsReadable h other tokens → IsReadable g start tokens
  pub read : (tokens : List Token) → IsRead g start tokens → IsRead h other tokens
  pub read_back : (tokens : List Token) → IsRead h other tokens → IsRead g start tokens

-- a form with each of its rules replaced
abbrev pub rewritten : {Rule Other Sort : Type 0} → (Rule → Form Other Sort) → Form Rule Sort → Form Other Sort
rewritten means (token t) = token t
rewritten means (rule r) = means r
rewritten means nothing = nothing
rewritten means (both a b) = both (rewritten means a) (rewritten means b)
rewritten means (either a b) = either (rewritten means a) (rewritten means b)
rewritten means (many a) = many (rewritten means a)

abbrev pub is_rule : {Rule Sort : Type 0} → Form Rule Sort → Bool
is_rule (token t) = false
is_rule (rule r) = true
is_rule nothing = false
is_rule (both a b) = false
is_rule (either a b) = false
is_rule (many a) = false

module _ {Rule Other Sort Token : Type 0} (h : Grammar Other Sort Token) (g : Grammar Rule Sort Token) (means : Other → Form Rule Sort) where
  -- What a rule of the first grammar is in the second: a rule with the same form, or no rule at all, its form standing
  -- wherever the first grammar names it.
  pub data StandsFor : Other → Type 0 where
    named : {r : Other} (s : Rule) → means r ≡ rule s → rewritten means (h.form r) ≡ g.form s → StandsFor r
    inlined : {r : Other} → means r ≡ rewritten means (h.form r) → is_rule (h.form r) ≡ false → StandsFor r

  -- The first grammar is the second, with some forms given rules of their own.
  pub record IsNamed : Type 0 where
    pub same_fits : (t : Sort) (k : Token) → h.fits t k ≡ g.fits t k
    pub stands : (r : Other) → StandsFor r
