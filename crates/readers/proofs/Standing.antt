-- What a reader knows of the tokens that are left.
use Rattle.std.proofs.Common.{◌≡◌, ℕ, ◌+◌, ◌-◌, ◌<◌, ◌≤◌, add-zero, get_or, Bool, true, false, ◌||◌, ◌∙◌, List, [], ◌∷◌, ◌++◌, take, drop, Ok, IsUtf8, ap, sym, refl, arith, subst, append_assoc}
use Rattle.std.specs.Str.{IsCharBoundary}
use Rattle.std.proofs.lemmas.List.{get_or-drop, take-append-drop}
use Rattle.std.proofs.lemmas.Str.{IsCharBoundary-before_ascii}
use Rattle.aerie_base.specs.Names.{is_name}
use Rattle.aerie_base.specs.declared.places.Place.{Place}
use Rattle.aerie_text.specs.Cut.{IsAtEdges, IsTokenOf}
use Rattle.aerie_text.specs.Marks.{AreTokensWithin, slice_of, sort_of}
use Rattle.aerie_text.specs.Places.{place_of}
use Rattle.aerie_text.specs.Sorts.{same_sort}
use Rattle.aerie_text.specs.declared.sorts.Sort.{Sort}
use Rattle.aerie_text.specs.declared.sorts.Sort.TheVariants.{Name}
use Rattle.aerie_text.specs.declared.token.Token.{Token}
use Rattle.aerie_text.proofs.Beginnings.{token_facts}
use Rattle.aerie_text.proofs.Cuts.{token_edges}
use Rattle.aerie_text.proofs.Marking.{Goes, Next, goes_first, goes_next, name_text}
use Rattle.readers.specs.Parsed.{is_sort_among}
use Rattle.readers.specs.States.{AreOfFirst, BeginsFrom}

-- tokens behind others of a row stand in a row themselves
pub tokens_behind : (text : List ℕ) (tokens : List Token) (from : ℕ) → AreTokensWithin text tokens → AreTokensWithin text (drop from tokens)
tokens_behind text tokens from within =
    record {
      before = within.before ++ take from tokens;
      behind = within.behind;
      are =
          within.are
          ∙ ap (λ (row : List Token). Ok (within.before ++ row ++ within.behind)) (sym (take-append-drop from tokens))
          ∙ ap (λ (row : List Token). Ok (row ++ within.behind)) (sym (append_assoc within.before (take from tokens) (drop from tokens)));
    }

from_first : (text : List ℕ) (at : ℕ) (tokens : List Token) → Goes text at tokens → BeginsFrom at tokens
from_first text at [] goes = tt
from_first text at (token ∷ later) goes = let next = goes_next text at token later goes in next.rises

module _ (text : List ℕ) (tokens : List Token) (token : Token) (later : List Token) (are : tokens ≡ token ∷ later) (within : AreTokensWithin text tokens) where
  in_a_row : AreTokensWithin text (token ∷ later)
  in_a_row = subst (AreTokensWithin text) are within

  next : Next text 0 token later
  next = goes_next text 0 token later (goes_first text (token ∷ later) in_a_row)

  -- the first is a token of the text
  pub is_token : IsTokenOf text token
  is_token = next.is

  -- it stands at the edges of characters
  pub is_at_edges : IsUtf8 text → IsAtEdges text token
  is_at_edges utf8 = token_edges text token utf8 next.is

  -- a character begins with it
  pub is_edge : IsCharBoundary text token.from
  is_edge =
      let is = is_token in
      let facts = token_facts (drop token.from text) token.kind (token.to - token.from) is.read in
      let below : get_or text (token.from + 0) 0 < 128 = subst (λ (byte : ℕ). byte < 128) (get_or-drop token.from text 0 0) facts.first in
      IsCharBoundary-before_ascii text token.from (omega (arith, is.rises, is.within)) (subst (λ (at : ℕ). get_or text at 0 < 128) (add-zero token.from) below)

  -- the others stand in a row behind it
  pub later_within : AreTokensWithin text later
  later_within = tokens_behind text (token ∷ later) 1 in_a_row

  pub begin_later : BeginsFrom token.from later
  begin_later = from_first text token.from later next.goes

  -- its sort and its place are those that the reader keeps
  pub kept_first : (sort : Sort) (at : Place) → AreOfFirst text tokens sort at → (sort ≡ sort_of text token) × (at ≡ place_of text token.from)
  kept_first sort at kept = subst (λ (row : List Token). AreOfFirst text row sort at) are kept

pub begin_anywhere : (tokens : List Token) → BeginsFrom 0 tokens
begin_anywhere [] = tt
begin_anywhere (token ∷ later) = omega arith

pub begins_first : (tokens : List Token) (token : Token) (later : List Token) → tokens ≡ token ∷ later → BeginsFrom token.from tokens
begins_first tokens token later are = let at : token.from ≤ token.from = omega arith in subst (BeginsFrom token.from) (sym are) at

-- the text of a token of the sort of names is a name
pub is_named : (text : List ℕ) (token : Token) → IsTokenOf text token → same_sort Name (sort_of text token) ≡ true → is_name (slice_of text token.from token.to) ≡ true
is_named text token is named = name_text token.kind (slice_of text token.from token.to) is.longest.matches.is_token named

pub among_first : (sort : Sort) (others : List Sort) (here : Sort) → is_sort_among (sort ∷ others) here ≡ (same_sort sort here || is_sort_among others here)
among_first sort [] here = none_more (same_sort sort here)
  where
    none_more : (v : Bool) → v ≡ (v || false)
    none_more true = refl
    none_more false = refl
among_first sort (other ∷ others) here = refl
