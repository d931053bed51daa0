-- What the tokens of a text say of their texts and places.
use Rattle.std.proofs.Common.{◌≡◌, ℕ, ◌+◌, ◌<◌, ◌≤◌, ◌&&◌, nat_le, ◌∙◌, Bool, true, false, not, List, [], ◌∷◌, ◌++◌, length, drop, get_or, refl, sym, subst, arith, append_assoc}
use Rattle.std.specs.Char.{is_ascii_digit}
use Rattle.std.specs.List.{list_all}
use Rattle.std.specs.Str.{bytes_eq}
use Rattle.std.specs.Str.Parse.{AllDigits}
use Rattle.std.proofs.lemmas.Bool.{false≢true}
use Rattle.std.proofs.lemmas.Bool.Decides.{nat_tests}
use Rattle.std.proofs.lemmas.List.{drop_more}
use Rattle.std.proofs.lemmas.Str.{chars-nil}
use Rattle.aerie_base.specs.Names.{begins_as_name, is_name, is_name_byte}
use Rattle.aerie_text.specs.Bytes.{begins_with, is_letter, is_word_byte}
use Rattle.aerie_text.specs.Cut.{AreTokens, one_more, IsBlank, nothing, gap, IsTokenOf}
use Rattle.aerie_text.specs.Gaps.{gap_len}
use Rattle.aerie_text.specs.Marks.{AreTokensWithin}
use Rattle.aerie_text.specs.Places.{place_of}
use Rattle.aerie_text.specs.Sorts.{same_sort, sort_in, sort_of_kind, symbol_sort, symbols}
use Rattle.aerie_text.specs.TokenTexts.{IsTextOf, word}
use Rattle.aerie_text.specs.declared.sorts.Sort.{Sort}
use Rattle.aerie_text.specs.declared.sorts.Sort.TheVariants as sort
use Rattle.aerie_text.specs.declared.token.Token.{Token}
use Rattle.aerie_text.specs.declared.token.TokenKind.{TokenKind}
use Rattle.aerie_text.specs.declared.token.TokenKind.TheVariants as kind
use Rattle.aerie_text.proofs.Cuts.{are_tokens}
use Rattle.aerie_text.proofs.Figures.{digit_below}

both_true : (a b : Bool) → (a && b) ≡ true → (a ≡ true) × (b ≡ true)
both_true true b e = (refl, e)
both_true false b e = absurd (false≢true e)

not_true : (b : Bool) → not b ≡ true → b ≡ false
not_true true e = absurd (false≢true e)
not_true false e = refl

pub all_digits : (text : List ℕ) → list_all is_ascii_digit text ≡ true → AllDigits 10 text
all_digits [] e = tt
all_digits (byte ∷ rest) e =
    let both = both_true (is_ascii_digit byte) (list_all is_ascii_digit rest) e in
    (digit_below byte both.0, all_digits rest both.1)

-- ---- names

-- what a table gives is what one of its lines gives, or else the other sort
sort_in_has : (test : Sort → Bool) (table : List (List ℕ × Sort)) (otherwise : Sort) (text : List ℕ)
    → list_all (λ entry. test entry.1) table ≡ true → test otherwise ≡ true → test (sort_in table otherwise text) ≡ true
sort_in_has test [] otherwise text lines other = other
sort_in_has test (entry ∷ later) otherwise text lines other =
    let both = both_true (test entry.1) (list_all (λ line. test line.1) later) lines in
    go (bytes_eq entry.0 text) refl both.0 (sort_in_has test later otherwise text both.1 other)
  where
    go : (v : Bool) → bytes_eq entry.0 text ≡ v → test entry.1 ≡ true → test (sort_in later otherwise text) ≡ true → test (sort_in (entry ∷ later) otherwise text) ≡ true
    go true e here there = rw e here
    go false e here there = rw e there

symbol_no_name : (text : List ℕ) → same_sort sort.Name (symbol_sort text) ≡ false
unfolding symbol_sort
symbol_no_name text = not_true _ (sort_in_has (λ s. not (same_sort sort.Name s)) symbols sort.Arrow text refl refl)

name_byte : (byte : ℕ) → is_word_byte byte ≡ true → is_name_byte byte ≡ true
name_byte byte e = grind (arith, nat_tests)

no_digit : (byte : ℕ) → is_letter byte ≡ true → not (is_ascii_digit byte) ≡ true
no_digit byte e = grind (arith, nat_tests)

name_bytes : (text : List ℕ) → list_all is_word_byte text ≡ true → list_all is_name_byte text ≡ true
name_bytes [] e = refl
name_bytes (byte ∷ rest) e =
    let both = both_true (is_word_byte byte) (list_all is_word_byte rest) e in
    rw (name_byte byte both.0) (name_bytes rest both.1)

begins_name : (text : List ℕ) → begins_with is_letter text ≡ true → begins_as_name text ≡ true
begins_name [] e = absurd (false≢true e)
begins_name (first ∷ rest) e = no_digit first e

short_name : (n : ℕ) → n ≤ 64 → nat_le n 64 ≡ true
short_name n le = grind (arith, nat_tests)

-- the text of a word is a name
word_is_name : (text : List ℕ) → begins_with is_letter text ≡ true → list_all is_word_byte text ≡ true → length text ≤ 64 → is_name text ≡ true
word_is_name text begins bytes short = rw (begins_name text begins, short_name (length text) short, name_bytes text bytes) refl

-- the text of a token of the sort of names is a name
pub name_text : (k : TokenKind) (text : List ℕ) → IsTextOf k text → same_sort sort.Name (sort_of_kind k text) ≡ true → is_name text ≡ true
name_text kind.Word text (word all begins bytes short) e = word_is_name text begins bytes short
name_text kind.Number text is e = absurd (false≢true e)
name_text kind.Duration text is e = absurd (false≢true e)
name_text kind.Quoted text is e = absurd (false≢true e)
name_text kind.Raw text is e = absurd (false≢true e)
name_text kind.Symbol text is e = absurd (false≢true (sym (symbol_no_name text) ∙ e))

-- ---- tokens in a row

-- from the place on these tokens stand in the text, and others may follow
abbrev pub Goes : List ℕ → ℕ → List Token → Type 0
Goes text at tokens = (from : ℕ) × (behind : List Token) × (at ≤ from) × AreTokens text from (tokens ++ behind) (length text)

blank_rises : (text : List ℕ) (at to : ℕ) → IsBlank text at to → at ≤ to
blank_rises text at to (nothing here) = omega arith
blank_rises text at to (gap here there positive blank) = omega (arith, blank_rises text (at + gap_len (drop at text)) to blank)

split : (text : List ℕ) (at to : ℕ) (before later : List Token) → AreTokens text at (before ++ later) to → (from : ℕ) × (at ≤ from) × AreTokens text from later to
split text at to [] later are = (at, omega arith, are)
split text at to (first ∷ before) later (one_more here there token behind blank is rest) =
    let next = split text token.to to before later rest in
    (next.0, omega (arith, blank_rises text at token.from blank, is.rises, next.1), next.2)

pub goes_first : (text : List ℕ) (tokens : List Token) → AreTokensWithin text tokens → Goes text 0 tokens
goes_first text tokens within =
    let found = split text 0 (length text) within.before (tokens ++ within.behind) (subst (λ (all : List Token). AreTokens text 0 all (length text)) (append_assoc within.before tokens within.behind) (are_tokens text (within.before ++ tokens ++ within.behind) within.are)) in
    (found.0, within.behind, found.1, found.2)

-- what is known where a token stands in front
pub record Next (text : List ℕ) (at : ℕ) (token : Token) (later : List Token) : Type 0 where
  pub rises : at ≤ token.from
  pub is : IsTokenOf text token
  pub goes : Goes text token.from later

next_of : (text : List ℕ) (at from : ℕ) (token : Token) (later behind : List Token) → at ≤ from → AreTokens text from (token ∷ (later ++ behind)) (length text) → Next text at token later
next_of text at from token later behind le (one_more here there first others blank is rest) =
    record {
      rises = omega (arith, le, blank_rises text from token.from blank);
      is = is;
      goes = (token.to, behind, omega (arith, is.rises), rest);
    }

pub goes_next : (text : List ℕ) (at : ℕ) (token : Token) (later : List Token) → Goes text at (token ∷ later) → Next text at token later
goes_next text at token later goes = next_of text at goes.0 token later goes.1 goes.2 goes.3

-- the same at an index
pub goes_at : (text : List ℕ) (at i : ℕ) (tokens : List Token) (d : Token) → i < length tokens → Goes text at (drop i tokens) → Next text at (get_or tokens i d) (drop (i + 1) tokens)
goes_at text at i tokens d lt goes = goes_next text at (get_or tokens i d) (drop (i + 1) tokens) (subst (Goes text at) (drop_more tokens i d lt) goes)

-- the first place of a text
pub first_place : (text : List ℕ) → record { line = 1; column = 1 } ≡ place_of text 0
first_place text = rw chars-nil refl
