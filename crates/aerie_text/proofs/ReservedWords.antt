-- A word is found among the reserved words that begin with its first letter.
use Rattle.std.proofs.Common.{◌≡◌, ℕ, Bool, true, false, ◌&&◌, List, [], ◌∷◌, nat_eq, codes, filter, refl, sym, ◌∙◌, subst}
use Rattle.std.proofs.lemmas.Bool.{eqb-true, false≢true}
use Rattle.std.specs.List.{list_all, list_any}
use Rattle.std.specs.Str.{bytes_eq}
use Rattle.aerie_text.specs.Bytes.{begins_with}
use Rattle.aerie_text.specs.Sorts.{reserved_from, reserved_words, sort_in, word_sort}
use Rattle.aerie_text.specs.declared.sorts.Sort.{Sort}
use Rattle.aerie_text.specs.declared.sorts.Sort.TheVariants as sort

both_true : (a b : Bool) → (a && b) ≡ true → (a ≡ true) × (b ≡ true)
both_true true b e = (refl, e)
both_true false b e = absurd (false≢true e)

abbrev pub begins_by : ℕ → (List ℕ × Sort) → Bool
begins_by letter entry = begins_with (λ first. nat_eq first letter) entry.0

other_word : (word : List ℕ) (letter : ℕ) (rest : List ℕ) → begins_with (λ first. nat_eq first letter) word ≡ false → bytes_eq word (letter ∷ rest) ≡ false
other_word [] letter rest e = refl
other_word (first ∷ later) letter rest e = rw e refl

-- the lines of the other letters do not give the word
pub sort_in_filtered : (table : List (List ℕ × Sort)) (otherwise : Sort) (letter : ℕ) (rest : List ℕ)
    → sort_in (filter (begins_by letter) table) otherwise (letter ∷ rest) ≡ sort_in table otherwise (letter ∷ rest)
sort_in_filtered [] otherwise letter rest = refl
sort_in_filtered (entry ∷ later) otherwise letter rest = go (begins_by letter entry) refl (sort_in_filtered later otherwise letter rest)
  where
    go : (v : Bool) → begins_by letter entry ≡ v → sort_in (filter (begins_by letter) later) otherwise (letter ∷ rest) ≡ sort_in later otherwise (letter ∷ rest)
        → sort_in (filter (begins_by letter) (entry ∷ later)) otherwise (letter ∷ rest) ≡ sort_in (entry ∷ later) otherwise (letter ∷ rest)
    go true e same = rw (e, same) refl
    go false e same = rw (e, other_word entry.0 letter rest e) same

-- the letters with which reserved words begin
abbrev pub initials : List ℕ
initials = codes "acdefgiklmnoprstuvw"

abbrev begins_among : (List ℕ × Sort) → Bool
begins_among entry = list_any (λ letter. begins_by letter entry) initials

no_other : (word : List ℕ) (sort : Sort) (letter : ℕ) → list_any (λ initial. begins_by initial (word, sort)) initials ≡ true → list_any (nat_eq letter) initials ≡ false → begins_by letter (word, sort) ≡ false
no_other [] sort letter among none = refl
no_other (first ∷ later) sort letter among none = go (nat_eq first letter) refl
  where
    go : (v : Bool) → nat_eq first letter ≡ v → nat_eq first letter ≡ false
    go false e = e
    go true e =
        let same : first ≡ letter = eqb-true first letter e in
        absurd (false≢true (sym none ∙ subst (λ (x : ℕ). list_any (nat_eq x) initials ≡ true) same among))

none_left : (table : List (List ℕ × Sort)) (letter : ℕ) → list_all begins_among table ≡ true → list_any (nat_eq letter) initials ≡ false → filter (begins_by letter) table ≡ []
none_left [] letter all none = refl
none_left (entry ∷ later) letter all none =
    let both = both_true (begins_among entry) (list_all begins_among later) all in
    rw (no_other entry.0 entry.1 letter both.0 none) (none_left later letter both.1 none)

-- no reserved word begins with another letter
pub none_begins : (letter : ℕ) → list_any (nat_eq letter) initials ≡ false → reserved_from letter ≡ []
none_begins letter none = none_left reserved_words letter refl none

-- the sort of a word that begins with the letter
pub word_by_letter : (letter : ℕ) (rest : List ℕ) → sort_in (reserved_from letter) sort.Name (letter ∷ rest) ≡ word_sort (letter ∷ rest)
unfolding word_sort
word_by_letter letter rest = sort_in_filtered reserved_words sort.Name letter rest
