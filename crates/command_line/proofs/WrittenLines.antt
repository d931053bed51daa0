-- Command lines and what they are cut into; the order of parts.
use Rattle.std.proofs.Common.{◌≡◌, Bool, true, false, cond, not, ◌&&◌, ◌||◌, List, [], ◌∷◌, ◌++◌, Option, Some, None, codes, bytes_eq, find, option_map, refl, sym, ap, ap₂, subst, ◌∙◌}
use Rattle.command_line.specs.Grammar.{CommandPart, Word, flag_part, flags, mode_part, options, parts_behind_dashes, parts_from, with_part}
use Rattle.command_line.specs.Invocations.{are_different, invocation_by, invocation_in, is_part, says_true, value_in}
use Rattle.command_line.specs.WrittenLines.{CommandLine, CutWordsAreLines, LinesAreCut, OrderMakesNoDifference, equals_and, flag_and, hyphens, hyphens_and_mode, is_name_in, line_parts, line_words, mode_and, nothing, option_and}
use Rattle.command_line.proofs.Ends.{same_by}
use Rattle.command_line.proofs.Parts.{and_both, is_itself, or_none, other_name, same_name}
use Rattle.command_line.proofs.AsWritten.{dashes_parts, flag_parts, option_parts, plain_parts, valued_parts, waits_parts}
use Rattle.command_line.proofs.WordSorts.{Flag, Naming, Opt, View, a_limit, a_number, dashed, dashes_view, detail, explain, flag_name, flag_view, is_flag, is_option, is_unnamed, naming, option_name, option_view, plain_view, serial, short_view, some_pieces, stats, text, unknown_view, valued_view, view}

-- ---- names of flags and options

no_flag : (o : Opt) → is_name_in flags (option_name o) ≡ true → ⊥
no_flag a_limit e = absurd cc
no_flag some_pieces e = absurd cc
no_flag a_number e = absurd cc

no_option : (f : Flag) → is_name_in options (flag_name f) ≡ true → ⊥
no_option serial e = absurd cc
no_option stats e = absurd cc
no_option text e = absurd cc
no_option explain e = absurd cc
no_option detail e = absurd cc

flag_known : (f : Flag) → is_name_in flags (flag_name f) ≡ true
flag_known serial = refl
flag_known stats = refl
flag_known text = refl
flag_known explain = refl
flag_known detail = refl

option_known : (o : Opt) → is_name_in options (option_name o) ≡ true
option_known a_limit = refl
option_known some_pieces = refl
option_known a_number = refl

known_flag : (name : Word) → is_name_in flags name ≡ true → (f : Flag) × (flag_name f ≡ name)
known_flag name known = go (naming name)
  where
    go : Naming name → (f : Flag) × (flag_name f ≡ name)
    go (is_flag f e) = (f, e)
    go (is_option o e) = absurd (no_flag o (subst (λ (n : Word). is_name_in flags n ≡ true) (sym e) known))
    go (is_unnamed is) = let none : is_name_in flags name ≡ false = rw (is.serial, is.stats, is.text, is.explain, is.detail) refl in absurd cc

known_option : (name : Word) → is_name_in options name ≡ true → (o : Opt) × (option_name o ≡ name)
known_option name known = go (naming name)
  where
    go : Naming name → (o : Opt) × (option_name o ≡ name)
    go (is_option o e) = (o, e)
    go (is_flag f e) = absurd (no_option f (subst (λ (n : Word). is_name_in options n ≡ true) (sym e) known))
    go (is_unnamed is) = let none : is_name_in options name ≡ false = rw (is.limit, is.pieces, is.number) refl in absurd cc

-- ---- command lines are cut

flag_cut : (name : Word) (rest : List Word) → is_name_in flags name ≡ true → parts_from (dashed name ∷ rest) None ≡ with_part (flag_part name) (parts_from rest None)
flag_cut name rest known =
    let f = known_flag name known in
    subst (λ (n : Word). parts_from (dashed n ∷ rest) None ≡ with_part (flag_part n) (parts_from rest None)) f.1 (flag_parts f.0 rest)

option_cut : (name value : Word) (rest : List Word) → is_name_in options name ≡ true
    → parts_from (dashed name ∷ value ∷ rest) None ≡ with_part (name, value) (parts_from rest None)
option_cut name value rest known =
    let o = known_option name known in
    subst (λ (n : Word). parts_from (dashed n ∷ value ∷ rest) None ≡ with_part (n, value) (parts_from rest None)) o.1
    (option_parts o.0 (value ∷ rest) ∙ waits_parts (option_name o.0) value rest)

equals_parts : (o : Opt) (value : Word) (rest : List Word) → parts_from ((codes "--" ++ option_name o ++ codes "=" ++ value) ∷ rest) None ≡ with_part (option_name o, value) (parts_from rest None)
equals_parts a_limit value rest = valued_parts a_limit value rest
equals_parts some_pieces value rest = valued_parts some_pieces value rest
equals_parts a_number value rest = valued_parts a_number value rest

equals_cut : (name value : Word) (rest : List Word) → is_name_in options name ≡ true
    → parts_from ((codes "--" ++ name ++ codes "=" ++ value) ∷ rest) None ≡ with_part (name, value) (parts_from rest None)
equals_cut name value rest known =
    let o = known_option name known in
    subst (λ (n : Word). parts_from ((codes "--" ++ n ++ codes "=" ++ value) ∷ rest) None ≡ with_part (n, value) (parts_from rest None)) o.1 (equals_parts o.0 value rest)

nothing_cut : parts_from [] None ≡ Some []
unfolding parts_from
nothing_cut = refl

pub lines_are_cut : LinesAreCut
lines_are_cut nothing = nothing_cut
lines_are_cut hyphens = dashes_parts []
lines_are_cut (hyphens_and_mode word) = dashes_parts (word ∷ [])
lines_are_cut (mode_and word sort line) = plain_parts word (line_words line) sort ∙ ap (with_part (mode_part word)) (lines_are_cut line)
lines_are_cut (flag_and name known line) = flag_cut name (line_words line) known ∙ ap (with_part (flag_part name)) (lines_are_cut line)
lines_are_cut (option_and name value known line) = option_cut name value (line_words line) known ∙ ap (with_part (name, value)) (lines_are_cut line)
lines_are_cut (equals_and name value known line) = equals_cut name value (line_words line) known ∙ ap (with_part (name, value)) (lines_are_cut line)

equals_word : (o : Opt) (value : Word) → codes "--" ++ option_name o ++ codes "=" ++ value ≡ dashed (option_name o ++ 61 ∷ value)
equals_word a_limit value = refl
equals_word some_pieces value = refl
equals_word a_number value = refl

-- ---- what is cut is a command line

abbrev Line : List Word → List CommandPart → Type 0
Line words parts = (line : CommandLine) × (line_words line ≡ words) × (line_parts line ≡ parts)

taken_apart : (p : CommandPart) (o : Option (List CommandPart)) (parts : List CommandPart) → with_part p o ≡ Some parts → (more : List CommandPart) × (o ≡ Some more) × (p ∷ more ≡ parts)
taken_apart p None parts e = absurd cc
taken_apart p (Some more) parts e = (more, refl, cc)

-- an option that waits for its value stands in front
data Waits : Type 0 where
  free : Waits
  option_behind : Opt → Waits

abbrev name_in : Waits → Option Word
name_in free = None
name_in (option_behind o) = Some (option_name o)

abbrev whole : Waits → List Word → List Word
whole free words = words
whole (option_behind o) words = dashed (option_name o) ∷ words

abbrev Lines : List Word → Type 0
Lines words = (w : Waits) (parts : List CommandPart) → parts_from words (name_in w) ≡ Some parts → Line (whole w words) parts

none_waits : (name : Word) (parts : List CommandPart) → parts_from [] (Some name) ≡ Some parts → ⊥
unfolding parts_from
none_waits name parts e = cc

at_nothing : Lines []
at_nothing free parts e = (nothing, refl, some_same (sym nothing_cut ∙ e))
  where
    some_same : {parts : List CommandPart} → Some [] ≡ Some parts → [] ≡ parts
    some_same same = cc
at_nothing (option_behind o) parts e = absurd (none_waits (option_name o) parts e)

behind_hyphens : (words : List Word) (parts : List CommandPart) → parts_behind_dashes words ≡ Some parts → Line (dashed [] ∷ words) parts
behind_hyphens [] parts e = (hyphens, refl, cc)
behind_hyphens (word ∷ []) parts e = (hyphens_and_mode word, refl, cc)
behind_hyphens (word ∷ other ∷ more) parts e = absurd cc

-- a word in front of a line
in_front : (word : Word) (rest : List Word) (p : CommandPart) (parts : List CommandPart) → Lines rest → with_part p (parts_from rest None) ≡ Some parts
    → ((line : CommandLine) → line_words line ≡ rest → (longer : CommandLine) × (line_words longer ≡ word ∷ rest) × (line_parts longer ≡ p ∷ line_parts line)) → Line (word ∷ rest) parts
in_front word rest p parts next e longer =
    let apart = taken_apart p (parts_from rest None) parts e in
    let line = next free apart.0 apart.1 in
    let all = longer line.0 line.1 in
    (all.0, all.1, all.2 ∙ ap (λ more. p ∷ more) line.2 ∙ apart.2)

at_word : (word : Word) → View word → (rest : List Word) → Lines rest → (parts : List CommandPart) → parts_from (word ∷ rest) None ≡ Some parts → Line (word ∷ rest) parts
at_word word (dashes_view is) rest next parts e =
    subst (λ (w : Word). Line (w ∷ rest) parts) is (behind_hyphens rest parts (sym (dashes_parts rest) ∙ ap (λ (w : Word). parts_from (w ∷ rest) None) is ∙ e))
at_word word (flag_view f is) rest next parts e =
    in_front word rest (flag_part (flag_name f)) parts next (sym (flag_parts f rest) ∙ ap (λ (w : Word). parts_from (w ∷ rest) None) is ∙ e)
    (λ line same. (flag_and (flag_name f) (flag_known f) line, ap₂ (λ (w : Word) (r : List Word). w ∷ r) is same, refl))
at_word word (option_view o is) rest next parts e =
    subst (λ (w : Word). Line (w ∷ rest) parts) is (next (option_behind o) parts (sym (option_parts o rest) ∙ ap (λ (w : Word). parts_from (w ∷ rest) None) is ∙ e))
at_word word (valued_view o value is) rest next parts e =
    in_front word rest (option_name o, value) parts next (sym (valued_parts o value rest) ∙ ap (λ (w : Word). parts_from (w ∷ rest) None) is ∙ e)
    (λ line same. (equals_and (option_name o) value (option_known o) line, ap₂ (λ (w : Word) (r : List Word). w ∷ r) (equals_word o value ∙ is) same, refl))
at_word word (unknown_view b more is refuses sort) rest next parts e =
    in_front word rest (mode_part word) parts next (sym (plain_parts word rest sort) ∙ e) (λ line same. (mode_and word sort line, ap (λ (r : List Word). word ∷ r) same, refl))
at_word word (short_view b more is other sort) rest next parts e =
    in_front word rest (mode_part word) parts next (sym (plain_parts word rest sort) ∙ e) (λ line same. (mode_and word sort line, ap (λ (r : List Word). word ∷ r) same, refl))
at_word word (plain_view is sort) rest next parts e =
    in_front word rest (mode_part word) parts next (sym (plain_parts word rest sort) ∙ e) (λ line same. (mode_and word sort line, ap (λ (r : List Word). word ∷ r) same, refl))

at_value : (o : Opt) (word : Word) (rest : List Word) → Lines rest → (parts : List CommandPart) → parts_from (word ∷ rest) (Some (option_name o)) ≡ Some parts
    → Line (dashed (option_name o) ∷ word ∷ rest) parts
at_value o word rest next parts e =
    let apart = taken_apart (option_name o, word) (parts_from rest None) parts (sym (waits_parts (option_name o) word rest) ∙ e) in
    let line = next free apart.0 apart.1 in
    (option_and (option_name o) word (option_known o) line.0, ap (λ (r : List Word). dashed (option_name o) ∷ word ∷ r) line.1, ap (λ more. (option_name o, word) ∷ more) line.2 ∙ apart.2)

lines_of : (words : List Word) → Lines words
lines_of [] w parts e = at_nothing w parts e
lines_of (word ∷ rest) free parts e = at_word word (view word) rest (λ w ps same. lines_of rest w ps same) parts e
lines_of (word ∷ rest) (option_behind o) parts e = at_value o word rest (λ w ps same. lines_of rest w ps same) parts e

pub cut_words_are_lines : CutWordsAreLines
cut_words_are_lines words parts e = lines_of words free parts e

-- ---- the order of parts

not_true : (t : Bool) → not t ≡ true → t ≡ false
not_true false e = refl
not_true true e = absurd cc

same_either_way : (a b : Word) → bytes_eq a b ≡ bytes_eq b a
same_either_way a b = go (bytes_eq a b) refl
  where
    go : (t : Bool) → bytes_eq a b ≡ t → t ≡ bytes_eq b a
    go false e = sym (other_name a b e)
    go true e = sym (subst (λ (w : Word). bytes_eq b w ≡ true) (sym (same_name a b e)) (is_itself b))

or_swap : (a b c : Bool) → (a || (b || c)) ≡ (b || (a || c))
or_swap true true c = refl
or_swap true false c = refl
or_swap false true c = refl
or_swap false false c = refl

there_swapped : (front behind : List CommandPart) (p q : CommandPart) (name : Word) → is_part name (front ++ p ∷ q ∷ behind) ≡ is_part name (front ++ q ∷ p ∷ behind)
there_swapped [] behind p q name = or_swap (bytes_eq p.0 name) (bytes_eq q.0 name) (is_part name behind)
there_swapped (r ∷ front) behind p q name = ap (λ t. bytes_eq r.0 name || t) (there_swapped front behind p q name)

and_swap : (same a b d : Bool) → (not (same || a) && (not b && d)) ≡ (not (same || b) && (not a && d))
and_swap true a b d = refl
and_swap false true true d = refl
and_swap false true false d = refl
and_swap false false true d = refl
and_swap false false false d = refl

different_swapped : (front behind : List CommandPart) (p q : CommandPart) → are_different (front ++ p ∷ q ∷ behind) ≡ are_different (front ++ q ∷ p ∷ behind)
different_swapped [] behind p q =
    ap (λ t. not (t || is_part p.0 behind) && (not (is_part q.0 behind) && are_different behind)) (same_either_way q.0 p.0)
    ∙ and_swap (bytes_eq p.0 q.0) (is_part p.0 behind) (is_part q.0 behind) (are_different behind)
different_swapped (r ∷ front) behind p q = ap₂ (λ s t. not s && t) (there_swapped front behind p q r.0) (different_swapped front behind p q)

apart : (front behind : List CommandPart) (p q : CommandPart) → are_different (front ++ p ∷ q ∷ behind) ≡ true → bytes_eq q.0 p.0 ≡ false
apart [] behind p q d =
    let parts = and_both (not (bytes_eq q.0 p.0 || is_part p.0 behind)) (not (is_part q.0 behind) && are_different behind) d in
    (or_none (bytes_eq q.0 p.0) (is_part p.0 behind) (not_true (bytes_eq q.0 p.0 || is_part p.0 behind) parts.0)).0
apart (r ∷ front) behind p q d =
    let parts = and_both (not (is_part r.0 (front ++ p ∷ q ∷ behind))) (are_different (front ++ p ∷ q ∷ behind)) d in apart front behind p q parts.1

value_swapped : (front behind : List CommandPart) (p q : CommandPart) (name : Word) → bytes_eq q.0 p.0 ≡ false
    → value_in (front ++ p ∷ q ∷ behind) name ≡ value_in (front ++ q ∷ p ∷ behind) name
value_swapped [] behind p q name different = go (bytes_eq p.0 name) (bytes_eq q.0 name) refl refl
  where
    go : (s t : Bool) → bytes_eq p.0 name ≡ s → bytes_eq q.0 name ≡ t
        → option_map (λ (part : CommandPart). part.1) (cond s (Some p) (cond t (Some q) (find (λ part. bytes_eq part.0 name) behind)))
        ≡ option_map (λ (part : CommandPart). part.1) (cond t (Some q) (cond s (Some p) (find (λ part. bytes_eq part.0 name) behind)))
    go true true one other =
        let same : q.0 ≡ p.0 = same_name q.0 name other ∙ sym (same_name p.0 name one) in
        let yes : bytes_eq q.0 p.0 ≡ true = subst (λ (w : Word). bytes_eq q.0 w ≡ true) same (is_itself q.0) in absurd cc
    go true false one other = refl
    go false true one other = refl
    go false false one other = refl
value_swapped (r ∷ front) behind p q name different = go (bytes_eq r.0 name) (value_swapped front behind p q name different)
  where
    go : (t : Bool) → value_in (front ++ p ∷ q ∷ behind) name ≡ value_in (front ++ q ∷ p ∷ behind) name
        → option_map (λ (part : CommandPart). part.1) (cond t (Some r) (find (λ part. bytes_eq part.0 name) (front ++ p ∷ q ∷ behind)))
        ≡ option_map (λ (part : CommandPart). part.1) (cond t (Some r) (find (λ part. bytes_eq part.0 name) (front ++ q ∷ p ∷ behind)))
    go true e = refl
    go false e = e

pub order_makes_no_difference : OrderMakesNoDifference
order_makes_no_difference front behind one other = go (are_different (front ++ one ∷ other ∷ behind)) refl
  where
    values : bytes_eq other.0 one.0 ≡ false → invocation_by (value_in (front ++ one ∷ other ∷ behind)) ≡ invocation_by (value_in (front ++ other ∷ one ∷ behind))
    values e = same_by (value_in (front ++ one ∷ other ∷ behind)) (value_in (front ++ other ∷ one ∷ behind))
        (λ name. ap says_true (value_swapped front behind one other name e)) (value_swapped front behind one other (codes "mode") e)
        (value_swapped front behind one other (codes "limit") e) (value_swapped front behind one other (codes "pieces") e) (value_swapped front behind one other (codes "number") e)

    go : (t : Bool) → are_different (front ++ one ∷ other ∷ behind) ≡ t
        → invocation_in (front ++ one ∷ other ∷ behind) ≡ invocation_in (front ++ other ∷ one ∷ behind)
    go true d = rw (d, sym (different_swapped front behind one other) ∙ d) (values (apart front behind one other d))
    go false d = rw (d, sym (different_swapped front behind one other) ∙ d) refl
