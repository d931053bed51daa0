-- What a word is, with what clap makes of it.
use Rattle.std.proofs.Common.{◌≡◌, ℕ, ◌==◌, Bool, true, false, cond, not, ◌||◌, [], ◌∷◌, ◌++◌, Option, Some, None, codes, one-add, suc-add, bytes_eq, refl, sym, ap, ap₂, subst, ◌∙◌}
use Rattle.std.specs.List.{after_first, before_first, list_any, prefix_len}
use Rattle.std.proofs.lemmas.Bool.{eq-eqb, eqb-true}
use Rattle.clap.specs.Faults.{long_fault}
use Rattle.clap.specs.Lexer.{long_of, name_and_value, short_of}
use Rattle.clap.specs.Walk.{Held, arg_by_long}
use Rattle.command_line.specs.Commands.{is_no_fault}
use Rattle.command_line.specs.Grammar.{Word, behind_equals_sign, is_equals_sign, plain, sort_by, sort_of_word}
use Rattle.command_line.proofs.Parts.{Valued, limit, name_of, number, pieces, same_name}
use Rattle.command_line.proofs.Rows.{top}

-- ---- the names

pub data Opt : Type 0 where
  a_limit some_pieces a_number : Opt

abbrev pub valued_of : Opt → Valued
valued_of a_limit = limit
valued_of some_pieces = pieces
valued_of a_number = number

abbrev pub option_name : Opt → Word
option_name o = name_of (valued_of o)

pub data Flag : Type 0 where
  serial stats text explain detail : Flag

abbrev pub flag_name : Flag → Word
flag_name serial = codes "serial"
flag_name stats = codes "stats"
flag_name text = codes "text"
flag_name explain = codes "explain"
flag_name detail = codes "detail"

abbrev pub dashed : Word → Word
dashed name = 45 ∷ 45 ∷ name

-- it is none of the names
pub record IsUnnamed (n : Word) : Type 0 where
  pub limit : bytes_eq (codes "limit") n ≡ false
  pub pieces : bytes_eq (codes "pieces") n ≡ false
  pub number : bytes_eq (codes "number") n ≡ false
  pub serial : bytes_eq (codes "serial") n ≡ false
  pub stats : bytes_eq (codes "stats") n ≡ false
  pub text : bytes_eq (codes "text") n ≡ false
  pub explain : bytes_eq (codes "explain") n ≡ false
  pub detail : bytes_eq (codes "detail") n ≡ false

pub data Naming (n : Word) : Type 0 where
  is_option : (o : Opt) → option_name o ≡ n → Naming n
  is_flag : (f : Flag) → flag_name f ≡ n → Naming n
  is_unnamed : IsUnnamed n → Naming n

pub naming : (n : Word) → Naming n
naming n = by_option (bytes_eq (codes "limit") n) (bytes_eq (codes "pieces") n) (bytes_eq (codes "number") n) refl refl refl
  where
    by_flag : (a b c d e : Bool) → bytes_eq (codes "limit") n ≡ false → bytes_eq (codes "pieces") n ≡ false → bytes_eq (codes "number") n ≡ false
        → bytes_eq (codes "serial") n ≡ a → bytes_eq (codes "stats") n ≡ b → bytes_eq (codes "text") n ≡ c → bytes_eq (codes "explain") n ≡ d
        → bytes_eq (codes "detail") n ≡ e → Naming n
    by_flag true b c d e l p m s t x w y = is_flag serial (same_name (codes "serial") n s)
    by_flag false true c d e l p m s t x w y = is_flag stats (same_name (codes "stats") n t)
    by_flag false false true d e l p m s t x w y = is_flag text (same_name (codes "text") n x)
    by_flag false false false true e l p m s t x w y = is_flag explain (same_name (codes "explain") n w)
    by_flag false false false false true l p m s t x w y = is_flag detail (same_name (codes "detail") n y)
    by_flag false false false false false l p m s t x w y =
        is_unnamed (record { limit = l; pieces = p; number = m; serial = s; stats = t; text = x; explain = w; detail = y })

    by_option : (a b c : Bool) → bytes_eq (codes "limit") n ≡ a → bytes_eq (codes "pieces") n ≡ b → bytes_eq (codes "number") n ≡ c → Naming n
    by_option true b c l p m = is_option a_limit (same_name (codes "limit") n l)
    by_option false true c l p m = is_option some_pieces (same_name (codes "pieces") n p)
    by_option false false true l p m = is_option a_number (same_name (codes "number") n m)
    by_option false false false l p m =
        by_flag (bytes_eq (codes "serial") n) (bytes_eq (codes "stats") n) (bytes_eq (codes "text") n) (bytes_eq (codes "explain") n) (bytes_eq (codes "detail") n)
        l p m refl refl refl refl refl

-- ---- cutting a word at its first `=`

front : Word → Word
front word = before_first is_equals_sign word

front_next : (b : ℕ) (word : Word) → (b == 61) ≡ false → front (b ∷ word) ≡ b ∷ front word
unfolding front
front_next b word e = rw e (rw (one-add (prefix_len (λ x. not (is_equals_sign x)) word)) refl)

front_at_once : (b : ℕ) (word : Word) → (b == 61) ≡ true → front (b ∷ word) ≡ []
unfolding front
front_at_once b word e = rw e refl

uncut : (word : Word) → list_any is_equals_sign word ≡ false → front word ≡ word
unfolding front
uncut [] e = refl
uncut (b ∷ word) e = go (b == 61) refl e (λ rest. uncut word rest)
  where
    go : (t : Bool) → (b == 61) ≡ t → (t || list_any is_equals_sign word) ≡ false → (list_any is_equals_sign word ≡ false → front word ≡ word) → front (b ∷ word) ≡ b ∷ word
    go true is e below = absurd cc
    go false is e below = front_next b word is ∙ ap (λ w. b ∷ w) (below e)

behind : Word → Word
behind word = after_first is_equals_sign word

behind_next : (b : ℕ) (word : Word) → (b == 61) ≡ false → behind (b ∷ word) ≡ behind word
unfolding behind
behind_next b word e = rw e (rw (one-add (prefix_len (λ x. not (is_equals_sign x)) word), suc-add (prefix_len (λ x. not (is_equals_sign x)) word) 1) refl)

-- a word with a `=` is what stands in front of the first one, and what stands behind it
first : (b : ℕ) (word : Word) → (b == 61) ≡ true → b ≡ 61 → front (b ∷ word) ++ 61 ∷ behind (b ∷ word) ≡ b ∷ word
unfolding front behind
first b word is same = rw is (ap (λ (n : ℕ). n ∷ word) (sym same))

cut : (word : Word) → list_any is_equals_sign word ≡ true → front word ++ 61 ∷ behind word ≡ word
cut [] e = absurd cc
cut (b ∷ word) e = go (b == 61) refl e (λ rest. cut word rest)
  where
    go : (t : Bool) → (b == 61) ≡ t → (t || list_any is_equals_sign word) ≡ true → (list_any is_equals_sign word ≡ true → front word ++ 61 ∷ behind word ≡ word)
        → front (b ∷ word) ++ 61 ∷ behind (b ∷ word) ≡ b ∷ word
    go true is e below = first b word is (eqb-true b 61 is)
    go false is e below = ap₂ (λ f r. f ++ 61 ∷ r) (front_next b word is) (behind_next b word is) ∙ ap (λ w. b ∷ w) (below e)

-- ---- what clap refuses of words that begin with two hyphens

unnamed_argument : (n : Word) → IsUnnamed n → arg_by_long top.rules n ≡ None
unfolding top
unnamed_argument n is = rw (is.limit, is.pieces, is.number, is.serial, is.stats, is.text, is.explain, is.detail) refl

flag_with_value : (f : Flag) (value : Word) (h : Held) → is_no_fault (long_fault top.rules false (arg_by_long top.rules (flag_name f)) (Some value) h) ≡ false
unfolding top
flag_with_value serial value h = refl
flag_with_value stats value h = refl
flag_with_value text value h = refl
flag_with_value explain value h = refl
flag_with_value detail value h = refl

unnamed_with_value : (n value : Word) → IsUnnamed n → sort_by (dashed n) (Some value) ≡ plain
unnamed_with_value n value is = rw (is.limit, is.pieces, is.number) refl

unnamed_alone : (b : ℕ) (n : Word) → IsUnnamed (b ∷ n) → sort_by (dashed (b ∷ n)) None ≡ plain
unnamed_alone b n is = rw (is.limit, is.pieces, is.number, is.serial, is.stats, is.text, is.explain, is.detail) refl

flag_sort : (f : Flag) (value : Word) → sort_by (dashed (flag_name f)) (Some value) ≡ plain
flag_sort serial value = refl
flag_sort stats value = refl
flag_sort text value = refl
flag_sort explain value = refl
flag_sort detail value = refl

-- ---- all words

-- clap sees no option in the word, and nothing behind hyphens
pub record IsPlain (word : Word) : Type 0 where
  pub dashes : bytes_eq word (dashed []) ≡ false
  pub long : long_of word ≡ None
  pub short : short_of word ≡ None

-- clap refuses the word `--rest`, whatever is held
abbrev pub IsRefused : Word → Type 0
IsRefused rest = (h : Held) → is_no_fault (long_fault top.rules false (arg_by_long top.rules (name_and_value rest).0) (name_and_value rest).1 h) ≡ false

pub data View (word : Word) : Type 0 where
  dashes_view : dashed [] ≡ word → View word
  flag_view : (f : Flag) → dashed (flag_name f) ≡ word → View word
  option_view : (o : Opt) → dashed (option_name o) ≡ word → View word
  valued_view : (o : Opt) (value : Word) → dashed (option_name o ++ 61 ∷ value) ≡ word → View word
  unknown_view : (b : ℕ) (rest : Word) → dashed (b ∷ rest) ≡ word → IsRefused (b ∷ rest) → sort_of_word word ≡ plain → View word
  short_view : (b : ℕ) (rest : Word) → 45 ∷ b ∷ rest ≡ word → (b == 45) ≡ false → sort_of_word word ≡ plain → View word
  plain_view : IsPlain word → sort_of_word word ≡ plain → View word

value_behind : Word → Word → Option Word
value_behind whole word = cond (list_any is_equals_sign word) (Some (after_first is_equals_sign whole)) None

sort_dashed : (rest : Word) → sort_of_word (dashed rest) ≡ sort_by (dashed (front rest)) (value_behind (dashed rest) rest)
unfolding front value_behind
sort_dashed rest = ap (λ (f : Word). sort_by f (value_behind (dashed rest) rest)) (front_next 45 (45 ∷ rest) refl ∙ ap (λ (f : Word). 45 ∷ f) (front_next 45 rest refl))

view_dashed : (b : ℕ) (more : Word) → View (dashed (b ∷ more))
unfolding front behind value_behind
view_dashed b more = go (naming (front (b ∷ more))) (list_any is_equals_sign (b ∷ more)) refl
  where
    go : Naming (front (b ∷ more)) → (t : Bool) → list_any is_equals_sign (b ∷ more) ≡ t → View (dashed (b ∷ more))
    go (is_option o name) false has = option_view o (ap dashed (name ∙ uncut (b ∷ more) has))
    go (is_option o name) true has = valued_view o (behind (b ∷ more)) (ap dashed (ap (λ (n : Word). n ++ 61 ∷ behind (b ∷ more)) name ∙ cut (b ∷ more) has))
    go (is_flag f name) false has = flag_view f (ap dashed (name ∙ uncut (b ∷ more) has))
    go (is_flag f name) true has = unknown_view b more refl
        (λ h. rw (has, ← name) (flag_with_value f (behind (b ∷ more)) h))
        (sort_dashed (b ∷ more) ∙ rw (has, ← name) (flag_sort f (after_first is_equals_sign (dashed (b ∷ more)))))
    go (is_unnamed is) false has = unknown_view b more refl
        (λ h. rw (unnamed_argument (front (b ∷ more)) is) refl)
        (sort_dashed (b ∷ more) ∙ rw (has, uncut (b ∷ more) has) (unnamed_alone b more (subst IsUnnamed (uncut (b ∷ more) has) is)))
    go (is_unnamed is) true has = unknown_view b more refl
        (λ h. rw (unnamed_argument (front (b ∷ more)) is) refl)
        (sort_dashed (b ∷ more) ∙ rw has (unnamed_with_value (front (b ∷ more)) (after_first is_equals_sign (dashed (b ∷ more))) is))

not_same : (b : ℕ) → (b == 45) ≡ false → (45 == b) ≡ false
not_same b e = go (45 == b) refl
  where
    go : (t : Bool) → (45 == b) ≡ t → t ≡ false
    go false is = refl
    go true is = let yes : (b == 45) ≡ true = eq-eqb b 45 (sym (eqb-true 45 b is)) in absurd cc

by_front : (b : ℕ) (word : Word) (P : Word → Type 0) → P [] → P (b ∷ front word) → P (front (b ∷ word))
by_front b word P none some = go (b == 61) refl
  where
    go : (t : Bool) → (b == 61) ≡ t → P (front (b ∷ word))
    go true e = subst P (sym (front_at_once b word e)) none
    go false e = subst P (sym (front_next b word e)) some

sort_empty : (v : Option Word) → sort_by [] v ≡ plain
sort_empty None = refl
sort_empty (Some value) = refl

sort_hyphen : (v : Option Word) → sort_by (45 ∷ []) v ≡ plain
sort_hyphen None = refl
sort_hyphen (Some value) = refl

sort_other : (b : ℕ) (n : Word) (v : Option Word) → (b == 45) ≡ false → sort_by (b ∷ n) v ≡ plain
sort_other b n None e = rw (not_same b e) refl
sort_other b n (Some value) e = rw (not_same b e) refl

sort_short : (b : ℕ) (n : Word) (v : Option Word) → (b == 45) ≡ false → sort_by (45 ∷ b ∷ n) v ≡ plain
sort_short b n None e = rw (not_same b e) refl
sort_short b n (Some value) e = rw (not_same b e) refl

sort_front : (word : Word) → sort_of_word word ≡ sort_by (front word) (behind_equals_sign word)
unfolding front
sort_front word = refl

view_other : (b : ℕ) (rest : Word) → (b == 45) ≡ false → View (b ∷ rest)
view_other b rest e = plain_view (record { dashes = rw e refl; long = rw e refl; short = rw e refl })
    (sort_front (b ∷ rest) ∙ by_front b rest (λ f. sort_by f (behind_equals_sign (b ∷ rest)) ≡ plain) (sort_empty (behind_equals_sign (b ∷ rest)))
    (sort_other b (front rest) (behind_equals_sign (b ∷ rest)) e))

view_short : (b : ℕ) (rest : Word) → (b == 45) ≡ false → View (45 ∷ b ∷ rest)
view_short b rest e = short_view b rest refl e
    (sort_front (45 ∷ b ∷ rest) ∙ ap (λ f. sort_by f (behind_equals_sign (45 ∷ b ∷ rest))) (front_next 45 (b ∷ rest) refl)
    ∙ by_front b rest (λ f. sort_by (45 ∷ f) (behind_equals_sign (45 ∷ b ∷ rest)) ≡ plain) (sort_hyphen (behind_equals_sign (45 ∷ b ∷ rest)))
    (sort_short b (front rest) (behind_equals_sign (45 ∷ b ∷ rest)) e))

view_hyphen : (rest : Word) → View (45 ∷ rest)
view_hyphen [] = plain_view (record { dashes = refl; long = refl; short = refl }) refl
view_hyphen (b ∷ rest) = go (b == 45) refl rest
  where
    go : (t : Bool) → (b == 45) ≡ t → (more : Word) → View (45 ∷ b ∷ more)
    go true e [] = dashes_view (ap (λ (n : ℕ). 45 ∷ n ∷ []) (sym (eqb-true b 45 e)))
    go true e (c ∷ more) = subst (λ (n : ℕ). View (45 ∷ n ∷ c ∷ more)) (sym (eqb-true b 45 e)) (view_dashed c more)
    go false e more = view_short b more e

pub view : (word : Word) → View word
view [] = plain_view (record { dashes = refl; long = refl; short = refl }) refl
view (b ∷ rest) = go (b == 45) refl
  where
    go : (t : Bool) → (b == 45) ≡ t → View (b ∷ rest)
    go true e = subst (λ (n : ℕ). View (n ∷ rest)) (sym (eqb-true b 45 e)) (view_hyphen rest)
    go false e = view_other b rest e
