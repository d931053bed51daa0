-- Where its tables are right for each rule, one token of lookahead decides in a grammar.
use Rattle.std.proofs.Common.{◌≡◌, ℕ, Bool, true, false, not, ◌&&◌, ◌||◌, List, [], ◌∷◌, ◌++◌, nat_eq, IsTrue, refl, sym, ap, ◌∙◌, subst, arith, inl, inr, ◌⊎◌}
use Rattle.readers.specs.grammar.Forms.{Form, token, rule, nothing, both, either, many}
use Rattle.readers.specs.grammar.Lookahead.{Lookahead, nullable, in_first}
use Rattle.readers.specs.grammar.Predictive.{IsPredictive, IsDecided, apart}
use Rattle.readers.specs.grammar.Tables.{Tables, where_true, is_among, disjoint, within, look_by_number, firsts, chooses, decides, are_right, Decide}

or_assoc : (a b c : Bool) → ((a || b) || c) ≡ (a || (b || c))
or_assoc true b c = refl
or_assoc false b c = refl

and_left : (a b : Bool) → IsTrue (a && b) → IsTrue a
and_left true b h = refl
and_left false b h = h

and_right : (a b : Bool) → IsTrue (a && b) → IsTrue b
and_right true b h = h
and_right false b h = cc

both_not : (a b : Bool) → (IsTrue a → IsTrue b → ⊥) → IsTrue (not (a && b))
both_not true true h = absurd (h refl refl)
both_not true false h = refl
both_not false b h = refl

four_true : (a b c d : Bool) → IsTrue a → IsTrue b → IsTrue c → IsTrue d → IsTrue (a && b && c && d)
four_true a b c d i j k l = grind arith

contrary : (a : Bool) → IsTrue (not a) → IsTrue a → ⊥
contrary true h i = cc
contrary false h i = cc

or_nothing : (a : Bool) → (a || false) ≡ a
or_nothing true = refl
or_nothing false = refl

four_parts : (a b c d : Bool) → IsTrue (a && b && c && d) → IsTrue a × IsTrue b × IsTrue c × IsTrue d
four_parts true true true true h = (refl, refl, refl, refl)
four_parts true true true false h = cc
four_parts true true false d h = cc
four_parts true false c d h = cc
four_parts false b c d h = cc

implied : (a b : Bool) → IsTrue (not a || b) → IsTrue a → IsTrue b
implied true b h i = h
implied false b h i = cc

equal_numbers : (a b : ℕ) → IsTrue (nat_eq a b) → a ≡ b
equal_numbers a b h = grind arith

itself : (a : ℕ) → IsTrue (nat_eq a a)
itself a = grind arith

module _ {Sort : Type 0} (number : Sort → ℕ) where
  among_append : (xs ys : List Sort) (n : ℕ) → is_among number (xs ++ ys) n ≡ (is_among number xs n || is_among number ys n)
  among_append [] ys n = refl
  among_append (x ∷ xs) ys n = rw (among_append xs ys n) (sym (or_assoc (nat_eq (number x) n) (is_among number xs n) (is_among number ys n)))

  among_where : (v : Bool) (xs : List Sort) (n : ℕ) → is_among number (where_true v xs) n ≡ (v && is_among number xs n)
  among_where true xs n = refl
  among_where false xs n = refl

  -- the first of the sorts, or one of the others
  among_cases : (x : Sort) (xs : List Sort) (n : ℕ) → IsTrue (is_among number (x ∷ xs) n) → (number x ≡ n) ⊎ IsTrue (is_among number xs n)
  among_cases x xs n h = by_test (nat_eq (number x) n) refl h
    where
      by_test : (v : Bool) → nat_eq (number x) n ≡ v → IsTrue (v || is_among number xs n) → (number x ≡ n) ⊎ IsTrue (is_among number xs n)
      by_test true e i = inl (equal_numbers (number x) n e)
      by_test false e i = inr i

  in_both : (xs ys : List Sort) (n : ℕ) → IsTrue (disjoint number xs ys) → IsTrue (is_among number xs n) → IsTrue (is_among number ys n) → ⊥
  in_both [] ys n d h i = cc
  in_both (x ∷ xs) ys n d h i = elim (among_cases x xs n h) [
    | inl e ↦ contrary (is_among number ys (number x)) (and_left (not (is_among number ys (number x))) (disjoint number xs ys) d) (subst (λ (m : ℕ). IsTrue (is_among number ys m)) (sym e) i)
    | inr j ↦ in_both xs ys n (and_right (not (is_among number ys (number x))) (disjoint number xs ys) d) j i
  ]

  in_larger : (xs ys : List Sort) (n : ℕ) → IsTrue (within number xs ys) → IsTrue (is_among number xs n) → IsTrue (is_among number ys n)
  in_larger [] ys n w h = cc
  in_larger (x ∷ xs) ys n w h = elim (among_cases x xs n h) [
    | inl e ↦ subst (λ (m : ℕ). IsTrue (is_among number ys m)) e (and_left (is_among number ys (number x)) (within number xs ys) w)
    | inr j ↦ in_larger xs ys n (and_right (is_among number ys (number x)) (within number xs ys) w) j
  ]

module _ {Rule Sort : Type 0} (number : Sort → ℕ) (tables : Tables Rule Sort) where
  abbrev pub look : Lookahead Rule Sort ℕ
  look = look_by_number number tables

  abbrev pub Firsts : Form Rule Sort → List Sort
  Firsts a = firsts number tables a

  -- a form begins with the sorts that are listed
  begins_same : (a : Form Rule Sort) (n : ℕ) → in_first look a n ≡ is_among number (Firsts a) n
  begins_same (token t) n = sym (or_nothing (nat_eq (number t) n))
  begins_same (rule r) n = refl
  begins_same nothing n = refl
  begins_same (both a b) n =
      rw (begins_same a n, begins_same b n) (sym (among_append number (Firsts a) (where_true (nullable look a) (Firsts b)) n ∙ ap (λ (v : Bool). is_among number (Firsts a) n || v) (among_where number (nullable look a) (Firsts b) n)))
  begins_same (either a b) n = rw (begins_same a n, begins_same b n) (sym (among_append number (Firsts a) (Firsts b) n))
  begins_same (many a) n = begins_same a n

  begun : (a : Form Rule Sort) (n : ℕ) → IsTrue (in_first look a n) → IsTrue (is_among number (Firsts a) n)
  begun a n h = sym (begins_same a n) ∙ h

  -- the tokens that may stand behind a form, as a function and as a list
  abbrev pub Same : (ℕ → Bool) → List Sort → Type 0
  Same follow behind = (n : ℕ) → follow n ≡ is_among number behind n

  where_behind : (v : Bool) (follow : ℕ → Bool) (behind : List Sort) → Same follow behind → (n : ℕ) → IsTrue (v && follow n) → IsTrue (is_among number (where_true v behind) n)
  where_behind v follow behind s n h = among_where number v behind n ∙ ap (λ (x : Bool). v && x) (sym (s n)) ∙ h

  same_next : (b : Form Rule Sort) (follow : ℕ → Bool) (behind : List Sort) → Same follow behind → Same (λ n. in_first look b n || (nullable look b && follow n)) (Firsts b ++ where_true (nullable look b) behind)
  same_next b follow behind s n =
      rw (begins_same b n, s n) (sym (among_append number (Firsts b) (where_true (nullable look b) behind) n ∙ ap (λ (v : Bool). is_among number (Firsts b) n || v) (among_where number (nullable look b) behind n)))

  same_iteration : (a : Form Rule Sort) (follow : ℕ → Bool) (behind : List Sort) → Same follow behind → Same (λ n. in_first look a n || follow n) (Firsts a ++ behind)
  same_iteration a follow behind s n = rw (begins_same a n, s n) (sym (among_append number (Firsts a) behind n))

  chosen : (a b : Form Rule Sort) (follow : ℕ → Bool) (behind : List Sort) → Same follow behind → IsTrue (chooses number tables a b behind) → (n : ℕ) → IsTrue (apart look a b follow n)
  chosen a b follow behind s c n =
      let i = and_right (not (nullable look a && nullable look b)) _ c in
      let j = and_right (disjoint number (Firsts a) (Firsts b)) _ i in
      four_true (not (nullable look a && nullable look b)) (not (in_first look a n && in_first look b n)) (not (in_first look a n && (nullable look b && follow n))) (not (in_first look b n && (nullable look a && follow n)))
      (and_left (not (nullable look a && nullable look b)) _ c)
      (both_not (in_first look a n) (in_first look b n) (λ x y. in_both number (Firsts a) (Firsts b) n (and_left (disjoint number (Firsts a) (Firsts b)) _ i) (begun a n x) (begun b n y)))
      (both_not (in_first look a n) (nullable look b && follow n) (λ x y. in_both number (Firsts a) (where_true (nullable look b) behind) n (and_left (disjoint number (Firsts a) (where_true (nullable look b) behind)) _ j) (begun a n x) (where_behind (nullable look b) follow behind s n y)))
      (both_not (in_first look b n) (nullable look a && follow n) (λ x y. in_both number (Firsts b) (where_true (nullable look a) behind) n (and_right (disjoint number (Firsts a) (where_true (nullable look b) behind)) _ j) (begun b n x) (where_behind (nullable look a) follow behind s n y)))

  decided_by : (a : Form Rule Sort) (follow : ℕ → Bool) (behind : List Sort) → Same follow behind → IsTrue (decides number tables a behind) → IsDecided look a follow
  decided_by (token t) follow behind s d = tt
  decided_by (rule r) follow behind s d = λ n h. in_larger number behind (tables.follow r) n d (sym (s n) ∙ h)
  decided_by nothing follow behind s d = tt
  decided_by (both a b) follow behind s d = (
    decided_by a _ (Firsts b ++ where_true (nullable look b) behind) (same_next b follow behind s) (and_left (decides number tables a (Firsts b ++ where_true (nullable look b) behind)) _ d),
    decided_by b follow behind s (and_right (decides number tables a (Firsts b ++ where_true (nullable look b) behind)) _ d),
  )
  decided_by (either a b) follow behind s d =
      let i = and_right (decides number tables a behind) _ d in (
        decided_by a follow behind s (and_left (decides number tables a behind) _ d),
        decided_by b follow behind s (and_left (decides number tables b behind) _ i),
        chosen a b follow behind s (and_right (decides number tables b behind) _ i),
      )
  decided_by (many a) follow behind s d =
      let i = and_right (decides number tables a (Firsts a ++ behind)) _ d in (
        decided_by a _ (Firsts a ++ behind) (same_iteration a follow behind s) (and_left (decides number tables a (Firsts a ++ behind)) _ d),
        and_left (not (nullable look a)) _ i,
        λ n. both_not (in_first look a n) (follow n) (λ x y. in_both number (Firsts a) behind n (and_right (not (nullable look a)) _ i) (begun a n x) (sym (s n) ∙ y)),
      )

  right_parts : (r : Rule) → IsTrue (are_right number tables r)
      → IsTrue (not (nullable look (tables.form r)) || tables.nullable r)
      × IsTrue (not (tables.nullable r) || nullable look (tables.form r))
      × IsTrue (within number (Firsts (tables.form r)) (tables.first r))
      × IsTrue (within number (tables.first r) (Firsts (tables.form r)))
  right_parts r h =
      four_parts (not (nullable look (tables.form r)) || tables.nullable r) (not (tables.nullable r) || nullable look (tables.form r)) (within number (Firsts (tables.form r)) (tables.first r))
      (within number (tables.first r) (Firsts (tables.form r))) h

  pub predictive_by_tables : Decide number tables → IsPredictive look
  predictive_by_tables h = record {
    nullable_rule = λ r i. let p = right_parts r (h.right r) in implied (nullable look (tables.form r)) (tables.nullable r) p.0 i;
    rule_nullable = λ r i. let p = right_parts r (h.right r) in implied (tables.nullable r) (nullable look (tables.form r)) p.1 i;
    first_rule = λ r n i. let p = right_parts r (h.right r) in in_larger number (Firsts (tables.form r)) (tables.first r) n p.2 (begun (tables.form r) n i);
    rule_first = λ r n i. let p = right_parts r (h.right r) in begins_same (tables.form r) n ∙ in_larger number (tables.first r) (Firsts (tables.form r)) n p.3 i;
    decided = λ r. decided_by (tables.form r) (λ n. is_among number (tables.follow r) n) (tables.follow r) (λ n. refl) (h.decided r);
    shallow_rule = h.shallow_rule;
  }
