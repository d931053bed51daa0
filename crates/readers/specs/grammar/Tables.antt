-- A grammar with its tables: for each rule the sorts of tokens with which it begins and those that may follow it. Whether the
-- next token decides each choice is then computed.
use Rattle.std.specs.Prelude.{ℕ, Bool, true, false, not, ◌&&◌, ◌||◌, List, [], ◌∷◌, ◌++◌, nat_eq, IsTrue}
use Rattle.readers.specs.grammar.Forms.{Form, token, rule, nothing, both, either, many}
use Rattle.readers.specs.grammar.Lookahead.{Lookahead, nullable}
use Rattle.readers.specs.grammar.Predictive.{shallow}

-- the forms of the rules; whether a rule may read nothing, with which sorts of tokens it begins, and which may follow it; and
-- how many rules are opened, one inside another, before a token is read
pub record Tables (Rule Sort : Type 0) : Type 0 where
  pub form : Rule → Form Rule Sort
  pub nullable : Rule → Bool
  pub first : Rule → List Sort
  pub follow : Rule → List Sort
  pub openings : ℕ

-- the list where the test holds, else nothing
abbrev pub where_true : {A : Type 0} → Bool → List A → List A
where_true true xs = xs
where_true false xs = []

-- Sorts are told by their numbers.
module _ {Sort : Type 0} (number : Sort → ℕ) where
  -- whether a number is that of the sort
  abbrev pub is_number_of : Sort → ℕ → Bool
  is_number_of sort n = nat_eq (number sort) n

  -- whether a number is that of one of the sorts
  abbrev pub is_among : List Sort → ℕ → Bool
  is_among [] n = false
  is_among (sort ∷ sorts) n = is_number_of sort n || is_among sorts n

  -- none of the first sorts is one of the second
  abbrev pub disjoint : List Sort → List Sort → Bool
  disjoint [] others = true
  disjoint (sort ∷ sorts) others = not (is_among others (number sort)) && disjoint sorts others

  -- each of the first sorts is one of the second
  abbrev pub within : List Sort → List Sort → Bool
  within [] others = true
  within (sort ∷ sorts) others = is_among others (number sort) && within sorts others

module _ {Rule Sort : Type 0} (number : Sort → ℕ) (tables : Tables Rule Sort) where
  -- the lookahead of the tables, over the numbers of sorts
  abbrev pub look_by_number : Lookahead Rule Sort ℕ
  look_by_number =
      record {
        grammar = record { fits = λ t n. is_number_of number t n; form = tables.form };
        nullable = tables.nullable;
        first = λ r n. is_among number (tables.first r) n;
        follow = λ r n. is_among number (tables.follow r) n;
        openings = tables.openings;
      }

  -- whether a form may read nothing
  abbrev pub form_nullable : Form Rule Sort → Bool
  form_nullable a = nullable look_by_number a

  -- with which sorts of tokens a form begins
  abbrev pub firsts : Form Rule Sort → List Sort
  firsts (token t) = t ∷ []
  firsts (rule r) = tables.first r
  firsts nothing = []
  firsts (both a b) = firsts a ++ where_true (form_nullable a) (firsts b)
  firsts (either a b) = firsts a ++ firsts b
  firsts (many a) = firsts a

  -- whether one token decides between two forms, where tokens of these sorts may stand behind them
  abbrev pub chooses : Form Rule Sort → Form Rule Sort → List Sort → Bool
  chooses a b behind =
      not (form_nullable a && form_nullable b)
      && (disjoint number (firsts a) (firsts b) && (disjoint number (firsts a) (where_true (form_nullable b) behind) && disjoint number (firsts b) (where_true (form_nullable a) behind)))

  -- whether one token decides each choice in a form, where tokens of these sorts may stand behind it
  abbrev pub decides : Form Rule Sort → List Sort → Bool
  decides (token t) behind = true
  decides (rule r) behind = within number behind (tables.follow r)
  decides nothing behind = true
  decides (both a b) behind = decides a (firsts b ++ where_true (form_nullable b) behind) && decides b behind
  decides (either a b) behind = decides a behind && (decides b behind && chooses a b behind)
  decides (many a) behind = decides a (firsts a ++ behind) && (not (form_nullable a) && disjoint number (firsts a) behind)

  -- whether the tables say of a rule what its form says
  abbrev pub are_right : Rule → Bool
  are_right r =
      (not (form_nullable (tables.form r)) || tables.nullable r)
      && (not (tables.nullable r) || form_nullable (tables.form r))
      && within number (firsts (tables.form r)) (tables.first r)
      && within number (tables.first r) (firsts (tables.form r))

  -- By the tables one token of lookahead decides in the grammar: they are right, one token decides each choice in each form,
  -- and each rule comes to a token within the number of openings. For a grammar at hand each line is by computation.
  pub record Decide : Type 0 where
    pub right : (r : Rule) → IsTrue (are_right r)
    pub decided : (r : Rule) → IsTrue (decides (tables.form r) (tables.follow r))
    pub shallow_rule : (r : Rule) → IsTrue (shallow look_by_number tables.openings (rule r))
