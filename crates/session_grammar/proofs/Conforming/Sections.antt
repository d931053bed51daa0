-- What is read of sections conforms to the grammar of sessions.
use Rattle.std.proofs.Common.{◌≡◌, ℕ, suc, Bool, true, false, ◌||◌, not, List, [], ◌∷◌, IsTrue, refl, sym, ap, ◌∙◌, arith}
use Rattle.aerie_text.specs.Sorts.{number_of}
use Rattle.aerie_text.specs.declared.sorts.Sort.{Sort}
use Rattle.aerie_text.specs.declared.sorts.Sort.TheVariants as sort
use Rattle.readers.specs.Conforms.{Covers, GoesAlong}
use Rattle.readers.specs.Marks.{Mark}
use Rattle.readers.specs.Parsed.{taken as taken_mark}
use Rattle.readers.specs.Within.{is_within}
use Rattle.readers.specs.grammar.Forms.{Form, both, many, option, rule, token}
use Rattle.readers.specs.grammar.LazyReadings.{first_of_two, read, second_of_two, stop}
use Rattle.readers.specs.grammar.Lookahead.{in_first, nullable}
use Rattle.readers.specs.grammar.Notation.{one_of}
use Rattle.readers.specs.grammar.Tables.{is_among}
use Rattle.readers.proofs.Conforming.{and_then, then_value, value, Begins, begins_both, failed_conforms, option_conforms, repeated_conforms, rule_conforms}
use Rattle.readers.proofs.Grammars.Parsing.{first_read, second_read, token_read}
use Rattle.session_grammar.specs.grammar.Embedding.{one_of_all}
use Rattle.session_grammar.specs.grammar.Factored.{look, named_form}
use Rattle.session_grammar.specs.grammar.Rules.{Rule, rules_rule}
use Rattle.session_grammar.specs.grammar.Terminals.{Terminal, class_of, fits, id_limit, number_of_terminal, plain}
use Rattle.session_grammar.specs.grammar.Written.{is_brace, rule_terminals}
use Rattle.session_grammar.specs.reading.Sections.{is_no_brace, rule_token_at, rules_at, some_model_at, of_model_at, section_at, sections_with}
use Rattle.session_grammar.proofs.Conforming.Directives.{Along, IsPlain, taken, begins_with}
use Rattle.session_grammar.proofs.Conforming.Mappings.{raw_named_law}
use Rattle.session_grammar.proofs.Conforming.Terminals.{class}
use Rattle.session_grammar.proofs.Grammar.Predictive.{predictive}

-- ---- a token of one of some terminals

or_nothing : (a : Bool) → (a || false) ≡ a
or_nothing true = refl
or_nothing false = refl

-- with which marks it begins
among_begins : (t : Terminal) (others : List Terminal) (k : Mark) → in_first look (one_of t others) k ≡ is_among number_of_terminal (t ∷ others) (class_of k)
among_begins t [] k = sym (or_nothing (fits t k))
among_begins t (other ∷ others) k = ap (λ (v : Bool). fits t k || v) (among_begins other others k)

some_read : (t : Terminal) (others : List Terminal) → nullable look (one_of t others) ≡ false
some_read t [] = refl
some_read t (other ∷ others) = some_read other others

module _ (k : Mark) (rest : List Mark) where
  covers_token : (t : Terminal) → IsTrue (fits t k) → Covers look (token t) (k ∷ rest) rest
  covers_token t h = record { front = k ∷ []; is = refl; some = λ e. omega arith; reads = token_read look t k rest h; whole = λ xs. (1, read h stop) }

  -- the mark is of one of the terminals
  covers_one : (t : Terminal) (others : List Terminal) → IsTrue (is_among number_of_terminal (t ∷ others) (class_of k)) → Covers look (one_of t others) (k ∷ rest) rest
  covers_one t [] h = covers_token t (sym (or_nothing (fits t k)) ∙ h)
  covers_one t (other ∷ others) h = by_first (fits t k) refl h (λ i. covers_one other others i)
    where
      by_first : (v : Bool) → fits t k ≡ v → IsTrue (v || is_among number_of_terminal (other ∷ others) (class_of k))
          → (IsTrue (is_among number_of_terminal (other ∷ others) (class_of k)) → Covers look (one_of other others) (k ∷ rest) rest) → Covers look (one_of t (other ∷ others)) (k ∷ rest) rest
      by_first true e h later = let c = covers_token t e in record {
        front = k ∷ [];
        is = refl;
        some = λ e. omega arith;
        reads = first_read look (token t) (one_of other others) (k ∷ rest) rest e c.reads;
        whole = λ xs. (2, first_of_two (read e stop));
      }
      by_first false e h later = let c = later h in record {
        front = c.front;
        is = c.is;
        some = λ f. c.some (some_read other others);
        reads = second_read look (token t) (one_of other others) (k ∷ rest) rest e refl c.reads;
        whole = λ xs. let i = c.whole xs in (suc i.0, second_of_two i.1);
      }

  one_goes : (t : Terminal) (others : List Terminal) (v : Bool) → is_among number_of_terminal (t ∷ others) (class_of k) ≡ v
      → GoesAlong look (one_of t others) (k ∷ rest) (taken_mark v (tt {0}) (k ∷ rest) rest)
  one_goes t others true e = covers_one t others e
  one_goes t others false e = let s = failed_conforms {A = Unit {0}} {a = one_of t others} {marks = k ∷ rest} (among_begins t others k ∙ e) (some_read t others) in s.goes

-- ---- rules

all_begin : (ts : List Terminal) (k : Mark) → in_first look (one_of_all ts) k ≡ is_among number_of_terminal ts (class_of k)
all_begin [] k = refl
all_begin (t ∷ others) k = among_begins t others k

all_go : (k : Mark) (rest : List Mark) (ts : List Terminal) (v : Bool) → nullable look (one_of_all ts) ≡ false → is_among number_of_terminal ts (class_of k) ≡ v
    → GoesAlong look (one_of_all ts) (k ∷ rest) (taken_mark v (tt {0}) (k ∷ rest) rest)
all_go k rest [] v some e = cc
all_go k rest (t ∷ others) v some e = one_goes k rest t others v e

-- each sort but the braces has its terminals among those of rules
every_class : (s : Sort) (i z : Bool) → not (is_brace s) ≡ is_among number_of_terminal rule_terminals (class i z (number_of s))
every_class sort.Number true z = refl
every_class sort.Number false z = refl
every_class sort.Time i true = refl
every_class sort.Time i false = refl
every_class s i z = refl

every_mark : (k : Mark) → is_no_brace k ≡ is_among number_of_terminal rule_terminals (class_of k)
every_mark k = every_class k.sort (is_within 0 id_limit k.number) (is_within 0 0 k.number)

rule_token_law : (unit : Unit {0}) (marks : List Mark) → Along (one_of_all rule_terminals) marks (rule_token_at unit marks)
rule_token_law unit [] = failed_conforms refl refl
rule_token_law unit (k ∷ rest) = record { goes = all_go k rest rule_terminals (is_no_brace k) refl (sym (every_mark k)) }

rule_begins : Begins look is_no_brace (one_of_all rule_terminals)
rule_begins = record { is = λ k. every_mark k ∙ sym (all_begin rule_terminals k) }

pub rules_law : (marks : List Mark) → Along (rule rules_rule) marks (rules_at marks)
unfolding rules_at
rules_law marks = rule_conforms predictive (repeated_conforms tt rule_begins refl (λ now here next. rule_token_law now here))

-- ---- sections

some_model_law : (marks : List Mark) → Along (named_form sort.Of) marks (some_model_at marks)
unfolding some_model_at
some_model_law marks = then_value _ (raw_named_law sort.Of (refl, refl) marks) (λ name rest. value)

pub of_model_law : (marks : List Mark) → Along (option (named_form sort.Of)) marks (of_model_at marks)
unfolding of_model_at
of_model_law marks = option_conforms _ _ (begins_both (begins_with sort.Of (refl, refl)) refl) (λ next. some_model_law marks) value

-- a section whose word is of a terminal
abbrev section_of : Terminal → Form Rule Terminal
section_of t = both (token t) (both (option (named_form sort.Of)) (both (token (plain sort.OpenBrace)) (both (rule rules_rule) (token (plain sort.CloseBrace)))))

section_law : (s : Sort) → IsPlain s → (count : ℕ) (marks : List Mark) → Along (section_of (plain s)) marks (section_at s count marks)
unfolding section_at
section_law s is count marks =
    and_then _ (taken s _ is) (λ word rest. and_then _ (of_model_law rest) (λ model rest. and_then _ (taken sort.OpenBrace _ (refl, refl)) (λ front rest.
    and_then _ (rules_law rest) (λ rules rest. then_value _ (taken sort.CloseBrace _ (refl, refl)) (λ end rest. value)))))

pub sections_with_law : (s : Sort) → IsPlain s → (count : ℕ) (marks : List Mark) → Along (many (section_of (plain s))) marks (sections_with s count marks)
unfolding sections_with
sections_with_law s is count marks =
    repeated_conforms [] (begins_both (begins_with s is) refl) refl (λ now here next. then_value _ (section_law s is count here) (λ last rest. value))
