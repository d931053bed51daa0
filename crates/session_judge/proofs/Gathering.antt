-- Rules that are gathered part by part belong to the parts.
use Rattle.std.proofs.Common.{◌≡◌, ℕ, suc, ◌+◌, ◌<◌, IsTrue, Bool, List, [], ◌∷◌, ◌++◌, take, drop, drop-cons, length, get_or, add-one, Option, Some, None, Ok, Err, IfOk, refl, sym, ap, subst, ◌∙◌, append-nil}
use Rattle.std.proofs.lemmas.List.{take_more}
use Rattle.session_reader.specs.Sections.{TokenRange}
use Rattle.session_judge.specs.FirstRefused.{RulesAnswer, SectionRefusal, accepted_rules, begin_of, first_of_both, first_refused_section, in_front_of, refusal_in, unless_section_refused}
use Rattle.session_judge.specs.OfModels.{AreEach}
use Rattle.session_judge.proofs.FirstOfBoth.{first_of_three, taken_on}

module _ {P A : Type 0} (test : P → A → Bool) where
  one_more : (parts : List P) (rules : List A) (part : P) (more : A) → AreEach test parts rules → IsTrue (test part more) → AreEach test (parts ++ part ∷ []) (rules ++ more ∷ [])
  one_more [] [] part more are is = (is, tt)
  one_more [] (r ∷ rules) part more are is = absurd are
  one_more (p ∷ parts) [] part more are is = absurd are
  one_more (p ∷ parts) (r ∷ rules) part more are is = (are.0, one_more parts rules part more are.1 is)

  -- the rules of one model more, where nothing was refused
  pub taken_of_models : (parts : List P) (part : P) (rules : List A) (begin : ℕ) (refused : Option SectionRefusal) (answer : RulesAnswer A)
      → (refused ≡ None → AreEach test parts rules) → IfOk answer (λ more. IsTrue (test part more))
      → first_of_both refused (refusal_in begin answer) ≡ None → AreEach test (parts ++ part ∷ []) (rules ++ in_front_of answer [])
  taken_of_models parts part rules begin None (Ok more) are is none = one_more parts rules part more (are refl) is
  taken_of_models parts part rules begin (Some one) (Ok more) are is none = absurd cc
  taken_of_models parts part rules begin None (Err refusal) are is none = absurd cc
  taken_of_models parts part rules begin (Some one) (Err refusal) are is none = absurd cc

  -- all of them, where nothing was refused
  pub all_of_models : (parts : List P) (rules : List A) (refused : Option SectionRefusal) → (refused ≡ None → AreEach test parts rules) → IfOk (unless_section_refused refused rules) (AreEach test parts)
  all_of_models parts rules None are = are refl
  all_of_models parts rules (Some one) are = tt

-- ---- one model more

module _ {P A : Type 0} (section : P → Option TokenRange) (answer : P → RulesAnswer A) (test : P → A → Bool)
    (items : List P) (i : ℕ) (part : P) (within : i < length items) (is : part ≡ get_or items i part) where
  cut : drop i items ≡ part ∷ drop (i + 1) items
  cut = rw add-one (drop-cons items i part within ∙ ap (λ (x : P). x ∷ drop (suc i) items) (sym is))

  pub next_rules : (rules more : List A) (given : RulesAnswer A) → rules ++ accepted_rules answer (drop i items) ≡ accepted_rules answer items
      → more ≡ rules ++ in_front_of given [] → given ≡ answer part → more ++ accepted_rules answer (drop (i + 1) items) ≡ accepted_rules answer items
  next_rules rules more given so_far are given_is =
      ap (λ (row : List A). row ++ accepted_rules answer (drop (i + 1) items)) (are ∙ ap (λ (g : RulesAnswer A). rules ++ in_front_of g []) given_is)
      ∙ taken_on rules (accepted_rules answer (drop (i + 1) items)) (answer part)
      ∙ ap (λ (row : List P). rules ++ accepted_rules answer row) (sym cut)
      ∙ so_far

  pub next_refused : (refused more : Option SectionRefusal) (given : RulesAnswer A) (begin : ℕ) → first_of_both refused (first_refused_section section answer (drop i items)) ≡ first_refused_section section answer items
      → more ≡ first_of_both refused (refusal_in begin given) → given ≡ answer part → begin ≡ begin_of (section part)
      → first_of_both more (first_refused_section section answer (drop (i + 1) items)) ≡ first_refused_section section answer items
  next_refused refused more given begin so_far are given_is begin_is =
      ap (λ (one : Option SectionRefusal). first_of_both one (first_refused_section section answer (drop (i + 1) items)))
      (are ∙ ap (λ (g : RulesAnswer A). first_of_both refused (refusal_in begin g)) given_is ∙ ap (λ (b : ℕ). first_of_both refused (refusal_in b (answer part))) begin_is)
      ∙ first_of_three refused (refusal_in (begin_of (section part)) (answer part)) (first_refused_section section answer (drop (i + 1) items))
      ∙ ap (λ (row : List P). first_of_both refused (first_refused_section section answer row)) (sym cut)
      ∙ so_far

  pub next_of_models : (rules more : List A) (refused later : Option SectionRefusal) (given : RulesAnswer A) (begin : ℕ) → (refused ≡ None → AreEach test (take i items) rules)
      → IfOk given (λ one. IsTrue (test part one)) → more ≡ rules ++ in_front_of given [] → later ≡ first_of_both refused (refusal_in begin given)
      → later ≡ None → AreEach test (take (i + 1) items) more
  next_of_models rules more refused later given begin so_far given_of are later_is none =
      subst (λ (row : List P). AreEach test row more) (ap (λ (x : P). take i items ++ x ∷ []) is ∙ sym (take_more items i part within))
      (subst (AreEach test (take i items ++ part ∷ [])) (sym are)
      (taken_of_models test (take i items) part rules begin refused given so_far given_of (sym later_is ∙ none)))

-- ---- all of them

with_none : (refused : Option SectionRefusal) → first_of_both refused None ≡ refused
with_none None = refl
with_none (Some one) = refl

-- what was gathered where nothing is left
pub gathered_all : {A : Type 0} (rules all : List A) (refused first : Option SectionRefusal) → rules ++ [] ≡ all → first_of_both refused None ≡ first
    → unless_section_refused refused rules ≡ unless_section_refused first all
gathered_all {A} rules all refused first are is =
    ap (λ (one : Option SectionRefusal). unless_section_refused one rules) (sym (with_none refused) ∙ is)
    ∙ ap (λ (row : List A). unless_section_refused first row) (sym (append-nil rules) ∙ are)
