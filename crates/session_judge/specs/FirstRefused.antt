-- Sections of one sort: the rules of all models, or the refusal that stands first in the text.
use Rattle.std.specs.Prelude.{ℕ, List, [], ◌∷◌, Option, Some, None, Result, Ok, Err, nat_lt, if◌then◌else◌}
use Rattle.refusal_text.specs.declared.refusals.Refusal.{Refusal}
use Rattle.session_reader.specs.Sections.{TokenRange}

-- rules, or why they are refused
abbrev pub RulesAnswer : Type 0 → Type 0
RulesAnswer A = Result A Refusal

-- a refusal, and the number of the first token of its section
abbrev pub SectionRefusal : Type 0
SectionRefusal = ℕ × Refusal

-- the number of the first token of a section
abbrev pub begin_of : Option TokenRange → ℕ
begin_of None = 0
begin_of (Some range) = range.0

-- the one whose section begins first
abbrev pub first_of_two : SectionRefusal → SectionRefusal → SectionRefusal
first_of_two one other = if nat_lt other.0 one.0 then other else one

abbrev pub first_of_both : Option SectionRefusal → Option SectionRefusal → Option SectionRefusal
first_of_both None other = other
first_of_both (Some one) None = Some one
first_of_both (Some one) (Some other) = Some (first_of_two one other)

module _ {A : Type 0} where
  abbrev pub refusal_in : ℕ → RulesAnswer A → Option SectionRefusal
  refusal_in begin (Ok rules) = None
  refusal_in begin (Err refusal) = Some (begin, refusal)

  abbrev pub in_front_of : RulesAnswer A → List A → List A
  in_front_of (Ok rules) later = rules ∷ later
  in_front_of (Err refusal) later = later

  abbrev pub unless_section_refused : Option SectionRefusal → List A → RulesAnswer (List A)
  unless_section_refused None rules = Ok rules
  unless_section_refused (Some refused) rules = Err refused.1

-- The parts are models, with what else their rules are read by; each has a section or none.
module _ {P A : Type 0} where
  -- of the parts' sections that are refused, the refusal of the one that begins first
  abbrev pub first_refused_section : (P → Option TokenRange) → (P → RulesAnswer A) → List P → Option SectionRefusal
  first_refused_section section answer [] = None
  first_refused_section section answer (part ∷ parts) =
      first_of_both (refusal_in (begin_of (section part)) (answer part)) (first_refused_section section answer parts)

  -- the rules of the parts whose sections are not refused, in the order of the parts
  abbrev pub accepted_rules : (P → RulesAnswer A) → List P → List A
  accepted_rules answer [] = []
  accepted_rules answer (part ∷ parts) = in_front_of (answer part) (accepted_rules answer parts)

  -- the rules of all parts, or the refusal that stands first in the text
  abbrev pub all_rules : (P → Option TokenRange) → (P → RulesAnswer A) → List P → RulesAnswer (List A)
  all_rules section answer parts = unless_section_refused (first_refused_section section answer parts) (accepted_rules answer parts)
