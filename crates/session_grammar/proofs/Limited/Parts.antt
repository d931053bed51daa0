-- What is read of the parts of a session is within its limits, where each mark counts a number. That the marks behind a part count
-- numbers too follows of each part from the grammar.
use Rattle.std.proofs.Common.{◌≡◌, ℕ, zero, suc, ◌-◌, ◌≤◌, ℤ, pos, negsuc, Bool, true, false, ◌&&◌, List, [], ◌∷◌, ◌++◌, Option, Some, None, length, nat_le, if◌then◌else◌, refl, sym, ap, ◌∙◌, arith, subst}
use Rattle.std.proofs.lemmas.List.{length-append}
use Rattle.aerie_base.specs.Ranges.{IsNumber, number_limit, time_limit}
use Rattle.aerie_base.specs.declared.places.Place.{Place}
use Rattle.aerie_text.specs.declared.sorts.Sort.{Sort}
use Rattle.aerie_text.specs.declared.sorts.Sort.TheVariants as sort
use Rattle.model_reader.proofs.Limited.Keeping.{Nothing, Keeps, gives, fails, passes, and_then, one_of_two, number_keeps, repeated_keeps}
use Rattle.model_reader.proofs.Limited.Lists.{all_behind, AreListed, optional_list_keeps, row_keeps}
use Rattle.model_reader.proofs.Limited.Literals.{literal_keeps, same_size}
use Rattle.model_reader.specs.Limits.{CountNumbers}
use Rattle.model_reader.specs.declared.raw.names.RawName.{RawName}
use Rattle.model_reader.specs.reading.Literals.{amount_at, begins_amount, with_minus}
use Rattle.readers.specs.Conforms.{GoesAlong}
use Rattle.readers.specs.Lists.{pushed_at}
use Rattle.readers.specs.Marks.{Mark}
use Rattle.readers.specs.Parsed.{Parsed, parsed, failed, over_limit, ◌>>=◌, chosen, is_of, next_fits, next_is, taken as taken_mark}
use Rattle.readers.specs.Within.{counts_within, is_within}
use Rattle.readers.specs.grammar.Forms.{Form}
use Rattle.session_grammar.proofs.Conforming.Commands.{ended_command_law}
use Rattle.session_grammar.proofs.Conforming.Directives.{Along, IsPlain, taken}
use Rattle.session_grammar.proofs.Conforming.Mappings.{raw_name_law, raw_named_law, sign_law}
use Rattle.session_grammar.proofs.Conforming.Plans.{dataset_law, directives_law, plan_name_law, start_law}
use Rattle.session_grammar.proofs.Conforming.Sections.{of_model_law, rules_law}
use Rattle.session_grammar.specs.SessionLimits.{AreFeedsInRange, AreRangesWithin, IsBeginningInRange, IsLimitedPlan, IsRateInRange, IsFeedInRange, IsFedInRange, IsLimitedClient, IsMappingInRange, IsRangeWithin, IsTypeRuleInRange}
use Rattle.session_grammar.specs.declared.raw.sections.RawSections.{RawSections}
use Rattle.session_grammar.specs.grammar.Factored.{look}
use Rattle.session_grammar.specs.grammar.Rules.{Rule}
use Rattle.session_grammar.specs.grammar.Terminals.{Terminal}
use Rattle.session_grammar.specs.reading.Commands.{command_words, most_commands, commands_at, client_at}
use Rattle.session_grammar.specs.reading.Directives.{duration_at, length_of_time}
use Rattle.session_grammar.specs.reading.Mappings.{fed_amount_at, fed_truth_at, fed_variant_at, fed_behind_name_at, fed_name_at, fed_value_at, feed_at, feeds_at, type_rule_at, mapping_at, most_mappings, mappings_at}
use Rattle.session_grammar.specs.reading.Plans.{some_time_at, plan_duration_at, some_rate_at, optional_rate_at, beginning_at, plan_at, most_datasets, datasets_at}
use Rattle.session_grammar.specs.reading.Sections.{section_at, sections_with}
use Rattle.session_grammar.specs.reading.Sessions.{most_clients, clients_at, sections_at}

-- ---- behind a part

count_behind : (front rest : List Mark) → CountNumbers (front ++ rest) → CountNumbers rest
count_behind [] rest all = all
count_behind (mark ∷ front) rest all = count_behind front rest all.1

shorter_behind : (front rest marks : List Mark) → marks ≡ front ++ rest → length rest ≤ length marks
shorter_behind front rest marks e = let n = ap length e ∙ length-append front rest in omega (arith, n)

module _ {A : Type 0} (form : Form Rule Terminal) (marks : List Mark) where
  behind_goes : {B : Type 0} (Q : B → Type 0) (reading : Parsed A) (next : A × List Mark → Parsed B) → GoesAlong look form marks reading → CountNumbers marks
      → ((part : A) (rest : List Mark) → CountNumbers rest → length rest ≤ length marks → Keeps Q (next (part, rest))) → Keeps Q (reading >>= next)
  behind_goes Q (parsed part rest) next c count more = more part rest (count_behind c.front rest (subst CountNumbers c.is count)) (shorter_behind c.front rest marks c.is)
  behind_goes Q (failed rest) next c count more = fails
  behind_goes Q (over_limit limit rest) next c count more = passes

  keeps_goes : (P : A → Type 0) (reading : Parsed A) → GoesAlong look form marks reading → CountNumbers marks → ((part : A) (rest : List Mark) → reading ≡ parsed part rest → P part) → Keeps P reading
  keeps_goes P (parsed part rest) c count is = gives (is part rest refl) (count_behind c.front rest (subst CountNumbers c.is count))
  keeps_goes P (failed rest) c count is = fails
  keeps_goes P (over_limit limit rest) c count is = passes

-- what is read behind a part that conforms to a form
pub behind : {A B : Type 0} {form : Form Rule Terminal} {marks : List Mark} {Q : B → Type 0} {reading : Parsed A} (next : A × List Mark → Parsed B) → Along form marks reading → CountNumbers marks
    → ((part : A) (rest : List Mark) → CountNumbers rest → length rest ≤ length marks → Keeps Q (next (part, rest))) → Keeps Q (reading >>= next)
behind {form = form} {marks = marks} {Q = Q} {reading = reading} next law count more = behind_goes form marks Q reading next law.goes count more

-- what holds of each part that is read holds of one that conforms to a form
pub keeps_by : {A : Type 0} {form : Form Rule Terminal} {marks : List Mark} {P : A → Type 0} {reading : Parsed A} → Along form marks reading → CountNumbers marks
    → ((part : A) (rest : List Mark) → reading ≡ parsed part rest → P part) → Keeps P reading
keeps_by {form = form} {marks = marks} {P = P} {reading = reading} law count is = keeps_goes form marks P reading law.goes count is

-- ---- feeds

signed : (sign : Option Place) (number : Place × ℤ) → IsNumber number.1 → IsNumber (with_minus sign number).1
signed None number is = is
signed (Some minus) number is = subst (λ (size : ℕ). size ≤ number_limit) (sym (same_size number.1)) is

amount_keeps : (marks : List Mark) → CountNumbers marks → Keeps (λ number. IsNumber number.1) (amount_at marks)
unfolding amount_at
amount_keeps marks count = one_of_two (next_is sort.Number marks) _ _ (number_keeps sort.Number marks count) (number_keeps sort.Time marks count)

fed_amount_keeps : (marks : List Mark) → CountNumbers marks → Keeps IsFedInRange (fed_amount_at marks)
unfolding fed_amount_at
fed_amount_keeps marks count = behind _ (sign_law marks) count (λ sign rest left shorter. and_then _ (amount_keeps rest left) (λ amount last is from. gives (signed sign amount is) from))

fed_truth_keeps : (s : Sort) (truth : Bool) → IsPlain s → (marks : List Mark) → CountNumbers marks → Keeps IsFedInRange (fed_truth_at s truth marks)
unfolding fed_truth_at
fed_truth_keeps s truth is marks count = behind _ (taken s _ is) count (λ word rest left shorter. gives tt left)

fed_variant_keeps : (name : RawName) (marks : List Mark) → CountNumbers marks → Keeps IsFedInRange (fed_variant_at name marks)
unfolding fed_variant_at
fed_variant_keeps name marks count = behind _ (raw_named_law sort.Dot (refl, refl) marks) count (λ variant rest left shorter. gives tt left)

fed_behind_name_keeps : (name : RawName) (marks : List Mark) → CountNumbers marks → Keeps IsFedInRange (fed_behind_name_at name marks)
unfolding fed_behind_name_at
fed_behind_name_keeps name marks count = one_of_two (next_is sort.Dot marks) _ _ (fed_variant_keeps name marks count) (gives tt count)

fed_name_keeps : (marks : List Mark) → CountNumbers marks → Keeps IsFedInRange (fed_name_at marks)
unfolding fed_name_at
fed_name_keeps marks count = behind _ (raw_name_law marks) count (λ name rest left shorter. fed_behind_name_keeps name rest left)

fed_value_keeps : (marks : List Mark) → CountNumbers marks → Keeps IsFedInRange (fed_value_at marks)
unfolding fed_value_at
fed_value_keeps marks count =
    one_of_two (next_fits begins_amount marks) _ _ (fed_amount_keeps marks count)
    (one_of_two (next_is sort.True marks) _ _ (fed_truth_keeps sort.True true (refl, refl) marks count)
    (one_of_two (next_is sort.False marks) _ _ (fed_truth_keeps sort.False false (refl, refl) marks count) (fed_name_keeps marks count)))

feed_keeps : (marks : List Mark) → CountNumbers marks → Keeps IsFeedInRange (feed_at marks)
unfolding feed_at
feed_keeps marks count =
    behind _ (raw_name_law marks) count (λ parameter rest left shorter. behind _ (taken sort.Assign _ (refl, refl)) left (λ sign rest left shorter.
    and_then _ (fed_value_keeps rest left) (λ value rest is left. gives is left)))

feeds_keep : (marks : List Mark) → CountNumbers marks → Keeps AreFeedsInRange (feeds_at marks)
unfolding feeds_at
feeds_keep marks count =
    behind _ (taken sort.OpenParenthesis _ (refl, refl)) count (λ front rest left shorter. and_then _ (optional_list_keeps feed_keeps sort.Name None rest left) (λ feeds rest are left.
    behind _ (taken sort.CloseParenthesis _ (refl, refl)) left (λ close rest left shorter. behind _ (taken sort.Semicolon _ (refl, refl)) left (λ end rest left shorter. gives are.all left))))

-- ---- mappings

type_rule_keeps : (marks : List Mark) → CountNumbers marks → Keeps IsTypeRuleInRange (type_rule_at marks)
unfolding type_rule_at
type_rule_keeps marks count =
    behind _ (raw_name_law marks) count (λ old rest left shorter. behind _ (taken sort.To _ (refl, refl)) left (λ word rest left shorter.
    behind _ (raw_name_law rest) left (λ new rest left shorter. and_then _ (feeds_keep rest left) (λ feeds rest are left. gives are left))))

mapping_keeps : (marks : List Mark) → CountNumbers marks → Keeps IsMappingInRange (mapping_at marks)
unfolding mapping_at
mapping_keeps marks count =
    behind _ (raw_named_law sort.From (refl, refl) marks) count (λ from rest left shorter. behind _ (raw_named_law sort.To (refl, refl) rest) left (λ to rest left shorter.
    behind _ (taken sort.OpenBrace _ (refl, refl)) left (λ front rest left shorter. and_then _ (row_keeps type_rule_keeps (sort.Name ∷ []) None rest left) (λ rules rest are left.
    behind _ (taken sort.CloseBrace _ (refl, refl)) left (λ end rest left shorter. gives are.all left)))))

pub mappings_keep : (marks : List Mark) → CountNumbers marks → Keeps (AreListed IsMappingInRange most_mappings) (mappings_at marks)
unfolding mappings_at
mappings_keep marks count = row_keeps mapping_keeps (sort.From ∷ []) most_mappings marks count

-- ---- the plan

some_of : (size : ℕ) → 1 ≤ size → 1 ≤ (if nat_le size time_limit then size else time_limit)
some_of size some = go (nat_le size time_limit)
  where
    go : (b : Bool) → 1 ≤ (if b then size else time_limit)
    go true = some
    go false = omega arith

lasts : (number : ℤ) → is_within 0 0 number ≡ false → 1 ≤ length_of_time number
lasts (pos zero) e = cc
lasts (pos (suc n)) e = some_of (suc n) (omega arith)
lasts (negsuc n) e = some_of (suc n) (omega arith)

abbrev length_read : (Place × ℤ) × List Mark → Parsed ℕ
length_read read = parsed (length_of_time read.0.1) read.1

time_keeps : (marks : List Mark) → next_fits (counts_within sort.Time 0 0) marks ≡ false → CountNumbers marks → Keeps (λ time. 1 ≤ time) (duration_at marks)
unfolding duration_at
time_keeps [] next count = fails
time_keeps (k ∷ rest) next count = go (is_of sort.Time k) next
  where
    go : (v : Bool) → (v && is_within 0 0 k.number) ≡ false → Keeps (λ time. 1 ≤ time) (taken_mark v (k.at, k.number) (k ∷ rest) rest >>= length_read)
    go true next = gives (lasts k.number next) count.1
    go false next = fails

some_time_keeps : (marks : List Mark) → CountNumbers marks → Keeps (λ time. 1 ≤ time) (some_time_at marks)
unfolding some_time_at
some_time_keeps marks count = go (next_fits (counts_within sort.Time 0 0) marks) refl
  where
    go : (v : Bool) → next_fits (counts_within sort.Time 0 0) marks ≡ v → Keeps (λ time. 1 ≤ time) (chosen v failed duration_at marks)
    go true e = fails
    go false e = time_keeps marks e count

plan_duration_keeps : (marks : List Mark) → CountNumbers marks → Keeps (λ time. 1 ≤ time) (plan_duration_at marks)
unfolding plan_duration_at
plan_duration_keeps marks count =
    behind _ (taken sort.Duration _ (refl, refl)) count (λ word rest left shorter. and_then _ (some_time_keeps rest left) (λ time rest is left.
    behind _ (taken sort.Semicolon _ (refl, refl)) left (λ end rest left shorter. gives is left)))

some_rate_keeps : (marks : List Mark) → CountNumbers marks → Keeps IsRateInRange (some_rate_at marks)
unfolding some_rate_at
some_rate_keeps marks count =
    behind _ (taken sort.Rate _ (refl, refl)) count (λ word rest left shorter. behind _ (sign_law rest) left (λ sign rest left shorter.
    and_then _ (number_keeps sort.Number rest left) (λ number last is from. gives (signed sign number is) from)))

rate_keeps : (marks : List Mark) → CountNumbers marks → Keeps IsRateInRange (optional_rate_at marks)
unfolding optional_rate_at
rate_keeps marks count = one_of_two (next_is sort.Rate marks) _ _ (some_rate_keeps marks count) (gives tt count)

beginning_keeps : (marks : List Mark) → CountNumbers marks → Keeps IsBeginningInRange (beginning_at marks)
unfolding beginning_at
beginning_keeps marks count =
    behind _ (raw_name_law marks) count (λ cell rest left shorter. behind _ (taken sort.Assign _ (refl, refl)) left (λ equals rest left shorter.
    and_then _ (literal_keeps rest left) (λ literal rest is left. and_then _ (rate_keeps rest left) (λ rate rest also left.
    behind _ (taken sort.Semicolon _ (refl, refl)) left (λ end rest left shorter. gives (is, also) left)))))

pub plan_keeps : (marks : List Mark) → CountNumbers marks → Keeps IsLimitedPlan (plan_at marks)
unfolding plan_at
plan_keeps marks count =
    behind _ (plan_name_law marks) count (λ branch rest left shorter. behind _ (start_law rest) left (λ start rest left shorter.
    and_then _ (plan_duration_keeps rest left) (λ duration rest is left.
    and_then _ (row_keeps beginning_keeps (sort.Name ∷ []) None rest left) (λ beginnings rest are left. behind _ (directives_law rest) left (λ directives rest left shorter.
    behind _ (taken sort.CloseBrace _ (refl, refl)) left (λ end rest left shorter. gives (record { lasts = is; beginnings = are.all }) left))))))

-- ---- datasets

pub datasets_keep : (marks : List Mark) → CountNumbers marks → Keeps (AreListed Nothing most_datasets) (datasets_at marks)
unfolding datasets_at
datasets_keep marks count = row_keeps (λ here from. keeps_by (dataset_law here) from (λ part rest e. tt)) (sort.Load ∷ []) most_datasets marks count

-- ---- sections

rises : (count more fewer : ℕ) → fewer ≤ more → count - more ≤ count - fewer
rises count more fewer le = omega (arith, le)

below : (count some : ℕ) → count - some ≤ count
below count some = omega arith

section_keeps : (s : Sort) → IsPlain s → (count : ℕ) (marks : List Mark) → CountNumbers marks → Keeps (IsRangeWithin count) (section_at s count marks)
unfolding section_at
section_keeps s is count marks numbers =
    behind _ (taken s _ is) numbers (λ word rest left shorter. behind _ (of_model_law rest) left (λ model rest left shorter.
    behind _ (taken sort.OpenBrace _ (refl, refl)) left (λ front first left shorter. behind _ (rules_law first) left (λ rules last left fewer.
    behind _ (taken sort.CloseBrace _ (refl, refl)) left (λ end rest left shorter.
    gives (record { rises = rises count (length first) (length last) fewer; within = below count (length last) }) left)))))

sections_with_keep : (s : Sort) → IsPlain s → (count : ℕ) (marks : List Mark) → CountNumbers marks → Keeps (AreRangesWithin count) (sections_with s count marks)
unfolding sections_with
sections_with_keep s is count marks numbers =
    repeated_keeps (is_of s) (pushed_at (section_at s count))
    (λ so_far here are from. and_then _ (section_keeps s is count here from) (λ last rest one left. gives (all_behind (IsRangeWithin count) so_far last are one) left)) [] marks tt numbers

pub record AreSectionsWithin (count : ℕ) (sections : RawSections) : Type 0 where
  pub constraints : AreRangesWithin count sections.constraints
  pub goals : AreRangesWithin count sections.goals
  pub sequences : AreRangesWithin count sections.sequences

pub sections_keep : (count : ℕ) (marks : List Mark) → CountNumbers marks → Keeps (AreSectionsWithin count) (sections_at count marks)
unfolding sections_at
sections_keep count marks numbers =
    and_then _ (sections_with_keep sort.Constraints (refl, refl) count marks numbers) (λ constraints rest first left. and_then _ (sections_with_keep sort.Goals (refl, refl) count rest left)
    (λ goals rest second left. and_then _ (sections_with_keep sort.Sequence (refl, refl) count rest left) (λ sequences rest third left.
    gives (record { constraints = first; goals = second; sequences = third }) left)))

-- ---- clients

commands_keep : (marks : List Mark) → CountNumbers marks → Keeps (AreListed Nothing most_commands) (commands_at marks)
unfolding commands_at
commands_keep marks count = row_keeps (λ here from. keeps_by (ended_command_law here) from (λ part rest e. tt)) command_words most_commands marks count

client_keeps : (marks : List Mark) → CountNumbers marks → Keeps IsLimitedClient (client_at marks)
unfolding client_at
client_keeps marks count =
    behind _ (taken sort.Client _ (refl, refl)) count (λ word rest left shorter. behind _ (taken sort.Name _ (refl, refl)) left (λ name rest left shorter.
    behind _ (taken sort.OpenBrace _ (refl, refl)) left (λ front rest left shorter. and_then _ (commands_keep rest left) (λ commands rest are left.
    behind _ (taken sort.CloseBrace _ (refl, refl)) left (λ end rest left shorter. gives are.few left)))))

pub clients_keep : (marks : List Mark) → CountNumbers marks → Keeps (AreListed IsLimitedClient most_clients) (clients_at marks)
unfolding clients_at
clients_keep marks count = row_keeps client_keeps (sort.Client ∷ []) most_clients marks count
