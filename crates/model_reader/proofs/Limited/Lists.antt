-- What holds of each part of a list that is read, and how many there are.
use Rattle.std.proofs.Common.{◌≡◌, ℕ, ◌+◌, ◌≤◌, Bool, true, false, List, [], ◌∷◌, ◌++◌, Option, Some, None, length, nat_le, if◌then◌else◌, refl, sym, arith, subst}
use Rattle.std.proofs.lemmas.Bool.{leb-false}
use Rattle.std.proofs.lemmas.List.{length-append}
use Rattle.std.specs.List.{AllByRecursion}
use Rattle.aerie_text.specs.declared.sorts.Sort.{Sort}
use Rattle.aerie_text.specs.declared.sorts.Sort.TheVariants.{Comma, OpenParenthesis, CloseParenthesis}
use Rattle.readers.specs.Marks.{Mark}
use Rattle.readers.specs.Parsed.{Parsed, next_is, is_of, is_one_of, behind_at}
use Rattle.readers.specs.Lists.{limit_passed, unless_passed, one_more_of, one_more_at, listed_at, optional_list_at, parenthesized_at, row_at}
use Rattle.readers.specs.declared.limits.Limit.{Limit}
use Rattle.readers.specs.declared.lists.Most.{Most}
use Rattle.model_reader.specs.Limits.{CountNumbers}
use Rattle.model_reader.proofs.Limited.Keeping.{Keeps, gives, fails, passes, and_then, weakened, one_of_two, take_keeps, repeated_keeps}

pub all_behind : {A : Type 0} (P : A → Type 0) (items : List A) (last : A) → AllByRecursion P items → P last → AllByRecursion P (items ++ last ∷ [])
all_behind P [] last all is = (is, tt)
all_behind P (item ∷ items) last all is = (all.0, all_behind P items last all.1 is)

-- so many, where there may be at most so many
abbrev pub AreAtMost : Option Most → ℕ → Type 0
AreAtMost None count = Unit {0}
AreAtMost (Some most) count = count ≤ most.count

pub record AreListed {A : Type 0} (P : A → Type 0) (most : Option Most) (items : List A) : Type 0 where
  pub all : AllByRecursion P items
  pub few : AreAtMost most (length items)

pub record AreSome {A : Type 0} (P : A → Type 0) (most : Option Most) (items : List A) : Type 0 where
  pub listed : AreListed P most items
  pub some : 1 ≤ length items

pub none_listed : {A : Type 0} (P : A → Type 0) (most : Option Most) → AreListed P most []
none_listed P None = record { all = tt; few = tt }
none_listed P (Some most) = record { all = tt; few = omega arith }

few_more : (most : Option Most) (count : ℕ) → limit_passed most count ≡ None → AreAtMost most (count + 1)
few_more None count e = tt
few_more (Some most) count e = go (nat_le most.count count) refl e
  where
    go : (b : Bool) → nat_le most.count count ≡ b → (if b then Some most.limit else None) ≡ None → count + 1 ≤ most.count
    go true here past = cc
    go false here past = let lt = leb-false most.count count here in omega (arith, lt)

module _ {A : Type 0} {P : A → Type 0} {part_at : List Mark → Parsed A} (part_keeps : (marks : List Mark) → CountNumbers marks → Keeps P (part_at marks)) where
  one_behind : (most : Option Most) (so_far : List A) (last : A) → limit_passed most (length so_far) ≡ None → AreListed P most so_far → P last → AreSome P most (so_far ++ last ∷ [])
  one_behind most so_far last e listed is =
      let count = length-append so_far (last ∷ []) in
      record {
        listed = record { all = all_behind P so_far last listed.all is; few = subst (AreAtMost most) (sym count) (few_more most (length so_far) e) };
        some = omega (arith, count);
      }

  unless_keeps : (most : Option Most) (over : Option Limit) (so_far : List A) (marks : List Mark) → limit_passed most (length so_far) ≡ over → AreListed P most so_far → CountNumbers marks
      → Keeps (AreSome P most) (unless_passed part_at over so_far marks)
  unless_keeps most None so_far marks e listed count =
      and_then _ (part_keeps marks count) (λ last rest is left. gives (one_behind most so_far last e listed is) left)
  unless_keeps most (Some limit) so_far marks e listed count = passes

  one_more_keeps : (most : Option Most) (so_far : List A) (marks : List Mark) → AreListed P most so_far → CountNumbers marks
      → Keeps (AreSome P most) (one_more_of most part_at so_far marks)
  one_more_keeps most so_far marks listed count = unless_keeps most (limit_passed most (length so_far)) so_far marks refl listed count

  one_begun_keeps : (first : Sort) (most : Option Most) (so_far : List A) (marks : List Mark) → AreListed P most so_far → CountNumbers marks
      → Keeps (AreSome P most) (one_more_at first most part_at so_far marks)
  one_begun_keeps first most so_far marks listed count = one_of_two (next_is first marks) _ _ (one_more_keeps most so_far marks listed count) fails

  -- parts with commas between them
  pub listed_keeps : (first : Sort) (most : Option Most) (marks : List Mark) → CountNumbers marks → Keeps (AreSome P most) (listed_at first most part_at marks)
  listed_keeps first most marks count =
      and_then _ (one_begun_keeps first most [] marks (none_listed P most) count)
      (λ some rest are left. repeated_keeps (is_of Comma) (behind_at Comma (one_more_at first most part_at))
      (λ now here is from. and_then _ (take_keeps Comma here from) (λ comma behind unit behind_it. one_begun_keeps first most now behind is.listed behind_it)) some rest are left)

  -- the same, or none
  pub optional_list_keeps : (first : Sort) (most : Option Most) (marks : List Mark) → CountNumbers marks → Keeps (AreListed P most) (optional_list_at first most part_at marks)
  optional_list_keeps first most marks count =
      one_of_two (next_is first marks) _ _ (weakened (λ items are. are.listed) (listed_keeps first most marks count)) (gives (none_listed P most) count)

  -- the same in parentheses
  pub parenthesized_keeps : (first : Sort) (most : Option Most) (marks : List Mark) → CountNumbers marks → Keeps (AreListed P most) (parenthesized_at first most part_at marks)
  parenthesized_keeps first most marks count =
      and_then _ (take_keeps OpenParenthesis marks count) (λ open_mark rest unit left. and_then _ (optional_list_keeps first most rest left)
      (λ parts behind are from. and_then _ (take_keeps CloseParenthesis behind from) (λ close last unit_ after. gives are after)))

  -- parts in a row
  pub row_keeps : (begin : List Sort) (most : Option Most) (marks : List Mark) → CountNumbers marks → Keeps (AreListed P most) (row_at begin most part_at marks)
  row_keeps begin most marks count =
      repeated_keeps (is_one_of begin) (one_more_of most part_at)
      (λ now here are from. weakened (λ items some. some.listed) (one_more_keeps most now here are from)) [] marks (none_listed P most) count
