-- One token more, from the last back.
use Rattle.std.proofs.Common.{◌≡◌, ℕ, zero, suc, ◌-◌, ◌<◌, ◌+◌, ◌∙◌, nat_eq, List, Option, Some, None, true, false, refl, arith}
use Rattle.std.proofs.lemmas.Bool.Decides.{nat_tests}
use Rattle.aerie_text.specs.Sorts.{same_sort}
use Rattle.aerie_text.specs.declared.sorts.Sort.TheVariants as sort
use Rattle.explain.specs.SyntaxCauses.{open_brace, open_turn}
use Rattle.explain.specs.WordsOfTokens.{token_at_number}
use Rattle.explain.specs.declared.sorted.SortedToken.{SortedToken}

open_step : (tokens : List SortedToken) (depth count : ℕ) → 0 < count
    → open_brace tokens depth count ≡ open_turn (token_at_number tokens (count - 1)) depth (λ deeper. open_brace tokens deeper (count - 1))
open_step tokens depth zero positive = absurd (omega arith)
open_step tokens depth (suc count) positive =
    let before : suc count - 1 ≡ count = omega arith in
    rw before refl

turn_closed : (token : SortedToken) (depth : ℕ) (before : ℕ → Option SortedToken) → same_sort sort.CloseBrace token.sort ≡ true
    → open_turn token depth before ≡ before (depth + 1)
turn_closed token depth before closes = rw closes refl

turn_found : (token : SortedToken) (depth : ℕ) (before : ℕ → Option SortedToken) → same_sort sort.CloseBrace token.sort ≡ false
    → same_sort sort.OpenBrace token.sort ≡ true → depth ≡ 0 → open_turn token depth before ≡ Some token
turn_found token depth before closes opens none = rw (closes, opens, none) refl

turn_opened : (token : SortedToken) (depth : ℕ) (before : ℕ → Option SortedToken) → same_sort sort.CloseBrace token.sort ≡ false
    → same_sort sort.OpenBrace token.sort ≡ true → nat_eq depth 0 ≡ false → open_turn token depth before ≡ before (depth - 1)
turn_opened token depth before closes opens some = rw (closes, opens, some) refl

turn_other : (token : SortedToken) (depth : ℕ) (before : ℕ → Option SortedToken) → same_sort sort.CloseBrace token.sort ≡ false
    → same_sort sort.OpenBrace token.sort ≡ false → open_turn token depth before ≡ before depth
turn_other token depth before closes opens = rw (closes, opens) refl

-- a brace that closes
pub closed_step : (tokens : List SortedToken) (depth count : ℕ) → 0 < count → same_sort sort.CloseBrace (token_at_number tokens (count - 1)).sort ≡ true
    → open_brace tokens depth count ≡ open_brace tokens (depth + 1) (count - 1)
closed_step tokens depth count positive closes =
    open_step tokens depth count positive
    ∙ turn_closed (token_at_number tokens (count - 1)) depth (λ deeper. open_brace tokens deeper (count - 1)) closes

-- the brace that is looked for
pub found_step : (tokens : List SortedToken) (depth count : ℕ) → 0 < count → same_sort sort.CloseBrace (token_at_number tokens (count - 1)).sort ≡ false
    → same_sort sort.OpenBrace (token_at_number tokens (count - 1)).sort ≡ true → depth ≡ 0
    → open_brace tokens depth count ≡ Some (token_at_number tokens (count - 1))
found_step tokens depth count positive closes opens none =
    open_step tokens depth count positive
    ∙ turn_found (token_at_number tokens (count - 1)) depth (λ deeper. open_brace tokens deeper (count - 1)) closes opens none

-- a brace that one behind it closes
pub opened_step : (tokens : List SortedToken) (depth count : ℕ) → 0 < count → same_sort sort.CloseBrace (token_at_number tokens (count - 1)).sort ≡ false
    → same_sort sort.OpenBrace (token_at_number tokens (count - 1)).sort ≡ true → 0 < depth
    → open_brace tokens depth count ≡ open_brace tokens (depth - 1) (count - 1)
opened_step tokens depth count positive closes opens deep =
    let some : nat_eq depth 0 ≡ false = grind (arith, nat_tests) in
    open_step tokens depth count positive
    ∙ turn_opened (token_at_number tokens (count - 1)) depth (λ deeper. open_brace tokens deeper (count - 1)) closes opens some

-- another token
pub other_step : (tokens : List SortedToken) (depth count : ℕ) → 0 < count → same_sort sort.CloseBrace (token_at_number tokens (count - 1)).sort ≡ false
    → same_sort sort.OpenBrace (token_at_number tokens (count - 1)).sort ≡ false
    → open_brace tokens depth count ≡ open_brace tokens depth (count - 1)
other_step tokens depth count positive closes opens =
    open_step tokens depth count positive
    ∙ turn_other (token_at_number tokens (count - 1)) depth (λ deeper. open_brace tokens deeper (count - 1)) closes opens

-- no token is left
pub none_step : (tokens : List SortedToken) (depth count : ℕ) → count ≡ 0 → open_brace tokens depth count ≡ None
none_step tokens depth count none = rw none refl
