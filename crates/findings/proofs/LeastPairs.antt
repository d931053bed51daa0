-- The least of pairs, part by part.
use Rattle.std.proofs.Common.{◌≡◌, ◌∙◌, ℕ, ◌+◌, ◌<◌, List, [], ◌∷◌, ◌++◌, Option, ap, drop, get_or, length, refl, sym}
use Rattle.std.proofs.lemmas.List.{drop_more}
use Rattle.findings.specs.MeetingPairs.{PathPair, least_beside, lesser_pair, pairs_of, pairs_with}

least_append : (least : Option PathPair) (pairs others : List PathPair) → least_beside least (pairs ++ others) ≡ least_beside (least_beside least pairs) others
least_append least [] others = refl
least_append least (pair ∷ rest) others = least_append (lesser_pair least pair) rest others

-- with the pairs of one path more
pub least_goes_on : (paths others : List (List ℕ)) (at : ℕ) (one : List ℕ) (least next : Option PathPair) → at < length paths → one ≡ get_or paths at one →
    next ≡ least_beside least (pairs_with one others) → least_beside next (pairs_of (drop (at + 1) paths) others) ≡ least_beside least (pairs_of (drop at paths) others)
least_goes_on paths others at one least next within is made =
    ap (λ (so_far : Option PathPair). least_beside so_far (pairs_of (drop (at + 1) paths) others)) made
    ∙ sym (least_append least (pairs_with one others) (pairs_of (drop (at + 1) paths) others))
    ∙ ap (λ (left : List (List ℕ)). least_beside least (pairs_of left others))
    (ap (λ (path : List ℕ). path ∷ drop (at + 1) paths) is ∙ sym (drop_more paths at one within))
