-- The pair of spans that is told of two types that exclude one another, at a time: of all pairs of a span of the one type and another
-- span of the other type that both cover the time, the least by the path of the first, and then by that of the second.
use Rattle.std.specs.Prelude.{◌≡◌, ℕ, Bool, true, false, List, [], ◌∷◌, ◌++◌, map, Option, Some, None, refl, if◌then◌else◌}
use Rattle.std.specs.List.{filter}
use Rattle.std.specs.declared.cmp.Ordering.{Ordering}
use Rattle.std.specs.declared.cmp.Ordering.TheVariants.{Less, Equal, Greater}
use Rattle.aerie_base.specs.Paths.{directive_path, path_cmp, root}
use Rattle.constraints.specs.Violating.{is_on}
use Rattle.run_data.specs.Spans.{SpanOf, same_path}
use Rattle.windows.specs.Times.{Interval}
use Rattle.findings.specs.declared.pairs.PairedInterval.{PairedInterval}

-- the paths of two spans
abbrev pub PathPair : Type 0
PathPair = List ℕ × List ℕ

-- ---- the pairs at a time

-- the paths of the spans of a type that cover a time
abbrev pub paths_on : ℕ → ℕ → ℕ → List SpanOf → List (List ℕ)
paths_on reach kind t spans = map (λ span. span.path) (filter (is_on reach kind t) spans)

-- a path with each of these that is another one
abbrev pub pairs_with : List ℕ → List (List ℕ) → List PathPair
pairs_with path [] = []
pairs_with path (other ∷ rest) = if same_path path other then pairs_with path rest else (path, other) ∷ pairs_with path rest

-- each of the first ones with each of the second ones that is another one
abbrev pub pairs_of : List (List ℕ) → List (List ℕ) → List PathPair
pairs_of [] others = []
pairs_of (path ∷ paths) others = pairs_with path others ++ pairs_of paths others

-- ---- the least of them

abbrev pub is_less : Ordering → Bool
is_less Less = true
is_less Equal = false
is_less Greater = false

-- by the first order, and by the second where that is of equal ones
abbrev pub is_less_then : Ordering → Ordering → Bool
is_less_then Less second = true
is_less_then Equal second = is_less second
is_less_then Greater second = false

-- by the first path, and then by the second
abbrev pub pair_before : PathPair → PathPair → Bool
pair_before pair other = is_less_then (path_cmp pair.0 other.0) (path_cmp pair.1 other.1)

-- the lesser of what was the least so far, if anything, and one more
abbrev pub lesser_pair : Option PathPair → PathPair → Option PathPair
lesser_pair None pair = Some pair
lesser_pair (Some least) pair = if pair_before pair least then Some pair else Some least

-- the least of these and of what was the least before
abbrev pub least_beside : Option PathPair → List PathPair → Option PathPair
least_beside least [] = least
least_beside least (pair ∷ rest) = least_beside (lesser_pair least pair) rest

abbrev pub least_pair : List PathPair → Option PathPair
least_pair pairs = least_beside None pairs

-- ---- at a time, and where intervals begin

-- the least pair of a span of the one type and another span of the other type that both cover the time
abbrev pub pair_at : ℕ → ℕ → ℕ → List SpanOf → ℕ → Option PathPair
pair_at reach one other spans t = least_pair (pairs_of (paths_on reach one t spans) (paths_on reach other t spans))

-- an interval with the pair at its beginning
abbrev pub paired_interval : ℕ → ℕ → ℕ → List SpanOf → Interval → PairedInterval
paired_interval reach one other spans interval =
    record { from = interval.0; to = interval.1; pair = pair_at reach one other spans interval.0 }

abbrev pub paired_intervals : ℕ → ℕ → ℕ → List SpanOf → List Interval → List PairedInterval
paired_intervals reach one other spans intervals = map (paired_interval reach one other spans) intervals

-- ---- worked cases

abbrev a_span : ℕ → ℕ → ℕ → Option ℕ → SpanOf
a_span id kind start end = record { path = root id; kind = kind; arguments = []; start = start; end = end; result = None }

-- of three spans of one type at 8, the two of the least ids
pub of_one_type : pair_at 20 0 0 (a_span 3 0 1 (Some 15) ∷ a_span 10 0 5 None ∷ a_span 2 0 8 (Some 9) ∷ []) 8 ≡ Some (root 2, root 3)
of_one_type = refl

-- where one of them has ended, and at the time at which it ends
pub the_others : pair_at 20 0 0 (a_span 3 0 1 (Some 15) ∷ a_span 10 0 5 None ∷ a_span 2 0 8 (Some 9) ∷ []) 9 ≡ Some (root 3, root 10)
the_others = refl

-- the first path is of the one type and the second of the other, whichever is less
pub of_two_types : pair_at 20 1 0 (a_span 3 0 1 (Some 15) ∷ a_span 2 0 5 None ∷ a_span 7 1 8 None ∷ []) 8 ≡ Some (root 7, root 2)
of_two_types = refl

-- a child stands behind its parent, and in front of the next directive
pub with_a_child : pair_at 20 0 1 (a_span 4 0 1 None ∷ record (a_span 4 1 1 None) { path = directive_path 4 (0 ∷ []) } ∷ a_span 5 1 1 None ∷ []) 1
    ≡ Some (root 4, directive_path 4 (0 ∷ []))
with_a_child = refl

-- no span meets itself, and one of no length meets none
pub no_pair : pair_at 20 0 0 (a_span 3 0 1 None ∷ a_span 4 0 5 (Some 5) ∷ []) 5 ≡ None
no_pair = refl

pub an_interval : paired_intervals 20 0 0 (a_span 3 0 1 (Some 15) ∷ a_span 4 0 5 None ∷ []) ((5, 15) ∷ [])
    ≡ record { from = 5; to = 15; pair = Some (root 3, root 4) } ∷ []
an_interval = refl
