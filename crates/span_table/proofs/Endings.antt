-- What is known once all frames are: whether a task has ended, when, and what its body returned.
use Rattle.std.proofs.Common.{◌≡◌, ◌⊎◌, inl, inr, ℕ, ◌≤◌, Bool, true, false, not, ◌&&◌, ◌||◌, IsTrue, List, [], ◌∷◌, length, None, refl, sym, ap, ◌∙◌, arith}
use Rattle.std.specs.List.{list_any, list_all}
use Rattle.std.specs.Cmp.Lexicographic.{same_text}
use Rattle.std.proofs.lemmas.Cmp.{nat_list_eq_equiv}
use Rattle.std.proofs.lemmas.Bool.{false≢true, and_parts, not-true}
use Rattle.aerie_base.specs.Paths.{is_path, is_prefix}
use Rattle.run_data.specs.Spans.{Timed, is_done, returned, is_of_path, body_ended, task_ended, result_in, or_returned}
use Rattle.span_table.specs.BodyStates.{state_if, body_after, is_open_after, known_result}
use Rattle.span_table.proofs.Frames.{ended_begun}

-- ---- results

-- a body that has not ended has returned nothing
none_returned : (path : List ℕ) (frames : List Timed) → body_ended frames path ≡ false → result_in frames path ≡ None
none_returned path [] open_still = refl
none_returned path (first ∷ frames) open_still =
    go (is_of_path path first && is_done first.1.status) open_still (none_returned path frames)
  where
    go : (b : Bool) → (b || body_ended frames path) ≡ false → (body_ended frames path ≡ false → result_in frames path ≡ None) →
        or_returned b (returned first.1.status) (result_in frames path) ≡ None
    go true e rest = absurd (false≢true (sym e))
    go false e rest = rest e

pub result_is : (path : List ℕ) (frames : List Timed) → result_in frames path ≡ known_result (body_after frames path)
result_is path frames = go (list_any (is_of_path path) frames) refl (body_ended frames path) refl
  where
    go : (begun : Bool) → list_any (is_of_path path) frames ≡ begun → (ended : Bool) → body_ended frames path ≡ ended →
        result_in frames path ≡ known_result (state_if begun ended (result_in frames path))
    go true b true e = refl
    go true b false e = none_returned path frames e
    go false b true e = absurd (false≢true (sym b ∙ ended_begun path frames e))
    go false b false e = none_returned path frames e

-- ---- lists

some_of : {A : Type 0} (l : List A) (test : A → Bool) → list_any test l ≡ true → (x : A) × (test x ≡ true)
some_of [] test any = absurd (false≢true any)
some_of {A} (a ∷ l) test any = by (test a) refl any (some_of l test)
  where
    by : (b : Bool) → test a ≡ b → (b || list_any test l) ≡ true → (list_any test l ≡ true → (x : A) × (test x ≡ true)) → (x : A) × (test x ≡ true)
    by true e f further = (a, e)
    by false e f further = further f

abbrev pub IsIn : List (List ℕ) → List ℕ → Type 0
IsIn [] path = ⊥
IsIn (first ∷ rest) path = (first ≡ path) ⊎ IsIn rest path

any_of : (l : List (List ℕ)) (test : List ℕ → Bool) (path : List ℕ) → IsIn l path → test path ≡ true → list_any test l ≡ true
any_of [] test path in_it holds = absurd in_it
any_of (first ∷ rest) test path (inl here) holds = ap (λ p. test p || list_any test rest) here ∙ ap (λ b. b || list_any test rest) holds
any_of (first ∷ rest) test path (inr later) holds = by (test first) (any_of rest test path later holds)
  where
    by : (b : Bool) → list_any test rest ≡ true → (b || list_any test rest) ≡ true
    by true e = refl
    by false e = e

-- ---- whether a task has ended

abbrev over_if_under : List Timed → List ℕ → Timed → Bool
over_if_under all path entry = not (is_prefix path entry.1.path) || body_ended all entry.1.path

fails_at : (all : List Timed) (path : List ℕ) (part : List Timed) (open_path : List ℕ) → is_prefix path open_path ≡ true → body_ended all open_path ≡ false →
    list_any (is_of_path open_path) part ≡ true → list_all (over_if_under all path) part ≡ false
fails_at all path [] open_path under going any = absurd (false≢true any)
fails_at all path (first ∷ part) open_path under going any =
    go (is_of_path open_path first) refl any (fails_at all path part open_path under going)
  where
    fails : is_of_path open_path first ≡ true → over_if_under all path first ≡ false
    fails e =
        ap (λ p. not (is_prefix path p) || body_ended all p) (sym (same_text open_path first.1.path (sym e)))
        ∙ (ap (λ b. not b || body_ended all open_path) under ∙ going)

    any_false : (b : Bool) → (b && false) ≡ false
    any_false true = refl
    any_false false = refl

    go : (b : Bool) → is_of_path open_path first ≡ b → (b || list_any (is_of_path open_path) part) ≡ true →
        (list_any (is_of_path open_path) part ≡ true → list_all (over_if_under all path) part ≡ false) → (over_if_under all path first && list_all (over_if_under all path) part) ≡ false
    go true e there rest = ap (λ b. b && list_all (over_if_under all path) part) (fails e)
    go false e there rest = ap (λ b. over_if_under all path first && b) (rest there) ∙ any_false (over_if_under all path first)

all_over : (all : List Timed) (path : List ℕ) (part : List Timed) → ((p : List ℕ) → list_any (is_of_path p) part ≡ true → list_any (is_of_path p) all ≡ true) →
    ((p : List ℕ) → is_prefix path p ≡ true → is_open_after all p ≡ true → ⊥) → list_all (over_if_under all path) part ≡ true
all_over all path [] among none_open = refl
all_over all path (first ∷ part) among none_open =
    ap (λ b. b && list_all (over_if_under all path) part) (here (is_prefix path first.1.path) refl (body_ended all first.1.path) refl)
    ∙ all_over all path part (λ p any. among p (later (is_of_path p first) (list_any (is_of_path p) part) any)) none_open
  where
    later : (b any : Bool) → any ≡ true → (b || any) ≡ true
    later true any e = refl
    later false any e = e

    begun : list_any (is_of_path first.1.path) all ≡ true
    begun = among first.1.path (ap (λ b. b || list_any (is_of_path first.1.path) part) (nat_list_eq_equiv.refl first.1.path))

    here : (under : Bool) → is_prefix path first.1.path ≡ under → (ended : Bool) → body_ended all first.1.path ≡ ended → (not under || ended) ≡ true
    here false u ended e = refl
    here true u true e = refl
    here true u false e =
        absurd (none_open first.1.path u (ap (λ b. b && not (body_ended all first.1.path)) begun ∙ ap not e))

-- a task has ended where no open path among all that are known is under its own
pub ended_by : (frames : List Timed) (links : List (List ℕ)) (path : List ℕ) (any : Bool) → any ≡ list_any (λ other. is_prefix path other && is_open_after frames other) links →
    ((other : List ℕ) → is_open_after frames other ≡ true → IsIn links other) → task_ended frames path ≡ not any
ended_by frames links path true tells among =
    let found = some_of links (λ other. is_prefix path other && is_open_after frames other) (sym tells) in
    let both = and_parts (is_prefix path found.0) (is_open_after frames found.0) found.1 in
    let parts = and_parts (list_any (is_of_path found.0) frames) (not (body_ended frames found.0)) both.1 in
    fails_at frames path frames found.0 both.0 (not-true (body_ended frames found.0) parts.1) parts.0
ended_by frames links path false tells among =
    all_over frames path frames (λ p any. any)
    (λ p under still.
    false≢true (tells ∙ any_of links (λ other. is_prefix path other && is_open_after frames other) p (among p still) (ap (λ b. b && is_open_after frames p) under ∙ still)))

-- ---- paths

pub is_long : (path : List ℕ) → IsTrue (is_path path) → 2 ≤ length path
is_long [] is = absurd (false≢true is)
is_long (kind ∷ []) is = absurd (false≢true is)
is_long (kind ∷ id ∷ children) is = omega arith
