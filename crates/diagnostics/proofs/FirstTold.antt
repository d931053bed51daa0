-- What is told first of several is one of them, and no other comes before it.
use Rattle.std.proofs.Common.{◌≡◌, ℕ, ◌<◌, ◌==◌, Bool, true, false, not, ◌&&◌, ◌||◌, List, [], ◌∷◌, ◌++◌, Some, nat_lt, if◌then◌else◌, refl, sym, ap, ◌∙◌, subst, arith, append_assoc, true≢false}
use Rattle.std.proofs.lemmas.Bool.Decides.{nat_tests}
use Rattle.std.specs.List.{AllByRecursion}
use Rattle.diagnostics.specs.declared.diagnostic.Diagnostic.{Diagnostic}
use Rattle.diagnostics.specs.Diagnostics.{is_told_before, noted_by, first_by}
use Rattle.diagnostics.specs.FirstTold.{StandsAmong, IsToldFirst}

-- ---- the order

abbrev in_front : ℕ → ℕ → ℕ → ℕ → Bool
in_front line column other_line other_column = nat_lt line other_line || (line == other_line && nat_lt column other_column)

abbrev told : ℕ → ℕ → ℕ → ℕ → ℕ → ℕ → Bool
told l c n m d o = in_front l c m d || (not (in_front m d l c) && nat_lt n o)

data Told (l c n m d o : ℕ) : Type 0 where
  line : l < m → Told l c n m d o
  column : l ≡ m → c < d → Told l c n m d o
  number : l ≡ m → c ≡ d → n < o → Told l c n m d o

tells : (l c n m d o : ℕ) → told l c n m d o ≡ true → Told l c n m d o
tells l c n m d o e = go (nat_lt l m) refl (nat_lt m l) refl
  where
    at_column : l ≡ m → (a : Bool) → nat_lt c d ≡ a → (b : Bool) → nat_lt d c ≡ b → Told l c n m d o
    at_column same true h b i = column same (grind (arith, nat_tests))
    at_column same false h true i = absurd (grind (arith, nat_tests))
    at_column same false h false i = number same (grind (arith, nat_tests)) (grind (arith, nat_tests))

    go : (a : Bool) → nat_lt l m ≡ a → (b : Bool) → nat_lt m l ≡ b → Told l c n m d o
    go true h b i = line (grind (arith, nat_tests))
    go false h true i = absurd (grind (arith, nat_tests))
    go false h false i = at_column (grind (arith, nat_tests)) (nat_lt c d) refl (nat_lt d c) refl

is_told : (l c n m d o : ℕ) → Told l c n m d o → told l c n m d o ≡ true
is_told l c n m d o (line lt) = grind (arith, nat_tests)
is_told l c n m d o (column same lt) = grind (arith, nat_tests)
is_told l c n m d o (number same also lt) = grind (arith, nat_tests)

joined : (l c n m d o k b p : ℕ) → Told l c n m d o → Told m d o k b p → Told l c n k b p
joined l c n m d o k b p (line lt) (line lt_) = line (omega arith)
joined l c n m d o k b p (line lt) (column same lt_) = line (omega arith)
joined l c n m d o k b p (line lt) (number same also lt_) = line (omega arith)
joined l c n m d o k b p (column same lt) (line lt_) = line (omega arith)
joined l c n m d o k b p (column same lt) (column same_ lt_) = column (omega arith) (omega arith)
joined l c n m d o k b p (column same lt) (number same_ also lt_) = column (omega arith) (omega arith)
joined l c n m d o k b p (number same also lt) (line lt_) = line (omega arith)
joined l c n m d o k b p (number same also lt) (column same_ lt_) = column (omega arith) (omega arith)
joined l c n m d o k b p (number same also lt) (number same_ also_ lt_) = number (omega arith) (omega arith) (omega arith)

-- ---- by the rank of causes

module _ {C : Type 0} (rank : C → ℕ) where
  through : (one middle other : Diagnostic C) → is_told_before rank one middle ≡ true → is_told_before rank middle other ≡ true → is_told_before rank one other ≡ true
  through one middle other e f =
      is_told one.place.line one.place.column (rank one.cause) other.place.line other.place.column (rank other.cause)
      (joined one.place.line one.place.column (rank one.cause) middle.place.line middle.place.column (rank middle.cause) other.place.line other.place.column (rank other.cause)
      (tells one.place.line one.place.column (rank one.cause) middle.place.line middle.place.column (rank middle.cause) e)
      (tells middle.place.line middle.place.column (rank middle.cause) other.place.line other.place.column (rank other.cause) f))

  -- what does not come before one does not come before what comes before that
  stays_behind : (other new old : Diagnostic C) → is_told_before rank other old ≡ false → is_told_before rank new old ≡ true → is_told_before rank other new ≡ false
  stays_behind other new old behind before = go (is_told_before rank other new) refl
    where
      go : (b : Bool) → is_told_before rank other new ≡ b → is_told_before rank other new ≡ false
      go true e = absurd (true≢false (sym (through other new old e before) ∙ behind))
      go false e = e

  not_before_itself : (one : Diagnostic C) → is_told_before rank one one ≡ false
  not_before_itself one = go (is_told_before rank one one) refl
    where
      no_one : Told one.place.line one.place.column (rank one.cause) one.place.line one.place.column (rank one.cause) → ⊥
      no_one (line lt) = omega arith
      no_one (column same lt) = omega arith
      no_one (number same also lt) = omega arith

      go : (b : Bool) → is_told_before rank one one ≡ b → is_told_before rank one one ≡ false
      go true e = absurd (no_one (tells one.place.line one.place.column (rank one.cause) one.place.line one.place.column (rank one.cause) e))
      go false e = e

  -- ---- the first of a list

  abbrev BehindIt : Diagnostic C → List (Diagnostic C) → Type 0
  BehindIt first = AllByRecursion (λ other. is_told_before rank other first ≡ false)

  all_behind : (new old : Diagnostic C) (seen : List (Diagnostic C)) → is_told_before rank new old ≡ true → BehindIt old seen → BehindIt new seen
  all_behind new old [] before all = tt
  all_behind new old (other ∷ seen) before all = (stays_behind other new old all.0 before, all_behind new old seen before all.1)

  with_last : (first last : Diagnostic C) (seen : List (Diagnostic C)) → BehindIt first seen → is_told_before rank last first ≡ false → BehindIt first (seen ++ last ∷ [])
  with_last first last [] all is = (is, tt)
  with_last first last (other ∷ seen) all is = (all.0, with_last first last seen all.1 is)

  -- the first of those seen so far
  record IsFirst (seen : List (Diagnostic C)) (first : Diagnostic C) : Type 0 where
    behind : BehindIt first seen
    among : StandsAmong first seen

  module _ (seen : List (Diagnostic C)) (old new : Diagnostic C) (is : IsFirst seen old) where
    one_more : IsFirst (seen ++ new ∷ []) (if is_told_before rank new old then new else old)
    one_more = go (is_told_before rank new old) refl
      where
        go : (b : Bool) → is_told_before rank new old ≡ b → IsFirst (seen ++ new ∷ []) (if b then new else old)
        go true e = record { behind = with_last new new seen (all_behind new old seen e is.behind) (not_before_itself new); among = (seen, [], refl) }
        go false e =
            let stands = is.among in
            record {
              behind = with_last old new seen is.behind e;
              among = (stands.0, stands.1 ++ new ∷ [], ap (λ (front : List (Diagnostic C)). front ++ new ∷ []) stands.2 ∙ append_assoc stands.0 (old ∷ stands.1) (new ∷ []));
            }

  first_of : (seen rest : List (Diagnostic C)) (old first : Diagnostic C) → IsFirst seen old → noted_by rank (Some old) rest ≡ Some first → IsFirst (seen ++ rest) first
  first_of seen [] old first is e = subst (λ (all : List (Diagnostic C)). IsFirst all first) (all_of seen) (subst (IsFirst seen) (some_is e) is)
    where
      all_of : {A : Type 0} (xs : List A) → xs ≡ xs ++ []
      all_of [] = refl
      all_of (x ∷ xs) = ap (λ (ys : List _). x ∷ ys) (all_of xs)

      some_is : {A : Type 0} {a b : A} → Some a ≡ Some b → a ≡ b
      some_is h = cc
  first_of seen (new ∷ rest) old first is e =
      subst (λ (all : List (Diagnostic C)). IsFirst all first) (append_assoc seen (new ∷ []) rest)
      (first_of (seen ++ new ∷ []) rest (if is_told_before rank new old then new else old) first (one_more seen old new is) e)

  pub told_first : (wrong : List (Diagnostic C)) (first : Diagnostic C) → first_by rank wrong ≡ Some first → IsToldFirst rank first wrong
  told_first [] first e = cc
  told_first (one ∷ rest) first e =
      let is = first_of (one ∷ []) rest one first (record { behind = (not_before_itself one, tt); among = ([], [], refl) }) e in
      (is.behind, is.among)
