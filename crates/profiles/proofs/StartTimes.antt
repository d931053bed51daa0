-- The times at which segments begin, and the last of them up to a time.
use Rattle.std.proofs.Common.{◌≡◌, ℕ, zero, suc, ◌<◌, ◌≤◌, Bool, true, false, cond, List, [], ◌∷◌, ◌++◌, nat_le, nat_lt, Some, refl, sym, ap, subst, ◌∙◌, arith}
use Rattle.std.proofs.lemmas.Bool.{le-leb, lt-leb, ltb-true, ltb-false, false≢true}
use Rattle.profiles.specs.Neighbours.{first_start_of, RiseUpTo, DivideTime, EachNext}
use Rattle.windows.specs.Begun.{last_begun, StartsRise, HaveBegun}
use Rattle.profiles.specs.Segments.{times_where}

-- the last time up to this one that passes a test, or 0
abbrev pub last_where : (ℕ → Bool) → ℕ → ℕ
last_where test zero = zero
last_where test (suc t) = cond (test (suc t)) (suc t) (last_where test t)

pub last_within : (test : ℕ → Bool) (t : ℕ) → last_where test t ≤ t
last_within test zero = omega arith
last_within test (suc t) = by (test (suc t)) (last_within test t)
  where
    by : (b : Bool) → last_where test t ≤ t → cond b (suc t) (last_where test t) ≤ suc t
    by true before = omega arith
    by false before = omega arith

abbrev pub itself : ℕ → ℕ
itself t = t

-- ---- all below

abbrev pub AllBelow : ℕ → List ℕ → Type 0
AllBelow n [] = Unit {0}
AllBelow n (t ∷ rest) = (t < n) × AllBelow n rest

below_more : (n : ℕ) (l : List ℕ) → AllBelow n l → AllBelow (suc n) l
below_more n [] below = tt
below_more n (t ∷ rest) below = (omega (arith, below.0), below_more n rest below.1)

below_end : (n : ℕ) (l : List ℕ) → AllBelow n l → AllBelow (suc n) (l ++ n ∷ [])
below_end n [] below = (omega arith, tt)
below_end n (t ∷ rest) below = (omega (arith, below.0), below_end n rest below.1)

no_more : (l : List ℕ) → l ++ [] ≡ l
no_more [] = refl
no_more (t ∷ l) = ap (λ (r : List ℕ). t ∷ r) (no_more l)

-- one time more, where it passes and where it does not
module _ (P : ℕ → List ℕ → Type 0) (test : ℕ → Bool) (n : ℕ) where
  pub one_time_more : (test n ≡ true → P (suc n) (times_where test n ++ n ∷ [])) → (test n ≡ false → P (suc n) (times_where test n)) → P (suc n) (times_where test (suc n))
  one_time_more new old = by (test n) refl
    where
      by : (b : Bool) → test n ≡ b → P (suc n) (times_where test n ++ cond b (n ∷ []) [])
      by true e = new e
      by false e = subst (P (suc n)) (sym (no_more (times_where test n))) (old e)

pub times_below : (test : ℕ → Bool) (n : ℕ) → AllBelow n (times_where test n)
times_below test zero = tt
times_below test (suc n) =
    one_time_more AllBelow test n (λ e. below_end n (times_where test n) (times_below test n)) (λ e. below_more n (times_where test n) (times_below test n))

-- ---- rising

behind_end : (last x : ℕ) (l : List ℕ) → StartsRise last l → last < x → AllBelow x l → StartsRise last (l ++ x ∷ [])
behind_end last x [] rise after below = (after, tt)
behind_end last x (t ∷ rest) rise after below = (rise.0, behind_end t x rest rise.1 below.0 below.1)

begun_end : (x : ℕ) (l : List ℕ) → HaveBegun 0 l → AllBelow x l → HaveBegun 0 (l ++ x ∷ [])
begun_end x [] begun below = absurd begun
begun_end x (t ∷ rest) begun below = (begun.0, behind_end t x rest begun.1 below.0 below.1)

-- where 0 passes, the times below one above 0 begin at 0 and rise
begin_at_zero : (test : ℕ → Bool) → test 0 ≡ true → (n : ℕ) → HaveBegun 0 (times_where test (suc n))
begin_at_zero test first zero = subst (λ b. HaveBegun 0 (cond b (0 ∷ []) [])) (sym first) (omega arith, tt)
begin_at_zero test first (suc n) =
    one_time_more (λ m l. HaveBegun 0 l) test (suc n)
    (λ e. begun_end (suc n) (times_where test (suc n)) (begin_at_zero test first n) (times_below test (suc n)))
    (λ e. begin_at_zero test first n)

begun_by : (t : ℕ) (l : List ℕ) → HaveBegun 0 l → HaveBegun t l
begun_by t [] begun = begun
begun_by t (first ∷ rest) begun = (omega (arith, begun.0), begun.1)

pub begun_below : (test : ℕ → Bool) → test 0 ≡ true → (n t : ℕ) → t < n → HaveBegun t (times_where test n)
begun_below test first zero t below = absurd (omega arith)
begun_below test first (suc n) t below = begun_by t (times_where test (suc n)) (begin_at_zero test first n)

-- ---- the last that has begun

before_new : (l : List ℕ) (x t d : ℕ) → HaveBegun d l → t < x → last_begun itself (l ++ x ∷ []) t ≡ last_begun itself l t
before_new [] x t d begun later = absurd begun
before_new (a ∷ []) x t d begun later = ap (λ c. cond c (Some x) (Some a)) (lt-leb x t later)
before_new (a ∷ b ∷ rest) x t d begun later =
    ap (λ o. cond (nat_le b t) o (Some a)) (before_new (b ∷ rest) x t b (omega arith, begun.1.1) later)

at_new : (l : List ℕ) (x : ℕ) → AllBelow x l → last_begun itself (l ++ x ∷ []) x ≡ Some x
at_new [] x below = refl
at_new (a ∷ []) x below = ap (λ c. cond c (Some x) (Some a)) (le-leb x x (omega arith))
at_new (a ∷ b ∷ rest) x below =
    ap (λ c. cond c (last_begun itself (b ∷ rest ++ x ∷ []) x) (Some a)) (le-leb b x (omega (arith, below.1.0))) ∙ at_new (b ∷ rest) x below.1

no_new : (l : List ℕ) (n : ℕ) → AllBelow (suc n) l → last_begun itself l (suc n) ≡ last_begun itself l n
no_new [] n below = refl
no_new (a ∷ []) n below = refl
no_new (a ∷ b ∷ rest) n below =
    ap (λ c. cond c (last_begun itself (b ∷ rest) (suc n)) (Some a)) (le-leb b (suc n) (omega (arith, below.1.0)))
    ∙ (no_new (b ∷ rest) n below.1
    ∙ sym (ap (λ c. cond c (last_begun itself (b ∷ rest) n) (Some a)) (le-leb b n (omega (arith, below.1.0)))))

passing_is : (test : ℕ → Bool) (n : ℕ) → test n ≡ true → last_where test n ≡ n
passing_is test zero e = refl
passing_is test (suc n) e = ap (λ b. cond b (suc n) (last_where test n)) e

-- the last start up to a time is the last time up to it that passes
abbrev pub LastAre : (ℕ → Bool) → ℕ → List ℕ → Type 0
LastAre test n l = (t : ℕ) → t < n → last_begun itself l t ≡ Some (last_where test t)

split : {A : Type 0} (t n : ℕ) → t < suc n → (t < n → A) → (t ≡ n → A) → A
split {A = A} t n below before here = by (nat_lt t n) refl
  where
    by : (b : Bool) → nat_lt t n ≡ b → A
    by true e = before (ltb-true t n e)
    by false e = let past : n ≤ t = ltb-false t n e in here (omega (arith, past, below))

with_new : (test : ℕ → Bool) → test 0 ≡ true → (n : ℕ) → LastAre test n (times_where test n) → test n ≡ true → LastAre test (suc n) (times_where test n ++ n ∷ [])
with_new test first n are e t below =
    split t n below
    (λ before. before_new (times_where test n) n t t (begun_below test first n t before) before ∙ are t before)
    (λ here. rw here (at_new (times_where test n) n (times_below test n) ∙ ap (λ k. Some k) (sym (passing_is test n e))))

without_new : (test : ℕ → Bool) → test 0 ≡ true → (n : ℕ) → LastAre test n (times_where test n) → test n ≡ false → LastAre test (suc n) (times_where test n)
without_new test first zero are e t below = absurd (false≢true (sym e ∙ first))
without_new test first (suc m) are e t below =
    split t (suc m) below
    (λ before. are t before)
    (λ here. rw here
    (no_new (times_where test (suc m)) m (times_below test (suc m))
    ∙ (are m (omega arith) ∙ ap (λ b. Some (cond b (suc m) (last_where test m))) (sym e))))

pub last_are : (test : ℕ → Bool) → test 0 ≡ true → (n : ℕ) → LastAre test n (times_where test n)
last_are test first zero = λ t below. absurd (omega arith)
last_are test first (suc n) =
    one_time_more (LastAre test) test n
    (λ e. with_new test first n (last_are test first n) e)
    (λ e. without_new test first n (last_are test first n) e)

-- ---- neighbours

-- the last of some times, all before this one
next_end : (P : ℕ → ℕ → Type 0) (l : List ℕ) (x m : ℕ) → EachNext P l → AllBelow (suc m) l → ((a : ℕ) → last_begun itself l m ≡ Some a → P a x) → EachNext P (l ++ x ∷ [])
next_end P [] x m each below last = tt
next_end P (a ∷ []) x m each below last = (last a refl, tt)
next_end P (a ∷ b ∷ rest) x m each below last =
    let begun : nat_le b m ≡ true = le-leb b m (omega (arith, below.1.0)) in
    (each.0, next_end P (b ∷ rest) x m each.1 below.1 (λ k is. last k (ap (λ c. cond c (last_begun itself (b ∷ rest) m) (Some a)) begun ∙ is)))

some_same : (a b : ℕ) → Some a ≡ Some b → a ≡ b
some_same a b e = cc

new_next : (P : ℕ → ℕ → Type 0) (test : ℕ → Bool) → test 0 ≡ true → ((t : ℕ) → test (suc t) ≡ true → P (last_where test t) (suc t)) →
    (n : ℕ) → EachNext P (times_where test n) → test n ≡ true → EachNext P (times_where test n ++ n ∷ [])
new_next P test first step zero each e = tt
new_next P test first step (suc m) each e =
    next_end P (times_where test (suc m)) (suc m) m each (times_below test (suc m))
    (λ a is. subst (λ k. P k (suc m)) (some_same (last_where test m) a (sym (last_are test first (suc m) m (omega arith)) ∙ is)) (step m e))

-- Each two neighbours among the times that pass are so, where a time that passes is so after the last one before it.
pub each_next : (P : ℕ → ℕ → Type 0) (test : ℕ → Bool) → test 0 ≡ true → ((t : ℕ) → test (suc t) ≡ true → P (last_where test t) (suc t)) →
    (n : ℕ) → EachNext P (times_where test n)
each_next P test first step zero = tt
each_next P test first step (suc n) =
    one_time_more (λ k l. EachNext P l) test n (λ e. new_next P test first step n (each_next P test first step n) e) (λ e. each_next P test first step n)

-- ---- up to the reach

up_to_end : (n : ℕ) (l : List ℕ) → RiseUpTo n l → RiseUpTo (suc n) (l ++ n ∷ [])
up_to_end n [] rise = (omega arith, tt)
up_to_end n (a ∷ []) rise = (rise.0, (omega arith, tt))
up_to_end n (a ∷ b ∷ rest) rise = (rise.0, up_to_end n (b ∷ rest) rise.1)

up_to_later : (n : ℕ) (l : List ℕ) → RiseUpTo n l → RiseUpTo (suc n) l
up_to_later n [] rise = tt
up_to_later n (a ∷ []) rise = (omega (arith, rise.0), tt)
up_to_later n (a ∷ b ∷ rest) rise = (rise.0, up_to_later n (b ∷ rest) rise.1)

rise_up_to : (test : ℕ → Bool) (n : ℕ) → RiseUpTo n (times_where test n)
rise_up_to test zero = tt
rise_up_to test (suc n) =
    one_time_more RiseUpTo test n (λ e. up_to_end n (times_where test n) (rise_up_to test n)) (λ e. up_to_later n (times_where test n) (rise_up_to test n))

first_zero : (reach : ℕ) (l : List ℕ) → HaveBegun 0 l → first_start_of reach l ≡ 0
first_zero reach [] begun = absurd begun
first_zero reach (a ∷ rest) begun = omega (arith, begun.0)

pub divide_time : (test : ℕ → Bool) → test 0 ≡ true → (reach : ℕ) → DivideTime reach (times_where test reach)
divide_time test first reach = record {
  begin_at_zero = λ some. first_zero reach (times_where test reach) (begun_below test first reach 0 some);
  rise = rise_up_to test reach;
}
