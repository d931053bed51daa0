-- A file of lemmas: what it proves need not be read to trust a clause.
--
-- A stable sort by path puts frames as they are put one after another.
use Rattle.std.proofs.Common.{◌≡◌, ℕ, suc, ◌<◌, ◌≤◌, ◌&&◌, not, Bool, true, false, cond, List, [], ◌∷◌, length, get_or, refl, sym, ap, ◌∙◌, subst, arith}
use Rattle.std.proofs.lemmas.Bool.{false≢true}
use Rattle.std.proofs.lemmas.List.Sorted.{ranks_by, sorted_far}
use Rattle.std.proofs.lemmas.Map.Lookups.{exact_bytes}
use Rattle.std.specs.Cmp.{IsStrictWeakOrder}
use Rattle.std.specs.Cmp.Lexicographic.{nat_list_cmp_total}
use Rattle.std.specs.List.{filter}
use Rattle.std.specs.List.Sorted.{IsSortedBy, IsStableBy, ties}
use Rattle.std.specs.Ordering.{is_lt, ordering_reverse}
use Rattle.std.specs.declared.cmp.Ordering.{Ordering}
use Rattle.std.specs.declared.cmp.Ordering.TheVariants.{Less, Equal, Greater}
use Rattle.aerie_base.specs.Paths.{path_cmp}
use Rattle.run_data.specs.TaskFrames.{Frame}
use Rattle.run_data.specs.Batches.{by_path, put_by_path, in_front_unless_greater}
use Rattle.run_data.specs.FrameLaws.{each_put}
use Rattle.run_data.specs.laws.Orders.{EachOf}
use Rattle.live_tasks.specs.FrameOrders.{is_before, AreByPath}

-- ---- paths

pub order : IsStrictWeakOrder is_before
order = ranks_by nat_list_cmp_total (λ (frame : Frame). frame.path)

pub path_order : IsStrictWeakOrder (λ p q. is_lt (path_cmp p q))
path_order = ranks_by nat_list_cmp_total (λ (path : List ℕ). path)

pub reversed : (p q : List ℕ) (o : Ordering) → path_cmp p q ≡ o → path_cmp q p ≡ ordering_reverse o
reversed p q o e = nat_list_cmp_total.antisymm q p ∙ ap ordering_reverse e

pub itself : (path : List ℕ) → path_cmp path path ≡ Equal
itself path = by (path_cmp path path) (nat_list_cmp_total.antisymm path path)
  where
    by : (o : Ordering) → o ≡ ordering_reverse o → o ≡ Equal
    by Less e = absurd (cc)
    by Equal e = refl
    by Greater e = absurd (cc)

pub not_before_itself : (path : List ℕ) → is_lt (path_cmp path path) ≡ false
not_before_itself path = ap is_lt (itself path)

-- neither is before the other: they are one
pub same_path : (p q : List ℕ) → is_lt (path_cmp p q) ≡ false → is_lt (path_cmp q p) ≡ false → p ≡ q
same_path p q h k = by (path_cmp p q) refl h
  where
    by : (o : Ordering) → path_cmp p q ≡ o → is_lt o ≡ false → p ≡ q
    by Less e h = absurd (false≢true (sym h))
    by Equal e h = exact_bytes p q e
    by Greater e h = absurd (false≢true (sym k ∙ ap is_lt (reversed p q Greater e)))

before_is : (p q : List ℕ) → path_cmp p q ≡ Greater → is_lt (path_cmp q p) ≡ true
before_is p q e = ap is_lt (reversed p q Greater e)

not_greater : (p q : List ℕ) (o : Ordering) → path_cmp p q ≡ o → is_lt (path_cmp q p) ≡ false → o ≡ Greater → ⊥
not_greater p q o e h g = false≢true (sym h ∙ before_is p q (e ∙ g))

-- ---- in order

each_from : (P : Frame → Type 0) (frames : List Frame) → ((j : ℕ) (d : Frame) → j < length frames → P (get_or frames j d)) → EachOf P frames
each_from P [] h = tt
each_from P (frame ∷ rest) h = (h 0 frame (omega arith), each_from P rest (λ j d less. h (suc j) d (omega (arith, less))))

pub by_path_from : (frames : List Frame) → ((i j : ℕ) (d : Frame) → i ≤ j → j < length frames → is_before (get_or frames j d) (get_or frames i d) ≡ false) → AreByPath frames
by_path_from [] h = tt
by_path_from (frame ∷ rest) h = (
  each_from (λ other. is_before other frame ≡ false) rest (λ j d less. h 0 (suc j) d (omega arith) (omega (arith, less))),
  by_path_from rest (λ i j d most less. h (suc i) (suc j) d (omega (arith, most)) (omega (arith, less))),
)

pub in_order_from_sort : (frames : List Frame) → IsSortedBy is_before frames → AreByPath frames
in_order_from_sort frames sorted = by_path_from frames (sorted_far is_before order frames sorted)

-- frames in order stay
pub by_path_stays : (frames : List Frame) → AreByPath frames → by_path frames ≡ frames
by_path_stays [] h = refl
by_path_stays (frame ∷ rest) h = ap (put_by_path frame) (by_path_stays rest h.1) ∙ first rest h.0
  where
    by : (o : Ordering) (other : Frame) (more put : List Frame) → path_cmp frame.path other.path ≡ o → is_before other frame ≡ false → in_front_unless_greater o frame other more put ≡ frame ∷ other ∷ more
    by Less other more put e h = refl
    by Equal other more put e h = refl
    by Greater other more put e h = absurd (not_greater frame.path other.path Greater e h refl)

    first : (rest : List Frame) → EachOf (λ other. is_before other frame ≡ false) rest → put_by_path frame rest ≡ frame ∷ rest
    first [] h = refl
    first (other ∷ more) h = by (path_cmp frame.path other.path) other more (put_by_path frame more) refl h.0

each_weaker : (P Q : Frame → Type 0) → ((frame : Frame) → P frame → Q frame) → (frames : List Frame) → EachOf P frames → EachOf Q frames
each_weaker P Q gives [] h = tt
each_weaker P Q gives (frame ∷ rest) h = (gives frame h.0, each_weaker P Q gives rest h.1)

-- a frame that is put keeps the order
put_in_order : (frame : Frame) (frames : List Frame) → AreByPath frames → AreByPath (put_by_path frame frames)
put_in_order frame [] h = (tt, tt)
put_in_order frame (first ∷ rest) h = by (path_cmp frame.path first.path) refl (put_in_order frame rest h.1)
  where
    front : is_before first frame ≡ false → AreByPath (frame ∷ first ∷ rest)
    front less = (
      (less, each_weaker (λ other. is_before other first ≡ false) (λ other. is_before other frame ≡ false) (λ other k. order.chain other first frame k less) rest h.0),
      h,
    )

    by : (o : Ordering) → path_cmp frame.path first.path ≡ o → AreByPath (put_by_path frame rest) → AreByPath (in_front_unless_greater o frame first rest (put_by_path frame rest))
    by Less e further = front (ap is_lt (reversed frame.path first.path Less e))
    by Equal e further = front (ap is_lt (reversed frame.path first.path Equal e))
    by Greater e further = (each_put (λ other. is_before other first ≡ false) frame rest (ap is_lt e) h.0, further)

pub sorted_in_order : (frames : List Frame) → AreByPath (by_path frames)
sorted_in_order [] = tt
sorted_in_order (frame ∷ rest) = put_in_order frame (by_path rest) (sorted_in_order rest)

-- ---- ties

both_true : (a b : Bool) → (a && b) ≡ true → (a ≡ true) × (b ≡ true)
both_true true b h = (refl, h)
both_true false b h = absurd (false≢true h)

not_true : (a : Bool) → not a ≡ true → a ≡ false
not_true true h = absurd (false≢true h)
not_true false h = refl

tie_is : (frame other : Frame) → ties is_before frame other ≡ true → frame.path ≡ other.path
tie_is frame other h =
    let parts = both_true (not (is_before frame other)) (not (is_before other frame)) h in
    same_path frame.path other.path (not_true (is_before frame other) parts.0) (not_true (is_before other frame) parts.1)

is_tie : (frame other : Frame) → frame.path ≡ other.path → ties is_before frame other ≡ true
is_tie frame other same =
    let one : is_before frame other ≡ false = ap (λ p. is_lt (path_cmp frame.path p)) (sym same) ∙ not_before_itself frame.path in
    let two : is_before other frame ≡ false = ap (λ p. is_lt (path_cmp p frame.path)) (sym same) ∙ not_before_itself frame.path in
    λ i. not (one i) && not (two i)

-- a frame that is put is among those that tie in its place
put_ties : (frame : Frame) (frames : List Frame) (x : Frame) → filter (ties is_before x) (put_by_path frame frames) ≡ filter (ties is_before x) (frame ∷ frames)
put_ties frame [] x = refl
put_ties frame (first ∷ rest) x = by (path_cmp frame.path first.path) refl (put_ties frame rest x)
  where
    swapped : (path_cmp frame.path first.path ≡ Greater) → (a b : Bool) → ties is_before x frame ≡ a → ties is_before x first ≡ b → (more : List Frame) →
        cond b (first ∷ cond a (frame ∷ more) more) (cond a (frame ∷ more) more) ≡ cond a (frame ∷ cond b (first ∷ more) more) (cond b (first ∷ more) more)
    swapped e true true h k more =
        let same : frame.path ≡ first.path = sym (tie_is x frame h) ∙ tie_is x first k in
        let clash : ◌≡◌ {A = Ordering} Equal Greater = sym (itself first.path) ∙ ap (λ p. path_cmp p first.path) (sym same) ∙ e in absurd (cc)
    swapped e true false h k more = refl
    swapped e false true h k more = refl
    swapped e false false h k more = refl

    by : (o : Ordering) → path_cmp frame.path first.path ≡ o → filter (ties is_before x) (put_by_path frame rest) ≡ filter (ties is_before x) (frame ∷ rest) →
        filter (ties is_before x) (in_front_unless_greater o frame first rest (put_by_path frame rest)) ≡ filter (ties is_before x) (frame ∷ first ∷ rest)
    by Less e further = refl
    by Equal e further = refl
    by Greater e further =
        ap (λ (l : List Frame). cond (ties is_before x first) (first ∷ l) l) further
        ∙ swapped e (ties is_before x frame) (ties is_before x first) refl refl (filter (ties is_before x) rest)

pub sorted_ties : (frames : List Frame) → IsStableBy is_before frames (by_path frames)
sorted_ties [] x = refl
sorted_ties (frame ∷ rest) x =
    put_ties frame (by_path rest) x ∙ ap (λ (l : List Frame). cond (ties is_before x frame) (frame ∷ l) l) (sorted_ties rest x)

-- ---- there is one such list

head_of_filter : (P : Frame → Type 0) (test : Frame → Bool) (frames more : List Frame) (one : Frame) → EachOf P frames → filter test frames ≡ one ∷ more → P one
head_of_filter P test [] more one h e = absurd (cc)
head_of_filter P test (frame ∷ rest) more one h e = by (test frame) e (head_of_filter P test rest more one h.1)
  where
    by : (passes : Bool) → cond passes (frame ∷ filter test rest) (filter test rest) ≡ one ∷ more → (filter test rest ≡ one ∷ more → P one) → P one
    by true e further = (let same : frame ≡ one = cc in subst P same h.0)
    by false e further = further e

filter_first : (test : Frame → Bool) (frame : Frame) (rest : List Frame) → test frame ≡ true → filter test (frame ∷ rest) ≡ frame ∷ filter test rest
filter_first test frame rest h = ap (λ b. cond b (frame ∷ filter test rest) (filter test rest)) h

tails : (test : Frame → Bool) (frame : Frame) (first second : List Frame) → filter test (frame ∷ first) ≡ filter test (frame ∷ second) → filter test first ≡ filter test second
tails test frame first second e = by (test frame) e
  where
    by : (passes : Bool) → cond passes (frame ∷ filter test first) (filter test first) ≡ cond passes (frame ∷ filter test second) (filter test second) → filter test first ≡ filter test second
    by true e = cc
    by false e = e

pub one_order : (first second : List Frame) → AreByPath first → AreByPath second → ((x : Frame) → filter (ties is_before x) first ≡ filter (ties is_before x) second) → first ≡ second
one_order [] [] h k same = refl
one_order [] (other ∷ second) h k same =
    let clash : [] ≡ other ∷ filter (ties is_before other) second = same other ∙ filter_first (ties is_before other) other second (is_tie other other refl) in absurd (cc)
one_order (frame ∷ first) [] h k same =
    let clash : [] ≡ frame ∷ filter (ties is_before frame) first = sym (same frame) ∙ filter_first (ties is_before frame) frame first (is_tie frame frame refl) in absurd (cc)
one_order (frame ∷ first) (other ∷ second) h k same =
    let mine = filter_first (ties is_before frame) frame first (is_tie frame frame refl) in
    let theirs = filter_first (ties is_before other) other second (is_tie other other refl) in
    let one : is_before frame other ≡ false =
    head_of_filter (λ x. is_before x other ≡ false) (ties is_before frame) (other ∷ second) (filter (ties is_before frame) first) frame (not_before_itself other.path, k.0) (sym (same frame) ∙ mine)
    in
    let two : is_before other frame ≡ false =
    head_of_filter (λ x. is_before x frame ≡ false) (ties is_before other) (frame ∷ first) (filter (ties is_before other) second) other (not_before_itself frame.path, h.0) (same other ∙ theirs)
    in
    let path : frame.path ≡ other.path = same_path frame.path other.path one two in
    let heads : frame ∷ filter (ties is_before frame) first ≡ other ∷ filter (ties is_before frame) second =
    sym mine ∙ same frame ∙ filter_first (ties is_before frame) other second (is_tie frame other path)
    in
    let head : frame ≡ other = cc in
    let rest : first ≡ second =
    one_order first second h.1 k.1
    (λ x. tails (ties is_before x) frame first second (same x ∙ ap (λ (f : Frame). filter (ties is_before x) (f ∷ second)) (sym head)))
    in
    λ i. head i ∷ rest i

pub stable_is : (frames sorted : List Frame) → IsSortedBy is_before sorted → IsStableBy is_before frames sorted → sorted ≡ by_path frames
stable_is frames sorted up stable =
    one_order sorted (by_path frames) (in_order_from_sort sorted up) (sorted_in_order frames) (λ x. stable x ∙ sym (sorted_ties frames x))
