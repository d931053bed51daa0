-- Segments, from one settled time to the next.
use Rattle.std.proofs.Common.{◌≡◌, ℕ, zero, suc, ◌-◌, ◌<◌, ◌≤◌, ℤ, ◌+ℤ◌, Bool, true, false, not, ◌&&◌, cond, List, [], ◌∷◌, ◌++◌, map, nat_le, nat_eq, refl, sym, ap, ◌∙◌, arith}
use Rattle.std.specs.Ordering.{int_eq}
use Rattle.std.proofs.lemmas.Bool.{leb-true, leb-false}
use Rattle.std.proofs.lemmas.Cmp.{int_eq_equiv, nat_eq_equiv}
use Rattle.std.proofs.lemmas.Int.{ints}
use Rattle.aerie_base.specs.declared.values.Value.{Value}
use Rattle.aerie_base.specs.declared.values.Value.TheVariants.{Int, Truth, Variant}
use Rattle.aerie_base.specs.expressions.Arithmetic.{same_value}
use Rattle.windows.specs.declared.segments.Segment.{Segment}
use Rattle.windows.specs.Linear.{segment_value}
use Rattle.profiles.specs.Segments.{times_where, begins_value, begins_line}
use Rattle.aerie_base.specs.Products.{times_more}

-- ---- times

no_more : {A : Type 0} (items : List A) → items ++ [] ≡ items
no_more [] = refl
no_more (item ∷ items) = ap (λ l. item ∷ l) (no_more items)

-- where no time more passes, the times are the same
pub none_more : (test : ℕ → Bool) (n m : ℕ) → n ≤ m → ((t : ℕ) → n ≤ t → t < m → test t ≡ false) → times_where test m ≡ times_where test n
none_more test n zero upto none = let same : 0 ≡ n = omega arith in ap (times_where test) same
none_more test n (suc m) upto none = go (nat_le n m) refl (λ le. none_more test n m le (λ t from below. none t from (omega arith)))
  where
    go : (b : Bool) → nat_le n m ≡ b → (n ≤ m → times_where test m ≡ times_where test n) → times_where test m ++ cond (test m) (m ∷ []) [] ≡ times_where test n
    go true e before =
        let le : n ≤ m = leb-true n m e in
        ap (λ b. times_where test m ++ cond b (m ∷ []) []) (none m le (omega arith)) ∙ (no_more (times_where test m) ∙ before le)
    go false e before =
        let past : m < n = leb-false n m e in
        let same : n ≡ suc m = omega arith in
        ap (times_where test) (sym same)

map_append : {A : Type 0} (f : ℕ → A) (one other : List ℕ) → map f (one ++ other) ≡ map f one ++ map f other
map_append f [] other = refl
map_append f (t ∷ one) other = ap (λ l. f t ∷ l) (map_append f one other)

map_if : {A : Type 0} (f : ℕ → A) (b : Bool) (t : ℕ) → map f (cond (not b) (t ∷ []) []) ≡ cond b [] (f t ∷ [])
map_if f true t = refl
map_if f false t = refl

-- one settled time more
pub one_more : {A : Type 0} (f : ℕ → A) (test : ℕ → Bool) (n m : ℕ) (same : Bool) (segments : List A) → segments ≡ map f (times_where test n) → n ≤ m →
    ((t : ℕ) → n ≤ t → t < m → test t ≡ false) → test m ≡ not same → segments ++ cond same [] (f m ∷ []) ≡ map f (times_where test (suc m))
one_more f test n m same segments made upto none here =
    ap (λ l. l ++ cond same [] (f m ∷ [])) (made ∙ ap (map f) (sym (none_more test n m upto none)))
    ∙ (ap (λ l. map f (times_where test m) ++ l) (sym (map_if f same m))
    ∙ (sym (map_append f (times_where test m) (cond (not same) (m ∷ []) []))
    ∙ ap (λ b. map f (times_where test m ++ cond b (m ∷ []) [])) (sym here)))

-- ---- values that stay

pub same_itself : (value : Value) → same_value value value ≡ true
same_itself (Int number) = int_eq_equiv.refl number
same_itself (Truth true) = refl
same_itself (Truth false) = refl
same_itself (Variant kind number) = ap (λ b. b && nat_eq number number) (nat_eq_equiv.refl kind) ∙ nat_eq_equiv.refl number

abbrev pub Stays : (ℕ → Value) → Value → ℕ → ℕ → Type 0
Stays value last from to = (t : ℕ) → from ≤ t → t < to → value t ≡ last

pub none_begins : (value : ℕ → Value) (last : Value) (from to : ℕ) → Stays value last from to → (t : ℕ) → suc from ≤ t → t < to → begins_value value t ≡ false
none_begins value last from to stays zero after before = absurd (omega arith)
none_begins value last from to stays (suc t) after before =
    ap (λ v. not (same_value v (value (suc t)))) (stays t (omega arith) (omega arith))
    ∙ (ap (λ v. not (same_value last v)) (stays (suc t) (omega arith) before) ∙ ap not (same_itself last))

pub begins_by : (value : ℕ → Value) (last : Value) (from to : ℕ) → from < to → Stays value last from to → begins_value value to ≡ not (same_value last (value to))
begins_by value last from zero later stays = absurd (omega arith)
begins_by value last from (suc to) later stays = ap (λ v. not (same_value v (value (suc to)))) (stays to (omega arith) (omega arith))

-- ---- values that rise and fall

abbrev pub Runs : (ℕ → ℤ) → (ℕ → ℤ) → Segment → ℕ → Type 0
Runs value rate line to = (t : ℕ) → line.from ≤ t → t < to → (value t ≡ segment_value line t) × (rate t ≡ line.rate)

-- a straight piece a microsecond later
pub one_later : (line : Segment) (t : ℕ) → line.from ≤ t → segment_value line t +ℤ line.rate ≡ segment_value line (suc t)
one_later line t from =
    let step = times_more line.rate (t - line.from) in
    let count : suc t - line.from ≡ suc (t - line.from) = omega arith in
    rw count (omega (arith, ints, step))

pub same_number : (a b : ℤ) → a ≡ b → int_eq a b ≡ true
same_number a b is = ap (int_eq a) (sym is) ∙ int_eq_equiv.refl a

pub no_line_begins : (value rate : ℕ → ℤ) (line : Segment) (to : ℕ) → Runs value rate line to → (t : ℕ) → suc line.from ≤ t → t < to → begins_line value rate t ≡ false
no_line_begins value rate line to runs zero after before = absurd (omega arith)
no_line_begins value rate line to runs (suc t) after before =
    let here = runs t (omega arith) (omega arith) in
    let next = runs (suc t) (omega arith) before in
    let goes_on : value t +ℤ rate t ≡ value (suc t) =
    ap (λ (z : ℤ). z +ℤ rate t) here.0 ∙ (ap (λ (z : ℤ). segment_value line t +ℤ z) here.1 ∙ (one_later line t (omega arith) ∙ sym next.0)) in
    ap (λ b. not (b && int_eq (rate t) (rate (suc t)))) (same_number (value t +ℤ rate t) (value (suc t)) goes_on)
    ∙ ap not (same_number (rate t) (rate (suc t)) (here.1 ∙ sym next.1))

pub line_begins_by : (value rate : ℕ → ℤ) (line : Segment) (to : ℕ) → line.from < to → Runs value rate line to →
    begins_line value rate to ≡ not (int_eq (segment_value line to) (value to) && int_eq line.rate (rate to))
line_begins_by value rate line zero later runs = absurd (omega arith)
line_begins_by value rate line (suc to) later runs =
    let here = runs to (omega arith) (omega arith) in
    let goes_on : value to +ℤ rate to ≡ segment_value line (suc to) =
    ap (λ (z : ℤ). z +ℤ rate to) here.0 ∙ (ap (λ (z : ℤ). segment_value line to +ℤ z) here.1 ∙ one_later line to (omega arith)) in
    ap (λ (z : ℤ). not (int_eq z (value (suc to)) && int_eq (rate to) (rate (suc to)))) goes_on
    ∙ ap (λ (z : ℤ). not (int_eq (segment_value line (suc to)) (value (suc to)) && int_eq z (rate (suc to)))) here.1
