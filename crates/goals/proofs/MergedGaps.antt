-- One merge of starts and anchors that rise finds the least anchor without a start beside it.
use Rattle.std.proofs.Common.{◌≡◌, ℕ, ◌≤◌, ℤ, pos, ◌+ℤ◌, ◌≤ℤ◌, Bool, true, false, ◌&&◌, ◌||◌, List, [], ◌∷◌, Option, Some, None, min, refl, sym, ap, ◌∙◌, arith, if◌then◌else◌}
use Rattle.std.specs.Prelude.{int_le, int_lt}
use Rattle.std.proofs.lemmas.Grind.{common_steps}
use Rattle.aerie_base.specs.TimeOrder.{earlier}
use Rattle.goals.specs.Gaps.{is_beside, has_start, without_start, coexistence_gap}
use Rattle.goals.specs.Merging.{AreBehind, Rises, from_time, begins_by, merged_gap}

-- ---- starts

or_false : (b c : Bool) → b ≡ false → (b || c) ≡ c
or_false b c is = ap (λ b. b || c) is

-- a start before the time is beside no anchor from which the time is reached
too_early : (from to earliest : ℤ) (anchor start : ℕ) → earliest ≤ℤ (pos anchor +ℤ from) → int_lt (pos start) earliest ≡ true → is_beside from to anchor start ≡ false
too_early from to earliest anchor start later before = ap (λ b. b && int_le (pos start) (pos anchor +ℤ to)) early
  where
    early : int_le (pos anchor +ℤ from) (pos start) ≡ false
    early = grind (arith, common_steps)

-- those left out are beside no anchor from there on
pub kept : (from to earliest : ℤ) (anchor : ℕ) (starts : List ℕ) → earliest ≤ℤ (pos anchor +ℤ from) → has_start from to (from_time earliest starts) anchor ≡ has_start from to starts anchor
kept from to earliest anchor [] later = refl
kept from to earliest anchor (start ∷ rest) later = go (kept from to earliest anchor rest later) (int_lt (pos start) earliest) refl
  where
    go : has_start from to (from_time earliest rest) anchor ≡ has_start from to rest anchor → (b : Bool) → int_lt (pos start) earliest ≡ b →
        has_start from to (if b then from_time earliest rest else start ∷ rest) anchor ≡ has_start from to (start ∷ rest) anchor
    go others true before = others ∙ sym (or_false (is_beside from to anchor start) (has_start from to rest anchor) (too_early from to earliest anchor start later before))
    go others false before = refl

and_false : (b c : Bool) → c ≡ false → (b && c) ≡ false
and_false true c is = is
and_false false c is = refl

late_too : (latest : ℤ) (start next : ℕ) → start ≤ next → int_le (pos start) latest ≡ false → int_le (pos next) latest ≡ false
late_too latest start next below late = grind (arith, common_steps)

-- behind a start that is too late all are
too_late : (from to : ℤ) (anchor start : ℕ) (rest : List ℕ) → AreBehind start rest → int_le (pos start) (pos anchor +ℤ to) ≡ false → has_start from to rest anchor ≡ false
too_late from to anchor start [] behind late = refl
too_late from to anchor start (next ∷ rest) behind late =
    or_false (is_beside from to anchor next) (has_start from to rest anchor)
    (and_false (int_le (pos anchor +ℤ from) (pos next)) (int_le (pos next) (pos anchor +ℤ to)) (late_too (pos anchor +ℤ to) start next behind.0 late))
    ∙ too_late from to anchor start rest behind.1 late

le_itself : (n : ℤ) → n ≤ℤ n
le_itself n = grind arith

not_early : (earliest : ℤ) (start : ℕ) → int_lt (pos start) earliest ≡ false → int_le earliest (pos start) ≡ true
not_early earliest start is = grind (arith, common_steps)

-- the first start that is not too early decides
pub reached : (from to : ℤ) (anchor : ℕ) (starts : List ℕ) → Rises starts → begins_by (pos anchor +ℤ to) (from_time (pos anchor +ℤ from) starts) ≡ has_start from to starts anchor
reached from to anchor [] rises = refl
reached from to anchor (start ∷ rest) rises = go (reached from to anchor rest rises.1) (int_lt (pos start) (pos anchor +ℤ from)) refl
  where
    last : (b : Bool) → int_le (pos start) (pos anchor +ℤ to) ≡ b → b ≡ (b || has_start from to rest anchor)
    last true is = refl
    last false is = sym (too_late from to anchor start rest rises.0 is)

    go : begins_by (pos anchor +ℤ to) (from_time (pos anchor +ℤ from) rest) ≡ has_start from to rest anchor → (b : Bool) → int_lt (pos start) (pos anchor +ℤ from) ≡ b →
        begins_by (pos anchor +ℤ to) (if b then from_time (pos anchor +ℤ from) rest else start ∷ rest) ≡ has_start from to (start ∷ rest) anchor
    go others true before =
        others
        ∙ sym (or_false (is_beside from to anchor start) (has_start from to rest anchor) (too_early from to (pos anchor +ℤ from) anchor start (le_itself (pos anchor +ℤ from)) before))
    go others false before =
        last (int_le (pos start) (pos anchor +ℤ to)) refl
        ∙ ap (λ (first : Bool). (first && int_le (pos start) (pos anchor +ℤ to)) || has_start from to rest anchor) (sym (not_early (pos anchor +ℤ from) start before))

pub still_rise : (earliest : ℤ) (starts : List ℕ) → Rises starts → Rises (from_time earliest starts)
still_rise earliest [] rises = tt
still_rise earliest (start ∷ rest) rises = go (still_rise earliest rest rises.1) (int_lt (pos start) earliest)
  where
    go : Rises (from_time earliest rest) → (b : Bool) → Rises (if b then from_time earliest rest else start ∷ rest)
    go others true = others
    go others false = rises

-- ---- anchors

lesser : (a b : ℕ) → a ≤ b → min a b ≡ a
lesser a b below = grind (arith, common_steps)

least_of : (a b m : ℕ) → a ≤ b → min a m ≡ a → min a (min b m) ≡ a
least_of a b m below is = grind (arith, common_steps)

number : Option ℕ → ℕ
number None = 0
number (Some n) = n

between : (a b : ℕ) (gap : Option ℕ) → a ≤ b → earlier (Some a) gap ≡ Some a → earlier (Some a) (earlier (Some b) gap) ≡ Some a
unfolding number
between a b None below before = ap Some (lesser a b below)
between a b (Some m) below before = ap Some (least_of a b m below (ap number before))

pub least_first : (from to : ℤ) (starts : List ℕ) (a : ℕ) (anchors : List ℕ) → AreBehind a anchors → earlier (Some a) (coexistence_gap from to starts anchors) ≡ Some a
least_first from to starts a [] behind = refl
least_first from to starts a (b ∷ rest) behind = go (least_first from to starts a rest behind.1) (has_start from to starts b)
  where
    go : earlier (Some a) (coexistence_gap from to starts rest) ≡ Some a → (has : Bool) →
        earlier (Some a) (earlier (if has then None else Some b) (coexistence_gap from to starts rest)) ≡ Some a
    go later true = later
    go later false = between a b (coexistence_gap from to starts rest) behind.0 later

-- the gap is the same over starts that are beside the same ones of the anchors
same_gap : (from to : ℤ) (starts others : List ℕ) (a : ℕ) (anchors : List ℕ) → ((b : ℕ) → a ≤ b → has_start from to starts b ≡ has_start from to others b) → AreBehind a anchors →
    coexistence_gap from to starts anchors ≡ coexistence_gap from to others anchors
same_gap from to starts others a [] same behind = refl
same_gap from to starts others a (b ∷ rest) same behind =
    ap (λ (has : Bool). earlier (if has then None else Some b) (coexistence_gap from to starts rest)) (same b behind.0)
    ∙ ap (earlier (without_start from to others b)) (same_gap from to starts others a rest same behind.1)

later_bound : (from : ℤ) (a b : ℕ) → a ≤ b → (pos a +ℤ from) ≤ℤ (pos b +ℤ from)
later_bound from a b below = grind (arith, below)

pub merged : (from to : ℤ) (starts anchors : List ℕ) → Rises starts → Rises anchors → merged_gap from to starts anchors ≡ coexistence_gap from to starts anchors
merged from to starts [] rise anchors_rise = refl
merged from to starts (a ∷ rest) rise anchors_rise =
    go (merged from to (from_time (pos a +ℤ from) starts) rest (still_rise (pos a +ℤ from) starts rise) anchors_rise.1)
    (begins_by (pos a +ℤ to) (from_time (pos a +ℤ from) starts)) refl
  where
    go : merged_gap from to (from_time (pos a +ℤ from) starts) rest ≡ coexistence_gap from to (from_time (pos a +ℤ from) starts) rest →
        (b : Bool) → begins_by (pos a +ℤ to) (from_time (pos a +ℤ from) starts) ≡ b →
        (if b then merged_gap from to (from_time (pos a +ℤ from) starts) rest else Some a) ≡ earlier (without_start from to starts a) (coexistence_gap from to starts rest)
    go others true is =
        others
        ∙ same_gap from to (from_time (pos a +ℤ from) starts) starts a rest (λ b below. kept from to (pos a +ℤ from) b starts (later_bound from a b below)) anchors_rise.0
        ∙ ap (λ (has : Bool). earlier (if has then None else Some a) (coexistence_gap from to starts rest)) (sym is ∙ reached from to a starts rise)
    go others false is =
        sym (least_first from to starts a rest anchors_rise.0)
        ∙ ap (λ (has : Bool). earlier (if has then None else Some a) (coexistence_gap from to starts rest)) (sym is ∙ reached from to a starts rise)
