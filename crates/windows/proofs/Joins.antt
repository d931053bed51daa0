-- One interval more, joined to the last one or put behind it.
use Rattle.std.proofs.Common.{◌≡◌, ℕ, ◌<◌, ◌≤◌, max, Bool, true, false, ◌||◌, List, [], ◌∷◌, ◌++◌, refl, sym, ap, ◌∙◌, arith}
use Rattle.std.proofs.lemmas.Grind.{common_steps}
use Rattle.windows.specs.Times.{Interval, covers, contains}
use Rattle.windows.specs.Joining.{last_start, Joins}
use Rattle.windows.specs.OrderLaws.{next_start, push_parts, push_order, next_push, contains_push}

pub last_start_push : (intervals : List Interval) (interval : Interval) → last_start (intervals ++ interval ∷ []) ≡ interval.0
last_start_push [] interval = refl
last_start_push (first ∷ []) interval = refl
last_start_push (first ∷ next ∷ rest) interval = last_start_push (next ∷ rest) interval

-- an interval without a time changes nothing
covers_none : (from to t : ℕ) → to ≤ from → covers (from, to) t ≡ false
covers_none from to t none = grind (arith, common_steps)

or_false : (b : Bool) → b ≡ (b || false)
or_false true = refl
or_false false = refl

pub joins_nothing : (old : List Interval) (from to : ℕ) → to ≤ from → last_start old ≤ from → Joins old from to old
joins_nothing old from to none order = record {
  times = λ t. rw (covers_none from to t none) (or_false (contains old t));
  in_order = λ reach before within. before;
  start = order;
}

-- the two cover what the one does that reaches from the first start to the later end
covers_both : (first : Interval) (from to t : ℕ) → first.0 ≤ from → from ≤ first.1 → covers (first.0, max first.1 to) t ≡ (covers first t || covers (from, to) t)
covers_both first from to t order touch = grind (arith, common_steps)

or_assoc : (a b c : Bool) → (a || (b || c)) ≡ ((a || b) || c)
or_assoc true b c = refl
or_assoc false b c = refl

pub joins_last : (old done : List Interval) (first : Interval) (from to : ℕ) → old ≡ done ++ first ∷ [] → last_start old ≤ from → from ≤ first.1 → from < to →
    Joins old from to (done ++ (first.0, max first.1 to) ∷ [])
joins_last old done first from to is order touch some_time =
    let start : first.0 ≤ from = omega (arith, last_start_push done first, ap last_start is) in
    rw is (record {
      times = λ t.
          contains_push done (first.0, max first.1 to) t
          ∙ (ap (λ b. contains done t || b) (covers_both first from to t start touch)
          ∙ (or_assoc (contains done t) (covers first t) (covers (from, to) t)
          ∙ ap (λ b. b || covers (from, to) t) (sym (contains_push done first t))));
      in_order = λ reach before within.
          let behind = push_parts reach 0 done first before in
          push_order reach 0 done (first.0, max first.1 to) (record { front = behind.front; later = behind.later; some_time = omega (arith, behind.some_time); within = omega (arith, behind.within) });
      start = omega (arith, last_start_push done (first.0, max first.1 to));
    })

pub joins_behind : (old done : List Interval) (first : Interval) (from to : ℕ) → old ≡ done ++ first ∷ [] → first.1 < from → from < to → Joins old from to (old ++ (from, to) ∷ [])
joins_behind old done first from to is later some_time = record {
  times = λ t. contains_push old (from, to) t;
  in_order = λ reach before within.
      push_order reach 0 old (from, to) (record { front = before; later = omega (arith, next_push 0 done first, ap (next_start 0) is); some_time = some_time; within = within });
  start = omega (arith, last_start_push old (from, to));
}

pub joins_first : (from to : ℕ) → from < to → Joins [] from to ((from, to) ∷ [])
joins_first from to some_time = record {
  times = λ t. sym (or_false (covers (from, to) t));
  in_order = λ reach before within. (omega arith, some_time, within, tt);
  start = omega arith;
}
