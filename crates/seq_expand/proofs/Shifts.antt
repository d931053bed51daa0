-- The steps for a type have shifts, where those of all rules have.
use Rattle.std.proofs.Common.{◌≡◌, ℕ, Bool, true, false, cond, List, [], ◌∷◌, nat_eq, refl}
use Rattle.std.specs.List.{list_all}
use Rattle.std.proofs.lemmas.Bool.{and_parts}
use Rattle.seq_expand.specs.declared.rules.SpanRule.{SpanRule}
use Rattle.seq_expand.specs.OfModel.{has_shift, have_shifts}
use Rattle.seq_expand.specs.Sending.{steps_for}

pub have_all : (kind : ℕ) (rules : List SpanRule) → list_all have_shifts rules ≡ true → list_all has_shift (steps_for kind rules) ≡ true
have_all kind [] all = refl
have_all kind (rule ∷ rest) all =
    let parts = and_parts (have_shifts rule) (list_all have_shifts rest) all in
    go (nat_eq rule.kind kind) parts.0 (have_all kind rest parts.1)
  where
    go : (b : Bool) → have_shifts rule ≡ true → list_all has_shift (steps_for kind rest) ≡ true → list_all has_shift (cond b rule.steps (steps_for kind rest)) ≡ true
    go true own others = own
    go false own others = others
