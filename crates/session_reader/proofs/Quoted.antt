-- A text between two ASCII marks can be cut behind the first and before the last.
use Rattle.std.proofs.Common.{◌≡◌, ℕ, ◌-◌, ◌<◌, ◌≤◌, ◌==◌, ◌&&◌, List, get_or, length, nat_le, true, subst, sym, arith, leb-true, eqb-true}
use Rattle.std.specs.Str.{IsCharBoundary, IsUtf8}
use Rattle.std.proofs.lemmas.Str.{IsCharBoundary-after_ascii, IsCharBoundary-before_ascii}
use Rattle.session_reader.specs.Quotes.{is_quoted}
use Rattle.session_reader.proofs.Found.{both_true}

pub record CanBeCut (text : List ℕ) : Type 0 where
  pub long : 2 ≤ length text
  pub behind : IsCharBoundary text 1
  pub before : IsCharBoundary text (length text - 1)

pub can_be_cut : (mark : ℕ) (text : List ℕ) → IsUtf8 text → mark < 128 → is_quoted mark text ≡ true → CanBeCut text
can_be_cut mark text utf8 ascii quoted =
    let outer = both_true (nat_le 2 (length text) && get_or text 0 0 == mark) (get_or text (length text - 1) 0 == mark) quoted in
    let inner = both_true (nat_le 2 (length text)) (get_or text 0 0 == mark) outer.0 in
    let long = leb-true 2 (length text) inner.0 in
    record {
      long = long;
      behind = IsCharBoundary-after_ascii text 0 utf8 (omega (arith, long)) (subst (λ (byte : ℕ). byte < 128) (sym (eqb-true (get_or text 0 0) mark inner.1)) ascii);
      before = IsCharBoundary-before_ascii text (length text - 1) (omega (arith, long)) (subst (λ (byte : ℕ). byte < 128) (sym (eqb-true (get_or text (length text - 1) 0) mark outer.1)) ascii);
    }
