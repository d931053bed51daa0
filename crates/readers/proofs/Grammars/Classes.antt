-- A grammar that is predictive over classes of tokens is predictive over the tokens.
use Rattle.std.proofs.Common.{◌≡◌, ℕ, zero, suc, Bool, false, refl, sym, ◌∙◌}
use Rattle.readers.specs.grammar.Forms.{Form, token, rule, nothing, both, either, many}
use Rattle.readers.specs.grammar.Lookahead.{Lookahead, nullable, in_first}
use Rattle.readers.specs.grammar.Predictive.{IsPredictive, IsDecided, shallow, shallow_inside}
use Rattle.readers.specs.grammar.Classes.{look_by_class}

module _ {Rule Sort Class Token : Type 0} (class_of : Token → Class) (look : Lookahead Rule Sort Class) where
  abbrev pub seen : Lookahead Rule Sort Token
  seen = look_by_class class_of look

  empty_same : (a : Form Rule Sort) → nullable seen a ≡ nullable look a
  empty_same (token t) = refl
  empty_same (rule r) = refl
  empty_same nothing = refl
  empty_same (both a b) = rw (empty_same a, empty_same b) refl
  empty_same (either a b) = rw (empty_same a, empty_same b) refl
  empty_same (many a) = refl

  begins_same : (a : Form Rule Sort) (k : Token) → in_first seen a k ≡ in_first look a (class_of k)
  begins_same (token t) k = refl
  begins_same (rule r) k = refl
  begins_same nothing k = refl
  begins_same (both a b) k = rw (begins_same a k, begins_same b k, empty_same a) refl
  begins_same (either a b) k = rw (begins_same a k, begins_same b k) refl
  begins_same (many a) k = begins_same a k

  decided_same : (a : Form Rule Sort) (f : Class → Bool) (g : Token → Bool) → ((k : Token) → g k ≡ f (class_of k)) → IsDecided look a f → IsDecided seen a g
  decided_same (token t) f g h i = tt
  decided_same (rule r) f g h i = λ k q. i (class_of k) (sym (h k) ∙ q)
  decided_same nothing f g h i = tt
  decided_same (both a b) f g h i = (decided_same a _ _ (λ k. rw (begins_same b k, empty_same b, h k) refl) i.0, decided_same b f g h i.1)
  decided_same (either a b) f g h i =
      (decided_same a f g h i.0, decided_same b f g h i.1, λ k. rw (empty_same a, empty_same b, begins_same a k, begins_same b k, h k) (i.2 (class_of k)))
  decided_same (many a) f g h i = (decided_same a _ _ (λ k. rw (begins_same a k, h k) refl) i.0, rw (empty_same a) i.1, λ k. rw (begins_same a k, h k) (i.2 (class_of k)))

  inside_same : (f g : Rule → Bool) → ((r : Rule) → f r ≡ g r) → (a : Form Rule Sort) → shallow_inside seen f a ≡ shallow_inside look g a
  inside_same f g h (token t) = refl
  inside_same f g h (rule r) = h r
  inside_same f g h nothing = refl
  inside_same f g h (both a b) = rw (inside_same f g h a, inside_same f g h b, empty_same a) refl
  inside_same f g h (either a b) = rw (inside_same f g h a, inside_same f g h b) refl
  inside_same f g h (many a) = inside_same f g h a

  shallow_same : (d : ℕ) (a : Form Rule Sort) → shallow seen d a ≡ shallow look d a
  shallow_same zero a = inside_same (λ r. false) (λ r. false) (λ r. refl) a
  shallow_same (suc d) a = inside_same (λ r. shallow seen d (look.grammar.form r)) (λ r. shallow look d (look.grammar.form r)) (λ r. shallow_same d (look.grammar.form r)) a

  pub predictive_by_class : IsPredictive look → IsPredictive seen
  predictive_by_class ok = record {
    nullable_rule = λ r h. ok.nullable_rule r (sym (empty_same (look.grammar.form r)) ∙ h);
    rule_nullable = λ r h. empty_same (look.grammar.form r) ∙ ok.rule_nullable r h;
    first_rule = λ r k h. ok.first_rule r (class_of k) (sym (begins_same (look.grammar.form r) k) ∙ h);
    rule_first = λ r k h. begins_same (look.grammar.form r) k ∙ ok.rule_first r (class_of k) h;
    decided = λ r. decided_same (look.grammar.form r) (look.follow r) (λ k. look.follow r (class_of k)) (λ k. refl) (ok.decided r);
    shallow_rule = λ r. shallow_same look.openings (rule r) ∙ ok.shallow_rule r;
  }
