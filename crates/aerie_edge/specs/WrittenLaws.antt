-- A file of lemmas: what it proves need not be read to trust a clause.
--
-- What a sink received in turns.
use Rattle.std.specs.Prelude.{ℕ, ◌+◌, List, [], ◌++◌, take, drop, Option, None, Some}
use Rattle.std.proofs.Common.{sym, ap, subst, ◌∙◌, append-nil, append_assoc, take-add}
use Rattle.aerie_edge.specs.Written.{Receives}

-- a sink that stands as it was received nothing
pub Receives_nothing : (a : Option (List ℕ)) → Receives a a []
Receives_nothing None = tt
Receives_nothing (Some x) = sym (append-nil x)

-- what was received in two iterations was received as a whole
pub Receives_in_turn : (a b c : Option (List ℕ)) (xs ys : List ℕ) → Receives a b xs → Receives b c ys → Receives a c (xs ++ ys)
Receives_in_turn None None None xs ys p q = tt
Receives_in_turn None None (Some z) xs ys p q = absurd q
Receives_in_turn None (Some y) c xs ys p q = absurd p
Receives_in_turn (Some x) None None xs ys p q = tt
Receives_in_turn (Some x) None (Some z) xs ys p q = absurd q
Receives_in_turn (Some x) (Some y) None xs ys p q = tt
Receives_in_turn (Some x) (Some y) (Some z) xs ys p q = q ∙ ap (λ l. l ++ ys) p ∙ append_assoc x xs ys

-- the front of a text was received, and then the front of the rest
pub Receives_more : (a b c : Option (List ℕ)) (text : List ℕ) (i n : ℕ) → Receives a b (take i text) → Receives b c (take n (drop i text)) → Receives a c (take (i + n) text)
Receives_more a b c text i n p q = subst (Receives a c) (sym (take-add i n text)) (Receives_in_turn a b c (take i text) (take n (drop i text)) p q)
