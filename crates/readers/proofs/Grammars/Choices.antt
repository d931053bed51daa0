-- Readings that choose a whole expansion at once, and readings that choose when a choice comes up, read the same tokens.
use Rattle.std.proofs.Common.{◌≡◌, ℕ, suc, List, [], ◌∷◌, ◌++◌, refl, sym, ap, ◌∙◌, subst, append_assoc, append-nil}
use Rattle.readers.specs.grammar.Forms.{Form, token, rule, nothing, both, either, many, Grammar}
use Rattle.readers.specs.grammar.Expansions.{Symbol, terminal, nonterminal, IsExpansion, of_token, of_rule, of_nothing, of_both, of_first, of_second, of_no_iteration, of_iteration}
use Rattle.readers.specs.grammar.Readings.{Reading, over, takes, replaces, IsReadable, IsRead}
use Rattle.readers.specs.grammar.LazyReadings.{Goes, stop, read, open_rule, pass, in_turn, first_of_two, second_of_two, no_more, once_more, LazyReading}

module _ {Rule Sort : Type 0} where
  -- a symbol as a form
  abbrev pub form_of : Symbol Rule Sort → Form Rule Sort
  form_of (terminal t) = token t
  form_of (nonterminal r) = rule r

  -- the symbols are an expansion of the forms, one after another
  abbrev pub Expand : List (Form Rule Sort) → List (Symbol Rule Sort) → Type 0
  Expand [] us = us ≡ []
  Expand (a ∷ xs) us = (vs : List (Symbol Rule Sort)) × (ws : List (Symbol Rule Sort)) × IsExpansion a vs × Expand xs ws × (us ≡ vs ++ ws)

  -- each form has an expansion
  some_expansion : (a : Form Rule Sort) → (us : List (Symbol Rule Sort)) × IsExpansion a us
  some_expansion (token t) = (terminal t ∷ [], of_token)
  some_expansion (rule r) = (nonterminal r ∷ [], of_rule)
  some_expansion nothing = ([], of_nothing)
  some_expansion (both a b) = let h = some_expansion a in let i = some_expansion b in (h.0 ++ i.0, of_both h.1 i.1)
  some_expansion (either a b) = let h = some_expansion a in (h.0, of_first h.1)
  some_expansion (many a) = ([], of_no_iteration)

  pub some_expansions : (xs : List (Form Rule Sort)) → (us : List (Symbol Rule Sort)) × Expand xs us
  some_expansions [] = ([], refl)
  some_expansions (a ∷ xs) = let h = some_expansion a in let i = some_expansions xs in (h.0 ++ i.0, (h.0, i.0, h.1, i.1, refl))

  -- the one expansion of a rule alone
  rule_expands : (r : Rule) (us : List (Symbol Rule Sort)) → IsExpansion (rule r) us → us ≡ nonterminal r ∷ []
  rule_expands r _ of_rule = refl

  only_rule : (r : Rule) (us : List (Symbol Rule Sort)) → Expand (rule r ∷ []) us → us ≡ nonterminal r ∷ []
  only_rule r us e = e.4 ∙ ap (λ (x : List (Symbol Rule Sort)). e.0 ++ x) e.3 ∙ append-nil e.0 ∙ rule_expands r e.0 e.2

  front_is_empty : (us vs : List (Symbol Rule Sort)) → us ++ vs ≡ [] → us ≡ []
  front_is_empty [] vs q = refl
  front_is_empty (u ∷ us) vs q = cc

  back_is_empty : (us vs : List (Symbol Rule Sort)) → us ++ vs ≡ [] → vs ≡ []
  back_is_empty [] vs q = q
  back_is_empty (u ∷ us) vs q = cc

module _ {Rule Sort Token : Type 0} (g : Grammar Rule Sort Token) where
  -- ---- a choice that is made when it comes up could have been made at once

  chosen_both : (a b : Form Rule Sort) (xs : List (Form Rule Sort)) (us : List (Symbol Rule Sort)) → Expand (a ∷ b ∷ xs) us → Expand (both a b ∷ xs) us
  chosen_both a b xs us e = let f = e.3 in (e.0 ++ f.0, f.1, of_both e.2 f.2, f.3, e.4 ∙ ap (λ (x : List (Symbol Rule Sort)). e.0 ++ x) f.4 ∙ sym (append_assoc e.0 f.0 f.1))

  chosen_iteration : (a : Form Rule Sort) (xs : List (Form Rule Sort)) (us : List (Symbol Rule Sort)) → Expand (a ∷ many a ∷ xs) us → Expand (many a ∷ xs) us
  chosen_iteration a xs us e = let f = e.3 in (e.0 ++ f.0, f.1, of_iteration e.2 f.2, f.3, e.4 ∙ ap (λ (x : List (Symbol Rule Sort)). e.0 ++ x) f.4 ∙ sym (append_assoc e.0 f.0 f.1))

  -- what a lazy reading reads, some reading reads that leaves any expansion of what is left
  pub chosen : (n : ℕ) (xs : List (Form Rule Sort)) (ts : List Token) (zs : List (Form Rule Sort)) → Goes g n xs ts zs → (vs : List (Symbol Rule Sort)) → Expand zs vs
      → (us : List (Symbol Rule Sort)) × Expand xs us × Reading g us ts vs
  chosen _ xs _ _ stop vs e = (vs, e, over)
  chosen _ _ _ zs (read {n = n} {t = t} {xs = xs} {ts = ts} f h) vs e =
      let i = chosen n xs ts zs h vs e in (terminal t ∷ i.0, (terminal t ∷ [], i.0, of_token, i.1, refl), takes f i.2)
  chosen _ _ ts zs (open_rule {n = n} {r = r} {xs = xs} h) vs e =
      let i = chosen n (g.form r ∷ xs) ts zs h vs e in
      let j = i.1 in
      (nonterminal r ∷ j.1, (nonterminal r ∷ [], j.1, of_rule, j.3, refl), replaces j.2 (subst (λ (us : List (Symbol Rule Sort)). Reading g us ts vs) j.4 i.2))
  chosen _ _ ts zs (pass {n = n} {xs = xs} h) vs e = let i = chosen n xs ts zs h vs e in (i.0, ([], i.0, of_nothing, i.1, refl), i.2)
  chosen _ _ ts zs (in_turn {n = n} {a = a} {b = b} {xs = xs} h) vs e = let i = chosen n (a ∷ b ∷ xs) ts zs h vs e in (i.0, chosen_both a b xs i.0 i.1, i.2)
  chosen _ _ ts zs (first_of_two {n = n} {a = a} {xs = xs} h) vs e = let i = chosen n (a ∷ xs) ts zs h vs e in let j = i.1 in (i.0, (j.0, j.1, of_first j.2, j.3, j.4), i.2)
  chosen _ _ ts zs (second_of_two {n = n} {b = b} {xs = xs} h) vs e = let i = chosen n (b ∷ xs) ts zs h vs e in let j = i.1 in (i.0, (j.0, j.1, of_second j.2, j.3, j.4), i.2)
  chosen _ _ ts zs (no_more {n = n} {xs = xs} h) vs e = let i = chosen n xs ts zs h vs e in (i.0, ([], i.0, of_no_iteration, i.1, refl), i.2)
  chosen _ _ ts zs (once_more {n = n} {a = a} {xs = xs} h) vs e = let i = chosen n (a ∷ many a ∷ xs) ts zs h vs e in (i.0, chosen_iteration a xs i.0 i.1, i.2)

  -- ---- a choice that is made at once can be made when it comes up

  -- the forms can be opened until the symbol stands first, with the symbols as an expansion of what is behind it
  pub record Opened (xs : List (Form Rule Sort)) (u : Symbol Rule Sort) (us : List (Symbol Rule Sort)) : Type 0 where
    pub rest : List (Form Rule Sort)
    pub leads : (ts : List Token) (zs : List (Form Rule Sort)) → LazyReading g (form_of u ∷ rest) ts zs → LazyReading g xs ts zs
    pub behind : Expand rest us

  opened_more : (xs ys : List (Form Rule Sort)) (u : Symbol Rule Sort) (us : List (Symbol Rule Sort)) → ((ts : List Token) (zs : List (Form Rule Sort)) → LazyReading g ys ts zs → LazyReading g xs ts zs) → Opened ys u us → Opened xs u us
  opened_more xs ys u us f h = record { rest = h.rest; leads = λ ts zs i. f ts zs (h.leads ts zs i); behind = h.behind }

  opened_first : (u v : Symbol Rule Sort) (us ws : List (Symbol Rule Sort)) (xs : List (Form Rule Sort)) → Expand xs ws → (v ∷ ws) ≡ (u ∷ us) → Opened (form_of v ∷ xs) u us
  opened_first u v us ws xs e q =
      let h : v ≡ u = cc in
      let t : ws ≡ us = cc in
      record {
        rest = xs;
        leads = λ ts zs i. subst (λ (w : Symbol Rule Sort). LazyReading g (form_of w ∷ xs) ts zs) (sym h) i;
        behind = subst (λ (w : List (Symbol Rule Sort)). Expand xs w) t e;
      }

  open_form : (u : Symbol Rule Sort) (us : List (Symbol Rule Sort)) (a : Form Rule Sort) (vs : List (Symbol Rule Sort)) → IsExpansion a vs → (xs : List (Form Rule Sort)) (ws : List (Symbol Rule Sort)) → Expand xs ws
      → (ws ≡ u ∷ us → Opened xs u us) → vs ++ ws ≡ u ∷ us → Opened (a ∷ xs) u us
  open_form u us _ _ (of_token {t = t}) xs ws e f q = opened_first u (terminal t) us ws xs e q
  open_form u us _ _ (of_rule {r = r}) xs ws e f q = opened_first u (nonterminal r) us ws xs e q
  open_form u us _ _ of_nothing xs ws e f q = opened_more _ _ u us (λ ts zs h. (suc h.0, pass h.1)) (f q)
  open_form u us _ _ (of_both {a = a} {b = b} {us = vs} {vs = vt} h i) xs ws e f q =
      opened_more _ _ u us (λ ts zs j. (suc j.0, in_turn j.1))
      (open_form u us a vs h (b ∷ xs) (vt ++ ws) (vt, ws, i, e, refl) (open_form u us b vt i xs ws e f) (sym (append_assoc vs vt ws) ∙ q))
  open_form u us _ _ (of_first {a = a} {us = vs} h) xs ws e f q = opened_more _ _ u us (λ ts zs j. (suc j.0, first_of_two j.1)) (open_form u us a vs h xs ws e f q)
  open_form u us _ _ (of_second {b = b} {us = vs} h) xs ws e f q = opened_more _ _ u us (λ ts zs j. (suc j.0, second_of_two j.1)) (open_form u us b vs h xs ws e f q)
  open_form u us _ _ of_no_iteration xs ws e f q = opened_more _ _ u us (λ ts zs h. (suc h.0, no_more h.1)) (f q)
  open_form u us _ _ (of_iteration {a = a} {us = vs} {vs = vt} h i) xs ws e f q =
      opened_more _ _ u us (λ ts zs j. (suc j.0, once_more j.1))
      (open_form u us a vs h (many a ∷ xs) (vt ++ ws) (vt, ws, i, e, refl) (open_form u us (many a) vt i xs ws e f) (sym (append_assoc vs vt ws) ∙ q))

  open_forms : (u : Symbol Rule Sort) (us : List (Symbol Rule Sort)) (xs : List (Form Rule Sort)) (ws : List (Symbol Rule Sort)) → Expand xs ws → ws ≡ u ∷ us → Opened xs u us
  open_forms u us [] ws e q = cc
  open_forms u us (a ∷ xs) ws e q = open_form u us a e.0 e.2 xs e.1 e.3 (open_forms u us xs e.1 e.3) (sym e.4 ∙ q)

  -- what a reading of an expansion reads, some lazy reading reads; the predicate is of what both leave
  pub delayed : (us : List (Symbol Rule Sort)) (ts : List Token) (vs : List (Symbol Rule Sort)) → Reading g us ts vs → (Q : List (Form Rule Sort) → Type 0)
      → ((ys : List (Form Rule Sort)) → Expand ys vs → (zs : List (Form Rule Sort)) × LazyReading g ys [] zs × Q zs)
      → (xs : List (Form Rule Sort)) → Expand xs us → (zs : List (Form Rule Sort)) × LazyReading g xs ts zs × Q zs
  delayed us _ _ over Q final xs e = final xs e
  delayed _ _ vs (takes {t = t} {us = us} {tokens = ts} f h) Q final xs e =
      let o = open_forms (terminal t) us xs _ e refl in
      let i = delayed us ts vs h Q final o.rest o.behind in
      (i.0, o.leads _ i.0 (suc i.1.0, read f i.1.1), i.2)
  delayed _ ts vs (replaces {r = r} {expansion = expansion} {us = us} f h) Q final xs e =
      let o = open_forms (nonterminal r) us xs _ e refl in
      let i = delayed (expansion ++ us) ts vs h Q final (g.form r ∷ o.rest) (expansion, us, f, o.behind, refl) in
      (i.0, o.leads _ i.0 (suc i.1.0, open_rule i.1.1), i.2)

  -- forms with the empty expansion can be passed
  drained : (a : Form Rule Sort) (vs : List (Symbol Rule Sort)) → IsExpansion a vs → vs ≡ [] → (xs : List (Form Rule Sort)) → LazyReading g xs [] [] → LazyReading g (a ∷ xs) [] []
  drained _ _ of_token q xs h = cc
  drained _ _ of_rule q xs h = cc
  drained _ _ of_nothing q xs h = (suc h.0, pass h.1)
  drained _ _ (of_both {a = a} {b = b} {us = us} {vs = vs} e f) q xs h =
      let i = drained a us e (front_is_empty us vs q) (b ∷ xs) (drained b vs f (back_is_empty us vs q) xs h) in (suc i.0, in_turn i.1)
  drained _ _ (of_first {a = a} {us = us} e) q xs h = let i = drained a us e q xs h in (suc i.0, first_of_two i.1)
  drained _ _ (of_second {b = b} {us = us} e) q xs h = let i = drained b us e q xs h in (suc i.0, second_of_two i.1)
  drained _ _ of_no_iteration q xs h = (suc h.0, no_more h.1)
  drained _ _ (of_iteration {a = a} {us = us} {vs = vs} e f) q xs h =
      let i = drained a us e (front_is_empty us vs q) (many a ∷ xs) (drained (many a) vs f (back_is_empty us vs q) xs h) in (suc i.0, once_more i.1)

  all_drained : (xs : List (Form Rule Sort)) (us : List (Symbol Rule Sort)) → Expand xs us → us ≡ [] → LazyReading g xs [] []
  all_drained [] us e q = (0, stop)
  all_drained (a ∷ xs) us e q =
      let n : e.0 ++ e.1 ≡ [] = sym e.4 ∙ q in
      drained a e.0 e.2 (front_is_empty e.0 e.1 n) xs (all_drained xs e.1 e.3 (back_is_empty e.0 e.1 n))

  -- ---- both read the same tokens

  pub readable_lazily : (r : Rule) (ts : List Token) → IsReadable g r ts → (zs : List (Form Rule Sort)) × LazyReading g (rule r ∷ []) ts zs
  readable_lazily r ts h =
      let i = delayed _ ts h.left h.reading (λ zs. Unit {0}) (λ ys e. (ys, (0, stop), tt)) (rule r ∷ []) (nonterminal r ∷ [], [], of_rule, refl, refl) in (i.0, i.1)

  pub readable_at_once : (r : Rule) (ts : List Token) (zs : List (Form Rule Sort)) → LazyReading g (rule r ∷ []) ts zs → IsReadable g r ts
  readable_at_once r ts zs h =
      let v = some_expansions zs in
      let i = chosen h.0 (rule r ∷ []) ts zs h.1 v.0 v.1 in
      let one = only_rule r i.0 i.1 in
      record { left = v.0; reading = subst (λ (us : List (Symbol Rule Sort)). Reading g us ts v.0) one i.2 }

  pub read_lazily : (r : Rule) (ts : List Token) → IsRead g r ts → LazyReading g (rule r ∷ []) ts []
  read_lazily r ts h =
      let i = delayed _ ts [] h.reading (λ zs. zs ≡ []) (λ ys e. ([], all_drained ys [] e refl, refl)) (rule r ∷ []) (nonterminal r ∷ [], [], of_rule, refl, refl) in
      subst (λ (zs : List (Form Rule Sort)). LazyReading g (rule r ∷ []) ts zs) i.2 i.1

  pub read_at_once : (r : Rule) (ts : List Token) → LazyReading g (rule r ∷ []) ts [] → IsRead g r ts
  read_at_once r ts h =
      let i = chosen h.0 (rule r ∷ []) ts [] h.1 [] refl in
      record { reading = subst (λ (us : List (Symbol Rule Sort)). Reading g us ts []) (only_rule r i.0 i.1) i.2 }
