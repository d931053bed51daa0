-- At each place of a body, what is left there begins with a statement at whose own place the same is left, and the locals
-- that suit the one place suit the other; and from there the run goes on to places whose scopes the locals suit.
--
-- `scopes` and `leftovers` have the scope at each place of the whole body and what is left there.
use Rattle.std.proofs.Common.{◌≡◌, ℕ, zero, suc, ◌+◌, ◌≤◌, true, List, [], ◌∷◌, ◌++◌, Option, Some, length, slice_get, slice_index_or, sym, ap, ◌∙◌, subst, arith, le_trans, add-zero}
use Rattle.aerie_base.specs.declared.expressions.Expr.{Expr}
use Rattle.aerie_base.specs.declared.statements.Stmt.{Stmt, If, While, out-Stmt}
use Rattle.aerie_base.specs.declared.statements.Stmt.TheVariants.{outs-If, outs-While}
use Rattle.aerie_base.specs.declared.statements.Stmt.TheOpen.{Stmt-F}
use Rattle.aerie_base.specs.statements.Places.{Placed, placed, lefts, block_lefts, size, block_size, is_simple, simple_step}
use Rattle.aerie_base.specs.statements.PlaceForms.{plain_of, size_If, lefts_If, lefts_While}
use Rattle.aerie_base.specs.statements.Induction.{AllOf, each, stmt_ind}
use Rattle.aerie_base.specs.models.Bodies.{Setting, checked, block_checked}
use Rattle.aerie_base.specs.models.Scopes.{Scope, behind}
use Rattle.run_data.specs.Scopes.{scope_or, stmt_scopes, block_scopes}
use Rattle.run_data.proofs.Scoping.{Suffices, same_suffices, in_turn, goes_behind, longer, behind_length, behind_suffices, end_suffices, beginning_suffices}
use Rattle.run_data.proofs.CheckedForms.{then_is, choice_is, loop_is, block_goes}
use Rattle.run_data.proofs.ScopeForms.{after_block, scopes_If, scopes_While, scopes_simple, scopes_length, block_scopes_length, lefts_length, block_lefts_length, lefts_begin, scopes_begin}
use Rattle.run_data.proofs.Sublists.{StandsAt, standing_parts}

module _ (setting : Setting) (slots : ℕ) (scopes : List Scope) (leftovers : List (List Placed)) where
  -- ---- what holds at a place

  -- the locals that suit a scope suit the one at a place
  abbrev pub Reaches : Scope → ℕ → Type 0
  Reaches scope at = (there : Scope) × (slice_get scopes at ≡ Some there) × Suffices scope there

  -- they suit the place of the first of these statements, where these are left
  abbrev pub Follows : Scope → List Placed → Type 0
  Follows scope [] = Unit {0}
  Follows scope (here ∷ rest) = (slice_get leftovers here.at ≡ Some (here ∷ rest)) × Reaches scope here.at

  -- these are left at a place
  abbrev pub IsLeft : ℕ → List Placed → Type 0
  IsLeft at list = slice_get leftovers at ≡ Some list

  -- where the run goes on from a statement, by its form
  abbrev pub Onward : Placed → List Placed → Scope → Scope → Stmt-F Stmt → Type 0
  Onward here rest scope next (Stmt-F.If test block other) =
      Follows scope (placed (here.at + 1) block ++ rest) × Follows scope (placed (here.at + 2 + block_size block) other ++ rest)
  Onward here rest scope next (Stmt-F.While test body) =
      Follows scope (placed (here.at + 1) body ++ here ∷ rest) × Follows scope rest
  Onward here rest scope next (Stmt-F.Let slot value) = Follows next rest × Reaches next (here.at + 1) × IsLeft (here.at + 1) rest
  Onward here rest scope next (Stmt-F.Assign slot value) = Follows next rest × Reaches next (here.at + 1) × IsLeft (here.at + 1) rest
  Onward here rest scope next (Stmt-F.Emit cell what) = Follows next rest × Reaches next (here.at + 1) × IsLeft (here.at + 1) rest
  Onward here rest scope next (Stmt-F.Delay by) = Follows next rest × Reaches next (here.at + 1) × IsLeft (here.at + 1) rest
  Onward here rest scope next (Stmt-F.WaitUntil condition) = Follows next rest × Reaches next (here.at + 1) × IsLeft (here.at + 1) rest
  Onward here rest scope next (Stmt-F.Spawn kind arguments) = Follows next rest × Reaches next (here.at + 1) × IsLeft (here.at + 1) rest
  Onward here rest scope next (Stmt-F.Call kind arguments into) = Follows next rest × Reaches next (here.at + 1) × IsLeft (here.at + 1) rest
  Onward here rest scope next (Stmt-F.Return value) = Follows next rest × Reaches next (here.at + 1) × IsLeft (here.at + 1) rest

  -- a statement at its place, where the scope is this and these are left behind it
  pub record IsReached (here : Placed) (rest : List Placed) (scope : Scope) : Type 0 where
    pub next : Scope
    pub checks : checked setting here.what scope ≡ Some next
    pub small : length next ≤ slots
    pub onward : Onward here rest scope next (out-Stmt here.what)

  -- what holds of these statements where they are left and the scope is this
  abbrev pub Holds : Scope → List Placed → Type 0
  Holds scope [] = Unit {0}
  Holds scope (here ∷ rest) =
      (there : Scope) × (slice_get scopes here.at ≡ Some there) × Suffices scope there
      × (slice_get leftovers here.at ≡ Some (here ∷ rest)) × IsReached here rest there

  abbrev pub AllHold : List Scope → List (List Placed) → Type 0
  AllHold [] [] = Unit {0}
  AllHold [] (left ∷ more) = ⊥
  AllHold (scope ∷ others) [] = ⊥
  AllHold (scope ∷ others) (left ∷ more) = Holds scope left × AllHold others more

  pub all_hold : (first second : List Scope) (left more : List (List Placed)) → AllHold first left → AllHold second more → AllHold (first ++ second) (left ++ more)
  all_hold [] second [] more a b = b
  all_hold [] second (one ∷ left) more a b = absurd a
  all_hold (scope ∷ first) second [] more a b = absurd a
  all_hold (scope ∷ first) second (one ∷ left) more a b = (a.0, all_hold first second left more a.1 b)

  -- what holds at a place that has a scope
  pub hold_at : (others : List Scope) (more : List (List Placed)) (at : ℕ) (scope : Scope) → AllHold others more → slice_get others at ≡ Some scope →
      Holds scope (slice_index_or more at [])
  hold_at [] [] zero scope all e = absurd (cc)
  hold_at [] [] (suc at) scope all e = absurd (cc)
  hold_at [] (left ∷ more) at scope all e = absurd all
  hold_at (other ∷ others) [] at scope all e = absurd all
  hold_at (other ∷ others) (left ∷ more) zero scope all e =
      let same : other ≡ scope = cc in subst (λ (s : Scope). Holds s left) same all.0
  hold_at (other ∷ others) (left ∷ more) (suc at) scope all e = hold_at others more at scope all.1 e

  -- ---- from scope to scope

  reaches_from : (scope other : Scope) (at : ℕ) → Suffices scope other → Reaches other at → Reaches scope at
  reaches_from scope other at more h = (h.0, h.1, in_turn scope other h.0 more h.2)

  follows_from : (scope other : Scope) (left : List Placed) → Suffices scope other → Follows other left → Follows scope left
  follows_from scope other [] more h = tt
  follows_from scope other (here ∷ rest) more h = (h.0, reaches_from scope other here.at more h.1)

  holds_from : (scope other : Scope) (left : List Placed) → Suffices scope other → Holds other left → Holds scope left
  holds_from scope other [] more h = tt
  holds_from scope other (here ∷ rest) more h = (h.0, h.1, in_turn scope other h.0 more h.2, h.3, h.4)

  pub follows : (scope : Scope) (left : List Placed) → Holds scope left → Follows scope left
  follows scope [] h = tt
  follows scope (here ∷ rest) h = (h.3, (h.0, h.1, h.2))

  -- ---- the first place of a block

  first_of : {A : Type 0} (whole : List A) (at : ℕ) (first : A) (more part rest : List A) → part ≡ first ∷ more → StandsAt whole at (part ++ rest) → slice_get whole at ≡ Some first
  first_of whole at first more part rest e h = (subst (λ (l : _). StandsAt whole at (l ++ rest)) e h).0

  block_follows : (block : List Stmt) (at : ℕ) (scope : Scope) (rest : List Placed) →
      StandsAt leftovers at (block_lefts block at rest) → StandsAt scopes at (block_scopes setting block scope) →
      Follows scope rest → Follows scope (placed at block ++ rest)
  block_follows [] at scope rest left there h = h
  block_follows (stmt ∷ block) at scope rest left there h =
      let onward : List Placed = placed (at + size stmt) block ++ rest in
      let a = lefts_begin stmt at onward in
      let b = scopes_begin setting stmt scope in (
        first_of leftovers at (record { at = at; what = stmt } ∷ onward) a.0 (lefts stmt at onward) (block_lefts block (at + size stmt) rest) a.1 left,
        (scope, first_of scopes at scope b.0 (stmt_scopes setting stmt scope) _ b.1 there, same_suffices scope),
      )

  pub block_reaches : (block : List Stmt) (at : ℕ) (scope next : Scope) → block_checked setting block scope ≡ Some next →
      StandsAt scopes at (block_scopes setting block scope) → Reaches next (at + block_size block) → Reaches scope at
  block_reaches [] at scope next e there h =
      let same : next ≡ scope = cc in
      subst (λ (n : ℕ). Reaches scope n) (add-zero at) (subst (λ (s : Scope). Reaches s (at + 0)) same h)
  block_reaches (stmt ∷ block) at scope next e there h =
      let b = scopes_begin setting stmt scope in
      (scope, first_of scopes at scope b.0 (stmt_scopes setting stmt scope) _ b.1 there, same_suffices scope)

  block_left : (block : List Stmt) (at : ℕ) (rest : List Placed) → StandsAt leftovers at (block_lefts block at rest) → IsLeft (at + block_size block) rest → IsLeft at (placed at block ++ rest)
  block_left [] at rest left h = subst (λ (n : ℕ). IsLeft n rest) (add-zero at) h
  block_left (stmt ∷ block) at rest left h =
      let onward : List Placed = placed (at + size stmt) block ++ rest in
      let a = lefts_begin stmt at onward in
      first_of leftovers at (record { at = at; what = stmt } ∷ onward) a.0 (lefts stmt at onward) (block_lefts block (at + size stmt) rest) a.1 left

  -- ---- by induction over statements

  abbrev Proved : Stmt → Type 0
  Proved stmt = (at : ℕ) (scope next : Scope) (rest : List Placed) → checked setting stmt scope ≡ Some next → length next ≤ slots →
      StandsAt leftovers at (lefts stmt at rest) → StandsAt scopes at (stmt_scopes setting stmt scope) → Holds next rest → Reaches next (at + size stmt) → IsLeft (at + size stmt) rest →
      Holds scope (record { at = at; what = stmt } ∷ rest) × AllHold (stmt_scopes setting stmt scope) (lefts stmt at rest)

  abbrev BlockProved : List Stmt → Type 0
  BlockProved block = (at : ℕ) (scope next : Scope) (rest : List Placed) → block_checked setting block scope ≡ Some next → length next ≤ slots →
      StandsAt leftovers at (block_lefts block at rest) → StandsAt scopes at (block_scopes setting block scope) → Holds next rest → Reaches next (at + block_size block) → IsLeft (at + block_size block) rest →
      Holds scope (placed at block ++ rest) × AllHold (block_scopes setting block scope) (block_lefts block at rest)

  block_proved : (block : List Stmt) → AllOf Proved block → BlockProved block
  block_proved [] all at scope next rest e small left there h reach ends =
      let same : next ≡ scope = cc in (subst (λ (s : Scope). Holds s rest) same h, tt)
  block_proved (stmt ∷ block) all at scope next rest e small left there h reach ends =
      let found = then_is (block_checked setting block) (checked setting stmt scope) next e in
      let middle : Scope = found.0 in
      let middle_is : scope_or scope (checked setting stmt scope) ≡ middle = ap (scope_or scope) found.1 in
      let onward : List Placed = placed (at + size stmt) block ++ rest in
      let lists = standing_parts leftovers at (size stmt) (lefts stmt at onward) (block_lefts block (at + size stmt) rest) (lefts_length stmt at onward) left in
      let parts = standing_parts scopes at (size stmt) (stmt_scopes setting stmt scope) (block_scopes setting block middle) (scopes_length setting stmt scope)
      (subst (λ (s : Scope). StandsAt scopes at (stmt_scopes setting stmt scope ++ block_scopes setting block s)) middle_is there) in
      let place : at + (size stmt + block_size block) ≡ (at + size stmt) + block_size block = omega arith in
      let reach_on : Reaches next ((at + size stmt) + block_size block) = subst (λ (n : ℕ). Reaches next n) place reach in
      let ends_on : IsLeft ((at + size stmt) + block_size block) rest = subst (λ (n : ℕ). IsLeft n rest) place ends in
      let behind_it = block_proved block all.1 (at + size stmt) middle next rest found.2 small lists.1 parts.1 h reach_on ends_on in
      let few = le_trans (longer middle next (block_goes setting block middle next found.2)) small in
      let first = all.0 at scope middle onward found.1 few lists.0 parts.0 behind_it.0 (block_reaches block (at + size stmt) middle next found.2 parts.1 reach_on)
      (block_left block (at + size stmt) rest lists.1 ends_on) in (
        first.0,
        all_hold (stmt_scopes setting stmt scope) (block_scopes setting block (scope_or scope (checked setting stmt scope))) (lefts stmt at onward) (block_lefts block (at + size stmt) rest)
            first.1 (subst (λ (s : Scope). AllHold (block_scopes setting block s) (block_lefts block (at + size stmt) rest)) (sym middle_is) behind_it.1),
      )

  -- ---- a statement without blocks

  onward_simple : (x : Stmt-F Stmt) → simple_step x ≡ true → (here : Placed) (rest : List Placed) (scope next : Scope) → Follows next rest → Reaches next (here.at + 1) → IsLeft (here.at + 1) rest → Onward here rest scope next x
  onward_simple (Stmt-F.Let slot value) h here rest scope next a b c = (a, b, c)
  onward_simple (Stmt-F.Assign slot value) h here rest scope next a b c = (a, b, c)
  onward_simple (Stmt-F.Emit cell what) h here rest scope next a b c = (a, b, c)
  onward_simple (Stmt-F.Delay by) h here rest scope next a b c = (a, b, c)
  onward_simple (Stmt-F.WaitUntil condition) h here rest scope next a b c = (a, b, c)
  onward_simple (Stmt-F.Spawn kind arguments) h here rest scope next a b c = (a, b, c)
  onward_simple (Stmt-F.Call kind arguments into) h here rest scope next a b c = (a, b, c)
  onward_simple (Stmt-F.If test block other) h here rest scope next a b c = absurd (cc)
  onward_simple (Stmt-F.While test body) h here rest scope next a b c = absurd (cc)
  onward_simple (Stmt-F.Return value) h here rest scope next a b c = (a, b, c)

  simple_proved : (stmt : Stmt) → is_simple stmt ≡ true → Proved stmt
  unfolding is_simple
  simple_proved stmt h at scope next rest e small left there holds reach ends =
      let plain = plain_of stmt h in
      let here : Placed = record { at = at; what = stmt } in
      let lists = subst (λ (l : List (List Placed)). StandsAt leftovers at l) (plain.lefts_is at rest) left in
      let parts = subst (λ (l : List Scope). StandsAt scopes at l) (scopes_simple setting stmt h scope) there in
      let reach_on : Reaches next (at + 1) = subst (λ (n : ℕ). Reaches next (at + n)) plain.size_is reach in
      let ends_on : IsLeft (at + 1) rest = subst (λ (n : ℕ). IsLeft (at + n) rest) plain.size_is ends in
      let own : Holds scope (here ∷ rest) =
      (scope, parts.0, same_suffices scope, lists.0, record { next = next; checks = e; small = small; onward = onward_simple (out-Stmt stmt) h here rest scope next (follows next rest holds) reach_on ends_on }) in (
        own,
        subst (λ (l : List (List Placed)). AllHold (stmt_scopes setting stmt scope) l) (sym (plain.lefts_is at rest))
            (subst (λ (l : List Scope). AllHold l ((here ∷ rest) ∷ [])) (sym (scopes_simple setting stmt h scope)) (own, tt)),
      )

  -- ---- an `if`

  choice_proved : (test : Expr) (block other : List Stmt) → AllOf Proved block → AllOf Proved other → Proved (If test block other)
  choice_proved test block other in_block in_other at scope next rest e small left there holds reach ends =
      let is = choice_is setting test block other scope next e in
      let here : Placed = record { at = at; what = If test block other } in
      let middle : Scope = behind scope is.first in
      let middle_is : after_block setting block scope ≡ middle = ap (λ (found : Option Scope). behind scope (scope_or scope found)) is.block_is in
      let form : stmt_scopes setting (If test block other) scope ≡ scope ∷ block_scopes setting block scope ++ (middle ∷ block_scopes setting other middle) =
      scopes_If setting test block other scope ∙ ap (λ (m : Scope). scope ∷ block_scopes setting block scope ++ (m ∷ block_scopes setting other m)) middle_is in
      let second_at : ℕ = at + 2 + block_size block in
      let lists = subst (λ (l : List (List Placed)). StandsAt leftovers at l) (lefts_If test block other at rest) left in
      let parts = subst (λ (l : List Scope). StandsAt scopes at l) form there in
      let in_lists = standing_parts leftovers (at + 1) (block_size block) (block_lefts block (at + 1) rest) (rest ∷ block_lefts other second_at rest) (block_lefts_length block (at + 1) rest) lists.1 in
      let in_parts = standing_parts scopes (at + 1) (block_size block) (block_scopes setting block scope) (middle ∷ block_scopes setting other middle) (block_scopes_length setting block scope) parts.1 in
      let place : ((at + 1) + block_size block) + 1 ≡ second_at = omega arith in
      let other_lists = subst (λ (n : ℕ). StandsAt leftovers n (block_lefts other second_at rest)) place in_lists.1.1 in
      let other_parts = subst (λ (n : ℕ). StandsAt scopes n (block_scopes setting other middle)) place in_parts.1.1 in
      let first_goes = block_goes setting block scope is.first is.block_is in
      let second_goes = block_goes setting other middle is.second is.other_is in
      let to_next : Suffices middle next = subst (λ (s : Scope). Suffices middle s) (sym is.next_is) (behind_suffices middle is.second) in
      let second_to_next : Suffices is.second next = subst (λ (s : Scope). Suffices is.second s) (sym is.next_is) (end_suffices middle is.second second_goes) in
      let first_to_middle : Suffices is.first middle = end_suffices scope is.first first_goes in
      let scope_to_middle : Suffices scope middle = behind_suffices scope is.first in
      let next_length : length next ≡ length is.second = ap (λ (s : Scope). length s) is.next_is ∙ behind_length middle is.second second_goes in
      let second_small : length is.second ≤ slots = omega (arith, next_length, small) in
      let first_small : length is.first ≤ slots = omega (arith, behind_length scope is.first first_goes, longer middle is.second second_goes, second_small) in
      let end_at : at + size (If test block other) ≡ second_at + block_size other = omega (arith, size_If test block other) in
      let first = block_proved block in_block (at + 1) scope is.first rest is.block_is first_small in_lists.0 in_parts.0
      (holds_from is.first next rest (in_turn is.first middle next first_to_middle to_next) holds)
      (middle, in_parts.1.0, first_to_middle) in_lists.1.0 in
      let second = block_proved other in_other second_at middle is.second rest is.other_is second_small other_lists other_parts
      (holds_from is.second next rest second_to_next holds)
      (reaches_from is.second next (second_at + block_size other) second_to_next (subst (λ (n : ℕ). Reaches next n) end_at reach))
      (subst (λ (n : ℕ). IsLeft n rest) end_at ends) in
      let after_it : Follows middle rest = follows_from middle next rest to_next (follows next rest holds) in
      let taken : Follows scope (placed (at + 1) block ++ rest) =
      block_follows block (at + 1) scope rest in_lists.0 in_parts.0 (follows_from scope middle rest scope_to_middle after_it) in
      let not_taken : Follows scope (placed second_at other ++ rest) =
      follows_from scope middle (placed second_at other ++ rest) scope_to_middle (block_follows other second_at middle rest other_lists other_parts after_it) in
      let own : Holds scope (here ∷ rest) = (
        scope,
        parts.0,
        same_suffices scope,
        lists.0,
        record { next = next; checks = e; small = small; onward = subst (λ (x : Stmt-F Stmt). Onward here rest scope next x) (sym (outs-If test block other)) (taken, not_taken) },
      ) in (
        own,
        subst (λ (l : List (List Placed)). AllHold (stmt_scopes setting (If test block other) scope) l) (sym (lefts_If test block other at rest))
            (subst (λ (l : List Scope). AllHold l ((here ∷ rest) ∷ block_lefts block (at + 1) rest ++ (rest ∷ block_lefts other second_at rest))) (sym form) (
              own,
              all_hold (block_scopes setting block scope) (middle ∷ block_scopes setting other middle) (block_lefts block (at + 1) rest) (rest ∷ block_lefts other second_at rest)
                  first.1 (holds_from middle next rest to_next holds, second.1),
            )),
      )

  -- ---- a `while`

  loop_proved : (test : Expr) (body : List Stmt) → AllOf Proved body → Proved (While test body)
  loop_proved test body in_body at scope next rest e small left there holds reach ends =
      let is = loop_is setting test body scope next e in
      let here : Placed = record { at = at; what = While test body } in
      let after : Scope = behind scope is.inner in
      let after_is : after_block setting body scope ≡ after = ap (λ (found : Option Scope). behind scope (scope_or scope found)) is.body_is in
      let form : stmt_scopes setting (While test body) scope ≡ scope ∷ block_scopes setting body scope ++ after ∷ [] =
      scopes_While setting test body scope ∙ ap (λ (m : Scope). scope ∷ block_scopes setting body scope ++ m ∷ []) after_is in
      let lists = subst (λ (l : List (List Placed)). StandsAt leftovers at l) (lefts_While test body at rest) left in
      let parts = subst (λ (l : List Scope). StandsAt scopes at l) form there in
      let in_lists = standing_parts leftovers (at + 1) (block_size body) (block_lefts body (at + 1) (here ∷ rest)) ((here ∷ rest) ∷ []) (block_lefts_length body (at + 1) (here ∷ rest)) lists.1 in
      let in_parts = standing_parts scopes (at + 1) (block_size body) (block_scopes setting body scope) (after ∷ []) (block_scopes_length setting body scope) parts.1 in
      let inner_goes = block_goes setting body scope is.inner is.body_is in
      let to_next : Suffices scope next = subst (λ (s : Scope). Suffices scope s) (sym is.next_is) (behind_suffices scope is.inner) in
      let inner_small : length is.inner ≤ slots = omega (arith, ap (λ (s : Scope). length s) is.next_is, behind_length scope is.inner inner_goes, small) in
      let again : Follows scope (here ∷ rest) = (lists.0, (scope, parts.0, same_suffices scope)) in
      let taken : Follows scope (placed (at + 1) body ++ here ∷ rest) = block_follows body (at + 1) scope (here ∷ rest) in_lists.0 in_parts.0 again in
      let own : Holds scope (here ∷ rest) = (
        scope,
        parts.0,
        same_suffices scope,
        lists.0,
        record {
          next = next;
          checks = e;
          small = small;
          onward =
              subst (λ (x : Stmt-F Stmt). Onward here rest scope next x) (sym (outs-While test body)) (taken, follows_from scope next rest to_next (follows next rest holds));
        },
      ) in
      let iterations = block_proved body in_body (at + 1) scope is.inner (here ∷ rest) is.body_is inner_small in_lists.0 in_parts.0
      (holds_from is.inner scope (here ∷ rest) (beginning_suffices scope is.inner inner_goes) own)
      (after, in_parts.1.0, end_suffices scope is.inner inner_goes) in_lists.1.0 in (
        own,
        subst (λ (l : List (List Placed)). AllHold (stmt_scopes setting (While test body) scope) l) (sym (lefts_While test body at rest))
            (subst (λ (l : List Scope). AllHold l ((here ∷ rest) ∷ block_lefts body (at + 1) (here ∷ rest) ++ (here ∷ rest) ∷ [])) (sym form) (
              own,
              all_hold (block_scopes setting body scope) (after ∷ []) (block_lefts body (at + 1) (here ∷ rest)) ((here ∷ rest) ∷ [])
                  iterations.1 (holds_from after scope (here ∷ rest) (beginning_suffices scope after (goes_behind scope is.inner)) own, tt),
            )),
      )

  -- ---- a body

  pub body_holds : (body : List Stmt) → BlockProved body
  body_holds body = block_proved body (each Proved (stmt_ind Proved simple_proved choice_proved loop_proved) body)
