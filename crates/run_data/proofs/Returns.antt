-- What is left of a body that ends in a `return` ends in it, at each place but the end.
use Rattle.std.proofs.Common.{◌≡◌, ℕ, zero, suc, ◌+◌, true, IsTrue, List, [], ◌∷◌, ◌++◌, slice_index_or, refl, sym, ap, ◌∙◌, subst}
use Rattle.aerie_base.specs.declared.statements.Stmt.{Stmt, If, While, out-Stmt}
use Rattle.aerie_base.specs.declared.statements.Stmt.TheOpen.{Stmt-F}
use Rattle.aerie_base.specs.models.Activities.{is_return, is_return_step, ends_in_return}
use Rattle.aerie_base.specs.statements.Places.{Placed, placed, left, lefts, block_lefts, size, block_size, is_simple, simple_step}
use Rattle.aerie_base.specs.statements.PlaceForms.{plain_of, lefts_If, lefts_While}
use Rattle.aerie_base.specs.statements.Induction.{AllOf, stmt_ind}
use Rattle.run_data.proofs.ScopeForms.{lefts_begin}

-- the last of these statements is a `return`
abbrev pub EndsReturn : List Placed → Type 0
EndsReturn [] = ⊥
EndsReturn (here ∷ []) = IsTrue (is_return here.what)
EndsReturn (here ∷ next ∷ rest) = EndsReturn (next ∷ rest)

one_more : (here : Placed) (list : List Placed) → EndsReturn list → EndsReturn (here ∷ list)
one_more here [] h = absurd h
one_more here (next ∷ rest) h = h

pub in_front : (front list : List Placed) → EndsReturn list → EndsReturn (front ++ list)
in_front [] list h = h
in_front (here ∷ front) list h = one_more here (front ++ list) (in_front front list h)

abbrev AllEnd : List (List Placed) → Type 0
AllEnd [] = Unit {0}
AllEnd (list ∷ lists) = EndsReturn list × AllEnd lists

all_end : (first second : List (List Placed)) → AllEnd first → AllEnd second → AllEnd (first ++ second)
all_end [] second a b = b
all_end (list ∷ first) second a b = (a.0, all_end first second a.1 b)

-- ---- statements with such behind them

abbrev Ends : Stmt → Type 0
Ends stmt = (at : ℕ) (behind : List Placed) → EndsReturn behind → AllEnd (lefts stmt at behind)

block_ends : (block : List Stmt) → AllOf Ends block → (at : ℕ) (behind : List Placed) → EndsReturn behind → AllEnd (block_lefts block at behind)
block_ends [] all at behind h = tt
block_ends (stmt ∷ rest) all at behind h =
    all_end (lefts stmt at (placed (at + size stmt) rest ++ behind)) (block_lefts rest (at + size stmt) behind)
    (all.0 at (placed (at + size stmt) rest ++ behind) (in_front (placed (at + size stmt) rest) behind h))
    (block_ends rest all.1 (at + size stmt) behind h)

stmt_ends : (stmt : Stmt) → Ends stmt
stmt_ends = stmt_ind Ends
    (λ stmt h at behind e. subst AllEnd (sym ((plain_of stmt h).lefts_is at behind)) (one_more (record { at = at; what = stmt }) behind e, tt))
    (λ test block other in_block in_other at behind e. subst AllEnd (sym (lefts_If test block other at behind)) (
      one_more (record { at = at; what = If test block other }) behind e,
      all_end (block_lefts block (at + 1) behind) (behind ∷ block_lefts other (at + 2 + block_size block) behind)
          (block_ends block in_block (at + 1) behind e) (e, block_ends other in_other (at + 2 + block_size block) behind e),
    ))
    (λ test body in_body at behind e.
    let here : List Placed = record { at = at; what = While test body } ∷ behind in
    let h : EndsReturn here = one_more (record { at = at; what = While test body }) behind e in
    subst AllEnd (sym (lefts_While test body at behind))
    (h, all_end (block_lefts body (at + 1) here) (here ∷ []) (block_ends body in_body (at + 1) here h) (h, tt)))

-- ---- a body

returns_simply : {A : Type 0} (x : Stmt-F A) → IsTrue (is_return_step x) → simple_step x ≡ true
returns_simply (Stmt-F.Return value) h = refl
returns_simply (Stmt-F.Let slot value) h = refl
returns_simply (Stmt-F.Assign slot value) h = refl
returns_simply (Stmt-F.Emit cell what) h = refl
returns_simply (Stmt-F.Delay by) h = refl
returns_simply (Stmt-F.WaitUntil condition) h = refl
returns_simply (Stmt-F.Spawn kind arguments) h = refl
returns_simply (Stmt-F.Call kind arguments into) h = refl
returns_simply (Stmt-F.If test block other) h = absurd (cc)
returns_simply (Stmt-F.While test body) h = absurd (cc)

return_simple : (stmt : Stmt) → IsTrue (is_return stmt) → is_simple stmt ≡ true
unfolding is_return is_simple
return_simple stmt h = returns_simply (out-Stmt stmt) h

placed_ends : (body : List Stmt) (at : ℕ) → IsTrue (ends_in_return body) → EndsReturn (placed at body ++ [])
placed_ends [] at h = absurd (cc)
placed_ends (stmt ∷ []) at h = h
placed_ends (stmt ∷ next ∷ rest) at h = placed_ends (next ∷ rest) (at + size stmt) h

body_ends : (body : List Stmt) (at : ℕ) → IsTrue (ends_in_return body) → AllEnd (block_lefts body at [])
body_ends [] at h = absurd (cc)
body_ends (stmt ∷ []) at h =
    all_end (lefts stmt at []) [] (subst AllEnd (sym ((plain_of stmt (return_simple stmt h)).lefts_is at [])) (h, tt)) tt
body_ends (stmt ∷ next ∷ rest) at h =
    all_end (lefts stmt at (placed (at + size stmt) (next ∷ rest) ++ [])) (block_lefts (next ∷ rest) (at + size stmt) [])
    (stmt_ends stmt at (placed (at + size stmt) (next ∷ rest) ++ []) (placed_ends (next ∷ rest) (at + size stmt) h))
    (body_ends (next ∷ rest) (at + size stmt) h)

at_place : (lists : List (List Placed)) (at : ℕ) → AllEnd lists → (slice_index_or (lists ++ [] ∷ []) at [] ≡ [] → ⊥) → EndsReturn (slice_index_or (lists ++ [] ∷ []) at [])
at_place [] zero all some = absurd (some refl)
at_place [] (suc zero) all some = absurd (some refl)
at_place [] (suc (suc at)) all some = absurd (some refl)
at_place (list ∷ lists) zero all some = all.0
at_place (list ∷ lists) (suc at) all some = at_place lists at all.1 some

-- where something is left of such a body, it ends in the `return`
pub left_ends : (body : List Stmt) (at : ℕ) → IsTrue (ends_in_return body) → (left body at ≡ [] → ⊥) → EndsReturn (left body at)
unfolding left
left_ends body at h some = at_place (block_lefts body 0 []) at (body_ends body 0 h) some

some_first : (here : Placed) (rest : List Placed) → here ∷ rest ≡ [] → ⊥
some_first here rest e = absurd (cc)

-- at its first place something is left
pub first_left : (body : List Stmt) → IsTrue (ends_in_return body) → left body 0 ≡ [] → ⊥
unfolding left
first_left [] h e = absurd (cc)
first_left (stmt ∷ rest) h e =
    let behind : List Placed = placed (0 + size stmt) rest ++ [] in
    let begins = lefts_begin stmt 0 behind in
    some_first (record { at = 0; what = stmt }) behind
    (sym (ap (λ (l : List (List Placed)). slice_index_or ((l ++ block_lefts rest (0 + size stmt) []) ++ [] ∷ []) 0 []) begins.1) ∙ e)
