-- The instructions of a statement stand for what is left at its places.
use Rattle.std.proofs.Common.{◌≡◌, ℕ, zero, suc, ◌+◌, ◌<◌, List, [], ◌∷◌, ◌++◌, Some, sym, ap, ◌∙◌, subst, arith, length, length-append, append_assoc, slice_get, slice_index_or}
use Rattle.std.proofs.Math.Seq.{get_or-append_seam}
use Rattle.aerie_base.specs.declared.statements.Stmt.{Stmt, If, While}
use Rattle.aerie_base.specs.statements.Places.{Placed, placed, lefts, block_lefts, size, block_size}
use Rattle.aerie_base.specs.statements.PlaceForms.{plain_of, size_If, size_While, lefts_If, lefts_While}
use Rattle.aerie_base.specs.statements.Induction.{AllOf, stmt_ind}
use Rattle.body_code.specs.FlatCode.{code_of, block_code}
use Rattle.body_code.specs.Denoting.{Tests, chooses, repeats, Denotes}
use Rattle.body_code.specs.declared.instructions.Instruction.{Instruction}
use Rattle.body_code.specs.declared.instructions.Instruction.TheVariants.{Do, Jump}
use Rattle.body_code.proofs.FlatForms.{code_If, code_While, code_simple}
use Rattle.body_code.proofs.Lengths.{code_length, block_length, lefts_length, lefts_block_length}

-- ---- a function has these lists from a place on; these instructions stand from a place on

abbrev pub Has : (ℕ → List Placed) → ℕ → List (List Placed) → Type 0
Has left_at at [] = Unit {0}
Has left_at at (x ∷ xs) = (left_at at ≡ x) × Has left_at (at + 1) xs

-- these instructions stand for what is left, one at each place
abbrev pub Fine : (ℕ → List Placed) → ℕ → ℕ → List Instruction → Type 0
Fine left_at places at [] = Unit {0}
Fine left_at places at (instruction ∷ instructions) = Denotes left_at places at instruction × Fine left_at places (at + 1) instructions

pub has_front : (left_at : ℕ → List Placed) (at : ℕ) (xs more : List (List Placed)) → Has left_at at (xs ++ more) → Has left_at at xs
has_front left_at at [] more h = tt
has_front left_at at (x ∷ xs) more h = (h.0, has_front left_at (at + 1) xs more h.1)

pub has_back : (left_at : ℕ → List Placed) (at outer : ℕ) (xs more : List (List Placed)) → outer ≡ at + length xs → Has left_at at (xs ++ more) → Has left_at outer more
has_back left_at at outer [] more e h = let k : at ≡ outer = omega arith in subst (λ m. Has left_at m more) k h
has_back left_at at outer (x ∷ xs) more e h = has_back left_at (at + 1) outer xs more (omega arith) h.1

pub fine_both : (left_at : ℕ → List Placed) (places at outer : ℕ) (xs more : List Instruction) → outer ≡ at + length xs → Fine left_at places at xs → Fine left_at places outer more → Fine left_at places at (xs ++ more)
fine_both left_at places at outer [] more e h k = let m : outer ≡ at = omega arith in subst (λ c. Fine left_at places c more) m k
fine_both left_at places at outer (x ∷ xs) more e h k = (h.0, fine_both left_at places (at + 1) outer xs more (omega arith) h.1 k)

pub fine_at : (left_at : ℕ → List Placed) (places at k : ℕ) (instructions : List Instruction) (instruction : Instruction) → Fine left_at places at instructions → slice_get instructions k ≡ Some instruction → Denotes left_at places (at + k) instruction
fine_at left_at places at k [] instruction h e = absurd (cc)
fine_at left_at places at zero (x ∷ xs) instruction h e = let m : x ≡ instruction = cc in let k : at ≡ at + 0 = omega arith in subst (λ c. Denotes left_at places c instruction) k (subst (Denotes left_at places at) m h.0)
fine_at left_at places at (suc k) (x ∷ xs) instruction h e = let m : at + 1 + k ≡ at + suc k = omega arith in subst (λ c. Denotes left_at places c instruction) m (fine_at left_at places (at + 1) k xs instruction h.1 e)

pub has_all : (xs front : List (List Placed)) → Has (λ k. slice_index_or (front ++ xs) k []) (length front) xs
has_all [] front = tt
has_all (x ∷ xs) front =
    let long : length (front ++ x ∷ []) ≡ length front + 1 = omega (arith, length-append front (x ∷ [])) in
    let rest = has_all xs (front ++ x ∷ []) in
    let shifted = subst (λ l. Has (λ k. slice_index_or l k []) (length (front ++ x ∷ [])) xs) (append_assoc front (x ∷ []) xs) rest in
    (get_or-append_seam front x xs [], subst (λ m. Has (λ k. slice_index_or (front ++ x ∷ xs) k []) m xs) long shifted)

-- ---- a statement's code

-- wherever a statement's lists are left, and what is behind it is left behind it, its instructions stand for them
abbrev pub Shows : (ℕ → List Placed) → ℕ → Stmt → Type 0
Shows left_at places stmt = (at : ℕ) (behind : List Placed) → Has left_at at (lefts stmt at behind) → left_at (at + size stmt) ≡ behind → at + size stmt < places → Fine left_at places at (code_of stmt at) × (left_at at ≡ record { at = at; what = stmt } ∷ behind)

pub block_shows : (left_at : ℕ → List Placed) (places : ℕ) (stmts : List Stmt) → AllOf (Shows left_at places) stmts → (at : ℕ) (behind : List Placed) → Has left_at at (block_lefts stmts at behind) → left_at (at + block_size stmts) ≡ behind → at + block_size stmts < places → Fine left_at places at (block_code stmts at) × (left_at at ≡ placed at stmts ++ behind)
block_shows left_at places [] all at behind h e lt = let k : at + 0 ≡ at = omega arith in (tt, subst (λ m. left_at m ≡ behind) k e)
block_shows left_at places (stmt ∷ stmts) all at behind h e lt =
    let outer = at + size stmt in
    let after = placed outer stmts ++ behind in
    let k : at + (size stmt + block_size stmts) ≡ outer + block_size stmts = omega arith in
    let low = block_shows left_at places stmts all.1 outer behind (has_back left_at at outer (lefts stmt at after) (block_lefts stmts outer behind) (omega (arith, lefts_length stmt at after)) h) (subst (λ m. left_at m ≡ behind) k e) (omega arith) in
    let here = all.0 at after (has_front left_at at (lefts stmt at after) (block_lefts stmts outer behind) h) low.1 (omega arith) in
    (fine_both left_at places at outer (code_of stmt at) (block_code stmts outer) (omega (arith, code_length stmt at)) here.0 low.0, here.1)

pub stmt_shows : (left_at : ℕ → List Placed) (places : ℕ) (stmt : Stmt) → Shows left_at places stmt
stmt_shows left_at places = stmt_ind (Shows left_at places)
    (λ stmt h at behind has e lt.
    let p = plain_of stmt h in
    let here : left_at at ≡ record { at = at; what = stmt } ∷ behind = (subst (Has left_at at) (p.lefts_is at behind) has).0 in
    let next : left_at (at + 1) ≡ behind = subst (λ m. left_at (at + m) ≡ behind) p.size_is e in
    let first : Fine left_at places at (Do stmt ∷ []) = ((h, omega (arith, p.size_is), here ∙ ap (λ l. record { at = at; what = stmt } ∷ l) (sym next)), tt) in
    (subst (Fine left_at places at) (sym (code_simple stmt h at)) first, here))
    (λ test block other in_block in_other at behind has e lt.
    let inner = at + 1 in
    let middle = at + 1 + block_size block in
    let outer = at + 2 + block_size block in
    let all = subst (Has left_at at) (lefts_If test block other at behind) has in
    let back = has_back left_at inner middle (block_lefts block inner behind) (behind ∷ block_lefts other outer behind) (omega (arith, lefts_block_length block inner behind)) all.1 in
    let back' : Has left_at outer (block_lefts other outer behind) = (let k : middle + 1 ≡ outer = omega arith in subst (λ m. Has left_at m (block_lefts other outer behind)) k back.1) in
    let end : left_at (outer + block_size other) ≡ behind = (let k : at + size (If test block other) ≡ outer + block_size other = omega (arith, size_If test block other) in subst (λ m. left_at m ≡ behind) k e) in
    let within : outer + block_size other < places = omega (arith, size_If test block other) in
    let first = block_shows left_at places block in_block inner behind (has_front left_at inner (block_lefts block inner behind) (behind ∷ block_lefts other outer behind) all.1) back.0 (omega arith) in
    let second = block_shows left_at places other in_other outer behind back' end within in
    let tests : Tests left_at at test outer = chooses block other behind all.0 first.1 second.1 in
    let jump : Fine left_at places middle (Jump (outer + block_size other) ∷ block_code other outer) = ((within, back.0 ∙ sym end), (let k : outer ≡ middle + 1 = omega arith in subst (λ m. Fine left_at places m (block_code other outer)) k second.0)) in
    let low = fine_both left_at places inner middle (block_code block inner) (Jump (outer + block_size other) ∷ block_code other outer) (omega (arith, block_length block inner)) first.0 jump in
    let inner_within : inner < places = omega arith in
    let outer_within : outer < places = omega arith in
    (subst (Fine left_at places at) (sym (code_If test block other at)) ((inner_within, outer_within, tests), low), all.0))
    (λ test block in_block at behind has e lt.
    let here : List Placed = record { at = at; what = While test block } ∷ behind in
    let inner = at + 1 in
    let middle = at + 1 + block_size block in
    let outer = at + 2 + block_size block in
    let all = subst (Has left_at at) (lefts_While test block at behind) has in
    let back = has_back left_at inner middle (block_lefts block inner here) (here ∷ []) (omega (arith, lefts_block_length block inner here)) all.1 in
    let end : left_at outer ≡ behind = (let k : at + size (While test block) ≡ outer = omega (arith, size_While test block) in subst (λ m. left_at m ≡ behind) k e) in
    let within : outer < places = omega (arith, size_While test block) in
    let first = block_shows left_at places block in_block inner here (has_front left_at inner (block_lefts block inner here) (here ∷ []) all.1) back.0 (omega arith) in
    let tests : Tests left_at at test outer = repeats block behind all.0 (first.1 ∙ ap (λ l. placed inner block ++ l) (sym all.0)) end in
    let at_within : at < places = omega arith in
    let inner_within : inner < places = omega arith in
    let jump : Fine left_at places middle (Jump at ∷ []) = ((at_within, back.0 ∙ sym all.0), tt) in
    let low = fine_both left_at places inner middle (block_code block inner) (Jump at ∷ []) (omega (arith, block_length block inner)) first.0 jump in
    (subst (Fine left_at places at) (sym (code_While test block at)) ((inner_within, within, tests), low), all.0))
