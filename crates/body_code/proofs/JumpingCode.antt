-- The jumps of a statement's code lead onward, or back to a test.
use Rattle.std.proofs.Common.{◌≡◌, ℕ, zero, suc, ◌+◌, ◌<◌, List, [], ◌∷◌, ◌++◌, Some, sym, ap, ◌∙◌, subst, arith, length, length-append, append_assoc, slice_get, inl, inr}
use Rattle.std.proofs.Math.Seq.{get_or-append_seam}
use Rattle.std.proofs.lemmas.Option.{slice_get-get_or}
use Rattle.aerie_base.specs.declared.statements.Stmt.{Stmt}
use Rattle.aerie_base.specs.statements.Places.{size, block_size}
use Rattle.aerie_base.specs.statements.Induction.{AllOf, stmt_ind}
use Rattle.body_code.specs.FlatCode.{code_of, block_code}
use Rattle.body_code.specs.Denoting.{JumpsEnd}
use Rattle.body_code.specs.declared.instructions.Instruction.{Instruction}
use Rattle.body_code.specs.declared.instructions.Instruction.TheVariants.{Do, Jump}
use Rattle.body_code.proofs.FlatForms.{code_If, code_While, code_simple}
use Rattle.body_code.proofs.Lengths.{code_length, block_length}

-- ---- from a place on

-- these instructions are there, one at each place
abbrev pub HasCode : List Instruction → ℕ → List Instruction → Type 0
HasCode code at [] = Unit {0}
HasCode code at (instruction ∷ instructions) = (slice_get code at ≡ Some instruction) × HasCode code (at + 1) instructions

-- the jumps among these instructions end well, one at each place
abbrev pub AllJumpsEnd : List Instruction → ℕ → List Instruction → Type 0
AllJumpsEnd code at [] = Unit {0}
AllJumpsEnd code at (instruction ∷ instructions) = JumpsEnd code at instruction × AllJumpsEnd code (at + 1) instructions

pub code_front : (code : List Instruction) (at : ℕ) (xs more : List Instruction) → HasCode code at (xs ++ more) → HasCode code at xs
code_front code at [] more h = tt
code_front code at (x ∷ xs) more h = (h.0, code_front code (at + 1) xs more h.1)

code_back : (code : List Instruction) (at outer : ℕ) (xs more : List Instruction) → outer ≡ at + length xs → HasCode code at (xs ++ more) → HasCode code outer more
code_back code at outer [] more e h = let k : at ≡ outer = omega arith in subst (λ m. HasCode code m more) k h
code_back code at outer (x ∷ xs) more e h = code_back code (at + 1) outer xs more (omega arith) h.1

pub code_all : (xs front : List Instruction) → HasCode (front ++ xs) (length front) xs
code_all [] front = tt
code_all (x ∷ xs) front =
    let long : length (front ++ x ∷ []) ≡ length front + 1 = omega (arith, length-append front (x ∷ [])) in
    let within : length front < length (front ++ x ∷ xs) = omega (arith, length-append front (x ∷ xs)) in
    let here = slice_get-get_or (front ++ x ∷ xs) (length front) x within ∙ ap Some (get_or-append_seam front x xs x) in
    let rest = code_all xs (front ++ x ∷ []) in
    let shifted = subst (λ l. HasCode l (length (front ++ x ∷ [])) xs) (append_assoc front (x ∷ []) xs) rest in
    (here, subst (λ m. HasCode (front ++ x ∷ xs) m xs) long shifted)

pub jumps_end_both : (code : List Instruction) (at outer : ℕ) (xs more : List Instruction) → outer ≡ at + length xs → AllJumpsEnd code at xs → AllJumpsEnd code outer more → AllJumpsEnd code at (xs ++ more)
jumps_end_both code at outer [] more e h k = let m : outer ≡ at = omega arith in subst (λ c. AllJumpsEnd code c more) m k
jumps_end_both code at outer (x ∷ xs) more e h k = (h.0, jumps_end_both code (at + 1) outer xs more (omega arith) h.1 k)

pub jumps_end_at : (code : List Instruction) (at k : ℕ) (instructions : List Instruction) (instruction : Instruction) → AllJumpsEnd code at instructions → slice_get instructions k ≡ Some instruction → JumpsEnd code (at + k) instruction
jumps_end_at code at k [] instruction h e = absurd (cc)
jumps_end_at code at zero (x ∷ xs) instruction h e = let m : x ≡ instruction = cc in let k : at ≡ at + 0 = omega arith in subst (λ c. JumpsEnd code c instruction) k (subst (JumpsEnd code at) m h.0)
jumps_end_at code at (suc k) (x ∷ xs) instruction h e = let m : at + 1 + k ≡ at + suc k = omega arith in subst (λ c. JumpsEnd code c instruction) m (jumps_end_at code (at + 1) k xs instruction h.1 e)

-- ---- a statement's code

-- wherever a statement's instructions are there, their jumps end well
abbrev pub JumpsEndIn : List Instruction → Stmt → Type 0
JumpsEndIn code stmt = (at : ℕ) → HasCode code at (code_of stmt at) → AllJumpsEnd code at (code_of stmt at)

pub block_jumps_end : (code : List Instruction) (stmts : List Stmt) → AllOf (JumpsEndIn code) stmts → (at : ℕ) → HasCode code at (block_code stmts at) → AllJumpsEnd code at (block_code stmts at)
block_jumps_end code [] all at h = tt
block_jumps_end code (stmt ∷ stmts) all at h =
    let outer = at + size stmt in
    let far : outer ≡ at + length (code_of stmt at) = omega (arith, code_length stmt at) in
    jumps_end_both code at outer (code_of stmt at) (block_code stmts outer) far (all.0 at (code_front code at (code_of stmt at) (block_code stmts outer) h)) (block_jumps_end code stmts all.1 outer (code_back code at outer (code_of stmt at) (block_code stmts outer) far h))

pub stmt_jumps_end : (code : List Instruction) (stmt : Stmt) → JumpsEndIn code stmt
stmt_jumps_end code = stmt_ind (JumpsEndIn code)
    (λ stmt h at has. let one : AllJumpsEnd code at (Do stmt ∷ []) = (tt, tt) in subst (AllJumpsEnd code at) (sym (code_simple stmt h at)) one)
    (λ test block other in_block in_other at has.
    let inner = at + 1 in
    let middle = at + 1 + block_size block in
    let outer = at + 2 + block_size block in
    let far : middle ≡ inner + length (block_code block inner) = omega (arith, block_length block inner) in
    let k : middle + 1 ≡ outer = omega arith in
    let low : middle < outer + block_size other = omega arith in
    let all = subst (HasCode code at) (code_If test block other at) has in
    let back = code_back code inner middle (block_code block inner) (Jump (outer + block_size other) ∷ block_code other outer) far all.1 in
    let second = block_jumps_end code other in_other outer (subst (λ m. HasCode code m (block_code other outer)) k back.1) in
    let jump : AllJumpsEnd code middle (Jump (outer + block_size other) ∷ block_code other outer) = (inl low, subst (λ m. AllJumpsEnd code m (block_code other outer)) (sym k) second) in
    let first = block_jumps_end code block in_block inner (code_front code inner (block_code block inner) (Jump (outer + block_size other) ∷ block_code other outer) all.1) in
    subst (AllJumpsEnd code at) (sym (code_If test block other at)) (tt, jumps_end_both code inner middle (block_code block inner) (Jump (outer + block_size other) ∷ block_code other outer) far first jump))
    (λ test block in_block at has.
    let inner = at + 1 in
    let middle = at + 1 + block_size block in
    let far : middle ≡ inner + length (block_code block inner) = omega (arith, block_length block inner) in
    let all = subst (HasCode code at) (code_While test block at) has in
    let jump : AllJumpsEnd code middle (Jump at ∷ []) = (inr (test, at + 2 + block_size block, all.0), tt) in
    let first = block_jumps_end code block in_block inner (code_front code inner (block_code block inner) (Jump at ∷ []) all.1) in
    subst (AllJumpsEnd code at) (sym (code_While test block at)) (tt, jumps_end_both code inner middle (block_code block inner) (Jump at ∷ []) far first jump))
