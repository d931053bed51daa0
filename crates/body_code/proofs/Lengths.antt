-- A statement has as many instructions, and as many lists of what is left, as places.
use Rattle.std.proofs.Common.{◌≡◌, ℕ, ◌+◌, List, [], ◌∷◌, ◌++◌, refl, sym, ap, ◌∙◌, arith, length, length-append}
use Rattle.aerie_base.specs.declared.statements.Stmt.{Stmt, While}
use Rattle.aerie_base.specs.statements.Places.{Placed, placed, lefts, block_lefts, size, block_size}
use Rattle.aerie_base.specs.statements.PlaceForms.{plain_of, size_If, size_While, lefts_If, lefts_While}
use Rattle.aerie_base.specs.statements.Induction.{AllOf, each, stmt_ind}
use Rattle.body_code.specs.FlatCode.{code_of, block_code}
use Rattle.body_code.specs.declared.instructions.Instruction.TheVariants.{Jump}
use Rattle.body_code.proofs.FlatForms.{code_If, code_While, code_simple}

-- ---- as many instructions and lists as places

block_code_length : (stmts : List Stmt) → AllOf (λ stmt. (at : ℕ) → length (code_of stmt at) ≡ size stmt) stmts → (at : ℕ) → length (block_code stmts at) ≡ block_size stmts
block_code_length [] h at = refl
block_code_length (stmt ∷ stmts) h at = omega (arith, length-append (code_of stmt at) (block_code stmts (at + size stmt)), h.0 at, block_code_length stmts h.1 (at + size stmt))

pub code_length : (stmt : Stmt) (at : ℕ) → length (code_of stmt at) ≡ size stmt
code_length = stmt_ind (λ stmt. (at : ℕ) → length (code_of stmt at) ≡ size stmt)
    (λ stmt h at. let p = plain_of stmt h in ap length (code_simple stmt h at) ∙ sym p.size_is)
    (λ test block other in_block in_other at. rw (code_If test block other at, size_If test block other) (omega (arith, length-append (block_code block (at + 1)) (Jump (at + 2 + block_size block + block_size other) ∷ block_code other (at + 2 + block_size block)), block_code_length block in_block (at + 1), block_code_length other in_other (at + 2 + block_size block))))
    (λ test block in_block at. rw (code_While test block at, size_While test block) (omega (arith, length-append (block_code block (at + 1)) (Jump at ∷ []), block_code_length block in_block (at + 1))))

pub block_length : (stmts : List Stmt) (at : ℕ) → length (block_code stmts at) ≡ block_size stmts
block_length stmts at = block_code_length stmts (each _ code_length stmts) at

block_lefts_length : (stmts : List Stmt) → AllOf (λ stmt. (at : ℕ) (behind : List Placed) → length (lefts stmt at behind) ≡ size stmt) stmts → (at : ℕ) (behind : List Placed) → length (block_lefts stmts at behind) ≡ block_size stmts
block_lefts_length [] h at behind = refl
block_lefts_length (stmt ∷ stmts) h at behind = omega (arith, length-append (lefts stmt at (placed (at + size stmt) stmts ++ behind)) (block_lefts stmts (at + size stmt) behind), h.0 at (placed (at + size stmt) stmts ++ behind), block_lefts_length stmts h.1 (at + size stmt) behind)

pub lefts_length : (stmt : Stmt) (at : ℕ) (behind : List Placed) → length (lefts stmt at behind) ≡ size stmt
lefts_length = stmt_ind (λ stmt. (at : ℕ) (behind : List Placed) → length (lefts stmt at behind) ≡ size stmt)
    (λ stmt h at behind. let p = plain_of stmt h in ap length (p.lefts_is at behind) ∙ sym p.size_is)
    (λ test block other in_block in_other at behind. rw (lefts_If test block other at behind, size_If test block other) (omega (arith, length-append (block_lefts block (at + 1) behind) (behind ∷ block_lefts other (at + 2 + block_size block) behind), block_lefts_length block in_block (at + 1) behind, block_lefts_length other in_other (at + 2 + block_size block) behind)))
    (λ test block in_block at behind. rw (lefts_While test block at behind, size_While test block) (
    let here : List Placed = record { at = at; what = While test block } ∷ behind in
    omega (arith, length-append (block_lefts block (at + 1) here) (here ∷ []), block_lefts_length block in_block (at + 1) here)))

pub lefts_block_length : (stmts : List Stmt) (at : ℕ) (behind : List Placed) → length (block_lefts stmts at behind) ≡ block_size stmts
lefts_block_length stmts = block_lefts_length stmts (each _ lefts_length stmts)
