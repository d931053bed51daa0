-- The room for the code of a statement and of its blocks, and that blocks are less deep than their statement.
use Rattle.std.proofs.Common.{◌≡◌, ℕ, suc, ◌+◌, ◌*◌, ◌<◌, ◌≤◌, List, [], ◌∷◌, ◌++◌, sym, ap, arith, length, length-append, drop, drop-cons, get_or, add-one}
use denote.Param.Weighed.{most}
use Rattle.aerie_base.specs.declared.expressions.Expr.{Expr}
use Rattle.aerie_base.specs.declared.statements.Stmt.{Stmt, If, While, size-Stmt}
use Rattle.aerie_base.specs.declared.statements.Stmt.TheViews.{sized-If, sized-While}
use Rattle.aerie_base.specs.models.Limits.{statement_limit}
use Rattle.aerie_base.specs.statements.Places.{size, block_size, block_count}
use Rattle.aerie_base.specs.statements.PlaceForms.{size_If, size_While}
use Rattle.body_code.specs.FlatCode.{code_of, block_code}
use Rattle.body_code.specs.declared.instructions.Instruction.{Instruction}
use Rattle.body_code.specs.declared.instructions.Instruction.TheVariants.{End}
use Rattle.aerie_base.specs.statements.Sizes.{block_few}
use Rattle.body_code.proofs.Lengths.{block_length, code_length}

-- the length after a block
pub after_block : (code code_after : List Instruction) (block : List Stmt) → code_after ≡ code ++ block_code block (length code) → length code_after ≡ length code + block_size block
after_block code code_after block e = omega (arith, ap length e, length-append code (block_code block (length code)), block_length block (length code))

pub after_one : (code code_after : List Instruction) (instruction : Instruction) → code_after ≡ code ++ instruction ∷ [] → length code_after ≡ length code + 1
after_one code code_after instruction e = omega (arith, ap length e, length-append code (instruction ∷ []))

-- the room for the parts of a statement
pub room_If : (stmt : Stmt) (test : Expr) (block other : List Stmt) (n m : ℕ) → stmt ≡ If test block other → n + size stmt < m → n + 2 + block_size block + block_size other < m
room_If stmt test block other n m e h = omega (arith, ap size e, size_If test block other)

pub room_While : (stmt : Stmt) (test : Expr) (block : List Stmt) (n m : ℕ) → stmt ≡ While test block → n + size stmt < m → n + 2 + block_size block < m
room_While stmt test block n m e h = omega (arith, ap size e, size_While test block)

pub room_first : (stmt : Stmt) (test : Expr) (block other also_given : List Stmt) (code code1 : List Instruction) (m : ℕ) → stmt ≡ If test block other → length code + size stmt < m → code1 ≡ code ++ End ∷ [] → also_given ≡ block → length code1 + block_size also_given < m
room_first stmt test block other also_given code code1 m e h k z = omega (arith, room_If stmt test block other (length code) m e h, after_one code code1 End k, ap block_size z)

pub room_second : (stmt : Stmt) (test : Expr) (block other given also_given : List Stmt) (code code1 code2 code3 : List Instruction) (m : ℕ) → stmt ≡ If test block other → length code + size stmt < m → code1 ≡ code ++ End ∷ [] → given ≡ block → code2 ≡ code1 ++ block_code given (length code1) → code3 ≡ code2 ++ End ∷ [] → also_given ≡ other → length code3 + block_size also_given < m
room_second stmt test block other given also_given code code1 code2 code3 m e h k v k2 k3 z = omega (arith, room_If stmt test block other (length code) m e h, after_one code code1 End k, ap block_size v, ap block_size z, after_block code1 code2 given k2, after_one code2 code3 End k3)

pub room_last : (also_given : List Stmt) (code3 code4 : List Instruction) (m : ℕ) → length code3 + block_size also_given < m → code4 ≡ code3 ++ block_code also_given (length code3) → length code4 < m
room_last also_given code3 code4 m h k = omega (arith, after_block code3 code4 also_given k)

pub room_body : (stmt : Stmt) (test : Expr) (block also_given : List Stmt) (code code1 : List Instruction) (m : ℕ) → stmt ≡ While test block → length code + size stmt < m → code1 ≡ code ++ End ∷ [] → also_given ≡ block → length code1 + 1 + block_size also_given < m
room_body stmt test block also_given code code1 m e h k z = omega (arith, room_While stmt test block (length code) m e h, after_one code code1 End k, ap block_size z)

pub room_body_end : (also_given : List Stmt) (code1 code2 code3 : List Instruction) (instruction : Instruction) (m : ℕ) → length code1 + 1 + block_size also_given < m → code2 ≡ code1 ++ block_code also_given (length code1) → code3 ≡ code2 ++ instruction ∷ [] → length code3 < m
room_body_end also_given code1 code2 code3 instruction m h k k2 = omega (arith, after_block code1 code2 also_given k, after_one code2 code3 instruction k2)

-- the blocks of a statement are less deep
pub first_less : (stmt : Stmt) (test : Expr) (block other also_given : List Stmt) (n : ℕ) → stmt ≡ If test block other → also_given ≡ block → 2 * size-Stmt stmt ≡ n → 2 * most size-Stmt also_given + 1 < n
first_less stmt test block other also_given n e k code_after = omega (arith, ap size-Stmt e, sized-If test block other, ap (most size-Stmt) k)

pub second_less : (stmt : Stmt) (test : Expr) (block other also_given : List Stmt) (n : ℕ) → stmt ≡ If test block other → also_given ≡ other → 2 * size-Stmt stmt ≡ n → 2 * most size-Stmt also_given + 1 < n
second_less stmt test block other also_given n e k code_after = omega (arith, ap size-Stmt e, sized-If test block other, ap (most size-Stmt) k)

pub body_less : (stmt : Stmt) (test : Expr) (block also_given : List Stmt) (n : ℕ) → stmt ≡ While test block → also_given ≡ block → 2 * size-Stmt stmt ≡ n → 2 * most size-Stmt also_given + 1 < n
body_less stmt test block also_given n e k code_after = omega (arith, ap size-Stmt e, sized-While test block, ap (most size-Stmt) k)

-- a body of at most so many statements has room
pub room_all : (body : List Stmt) (code : List Instruction) → code ≡ [] → block_count body ≤ statement_limit → length code + block_size body < 4294967296
room_all body code e h = omega (arith, ap length e, block_few body)

-- the room after a iteration of the loop over a block
pub iteration_room : (stmts : List Stmt) (index : ℕ) (stmt : Stmt) (code code_after : List Instruction) (m : ℕ) → index < length stmts → stmt ≡ get_or stmts index stmt → code_after ≡ code ++ code_of stmt (length code) → length code + block_size (drop index stmts) ≡ m → length code_after + block_size (drop (index + 1) stmts) ≡ m
iteration_room stmts index stmt code code_after m lt is_it k h =
    let n : length code_after ≡ length code + size stmt = omega (arith, ap length k, length-append code (code_of stmt (length code)), code_length stmt (length code)) in
    let cut : drop index stmts ≡ stmt ∷ drop (index + 1) stmts = rw (add-one, drop-cons stmts index stmt) (ap (λ x. x ∷ drop (suc index) stmts) (sym is_it)) in
    omega (arith, ap block_size cut)
