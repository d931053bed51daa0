-- What is written for a statement, and written over at last, is its code.
use Rattle.std.proofs.Common.{◌≡◌, ℕ, suc, ◌+◌, ◌<◌, List, [], ◌∷◌, ◌++◌, true, refl, sym, ap, ◌∙◌, arith, length, length-append, append_assoc, drop, drop-cons, get_or, add-one, slice_set}
use Rattle.std.proofs.Math.Seq.{set-append_seam}
use denote.Hole.Carrier.{roll}
use Rattle.aerie_base.specs.declared.expressions.Expr.{Expr}
use Rattle.aerie_base.specs.declared.statements.Stmt.{Stmt, If, While, roll-Stmt, out-Stmt, roll-out-Stmt}
use Rattle.aerie_base.specs.declared.statements.Stmt.TheVariants.{rolls-If, rolls-While}
use Rattle.aerie_base.specs.declared.statements.Stmt.TheOpen.{Stmt-F}
use Rattle.aerie_base.specs.statements.Places.{size, block_size, is_simple, simple_step}
use Rattle.body_code.specs.FlatCode.{code_of, block_code}
use Rattle.body_code.specs.declared.instructions.Instruction.{Instruction}
use Rattle.body_code.specs.declared.instructions.Instruction.TheVariants.{Do, Test, Jump, End}
use Rattle.body_code.proofs.FlatForms.{code_If, code_While, code_simple}
use Rattle.body_code.proofs.Lengths.{block_length, code_length}
use Rattle.body_code.proofs.Rooms.{after_block, after_one}

two_writes : (code a b : List Instruction) (x y instruction jump : Instruction) → slice_set (slice_set (code ++ x ∷ (a ++ y ∷ b)) (length code) instruction) (length (code ++ instruction ∷ a)) jump ≡ code ++ instruction ∷ (a ++ jump ∷ b)
two_writes code a b x y instruction jump =
    ap (λ l. slice_set l (length (code ++ instruction ∷ a)) jump) (set-append_seam code x (a ++ y ∷ b) instruction ∙ sym (append_assoc code (instruction ∷ a) (y ∷ b)))
    ∙ set-append_seam (code ++ instruction ∷ a) y b jump
    ∙ append_assoc code (instruction ∷ a) (jump ∷ b)

pub patched_if : (stmt : Stmt) (test : Expr) (block other : List Stmt) (code code1 code2 code3 code4 code_after : List Instruction) (at middle : ℕ) → stmt ≡ If test block other → at ≡ length code → code1 ≡ code ++ End ∷ [] → code2 ≡ code1 ++ block_code block (length code1) → middle ≡ length code2 → code3 ≡ code2 ++ End ∷ [] → code4 ≡ code3 ++ block_code other (length code3) → code_after ≡ slice_set (slice_set code4 at (Test test (middle + 1))) middle (Jump (length code4)) → code_after ≡ code ++ code_of stmt (length code)
patched_if stmt test block other code code1 code2 code3 code4 code_after at middle is_it e0 e1 e2 e3 e4 e5 e6 =
    let n = length code in
    let l1 = after_one code code1 End e1 in
    let l2 = after_block code1 code2 block e2 in
    let l3 = after_one code2 code3 End e4 in
    let l4 = after_block code3 code4 other e5 in
    let a = block_code block (n + 1) in
    let b = block_code other (n + 2 + block_size block) in
    let ea : block_code block (length code1) ≡ a = ap (block_code block) l1 in
    let eb : block_code other (length code3) ≡ b = (let k : length code3 ≡ n + 2 + block_size block = omega arith in ap (block_code other) k) in
    let all : code4 ≡ (((code ++ End ∷ []) ++ a) ++ End ∷ []) ++ b = cc in
    let flat : (((code ++ End ∷ []) ++ a) ++ End ∷ []) ++ b ≡ code ++ End ∷ (a ++ End ∷ b) = simp append_assoc in
    let instruction = Test test (middle + 1) in
    let jump = Jump (length code4) in
    let at2 : middle ≡ length (code ++ instruction ∷ a) = omega (arith, length-append code (instruction ∷ a), block_length block (n + 1)) in
    let past : middle + 1 ≡ n + 2 + block_size block = omega arith in
    let end : length code4 ≡ n + 2 + block_size block + block_size other = omega arith in
    e6
    ∙ ap (λ l. slice_set (slice_set l at instruction) middle jump) (all ∙ flat)
    ∙ ap (λ m. slice_set (slice_set (code ++ End ∷ (a ++ End ∷ b)) m instruction) middle jump) e0
    ∙ ap (λ m. slice_set (slice_set (code ++ End ∷ (a ++ End ∷ b)) (length code) instruction) m jump) at2
    ∙ two_writes code a b End End instruction jump
    ∙ ap (λ m. code ++ Test test m ∷ (a ++ jump ∷ b)) past
    ∙ ap (λ m. code ++ Test test (n + 2 + block_size block) ∷ (a ++ Jump m ∷ b)) end
    ∙ ap (λ l. code ++ l) (sym (code_If test block other n))
    ∙ ap (λ x. code ++ code_of x n) (sym is_it)

pub patched_while : (stmt : Stmt) (test : Expr) (block : List Stmt) (code code1 code2 code3 code_after : List Instruction) (at : ℕ) → stmt ≡ While test block → at ≡ length code → code1 ≡ code ++ End ∷ [] → code2 ≡ code1 ++ block_code block (length code1) → code3 ≡ code2 ++ Jump at ∷ [] → code_after ≡ slice_set code3 at (Test test (length code3)) → code_after ≡ code ++ code_of stmt (length code)
patched_while stmt test block code code1 code2 code3 code_after at is_it e0 e1 e2 e3 e4 =
    let n = length code in
    let l1 = after_one code code1 End e1 in
    let l2 = after_block code1 code2 block e2 in
    let l3 = after_one code2 code3 (Jump at) e3 in
    let a = block_code block (n + 1) in
    let ea : block_code block (length code1) ≡ a = ap (block_code block) l1 in
    let all : code3 ≡ ((code ++ End ∷ []) ++ a) ++ Jump n ∷ [] = cc in
    let flat : ((code ++ End ∷ []) ++ a) ++ Jump n ∷ [] ≡ code ++ End ∷ (a ++ Jump n ∷ []) = simp append_assoc in
    let end : length code3 ≡ n + 2 + block_size block = omega arith in
    e4
    ∙ ap (λ l. slice_set l at (Test test (length code3))) (all ∙ flat)
    ∙ ap (λ m. slice_set (code ++ End ∷ (a ++ Jump n ∷ [])) m (Test test (length code3))) e0
    ∙ set-append_seam code End (a ++ Jump n ∷ []) (Test test (length code3))
    ∙ ap (λ m. code ++ Test test m ∷ (a ++ Jump n ∷ [])) end
    ∙ ap (λ l. code ++ l) (sym (code_While test block n))
    ∙ ap (λ x. code ++ code_of x n) (sym is_it)

-- a statement that is none of those with blocks
simple_else' : (x : Stmt-F Stmt) → ((test : Expr) (block other : List Stmt) → x ≡ Stmt-F.If test block other → ⊥) → ((test : Expr) (block : List Stmt) → x ≡ Stmt-F.While test block → ⊥) → simple_step x ≡ true
simple_else' (Stmt-F.Let x e) h k = refl
simple_else' (Stmt-F.Assign x e) h k = refl
simple_else' (Stmt-F.Emit x e) h k = refl
simple_else' (Stmt-F.Delay e) h k = refl
simple_else' (Stmt-F.WaitUntil e) h k = refl
simple_else' (Stmt-F.Spawn x e) h k = refl
simple_else' (Stmt-F.Call x e f) h k = refl
simple_else' (Stmt-F.If test block other) h k = absurd (h test block other refl)
simple_else' (Stmt-F.While test block) h k = absurd (k test block refl)
simple_else' (Stmt-F.Return e) h k = refl

pub simple_else : (stmt : Stmt) → ((test : Expr) (block other : List Stmt) → stmt ≡ If test block other → ⊥) → ((test : Expr) (block : List Stmt) → stmt ≡ While test block → ⊥) → is_simple stmt ≡ true
unfolding is_simple roll-Stmt roll
simple_else stmt h k = simple_else' (out-Stmt stmt)
    (λ test block other e. h test block other (sym (roll-out-Stmt stmt) ∙ ap roll-Stmt e ∙ sym (rolls-If test block other)))
    (λ test block e. k test block (sym (roll-out-Stmt stmt) ∙ ap roll-Stmt e ∙ sym (rolls-While test block)))

pub one_more : (stmt x : Stmt) (code code_after : List Instruction) → is_simple stmt ≡ true → x ≡ stmt → code_after ≡ code ++ Do x ∷ [] → code_after ≡ code ++ code_of stmt (length code)
one_more stmt x code code_after h e k = k ∙ ap (λ y. code ++ Do y ∷ []) e ∙ ap (λ l. code ++ l) (sym (code_simple stmt h (length code)))

-- a iteration of the loop over a block
pub iteration_code : (stmts : List Stmt) (index : ℕ) (stmt : Stmt) (code code_after e : List Instruction) → index < length stmts → stmt ≡ get_or stmts index stmt → code_after ≡ code ++ code_of stmt (length code) → code ++ block_code (drop index stmts) (length code) ≡ e → code_after ++ block_code (drop (index + 1) stmts) (length code_after) ≡ e
iteration_code stmts index stmt code code_after e lt is_it k h =
    let n : length code_after ≡ length code + size stmt = omega (arith, ap length k, length-append code (code_of stmt (length code)), code_length stmt (length code)) in
    let cut : drop index stmts ≡ stmt ∷ drop (index + 1) stmts = rw (add-one, drop-cons stmts index stmt) (ap (λ x. x ∷ drop (suc index) stmts) (sym is_it)) in
    ap (λ m. code_after ++ block_code (drop (index + 1) stmts) m) n
    ∙ ap (λ l. l ++ block_code (drop (index + 1) stmts) (length code + size stmt)) k
    ∙ append_assoc code (code_of stmt (length code)) (block_code (drop (index + 1) stmts) (length code + size stmt))
    ∙ sym (ap (λ l. code ++ block_code l (length code)) cut)
    ∙ h

pub if_done : (stmt : Stmt) (test : Expr) (block other given also_given : List Stmt) (code code1 code2 code3 code4 code_after : List Instruction) (at middle : ℕ) → stmt ≡ If test block other → at ≡ length code → code1 ≡ code ++ End ∷ [] → given ≡ block → code2 ≡ code1 ++ block_code given (length code1) → middle ≡ length code2 → code3 ≡ code2 ++ End ∷ [] → also_given ≡ other → code4 ≡ code3 ++ block_code also_given (length code3) → code_after ≡ slice_set (slice_set code4 at (Test test (middle + 1))) middle (Jump (length code4)) → code_after ≡ code ++ code_of stmt (length code)
if_done stmt test block other given also_given code code1 code2 code3 code4 code_after at middle is_it e0 e1 v e2 e3 e4 z e5 e6 =
    patched_if stmt test block other code code1 code2 code3 code4 code_after at middle is_it e0 e1 (e2 ∙ ap (λ x. code1 ++ block_code x (length code1)) v) e3 e4 (e5 ∙ ap (λ x. code3 ++ block_code x (length code3)) z) e6

pub while_done : (stmt : Stmt) (test : Expr) (block also_given : List Stmt) (code code1 code2 code3 code_after : List Instruction) (at : ℕ) → stmt ≡ While test block → at ≡ length code → code1 ≡ code ++ End ∷ [] → also_given ≡ block → code2 ≡ code1 ++ block_code also_given (length code1) → code3 ≡ code2 ++ Jump at ∷ [] → code_after ≡ slice_set code3 at (Test test (length code3)) → code_after ≡ code ++ code_of stmt (length code)
while_done stmt test block also_given code code1 code2 code3 code_after at is_it e0 e1 z e2 e3 e4 =
    patched_while stmt test block code code1 code2 code3 code_after at is_it e0 e1 (e2 ∙ ap (λ x. code1 ++ block_code x (length code1)) z) e3 e4
