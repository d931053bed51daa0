-- The flat code of a body stands for what is left at its places.
use Rattle.std.proofs.Common.{◌≡◌, ◌+◌, List, [], ◌∷◌, ◌++◌, sym, ap, ◌∙◌, subst, arith, length, length-append, append-nil}
use Rattle.aerie_base.specs.declared.statements.Stmt.{Stmt}
use Rattle.aerie_base.specs.statements.Places.{placed, block_lefts, all_lefts, left, block_size}
use Rattle.aerie_base.specs.statements.Induction.{each}
use Rattle.body_code.specs.FlatCode.{block_code, body_code}
use Rattle.body_code.specs.Denoting.{Denotes, JumpsEnd, IsCodeOf}
use Rattle.body_code.specs.declared.instructions.Instruction.{Instruction}
use Rattle.body_code.specs.declared.instructions.Instruction.TheVariants.{End}
use Rattle.body_code.proofs.Lengths.{block_length, lefts_block_length}
use Rattle.body_code.proofs.DenotingCode.{Has, Fine, Shows, has_front, has_back, has_all, fine_both, fine_at, block_shows, stmt_shows}
use Rattle.body_code.proofs.JumpingCode.{HasCode, AllJumpsEnd, JumpsEndIn, code_front, code_all, jumps_end_both, jumps_end_at, block_jumps_end, stmt_jumps_end}

-- ---- a body's code

pub is_code : (body : List Stmt) (code : List Instruction) → code ≡ body_code body → IsCodeOf body code
unfolding left
is_code body code e =
    let left_at = left body in
    let places = length code in
    let last_place = block_size body in
    let long : places ≡ last_place + 1 = omega (arith, ap length e, length-append (block_code body 0) (End ∷ []), block_length body 0) in
    let all : Has left_at 0 (all_lefts body) = has_all (all_lefts body) [] in
    let end : left_at last_place ≡ [] = (has_back left_at 0 last_place (block_lefts body 0 []) ([] ∷ []) (omega (arith, lefts_block_length body 0 [])) all).0 in
    let end' : left_at (0 + last_place) ≡ [] = (let k : last_place ≡ 0 + last_place = omega arith in subst (λ inner. left_at inner ≡ []) k end) in
    let part = block_shows left_at places body (each (Shows left_at places) (stmt_shows left_at places) body) 0 [] (has_front left_at 0 (block_lefts body 0 []) ([] ∷ []) all) end' (omega arith) in
    let last : Fine left_at places last_place (End ∷ []) = (end, tt) in
    let fine = fine_both left_at places 0 last_place (block_code body 0) (End ∷ []) (omega (arith, block_length body 0)) part.0 last in
    let fine' : Fine left_at places 0 code = subst (Fine left_at places 0) (sym e) fine in
    let whole = block_code body 0 ++ End ∷ [] in
    let has : HasCode code 0 whole = subst (λ c. HasCode c 0 whole) (sym e) (code_all whole []) in
    let over : AllJumpsEnd code last_place (End ∷ []) = (tt, tt) in
    let ends : AllJumpsEnd code 0 whole = jumps_end_both code 0 last_place (block_code body 0) (End ∷ []) (omega (arith, block_length body 0)) (block_jumps_end code body (each (JumpsEndIn code) (stmt_jumps_end code) body) 0 (code_front code 0 (block_code body 0) (End ∷ []) has)) over in
    let iteration' : AllJumpsEnd code 0 code = subst (AllJumpsEnd code 0) (sym e) ends in
    record {
      begins = part.1 ∙ append-nil (placed 0 body);
      places = long;
      denotes = λ at instruction k. (let z : 0 + at ≡ at = omega arith in subst (λ outer. Denotes left_at places outer instruction) z (fine_at left_at places 0 at code instruction fine' k));
      jumps_end = λ at instruction k. (let z : 0 + at ≡ at = omega arith in subst (λ outer. JumpsEnd code outer instruction) z (jumps_end_at code 0 at code instruction iteration' k));
    }

-- ---- what is written for a body

pub flat_is : (body : List Stmt) (code code1 code2 : List Instruction) → code ≡ [] → code1 ≡ code ++ block_code body (length code) → code2 ≡ code1 ++ End ∷ [] → code2 ≡ body_code body
flat_is body code code1 code2 e0 e1 e2 = e2 ∙ ap (λ l. l ++ End ∷ []) (e1 ∙ ap (λ l. l ++ block_code body (length l)) e0)
