-- What a list of parts asks for, as parts are added at its end.
use Rattle.std.proofs.Common.{◌≡◌, ℕ, Bool, true, false, cond, not, ◌&&◌, ◌||◌, List, [], ◌∷◌, ◌++◌, Option, Some, None, codes, bytes_eq, append_assoc, length, nat_lt, refl, sym, ap, ◌∙◌}
use Rattle.std.proofs.lemmas.Slice.Eq.{bytes_eq-Decides}
use Rattle.command_line.specs.Grammar.{CommandPart, Word, with_part}
use Rattle.command_line.specs.Invocations.{GivenFlags, Values, are_different, invocation_by, invocation_in, invocation_with, is_part, make_mode, mode_of, number_up_to, plain_mode, says_true, value_in}
use Rattle.command_line.specs.declared.invocation.Invocation.{Invocation}
use Rattle.command_line.specs.declared.invocation.Mode.{Mode}
use Rattle.command_line.specs.declared.invocation.Mode.TheVariants.{Run, Check}

-- ---- tests

pub same_name : (a b : Word) → bytes_eq a b ≡ true → a ≡ b
same_name a b e = (bytes_eq-Decides a b).0 e

pub is_itself : (a : Word) → bytes_eq a a ≡ true
is_itself a = (bytes_eq-Decides a a).1 refl

-- a name differs from another one whichever stands first
pub other_name : (a b : Word) → bytes_eq a b ≡ false → bytes_eq b a ≡ false
other_name a b e = go (bytes_eq b a) refl
  where
    go : (t : Bool) → bytes_eq b a ≡ t → t ≡ false
    go false same = refl
    go true same = let is : b ≡ a = same_name b a same in let yes : bytes_eq a b ≡ true = (bytes_eq-Decides a b).1 (sym is) in absurd (cc)

pub and_false : (t : Bool) → (t && false) ≡ false
and_false true = refl
and_false false = refl

pub or_true : (t : Bool) → (t || true) ≡ true
or_true true = refl
or_true false = refl

pub or_none : (a b : Bool) → (a || b) ≡ false → (a ≡ false) × (b ≡ false)
or_none false b e = (refl, e)
or_none true b e = absurd cc

pub and_both : (a b : Bool) → (a && b) ≡ true → (a ≡ true) × (b ≡ true)
and_both true b e = (refl, e)
and_both false b e = absurd cc

pub always : {A : Type 0} (t : Bool) (x : A) → cond t x x ≡ x
always true x = refl
always false x = refl

-- ---- parts that are given twice

-- a part is among those that it stands among
is_there : (name : Word) (ps more : List CommandPart) (p : CommandPart) → bytes_eq p.0 name ≡ true → is_part name (ps ++ p ∷ more) ≡ true
is_there name [] more p e = rw e refl
is_there name (q ∷ ps) more p e = rw (is_there name ps more p e) (or_true (bytes_eq q.0 name))

repeated : (ps more : List CommandPart) (p : CommandPart) → is_part p.0 ps ≡ true → are_different (ps ++ p ∷ more) ≡ false
repeated [] more p e = absurd cc
repeated (q ∷ ps) more p e = go (bytes_eq q.0 p.0) refl e (λ there. repeated ps more p there)
  where
    go : (t : Bool) → bytes_eq q.0 p.0 ≡ t → (t || is_part p.0 ps) ≡ true → (is_part p.0 ps ≡ true → are_different (ps ++ p ∷ more) ≡ false)
        → (not (is_part q.0 (ps ++ p ∷ more)) && are_different (ps ++ p ∷ more)) ≡ false
    go true same e below = let is : q.0 ≡ p.0 = same_name q.0 p.0 same in let yes : bytes_eq p.0 q.0 ≡ true = (bytes_eq-Decides p.0 q.0).1 (sym is) in rw (is_there q.0 ps more p yes) refl
    go false same e below = rw (below e) (and_false (not (is_part q.0 (ps ++ p ∷ more))))

-- a new part leaves them different
pub still_different : (ps : List CommandPart) (p : CommandPart) → are_different ps ≡ true → is_part p.0 ps ≡ false → are_different (ps ++ p ∷ []) ≡ true
still_different [] p d none = refl
still_different (q ∷ ps) p d none =
    let parts = and_both (not (is_part q.0 ps)) (are_different ps) d in
    let apart = or_none (bytes_eq q.0 p.0) (is_part p.0 ps) none in
    rw (no_more ps (not_true (is_part q.0 ps) parts.0) (other_name q.0 p.0 apart.0), still_different ps p parts.1 apart.1) refl
  where
    not_true : (t : Bool) → not t ≡ true → t ≡ false
    not_true false e = refl
    not_true true e = absurd cc

    no_more : (rest : List CommandPart) → is_part q.0 rest ≡ false → bytes_eq p.0 q.0 ≡ false → is_part q.0 (rest ++ p ∷ []) ≡ false
    no_more [] none e = rw e refl
    no_more (r ∷ rest) none e = let apart = or_none (bytes_eq r.0 q.0) (is_part q.0 rest) none in rw (apart.0, no_more rest apart.1 e) refl

-- ---- what parts and some more ask for

abbrev pub judged : List CommandPart → Option (List CommandPart) → Option Invocation
judged ps None = None
judged ps (Some more) = invocation_in (ps ++ more)

pub judged_with : (ps : List CommandPart) (p : CommandPart) (more : Option (List CommandPart)) → judged ps (with_part p more) ≡ judged (ps ++ p ∷ []) more
judged_with ps p None = refl
judged_with ps p (Some more) = ap invocation_in (sym (append_assoc ps (p ∷ []) more))

pub judged_none : (ps : List CommandPart) (more : Option (List CommandPart)) → ((rest : List CommandPart) → invocation_in (ps ++ rest) ≡ None) → judged ps more ≡ None
judged_none ps None none = refl
judged_none ps (Some more) none = none more

-- a part that is given twice
pub repeated_none : (ps : List CommandPart) (p : CommandPart) (more : Option (List CommandPart)) → is_part p.0 ps ≡ true → judged (ps ++ p ∷ []) more ≡ None
repeated_none ps p None e = refl
repeated_none ps p (Some more) e =
    let twice : are_different ((ps ++ p ∷ []) ++ more) ≡ false = ap are_different (append_assoc ps (p ∷ []) more) ∙ repeated ps more p e in rw twice refl

-- ---- values that are refused

-- what has a value
pub data Valued : Type 0 where
  mode limit pieces number : Valued

abbrev pub name_of : Valued → Word
name_of mode = codes "mode"
name_of limit = codes "limit"
name_of pieces = codes "pieces"
name_of number = codes "number"

-- no number begins with a hyphen
no_number : (most : ℕ) (rest : Word) → number_up_to most (45 ∷ rest) ≡ None
no_number most rest = go (nat_lt 0 (length (45 ∷ rest))) _ _ _
  where
    go : (t a b : Bool) (n : ℕ) → cond (((t && false) && a) && b) (Some n) None ≡ None
    go true a b n = refl
    go false a b n = refl

no_limit : (flags : GivenFlags) (m : Option Mode) (p : Option ℕ) → invocation_with flags m None p ≡ None
no_limit flags None p = refl
no_limit flags (Some m) p = refl

no_pieces : (flags : GivenFlags) (m : Option Mode) (l : Option ℕ) → invocation_with flags m l None ≡ None
no_pieces flags None l = refl
no_pieces flags (Some m) None = refl
no_pieces flags (Some m) (Some l) = refl

no_mode : (m : Option Word) (rest : Word) (text : Bool) → mode_of m (Some (45 ∷ rest)) text ≡ None
no_mode None rest text = refl
no_mode (Some word) rest text = go (bytes_eq word (codes "run")) (bytes_eq word (codes "check")) (bytes_eq word (codes "make"))
  where
    go : (a b c : Bool) → cond a (plain_mode Run (Some (45 ∷ rest)) text) (cond b (plain_mode Check (Some (45 ∷ rest)) text) (cond c (make_mode (Some (45 ∷ rest)) text) None)) ≡ None
    go true b c = refl
    go false true c = refl
    go false false true = rw (no_number 20000 rest) refl
    go false false false = refl

bad_by : (v : Valued) (values : Values) (rest : Word) → values (name_of v) ≡ Some (45 ∷ rest) → invocation_by values ≡ None
bad_by mode values rest e = rw e refl
bad_by limit values rest e = rw (e, no_number 100000000 rest) (no_limit _ _ _)
bad_by pieces values rest e = rw (e, no_number 64 rest) (no_pieces _ _ _)
bad_by number values rest e =
    rw (e, no_mode (values (codes "mode")) rest (says_true (values (codes "text")))) refl

value_found : (ps more : List CommandPart) (name value : Word) → is_part name ps ≡ false → value_in (ps ++ (name, value) ∷ more) name ≡ Some value
value_found [] more name value none = rw (is_itself name) refl
value_found (p ∷ ps) more name value none =
    let apart = or_none (bytes_eq p.0 name) (is_part name ps) none in rw apart.0 (value_found ps more name value apart.1)

-- a value that begins with a hyphen
pub bad_none : (v : Valued) (rest : Word) (ps : List CommandPart) (more : Option (List CommandPart)) → judged (ps ++ (name_of v, 45 ∷ rest) ∷ []) more ≡ None
bad_none v rest ps more = go (is_part (name_of v) ps) refl
  where
    in_front : (others : List CommandPart) → is_part (name_of v) ps ≡ false → invocation_in (ps ++ (name_of v, 45 ∷ rest) ∷ others) ≡ None
    in_front others none =
        rw (bad_by v (value_in (ps ++ (name_of v, 45 ∷ rest) ∷ others)) rest (value_found ps others (name_of v) (45 ∷ rest) none))
        (always (are_different (ps ++ (name_of v, 45 ∷ rest) ∷ others)) None)

    behind : (others : Option (List CommandPart)) → is_part (name_of v) ps ≡ false → judged (ps ++ (name_of v, 45 ∷ rest) ∷ []) others ≡ None
    behind None none = refl
    behind (Some others) none = ap invocation_in (append_assoc ps ((name_of v, 45 ∷ rest) ∷ []) others) ∙ in_front others none

    go : (t : Bool) → is_part (name_of v) ps ≡ t → judged (ps ++ (name_of v, 45 ∷ rest) ∷ []) more ≡ None
    go true twice = repeated_none ps (name_of v, 45 ∷ rest) more twice
    go false none = behind more none
