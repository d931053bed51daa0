-- How the scopes of a body go with one another: what the locals that suit one of them suit.
use Rattle.std.proofs.Common.{◌≡◌, ℕ, zero, suc, ◌-◌, ◌≤◌, Bool, true, false, ◌&&◌, IsTrue, List, [], ◌∷◌, ◌++◌, Some, None, length, replicate, refl, sym, ap, ◌∙◌, subst, arith, length-append, append_assoc}
use Rattle.std.proofs.lemmas.List.{length-replicate}
use Rattle.aerie_base.specs.declared.values.Value.{Value}
use Rattle.aerie_base.specs.expressions.Arithmetic.{value_kind}
use Rattle.aerie_base.specs.expressions.Typing.{same_kind}
use Rattle.aerie_base.specs.models.Scopes.{Scope, behind}
use Rattle.run_data.specs.Scopes.{suits}

-- ---- truths that hold together

pub both_hold : (a b : Bool) → IsTrue (a && b) → IsTrue a × IsTrue b
both_hold true b h = (refl, h)
both_hold false b h = absurd (cc)

pub and_holds : (a b : Bool) → IsTrue a → IsTrue b → IsTrue (a && b)
and_holds true b h k = k
and_holds false b h k = absurd (cc)

-- ---- what suits

-- the locals that suit the first scope suit the second
abbrev pub Suffices : Scope → Scope → Type 0
Suffices scope other = (locals : List Value) → IsTrue (suits scope locals) → IsTrue (suits other locals)

pub same_suffices : (scope : Scope) → Suffices scope scope
same_suffices scope locals h = h

pub in_turn : (a b c : Scope) → Suffices a b → Suffices b c → Suffices a c
in_turn a b c first second locals h = second locals (first locals h)

abbrev unknown : ℕ → Scope
unknown count = replicate count None

unknown_length : (count : ℕ) → length (unknown count) ≡ count
unknown_length count = length-replicate count None

unknown_suits : (count : ℕ) (locals : List Value) → IsTrue (suits (replicate count None) locals)
unknown_suits zero locals = refl
unknown_suits (suc count) [] = refl
unknown_suits (suc count) (value ∷ locals) = unknown_suits count locals

-- locals of which nothing is known may stand behind
pub longer_suffices : (scope : Scope) (count : ℕ) → Suffices scope (scope ++ replicate count None)
longer_suffices [] count locals h = unknown_suits count locals
longer_suffices (None ∷ scope) count [] h = refl
longer_suffices (None ∷ scope) count (value ∷ locals) h = longer_suffices scope count locals h
longer_suffices (Some kind ∷ scope) count [] h = absurd (cc)
longer_suffices (Some kind ∷ scope) count (value ∷ locals) h =
    let parts = both_hold (same_kind (value_kind value) kind) (suits scope locals) h in
    and_holds (same_kind (value_kind value) kind) (suits (scope ++ replicate count None) locals) parts.0 (longer_suffices scope count locals parts.1)

-- a scope is the beginning of those that go on from it
pub shorter_suffices : (scope more : Scope) → Suffices (scope ++ more) scope
shorter_suffices [] more locals h = refl
shorter_suffices (None ∷ scope) more [] h = refl
shorter_suffices (None ∷ scope) more (value ∷ locals) h = shorter_suffices scope more locals h
shorter_suffices (Some kind ∷ scope) more [] h = absurd (cc)
shorter_suffices (Some kind ∷ scope) more (value ∷ locals) h =
    let parts = both_hold (same_kind (value_kind value) kind) (suits (scope ++ more) locals) h in
    and_holds (same_kind (value_kind value) kind) (suits scope locals) parts.0 (shorter_suffices scope more locals parts.1)

-- ---- scopes that go on

-- the second scope goes on from the first
abbrev pub GoesOn : Scope → Scope → Type 0
GoesOn scope next = (more : Scope) × (next ≡ scope ++ more)

append_nil : {A : Type 0} (xs : List A) → xs ++ [] ≡ xs
append_nil [] = refl
append_nil (x ∷ xs) = ap (λ l. x ∷ l) (append_nil xs)

pub goes_nowhere : (scope : Scope) → GoesOn scope scope
goes_nowhere scope = ([], sym (append_nil scope))

pub goes_further : (a b c : Scope) → GoesOn a b → GoesOn b c → GoesOn a c
goes_further a b c first second = (first.0 ++ second.0, second.1 ∙ ap (λ (l : Scope). l ++ second.0) first.1 ∙ append_assoc a first.0 second.0)

pub goes_behind : (scope inner : Scope) → GoesOn scope (behind scope inner)
goes_behind scope inner = (replicate (length inner - length scope) None, refl)

pub longer : (scope next : Scope) → GoesOn scope next → length scope ≤ length next
longer scope next on = omega (arith, ap (λ (l : Scope). length l) on.1, length-append scope on.0)

-- behind a block there are as many slots as at its end
pub behind_length : (scope inner : Scope) → GoesOn scope inner → length (behind scope inner) ≡ length inner
behind_length scope inner on =
    omega (arith, longer scope inner on, length-append scope (unknown (length inner - length scope)), unknown_length (length inner - length scope))

pub behind_suffices : (scope inner : Scope) → Suffices scope (behind scope inner)
behind_suffices scope inner = longer_suffices scope (length inner - length scope)

-- the locals that suit the scope at the end of a block suit the one behind it
pub end_suffices : (scope inner : Scope) → GoesOn scope inner → Suffices inner (behind scope inner)
end_suffices scope inner on =
    in_turn inner scope (behind scope inner)
    (subst (λ (l : Scope). Suffices l scope) (sym on.1) (shorter_suffices scope on.0))
    (behind_suffices scope inner)

pub beginning_suffices : (scope next : Scope) → GoesOn scope next → Suffices next scope
beginning_suffices scope next on = subst (λ (l : Scope). Suffices l scope) (sym on.1) (shorter_suffices scope on.0)
