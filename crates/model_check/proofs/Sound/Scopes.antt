-- The scope of a body as it is written and the scope in the model go along with each other.
use Rattle.std.proofs.Common.{◌≡◌, ℕ, zero, suc, ◌+◌, ◌-◌, ◌≤◌, ◌<◌, Bool, true, false, List, [], ◌∷◌, ◌++◌, Option, Some, None, option_map, option_and_then, replicate, nat_eq, nat_lt, slice_get, take, length, if◌then◌else◌, refl, sym, ap, ◌∙◌, subst, arith, append_assoc}
use Rattle.std.proofs.lemmas.Bool.Decides.{nat_tests}
use Rattle.std.proofs.lemmas.List.{length-append, length-take, length-replicate, take_at}
use Rattle.std.specs.List.{AllByRecursion}
use Rattle.aerie_base.specs.declared.models.EnumType.{EnumType}
use Rattle.aerie_base.specs.declared.values.Kind.{Kind}
use Rattle.aerie_base.specs.models.Bodies.{Setting}
use Rattle.aerie_base.specs.models.Cells.{read_kind}
use Rattle.aerie_base.specs.models.Limits.{local_limit}
use Rattle.aerie_base.specs.models.Names.{is_name_among}
use Rattle.aerie_base.specs.models.Scopes.{Scope, known, with_local, behind}
use Rattle.aerie_base.specs.models.Signatures.{Signature}
use Rattle.model_check.specs.declared.scopes.BodyScope.{BodyScope}
use Rattle.model_check.specs.declared.scopes.LocalSymbol.{LocalSymbol}
use Rattle.model_check.specs.declared.symbols.CellSymbol.{CellSymbol}
use Rattle.model_check.specs.declared.symbols.EnumSymbol.{EnumSymbol}
use Rattle.model_check.specs.declared.symbols.ResultSymbol.{ResultSymbol}
use Rattle.model_check.specs.declared.symbols.Symbols.{Symbols}
use Rattle.model_check.specs.declared.symbols.TypeSymbol.{TypeSymbol}
use Rattle.model_check.specs.declared.tables.NameTable.{NameTable}
use Rattle.model_check.specs.BodyScopes.{next_slot, with_new_local, block_left}
use Rattle.diagnostics.specs.ShortNumbers.{short}
use Rattle.diagnostics.specs.NameLists.{name_number}
use Rattle.model_check.specs.NameTables.{numbered_value, entry_in}
use Rattle.model_check.proofs.Sound.Invokes.{AllPairs, IsParameterOf}
use Rattle.model_check.proofs.Sound.Knows.{Knows, IsCell, IsEnum, IsLocal}

-- ---- tables

pub all_at : {A : Type 0} (P : A → Type 0) (xs : List A) (number : ℕ) (x : A) → AllByRecursion P xs → slice_get xs number ≡ Some x → P x
all_at P [] number x all e = cc
all_at P (y ∷ ys) zero x all e = subst P (some_is e) all.0
  where
    some_is : {A : Type 0} {a b : A} → Some a ≡ Some b → a ≡ b
    some_is h = cc
all_at P (y ∷ ys) (suc number) x all e = all_at P ys number x all.1 e

-- what is found by a name stands at its number
pub entry_stands : {A : Type 0} (name : List ℕ) (table : NameTable A) (entry : ℕ × A) → entry_in name table ≡ Some entry → slice_get table.values entry.0 ≡ Some entry.1
entry_stands {A = A} name table entry e = go (name_number name table.names) e
  where
    at : (number : ℕ) (value : Option A) → slice_get table.values number ≡ value → option_map (λ found. (number, found)) value ≡ Some entry → slice_get table.values entry.0 ≡ Some entry.1
    at number None f h = cc
    at number (Some value) f h = cc

    go : (number : Option ℕ) → option_and_then (numbered_value table.values) number ≡ Some entry → slice_get table.values entry.0 ≡ Some entry.1
    go None h = cc
    go (Some number) h = at number (slice_get table.values number) refl h

-- ---- what a body may name

abbrev pub SameResult : Option ResultSymbol → Option Kind → Type 0
SameResult None None = Unit {0}
SameResult None (Some kind) = ⊥
SameResult (Some result) None = ⊥
SameResult (Some result) (Some kind) = result.kind ≡ Some kind

-- an activity type has its signature in the model
abbrev pub HasSignature : List EnumType → TypeSymbol → Signature → Type 0
HasSignature enums type signature = AllPairs (IsParameterOf enums) type.parameters.values signature.parameters × SameResult type.result signature.result

-- what the names of the text stand for is what the setting of a body has
pub record Suits (symbols : Symbols) (returns : Option ResultSymbol) (setting : Setting) : Type 0 where
  pub cell : (name : List ℕ) (entry : ℕ × CellSymbol) → entry_in name symbols.cells ≡ Some entry → IsCell (read_kind setting.cells) (short entry.0) entry.1.sort
  pub variant : (name : List ℕ) (entry : ℕ × EnumSymbol) → entry_in name symbols.enums ≡ Some entry → IsEnum setting.enums entry
  pub type : (name : List ℕ) (entry : ℕ × TypeSymbol) → entry_in name symbols.types ≡ Some entry
      → (signature : Signature) × (slice_get setting.signatures (short entry.0) ≡ Some signature) × HasSignature setting.enums entry.1 signature
  pub result : SameResult returns setting.result

-- a local that is known has its type in its slot, and is a parameter where its slot is one's
abbrev pub IsKnown : ℕ → Scope → LocalSymbol → Type 0
IsKnown parameters slots local = IsLocal (known slots) local × (local.is_parameter ≡ false → parameters ≤ local.slot)

pub record Follows (parameters : ℕ) (scope : BodyScope) (slots : Scope) : Type 0 where
  pub count : scope.count ≡ length slots
  pub few : scope.count ≤ local_limit
  pub aligned : length scope.known.names ≡ length scope.known.values
  pub locals : AllByRecursion (IsKnown parameters slots) scope.known.values

-- so each name that is known is known
pub knows_here : (symbols : Symbols) (returns : Option ResultSymbol) (setting : Setting) (scope : BodyScope) (slots : Scope) → Suits symbols returns setting → Follows setting.parameters scope slots
    → Knows symbols scope setting.enums (known slots) (read_kind setting.cells)
knows_here symbols returns setting scope slots suits follows = record {
  local = λ name entry e. (all_at (IsKnown setting.parameters slots) scope.known.values entry.0 entry.1 follows.locals (entry_stands name scope.known entry e)).0;
  cell = suits.cell;
  variant = suits.variant;
}

-- ---- more slots

pub known_more : (slots more : Scope) (slot : ℕ) (kind : Kind) → known slots slot ≡ Some kind → known (slots ++ more) slot ≡ Some kind
known_more [] more slot kind e = cc
known_more (here ∷ slots) more zero kind e = e
known_more (here ∷ slots) more (suc slot) kind e = known_more slots more slot kind e

known_last : (slots : Scope) (kind : Kind) → known (slots ++ Some kind ∷ []) (length slots) ≡ Some kind
known_last [] kind = refl
known_last (here ∷ slots) kind = known_last slots kind

locals_more : (parameters : ℕ) (slots more : Scope) (locals : List LocalSymbol) → AllByRecursion (IsKnown parameters slots) locals → AllByRecursion (IsKnown parameters (slots ++ more)) locals
locals_more parameters slots more [] all = tt
locals_more parameters slots more (local ∷ locals) all =
    let is = all.0 in
    let typed = is.0 in
    (((typed.0, typed.1, known_more slots more local.slot typed.0 typed.2), is.1), locals_more parameters slots more locals all.1)

all_behind : {A : Type 0} (P : A → Type 0) (xs : List A) (x : A) → AllByRecursion P xs → P x → AllByRecursion P (xs ++ x ∷ [])
all_behind P [] x all is = (is, tt)
all_behind P (y ∷ ys) x all is = (all.0, all_behind P ys x all.1 is)

-- what a statement gives: the scope behind it, with which that of the text goes along
pub record Passes (parameters : ℕ) (scope after : BodyScope) (slots : Scope) (answer : Option Scope) : Type 0 where
  pub behind_it : Scope
  pub is : answer ≡ Some behind_it
  pub follows : Follows parameters after behind_it
  pub more : List LocalSymbol
  pub extends : after.known.values ≡ scope.known.values ++ more
  pub rises : length slots ≤ length behind_it

appended_none : {A : Type 0} (xs : List A) → xs ≡ xs ++ []
appended_none {A = A} [] = refl
appended_none {A = A} (x ∷ xs) = ap (λ (ys : List A). x ∷ ys) (appended_none xs)

-- a statement that makes no local
pub stays : (parameters : ℕ) (scope : BodyScope) (slots : Scope) (answer : Option Scope) → Follows parameters scope slots → answer ≡ Some slots → Passes parameters scope scope slots answer
stays parameters scope slots answer follows is =
    record { behind_it = slots; is = is; follows = follows; more = []; extends = appended_none scope.known.values; rises = omega arith }

-- one statement behind another
pub and_then : (parameters : ℕ) (scope middle after : BodyScope) (slots : Scope) (first : Option Scope) (next : Scope → Option Scope) → (one : Passes parameters scope middle slots first)
    → Passes parameters middle after one.behind_it (next one.behind_it) → Passes parameters scope after slots (option_and_then next first)
and_then parameters scope middle after slots first next one two =
    record {
      behind_it = two.behind_it;
      is = ap (option_and_then next) one.is ∙ two.is;
      follows = two.follows;
      more = one.more ++ two.more;
      extends = two.extends ∙ ap (λ (front : List LocalSymbol). front ++ two.more) one.extends ∙ append_assoc scope.known.values one.more two.more;
      rises = omega (arith, one.rises, two.rises);
    }

-- ---- a new local

module _ (parameters : ℕ) (scope : BodyScope) (slots : Scope) (name : List ℕ) (kind : Kind) (is_parameter : Bool) where
  abbrev new_local : LocalSymbol
  new_local = record { slot = scope.count; kind = Some kind; is_parameter = is_parameter }

  abbrev with_one : Bool → NameTable LocalSymbol → NameTable LocalSymbol
  with_one among table = record { names = if among then table.names else table.names ++ name ∷ []; values = if among then table.values else table.values ++ new_local ∷ [] }

  record IsWith (table : NameTable LocalSymbol) : Type 0 where
    aligned : length table.names ≡ length table.values
    locals : AllByRecursion (IsKnown parameters (slots ++ Some kind ∷ [])) table.values
    more : List LocalSymbol
    extends : table.values ≡ scope.known.values ++ more

  with_is : Follows parameters scope slots → (is_parameter ≡ false → parameters ≤ scope.count) → (among : Bool) → IsWith (with_one among scope.known)
  with_is follows free true =
      record { aligned = follows.aligned; locals = locals_more parameters slots (Some kind ∷ []) scope.known.values follows.locals; more = []; extends = appended_none scope.known.values }
  with_is follows free false =
      let names = length-append scope.known.names (name ∷ []) in
      let values = length-append scope.known.values (new_local ∷ []) in
      record {
        aligned = omega (arith, names, values, follows.aligned);
        locals = all_behind _ scope.known.values new_local (locals_more parameters slots (Some kind ∷ []) scope.known.values follows.locals)
            ((kind, refl, subst (λ (slot : ℕ). known (slots ++ Some kind ∷ []) slot ≡ Some kind) (sym follows.count) (known_last slots kind)), free);
        more = new_local ∷ [];
        extends = refl;
      }

  next_is : scope.count < local_limit → next_slot scope.count ≡ scope.count + 1
  next_is few = go (nat_lt scope.count 65535) refl
    where
      go : (b : Bool) → nat_lt scope.count 65535 ≡ b → (if b then scope.count + 1 else scope.count) ≡ scope.count + 1
      go true e = refl
      go false e = absurd (grind (arith, nat_tests))

  pub declared_follows : Follows parameters scope slots → scope.count < local_limit → (is_parameter ≡ false → parameters ≤ scope.count)
      → Follows parameters (with_new_local scope name (Some kind) is_parameter) (slots ++ Some kind ∷ [])
  declared_follows follows few free =
      let added = with_is follows free (is_name_among name scope.known.names) in
      let long = length-append slots (Some kind ∷ []) in
      let next = next_is few in
      record { count = omega (arith, long, next, follows.count); few = omega (arith, next, few); aligned = added.aligned; locals = added.locals }

  -- the scope with a new local
  pub declared : Follows parameters scope slots → scope.count < local_limit → (is_parameter ≡ false → parameters ≤ scope.count)
      → Passes parameters scope (with_new_local scope name (Some kind) is_parameter) slots (Some (slots ++ Some kind ∷ []))
  declared follows few free =
      let added = with_is follows free (is_name_among name scope.known.names) in
      let long = length-append slots (Some kind ∷ []) in
      record {
        behind_it = slots ++ Some kind ∷ [];
        is = refl;
        follows = declared_follows follows few free;
        more = added.more;
        extends = added.extends;
        rises = omega (arith, long);
      }

-- a `let` takes the next slot
pub next_local : (scope : BodyScope) (slots : Scope) (kind : Kind) → scope.count ≡ length slots → with_local scope.count (Some kind) slots ≡ Some (slots ++ Some kind ∷ [])
next_local scope slots kind e = go (nat_eq scope.count (length slots)) refl
  where
    go : (b : Bool) → nat_eq scope.count (length slots) ≡ b → (if b then Some (slots ++ Some kind ∷ []) else None) ≡ Some (slots ++ Some kind ∷ [])
    go true h = refl
    go false h = absurd (grind (arith, nat_tests))

-- ---- blocks

-- behind the braces of a block its locals are no longer known
pub braces_left : (parameters : ℕ) (scope inner : BodyScope) (slots : Scope) (answer : Option Scope) → Follows parameters scope slots → Passes parameters scope inner slots answer
    → Passes parameters scope (block_left scope inner) slots (option_and_then (λ last. Some (behind slots last)) answer)
braces_left parameters scope inner slots answer follows passes =
    let last = passes.behind_it in
    let inside = passes.follows in
    let spare : Scope = replicate (length last - length slots) None in
    let many = length-append scope.known.values passes.more in
    let all_many = ap length passes.extends in
    let names = length-take (length scope.known.names) inner.known.names in
    let values = length-take (length scope.known.names) inner.known.values in
    let kept : take (length scope.known.names) inner.known.values ≡ scope.known.values =
    ap (take (length scope.known.names)) passes.extends ∙ take_at scope.known.values passes.more (length scope.known.names) (sym follows.aligned) in
    let long = length-append slots spare in
    let nothing : Option Kind = None in
    let padded = length-replicate (length last - length slots) nothing in
    record {
      behind_it = behind slots last;
      is = ap (option_and_then (λ inner_slots. Some (behind slots inner_slots))) passes.is;
      follows = record {
        count = omega (arith, inside.count, passes.rises, long, padded);
        few = inside.few;
        aligned = omega (arith, names, values, inside.aligned);
        locals = subst (AllByRecursion (IsKnown parameters (behind slots last))) (sym kept) (locals_more parameters slots spare scope.known.values follows.locals);
      };
      more = [];
      extends = kept ∙ appended_none scope.known.values;
      rises = omega (arith, long);
    }
