-- Answers that ask for memory, and directives that a plan can hold.
use Rattle.std.specs.Prelude.{◌≡◌, ℕ, ◌<◌, ◌^◌, List, Result, Ok, Err, IfSome, length, get_or}
use Rattle.aerie_base.specs.declared.plans.Directive.{Directive}
use Rattle.aerie_base.specs.plans.OfModel.{anchored_to}
use Rattle.plan_merge.specs.declared.answers.MergeError.{MergeError}
use Rattle.plan_merge.specs.declared.answers.MergeError.TheVariants.{Conflicts, TooMany, OutOfMemory}

-- this is the answer, unless memory ran out
abbrev pub UnlessOutOfMemory : {A : Type 0} → Result A MergeError → Result A MergeError → Type 0
UnlessOutOfMemory answer (Ok part) = answer ≡ Ok part
UnlessOutOfMemory answer (Err TooMany) = answer ≡ Err TooMany
UnlessOutOfMemory answer (Err (Conflicts conflicts)) = answer ≡ Err (Conflicts conflicts)
UnlessOutOfMemory answer (Err OutOfMemory) = Unit {0}

-- a directive whose id, and that of its anchor, a plan can hold
pub record HasSmallIds (directive : Directive) : Type 0 where
  pub id : directive.id < 2 ^ 32
  pub anchor : IfSome (anchored_to directive) (λ to. to < 2 ^ 32)

abbrev pub HaveSmallIds : List Directive → Type 0
HaveSmallIds directives = (at : ℕ) (other : Directive) → at < length directives → HasSmallIds (get_or directives at other)
