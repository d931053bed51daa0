-- A file of lemmas: what it proves need not be read to trust a clause.
--
-- How far the steps rise in a command that tells how far they do.
use Rattle.std.proofs.Common.{◌≡◌, refl, sym, ℕ, ◌+◌, ◌-◌, true, false, true≢false, arith}
use Rattle.commands.specs.declared.commands.Command.{Command}
use Rattle.commands.specs.declared.commands.Command.TheVariants.{New, Fork, Drop, Edit, Migrate, Show, Simulate, Schedule, Merge, Expand}
use Rattle.client_work.specs.Counts.{IsRise, simulates, tells_its_steps}
use Rattle.client_work.specs.Working.{IsCount}

-- the rise of a command by its count
pub record RiseOf (command : Command) (statements before after : ℕ) : Type 0 where
  pub rise : ℕ
  pub counted : IsRise command statements rise
  pub risen : tells_its_steps command ≡ true → (simulates command ≡ false → after ≡ before) → after ≡ before + rise

pub rise_of : (command : Command) (statements before after : ℕ) → IsCount command statements before after → RiseOf command statements before after
rise_of (New branch) statements before after none = record { rise = 0; counted = refl; risen = λ tells still. let same = still refl in omega (arith, same) }
rise_of (Fork branch source) statements before after none = record { rise = 0; counted = refl; risen = λ tells still. let same = still refl in omega (arith, same) }
rise_of (Drop branch) statements before after none = record { rise = 0; counted = refl; risen = λ tells still. let same = still refl in omega (arith, same) }
rise_of (Edit branch edit) statements before after none = record { rise = 0; counted = refl; risen = λ tells still. let same = still refl in omega (arith, same) }
rise_of (Migrate branch model) statements before after none = record { rise = 0; counted = refl; risen = λ tells still. let same = still refl in omega (arith, same) }
rise_of (Show branch) statements before after none = record { rise = 0; counted = refl; risen = λ tells still. let same = still refl in omega (arith, same) }
rise_of (Merge target source base) statements before after none = record { rise = 0; counted = refl; risen = λ tells still. let same = still refl in omega (arith, same) }
rise_of (Schedule branch) statements before after none = record { rise = 0; counted = refl; risen = λ tells still. absurd (true≢false (sym tells)) }
rise_of (Expand branch) statements before after none = record { rise = 0; counted = refl; risen = λ tells still. absurd (true≢false (sym tells)) }
rise_of (Simulate branch) statements before after rose =
    let whole : after ≡ before + (after - before) = omega (arith, rose.0) in
    let capped = rose.1 (after - before) whole in
    record { rise = after - before; counted = omega (arith, capped); risen = λ tells still. whole }
