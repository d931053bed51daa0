-- A shared value that is lent to be changed, where it has one owner.
use Rattle.std.specs.Prelude.{Option}
use Rattle.std.specs.Borrow.{LendsIf, MutBor, Fml}
use denote.RattleType.{RattleType}
use Rattle.aerie_base.specs.contracts.containers.shared.Shared.{the_row}

-- the shared value ends as what is left behind the reference, and stays as it was where there is none
abbrev pub shared_lends : (T : RattleType) → MutBor T.Denot → Option (MutBor T.Denot) → Fml
shared_lends T shared lent = LendsIf (the_row T) T shared lent (λ left. left) shared.now
