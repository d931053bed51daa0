-- Worked cases: how far the steps rise in a session of two clients.
use Rattle.std.specs.Prelude.{◌≡◌, ℕ, zero, suc, List, [], ◌∷◌, refl}
use Rattle.commands.specs.declared.commands.Command.{Command}
use Rattle.commands.specs.declared.commands.Command.TheVariants.{Show, Simulate, Schedule}
use Rattle.session_reader.specs.declared.session.Client.{Client}
use Rattle.session_run.specs.Steps.{TellTheirSteps, together, risen_in, risen_in_all, AreAllRises}

-- by seven in the first client's first command, by five in the other client's, and by nothing in any later one
abbrev pub rises : ℕ → ℕ → ℕ
rises client (suc command) = 0
rises zero zero = 7
rises (suc client) zero = 5

module _ (one other branch : List ℕ) where
  abbrev pub first_commands : List Command
  first_commands = Simulate branch ∷ Show branch ∷ []

  abbrev pub two_clients : List Client
  two_clients = record { name = one; commands = first_commands } ∷ record { name = other; commands = Simulate branch ∷ [] } ∷ []

  pub the_first_client_raises_them_by_seven : risen_in (rises 0) first_commands ≡ 7
  the_first_client_raises_them_by_seven = refl

  pub both_raise_them_by_twelve : risen_in_all rises two_clients ≡ 12
  both_raise_them_by_twelve = refl

  pub that_is_the_sum_of_what_is_told : risen_in_all rises two_clients ≡ together (7 ∷ 5 ∷ [])
  that_is_the_sum_of_what_is_told = refl
