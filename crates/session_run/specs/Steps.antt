-- How far the steps rise in a session whose clients go in rounds.
use Rattle.std.specs.Prelude.{◌≡◌, ℕ, suc, ◌+◌, true, List, [], ◌∷◌}
use Rattle.std.specs.List.{AllByRecursion}
use Rattle.commands.specs.declared.commands.Command.{Command}
use Rattle.session_reader.specs.declared.session.Client.{Client}
use Rattle.client_work.specs.Counts.{IsRise, tells_its_steps}

-- no command but those that tell how far they raise the steps does
abbrev pub TellTheirSteps : List (List Command) → Type 0
TellTheirSteps commands = AllByRecursion (AllByRecursion (λ command. tells_its_steps command ≡ true)) commands

-- numbers, added up
abbrev pub together : List ℕ → ℕ
together [] = 0
together (number ∷ numbers) = number + together numbers

-- so far they rise in a client's commands together
abbrev pub risen_in : (ℕ → ℕ) → List Command → ℕ
risen_in rises [] = 0
risen_in rises (command ∷ commands) = rises 0 + risen_in (λ later. rises (suc later)) commands

-- and in those of all clients
abbrev pub risen_in_all : (ℕ → ℕ → ℕ) → List Client → ℕ
risen_in_all rises [] = 0
risen_in_all rises (client ∷ clients) = risen_in (rises 0) client.commands + risen_in_all (λ later. rises (suc later)) clients

-- each count of a simulation is how far the steps rose in it, or the last one of 64 bits where that is more
abbrev pub AreRises : (ℕ → ℕ) → (ℕ → ℕ) → List Command → Type 0
AreRises counts rises [] = Unit {0}
AreRises counts rises (command ∷ commands) = IsRise command (counts 0) (rises 0) × AreRises (λ later. counts (suc later)) (λ later. rises (suc later)) commands

abbrev pub AreAllRises : (ℕ → ℕ → ℕ) → (ℕ → ℕ → ℕ) → List Client → Type 0
AreAllRises counts rises [] = Unit {0}
AreAllRises counts rises (client ∷ clients) =
    AreRises (counts 0) (rises 0) client.commands × AreAllRises (λ later. counts (suc later)) (λ later. rises (suc later)) clients
