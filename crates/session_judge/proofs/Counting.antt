-- Few clients with few commands each have few commands in all.
use Rattle.std.proofs.Common.{◌≡◌, ℕ, suc, ◌+◌, ◌*◌, ◌<◌, ◌≤◌, List, [], ◌∷◌, length, get_or, drop, drop-cons, add-one, ap, sym, ◌∙◌, arith}
use Rattle.std.specs.List.{AllByRecursion}
use Rattle.session_reader.specs.declared.session.Client.{Client}
use Rattle.session_judge.specs.Accepted.{command_count}

by_clients : (clients : List Client) → AllByRecursion (λ client. length client.commands ≤ 4_096) clients → command_count clients ≤ 4_096 * length clients
by_clients [] few = omega arith
by_clients (client ∷ clients) few = omega (arith, few.0, by_clients clients few.1)

pub few_commands : (clients : List Client) → length clients ≤ 16 → AllByRecursion (λ client. length client.commands ≤ 4_096) clients → command_count clients ≤ 65_536
few_commands clients most few = omega (arith, most, by_clients clients few)

-- the commands of one client more
pub one_more_client : (clients : List Client) (i : ℕ) (client : Client) → i < length clients → client ≡ get_or clients i client
    → command_count (drop i clients) ≡ length client.commands + command_count (drop (i + 1) clients)
one_more_client clients i client within is =
    ap command_count (drop-cons clients i client within ∙ ap (λ (x : Client). x ∷ drop (suc i) clients) (sym is)) ∙ ap (λ (n : ℕ). length client.commands + command_count (drop n clients)) (sym (add-one i))
