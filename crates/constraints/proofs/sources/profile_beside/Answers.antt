-- A copy of the known one is one of the resource.
use Rattle.std.proofs.Common.{◌≡◌, ℕ, Some, length, refl, slice_get, subst}
use Rattle.std.proofs.lemmas.Option.{slice_get_read}
use Rattle.constraints.proofs.Known.{known_is}
use Rattle.constraints.proofs.sources.profile_beside.Goals as goal

pub returns-in_ok-copy-in-Some : goal.returns-in_ok-copy-in-Some
returns-in_ok-copy-in-Some c =
    let known = c.args.known.now in
    let made = c.in-Some.made.now in
    let lookup = c.in-Some.ensures.lookup in
    let there : slice_get known c.from.result ≡ Some made = slice_get_read known (length known) c.from.result made refl lookup.3.0 (lookup.3.1 made) in
    known_is c.args.model.now c.args.run.now known c.args.number made _ c.requires.known (subst (λ (n : ℕ). slice_get known n ≡ Some made) c.from.ensures there) c.in_ok-copy-in-Some.ensures
