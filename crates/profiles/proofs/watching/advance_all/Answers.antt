use Rattle.std.proofs.Common.{◌≡◌, List, length, map, sym, ap, subst, arith, ◌∙◌, All}
use Rattle.std.proofs.lemmas.List.{take_at}
use Rattle.profiles.specs.declared.watching.Watched.{Watched}
use Rattle.profiles.specs.Watching.{advanced, IsWatchable}
use Rattle.profiles.proofs.watching.advance_all.Goals as goal

pub advance-requires-clause-watched : goal.advance-requires-clause-watched
advance-requires-clause-watched c = subst (λ (w : List Watched). All IsWatchable w) (sym c.as_mut_slice.ensures.value) c.requires.watched

pub returns : goal.returns
returns c =
    let whole : length c.advance.new.watched ≡ c.args.watched.now.len = omega (arith, c.as_mut_slice.ensures.len, c.advance.auto.watched) in
    take_at c.advance.new.watched _ c.args.watched.now.len whole ∙ (c.advance.ensures ∙ ap (map (advanced c.args.dt c.args.changed.now)) c.as_mut_slice.ensures.value)
