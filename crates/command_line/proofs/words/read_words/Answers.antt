use Rattle.std.proofs.Common.{◌≡◌, Bool, true, false, ap, ◌∙◌}
use Rattle.command_line.specs.Commands.{requested}
use Rattle.command_line.proofs.AsWritten.{refused_when, taken_as_written}
use Rattle.command_line.proofs.words.read_words.Goals as goal

not_both : (t : Bool) → t ≡ true → t ≡ false → ⊥
not_both true is not = absurd cc
not_both false is not = absurd cc

pub returns-in-Ok-clause-exact : goal.returns-in-Ok-clause-exact
returns-in-Ok-clause-exact c = c.invocation.ensures.exact ∙ ap requested c.in-Ok.ensures.given ∙ taken_as_written _ c.in-Ok.ensures.taken

pub returns-in-Err-2-clause-exact : goal.returns-in-Err-2-clause-exact
returns-in-Err-2-clause-exact c = refused_when _ (λ taken.
    let memory = rw (c.kind.ensures ∙ c.in-Err.ensures.refused taken) at c.eq.ensures in
    not_both c.eq.result memory c.if-eq.false)
