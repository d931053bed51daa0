use Rattle.std.proofs.Common.{ℕ, Option, IfOk, ap, subst, ◌∙◌}
use Rattle.model_check.specs.declared.symbols.TypeSymbol.{TypeSymbol}
use Rattle.model_check.specs.Diagnostics.{noted, Makes}
use Rattle.model_check.specs.Invokes.{invoke_diagnostics, invoked_diagnostics, invoke_arguments, invoked_arguments, values_diagnostics}
use Rattle.model_check.proofs.invokes.arguments.Goals as goal

pub returns-in_ok-note_values-in-None : goal.returns-in_ok-note_values-in-None
unfolding invoke_diagnostics invoke_arguments
returns-in_ok-note_values-in-None c =
    let symbols = c.args.symbols.now in
    let scope = c.args.scope.now in (
      c.new.ensures ∙ ap (invoked_arguments symbols scope c.args.invoke.now) c.in-None.ensures,
      c.in_ok-note_values-in-None.ensures
          ∙ ((λ i. noted (c.note.ensures i) (values_diagnostics symbols scope (c.as_slice.ensures i)))
          ∙ ap (λ (entry : Option (ℕ × TypeSymbol)). noted c.args.found.now (invoked_diagnostics symbols scope c.args.invoke.now entry)) c.in-None.ensures),
    )

pub returns-in-Some : goal.returns-in-Some
unfolding invoke_diagnostics invoke_arguments
returns-in-Some c =
    let symbols = c.args.symbols.now in
    let scope = c.args.scope.now in
    subst
    (λ (entry : Option (ℕ × TypeSymbol)). IfOk c.known_arguments.result (Makes (invoked_arguments symbols scope c.args.invoke.now entry) (invoked_diagnostics symbols scope c.args.invoke.now entry) c.args.found.now c.known_arguments.new.found))
    c.in-Some.ensures
    c.known_arguments.ensures
