use Rattle.std.proofs.Common.{List, None, replicate, length, ap, sym, subst, ◌∙◌}
use Rattle.model_check.specs.declared.symbols.ParameterSymbol.{ParameterSymbol}
use Rattle.model_check.specs.Diagnostics.{noted, Makes}
use Rattle.model_check.specs.GivenArguments.{given_with_all, arguments_found, filled_values, missing_found}
use Rattle.model_check.specs.Invokes.{NamedArgument}
use Rattle.model_check.proofs.Arguments.{AreGiven, given_in_all, known_made}
use Rattle.model_check.proofs.Results.{if_ok}
use Rattle.model_check.proofs.invokes.known_arguments.Goals as goal

pub fill-requires : goal.fill-requires
fill-requires c =
    let symbols = c.args.symbols.now in
    let scope = c.args.scope.now in
    let parameters = c.args.parameters.now in
    let are : AreGiven symbols scope parameters c.args.invoke.now.arguments c.each_argument.new.given.items =
    given_in_all symbols scope parameters c.args.invoke.now.arguments c.in_ok-given.given.items c.each_argument.new.given.items
    (c.in_ok-given.ensures ∙ ap (λ (n : _). replicate n None) c.len.ensures)
    (c.in_ok-each_argument.ensures.0 ∙ ap (λ (xs : List NamedArgument). given_with_all symbols scope parameters c.in_ok-given.given.items xs) c.as_slice-arguments.ensures) in
    are.count ∙ ap (λ (xs : List ParameterSymbol). length xs) (sym c.as_slice.ensures)

pub returns : goal.returns
returns c =
    let symbols = c.args.symbols.now in
    let scope = c.args.scope.now in
    let parameters = c.args.parameters.now in
    let given = c.each_argument.new.given.items in
    if_ok c.fill.result _ _
    (λ made h. known_made symbols scope parameters c.args.invoke.now.name.at c.args.invoke.now.arguments c.in_ok-given.given.items given
    c.args.found.now c.each_argument.new.found c.fill.new.found made
    (c.in_ok-given.ensures ∙ ap (λ (n : _). replicate n None) c.len.ensures)
    (c.in_ok-each_argument.ensures.0 ∙ ap (λ (xs : List NamedArgument). given_with_all symbols scope parameters c.in_ok-given.given.items xs) c.as_slice-arguments.ensures)
    (c.in_ok-each_argument.ensures.1 ∙ ap (λ (xs : List NamedArgument). noted c.args.found.now (arguments_found symbols scope parameters c.in_ok-given.given.items xs)) c.as_slice-arguments.ensures)
    (subst (λ (ps : List ParameterSymbol). Makes (filled_values ps given) (missing_found c.args.invoke.now.name.at ps given) c.each_argument.new.found c.fill.new.found made) c.as_slice.ensures h))
    c.fill.ensures
