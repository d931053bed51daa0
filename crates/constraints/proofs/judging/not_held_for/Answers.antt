-- What was evaluated for all spans is of this window.
use Rattle.constraints.specs.OverSources.{IsPrepared}
use Rattle.constraints.specs.declared.judging.Prepared.TheVariants.{Near, Twice}
use Rattle.constraints.proofs.judging.not_held_for.Goals as goal

pub spliced-requires-clause-near : goal.spliced-requires-clause-near
spliced-requires-clause-near c =
    let is : IsPrepared c.args.sources.now c.args.window.now (Twice c.in-Twice.outside c.in-Twice.inside) = rw c.in-Twice.is at c.requires.prepared in is.0

pub spliced-requires-clause-outside : goal.spliced-requires-clause-outside
spliced-requires-clause-outside c =
    let is : IsPrepared c.args.sources.now c.args.window.now (Twice c.in-Twice.outside c.in-Twice.inside) = rw c.in-Twice.is at c.requires.prepared in is.1

pub spliced-requires-clause-inside : goal.spliced-requires-clause-inside
spliced-requires-clause-inside c =
    let is : IsPrepared c.args.sources.now c.args.window.now (Twice c.in-Twice.outside c.in-Twice.inside) = rw c.in-Twice.is at c.requires.prepared in is.2

pub patched-requires-clause-below : goal.patched-requires-clause-below
patched-requires-clause-below c =
    let is : IsPrepared c.args.sources.now c.args.window.now (Near c.in-Near.parts c.in-Near.outside c.in-Near.margin) = rw c.in-Near.is at c.requires.prepared in is.0

pub patched-requires-clause-holds : goal.patched-requires-clause-holds
patched-requires-clause-holds c =
    let is : IsPrepared c.args.sources.now c.args.window.now (Near c.in-Near.parts c.in-Near.outside c.in-Near.margin) = rw c.in-Near.is at c.requires.prepared in is.1

pub patched-requires-clause-outside : goal.patched-requires-clause-outside
patched-requires-clause-outside c =
    let is : IsPrepared c.args.sources.now c.args.window.now (Near c.in-Near.parts c.in-Near.outside c.in-Near.margin) = rw c.in-Near.is at c.requires.prepared in is.2

pub patched-requires-clause-margin : goal.patched-requires-clause-margin
patched-requires-clause-margin c =
    let is : IsPrepared c.args.sources.now c.args.window.now (Near c.in-Near.parts c.in-Near.outside c.in-Near.margin) = rw c.in-Near.is at c.requires.prepared in is.3
