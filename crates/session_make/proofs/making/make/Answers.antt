-- The lines follow one another, and the last of them is behind as many as are wanted.
use Rattle.std.proofs.Common.{◌≡◌, ◌≤◌, ◌*◌, ◌++◌, ℕ, append_assoc, arith, ◌∙◌, ap}
use Rattle.std.proofs.Math.Nat.{div-le_self}
use Rattle.std.proofs.lemmas.Nat.{mul-le}
use Rattle.session_make.specs.Sessions.{head, tail, week, directive, directives}
use Rattle.session_make.proofs.Lines.{one_more}
use Rattle.session_make.proofs.making.make.Goals as goal

-- a position below 20,000, times at most a week, is a number of 64 bits
pub push_directive-requires : goal.push_directive-requires
push_directive-requires c =
    let spacing : ℕ = c.spacing_of-spacing.result in
    let least : spacing ≤ week = omega (arith, c.spacing_of-spacing.ensures, div-le_self week c.args.number) in
    let most : c.loop-position.position * spacing ≤ 20_000 * week =
    mul-le c.loop-position.position spacing 20_000 week (omega (arith, c.loop-position-test.true, c.from-position-end.ensures, c.requires.most)) least in
    omega (arith, most)

pub loop-position-preserved : goal.loop-position-preserved
loop-position-preserved c =
    let spacing : ℕ = c.spacing_of-spacing.result in
    c.in_ok-push_directive.ensures
    ∙ ap (λ text. text ++ directive spacing c.loop-position.position) c.loop-position.invariant
    ∙ one_more spacing c.loop-position.position

pub returns : goal.returns
returns c =
    let spacing : ℕ = c.spacing_of-spacing.result in
    let all : c.loop-position.position ≡ c.args.number = omega (arith, c.loop-position-test.false, c.loop-position.auto.position-end, c.from-position-end.ensures) in
    c.in_ok-push_str.ensures.bytes
    ∙ ap (λ text. text ++ tail) c.loop-position.invariant
    ∙ append_assoc head (directives spacing c.loop-position.position) tail
    ∙ ap (λ n. head ++ directives spacing n ++ tail) all
    ∙ ap (λ s. head ++ directives s c.args.number ++ tail) c.spacing_of-spacing.ensures
