use Rattle.std.proofs.Common.{arith}
use Rattle.span_table.proofs.ByNumber.{ends_alone, ends_with_maker, made_before}
use Rattle.span_table.proofs.Stops.{have_still}
use Rattle.span_table.proofs.known_tasks.+put_ending.Goals as goal

pub returns-in_default : goal.returns-in_default
returns-in_default n c = λ linked have path at. ends_alone c.args.number c.args.ending.now _ _ _ c.put_own_ending.ensures linked path at.0 at.1 c.in_default.not-Some

pub returns-then-above-number : goal.returns-then-above-number
returns-then-above-number n c = λ linked have path at.
    ends_with_maker c.args.number c.args.ending.now _ _ _ c.put_own_ending.ensures linked path at.0 at.1 c.in-Some.above c.in-Some.is _
    (λ more. c.put_ending.ensures more (have_still c.args.number c.args.ending.now _ _ _ at.0 path c.put_own_ending.ensures at.1 c.args.stop have))

pub returns-else-above-number : goal.returns-else-above-number
returns-else-above-number n c = λ linked have path at.
    let before = made_before c.args.number c.args.ending.now _ _ _ c.put_own_ending.ensures linked path at.0 at.1 c.in-Some.above c.in-Some.is in
    let not_before = c.if-above-number.false in
    absurd (omega (arith, before, not_before))
