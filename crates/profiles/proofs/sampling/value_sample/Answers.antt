use Rattle.std.proofs.Common.{Option, pos, ap, unwrap_or}
use Rattle.aerie_base.specs.declared.values.Value.{Value}
use Rattle.aerie_base.specs.declared.values.Value.TheVariants.{Int}
use Rattle.profiles.specs.declared.sampling.Sample.TheVariants as sample
use Rattle.profiles.proofs.sampling.value_sample.Goals as goal

pub returns : goal.returns
returns c = ap (λ (o : Option Value). sample.Value (unwrap_or o (Int (pos 0)))) c.value_before-value.ensures
