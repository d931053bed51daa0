-- With what a bench simulates: a bound and a number of pieces that are within what is allowed.
use Rattle.std.specs.Prelude.{◌≤◌}
use Rattle.aerie_base.specs.Ranges.{step_limit}
use Rattle.bench.specs.declared.simulating.BenchSetting.{BenchSetting}

pub record IsSetting (setting : BenchSetting) : Type 0 where
  pub bound : setting.bound ≤ step_limit
  pub some : 1 ≤ setting.pieces
  pub few : setting.pieces ≤ 64
