-- The two places of a number that is kept twice, and the cells of a register's next setting.
use Rattle.std.specs.Prelude.{ℕ}
use Rattle.ob_base.specs.Layout.{Region, GenerationTwin, EpochTwin}
use Rattle.ob_schedule.specs.declared.want.Side.{Side}
use Rattle.ob_schedule.specs.declared.want.Side.TheVariants.{Even, Odd}
use Rattle.ob_schedule.specs.declared.want.Register.{Register}
use Rattle.ob_schedule.specs.declared.want.Register.TheVariants.{Generation, Epoch}

abbrev pub other : Side → Side
other Even = Odd
other Odd = Even

abbrev pub side_number : Side → ℕ
side_number Even = 0
side_number Odd = 1

abbrev pub register_region : Register → Region
register_region Generation = GenerationTwin
register_region Epoch = EpochTwin
