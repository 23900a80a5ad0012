-- Every row of the table is as it says, by computing it.
use mathlib.Core.Path.{◌≡◌, refl}
use mathlib.Core.Bool.{true}
use Rattle.light.specs.Light.{dimmed}
use Rattle.light.specs.Examples.{rows, all_seen}

pub all_seen_lem : all_seen rows ≡ true
unfolding rows dimmed
all_seen_lem = refl
