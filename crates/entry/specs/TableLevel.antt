-- The levels of tables.
use Rattle.std.specs.Prelude.{ℕ}
use Rattle.entry.specs.declared.TableLevel.{TableLevel}
use Rattle.entry.specs.declared.TableLevel.TheVariants.{First, Second}

-- the level as a number
abbrev pub level_number : TableLevel → ℕ
level_number First = 1
level_number Second = 2
