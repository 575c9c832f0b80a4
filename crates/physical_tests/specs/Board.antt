-- What a board that is implemented elsewhere holds: an identification that can only be read, one register, and nothing else.
use Rattle.std.specs.Prelude.{if◌then◌else◌, Some, None, ◌==◌}
use Rattle.physical.specs.Stores.{Values, Writable}
use Rattle.physical_tests.specs.declared.board.Board.{Board}

abbrev pub board_values : Board → Values
board_values b q = if q == 1024 then Some 0x32382 else if q == 1026 then Some b.register else None

abbrev pub board_writable : Board → Writable
board_writable b q = q == 1026
