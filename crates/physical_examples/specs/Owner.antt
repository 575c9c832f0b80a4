-- What the owner of lent bytes has after writes through a RAM over them.
use Rattle.std.specs.Prelude.{ℕ, ◌-◌, ◌*◌, if◌then◌else◌, List, is_some}
use Rattle.physical.specs.Bytes.{laid_checked, stored}
use Rattle.physical.specs.Stores.{dword}

-- the four bytes of the double-word at the address where it is present, and all others as they were
abbrev pub poked : ℕ → List ℕ → ℕ → ℕ → List ℕ
poked start bs address v = if is_some (laid_checked start bs (dword address)) then stored bs (dword address * 4 - start) v else bs
