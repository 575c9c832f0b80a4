-- Bytes that stand as double-words, the lowest byte first.
use Rattle.std.specs.Prelude.{ℕ, ◌+◌, ◌-◌, ◌*◌, ◌/◌, ◌%◌, Bool, ◌&&◌, List, length, Some, None, ◌==◌, if◌then◌else◌, nat_le, slice_index, slice_set}
use Rattle.physical.specs.Stores.{Values}
use Rattle.physical.specs.Checks.{range_rule}

-- the double-word whose lowest byte is the one at i
abbrev pub dword_at : List ℕ → ℕ → ℕ
dword_at bs i = slice_index bs i + slice_index bs (i + 1) * 256 + slice_index bs (i + 2) * 65536 + slice_index bs (i + 3) * 16777216

-- the bytes once the four from i on are those of v
abbrev pub stored : List ℕ → ℕ → ℕ → List ℕ
stored bs i v = slice_set (slice_set (slice_set (slice_set bs i (v % 256)) (i + 1) (v / 256 % 256)) (i + 2) (v / 65536 % 256)) (i + 3) (v / 16777216 % 256)

-- the double-word q lies wholly within n bytes from the address start on
abbrev pub covers : ℕ → ℕ → ℕ → Bool
covers start n q = nat_le start (q * 4) && nat_le (q * 4 + 4) (start + n)

-- a store that is absent everywhere
abbrev pub absent : Values
absent q = None

-- the double-words of bs, the first byte of which has the address start
abbrev pub laid : ℕ → List ℕ → Values
laid start bs q = if covers start (length bs) q then Some (dword_at bs (q * 4 - start)) else None

-- the same where the check passes the start and the length, and nothing where it does not
abbrev pub laid_checked : ℕ → List ℕ → Values
laid_checked start bs = if range_rule start (length bs) == 0 then laid start bs else absent
