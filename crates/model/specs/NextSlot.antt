-- Which slot is filled next: in turn from 0, and 0 again after the last.
use Rattle.std.specs.Prelude.{ℕ, ◌+◌, ◌%◌}

abbrev pub slot_count : ℕ
slot_count = 32

-- what a new unit holds of it, the slot that is named by what is held, and what is held after a filling
abbrev pub first_next : ℕ
first_next = 0

abbrev pub named_slot : ℕ → ℕ
named_slot next = next % slot_count

abbrev pub next_after : ℕ → ℕ
next_after next = (next + 1) % slot_count
