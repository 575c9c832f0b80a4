-- Bus transfers: of an aligned double-word, at a physical address, serving a virtual one.
use Rattle.std.specs.Prelude.{ℕ, ◌%◌, Bool, not, Ok, Err, Result, if◌then◌else◌, ◌==◌, nat_le}
use Rattle.entry.specs.Bus.{merged}
use Rattle.physical.specs.Stores.{Writable, WriteOutcome, dword, read_answer, write_answer, written}
use Rattle.physical.specs.declared.MemoryError.{MemoryError}
use Rattle.model.specs.declared.refusal.Refusal.{Refusal}
use Rattle.model.specs.declared.refusal.Refusal.TheVariants.{MisalignedTransfer, BadMask, BusError}
use Rattle.model.specs.Refusals.{bus_error_noted}
use Rattle.model.specs.States.{Effect, State, answered, only_answers}
use Rattle.model.specs.Tlb.{rest}

-- a transfer takes a whole double-word
abbrev pub is_aligned : ℕ → Bool
is_aligned physical = physical % 4 == 0

-- a mask has a bit for each of four bytes
abbrev pub is_mask : ℕ → Bool
is_mask mask = nat_le mask 15

-- the memory refused: that is noted in the registers
abbrev pub bus_error : {A : Type 0} → ℕ → ℕ → MemoryError → State → Effect (Result A Refusal)
bus_error physical address e s = record {
  outcome = answered (Err (BusError physical e)) (bus_error_noted address s.registers) s.values;
  action = rest;
}

abbrev pub transferred : ℕ → ℕ → Result ℕ MemoryError → State → Effect (Result ℕ Refusal)
transferred physical address (Ok v) s = only_answers (Ok v) s
transferred physical address (Err e) s = bus_error physical address e s

abbrev pub bus_read : ℕ → ℕ → State → Effect (Result ℕ Refusal)
bus_read physical address s =
    if not (is_aligned physical) then only_answers (Err MisalignedTransfer) s
    else transferred physical address (read_answer (s.values (dword physical))) s

-- the double-word u is written, or refused
abbrev pub put_transferred : ℕ → ℕ → ℕ → WriteOutcome → State → Writable → Effect (Result (Unit {0}) Refusal)
put_transferred physical address u (Ok _) s w = record { outcome = answered (Ok tt) s.registers (written s.values w (dword physical) u); action = rest }
put_transferred physical address u (Err e) s w = bus_error physical address e s

-- into what was read there the chosen bytes are merged, and the whole is written
abbrev pub merge_transferred : ℕ → ℕ → ℕ → ℕ → Result ℕ MemoryError → State → Writable → Effect (Result (Unit {0}) Refusal)
merge_transferred physical address mask v (Ok old) s w =
    put_transferred physical address (merged old v mask) (write_answer (s.values (dword physical)) (w (dword physical))) s w
merge_transferred physical address mask v (Err e) s w = bus_error physical address e s

abbrev pub bus_write : ℕ → ℕ → ℕ → ℕ → State → Writable → Effect (Result (Unit {0}) Refusal)
bus_write physical address mask v s w =
    if not (is_aligned physical) then only_answers (Err MisalignedTransfer) s
    else if not (is_mask mask) then only_answers (Err BadMask) s
    else merge_transferred physical address mask v (read_answer (s.values (dword physical))) s w
