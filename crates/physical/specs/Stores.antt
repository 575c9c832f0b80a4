-- What a readable store and a memory hold, double-word by double-word.
use Rattle.std.specs.Prelude.{ℕ, ◌/◌, ◌%◌, Bool, true, false, List, codes, Some, None, Ok, Err, Option, Result, ◌==◌, if◌then◌else◌}
use Rattle.physical.specs.declared.MemoryError.{MemoryError}
use Rattle.physical.specs.declared.MemoryError.TheVariants.{Absent, ReadOnly}

-- the number of the double-word that an address names, one of 2^30: bits 0 and 1 do not count
abbrev pub dword : ℕ → ℕ
dword address = address / 4 % 1073741824

-- what a readable store holds: for each double-word a value, or None where it is absent
abbrev pub Values : Type 0
Values = ℕ → Option ℕ

-- which double-words of a memory can be written, if they are present
abbrev pub Writable : Type 0
Writable = ℕ → Bool

-- the number of each reason for which a memory refuses
abbrev pub reason_number : MemoryError → ℕ
reason_number Absent = 1
reason_number ReadOnly = 2

-- the words for each reason
abbrev pub memory_error_text : MemoryError → List ℕ
memory_error_text Absent = codes "absent"
memory_error_text ReadOnly = codes "read-only"

-- what a read of a double-word answers
abbrev pub read_answer : Option ℕ → Result ℕ MemoryError
read_answer None = Err Absent
read_answer (Some v) = Ok v

abbrev pub WriteOutcome : Type 0
WriteOutcome = Result (Unit {0}) MemoryError

-- what a write of a double-word answers, by what stands there and whether it can be written
abbrev pub write_answer : Option ℕ → Bool → WriteOutcome
write_answer None w = Err Absent
write_answer (Some v) true = Ok tt
write_answer (Some v) false = Err ReadOnly

-- what a write of v leaves of the double-word itself
abbrev pub replaced : ℕ → Option ℕ → Bool → Option ℕ
replaced v None w = None
replaced v (Some u) true = Some v
replaced v (Some u) false = Some u

-- what a write of v to the double-word k leaves of all
abbrev pub written : Values → Writable → ℕ → ℕ → Values
written m w k v q = if q == k then replaced v (m q) (w q) else m q
