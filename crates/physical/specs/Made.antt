-- What the stores over lent bytes hold.
use Rattle.std.specs.Prelude.{ℕ, ◌-◌, ◌*◌, true, false, List, length, is_some, Some, None, Option, if◌then◌else◌}
use Rattle.std.specs.Result.{result_ok}
use Rattle.physical.specs.Stores.{Values, Writable, dword}
use Rattle.physical.specs.Loans.{Loans, laid_out, left_alone}
use Rattle.physical.specs.Bytes.{absent, laid, stored}
use Rattle.physical.specs.declared.ram.Ram.{Ram}
use Rattle.physical.specs.declared.rom.Rom.{Rom}
use Rattle.physical.specs.declared.dump.Dump.{Dump}

-- Below, the start of bytes is the address of the first, where the check passes it, and none where it does not.

-- the double-words of bytes from the start on
abbrev pub placed : Option ℕ → List ℕ → Values
placed None bs = absent
placed (Some start) bs = laid start bs

-- the bytes after a write: where the double-word is present its four, and all others as they were
abbrev pub placed_stored : Option ℕ → List ℕ → ℕ → ℕ → List ℕ
placed_stored None bs address v = bs
placed_stored (Some start) bs address v = if is_some (laid start bs (dword address)) then stored bs (dword address * 4 - start) v else bs

-- the loan of a slice, by its name and its bytes
abbrev pub placed_loan : Option ℕ → ℕ → List ℕ → Loans
placed_loan None name bs = left_alone name bs
placed_loan (Some start) name bs = laid_out name (length bs) start

-- every double-word can be written, and none
abbrev pub everywhere : Writable
everywhere q = true

abbrev pub nowhere : Writable
nowhere q = false

abbrev pub ram_values : Ram → Values
ram_values s = placed (result_ok s.start) s.bytes.now

abbrev pub ram_writable : Ram → Writable
ram_writable s = everywhere

abbrev pub ram_loans : Ram → Loans
ram_loans s = placed_loan (result_ok s.start) s.bytes.ghost_name s.bytes.now

abbrev pub ram_stored : Ram → ℕ → ℕ → List ℕ
ram_stored s address v = placed_stored (result_ok s.start) s.bytes.now address v

abbrev pub dump_values : Dump → Values
dump_values s = placed s.start s.bytes.now

abbrev pub rom_values : Rom → Values
rom_values s = dump_values s.dump

abbrev pub rom_writable : Rom → Writable
rom_writable s = nowhere
