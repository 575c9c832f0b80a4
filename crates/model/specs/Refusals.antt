-- Refusals in numbers, and what an abort or a bus error notes in the registers.
use Rattle.std.specs.Prelude.{ℕ, ◌+◌, ◌-◌, Bool, true, false, if◌then◌else◌, bit_and, bit_or}
use Rattle.entry.specs.Access.{is_user}
use Rattle.entry.specs.TableLevel.{level_number}
use Rattle.entry.specs.declared.TableLevel.{TableLevel}
use Rattle.entry.specs.declared.TableLevel.TheVariants.{First, Second}
use Rattle.entry.specs.declared.access.AccessKind.{AccessKind}
use Rattle.entry.specs.declared.access.AccessKind.TheVariants.{Write}
use Rattle.physical.specs.Stores.{reason_number}
use Rattle.model.specs.declared.call.Request.{Request}
use Rattle.model.specs.declared.refusal.Abort.{Abort}
use Rattle.model.specs.declared.refusal.Abort.TheVariants.{Breakpoint, InvalidEntry, Protection, EntryRefused}
use Rattle.model.specs.declared.refusal.Refusal.{Refusal}
use Rattle.model.specs.declared.refusal.Refusal.TheVariants.{UnknownRegister, WriteOnlyRegister, BadAccess, MisalignedTransfer, BadMask, BusError, Aborted, BadEntryName, EntryNotWritten}
use Rattle.model.specs.declared.refusal.Report.{Report}
use Rattle.model.specs.declared.registers.Registers.{Registers}

-- a refusal that tells its number and nothing else
abbrev pub number_only : ℕ → Report
number_only n = record { number = n; level = 0; address = 0; reason = 0 }

-- 11 in the first table, 12 in the second
abbrev pub invalid_number : TableLevel → ℕ
invalid_number First = 11
invalid_number Second = 12

abbrev pub abort_report : Abort → Report
abort_report Breakpoint = number_only 10
abort_report (InvalidEntry t a) = record { number = invalid_number t; level = level_number t; address = a; reason = 0 }
abort_report Protection = number_only 13
abort_report (EntryRefused t a e) = record { number = 14; level = level_number t; address = a; reason = reason_number e }

abbrev pub report_of : Refusal → Report
report_of UnknownRegister = number_only 4
report_of WriteOnlyRegister = number_only 5
report_of BadAccess = number_only 6
report_of MisalignedTransfer = number_only 7
report_of BadMask = number_only 8
report_of (BusError a e) = record { number = 9; level = 0; address = a; reason = reason_number e }
report_of (Aborted x) = abort_report x
report_of BadEntryName = number_only 15
report_of EntryNotWritten = number_only 16

-- w with the bits of the mask taken from `bits`, which has no others
abbrev pub with_bits : ℕ → ℕ → ℕ → ℕ
with_bits mask bits w = bit_or (bit_and w (0xffffffff - mask)) bits

-- the kinds for which the data go out to memory
abbrev pub is_write : AccessKind → Bool
is_write Write = true
is_write _ = false

-- DDT (bit 2), the direction of the data, and UST (bit 3), who asked
abbrev pub direction_and_mode : Request → ℕ
direction_and_mode q = (if is_write q.kind then 0x004 else 0) + (if is_user q.mode then 0x008 else 0)

-- TEX (bits 0 and 1), the kind of translation abort
abbrev pub exception : TableLevel → ℕ
exception First = 1
exception Second = 2

-- a translation abort: TEX, DDT and UST are set to these, and TEAR to the address
abbrev pub translation_noted : ℕ → Request → Registers → Registers
translation_noted tex q r = record r { msr = with_bits 0x00f (tex + direction_and_mode q) r.msr; tear = q.address }

-- what an abort notes: DDT and UST in every case; BP (bit 8) and BDR for a breakpoint, TEX and TEAR for a translation
-- abort, ME (bit 10) and BEAR where the memory refused. All else stays.
abbrev pub noted : Abort → Request → Registers → Registers
noted Breakpoint q r = record r { msr = with_bits 0x10c (0x100 + direction_and_mode q) r.msr; bdr = q.address }
noted (InvalidEntry t a) q r = translation_noted (exception t) q r
noted Protection q r = translation_noted 3 q r
noted (EntryRefused t a e) q r = record r { msr = with_bits 0x40c (0x400 + direction_and_mode q) r.msr; bear = q.address }

-- a refused bus transfer sets CE (bit 9), and BEAR to the address served
abbrev pub bus_error_noted : ℕ → Registers → Registers
bus_error_noted address r = record r { msr = with_bits 0x200 0x200 r.msr; bear = address }
