-- What an abort and a bus error leave in the registers, field by field.
use Rattle.std.specs.Prelude.{◌≡◌, ℕ, Bool, true, false, ◌&&◌, ◌||◌, Some, None, Ok, Err, Option, Result, if◌then◌else◌, nat_le, IsTrue, IsFalse}
use Rattle.entry.specs.Access.{is_user}
use Rattle.entry.specs.Bits.{field, flag}
use Rattle.entry.specs.Layout.{Layout}
use Rattle.entry.specs.declared.TableLevel.TheVariants.{First, Second}
use Rattle.physical.specs.Stores.{Writable}
use Rattle.physical.specs.declared.MemoryError.{MemoryError}
use Rattle.model.specs.declared.call.Call.{Call}
use Rattle.model.specs.declared.call.Call.TheVariants.{Reset, Load, Access, Validate, BusRead, BusWrite}
use Rattle.model.specs.declared.call.Request.{Request}
use Rattle.model.specs.declared.refusal.Abort.{Abort}
use Rattle.model.specs.declared.refusal.Abort.TheVariants.{Breakpoint, InvalidEntry, Protection, EntryRefused}
use Rattle.model.specs.declared.refusal.Refusal.{Refusal}
use Rattle.model.specs.declared.refusal.Refusal.TheVariants.{Aborted, BadAccess, BusError}
use Rattle.model.specs.declared.registers.Registers.{Registers}
use Rattle.model.specs.Calls.{Answer, RunState, answer_number, step}
use Rattle.model.specs.Refusals.{is_write}
use Rattle.model.specs.Requests.{access_request, validation_request}

-- 10
abbrev pub is_breakpoint : Abort → Bool
is_breakpoint Breakpoint = true
is_breakpoint _ = false

-- 11, 12 and 13
abbrev pub is_translation_abort : Abort → Bool
is_translation_abort (InvalidEntry t a) = true
is_translation_abort Protection = true
is_translation_abort _ = false

-- 14
abbrev pub is_memory_abort : Abort → Bool
is_memory_abort (EntryRefused t a e) = true
is_memory_abort _ = false

-- TEX: 1, 2 and 3 for 11, 12 and 13; the others leave what it was
abbrev pub tex_after : Abort → ℕ → ℕ
tex_after (InvalidEntry First a) tex = 1
tex_after (InvalidEntry Second a) tex = 2
tex_after Protection tex = 3
tex_after _ tex = tex

-- the fields of MSR, before and after an abort
pub record AbortStatus (x : Abort) (q : Request) (before behind : ℕ) : Type 0 where
  pub tex : field 0 2 behind ≡ tex_after x (field 0 2 before)
  pub ddt : flag 2 behind ≡ is_write q.kind
  pub ust : flag 3 behind ≡ is_user q.mode
  pub bits_4_to_7 : field 4 4 behind ≡ field 4 4 before
  pub bp : flag 8 behind ≡ (is_breakpoint x || flag 8 before)
  pub ce : flag 9 behind ≡ flag 9 before
  pub me : flag 10 behind ≡ (is_memory_abort x || flag 10 before)
  pub bits_11_to_31 : field 11 21 behind ≡ field 11 21 before

-- an abort of a request: MSR as above, the address in one register, and all other registers as they were
pub record AbortNotes (x : Abort) (q : Request) (r r' : Registers) : Type 0 where
  pub status : AbortStatus x q r.msr r'.msr
  pub bdr : r'.bdr ≡ (if is_breakpoint x then q.address else r.bdr)
  pub tear : r'.tear ≡ (if is_translation_abort x then q.address else r.tear)
  pub bear : r'.bear ≡ (if is_memory_abort x then q.address else r.bear)
  pub others : (r'.bar ≡ r.bar) × (r'.bmr ≡ r.bmr) × (r'.mcr ≡ r.mcr) × (r'.ptb0 ≡ r.ptb0) × (r'.ptb1 ≡ r.ptb1)

-- a bus error: CE is set, BEAR holds the address that was served, and all else is as it was
pub record BusErrorNotes (address : ℕ) (r r' : Registers) : Type 0 where
  pub bits_0_to_8 : field 0 9 r'.msr ≡ field 0 9 r.msr
  pub ce : IsTrue (flag 9 r'.msr)
  pub bits_10_to_31 : field 10 22 r'.msr ≡ field 10 22 r.msr
  pub bear : r'.bear ≡ address
  pub others : (r'.bar ≡ r.bar) × (r'.bmr ≡ r.bmr) × (r'.bdr ≡ r.bdr) × (r'.mcr ≡ r.mcr) × (r'.tear ≡ r.tear) × (r'.ptb0 ≡ r.ptb0) × (r'.ptb1 ≡ r.ptb1)

-- the request of an access or a validation, and the address that a bus transfer serves
abbrev pub request_of : Call → Result Request Refusal
request_of (Access mode kind address) = access_request mode kind address
request_of (Validate kind address) = validation_request kind address
request_of _ = Err BadAccess

abbrev pub served_address : Call → Option ℕ
served_address (BusRead physical address) = Some address
served_address (BusWrite physical address mask v) = Some address
served_address _ = None

-- 9 to 14 are noted in the registers
abbrev pub is_noted : Answer → Bool
is_noted x = nat_le 9 (answer_number x) && nat_le (answer_number x) 14

-- what a call leaves in the registers, by its answer: the notes of an abort, those of a bus error, or nothing
pub data Notes (c : Call) (r : Registers) : Answer → Registers → Type 0 where
  of_abort : (x : Abort) (q : Request) (r' : Registers) → request_of c ≡ Ok q → AbortNotes x q r r' → Notes c r (Err (Aborted x)) r'
  of_bus_error : (a : ℕ) (e : MemoryError) (address : ℕ) (r' : Registers) → served_address c ≡ Some address → BusErrorNotes address r r' → Notes c r (Err (BusError a e)) r'
  of_none : (x : Answer) → IsFalse (is_noted x) → Notes c r x r

-- resets and loads set registers; every other call leaves what its answer says, in every state
abbrev pub sets_registers : Call → Bool
sets_registers Reset = true
sets_registers (Load code v) = true
sets_registers _ = false

abbrev pub RegisterNotes : Layout → Type 0
RegisterNotes l = (w : Writable) (s : RunState) (c : Call) → IsFalse (sets_registers c) → Notes c s.unit.registers (step l w c s).0 (step l w c s).1.unit.registers
