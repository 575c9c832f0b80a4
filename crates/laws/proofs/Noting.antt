-- The fields of MSR after an abort and a bus error.
use Rattle.std.specs.Prelude.{◌==◌, if◌then◌else◌}
use Rattle.std.proofs.Common.{◌≡◌, ℕ, ◌+◌, ◌-◌, ◌*◌, ◌/◌, ◌%◌, ◌^◌, ◌<◌, Bool, true, false, ◌||◌, Some, None, Ok, Err, Option, Result, sym, refl, ap, ◌∙◌, arith, lit<}
use native.Mathlib.Nat.{mod-mod}
use lib.Bits.{bit_and, bit_or, and_zero_r}
use Rattle.std.proofs.lemmas.Nat.{and_mask}
use Rattle.std.proofs.lemmas.Bool.{true≢false}
use Rattle.std.proofs.lemmas.Bool.Decides.{nat_tests}
use Rattle.entry.specs.Access.{is_user}
use Rattle.entry.specs.Layout.{Layout}
use Rattle.entry.specs.Bits.{field, flag}
use Rattle.entry.specs.declared.TableLevel.TheVariants.{First, Second}
use Rattle.entry.specs.declared.access.AccessKind.{AccessKind}
use Rattle.entry.specs.declared.access.AccessKind.TheVariants.{Write}
use Rattle.entry.specs.declared.access.Mode.{Mode}
use Rattle.entry.specs.declared.access.Mode.TheVariants.{Supervisor, User}
use Rattle.entry.proofs.Bitwise.{and_field, beside, or_field}
use Rattle.physical.specs.Stores.{Values, Writable}
use Rattle.physical.specs.declared.MemoryError.{MemoryError}
use Rattle.model.specs.declared.call.Call.{Call}
use Rattle.model.specs.declared.call.Call.TheVariants.{Reset, Load, Store, Access, Validate, BusRead, BusWrite, Edit, Flush}
use Rattle.model.specs.declared.call.EditOperands.{EditOperands}
use Rattle.model.specs.declared.call.Reply.{Reply}
use Rattle.model.specs.declared.call.Reply.TheVariants.{Done, Edited, Flag, Flushed, NotOpen, Translated, Value}
use Rattle.model.specs.declared.call.Request.{Request}
use Rattle.model.specs.declared.refusal.Abort.{Abort}
use Rattle.model.specs.declared.refusal.Abort.TheVariants.{Breakpoint, InvalidEntry, Protection, EntryRefused}
use Rattle.model.specs.declared.refusal.Refusal.{Refusal}
use Rattle.model.specs.declared.refusal.Refusal.TheVariants.{Aborted, BadAccess, BadEntryName, BadMask, BusError, EntryNotWritten, MisalignedTransfer}
use Rattle.model.specs.declared.registers.Registers.{Registers}
use Rattle.model.specs.declared.translation.Hit.{Hit}
use Rattle.model.specs.declared.translation.Translation.{Translation}
use Rattle.model.specs.Access.{Accessed, access, access_sought, access_through, walk_outcome, walked}
use Rattle.model.specs.Bus.{bus_read, bus_write}
use Rattle.model.specs.Calls.{Answer, RunState, flush_open, reply, translation_reply}
use Rattle.model.specs.Edit.{edit}
use Rattle.model.specs.Loads.{store_answer}
use Rattle.model.specs.Requests.{Gate}
use Rattle.model.specs.States.{Effect, Outcome, State}
use Rattle.model.specs.Validation.{examined, validate, validate_found, validate_through}
use Rattle.model.specs.Refusals.{bus_error_noted, direction_and_mode, is_write, noted, with_bits}
use Rattle.laws.specs.Notes.{AbortNotes, AbortStatus, BusErrorNotes, Notes, RegisterNotes, is_breakpoint, is_memory_abort, of_abort, of_bus_error, of_none, request_of, served_address, tex_after}
use Rattle.laws.proofs.Ways.{AccessWay, ValidationWay, SoughtWay, BusReadWay, BusWriteWay, EditWay, FlushWay, access_refused, access_breaks, access_passes, access_looks, access_way, validation_refused, validation_passes, validation_looks, validation_way, walked_for, barred, served, sought_way, read_misaligned, read_refused, read_done, bus_read_way, write_misaligned, write_bad_mask, write_refused, write_done, bus_write_way, edit_unnamed, edit_unwritten, edit_done, edit_way, flush_done, flush_none, flush_way}

-- a field that the mask does not touch, and one that lies in it
kept : (low width mask bits v : ℕ) → field low width (0xffffffff - mask) ≡ 2 ^ width - 1 → field low width bits ≡ 0 → field low width (with_bits mask bits v) ≡ field low width v
kept low width mask bits v all none =
    beside low width (bit_and v (0xffffffff - mask)) bits none
    ∙ and_field low width v (0xffffffff - mask)
    ∙ ap (bit_and (field low width v)) all
    ∙ and_mask (field low width v) width
    ∙ mod-mod (v / 2 ^ low) (2 ^ width)

put : (low width mask bits v : ℕ) → field low width (0xffffffff - mask) ≡ 0 → field low width (with_bits mask bits v) ≡ field low width bits
put low width mask bits v none =
    or_field low width (bit_and v (0xffffffff - mask)) bits
    ∙ ap (λ x. bit_or x (field low width bits)) (and_field low width v (0xffffffff - mask) ∙ ap (bit_and (field low width v)) none ∙ and_zero_r (field low width v))

-- DDT and UST beside other bits
record Beside (e d : ℕ) (w u : Bool) : Type 0 where
  ddt : flag 2 (e + d) ≡ w
  ust : flag 3 (e + d) ≡ u
  low : field 0 2 (e + d) ≡ field 0 2 e
  middle : field 4 4 (e + d) ≡ field 4 4 e
  bit_8 : field 8 1 (e + d) ≡ field 8 1 e
  bit_9 : field 9 1 (e + d) ≡ field 9 1 e
  bit_10 : field 10 1 (e + d) ≡ field 10 1 e
  high : field 11 21 (e + d) ≡ field 11 21 e

direction_beside : (e x y : ℕ) → e / 4 % 4 ≡ 0 → x < 2 → y < 2 → Beside e (4 * x + 8 * y) (x == 1) (y == 1)
direction_beside e x y h i j = record {
  ddt = grind (arith, nat_tests);
  ust = grind (arith, nat_tests);
  low = grind (arith, nat_tests);
  middle = grind (arith, nat_tests);
  bit_8 = grind (arith, nat_tests);
  bit_9 = grind (arith, nat_tests);
  bit_10 = grind (arith, nat_tests);
  high = grind (arith, nat_tests);
}

beside_of : (e : ℕ) → e / 4 % 4 ≡ 0 → (k : AccessKind) (m : Mode) → Beside e ((if is_write k then 0x004 else 0) + (if is_user m then 0x008 else 0)) (is_write k) (is_user m)
beside_of e h Write Supervisor = direction_beside e 1 0 h (lit< tt) (lit< tt)
beside_of e h Write User = direction_beside e 1 1 h (lit< tt) (lit< tt)
beside_of e h _ Supervisor = direction_beside e 0 0 h (lit< tt) (lit< tt)
beside_of e h _ User = direction_beside e 0 1 h (lit< tt) (lit< tt)

is_one : (x y : ℕ) → x ≡ y → (x == 1) ≡ (y == 1)
is_one x y e = ap (λ z. z == 1) e

-- the aborts, by mask and bits
breakpoint_status : (q : Request) (v : ℕ) → AbortStatus Breakpoint q v (with_bits 0x10c (0x100 + direction_and_mode q) v)
breakpoint_status q v =
    let b = beside_of 0x100 refl q.kind q.mode in
    let d = 0x100 + direction_and_mode q in
    record {
      tex = kept 0 2 0x10c d v refl b.low;
      ddt = is_one _ _ (put 2 1 0x10c d v refl) ∙ b.ddt;
      ust = is_one _ _ (put 3 1 0x10c d v refl) ∙ b.ust;
      bits_4_to_7 = kept 4 4 0x10c d v refl b.middle;
      bp = is_one _ _ (put 8 1 0x10c d v refl ∙ b.bit_8);
      ce = is_one _ _ (kept 9 1 0x10c d v refl b.bit_9);
      me = is_one _ _ (kept 10 1 0x10c d v refl b.bit_10);
      bits_11_to_31 = kept 11 21 0x10c d v refl b.high;
    }

memory_status : (x : Abort) → (tex_after x ≡ λ tex. tex) → is_breakpoint x ≡ false → is_memory_abort x ≡ true → (q : Request) (v : ℕ) → AbortStatus x q v (with_bits 0x40c (0x400 + direction_and_mode q) v)
memory_status x same no_break memory q v =
    let b = beside_of 0x400 refl q.kind q.mode in
    let d = 0x400 + direction_and_mode q in
    record {
      tex = kept 0 2 0x40c d v refl b.low ∙ ap (λ f. f (field 0 2 v)) (sym same);
      ddt = is_one _ _ (put 2 1 0x40c d v refl) ∙ b.ddt;
      ust = is_one _ _ (put 3 1 0x40c d v refl) ∙ b.ust;
      bits_4_to_7 = kept 4 4 0x40c d v refl b.middle;
      bp = is_one _ _ (kept 8 1 0x40c d v refl b.bit_8) ∙ ap (λ z. z || flag 8 v) (sym no_break);
      ce = is_one _ _ (kept 9 1 0x40c d v refl b.bit_9);
      me = is_one _ _ (put 10 1 0x40c d v refl ∙ b.bit_10) ∙ ap (λ z. z || flag 10 v) (sym memory);
      bits_11_to_31 = kept 11 21 0x40c d v refl b.high;
    }

translation_status : (x : Abort) (tex : ℕ) → tex < 4 → ((y : ℕ) → tex_after x y ≡ tex) → is_breakpoint x ≡ false → is_memory_abort x ≡ false → (q : Request) (v : ℕ) → AbortStatus x q v (with_bits 0x00f (tex + direction_and_mode q) v)
translation_status x tex small after no_break no_memory q v =
    let b = beside_of tex (omega arith) q.kind q.mode in
    let d = tex + direction_and_mode q in
    let low : field 0 2 tex ≡ tex = omega arith in
    record {
      tex = put 0 2 0x00f d v refl ∙ b.low ∙ low ∙ sym (after (field 0 2 v));
      ddt = is_one _ _ (put 2 1 0x00f d v refl) ∙ b.ddt;
      ust = is_one _ _ (put 3 1 0x00f d v refl) ∙ b.ust;
      bits_4_to_7 = kept 4 4 0x00f d v refl (b.middle ∙ omega arith);
      bp = is_one _ _ (kept 8 1 0x00f d v refl (b.bit_8 ∙ omega arith)) ∙ ap (λ z. z || flag 8 v) (sym no_break);
      ce = is_one _ _ (kept 9 1 0x00f d v refl (b.bit_9 ∙ omega arith));
      me = is_one _ _ (kept 10 1 0x00f d v refl (b.bit_10 ∙ omega arith)) ∙ ap (λ z. z || flag 10 v) (sym no_memory);
      bits_11_to_31 = kept 11 21 0x00f d v refl (b.high ∙ omega arith);
    }

status : (x : Abort) (q : Request) (r : Registers) → AbortStatus x q r.msr (noted x q r).msr
status Breakpoint q r = breakpoint_status q r.msr
status (InvalidEntry First a) q r = translation_status (InvalidEntry First a) 1 (omega arith) (λ y. refl) refl refl q r.msr
status (InvalidEntry Second a) q r = translation_status (InvalidEntry Second a) 2 (omega arith) (λ y. refl) refl refl q r.msr
status Protection q r = translation_status Protection 3 (omega arith) (λ y. refl) refl refl q r.msr
status (EntryRefused t a e) q r = memory_status (EntryRefused t a e) refl refl refl q r.msr

abort_notes : (x : Abort) (q : Request) (r : Registers) → AbortNotes x q r (noted x q r)
abort_notes Breakpoint q r = record { status = status Breakpoint q r; bdr = refl; tear = refl; bear = refl; others = (refl, refl, refl, refl, refl) }
abort_notes x q r = record { status = status x q r; bdr = refl; tear = refl; bear = refl; others = (refl, refl, refl, refl, refl) }

bus_error_notes : (address : ℕ) (r : Registers) → BusErrorNotes address r (bus_error_noted address r)
bus_error_notes address r = record {
  bits_0_to_8 = kept 0 9 0x200 0x200 r.msr refl refl;
  ce = is_one _ _ (put 9 1 0x200 0x200 r.msr refl);
  bits_10_to_31 = kept 10 22 0x200 0x200 r.msr refl refl;
  bear = refl;
  others = (refl, refl, refl, refl, refl, refl, refl);
}

-- the outcome of a request that is looked for: done, or an abort that is noted
data Ends (q : Request) (r : Registers) {A : Type 0} : Result A Refusal → Registers → Type 0 where
  done : (x : A) → Ends q r (Ok x) r
  aborts : (x : Abort) → Ends q r (Err (Aborted x)) (noted x q r)

abbrev EndsBy : {A : Type 0} → Request → Registers → Outcome (Result A Refusal) → Type 0
EndsBy q r x = Ends q r x.answer x.registers

walk_ends : (l : Layout) (q : Request) (r : Registers) (x : Result Translation Abort × Values) → EndsBy q r (walk_outcome l q r x)
walk_ends l q r (Ok t, m) = done _
walk_ends l q r (Err x, m) = aborts x

sought_ends : (l : Layout) (q : Request) (s : State) (w : Writable) → EndsBy q s.registers (access_sought l q s w).outcome
sought_ends l q s w = on _ (sought_way l q s w)
  where
    on : (e : Effect Accessed) → SoughtWay l q s w e → EndsBy q s.registers e.outcome
    on _ walked_for = walk_ends l q s.registers (walked l q s.registers s.values w)
    on _ barred = aborts Protection
    on _ (served h) = done _

examined_ends : (q : Request) (r : Registers) (m : Values) (x : Result Bool Abort) → EndsBy q r (examined q r m x)
examined_ends q r m (Ok flag) = done _
examined_ends q r m (Err x) = aborts x

found_ends : (l : Layout) (q : Request) (o : Option Hit) (s : State) → EndsBy q s.registers (validate_found l q o s.registers s.values)
found_ends l q None s = examined_ends q s.registers s.values _
found_ends l q (Some h) s = done _

-- what an outcome of a call notes, its answer put among those of all calls
abbrev NotesBy : {A : Type 0} → Call → Registers → (A → Reply) → Outcome (Result A Refusal) → Type 0
NotesBy c r f x = Notes c r (reply f x.answer) x.registers

-- what is done notes nothing
told : {A : Type 0} (f : A → Reply) (c : Call) (q : Request) → request_of c ≡ Ok q → (r r' : Registers) (x : Result A Refusal) → Ends q r x r' → Notes c r (reply f x) r'
told f c q e r r' x (done y) = of_none (Ok (f y)) refl
told f c q e r r' x (aborts y) = of_abort y q (noted y q r) e (abort_notes y q r)

access_notes : (l : Layout) (mode kind address : ℕ) (s : State) (w : Writable) → NotesBy (Access mode kind address) s.registers translation_reply (access l mode kind address s w).outcome
access_notes l mode kind address s w = on _ (access_way mode kind address s.registers)
  where
    on : (g : Gate) → AccessWay mode kind address s.registers g → NotesBy (Access mode kind address) s.registers translation_reply (access_through l g s w).outcome
    on _ (access_refused _) = of_none (Err BadAccess) refl
    on _ (access_breaks q a) = of_abort Breakpoint q (noted Breakpoint q s.registers) a.request (abort_notes Breakpoint q s.registers)
    on _ (access_passes q _) = of_none (Ok (Translated q.address false)) refl
    on _ (access_looks q a) = told translation_reply (Access mode kind address) q a.request s.registers _ _ (sought_ends l q s w)

validate_notes : (l : Layout) (kind address : ℕ) (s : State) → NotesBy (Validate kind address) s.registers Flag (validate l kind address s).outcome
validate_notes l kind address s = on _ (validation_way kind address s.registers)
  where
    on : (g : Gate) → ValidationWay kind address s.registers g → NotesBy (Validate kind address) s.registers Flag (validate_through l g s.registers s.tlb.slots s.values)
    on _ validation_refused = of_none (Err BadAccess) refl
    on _ (validation_passes q _) = of_none (Ok (Flag false)) refl
    on _ (validation_looks q e) = told Flag (Validate kind address) q e s.registers _ _ (found_ends l q _ s)

store_notes : (code : ℕ) (r : Registers) → Notes (Store code) r (reply Value (store_answer code r)) r
store_notes code r = of_none (reply Value (store_answer code r)) (grind (arith, nat_tests))

-- what the memory refuses of a bus transfer
bus_noted : (c : Call) (physical address : ℕ) (e : MemoryError) (r : Registers) → served_address c ≡ Some address → Notes c r (Err (BusError physical e)) (bus_error_noted address r)
bus_noted c physical address e r h = of_bus_error physical e address (bus_error_noted address r) h (bus_error_notes address r)

bus_read_notes : (physical address : ℕ) (s : State) → NotesBy (BusRead physical address) s.registers Value (bus_read physical address s).outcome
bus_read_notes physical address s = on _ (bus_read_way physical address s)
  where
    on : (e : Effect (Result ℕ Refusal)) → BusReadWay physical address s e → NotesBy (BusRead physical address) s.registers Value e.outcome
    on _ read_misaligned = of_none (Err MisalignedTransfer) refl
    on _ (read_refused x) = bus_noted (BusRead physical address) physical address x s.registers refl
    on _ (read_done v) = of_none (Ok (Value v)) refl

bus_write_notes : (physical address mask v : ℕ) (s : State) (w : Writable) → NotesBy (BusWrite physical address mask v) s.registers (λ _. Done) (bus_write physical address mask v s w).outcome
bus_write_notes physical address mask v s w = on _ (bus_write_way physical address mask v s w)
  where
    on : (e : Effect (Result (Unit {0}) Refusal)) → BusWriteWay physical address mask v s w e → NotesBy (BusWrite physical address mask v) s.registers (λ _. Done) e.outcome
    on _ write_misaligned = of_none (Err MisalignedTransfer) refl
    on _ write_bad_mask = of_none (Err BadMask) refl
    on _ (write_refused x) = bus_noted (BusWrite physical address mask v) physical address x s.registers refl
    on _ (write_done u) = of_none (Ok Done) refl

edit_notes : (l : Layout) (x : EditOperands) (s : State) (w : Writable) → NotesBy (Edit x) s.registers Edited (edit l x s w).outcome
edit_notes l x s w = on _ (edit_way l x s w)
  where
    on : (e : Effect (Result ℕ Refusal)) → EditWay l x s w e → NotesBy (Edit x) s.registers Edited e.outcome
    on _ edit_unnamed = of_none (Err BadEntryName) refl
    on _ edit_unwritten = of_none (Err EntryNotWritten) refl
    on _ (edit_done a) = of_none (Ok (Edited a)) refl

flush_notes : (a : ℕ) (s : RunState) → Notes (Flush a) s.unit.registers (flush_open a s).outcome.answer (flush_open a s).outcome.registers
flush_notes a s = on _ (flush_way a s)
  where
    on : (e : Effect Answer) → FlushWay a s e → Notes (Flush a) s.unit.registers e.outcome.answer e.outcome.registers
    on _ flush_done = of_none (Ok Flushed) refl
    on _ flush_none = of_none (Ok NotOpen) refl

pub register_notes : (l : Layout) → RegisterNotes l
register_notes l w s Reset h = absurd (true≢false h)
register_notes l w s (Load code v) h = absurd (true≢false h)
register_notes l w s (Store code) h = store_notes code s.unit.registers
register_notes l w s (Access mode kind address) h = access_notes l mode kind address s.unit w
register_notes l w s (Validate kind address) h = validate_notes l kind address s.unit
register_notes l w s (BusRead physical address) h = bus_read_notes physical address s.unit
register_notes l w s (BusWrite physical address mask v) h = bus_write_notes physical address mask v s.unit w
register_notes l w s (Edit x) h = edit_notes l x s.unit w
register_notes l w s (Flush a) h = flush_notes a s
