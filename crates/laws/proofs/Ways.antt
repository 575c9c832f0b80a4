-- The ways of each call: what its questions lead to, each with what is known there.
use Rattle.std.specs.Prelude.{nat_le}
use Rattle.std.proofs.Common.{◌≡◌, ℕ, Bool, true, false, ◌&&◌, Some, None, Ok, Err, Option, Result, refl, arith}
use Rattle.std.proofs.lemmas.Bool.Decides.{nat_tests}
use Rattle.entry.specs.Access.{permits}
use Rattle.entry.specs.Layout.{Layout}
use Rattle.entry.specs.Bus.{merged}
use Rattle.entry.specs.declared.access.AccessKind.{AccessKind}
use Rattle.entry.specs.declared.access.Mode.{Mode}
use Rattle.physical.specs.Stores.{Writable, WriteOutcome, dword, written}
use Rattle.physical.specs.declared.MemoryError.{MemoryError}
use Rattle.model.specs.declared.call.EditOperands.{EditOperands}
use Rattle.model.specs.declared.call.EntryName.{EntryName}
use Rattle.model.specs.declared.call.Reply.TheVariants.{Flushed, NotOpen}
use Rattle.model.specs.declared.call.Request.{Request}
use Rattle.model.specs.declared.refusal.Abort.TheVariants.{Breakpoint, Protection}
use Rattle.model.specs.declared.refusal.Refusal.{Refusal}
use Rattle.model.specs.declared.refusal.Refusal.TheVariants.{Aborted, BadAccess, BadEntryName, BadMask, EntryNotWritten, MisalignedTransfer}
use Rattle.model.specs.declared.registers.Registers.{Registers}
use Rattle.model.specs.declared.translation.Hit.{Hit}
use Rattle.model.specs.Access.{Accessed, aborted, access_found, access_kept, access_sought, access_walking, needs_mark, physical_of}
use Rattle.model.specs.Bus.{bus_error, bus_read, bus_write, is_aligned, is_mask, merge_transferred, put_transferred, transferred}
use Rattle.model.specs.Calls.{Answer, RunState, answering, flush_open, is_open}
use Rattle.model.specs.Edit.{edit, edit_named, edit_reached, flush, named, rewritten}
use Rattle.model.specs.Refusals.{noted}
use Rattle.model.specs.Requests.{Gate, stopped, untranslated, looking, access_gate, access_request, asked_access, asked_validation, breaks, kind_of, level_of, mode_of, sought, translate_gate, translates, validation_gate, validation_request}
use Rattle.model.specs.States.{Effect, State, answered, only_answers}
use Rattle.model.specs.Tlb.{find, hit, rest}

-- what an access asks
pub record Asks (mode kind address : ℕ) (q : Request) : Type 0 where
  pub listed : (nat_le mode 1 && nat_le kind 2) ≡ true
  pub request : access_request mode kind address ≡ Ok q

pub data AccessRead (mode kind address : ℕ) : Type 0 where
  unlisted : (nat_le mode 1 && nat_le kind 2) ≡ false → access_request mode kind address ≡ Err BadAccess → AccessRead mode kind address
  listed_as : (q : Request) → Asks mode kind address q → AccessRead mode kind address

pub access_read : (mode kind address : ℕ) → AccessRead mode kind address
access_read mode kind address = on (mode_of mode) refl (kind_of kind) refl
  where
    on : (m : Option Mode) → mode_of mode ≡ m → (k : Option AccessKind) → kind_of kind ≡ k → AccessRead mode kind address
    on (Some m) e (Some k) f = listed_as (record { mode = m; kind = k; address = address }) (record { listed = grind (arith, nat_tests); request = rw (e, f) })
    on (Some m) e None f = unlisted (grind (arith, nat_tests)) (rw (e, f))
    on None e k f = unlisted (grind (arith, nat_tests)) (rw e)

-- how far an access comes
pub data AccessWay (mode kind address : ℕ) (r : Registers) : Gate → Type 0 where
  access_refused : (nat_le mode 1 && nat_le kind 2) ≡ false → AccessWay mode kind address r (stopped BadAccess r)
  access_breaks : (q : Request) → Asks mode kind address q → AccessWay mode kind address r (stopped (Aborted Breakpoint) (noted Breakpoint q r))
  access_passes : (q : Request) → Asks mode kind address q → AccessWay mode kind address r (untranslated q)
  access_looks : (q : Request) → Asks mode kind address q → AccessWay mode kind address r (looking q)

pub access_way : (mode kind address : ℕ) (r : Registers) → AccessWay mode kind address r (access_gate r mode kind address)
access_way mode kind address r = on (access_read mode kind address)
  where
    asked : (q : Request) → Asks mode kind address q → (b : Bool) → breaks r q ≡ b → (c : Bool) → translates r q.mode ≡ c → AccessWay mode kind address r (asked_access r (Ok q))
    asked q a true b c _ = rw (b, asked_access) (access_breaks q a)
    asked q a false b true c = rw (b, asked_access, translate_gate, c) (access_looks q a)
    asked q a false b false c = rw (b, asked_access, translate_gate, c) (access_passes q a)

    on : AccessRead mode kind address → AccessWay mode kind address r (access_gate r mode kind address)
    on (unlisted b e) = rw e (access_refused b)
    on (listed_as q a) = rw a.request (asked q a _ refl _ refl)

-- and a validation
pub data ValidationWay (kind address : ℕ) (r : Registers) : Gate → Type 0 where
  validation_refused : ValidationWay kind address r (stopped BadAccess r)
  validation_passes : (q : Request) → validation_request kind address ≡ Ok q → ValidationWay kind address r (untranslated q)
  validation_looks : (q : Request) → validation_request kind address ≡ Ok q → ValidationWay kind address r (looking q)

pub validation_way : (kind address : ℕ) (r : Registers) → ValidationWay kind address r (validation_gate r kind address)
validation_way kind address r = on (validation_request kind address) refl
  where
    asked : (q : Request) → validation_request kind address ≡ Ok q → (b : Bool) → translates r q.mode ≡ b → ValidationWay kind address r (translate_gate r q)
    asked q e true b = rw (b, translate_gate) (validation_looks q e)
    asked q e false b = rw (b, translate_gate) (validation_passes q e)

    on : (o : Result Request Refusal) → validation_request kind address ≡ o → ValidationWay kind address r (asked_validation r o)
    on (Err x) e =
        let bad : x ≡ BadAccess = grind (arith, nat_tests) in
        rw bad validation_refused
    on (Ok q) e = asked q e _ refl

-- an access that looks for its page: it walks, or what is kept bars or serves it
pub data SoughtWay (l : Layout) (q : Request) (s : State) (w : Writable) : Effect Accessed → Type 0 where
  walked_for : SoughtWay l q s w (access_walking l q s w)
  barred : SoughtWay l q s w (record { outcome = aborted Protection q s.registers s.values; action = rest })
  served : (h : Hit) → SoughtWay l q s w (record { outcome = answered (Ok (physical_of l h.translation q.address)) s.registers s.values; action = hit h })

pub sought_way : (l : Layout) (q : Request) (s : State) (w : Writable) → SoughtWay l q s w (access_sought l q s w)
sought_way l q s w = on (find (sought l s.registers q) s.tlb.slots)
  where
    on_kept : (h : Hit) → (b : Bool) → permits h.translation.protection (level_of s.registers q) ≡ b → (c : Bool) → needs_mark q h.translation ≡ c → SoughtWay l q s w (access_kept l q h s w)
    on_kept h true b true c = rw (b, access_kept, c) walked_for
    on_kept h true b false c = rw (b, access_kept, c) (served h)
    on_kept h false b c _ = rw (b, access_kept) barred

    on : (o : Option Hit) → SoughtWay l q s w (access_found l q o s w)
    on None = walked_for
    on (Some h) = on_kept h _ refl _ refl

-- bus transfers
pub data BusReadWay (physical address : ℕ) (s : State) : Effect (Result ℕ Refusal) → Type 0 where
  read_misaligned : BusReadWay physical address s (only_answers (Err MisalignedTransfer) s)
  read_refused : (e : MemoryError) → BusReadWay physical address s (bus_error physical address e s)
  read_done : (v : ℕ) → BusReadWay physical address s (only_answers (Ok v) s)

pub bus_read_way : (physical address : ℕ) (s : State) → BusReadWay physical address s (bus_read physical address s)
bus_read_way physical address s = on (is_aligned physical) refl
  where
    on_answer : (x : Result ℕ MemoryError) → BusReadWay physical address s (transferred physical address x s)
    on_answer (Ok v) = read_done v
    on_answer (Err e) = read_refused e

    on : (b : Bool) → is_aligned physical ≡ b → BusReadWay physical address s (bus_read physical address s)
    on true b = rw (b, bus_read) (on_answer _)
    on false b = rw (b, bus_read) read_misaligned

pub data BusWriteWay (physical address mask v : ℕ) (s : State) (w : Writable) : Effect (Result (Unit {0}) Refusal) → Type 0 where
  write_misaligned : BusWriteWay physical address mask v s w (only_answers (Err MisalignedTransfer) s)
  write_bad_mask : BusWriteWay physical address mask v s w (only_answers (Err BadMask) s)
  write_refused : (e : MemoryError) → BusWriteWay physical address mask v s w (bus_error physical address e s)
  write_done : (u : ℕ) → BusWriteWay physical address mask v s w (record { outcome = answered (Ok tt) s.registers (written s.values w (dword physical) u); action = rest })

pub bus_write_way : (physical address mask v : ℕ) (s : State) (w : Writable) → BusWriteWay physical address mask v s w (bus_write physical address mask v s w)
bus_write_way physical address mask v s w = on (is_aligned physical) refl (is_mask mask) refl
  where
    on_put : (u : ℕ) (x : WriteOutcome) → BusWriteWay physical address mask v s w (put_transferred physical address u x s w)
    on_put u (Ok _) = write_done u
    on_put u (Err e) = write_refused e

    on_read : (x : Result ℕ MemoryError) → BusWriteWay physical address mask v s w (merge_transferred physical address mask v x s w)
    on_read (Ok old) = on_put (merged old v mask) _
    on_read (Err e) = write_refused e

    on : (b : Bool) → is_aligned physical ≡ b → (c : Bool) → is_mask mask ≡ c → BusWriteWay physical address mask v s w (bus_write physical address mask v s w)
    on true b true c = rw (b, bus_write, c) (on_read _)
    on true b false c = rw (b, bus_write, c) write_bad_mask
    on false b c _ = rw (b, bus_write) write_misaligned

-- edits, and flushes of a list
pub data EditWay (l : Layout) (x : EditOperands) (s : State) (w : Writable) : Effect (Result ℕ Refusal) → Type 0 where
  edit_unnamed : EditWay l x s w (only_answers (Err BadEntryName) s)
  edit_unwritten : EditWay l x s w (only_answers (Err EntryNotWritten) s)
  edit_done : (a : ℕ) → EditWay l x s w (record { outcome = answered (Ok a) s.registers (written s.values w (dword a) x.value); action = rest })

pub edit_way : (l : Layout) (x : EditOperands) (s : State) (w : Writable) → EditWay l x s w (edit l x s w)
edit_way l x s w = on_name (named l x)
  where
    on_write : (a : ℕ) (y : WriteOutcome) → EditWay l x s w (rewritten a x.value y s w)
    on_write a (Ok _) = edit_done a
    on_write a (Err _) = edit_unwritten

    on_reach : (o : Option ℕ) → EditWay l x s w (edit_reached o x.value s w)
    on_reach None = edit_unwritten
    on_reach (Some a) = on_write a _

    on_name : (o : Option EntryName) → EditWay l x s w (edit_named l o x.value s w)
    on_name None = edit_unnamed
    on_name (Some n) = on_reach _

pub data FlushWay (a : ℕ) (s : RunState) : Effect Answer → Type 0 where
  flush_done : FlushWay a s (answering (λ _. Ok Flushed) (flush a s.unit))
  flush_none : FlushWay a s (only_answers (Ok NotOpen) s.unit)

pub flush_way : (a : ℕ) (s : RunState) → FlushWay a s (flush_open a s)
flush_way a s = on (is_open a s.open_tokens) refl
  where
    on : (b : Bool) → is_open a s.open_tokens ≡ b → FlushWay a s (flush_open a s)
    on true e = rw (e, flush_open) flush_done
    on false e = rw (e, flush_open) flush_none
