-- Two units with equal registers and memories are alike until something stale is looked for.
use Rattle.std.proofs.Common.{◌≡◌, ℕ, zero, suc, ◌<◌, ◌≤◌, Bool, true, false, List, [], ◌∷◌, length, Some, None, Ok, Err, Option, Result, sym, refl, ap, subst, arith}
use Rattle.entry.specs.Layout.{Layout, Lawful}
use Rattle.physical.specs.Stores.{Values, Writable, WriteOutcome, dword, read_answer}
use Rattle.physical.specs.declared.MemoryError.{MemoryError}
use Rattle.model.specs.declared.call.Call.{Call}
use Rattle.model.specs.declared.call.Call.TheVariants.{Reset, Load, Store, Access, Validate, BusRead, BusWrite, Edit, Flush}
use Rattle.model.specs.declared.call.EditOperands.{EditOperands}
use Rattle.model.specs.declared.call.EntryName.{EntryName}
use Rattle.model.specs.declared.call.Reply.TheVariants.{Done, Edited, Flag, Value}
use Rattle.model.specs.declared.registers.Register.{Register}
use Rattle.model.specs.declared.registers.Registers.{Registers}
use Rattle.model.specs.declared.translation.Tag.{Tag}
use Rattle.model.specs.Access.{access}
use Rattle.model.specs.Bus.{bus_read, bus_write, is_aligned, is_mask, merge_transferred, put_transferred, transferred}
use Rattle.model.specs.Calls.{Answer, RunState, effect, flush_open, reply, step, translation_reply}
use Rattle.model.specs.Edit.{edit, edit_named, edit_reached, named, reached, rewritten}
use Rattle.model.specs.Loads.{load, load_named}
use Rattle.model.specs.Registers.{register_of}
use Rattle.model.specs.States.{Outcome, State, answered}
use Rattle.model.specs.Tlb.{Tlb}
use Rattle.model.specs.Validation.{validate}
use Rattle.laws.specs.Likeness.{AlikeUntilStaleSought, Fair, SeeksNoneStale}
use Rattle.laws.specs.Outcomes.{SameMemory, SameOutcome}
use Rattle.laws.specs.Places.{call_at, state_at}
use Rattle.laws.specs.Transparency.{NoneStale}
use Rattle.laws.proofs.Currents.{current_tells}
use Rattle.laws.proofs.Hits.{KeptCurrent, access_same, validation_same}
use Rattle.laws.proofs.Memories.{same_answered, same_read, same_uncached_access, same_uncached_validate, same_write, same_written}

abbrev unit_of : Registers → Tlb → Values → State
unit_of r k m = record { registers = r; tlb = k; values = m }

abbrev run_of : Registers → Tlb → Values → List ℕ → RunState
run_of r k m tokens = record { unit = unit_of r k m; open_tokens = tokens }

-- answers put among those of all calls
same_answering : {A : Type 0} (w u : Writable) (f : A → Answer) (x y : Outcome A) → SameOutcome w u x y →
    SameOutcome w u (answered (f x.answer) x.registers x.values) (answered (f y.answer) y.registers y.values)
same_answering w u f x y h = record { answer = ap f h.answer; registers = h.registers; memory = h.memory }

current_kept : (l : Layout) (s : State) (tag : Tag) → NoneStale l s tag → KeptCurrent l s tag
current_kept l s tag none i t h e = current_tells l s.registers s.values t (none i t h e)

module _ (l : Layout) (laws : Lawful l) (w u : Writable) (r : Registers) (k j : Tlb) (m n : Values) (same : SameMemory m w n u) where
  same_access : (mode kind address : ℕ) → SeeksNoneStale l (run_of r k m []) (Access mode kind address) → SeeksNoneStale l (run_of r j n []) (Access mode kind address) →
      SameOutcome w u (access l mode kind address (unit_of r k m) w).outcome (access l mode kind address (unit_of r j n) u).outcome
  same_access mode kind address p q =
      let x = access_same l laws w (unit_of r k m) mode kind address (λ tag e. current_kept l (unit_of r k m) tag (p tag e)) in
      let y = access_same l laws u (unit_of r j n) mode kind address (λ tag e. current_kept l (unit_of r j n) tag (q tag e)) in
      subst (λ z. SameOutcome w u z (access l mode kind address (unit_of r j n) u).outcome) (sym x)
      (subst (SameOutcome w u _) (sym y) (same_uncached_access w u l mode kind address r m n same))

  same_validate : (kind address : ℕ) → SeeksNoneStale l (run_of r k m []) (Validate kind address) → SeeksNoneStale l (run_of r j n []) (Validate kind address) →
      SameOutcome w u (validate l kind address (unit_of r k m)).outcome (validate l kind address (unit_of r j n)).outcome
  same_validate kind address p q =
      let x = validation_same l laws w (unit_of r k m) kind address (λ tag e. current_kept l (unit_of r k m) tag (p tag e)) in
      let y = validation_same l laws u (unit_of r j n) kind address (λ tag e. current_kept l (unit_of r j n) tag (q tag e)) in
      subst (λ z. SameOutcome w u z (validate l kind address (unit_of r j n)).outcome) (sym x)
      (subst (SameOutcome w u _) (sym y) (same_uncached_validate w u l kind address r m n same))

  same_load : (code v : ℕ) → SameOutcome w u (load l code v (unit_of r k m)).outcome (load l code v (unit_of r j n)).outcome
  same_load code v = on (register_of code)
    where
      on : (o : Option Register) → SameOutcome w u (load_named l o v (unit_of r k m)).outcome (load_named l o v (unit_of r j n)).outcome
      on None = same_answered w u _ r m n same
      on (Some x) = same_answered w u _ _ m n same

  same_bus_read : (physical address : ℕ) → SameOutcome w u (bus_read physical address (unit_of r k m)).outcome (bus_read physical address (unit_of r j n)).outcome
  same_bus_read physical address = on (is_aligned physical) refl
    where
      on_answer : (x : Result ℕ MemoryError) → SameOutcome w u (transferred physical address x (unit_of r k m)).outcome (transferred physical address x (unit_of r j n)).outcome
      on_answer (Ok v) = same_answered w u _ r m n same
      on_answer (Err e) = same_answered w u _ _ m n same

      on : (b : Bool) → is_aligned physical ≡ b → SameOutcome w u (bus_read physical address (unit_of r k m)).outcome (bus_read physical address (unit_of r j n)).outcome
      on true e = rw (e, bus_read, same_read w u m n same physical) (on_answer (read_answer (n (dword physical))))
      on false e = rw (e, bus_read) (same_answered w u _ r m n same)

  same_bus_write : (physical address mask v : ℕ) → SameOutcome w u (bus_write physical address mask v (unit_of r k m) w).outcome (bus_write physical address mask v (unit_of r j n) u).outcome
  same_bus_write physical address mask v = on (is_aligned physical) refl (is_mask mask) refl
    where
      on_put : (x : ℕ) (o : WriteOutcome) → SameOutcome w u (put_transferred physical address x o (unit_of r k m) w).outcome (put_transferred physical address x o (unit_of r j n) u).outcome
      on_put x (Ok _) = same_answered w u _ r _ _ (same_written w u m n same (dword physical) x)
      on_put x (Err e) = same_answered w u _ _ m n same

      on_read : (o : Result ℕ MemoryError) → SameOutcome w u (merge_transferred physical address mask v o (unit_of r k m) w).outcome (merge_transferred physical address mask v o (unit_of r j n) u).outcome
      on_read (Ok old) = rw (same_write w u m n same physical) (on_put _ _)
      on_read (Err e) = same_answered w u _ _ m n same

      on : (b : Bool) → is_aligned physical ≡ b → (c : Bool) → is_mask mask ≡ c → SameOutcome w u (bus_write physical address mask v (unit_of r k m) w).outcome (bus_write physical address mask v (unit_of r j n) u).outcome
      on true b true c = rw (b, bus_write, c, same_read w u m n same physical) (on_read (read_answer (n (dword physical))))
      on true b false c = rw (b, bus_write, c) (same_answered w u _ r m n same)
      on false b c _ = rw (b, bus_write) (same_answered w u _ r m n same)

  same_reached : (x : EntryName) → reached l x r m ≡ reached l x r n
  same_reached x = grind (arith, same_read w u m n same)

  same_edit : (x : EditOperands) → SameOutcome w u (edit l x (unit_of r k m) w).outcome (edit l x (unit_of r j n) u).outcome
  same_edit x = on_name (named l x)
    where
      on_write : (a : ℕ) (o : WriteOutcome) → SameOutcome w u (rewritten a x.value o (unit_of r k m) w).outcome (rewritten a x.value o (unit_of r j n) u).outcome
      on_write a (Ok _) = same_answered w u _ r _ _ (same_written w u m n same (dword a) x.value)
      on_write a (Err _) = same_answered w u _ r m n same

      on_reach : (o : Option ℕ) → SameOutcome w u (edit_reached o x.value (unit_of r k m) w).outcome (edit_reached o x.value (unit_of r j n) u).outcome
      on_reach None = same_answered w u _ r m n same
      on_reach (Some a) = rw (same_write w u m n same a) (on_write a _)

      on_name : (o : Option EntryName) → SameOutcome w u (edit_named l o x.value (unit_of r k m) w).outcome (edit_named l o x.value (unit_of r j n) u).outcome
      on_name None = same_answered w u _ r m n same
      on_name (Some y) = rw (same_reached y) (on_reach _)

  -- every call that is fair to both
  same_effect : (c : Call) (o p : List ℕ) → Fair l (run_of r k m o) c → Fair l (run_of r j n p) c → SameOutcome w u (effect l w c (run_of r k m o)).outcome (effect l u c (run_of r j n p)).outcome
  same_effect Reset o p x y = same_answered w u _ _ m n same
  same_effect (Load code v) o p x y = same_answering w u (reply (λ _. Done)) _ _ (same_load code v)
  same_effect (Store code) o p x y = same_answered w u _ r m n same
  same_effect (Access mode kind address) o p x y = same_answering w u (reply translation_reply) _ _ (same_access mode kind address x.0 y.0)
  same_effect (Validate kind address) o p x y = same_answering w u (reply Flag) _ _ (same_validate kind address x.0 y.0)
  same_effect (BusRead physical address) o p x y = same_answering w u (reply Value) _ _ (same_bus_read physical address)
  same_effect (BusWrite physical address mask v) o p x y = same_answering w u (reply (λ _. Done)) _ _ (same_bus_write physical address mask v)
  same_effect (Edit z) o p x y = same_answering w u (reply Edited) _ _ (same_edit z)
  same_effect (Flush a) o p x y = let d = x.1 a refl in let e = y.1 a refl in rw (d, e, flush_open) (same_answered w u _ r m n same)

-- the same of states whose registers are equal
same_call : (l : Layout) → Lawful l → (w u : Writable) (c : Call) (s t : RunState) → s.unit.registers ≡ t.unit.registers → SameMemory s.unit.values w t.unit.values u →
    Fair l s c → Fair l t c → SameOutcome w u (effect l w c s).outcome (effect l u c t).outcome
same_call l laws w u c s t e same x =
    subst (λ r. Fair l (run_of r t.unit.tlb t.unit.values t.open_tokens) c → SameOutcome w u (effect l w c s).outcome (effect l u c (run_of r t.unit.tlb t.unit.values t.open_tokens)).outcome) e
    (λ y. same_effect l laws w u s.unit.registers s.unit.tlb t.unit.tlb s.unit.values t.unit.values same c s.open_tokens t.open_tokens x y)

-- a further list
pub alike : (l : Layout) → Lawful l → (w u : Writable) (calls : List Call) (s t : RunState) → s.unit.registers ≡ t.unit.registers → SameMemory s.unit.values w t.unit.values u →
    (k : ℕ) → k < length calls → ((j : ℕ) → j ≤ k → Fair l (state_at l w s calls j) (call_at calls j) × Fair l (state_at l u t calls j) (call_at calls j)) →
    SameOutcome w u (effect l w (call_at calls k) (state_at l w s calls k)).outcome (effect l u (call_at calls k) (state_at l u t calls k)).outcome
alike l laws w u [] s t e same k within fair = absurd (omega arith)
alike l laws w u (c ∷ calls) s t e same zero within fair = let f = fair 0 (omega arith) in same_call l laws w u c s t e same f.0 f.1
alike l laws w u (c ∷ calls) s t e same (suc k) within fair =
    let f = fair 0 (omega arith) in
    let first = same_call l laws w u c s t e same f.0 f.1 in
    alike l laws w u calls (step l w c s).1 (step l u c t).1 first.registers first.memory k (omega arith) (λ j small. fair (suc j) (omega arith))

pub alike_until_stale_sought : (l : Layout) → Lawful l → AlikeUntilStaleSought l
alike_until_stale_sought l laws w u m n xs ys calls s t _ _ e same k within fair = alike l laws w u calls s t e same k within fair
