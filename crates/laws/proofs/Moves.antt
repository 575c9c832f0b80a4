-- What each call does to the registers, the memory and the kept translations, as far as the laws of runs ask.
use Rattle.std.specs.Prelude.{◌==◌}
use Rattle.std.proofs.Common.{◌≡◌, ℕ, ◌≤◌, Bool, true, false, Some, None, Ok, Err, Option, Result, sym, refl, subst, arith}
use Rattle.std.proofs.lemmas.Bool.Decides.{nat_tests}
use Rattle.entry.specs.Layout.{Layout, Lawful}
use Rattle.physical.specs.Stores.{Values, Writable}
use Rattle.model.specs.declared.call.Call.{Call}
use Rattle.model.specs.declared.call.Call.TheVariants.{Reset, Load, Store, Access, Validate, BusRead, BusWrite, Edit, Flush}
use Rattle.model.specs.declared.call.EditOperands.{EditOperands}
use Rattle.model.specs.declared.call.Reply.TheVariants.{Done, Edited}
use Rattle.model.specs.declared.call.Request.{Request}
use Rattle.model.specs.declared.refusal.Abort.{Abort}
use Rattle.model.specs.declared.refusal.Abort.TheVariants.{Breakpoint, Protection}
use Rattle.model.specs.declared.refusal.Refusal.{Refusal}
use Rattle.model.specs.declared.registers.Register.{Register}
use Rattle.model.specs.declared.registers.Register.TheVariants.{Ptb0, Ptb1}
use Rattle.model.specs.declared.registers.Registers.{Registers}
use Rattle.model.specs.declared.translation.Hit.{Hit}
use Rattle.model.specs.declared.translation.Tag.{Tag}
use Rattle.model.specs.declared.translation.Translation.{Translation}
use Rattle.model.specs.Access.{Accessed, access, access_sought, access_through, access_walking, walk_action, walk_outcome}
use Rattle.model.specs.Bus.{bus_read}
use Rattle.model.specs.Calls.{Answer, RunState, answering, effect, reply, flush_open}
use Rattle.model.specs.Loads.{load, load_action, load_named}
use Rattle.model.specs.Refusals.{noted}
use Rattle.model.specs.Registers.{loaded, register_of}
use Rattle.model.specs.Requests.{Gate, level_of, marks_modified, sought, space_of}
use Rattle.model.specs.States.{Effect, State}
use Rattle.model.specs.Tlb.{TlbAction, rest, hit, drop, fill, base_of}
use Rattle.model.specs.Validation.{examined, validate, validate_found, validate_through}
use Rattle.laws.specs.Staleness.{is_writer}
use Rattle.laws.proofs.Marking.{Grown, grown_refl}
use Rattle.laws.proofs.Walks.{halts, ends, walks}
use Rattle.laws.proofs.Ways.{AccessWay, BusReadWay, BusWriteWay, EditWay, FlushWay, SoughtWay, ValidationWay, access_refused, access_breaks, access_passes, access_looks, access_way, validation_refused, validation_passes, validation_looks, validation_way, walked_for, barred, served, sought_way, read_misaligned, read_refused, read_done, bus_read_way, write_misaligned, write_bad_mask, write_refused, write_done, bus_write_way, edit_unnamed, edit_unwritten, edit_done, edit_way, flush_done, flush_none, flush_way}
use Rattle.laws.proofs.Currents.{Grounded, Sized, finished_grounded, finished_sized, finished_tag, finished_grown}

-- the translation t is not dropped by the action itself
abbrev pub Stays : TlbAction → Translation → Type 0
Stays rest t = Unit {0}
Stays (hit h) t = Unit {0}
Stays (drop which) t = which t ≡ false
Stays (fill i u) t = Unit {0}

abbrev pub Fills : TlbAction → Type 0
Fills rest = ⊥
Fills (hit h) = ⊥
Fills (drop which) = ⊥
Fills (fill i t) = Unit {0}

pub not_filling : (a : TlbAction) → (Fills a → ⊥) → (i : ℕ) (t : Translation) → a ≡ fill i t → ⊥
not_filling a none i t e = none (rw e tt)

-- the base of each translation that stays is as it was
abbrev pub SameBases : Registers → Registers → TlbAction → Type 0
SameBases r r' a = (t : Translation) → t.tag.space ≤ 1 → Stays a t → base_of r' t.tag ≡ base_of r t.tag

-- a call that only marks, and fills nothing; and one that fills a slot with what its walk found
pub data Moves (l : Layout) (s : State) : Registers → Values → TlbAction → Type 0 where
  marks_only : (r : Registers) (m : Values) (a : TlbAction) → Grown l s.values m → SameBases s.registers r a → (Fills a → ⊥) → Moves l s r m a
  keeps : (m : Values) (i : ℕ) (t : Translation) → Grown l s.values m → Grounded l (base_of s.registers t.tag) m t → Sized l t → Moves l s s.registers m (fill i t)

abbrev MovesBy : {A : Type 0} → Layout → State → Effect A → Type 0
MovesBy l s e = Moves l s e.outcome.registers e.outcome.values e.action

noted_base : (x : Abort) (q : Request) (r : Registers) (t : Tag) → base_of (noted x q r) t ≡ base_of r t
noted_base Breakpoint q r t = refl
noted_base _ q r t = refl

idle : (l : Layout) (s : State) → Moves l s s.registers s.values rest
idle l s = marks_only s.registers s.values rest (grown_refl l s.values) (λ t _ _. refl) (λ h. h)

space_small : (r : Registers) (q : Request) → space_of r q.mode ≤ 1
space_small r q = grind (arith, nat_tests)

-- a call that leaves memory and slots, and notes an abort at most
noting : (l : Layout) (s : State) (x : Abort) (q : Request) → Moves l s (noted x q s.registers) s.values rest
noting l s x q = marks_only (noted x q s.registers) s.values rest (grown_refl l s.values) (λ t _ _. noted_base x q s.registers t.tag) (λ h. h)

module _ (l : Layout) (laws : Lawful l) (w : Writable) where
  walking_moves : (q : Request) (s : State) → MovesBy l s (access_walking l q s w)
  walking_moves q s =
      elim (walks l laws (level_of s.registers q) (marks_modified q.kind) (sought l s.registers q) (base_of s.registers (sought l s.registers q)) s.values w)
      as (λ r _. MovesBy l s (record { outcome = walk_outcome l q s.registers r; action = walk_action l q s r.0 })) [
        | halts x n g ↦ marks_only (noted x q s.registers) n _ g (λ t _ _. noted_base x q s.registers t.tag) (λ h. h)
        | ends t p f ↦
            let tag = finished_tag l _ _ _ _ _ t p f in
            keeps p _ t (finished_grown l _ _ _ _ _ t p f) (subst (λ g. Grounded l (base_of s.registers g) p t) (sym tag) (finished_grounded l laws _ _ _ _ _ t p f)) (finished_sized l laws _ _ _ _ _ t p (space_small s.registers q) f)
      ]

  sought_moves : (q : Request) (s : State) → MovesBy l s (access_sought l q s w)
  sought_moves q s = on _ (sought_way l q s w)
    where
      on : (e : Effect Accessed) → SoughtWay l q s w e → MovesBy l s e
      on _ walked_for = walking_moves q s
      on _ barred = noting l s Protection q
      on _ (served h) = marks_only s.registers s.values (hit h) (grown_refl l s.values) (λ t _ _. refl) (λ z. z)

  access_moves : (mode kind address : ℕ) (s : State) → MovesBy l s (access l mode kind address s w)
  access_moves mode kind address s = on _ (access_way mode kind address s.registers)
    where
      on : (g : Gate) → AccessWay mode kind address s.registers g → MovesBy l s (access_through l g s w)
      on _ (access_refused _) = idle l s
      on _ (access_breaks q _) = noting l s Breakpoint q
      on _ (access_passes q _) = idle l s
      on _ (access_looks q _) = sought_moves q s

validate_moves : (l : Layout) (kind address : ℕ) (s : State) → MovesBy l s (validate l kind address s)
validate_moves l kind address s = on _ (validation_way kind address s.registers)
  where
    on_examined : (q : Request) (x : Result Bool Abort) → Moves l s (examined q s.registers s.values x).registers (examined q s.registers s.values x).values rest
    on_examined q (Ok flag) = idle l s
    on_examined q (Err x) = noting l s x q

    on_find : (q : Request) → (o : Option Hit) → Moves l s (validate_found l q o s.registers s.values).registers (validate_found l q o s.registers s.values).values rest
    on_find q None = on_examined q _
    on_find q (Some h) = idle l s

    on : (g : Gate) → ValidationWay kind address s.registers g →
        Moves l s (validate_through l g s.registers s.tlb.slots s.values).registers (validate_through l g s.registers s.tlb.slots s.values).values rest
    on _ validation_refused = idle l s
    on _ (validation_passes q _) = idle l s
    on _ (validation_looks q _) = on_find q _

-- a register that no base lies in
plainly : (l : Layout) (s : State) (r : Registers) (a : TlbAction) → ((t : Tag) → base_of r t ≡ base_of s.registers t) → (Fills a → ⊥) → Moves l s r s.values a
plainly l s r a same none = marks_only r s.values a (grown_refl l s.values) (λ t _ _. same t.tag) none

-- of the two spaces, one that is not the one is the other
other_space : (r r' : Registers) (t : Tag) → t.space ≤ 1 → t.space == 1 ≡ false → r'.ptb0 ≡ r.ptb0 → base_of r' t ≡ base_of r t
other_space r r' t small stays same = let z : t.space == 0 ≡ true = grind (arith, nat_tests) in rw z same

loaded_moves : (l : Layout) (x : Register) (v : ℕ) (s : State) → Moves l s (loaded l x v s.registers) s.values (load_action l x v s.registers)
loaded_moves l Ptb0 v s = marks_only _ s.values _ (grown_refl l s.values) (λ t small stays. let e : t.tag.space == 0 ≡ false = stays in rw e) (λ h. h)
loaded_moves l Ptb1 v s = marks_only _ s.values _ (grown_refl l s.values) (λ t small stays. other_space s.registers (loaded l Ptb1 v s.registers) t.tag small stays refl) (λ h. h)
loaded_moves l _ v s = plainly l s _ _ (λ t. refl) (λ h. h)

load_moves : (l : Layout) (code v : ℕ) (s : State) → MovesBy l s (load l code v s)
load_moves l code v s = on (register_of code)
  where
    on : (o : Option Register) → MovesBy l s (load_named l o v s)
    on None = idle l s
    on (Some x) = loaded_moves l x v s

bus_read_moves : (l : Layout) (physical address : ℕ) (s : State) → MovesBy l s (bus_read physical address s)
bus_read_moves l physical address s = on _ (bus_read_way physical address s)
  where
    on : (e : Effect (Result ℕ Refusal)) → BusReadWay physical address s e → MovesBy l s e
    on _ read_misaligned = idle l s
    on _ (read_refused x) = plainly l s _ rest (λ t. refl) (λ h. h)
    on _ (read_done v) = idle l s

flush_moves : (l : Layout) (a : ℕ) (s : RunState) → MovesBy l s.unit (flush_open a s)
flush_moves l a s = on _ (flush_way a s)
  where
    on : (e : Effect Answer) → FlushWay a s e → MovesBy l s.unit e
    on _ flush_done = plainly l s.unit _ _ (λ t. refl) (λ h. h)
    on _ flush_none = idle l s.unit

-- every call
pub data Does (l : Layout) (s : RunState) (c : Call) (e : Effect Answer) : Type 0 where
  moves : Moves l s.unit e.outcome.registers e.outcome.values e.action → Does l s c e
  writes : is_writer c ≡ true → e.action ≡ rest → ((t : Tag) → base_of e.outcome.registers t ≡ base_of s.unit.registers t) → Does l s c e

bus_write_does : (l : Layout) (physical address mask v : ℕ) (s : RunState) (w : Writable) → Does l s (BusWrite physical address mask v) (effect l w (BusWrite physical address mask v) s)
bus_write_does l physical address mask v s w = on _ (bus_write_way physical address mask v s.unit w)
  where
    on : (e : Effect (Result (Unit {0}) Refusal)) → BusWriteWay physical address mask v s.unit w e → Does l s (BusWrite physical address mask v) (answering (reply (λ _. Done)) e)
    on _ write_misaligned = writes refl refl (λ t. refl)
    on _ write_bad_mask = writes refl refl (λ t. refl)
    on _ (write_refused x) = writes refl refl (λ t. refl)
    on _ (write_done u) = writes refl refl (λ t. refl)

edit_does : (l : Layout) (x : EditOperands) (s : RunState) (w : Writable) → Does l s (Edit x) (effect l w (Edit x) s)
edit_does l x s w = on _ (edit_way l x s.unit w)
  where
    on : (e : Effect (Result ℕ Refusal)) → EditWay l x s.unit w e → Does l s (Edit x) (answering (reply Edited) e)
    on _ edit_unnamed = writes refl refl (λ t. refl)
    on _ edit_unwritten = writes refl refl (λ t. refl)
    on _ (edit_done a) = writes refl refl (λ t. refl)

pub does : (l : Layout) → Lawful l → (w : Writable) (c : Call) (s : RunState) → Does l s c (effect l w c s)
does l laws w Reset s = moves (plainly l s.unit _ _ (λ t. refl) (λ h. h))
does l laws w (Load code v) s = moves (load_moves l code v s.unit)
does l laws w (Store code) s = moves (idle l s.unit)
does l laws w (Access mode kind address) s = moves (access_moves l laws w mode kind address s.unit)
does l laws w (Validate kind address) s = moves (validate_moves l kind address s.unit)
does l laws w (BusRead physical address) s = moves (bus_read_moves l physical address s.unit)
does l laws w (BusWrite physical address mask v) s = bus_write_does l physical address mask v s w
does l laws w (Edit x) s = edit_does l x s w
does l laws w (Flush a) s = moves (flush_moves l a s)
