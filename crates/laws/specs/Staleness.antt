-- What has happened where a kept translation is stale.
use Rattle.std.specs.Prelude.{◌≡◌, ℕ, ◌<◌, Bool, true, false, ◌⊎◌, List, length, ◌≢◌, IsTrue, IsFalse}
use Rattle.entry.specs.Layout.{Layout}
use Rattle.physical.specs.Stores.{Values, Writable, dword}
use Rattle.model.specs.declared.call.Call.{Call}
use Rattle.model.specs.declared.call.Call.TheVariants.{BusWrite, Edit}
use Rattle.model.specs.declared.translation.Translation.{Translation}
use Rattle.model.specs.Calls.{RunState, after, effect, start, step}
use Rattle.model.specs.Currency.{current}
use Rattle.model.specs.Tlb.{Holds, fill}
use Rattle.laws.specs.Places.{call_at, state_at}

-- the call c, made in s, puts t into slot i
pub record Puts (l : Layout) (w : Writable) (s : RunState) (c : Call) (i : ℕ) (t : Translation) : Type 0 where
  pub fills : (effect l w c s).action ≡ fill i t
  pub held : Holds (step l w c s).1.unit.tlb.slots i t

-- the call c, made in s, neither fills nor empties slot i, which holds t
pub record Leaves (l : Layout) (w : Writable) (s : RunState) (c : Call) (i : ℕ) (t : Translation) : Type 0 where
  pub before : Holds s.unit.tlb.slots i t
  pub behind : Holds (step l w c s).1.unit.tlb.slots i t
  pub not_filled : (u : Translation) → (effect l w c s).action ≢ fill i u

-- bus writes and edits
abbrev pub is_writer : Call → Bool
is_writer (BusWrite physical address mask v) = true
is_writer (Edit x) = true
is_writer _ = false

-- the call c, made in s, makes another double-word of the one at that address
abbrev pub Alters : Layout → Writable → RunState → Call → ℕ → Type 0
Alters l w s c a = (step l w c s).1.unit.values (dword a) ≢ s.unit.values (dword a)

-- the call c, made in s, is a bus write or an edit that changes one of the two entries that t was read from
pub record Changes (l : Layout) (w : Writable) (s : RunState) (c : Call) (t : Translation) : Type 0 where
  pub writer : IsTrue (is_writer c)
  pub alters : Alters l w s c t.first ⊎ Alters l w s c t.second

-- by places in the list: the call at `keeper` put t into slot i, no later call filled or emptied that slot, and the later
-- call at `writer` changed one of its entries
pub record OvertakenBy (l : Layout) (w : Writable) (s : RunState) (calls : List Call) (i : ℕ) (t : Translation) : Type 0 where
  pub keeper : ℕ
  pub writer : ℕ
  pub later : keeper < writer
  pub within : writer < length calls
  pub puts : Puts l w (state_at l w s calls keeper) (call_at calls keeper) i t
  pub stays : (n : ℕ) → keeper < n → n < length calls → Leaves l w (state_at l w s calls n) (call_at calls n) i t
  pub changes : Changes l w (state_at l w s calls writer) (call_at calls writer) t

-- after every list of calls from a new unit, over every memory: what is kept and stale was overtaken by a later write
abbrev pub StaleOnlyByWrite : Layout → Type 0
StaleOnlyByWrite l = (w : Writable) (m : Values) (calls : List Call) (i : ℕ) (t : Translation) →
    Holds (after l w calls (start m)).unit.tlb.slots i t →
    IsFalse (current l (after l w calls (start m)).unit.registers (after l w calls (start m)).unit.values t) →
    OvertakenBy l w (start m) calls i t

-- and in each state on the way: a call that is neither a bus write nor an edit leaves current what it leaves in its slot
abbrev pub OnlyWritersMakeStale : Layout → Type 0
OnlyWritersMakeStale l = (w : Writable) (m : Values) (calls : List Call) (s : RunState) (c : Call) (i : ℕ) (t : Translation) →
    s ≡ after l w calls (start m) → IsFalse (is_writer c) → Leaves l w s c i t →
    IsTrue (current l s.unit.registers s.unit.values t) →
    IsTrue (current l (step l w c s).1.unit.registers (step l w c s).1.unit.values t)
