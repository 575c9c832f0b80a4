-- Transparency: that what is kept cannot be told from what a walk finds.
use Rattle.std.specs.Prelude.{◌≡◌, ℕ, ◌*◌, ◌^◌, ◌<◌, ◌≤◌, Bool, false, ◌↔◌, List, Some, None, Ok, Option, IsTrue}
use Rattle.entry.specs.Layout.{Layout}
use Rattle.physical.specs.Stores.{Values, Writable}
use Rattle.model.specs.declared.call.Call.{Call}
use Rattle.model.specs.declared.call.Call.TheVariants.{Access}
use Rattle.model.specs.declared.call.Reply.TheVariants.{Translated}
use Rattle.model.specs.declared.call.Request.{Request}
use Rattle.model.specs.declared.registers.Registers.{Registers}
use Rattle.model.specs.declared.translation.Tag.{Tag}
use Rattle.model.specs.declared.translation.Translation.{Translation}
use Rattle.model.specs.Access.{access, uncached_access}
use Rattle.model.specs.Calls.{RunState, after, start, step}
use Rattle.model.specs.Currency.{current, found_now}
use Rattle.model.specs.Requests.{access_request, access_seeks, marks_modified, validation_seeks}
use Rattle.model.specs.States.{State}
use Rattle.model.specs.Tlb.{Holds, Slots, base_of, rest}
use Rattle.model.specs.Validation.{uncached_validate, validate}
use Rattle.laws.specs.Outcomes.{SameOutcome}

-- at most one translation is kept under a tag
abbrev pub Unique : Slots → Type 0
Unique xs = (i j : ℕ) (t u : Translation) → Holds xs i t → Holds xs j u → t.tag ≡ u.tag → i ≡ j

-- no stale translation is kept under the tag: each that is, is current
abbrev pub NoneStale : Layout → State → Tag → Type 0
NoneStale l s tag = (i : ℕ) (t : Translation) → Holds s.tlb.slots i t → t.tag ≡ tag → IsTrue (current l s.registers s.values t)

-- the tags that a call can look for: of a space, 0 or 1, and a page of those there are
abbrev pub Nameable : Layout → Tag → Type 0
Nameable l tag = (tag.space ≤ 1) × (tag.page < l.page_count)

-- a setting of the unit: any value that the six bits of MCR can have
pub record Setting : Type 0 where
  pub mcr : ℕ
  pub six_bits : mcr < 2 ^ 6

abbrev pub set_to : Setting → Registers → Registers
set_to v r = record r { mcr = v.mcr }

abbrev pub under : Setting → State → State
under v s = record s { registers = set_to v s.registers }

-- an address of the pages there are
abbrev pub Addressable : Layout → ℕ → Type 0
Addressable l address = address < l.page_count * l.page_size

-- every access and validation that looks for the tag, under every setting, has the same outcome from the unit and from
-- the machine that keeps nothing, started from the same registers and memory
pub record Transparent (l : Layout) (w : Writable) (s : State) (tag : Tag) : Type 0 where
  pub accesses : (v : Setting) (mode kind address : ℕ) → Addressable l address → access_seeks l (set_to v s.registers) mode kind address ≡ Some tag →
      SameOutcome w w (access l mode kind address (under v s) w).outcome (uncached_access l mode kind address (set_to v s.registers) s.values w)
  pub validations : (v : Setting) (kind address : ℕ) → Addressable l address → validation_seeks l (set_to v s.registers) kind address ≡ Some tag →
      SameOutcome w w (validate l kind address (under v s)).outcome (uncached_validate l kind address (set_to v s.registers) s.values)

-- after every list of calls from a new unit, over every memory: at most one translation is kept under a tag
abbrev pub KeptOnce : Layout → Type 0
KeptOnce l = (w : Writable) (m : Values) (calls : List Call) → Unique (after l w calls (start m)).unit.tlb.slots

-- and it is transparent for a tag exactly where nothing stale is kept under it
abbrev pub TransparentIffNoneStale : Layout → Type 0
TransparentIffNoneStale l = (w : Writable) (m : Values) (calls : List Call) (tag : Tag) → Nameable l tag →
    NoneStale l (after l w calls (start m)).unit tag ↔ Transparent l w (after l w calls (start m)).unit tag

-- in every state: what looks for nothing has the outcome of the machine that keeps nothing, and leaves what is kept alone
pub record UnsoughtAlike (l : Layout) : Type 0 where
  pub accesses : (w : Writable) (s : State) (mode kind address : ℕ) → access_seeks l s.registers mode kind address ≡ None →
      ((access l mode kind address s w).outcome ≡ uncached_access l mode kind address s.registers s.values w) × ((access l mode kind address s w).action ≡ rest)
  pub validations : (s : State) (kind address : ℕ) → validation_seeks l s.registers kind address ≡ None →
      ((validate l kind address s).outcome ≡ uncached_validate l kind address s.registers s.values) × ((validate l kind address s).action ≡ rest)

-- whether the tables, walked now from the tag, lead to a second entry that is marked modified
abbrev pub says_modified : Option Translation → Bool
says_modified (Some t) = t.modified
says_modified None = false

abbrev pub MarkedModified : Layout → State → Tag → Type 0
MarkedModified l s tag = IsTrue (says_modified (found_now l tag (base_of s.registers tag) s.values))

-- after every list of calls: an access of a kind that marks pages modified, that is translated and done, leaves its page
-- marked modified in the tables, unless something stale was kept of it
abbrev pub WritesMarkPages : Layout → Type 0
WritesMarkPages l = (w : Writable) (m : Values) (calls : List Call) (s : RunState) (mode kind address a : ℕ) (inhibit : Bool) (q : Request) (tag : Tag) →
    s ≡ after l w calls (start m) →
    access_request mode kind address ≡ Ok q → IsTrue (marks_modified q.kind) →
    access_seeks l s.unit.registers mode kind address ≡ Some tag → NoneStale l s.unit tag →
    (step l w (Access mode kind address) s).0 ≡ Ok (Translated a inhibit) →
    MarkedModified l (step l w (Access mode kind address) s).1.unit tag
