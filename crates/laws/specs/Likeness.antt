-- Two units that cannot be told apart until something stale is looked for.
use Rattle.std.specs.Prelude.{◌≡◌, ℕ, ◌<◌, ◌≤◌, List, length, Some, None, Option, IsTrue}
use Rattle.entry.specs.Layout.{Layout}
use Rattle.physical.specs.Stores.{Values, Writable}
use Rattle.model.specs.declared.call.Call.{Call}
use Rattle.model.specs.declared.call.Call.TheVariants.{Access, Validate, Flush}
use Rattle.model.specs.declared.registers.Registers.{Registers}
use Rattle.model.specs.declared.translation.Tag.{Tag}
use Rattle.model.specs.Calls.{RunState, after, effect, is_open, start}
use Rattle.model.specs.Requests.{access_seeks, validation_seeks}
use Rattle.laws.specs.Outcomes.{SameMemory, SameOutcome}
use Rattle.laws.specs.Places.{call_at, state_at}
use Rattle.laws.specs.Transparency.{NoneStale}

-- the tag that a call looks for, if any
abbrev pub seeks : Layout → Registers → Call → Option Tag
seeks l r (Access mode kind address) = access_seeks l r mode kind address
seeks l r (Validate kind address) = validation_seeks l r kind address
seeks l r _ = None

-- the call c, made in s, looks for nothing of which a stale translation is kept
abbrev pub SeeksNoneStale : Layout → RunState → Call → Type 0
SeeksNoneStale l s c = (tag : Tag) → seeks l s.unit.registers c ≡ Some tag → NoneStale l s.unit tag

-- if it is a flush, a token of that address is open
abbrev pub TokenOpen : RunState → Call → Type 0
TokenOpen s c = (a : ℕ) → c ≡ Flush a → IsTrue (is_open a s.open_tokens)

abbrev pub Fair : Layout → RunState → Call → Type 0
Fair l s c = SeeksNoneStale l s c × TokenOpen s c

-- two units, each after a list of its own from a new unit, over any two memories, with equal registers and memories:
-- on one further list, as long as the calls so far, this one with them, look in neither for what is kept stale there and
-- flush only tokens that both have open, each call has the same outcome from both
abbrev pub AlikeUntilStaleSought : Layout → Type 0
AlikeUntilStaleSought l = (w u : Writable) (m n : Values) (xs ys calls : List Call) (s t : RunState) →
    s ≡ after l w xs (start m) → t ≡ after l u ys (start n) →
    s.unit.registers ≡ t.unit.registers → SameMemory s.unit.values w t.unit.values u →
    (k : ℕ) → k < length calls →
    ((j : ℕ) → j ≤ k → Fair l (state_at l w s calls j) (call_at calls j) × Fair l (state_at l u t calls j) (call_at calls j)) →
    SameOutcome w u (effect l w (call_at calls k) (state_at l w s calls k)).outcome (effect l u (call_at calls k) (state_at l u t calls k)).outcome
