-- Calls by their places in a list.
use Rattle.std.specs.Prelude.{ℕ, List, take, slice_index_or}
use Rattle.entry.specs.Layout.{Layout}
use Rattle.physical.specs.Stores.{Writable}
use Rattle.model.specs.declared.call.Call.{Call}
use Rattle.model.specs.declared.call.Call.TheVariants.{Reset}
use Rattle.model.specs.Calls.{RunState, after}

-- call n of the list, counted from 0 (asked only of numbers below the list's length)
abbrev pub call_at : List Call → ℕ → Call
call_at calls n = slice_index_or calls n Reset

-- the state that it is made in, if the list is begun in s
abbrev pub state_at : Layout → Writable → RunState → List Call → ℕ → RunState
state_at l w s calls n = after l w (take n calls) s
