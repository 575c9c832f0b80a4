-- Commands: a call, or an edit whose token is flushed at once. Each unfolds, in a state, into calls.
use Rattle.std.specs.Prelude.{◌≡◌, ℕ, List, [], ◌∷◌, ◌++◌, take, Some, None, Option}
use Rattle.entry.specs.Layout.{Layout}
use Rattle.physical.specs.Stores.{Writable}
use Rattle.model.specs.declared.call.Call.{Call}
use Rattle.model.specs.declared.call.Call.TheVariants.{Edit, Flush}
use Rattle.model.specs.declared.call.Command.{Command}
use Rattle.model.specs.declared.call.Command.TheVariants.{One, EditThenFlush}
use Rattle.model.specs.Calls.{Answer, RunState, after, answers, step, token_of}

-- the flush that an edit calls for: of its token, if it handed out one
abbrev pub then_flush : Option ℕ → List Call
then_flush None = []
then_flush (Some a) = Flush a ∷ []

abbrev pub unfolded : Layout → Writable → Command → RunState → List Call
unfolded l w (One c) s = c ∷ []
unfolded l w (EditThenFlush x) s = Edit x ∷ then_flush (token_of (step l w (Edit x) s).0)

-- the token is flushed, if there is one
abbrev pub flushed_after : Layout → Writable → Option ℕ → RunState → RunState
flushed_after l w None s = s
flushed_after l w (Some a) s = (step l w (Flush a) s).1

-- an edit that is flushed at once answers as the edit does
abbrev pub command_step : Layout → Writable → Command → RunState → Answer × RunState
command_step l w (One c) s = step l w c s
command_step l w (EditThenFlush x) s =
    let done = step l w (Edit x) s in
    (done.0, flushed_after l w (token_of done.0) done.1)

-- lists of commands: the state after them, their answers, and the calls that they unfold into
abbrev pub after_commands : Layout → Writable → List Command → RunState → RunState
after_commands l w [] s = s
after_commands l w (c ∷ cs) s = after_commands l w cs (command_step l w c s).1

abbrev pub command_answers : Layout → Writable → List Command → RunState → List Answer
command_answers l w [] s = []
command_answers l w (c ∷ cs) s = (command_step l w c s).0 ∷ command_answers l w cs (command_step l w c s).1

abbrev pub all_unfolded : Layout → Writable → List Command → RunState → List Call
all_unfolded l w [] s = []
all_unfolded l w (c ∷ cs) s = unfolded l w c s ++ all_unfolded l w cs (command_step l w c s).1

-- running what commands unfold into is running the commands, and the answer of each is the first of those that it
-- unfolds into
pub record Unfolds (l : Layout) (w : Writable) : Type 0 where
  pub runs : (cs : List Command) (s : RunState) → after l w (all_unfolded l w cs s) s ≡ after_commands l w cs s
  pub first_answer : (c : Command) (s : RunState) → take 1 (answers l w (unfolded l w c s) s) ≡ (command_step l w c s).0 ∷ []
