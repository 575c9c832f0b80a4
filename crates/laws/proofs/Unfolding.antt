-- Commands are what they unfold into.
use Rattle.std.proofs.Common.{◌≡◌, ℕ, List, [], ◌∷◌, ◌++◌, take, Some, None, Option, refl, ap, ◌∙◌}
use Rattle.entry.specs.Layout.{Layout}
use Rattle.physical.specs.Stores.{Writable}
use Rattle.model.specs.declared.call.Call.{Call}
use Rattle.model.specs.declared.call.Call.TheVariants.{Edit}
use Rattle.model.specs.declared.call.Command.{Command}
use Rattle.model.specs.declared.call.Command.TheVariants.{One, EditThenFlush}
use Rattle.model.specs.Calls.{RunState, after, answers, step, token_of}
use Rattle.model.specs.Commands.{Unfolds, after_commands, all_unfolded, command_step, flushed_after, then_flush, unfolded}

after_append : (l : Layout) (w : Writable) (xs ys : List Call) (s : RunState) → after l w (xs ++ ys) s ≡ after l w ys (after l w xs s)
after_append l w [] ys s = refl
after_append l w (x ∷ xs) ys s = after_append l w xs ys (step l w x s).1

flushing : (l : Layout) (w : Writable) (o : Option ℕ) (s : RunState) → after l w (then_flush o) s ≡ flushed_after l w o s
flushing l w None s = refl
flushing l w (Some a) s = refl

one_unfolded : (l : Layout) (w : Writable) (c : Command) (s : RunState) → after l w (unfolded l w c s) s ≡ (command_step l w c s).1
one_unfolded l w (One c) s = refl
one_unfolded l w (EditThenFlush x) s = flushing l w (token_of (step l w (Edit x) s).0) (step l w (Edit x) s).1

runs : (l : Layout) (w : Writable) (cs : List Command) (s : RunState) → after l w (all_unfolded l w cs s) s ≡ after_commands l w cs s
runs l w [] s = refl
runs l w (c ∷ cs) s =
    after_append l w (unfolded l w c s) (all_unfolded l w cs (command_step l w c s).1) s
    ∙ ap (after l w (all_unfolded l w cs (command_step l w c s).1)) (one_unfolded l w c s)
    ∙ runs l w cs (command_step l w c s).1

first_answer : (l : Layout) (w : Writable) (c : Command) (s : RunState) → take 1 (answers l w (unfolded l w c s) s) ≡ (command_step l w c s).0 ∷ []
first_answer l w (One c) s = refl
first_answer l w (EditThenFlush x) s = refl

pub unfolds : (l : Layout) (w : Writable) → Unfolds l w
unfolds l w = record { runs = runs l w; first_answer = first_answer l w }
