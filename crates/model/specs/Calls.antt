-- Calls in a list: what each answers, and the state after it.
use Rattle.std.specs.Prelude.{ℕ, Bool, List, [], ◌∷◌, Some, None, Ok, Err, Option, Result, nat_eq, if◌then◌else◌}
use Rattle.std.specs.Set.{is_member, remove_key}
use Rattle.entry.specs.Layout.{Layout}
use Rattle.physical.specs.Stores.{Values, Writable}
use Rattle.model.specs.declared.call.Call.{Call}
use Rattle.model.specs.declared.call.Call.TheVariants.{Reset, Load, Store, Access, Validate, BusRead, BusWrite, Edit, Flush}
use Rattle.model.specs.declared.call.Reply.{Reply}
use Rattle.model.specs.declared.call.Reply.TheVariants.{Done, Value, Translated, Flag, Edited, Flushed, NotOpen}
use Rattle.model.specs.declared.refusal.Refusal.{Refusal}
use Rattle.model.specs.Access.{access}
use Rattle.model.specs.Bus.{bus_read, bus_write}
use Rattle.model.specs.Edit.{edit, flush}
use Rattle.model.specs.Loads.{load, reset, store}
use Rattle.model.specs.Refusals.{report_of}
use Rattle.model.specs.States.{Effect, State, answered, new_state, only_answers, state_after}
use Rattle.model.specs.Validation.{validate}

-- what a call answers
abbrev pub Answer : Type 0
Answer = Result Reply Refusal

-- a unit over a memory, and the tokens that are open, by the addresses that they carry
pub record RunState : Type 0 where
  pub unit : State
  pub open_tokens : List ℕ

abbrev pub start : Values → RunState
start m = record { unit = new_state m; open_tokens = [] }

-- whether a token of that address is open, and the list once one is spent (as it is, if none is open)
abbrev pub is_open : ℕ → List ℕ → Bool
is_open a tokens = is_member nat_eq tokens a

abbrev pub spent : ℕ → List ℕ → List ℕ
spent a tokens = remove_key (nat_eq a) tokens

-- an answer put among those of all calls: f makes a reply of what is done
abbrev pub reply : {A : Type 0} → (A → Reply) → Result A Refusal → Answer
reply f (Ok x) = Ok (f x)
reply f (Err x) = Err x

abbrev pub translation_reply : ℕ × Bool → Reply
translation_reply x = Translated x.0 x.1

-- the number that an answer tells: 0 where nothing was refused
abbrev pub answer_number : Answer → ℕ
answer_number (Ok x) = 0
answer_number (Err x) = (report_of x).number

-- what a call does, its answer put among those of all calls
abbrev pub answering : {A : Type 0} → (A → Answer) → Effect A → Effect Answer
answering f e = record { outcome = answered (f e.outcome.answer) e.outcome.registers e.outcome.values; action = e.action }

-- a flush in a list names a token by its address; where none is open it alters nothing
abbrev pub flush_open : ℕ → RunState → Effect Answer
flush_open a s = if is_open a s.open_tokens then answering (λ _. Ok Flushed) (flush a s.unit) else only_answers (Ok NotOpen) s.unit

-- what a call does to the unit and the memory
abbrev pub effect : Layout → Writable → Call → RunState → Effect Answer
effect l w Reset s = answering (λ _. Ok Done) (reset s.unit)
effect l w (Load code v) s = answering (reply (λ _. Done)) (load l code v s.unit)
effect l w (Store code) s = answering (reply Value) (store code s.unit)
effect l w (Access mode kind address) s = answering (reply translation_reply) (access l mode kind address s.unit w)
effect l w (Validate kind address) s = answering (reply Flag) (validate l kind address s.unit)
effect l w (BusRead physical address) s = answering (reply Value) (bus_read physical address s.unit)
effect l w (BusWrite physical address mask v) s = answering (reply (λ _. Done)) (bus_write physical address mask v s.unit w)
effect l w (Edit x) s = answering (reply Edited) (edit l x s.unit w)
effect l w (Flush a) s = flush_open a s

-- the token that an answer hands out, by its address: edits alone do
abbrev pub token_of : Answer → Option ℕ
token_of (Ok (Edited a)) = Some a
token_of _ = None

abbrev pub opened : Option ℕ → List ℕ → List ℕ
opened None tokens = tokens
opened (Some a) tokens = a ∷ tokens

-- the tokens that are open after a call: an edit opens one, a flush spends one
abbrev pub tokens_after : Call → Answer → List ℕ → List ℕ
tokens_after (Edit _) x tokens = opened (token_of x) tokens
tokens_after (Flush a) x tokens = spent a tokens
tokens_after _ x tokens = tokens

abbrev pub step : Layout → Writable → Call → RunState → Answer × RunState
step l w c s =
    let e = effect l w c s in
    (e.outcome.answer, record { unit = state_after e s.unit; open_tokens = tokens_after c e.outcome.answer s.open_tokens })

-- the state after a list of calls, and their answers
abbrev pub after : Layout → Writable → List Call → RunState → RunState
after l w [] s = s
after l w (c ∷ cs) s = after l w cs (step l w c s).1

abbrev pub answers : Layout → Writable → List Call → RunState → List Answer
answers l w [] s = []
answers l w (c ∷ cs) s = (step l w c s).0 ∷ answers l w cs (step l w c s).1
