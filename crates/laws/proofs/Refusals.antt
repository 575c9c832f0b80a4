-- Calls are refused outright exactly where that is owed, and then nothing is altered.
use Rattle.std.specs.Prelude.{◌==◌, if◌then◌else◌, nat_le, nat_lt}
use Rattle.std.proofs.Common.{◌≡◌, ℕ, Bool, true, false, ◌&&◌, Ok, Err, Result, sym, refl, ◌∙◌, Some, arith}
use Rattle.std.proofs.lemmas.Bool.{eqb-true, true≢false}
use Rattle.std.proofs.lemmas.Bool.Decides.{nat_tests}
use Rattle.entry.specs.Layout.{Layout}
use Rattle.entry.specs.declared.TableLevel.TheVariants.{First, Second}
use Rattle.physical.specs.Stores.{Values, Writable, dword, write_answer}
use Rattle.model.specs.declared.call.Call.{Call}
use Rattle.model.specs.declared.call.Call.TheVariants.{Access, Edit}
use Rattle.model.specs.declared.call.EditOperands.{EditOperands}
use Rattle.model.specs.declared.call.Reply.TheVariants.{Edited}
use Rattle.model.specs.declared.call.Request.{Request}
use Rattle.model.specs.declared.refusal.Abort.{Abort}
use Rattle.model.specs.declared.refusal.Abort.TheVariants.{InvalidEntry}
use Rattle.model.specs.declared.registers.Registers.{Registers}
use Rattle.model.specs.declared.translation.Translation.{Translation}
use Rattle.model.specs.Access.{Accessed, access, access_sought, access_through, walk_outcome, walked}
use Rattle.model.specs.Calls.{RunState, answer_number, reply, step, translation_reply}
use Rattle.model.specs.Edit.{edit, edit_named, rewritten}
use Rattle.model.specs.Refusals.{abort_report}
use Rattle.model.specs.Requests.{Gate}
use Rattle.model.specs.States.{Effect, Outcome, State, state_after}
use Rattle.model.specs.Tlb.{base_of, tag_of}
use Rattle.laws.specs.Refusing.{OutrightRefusals, can_be_written, entry_can_be_written, is_outright, owed, outright_number}
use Rattle.laws.proofs.Ways.{AccessWay, SoughtWay, access_refused, access_breaks, access_passes, access_looks, access_way, walked_for, barred, served, sought_way}

-- aborts are no outright refusals
abort_mild : (x : Abort) → is_outright (abort_report x).number ≡ false
abort_mild (InvalidEntry First a) = refl
abort_mild (InvalidEntry Second a) = refl
abort_mild _ = refl

-- nor is what an access answers that looks for its page
abbrev Mild : Outcome Accessed → Type 0
Mild x = is_outright (answer_number (reply translation_reply x.answer)) ≡ false

walk_mild : (l : Layout) (q : Request) (r : Registers) (x : Result Translation Abort × Values) → Mild (walk_outcome l q r x)
walk_mild l q r (Ok t, m) = refl
walk_mild l q r (Err x, m) = abort_mild x

sought_mild : (l : Layout) (q : Request) (s : State) (w : Writable) → Mild (access_sought l q s w).outcome
sought_mild l q s w = on _ (sought_way l q s w)
  where
    on : (e : Effect Accessed) → SoughtWay l q s w e → Mild e.outcome
    on _ walked_for = walk_mild l q s.registers (walked l q s.registers s.values w)
    on _ barred = refl
    on _ (served h) = refl

access_exactly : (l : Layout) (mode kind address : ℕ) (s : State) (w : Writable) →
    outright_number (answer_number (reply translation_reply (access l mode kind address s w).outcome.answer)) ≡ (if nat_le mode 1 && nat_le kind 2 then 0 else 6)
access_exactly l mode kind address s w = on _ (access_way mode kind address s.registers)
  where
    on : (g : Gate) → AccessWay mode kind address s.registers g →
        outright_number (answer_number (reply translation_reply (access_through l g s w).outcome.answer)) ≡ (if nat_le mode 1 && nat_le kind 2 then 0 else 6)
    on _ (access_refused b) = rw b
    on _ (access_breaks q a) = rw a.listed
    on _ (access_passes q a) = rw a.listed
    on _ (access_looks q a) = rw (a.listed, sought_mild l q s w)

access_alters_nothing : (l : Layout) (mode kind address : ℕ) (s : RunState) (w : Writable) → is_outright (answer_number (step l w (Access mode kind address) s).0) ≡ true → (step l w (Access mode kind address) s).1 ≡ s
access_alters_nothing l mode kind address s w = on _ (access_way mode kind address s.unit.registers)
  where
    on : (g : Gate) → AccessWay mode kind address s.unit.registers g → is_outright (answer_number (reply translation_reply (access_through l g s.unit w).outcome.answer)) ≡ true →
        record s { unit = state_after (access_through l g s.unit w) s.unit } ≡ s
    on _ (access_refused _) h = refl
    on _ (access_breaks q _) h = absurd (true≢false (sym h))
    on _ (access_passes q _) h = refl
    on _ (access_looks q _) h = absurd (true≢false (sym h ∙ sought_mild l q s.unit w))

-- an edit that has reached its entry
written_exactly : (a v : ℕ) (s : State) (w : Writable) → outright_number (answer_number (reply Edited (rewritten a v (write_answer (s.values (dword a)) (w (dword a))) s w).outcome.answer)) ≡ (if can_be_written s.values w a then 0 else 16)
written_exactly a v s w = grind (arith, nat_tests)

-- an edit in the second table whose name is on the list
second_exactly : (l : Layout) (x : EditOperands) (s : State) (w : Writable) →
    outright_number (answer_number (reply Edited (edit_named l (Some (record { space = x.space; level = Second; page = x.page })) x.value s w).outcome.answer))
    ≡ (if entry_can_be_written l s.registers s.values w (record x { level = 2 }) then 0 else 16)
second_exactly l x s w = grind (arith, nat_tests)

edit_exactly : (l : Layout) (x : EditOperands) (s : RunState) (w : Writable) → outright_number (answer_number (step l w (Edit x) s).0) ≡ owed l w s (Edit x)
edit_exactly l x s w = on (nat_le x.space 1) refl (nat_lt x.page l.page_count) refl
  where
    on_level : nat_le x.space 1 ≡ true → nat_lt x.page l.page_count ≡ true → (c : Bool) → x.level == 1 ≡ c → (d : Bool) → x.level == 2 ≡ d → outright_number (answer_number (step l w (Edit x) s).0) ≡ owed l w s (Edit x)
    on_level a b true c d _ = rw (eqb-true x.level 1 c, edit, a, b) (written_exactly (l.first_entry (base_of s.unit.registers (tag_of s.unit.registers x.space x.page)) x.page) x.value s.unit w)
    on_level a b false c true d = rw (eqb-true x.level 2 d, edit, a, b) (second_exactly l x s.unit w)
    on_level a b false c false d = grind (arith, nat_tests)

    on : (a : Bool) → nat_le x.space 1 ≡ a → (b : Bool) → nat_lt x.page l.page_count ≡ b → outright_number (answer_number (step l w (Edit x) s).0) ≡ owed l w s (Edit x)
    on true a true b = on_level a b _ refl _ refl
    on true a false b = grind (arith, nat_tests)
    on false a y b = grind (arith, nat_tests)

exactly : (l : Layout) (w : Writable) (s : RunState) (c : Call) → outright_number (answer_number (step l w c s).0) ≡ owed l w s c
exactly l w s (Access mode kind address) = access_exactly l mode kind address s.unit w
exactly l w s (Edit x) = edit_exactly l x s w
exactly l w s _ = grind (arith, nat_tests)

nothing_altered : (l : Layout) (w : Writable) (s : RunState) (c : Call) → is_outright (answer_number (step l w c s).0) ≡ true → (step l w c s).1 ≡ s
nothing_altered l w s (Access mode kind address) h = access_alters_nothing l mode kind address s w h
nothing_altered l w s _ h = grind (arith, nat_tests)

pub outright_refusals : (l : Layout) → OutrightRefusals l
outright_refusals l = record { exactly_owed = exactly l; alter_nothing = nothing_altered l }
