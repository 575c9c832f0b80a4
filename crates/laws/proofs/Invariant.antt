-- What every state that calls can reach has.
use Rattle.std.proofs.Common.{ℕ, List, [], ◌∷◌, sym, subst, inl, inr}
use Rattle.entry.specs.Layout.{Layout, Lawful}
use Rattle.physical.specs.Stores.{Values, Writable}
use Rattle.model.specs.declared.call.Call.{Call}
use Rattle.model.specs.declared.registers.Registers.{Registers}
use Rattle.model.specs.declared.translation.Translation.{Translation}
use Rattle.model.specs.Calls.{Answer, RunState, after, effect, start, step}
use Rattle.model.specs.States.{Effect, State}
use Rattle.model.specs.Tlb.{Holds, Slots, Tlb, TlbAction, Which, acted, drop, fill, filled, hit, of_tag, rest, without}
use Rattle.laws.specs.Transparency.{KeptOnce, Unique}
use Rattle.laws.proofs.Currents.{Sized}
use Rattle.laws.proofs.Moves.{Does, moves, writes, does, Moves, marks_only, keeps, Fills}
use Rattle.laws.proofs.Slots.{filled_holds, none_kept, tag_false, unique_filled, unique_without, without_holds}

pub record Invariant (l : Layout) (xs : Slots) : Type 0 where
  pub unique : Unique xs
  pub sized : (i : ℕ) (t : Translation) → Holds xs i t → Sized l t

invariant_without : (l : Layout) (which : Which) (xs : Slots) → Invariant l xs → Invariant l (without which xs)
invariant_without l which xs v = record {
  unique = unique_without which xs v.unique;
  sized = λ i t h. v.sized i t (without_holds which xs i t h).0;
}

invariant_filled : (l : Layout) (xs : Slots) (j : ℕ) (n : Translation) → Invariant l xs → Sized l n → Invariant l (filled j n (without (of_tag n.tag) xs))
invariant_filled l xs j n v size =
    let u = invariant_without l (of_tag n.tag) xs v in
    record {
      unique = unique_filled (without (of_tag n.tag) xs) j n u.unique (λ i t h e. tag_false t.tag n.tag (without_holds (of_tag n.tag) xs i t h).1 e);
      sized = λ i t h. elim (filled_holds (without (of_tag n.tag) xs) i j n t h) [ inl (_, q) ↦ subst (Sized l) (sym q) size | inr (_, g) ↦ u.sized i t g ];
    }

-- an action that fills nothing
invariant_quiet : (l : Layout) (a : TlbAction) (k : Tlb) → (Fills a → ⊥) → Invariant l k.slots → Invariant l (acted a k).slots
invariant_quiet l rest k none v = v
invariant_quiet l (hit h) k none v = v
invariant_quiet l (drop which) k none v = invariant_without l which k.slots v
invariant_quiet l (fill i t) k none v = absurd (none tt)

invariant_moves : (l : Layout) (s : State) (r : Registers) (m : Values) (a : TlbAction) → Moves l s r m a → Invariant l s.tlb.slots → Invariant l (acted a s.tlb).slots
invariant_moves l s r m a (marks_only _ _ _ g b none) v = invariant_quiet l a s.tlb none v
invariant_moves l s r m a (keeps _ i t g z size) v = invariant_filled l s.tlb.slots i t v size

invariant_does : (l : Layout) (s : RunState) (c : Call) (e : Effect Answer) → Does l s c e → Invariant l s.unit.tlb.slots → Invariant l (acted e.action s.unit.tlb).slots
invariant_does l s c e (moves x) v = invariant_moves l s.unit _ _ _ x v
invariant_does l s c e (writes x a b) v = subst (λ y. Invariant l (acted y s.unit.tlb).slots) (sym a) v

pub invariant_step : (l : Layout) → Lawful l → (w : Writable) (c : Call) (s : RunState) → Invariant l s.unit.tlb.slots → Invariant l (step l w c s).1.unit.tlb.slots
invariant_step l laws w c s v = invariant_does l s c (effect l w c s) (does l laws w c s) v

pub invariant_after : (l : Layout) → Lawful l → (w : Writable) (cs : List Call) (s : RunState) → Invariant l s.unit.tlb.slots → Invariant l (after l w cs s).unit.tlb.slots
invariant_after l laws w [] s v = v
invariant_after l laws w (c ∷ cs) s v = invariant_after l laws w cs (step l w c s).1 (invariant_step l laws w c s v)

pub invariant_start : (l : Layout) (m : Values) → Invariant l (start m).unit.tlb.slots
invariant_start l m = record {
  unique = λ i j t u h g e. absurd (none_kept i t 32 h);
  sized = λ i t h. absurd (none_kept i t 32 h);
}

pub invariant_run : (l : Layout) → Lawful l → (w : Writable) (m : Values) (cs : List Call) → Invariant l (after l w cs (start m)).unit.tlb.slots
invariant_run l laws w m cs = invariant_after l laws w cs (start m) (invariant_start l m)

pub kept_once : (l : Layout) → Lawful l → KeptOnce l
kept_once l laws w m cs = (invariant_run l laws w m cs).unique
