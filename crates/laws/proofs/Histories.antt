-- What is kept and stale was overtaken by a later bus write or edit.
use Rattle.std.proofs.Common.{◌≡◌, ℕ, zero, suc, ◌<◌, ◌≤◌, true, ◌⊎◌, List, [], ◌∷◌, length, Some, None, Option, sym, refl, ap, ◌∙◌, subst, ap₂, inl, inr, arith}
use Rattle.std.proofs.lemmas.Bool.{cases_eq, true≢false}
use Rattle.std.proofs.lemmas.Option.{none-some, same_Some}
use Rattle.entry.specs.Layout.{Layout, Lawful}
use Rattle.physical.specs.Stores.{Values, Writable, dword}
use Rattle.model.specs.declared.call.Call.{Call}
use Rattle.model.specs.declared.registers.Registers.{Registers}
use Rattle.model.specs.declared.translation.Translation.{Translation}
use Rattle.model.specs.Calls.{Answer, RunState, after, effect, start, step}
use Rattle.model.specs.Currency.{current}
use Rattle.model.specs.States.{Effect, State}
use Rattle.model.specs.Tlb.{Holds, Tlb, TlbAction, acted, base_of, drop, fill, hit, of_tag, rest, without}
use Rattle.laws.specs.Places.{call_at, state_at}
use Rattle.laws.specs.Staleness.{Changes, Leaves, OnlyWritersMakeStale, OvertakenBy, Puts, StaleOnlyByWrite, is_writer}
use Rattle.laws.proofs.Currents.{Current, Grounded, current_grown, current_tells, grounded_at, grounded_current, grounded_grown, tells_current}
use Rattle.laws.proofs.Invariant.{Invariant, invariant_run, invariant_start, invariant_step}
use Rattle.laws.proofs.Moves.{Does, moves, writes, does, Moves, marks_only, keeps, Fills, Stays, not_filling}
use Rattle.laws.proofs.Slots.{filled_holds, none_kept, without_holds}

-- what a call that fills nothing leaves in a slot stood there, and was not dropped
quiet_holds : (a : TlbAction) (k : Tlb) (i : ℕ) (t : Translation) → (Fills a → ⊥) → Holds (acted a k).slots i t → Holds k.slots i t × Stays a t
quiet_holds rest k i t none h = (h, tt)
quiet_holds (hit x) k i t none h = (h, tt)
quiet_holds (drop which) k i t none h = without_holds which k.slots i t h
quiet_holds (fill j n) k i t none h = absurd (none tt)

-- a double-word is as it was, or is another
same_or_not : (x y : Option ℕ) → (x ≡ y) ⊎ (x ≡ y → ⊥)
same_or_not None None = inl refl
same_or_not None (Some y) = inr (none-some y)
same_or_not (Some x) None = inr (λ e. none-some x (sym e))
same_or_not (Some x) (Some y) = elim (cases_eq x y) [ inl e ↦ inl (ap Some e) | inr h ↦ inr (λ e. h (same_Some x y e)) ]

fill_slot : (i j : ℕ) (t u : Translation) → fill i t ≡ fill j u → i ≡ j
fill_slot i j t u e = cc

-- grounded in a state
abbrev In : Layout → State → Translation → Type 0
In l s t = Grounded l (base_of s.registers t.tag) s.values t

abbrev NotFilled : TlbAction → ℕ → Type 0
NotFilled a i = (u : Translation) → a ≡ fill i u → ⊥

-- what a call, made in s, did with t, which stands in slot i after it: r, m and a are the registers and the memory after
-- it and its action
data Fate (l : Layout) (s : State) (c : Call) (i : ℕ) (t : Translation) (r : Registers) (m : Values) (a : TlbAction) : Type 0 where
  put : a ≡ fill i t → Grounded l (base_of r t.tag) m t → Fate l s c i t r m a
  left : Holds s.tlb.slots i t → NotFilled a i → (In l s t → Grounded l (base_of r t.tag) m t) → Fate l s c i t r m a
  changed : Holds s.tlb.slots i t → NotFilled a i → is_writer c ≡ true →
      (m (dword t.first) ≡ s.values (dword t.first) → ⊥) ⊎ (m (dword t.second) ≡ s.values (dword t.second) → ⊥) → Fate l s c i t r m a

moves_fate : (l : Layout) (s : State) (c : Call) (i : ℕ) (t : Translation) (r : Registers) (m : Values) (a : TlbAction) → Invariant l s.tlb.slots →
    Moves l s r m a → Holds (acted a s.tlb).slots i t → Fate l s c i t r m a
moves_fate l s c i t r m a v (marks_only _ _ _ g bases none) h =
    let (before, stays) = quiet_holds a s.tlb i t none h in
    left before (not_filling a none i) (λ x. subst (λ b. Grounded l b m t) (sym (bases t (v.sized i t before).spaced stays)) (grounded_grown l _ s.values m t g x))
moves_fate l s c i t r m a v (keeps _ j n g z size) h =
    elim (filled_holds (without (of_tag n.tag) s.tlb.slots) i j n t h) [
      | inl (q, e) ↦ put (ap₂ fill (sym q) (sym e)) (subst (λ y. Grounded l (base_of s.registers y.tag) m y) (sym e) z)
      | inr (q, held) ↦ left (without_holds (of_tag n.tag) s.tlb.slots i t held).0 (λ u e. q (sym (fill_slot j i n u e))) (grounded_grown l _ s.values m t g)
    ]

writes_fate : (l : Layout) (s : State) (c : Call) (i : ℕ) (t : Translation) (r : Registers) (m : Values) → is_writer c ≡ true → base_of r t.tag ≡ base_of s.registers t.tag →
    Holds s.tlb.slots i t → Fate l s c i t r m rest
writes_fate l s c i t r m writer base h = on (same_or_not (m (dword t.first)) (s.values (dword t.first))) (same_or_not (m (dword t.second)) (s.values (dword t.second)))
  where
    none : NotFilled rest i
    none = not_filling rest (λ z. z) i

    on : (m (dword t.first) ≡ s.values (dword t.first)) ⊎ (m (dword t.first) ≡ s.values (dword t.first) → ⊥) →
        (m (dword t.second) ≡ s.values (dword t.second)) ⊎ (m (dword t.second) ≡ s.values (dword t.second) → ⊥) → Fate l s c i t r m rest
    on (inl x) (inl y) = left h none (λ z. subst (λ b. Grounded l b m t) (sym base) (grounded_at l _ s.values m t x y z))
    on (inr x) y = changed h none writer (inl x)
    on (inl _) (inr y) = changed h none writer (inr y)

fate : (l : Layout) (s : RunState) (c : Call) (i : ℕ) (t : Translation) (e : Effect Answer) → Invariant l s.unit.tlb.slots → Does l s c e →
    Holds (acted e.action s.unit.tlb).slots i t → Fate l s.unit c i t e.outcome.registers e.outcome.values e.action
fate l s c i t e v (moves x) h = moves_fate l s.unit c i t _ _ _ v x h
fate l s c i t e v (writes writer a b) h =
    let held : Holds s.unit.tlb.slots i t = subst (λ y. Holds (acted y s.unit.tlb).slots i t) a h in
    subst (Fate l s.unit c i t e.outcome.registers e.outcome.values) (sym a) (writes_fate l s.unit c i t _ _ writer (b t.tag) held)

-- t is grounded at the end of the list, or some call of it, from place n on, changed an entry of t
data Since (l : Layout) (w : Writable) (s : RunState) (calls : List Call) (t : Translation) (n : ℕ) : Type 0 where
  unchanged : In l (after l w calls s).unit t → Since l w s calls t n
  changed_at : (k : ℕ) → n ≤ k → k < length calls → Changes l w (state_at l w s calls k) (call_at calls k) t → Since l w s calls t n

abbrev LeftFrom : Layout → Writable → RunState → List Call → ℕ → Translation → ℕ → Type 0
LeftFrom l w s calls i t n = (k : ℕ) → n ≤ k → k < length calls → Leaves l w (state_at l w s calls k) (call_at calls k) i t

-- t, which stands in slot i after the list, stood there from the first; or a call of the list put it there
data History (l : Layout) (w : Writable) (s : RunState) (calls : List Call) (i : ℕ) (t : Translation) : Type 0 where
  stood : Holds s.unit.tlb.slots i t → LeftFrom l w s calls i t 0 → (In l s.unit t → Since l w s calls t 0) → History l w s calls i t
  came : (k : ℕ) → k < length calls → Puts l w (state_at l w s calls k) (call_at calls k) i t → LeftFrom l w s calls i t (suc k) → Since l w s calls t (suc k) → History l w s calls i t

since_more : (l : Layout) (w : Writable) (s : RunState) (c : Call) (calls : List Call) (t : Translation) (n : ℕ) → Since l w (step l w c s).1 calls t n → Since l w s (c ∷ calls) t (suc n)
since_more l w s c calls t n (unchanged x) = unchanged x
since_more l w s c calls t n (changed_at k a b x) = changed_at (suc k) (omega arith) (omega arith) x

since_weaker : (l : Layout) (w : Writable) (s : RunState) (calls : List Call) (t : Translation) → Since l w s calls t 1 → Since l w s calls t 0
since_weaker l w s calls t (unchanged x) = unchanged x
since_weaker l w s calls t (changed_at k a b x) = changed_at k (omega arith) b x

left_more : (l : Layout) (w : Writable) (s : RunState) (c : Call) (calls : List Call) (i : ℕ) (t : Translation) (n : ℕ) → LeftFrom l w (step l w c s).1 calls i t n → LeftFrom l w s (c ∷ calls) i t (suc n)
left_more l w s c calls i t n x zero a b = absurd (omega arith)
left_more l w s c calls i t n x (suc k) a b = x k (omega arith) (omega arith)

left_first : (l : Layout) (w : Writable) (s : RunState) (c : Call) (calls : List Call) (i : ℕ) (t : Translation) → Leaves l w s c i t → LeftFrom l w (step l w c s).1 calls i t 0 → LeftFrom l w s (c ∷ calls) i t 0
left_first l w s c calls i t first x zero a b = first
left_first l w s c calls i t first x (suc k) a b = x k (omega arith) (omega arith)

-- one call more at the front, after which t stood in its slot
one_more : (l : Layout) (w : Writable) (s : RunState) (c : Call) (calls : List Call) (i : ℕ) (t : Translation) →
    Holds (step l w c s).1.unit.tlb.slots i t → LeftFrom l w (step l w c s).1 calls i t 0 → (In l (step l w c s).1.unit t → Since l w (step l w c s).1 calls t 0) →
    Fate l s.unit c i t (effect l w c s).outcome.registers (effect l w c s).outcome.values (effect l w c s).action → History l w s (c ∷ calls) i t
one_more l w s c calls i t held all since (put a z) =
    came 0 (omega arith) (record { fills = a; held = held }) (left_more l w s c calls i t 0 all) (since_more l w s c calls t 0 (since z))
one_more l w s c calls i t held all since (left before none still) =
    stood before (left_first l w s c calls i t (record { before = before; behind = held; not_filled = none }) all)
    (λ x. since_weaker l w s (c ∷ calls) t (since_more l w s c calls t 0 (since (still x))))
one_more l w s c calls i t held all since (changed before none writer alters) =
    stood before (left_first l w s c calls i t (record { before = before; behind = held; not_filled = none }) all)
    (λ x. changed_at 0 (omega arith) (omega arith) (record { writer = writer; alters = alters }))

history : (l : Layout) → Lawful l → (w : Writable) (i : ℕ) (t : Translation) (calls : List Call) (s : RunState) → Invariant l s.unit.tlb.slots → Holds (after l w calls s).unit.tlb.slots i t → History l w s calls i t
history l laws w i t [] s v h = stood h (λ k a b. absurd (omega arith)) unchanged
history l laws w i t (c ∷ calls) s v h = on (history l laws w i t calls (step l w c s).1 (invariant_step l laws w c s v) h)
  where
    on : History l w (step l w c s).1 calls i t → History l w s (c ∷ calls) i t
    on (stood held all since) = one_more l w s c calls i t held all since (fate l s c i t (effect l w c s) v (does l laws w c s) held)
    on (came k b puts all since) = came (suc k) (omega arith) puts (left_more l w s c calls i t (suc k) all) (since_more l w s c calls t (suc k) since)

pub stale_only_by_write : (l : Layout) → Lawful l → StaleOnlyByWrite l
stale_only_by_write l laws w m calls i t h stale = on (history l laws w i t calls (start m) (invariant_start l m) h)
  where
    on_since : (k : ℕ) → k < length calls → Puts l w (state_at l w (start m) calls k) (call_at calls k) i t → LeftFrom l w (start m) calls i t (suc k) → Since l w (start m) calls t (suc k) → OvertakenBy l w (start m) calls i t
    on_since k b puts all (unchanged x) = absurd (true≢false (sym (grounded_current l (after l w calls (start m)).unit.registers (after l w calls (start m)).unit.values t x) ∙ stale))
    on_since k b puts all (changed_at j a c x) = record { keeper = k; writer = j; later = omega arith; within = c; puts = puts; stays = λ n d e. all n (omega arith) e; changes = x }

    on : History l w (start m) calls i t → OvertakenBy l w (start m) calls i t
    on (stood held all since) = absurd (none_kept i t 32 held)
    on (came k b puts all since) = on_since k b puts all since

-- a call that is no writer leaves current what it leaves in its slot
current_moves : (l : Layout) (s : State) (i : ℕ) (t : Translation) (r : Registers) (m : Values) (a : TlbAction) → Moves l s r m a → t.tag.space ≤ 1 →
    Holds (acted a s.tlb).slots i t → NotFilled a i → Current l (base_of s.registers t.tag) s.values t → Current l (base_of r t.tag) m t
current_moves l s i t r m a (marks_only _ _ _ g bases none) small h unfilled c =
    let (before, stays) = quiet_holds a s.tlb i t none h in
    subst (λ b. Current l b m t) (sym (bases t small stays)) (current_grown l _ s.values m t g c)
current_moves l s i t r m a (keeps _ j n g z size) small h unfilled c = current_grown l _ s.values m t g c

pub only_writers_make_stale : (l : Layout) → Lawful l → OnlyWritersMakeStale l
only_writers_make_stale l laws w m calls s c i t reached no_writer leaves current_before = on (does l laws w c s)
  where
    small : t.tag.space ≤ 1
    small = ((subst (λ (x : RunState). Invariant l x.unit.tlb.slots) (sym reached) (invariant_run l laws w m calls)).sized i t leaves.before).spaced

    on : Does l s c (effect l w c s) → current l (step l w c s).1.unit.registers (step l w c s).1.unit.values t ≡ true
    on (moves x) =
        tells_current l (step l w c s).1.unit.registers (step l w c s).1.unit.values t
        (current_moves l s.unit i t _ _ _ x small leaves.behind leaves.not_filled (current_tells l s.unit.registers s.unit.values t current_before))
    on (writes writer a b) = absurd (true≢false (sym writer ∙ no_writer))
