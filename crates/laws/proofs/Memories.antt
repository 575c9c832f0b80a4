-- Over two equal memories, what reads and writes them has the same outcome.
use Rattle.std.specs.Prelude.{◌==◌, if◌then◌else◌}
use Rattle.std.proofs.Common.{◌≡◌, ℕ, ◌<◌, Bool, true, false, Ok, Err, Option, Result, refl, ap, subst, arith}
use Rattle.entry.specs.Layout.{Layout}
use Rattle.entry.specs.declared.TableLevel.{TableLevel}
use Rattle.entry.specs.declared.TableLevel.TheVariants.{First, Second}
use Rattle.physical.specs.Stores.{Values, Writable, dword, replaced, write_answer, written}
use Rattle.model.specs.declared.call.Request.{Request}
use Rattle.model.specs.declared.refusal.Abort.{Abort}
use Rattle.model.specs.declared.registers.Registers.{Registers}
use Rattle.model.specs.declared.translation.Tag.{Tag}
use Rattle.model.specs.declared.translation.Translation.{Translation}
use Rattle.model.specs.Access.{uncached_access, uncached_through, walk_outcome}
use Rattle.model.specs.Requests.{Gate, stopped, untranslated, looking, access_gate, level_of, marks_modified, sought, validation_gate}
use Rattle.model.specs.States.{answered}
use Rattle.model.specs.Tlb.{base_of}
use Rattle.model.specs.Validation.{examine, examined, uncached_validate, uncached_validate_through}
use Rattle.model.specs.Walk.{and_then, marked, passed, touched, walk, walk_second}
use Rattle.laws.specs.Outcomes.{SameMemory, SameOutcome, seen}

-- what can be seen of a double-word tells its value
pub seen_value : (x y : Option ℕ) (b c : Bool) → seen x b ≡ seen y c → x ≡ y
seen_value x y b c h = grind arith

pub dword_small : (a : ℕ) → dword a < 1073741824
dword_small a = omega arith

seen_write : (x y : Option ℕ) (b c : Bool) → seen x b ≡ seen y c → write_answer x b ≡ write_answer y c
seen_write x y b c h = grind arith

seen_replaced : (v : ℕ) (x y : Option ℕ) (b c : Bool) → seen x b ≡ seen y c → seen (replaced v x b) b ≡ seen (replaced v y c) c
seen_replaced v x y b c h = grind arith

module _ (w u : Writable) where
  -- the same answer, and equal memories
  abbrev pub SamePair : {A : Type 0} → A × Values → A × Values → Type 0
  SamePair x y = (x.0 ≡ y.0) × SameMemory x.1 w y.1 u

  module _ (m n : Values) (same : SameMemory m w n u) where
    pub same_read : (a : ℕ) → m (dword a) ≡ n (dword a)
    same_read a = seen_value (m (dword a)) (n (dword a)) (w (dword a)) (u (dword a)) (same (dword a) (dword_small a))

    pub same_write : (a : ℕ) → write_answer (m (dword a)) (w (dword a)) ≡ write_answer (n (dword a)) (u (dword a))
    same_write a = seen_write (m (dword a)) (n (dword a)) (w (dword a)) (u (dword a)) (same (dword a) (dword_small a))

    pub same_written : (k v : ℕ) → SameMemory (written m w k v) w (written n u k v) u
    same_written k v q small = on (q == k)
      where
        on : (b : Bool) → seen (if b then replaced v (m q) (w q) else m q) (w q) ≡ seen (if b then replaced v (n q) (u q) else n q) (u q)
        on true = seen_replaced v (m q) (n q) (w q) (u q) (same q small)
        on false = same q small

    same_touched : (l : Layout) (t : TableLevel) (b : Bool) (a e : ℕ) → SamePair (touched l t b a e m w) (touched l t b a e n u)
    same_touched l t b a e = on (marked l t b e == e) refl
      where
        on : (c : Bool) → marked l t b e == e ≡ c → SamePair (touched l t b a e m w) (touched l t b a e n u)
        on true c = rw (c, touched) (refl, same)
        on false c = rw (c, touched, same_write a) (refl, same_written (dword a) (marked l t b e))

  -- steps that are the same, and followed by the same
  same_then : {A B : Type 0} (x y : Result A Abort × Values) (f g : A → Values → Result B Abort × Values) → SamePair x y →
      ((z : A) (m n : Values) → SameMemory m w n u → SamePair (f z m) (g z n)) → SamePair (and_then x f) (and_then y g)
  same_then (Ok z, m) (y, n) f g (h, s) next = rw (← h) (next z m n s)
  same_then (Err z, m) (y, n) f g (h, s) next = rw (← h) (refl, s)

  same_second : (m n : Values) → SameMemory m w n u → (l : Layout) (level : ℕ) (b : Bool) (tag : Tag) (a e c : ℕ) → SamePair (walk_second l level b tag a e c m w) (walk_second l level b tag a e c n u)
  same_second m n same l level b tag a e c =
      same_then _ _ _ _ (ap (passed l Second level c) (same_read m n same c), same) (λ f p q s.
      same_then _ _ _ _ (same_touched p q s l Second b c f) (λ g p' q' s'. (refl, s')))

  same_walk : (m n : Values) → SameMemory m w n u → (l : Layout) (level : ℕ) (b : Bool) (tag : Tag) (base : ℕ) → SamePair (walk l level b tag base m w) (walk l level b tag base n u)
  same_walk m n same l level b tag base =
      let a = l.first_entry base tag.page in
      same_then _ _ _ _ (ap (passed l First level a) (same_read m n same a), same) (λ e p q s.
      same_then _ _ _ _ (same_touched p q s l First false a e) (λ g p' q' s'. same_second p' q' s' l level b tag a g (l.second_entry (l.frame g) tag.page)))

  -- equal ends of walks have equal outcomes
  same_walk_outcome : (l : Layout) (q : Request) (r : Registers) (x y : Result Translation Abort × Values) → SamePair x y → SameOutcome w u (walk_outcome l q r x) (walk_outcome l q r y)
  same_walk_outcome l q r (Ok t, m) (y, n) (h, s) = subst (λ z. SameOutcome w u (walk_outcome l q r (Ok t, m)) (walk_outcome l q r (z, n))) h (record { answer = refl; registers = refl; memory = s })
  same_walk_outcome l q r (Err z, m) (y, n) (h, s) = subst (λ k. SameOutcome w u (walk_outcome l q r (Err z, m)) (walk_outcome l q r (k, n))) h (record { answer = refl; registers = refl; memory = s })

  -- the same answer and registers, over equal memories
  pub same_answered : {A : Type 0} (x : A) (r : Registers) (m n : Values) → SameMemory m w n u → SameOutcome w u (answered x r m) (answered x r n)
  same_answered x r m n same = record { answer = refl; registers = refl; memory = same }

  pub same_uncached_access : (l : Layout) (mode kind address : ℕ) (r : Registers) (m n : Values) → SameMemory m w n u → SameOutcome w u (uncached_access l mode kind address r m w) (uncached_access l mode kind address r n u)
  same_uncached_access l mode kind address r m n same = on (access_gate r mode kind address)
    where
      on : (g : Gate) → SameOutcome w u (uncached_through l g r m w) (uncached_through l g r n u)
      on (stopped x r') = same_answered _ r' m n same
      on (untranslated q) = same_answered _ r m n same
      on (looking q) = same_walk_outcome l q r _ _ (same_walk m n same l (level_of r q) (marks_modified q.kind) (sought l r q) (base_of r (sought l r q)))

  same_examine : (m n : Values) → SameMemory m w n u → (l : Layout) (level : ℕ) (tag : Tag) (base : ℕ) → examine l level tag base m ≡ examine l level tag base n
  same_examine m n same l level tag base = grind (arith, same_read m n same)

  pub same_uncached_validate : (l : Layout) (kind address : ℕ) (r : Registers) (m n : Values) → SameMemory m w n u → SameOutcome w u (uncached_validate l kind address r m) (uncached_validate l kind address r n)
  same_uncached_validate l kind address r m n same = on (validation_gate r kind address)
    where
      examined_same : (q : Request) (x : Result Bool Abort) → SameOutcome w u (examined q r m x) (examined q r n x)
      examined_same q (Ok flag) = same_answered _ r m n same
      examined_same q (Err x) = record { answer = refl; registers = refl; memory = same }

      on : (g : Gate) → SameOutcome w u (uncached_validate_through l g r m) (uncached_validate_through l g r n)
      on (stopped x r') = same_answered _ r' m n same
      on (untranslated q) = same_answered _ r m n same
      on (looking q) =
          subst (λ x. SameOutcome w u (examined q r m (examine l (level_of r q) (sought l r q) (base_of r (sought l r q)) m)) (examined q r n x)) (same_examine m n same l (level_of r q) (sought l r q) (base_of r (sought l r q)))
          (examined_same q _)
