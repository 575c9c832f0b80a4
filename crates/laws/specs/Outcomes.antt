-- When two calls have the same outcome.
use Rattle.std.specs.Prelude.{◌≡◌, ℕ, ◌<◌, Bool, Some, None, Option}
use Rattle.physical.specs.Stores.{Values, Writable}
use Rattle.model.specs.States.{Outcome}

-- a double-word as it can be seen: absent, or its value and whether it can be written
abbrev pub seen : Option ℕ → Bool → Option (ℕ × Bool)
seen None can = None
seen (Some v) can = Some (v, can)

abbrev pub dword_count : ℕ
dword_count = 1073741824

-- two memories are equal when every double-word agrees in presence, value and writability
abbrev pub SameMemory : Values → Writable → Values → Writable → Type 0
SameMemory m w n u = (q : ℕ) → q < dword_count → seen (m q) (w q) ≡ seen (n q) (u q)

-- the same answer with all that it carries, the same registers, and equal memories, one writable as w says, the other as u
pub record SameOutcome {A : Type 0} (w u : Writable) (x y : Outcome A) : Type 0 where
  pub answer : x.answer ≡ y.answer
  pub registers : x.registers ≡ y.registers
  pub memory : SameMemory x.values w y.values u
