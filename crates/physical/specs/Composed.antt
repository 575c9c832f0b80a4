-- What stores made of stores hold.
use Rattle.std.specs.Prelude.{ℕ, ◌-◌, if◌then◌else◌, nat_lt}

-- the first below the double-word k, the second from k on
abbrev pub paired : {X : Type 0} → ℕ → (ℕ → X) → (ℕ → X) → ℕ → X
paired k m n q = if nat_lt q k then m q else n q

-- moved up by k double-words; x stands for what is below them
abbrev pub shifted : {X : Type 0} → ℕ → X → (ℕ → X) → ℕ → X
shifted k x m q = if nat_lt q k then x else m (q - k)
