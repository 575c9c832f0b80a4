-- Lists of writes: what they leave, and the law of what a read then answers.
use Rattle.std.specs.Prelude.{◌≡◌, ℕ, ◌+◌, Bool, List, IsTrue, IsFalse, [], ◌∷◌, ◌++◌, is_some, is_ok, Some, Ok, Err, Option, Result, ◌≢◌, if◌then◌else◌}
use Rattle.physical.specs.Stores.{Values, Writable, dword, read_answer, reason_number, write_answer, written}
use Rattle.physical.specs.declared.MemoryError.{MemoryError}
use Rattle.physical.specs.declared.writes.Write.{Write}

-- whether the write x, made now, is accepted
abbrev pub accepted : Values → Writable → Write → Bool
accepted m w x = is_ok (write_answer (m (dword x.address)) (w (dword x.address)))

-- the values after the write x, accepted or not
abbrev pub after_write : Values → Writable → Write → Values
after_write m w x = written m w (dword x.address) x.value

-- the values after all writes of a list, made in its order
abbrev pub after_writes : Values → Writable → List Write → Values
after_writes m w [] = m
after_writes m w (x ∷ xs) = after_writes (after_write m w x) w xs

-- how many of them are accepted
abbrev pub accepted_count : Values → Writable → List Write → ℕ
accepted_count m w [] = 0
accepted_count m w (x ∷ xs) = (if accepted m w x then 1 else 0) + accepted_count (after_write m w x) w xs

-- of the writes in xs, made once those in `before` were made, none to the double-word q is accepted
abbrev pub NoneAccepted : Values → Writable → List Write → List Write → ℕ → Type 0
NoneAccepted m w before xs q = (us : List Write) (x : Write) (vs : List Write) → xs ≡ us ++ (x ∷ vs) → dword x.address ≡ q → IsFalse (accepted (after_writes m w (before ++ us)) w x)

-- a write of the list to the double-word q that is accepted, and the last one that is
pub record LastAccepted (m : Values) (w : Writable) (ws : List Write) (q : ℕ) : Type 0 where
  pub before : List Write
  pub last : Write
  pub later : List Write
  pub place : ws ≡ before ++ (last ∷ later)
  pub target : dword last.address ≡ q
  pub accepts : IsTrue (accepted (after_writes m w before) w last)
  pub none_later : NoneAccepted m w (before ++ (last ∷ [])) later q

-- what may stand in the double-word q after the writes of the list:
-- the value of the last accepted write to it, and where there is none, what first stood there
pub data Stands (m : Values) (w : Writable) (ws : List Write) (q : ℕ) : Option ℕ → Type 0 where
  as_written : (l : LastAccepted m w ws q) → Stands m w ws q (Some l.last.value)
  as_at_first : NoneAccepted m w [] ws q → Stands m w ws q (m q)

-- n are the values after the writes: by what stands in each double-word, with presence as at first
pub record LastWriteStands (m : Values) (w : Writable) (ws : List Write) (n : Values) : Type 0 where
  pub stands : (q : ℕ) → Stands m w ws q (n q)
  pub presence : (q : ℕ) → is_some (n q) ≡ is_some (m q)

-- what a read and a write answer, in numbers: 0 where done, else the reason
abbrev pub outcome_number : {X : Type 0} → Result X MemoryError → ℕ
outcome_number (Ok x) = 0
outcome_number (Err e) = reason_number e

-- reason 1 exactly where absent; reason 2 exactly for a write where present and read-only
pub record Reasons : Type 0 where
  pub of_read : (o : Option ℕ) → outcome_number (read_answer o) ≡ (if is_some o then 0 else 1)
  pub of_write : (o : Option ℕ) (w : Bool) → outcome_number (write_answer o w) ≡ (if is_some o then (if w then 0 else 2) else 1)

-- one write: refused, it alters nothing; accepted, it replaces its double-word and no other
pub record OneWrite : Type 0 where
  pub refused : (m : Values) (w : Writable) (k v : ℕ) (e : MemoryError) → write_answer (m k) (w k) ≡ Err e → written m w k v ≡ m
  pub replaces : (m : Values) (w : Writable) (k v : ℕ) → write_answer (m k) (w k) ≡ Ok tt → read_answer (written m w k v k) ≡ Ok v
  pub no_other : (m : Values) (w : Writable) (k v q : ℕ) → (q ≢ k) → written m w k v q ≡ m q
