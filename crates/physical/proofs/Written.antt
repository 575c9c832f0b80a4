-- The law of lists of writes: what stands in a double-word is the last accepted write to it.
use Rattle.std.proofs.Common.{◌≡◌, ℕ, true, false, List, [], ◌∷◌, ◌++◌, is_some, Some, Option, sym, refl, ap, ◌∙◌, subst, ⊎_elim, rules, arith}
use Rattle.std.proofs.lemmas.Bool.Decides.{nat_tests}
use Rattle.std.proofs.lemmas.Bool.{cases_Bool, cases_eq}
use Rattle.physical.specs.Stores.{Values, Writable, dword, written}
use Rattle.physical.specs.Writes.{LastAccepted, LastWriteStands, NoneAccepted, OneWrite, Stands, as_at_first, as_written, accepted, after_write, after_writes}
use Rattle.physical.specs.declared.writes.Write.{Write}

-- one write: what it leaves
pub one_write : OneWrite
one_write = search rules

written_present : (m : Values) (w : Writable) (k v q : ℕ) → is_some (written m w k v q) ≡ is_some (m q)
written_present m w k v q = grind (arith, nat_tests)

-- presence is as at first
present_after : (ws : List Write) (m : Values) (w : Writable) (q : ℕ) → is_some (after_writes m w ws q) ≡ is_some (m q)
present_after [] m w q = refl
present_after (x ∷ xs) m w q = present_after xs (after_write m w x) w q ∙ written_present m w (dword x.address) x.value q

-- a list that begins with x, taken apart at some write: there, or in what follows
split_first : (x : Write) (xs us : List Write) (y : Write) (vs : List Write) → x ∷ xs ≡ us ++ (y ∷ vs) → (P : List Write → Write → Type 0) →
    P [] x → ((us' vs' : List Write) (y' : Write) → xs ≡ us' ++ (y' ∷ vs') → P (x ∷ us') y') → P us y
split_first x xs [] y vs e P here there = let h : x ≡ y = cc in subst (P []) h here
split_first x xs (u ∷ us) y vs e P here there =
    let h : x ≡ u = cc in
    let t : xs ≡ us ++ (y ∷ vs) = cc in
    subst (λ z. P (z ∷ us) y) h (there us vs y t)

-- one write before a list: what stands after both
module _ (m : Values) (w : Writable) (x : Write) (xs : List Write) (q : ℕ) where
  k : ℕ
  k = dword x.address

  later_stands : (l : LastAccepted (after_write m w x) w xs q) → LastAccepted m w (x ∷ xs) q
  later_stands l = record {
    before = x ∷ l.before;
    last = l.last;
    later = l.later;
    place = ap (λ ys. x ∷ ys) l.place;
    target = l.target;
    accepts = l.accepts;
    none_later = l.none_later;
  }

  here_stands : k ≡ q → accepted m w x ≡ true → NoneAccepted (after_write m w x) w [] xs q → LastAccepted m w (x ∷ xs) q
  unfolding k
  here_stands t a none = record { before = []; last = x; later = xs; place = refl; target = t; accepts = a; none_later = none }

  none_stands : (k ≡ q → accepted m w x ≡ false) → NoneAccepted (after_write m w x) w [] xs q → NoneAccepted m w [] (x ∷ xs) q
  unfolding k
  none_stands h none us y vs e t =
      split_first x xs us y vs e (λ us y. dword y.address ≡ q → accepted (after_writes m w us) w y ≡ false) h (λ us vs y e t. none us y vs e t) t

  value_here : k ≡ q → accepted m w x ≡ true → after_write m w x q ≡ Some x.value
  unfolding k
  value_here t a = grind (arith, nat_tests)

  value_same : (k ≡ q → accepted m w x ≡ false) → after_write m w x q ≡ m q
  unfolding k
  value_same h = grind (arith, nat_tests)

  more_stands : {o : Option ℕ} → Stands (after_write m w x) w xs q o → Stands m w (x ∷ xs) q o
  unfolding later_stands here_stands
  more_stands (as_written l) = as_written (later_stands l)
  more_stands (as_at_first none) = ⊎_elim
      (λ (t : k ≡ q). ⊎_elim
      (λ (a : accepted m w x ≡ true). subst (Stands m w (x ∷ xs) q) (sym (value_here t a)) (as_written (here_stands t a none)))
      (λ (a : accepted m w x ≡ false). let h : k ≡ q → accepted m w x ≡ false = λ _. a in subst (Stands m w (x ∷ xs) q) (sym (value_same h)) (as_at_first (none_stands h none)))
      (cases_Bool (accepted m w x)))
      (λ (n : k ≡ q → ⊥). let h : k ≡ q → accepted m w x ≡ false = λ e. absurd (n e) in subst (Stands m w (x ∷ xs) q) (sym (value_same h)) (as_at_first (none_stands h none)))
      (cases_eq k q)

nowhere : (us : List Write) (x : Write) (vs : List Write) → [] ≡ us ++ (x ∷ vs) → ⊥
nowhere [] x vs e = cc
nowhere (u ∷ us) x vs e = cc

stands_after : (ws : List Write) (m : Values) (w : Writable) (q : ℕ) → Stands m w ws q (after_writes m w ws q)
stands_after [] m w q = as_at_first (λ us x vs e t. absurd (nowhere us x vs e))
stands_after (x ∷ xs) m w q = more_stands m w x xs q (stands_after xs (after_write m w x) w q)

pub last_write_stands : (m : Values) (w : Writable) (ws : List Write) (n : Values) → n ≡ after_writes m w ws → LastWriteStands m w ws n
last_write_stands m w ws n e = subst (LastWriteStands m w ws) (sym e) (record { stands = stands_after ws m w; presence = present_after ws m w })
