-- A double-word that is stored among bytes, and what it leaves of the others.
use Rattle.std.proofs.Common.{◌≡◌, ℕ, ◌+◌, ◌-◌, ◌*◌, ◌<◌, ◌≤◌, ◌⊎◌, List, [], ◌∷◌, length, zero, suc, Some, Option, refl, ap, inl, inr, ⊎_elim, arith, length-set}
use mathlib.Core.Path.{fun_ext}
use Rattle.std.proofs.lemmas.List.{get_or-set_same, get_or-set_other}
use Rattle.std.proofs.lemmas.Bool.Decides.{nat_tests}
use Rattle.std.proofs.lemmas.Bool.{cases_lt, cases_order}
use native.Mathlib.Numerals.{unary_clauses}
use borrow.Rule.Slice.PartMut.{put_mid}
use Rattle.std.specs.Int.{to_le_bytes, w32}
use Rattle.physical.specs.Stores.{written}
use Rattle.physical.specs.Made.{everywhere, placed}
use Rattle.physical.specs.Bytes.{dword_at, laid, stored}

module _ (bs : List ℕ) (i v : ℕ) where
  stored_same : i + 4 ≤ length bs → v < 4294967296 → dword_at (stored bs i v) i ≡ v
  stored_same h l = grind (arith, get_or-set_same, get_or-set_other, length-set)

  stored_other : (j : ℕ) → (j + 4 ≤ i) ⊎ (i + 4 ≤ j) → dword_at (stored bs i v) j ≡ dword_at bs j
  stored_other j h = grind (arith, get_or-set_other)

  pub length_stored : length (stored bs i v) ≡ length bs
  length_stored = simp length-set

-- to store one double-word among the bytes is to write it, and it alone
pub laid_stored : (start k v i : ℕ) (bs : List ℕ) → k * 4 ≡ start + i → i + 4 ≤ length bs → v < 4294967296 → laid start (stored bs i v) ≡ written (laid start bs) everywhere k v
laid_stored start k v i bs at fits small = fun_ext (λ q.
    let here = stored_same bs i v fits small in
    let n = length_stored bs i v in
    let apart = stored_other bs i v (q * 4 - start) in
    ⊎_elim (λ (e : q ≡ k). rw e (grind (arith, nat_tests)))
    (⊎_elim
    (λ (lt : q < k). ⊎_elim (λ (e : q * 4 < start). grind (arith, nat_tests)) (λ (e : start ≤ q * 4). let o = apart (inl (omega arith)) in grind (arith, nat_tests)) (cases_lt (q * 4) start))
    (λ (gt : k < q). let o = apart (inr (omega arith)) in grind (arith, nat_tests)))
    (cases_order q k))

-- the four bytes of a number, put into the place of four others
put_four_stored : (bs : List ℕ) (i v : ℕ) → i + 4 ≤ length bs → put_mid i 4 bs (to_le_bytes w32 v) ≡ stored bs i v
put_four_stored [] i v fits = absurd (omega arith)
put_four_stored (b ∷ bs) (suc i) v fits = simp unary_clauses (simp unary_clauses at (ap (λ l. b ∷ l) (put_four_stored bs i v (omega arith))))
put_four_stored (a ∷ []) zero v fits = absurd (omega arith)
put_four_stored (a ∷ b ∷ []) zero v fits = absurd (omega arith)
put_four_stored (a ∷ b ∷ c ∷ []) zero v fits = absurd (omega arith)
put_four_stored (a ∷ b ∷ c ∷ d ∷ bs) zero v fits = refl

pub put_mid_stored : (bs : List ℕ) (i k v : ℕ) → k ≡ 4 → i + 4 ≤ length bs → put_mid i k bs (to_le_bytes w32 v) ≡ stored bs i v
put_mid_stored bs i k v is fits = rw is (put_four_stored bs i v fits)

-- what the bytes hold, from where their start puts them on, once the double-word that was found at i is stored
pub placed_stored_at : (start : Option ℕ) (k v i : ℕ) (bs bs' : List ℕ) → bs' ≡ stored bs i v → start ≡ Some (k * 4 - i) → i ≤ k * 4 → i + 4 ≤ length bs → v < 4294967296 →
    placed start bs' ≡ written (placed start bs) everywhere k v
placed_stored_at start k v i bs bs' is at low fits small = rw (is, at) (laid_stored (k * 4 - i) k v i bs (omega arith) fits small)
