-- Joining a power of two marks that bit.
use Rattle.std.proofs.Common.{◌≡◌, ℕ, ◌*◌, ◌^◌, ap, ◌∙◌, arith}
use lib.Bits.{bit_or, or_add_and}
use Rattle.std.proofs.lemmas.Nat.Bits.{and_pow, bit_at-lt, bit_at-pow_other, bit_at-pow_same, bit_at_or}
use Rattle.entry.specs.Bits.{bit, Marks}

-- for every bit k
pub marks : (k : ℕ) → Marks k (λ w. bit_or w (2 ^ k))
marks k = record {
  sets = sets;
  clears_nothing = λ w j set. omega (arith, bit_at_or w (2 ^ k) j, bit_at-lt (2 ^ k) j);
  alters_no_other = λ w j apart. omega (arith, bit_at_or w (2 ^ k) j, bit_at-pow_other k j apart);
  twice_is_once = λ w. stays (bit_or w (2 ^ k)) (sets w);
  marked_stays = stays;
}
  where
    sets : (w : ℕ) → bit k (bit_or w (2 ^ k)) ≡ 1
    sets w = omega (arith, bit_at_or w (2 ^ k) k, bit_at-pow_same k, bit_at-lt w k)

    stays : (w : ℕ) → bit k w ≡ 1 → bit_or w (2 ^ k) ≡ w
    stays w set = let e = and_pow w k ∙ ap (λ x. x * 2 ^ k) set in omega (arith, e, or_add_and w (2 ^ k))
