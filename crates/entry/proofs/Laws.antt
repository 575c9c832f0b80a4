-- The layout meets the laws that a walk rests on.
use Rattle.std.proofs.Common.{◌≡◌, ℕ, ◌^◌, ◌<◌, ◌==◌, refl, ap, arith, lit≤}
use lib.Bits.{bit_or}
use Rattle.std.proofs.lemmas.Bool.Decides.{nat_tests}
use Rattle.entry.specs.Bits.{bit, flag}
use Rattle.entry.specs.Layout.{DistinctFrames, Lawful}
use Rattle.entry.specs.NS32382.{ns32382}
use Rattle.entry.proofs.Bitwise.{beside}
use Rattle.entry.proofs.Marking.{marks}

-- a mark leaves the flag of another bit
flag_beside : (j k : ℕ) → bit j (2 ^ k) ≡ 0 → (e : ℕ) → flag j (bit_or e (2 ^ k)) ≡ flag j e
flag_beside j k none e = ap (λ x. x == 1) (beside j 1 e (2 ^ k) none)

pub lawful : Lawful ns32382
lawful = record {
  referenced_set = λ t e. grind (arith, nat_tests, (marks 7).sets e);
  referenced_stays = λ t e set. grind (arith, nat_tests, (marks 7).marked_stays e);
  referenced_valid = λ t e. flag_beside 0 7 refl e;
  referenced_protection = λ t e. beside 1 2 e (2 ^ 7) refl;
  referenced_frame = λ t e. beside 12 20 e (2 ^ 7) refl;
  referenced_modified = λ t u e. grind (arith, flag_beside 8 7 refl e);
  referenced_inhibit = λ t u e. grind (arith, flag_beside 6 7 refl e);
  modified_set = λ e. grind (arith, nat_tests, (marks 8).sets e);
  modified_first = λ e. refl;
  modified_stays = λ t e set. grind (arith, nat_tests, (marks 8).marked_stays e);
  modified_valid = λ t e. grind (arith, flag_beside 0 8 refl e);
  modified_protection = λ t e. grind (arith, beside 1 2 e (2 ^ 8) refl);
  modified_frame = λ t e. grind (arith, beside 12 20 e (2 ^ 8) refl);
  modified_referenced = λ t e. grind (arith, flag_beside 7 8 refl e);
  modified_inhibit = λ t u e. grind (arith, flag_beside 6 8 refl e);
  first_modified = λ e. refl;
  first_inhibit = λ e. refl;
  protection_small = λ e. omega arith;
  address_parts = λ a. omega arith;
  offset_small = λ a. omega arith;
  page_start = λ p. omega arith;
  pages_fit = lit≤ tt;
  page_small = λ a h. omega arith;
  base_zero = refl;
  base_again = λ v. omega arith;
  first_entry_small = λ v p h. omega arith;
  second_entry_small = λ f p. omega arith;
  physical_small = λ f a. omega arith;
}

-- two frames that put an offset into the same place are one
same_frame : (x y o : ℕ) → x < 1048576 → y < 1048576 → ns32382.physical x o ≡ ns32382.physical y o → x ≡ y
same_frame x y o small small' h = omega arith

pub distinct_frames : DistinctFrames ns32382
distinct_frames e f a same = same_frame (ns32382.frame e) (ns32382.frame f) (ns32382.offset a) (omega arith) (omega arith) same
