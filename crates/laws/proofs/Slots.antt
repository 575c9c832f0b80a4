-- Lemmas of slots: what a search finds, what is left after dropping and filling.
use Rattle.std.specs.Prelude.{if◌then◌else◌}
use Rattle.std.proofs.Common.{◌≡◌, ℕ, zero, suc, Bool, true, false, ◌⊎◌, [], ◌∷◌, get_or, replicate, Some, None, Option, sym, refl, ap, ◌∙◌, inl, inr, arith}
use Rattle.std.proofs.lemmas.Bool.Decides.{nat_tests}
use Rattle.std.proofs.lemmas.Option.{same_Some}
use Rattle.model.specs.declared.translation.Hit.{Hit}
use Rattle.model.specs.declared.translation.Tag.{Tag}
use Rattle.model.specs.declared.translation.Translation.{Translation}
use Rattle.model.specs.Tlb.{Holds, Slots, Which, dropped, filled, find, find_from, same_tag, without}
use Rattle.laws.specs.Transparency.{Unique}

-- equal tags
pub tag_true : (t u : Tag) → same_tag t u ≡ true → t ≡ u
tag_true t u h =
    let space : t.space ≡ u.space = grind (arith, nat_tests) in
    let page : t.page ≡ u.page = grind (arith, nat_tests) in
    λ i. record { space = space i; page = page i }

pub tag_refl : (t : Tag) → same_tag t t ≡ true
tag_refl t = grind (arith, nat_tests)

pub tag_false : (t u : Tag) → same_tag t u ≡ false → t ≡ u → ⊥
tag_false t u h e = let z = tag_refl u in cc

-- what stands after dropping stood there before, and is none of those dropped
pub dropped_some : (which : Which) (o : Option Translation) (t : Translation) → dropped which o ≡ Some t → (o ≡ Some t) × (which t ≡ false)
dropped_some which None t h = cc
dropped_some which (Some x) t h = (grind arith, grind arith)

pub without_holds : (which : Which) (xs : Slots) (i : ℕ) (t : Translation) → Holds (without which xs) i t → Holds xs i t × (which t ≡ false)
without_holds which [] i t h = absurd cc
without_holds which (o ∷ xs) zero t h = dropped_some which o t h
without_holds which (o ∷ xs) (suc i) t h = without_holds which xs i t h

-- what stands after a filling is what was put there, or stood elsewhere
pub filled_holds : (xs : Slots) (i j : ℕ) (n t : Translation) → Holds (filled j n xs) i t → ((i ≡ j) × (t ≡ n)) ⊎ ((i ≡ j → ⊥) × Holds xs i t)
filled_holds [] i j n t h = absurd cc
filled_holds (o ∷ xs) zero zero n t h = inl (refl, cc)
filled_holds (o ∷ xs) zero (suc j) n t h = inr (omega arith, h)
filled_holds (o ∷ xs) (suc i) zero n t h = inr (omega arith, h)
filled_holds (o ∷ xs) (suc i) (suc j) n t h = elim (filled_holds xs i j n t h) [ inl (e, f) ↦ inl (ap suc e, f) | inr (e, f) ↦ inr (λ q. e (omega arith), f) ]

-- what a search finds is kept under the tag, and where it finds nothing none is
pub found_holds : (k : ℕ) (tag : Tag) (xs : Slots) (h : Hit) → find_from k tag xs ≡ Some h → (i : ℕ) × Holds xs i h.translation × (h.translation.tag ≡ tag)
found_holds k tag [] h e = absurd cc
found_holds k tag (None ∷ xs) h e = let r = found_holds (suc k) tag xs h e in (suc r.0, r.1, r.2)
found_holds k tag (Some x ∷ xs) h e = go (same_tag x.tag tag) refl e (found_holds (suc k) tag xs h)
  where
    go : (b : Bool) → same_tag x.tag tag ≡ b → (if b then Some (record { slot = k; translation = x }) else find_from (suc k) tag xs) ≡ Some h →
        (find_from (suc k) tag xs ≡ Some h → (i : ℕ) × Holds xs i h.translation × (h.translation.tag ≡ tag)) →
        (i : ℕ) × Holds (Some x ∷ xs) i h.translation × (h.translation.tag ≡ tag)
    go true q g ih =
        let same : x ≡ h.translation = ap (λ y. y.translation) (same_Some _ h g) in
        (0, ap Some same, ap (λ y. y.tag) (sym same) ∙ tag_true x.tag tag q)
    go false q g ih = let r = ih g in (suc r.0, r.1, r.2)

pub none_holds : (k : ℕ) (tag : Tag) (xs : Slots) (i : ℕ) (t : Translation) → find_from k tag xs ≡ None → Holds xs i t → t.tag ≡ tag → ⊥
none_holds k tag [] i t n h e = cc
none_holds k tag (None ∷ xs) zero t n h e = cc
none_holds k tag (None ∷ xs) (suc i) t n h e = none_holds (suc k) tag xs i t n h e
none_holds k tag (Some x ∷ xs) zero t n h e = let z = tag_refl tag in grind arith
none_holds k tag (Some x ∷ xs) (suc i) t n h e = let z : find_from (suc k) tag xs ≡ None = grind arith in none_holds (suc k) tag xs i t z h e

-- kept once, it is found
pub kept_found : (xs : Slots) → Unique xs → (i : ℕ) (t : Translation) (tag : Tag) → Holds xs i t → t.tag ≡ tag → (h : Hit) × (find tag xs ≡ Some h) × (h.translation ≡ t)
kept_found xs unique i t tag h e = go (find tag xs) refl
  where
    go : (r : Option Hit) → find tag xs ≡ r → (y : Hit) × (find tag xs ≡ Some y) × (y.translation ≡ t)
    go None q = absurd (none_holds 0 tag xs i t q h e)
    go (Some y) q =
        let (j, g, s) = found_holds 0 tag xs y q in
        let same : i ≡ j = unique i j t y.translation h g (e ∙ sym s) in
        (y, q, same_Some y.translation t (sym g ∙ ap (λ k. get_or xs k None) (sym same) ∙ h))

pub unique_without : (which : Which) (xs : Slots) → Unique xs → Unique (without which xs)
unique_without which xs unique i j t u h g e = unique i j t u (without_holds which xs i t h).0 (without_holds which xs j u g).0 e

-- a translation whose tag no other slot has
pub unique_filled : (xs : Slots) (j : ℕ) (n : Translation) → Unique xs → ((i : ℕ) (t : Translation) → Holds xs i t → t.tag ≡ n.tag → ⊥) → Unique (filled j n xs)
unique_filled xs j n unique alone a b t u h g e = go (filled_holds xs a j n t h) (filled_holds xs b j n u g)
  where
    go : ((a ≡ j) × (t ≡ n)) ⊎ ((a ≡ j → ⊥) × Holds xs a t) → ((b ≡ j) × (u ≡ n)) ⊎ ((b ≡ j → ⊥) × Holds xs b u) → a ≡ b
    go (inl (p, q)) (inl (p', q')) = p ∙ sym p'
    go (inl (p, q)) (inr (p', q')) = absurd (alone b u q' (sym e ∙ ap (λ y. y.tag) q))
    go (inr (p, q)) (inl (p', q')) = absurd (alone a t q (e ∙ ap (λ y. y.tag) q'))
    go (inr (p, q)) (inr (p', q')) = unique a b t u q q' e

pub none_kept : (i : ℕ) (t : Translation) (n : ℕ) → Holds (replicate n None) i t → ⊥
none_kept i t zero h = cc
none_kept zero t (suc n) h = cc
none_kept (suc i) t (suc n) h = none_kept i t n h
