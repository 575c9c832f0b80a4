-- What it means that a translation is current, and what keeps it so.
use Rattle.std.proofs.Common.{◌≡◌, ℕ, ◌<◌, ◌≤◌, min, Bool, true, false, Some, None, Option, sym, refl, ap, ◌∙◌, ap₂, arith}
use Rattle.std.proofs.lemmas.Bool.{true≢false}
use Rattle.std.proofs.lemmas.Bool.Decides.{nat_tests}
use Rattle.entry.specs.Layout.{Layout, Lawful}
use Rattle.entry.specs.declared.TableLevel.TheVariants.{First, Second}
use Rattle.physical.specs.Stores.{Values, dword}
use Rattle.model.specs.declared.registers.Registers.{Registers}
use Rattle.model.specs.declared.translation.Tag.{Tag}
use Rattle.model.specs.declared.translation.Translation.{Translation}
use Rattle.model.specs.Currency.{current, found_now, says_as, used_entry}
use Rattle.model.specs.Tlb.{base_of}
use Rattle.model.specs.Walk.{found}
use Rattle.laws.proofs.Marking.{Grown, Later, grown_trans, marked_valid, marked_referenced}
use Rattle.laws.proofs.Walks.{Finished}

-- an entry that a walk of level 0 would use as it stands
pub record Used (l : Layout) (a : ℕ) (m : Values) (e : ℕ) : Type 0 where
  pub reads : m (dword a) ≡ Some e
  pub valid : l.valid e ≡ true
  pub referenced : l.referenced e ≡ true

-- both entries, and what the translation says of them
pub record Current (l : Layout) (base : ℕ) (m : Values) (t : Translation) : Type 0 where
  pub first : ℕ
  pub second : ℕ
  pub first_used : Used l (l.first_entry base t.tag.page) m first
  pub second_used : Used l (l.second_entry (l.frame first) t.tag.page) m second
  pub protection : t.protection ≡ min (l.protection first) (l.protection second)
  pub frame : t.frame ≡ l.frame second
  pub inhibit : t.inhibit ≡ l.inhibit Second second
  pub modified : t.modified ≡ true → 0 < t.protection → l.modified Second second ≡ true

-- a public name, whose statement no other lemma has
pub used_is : (l : Layout) (a : ℕ) (m : Values) (e : ℕ) → Used l a m e → used_entry l a m ≡ Some e
used_is l a m e u = rw (u.reads, u.valid, u.referenced) refl

pub used_from : (l : Layout) (a : ℕ) (m : Values) (e : ℕ) → used_entry l a m ≡ Some e → Used l a m e
used_from l a m e h = record { reads = grind arith; valid = grind arith; referenced = grind arith }

-- where the two entries of a translation lie now, and what they give
abbrev pub first_now : Layout → Registers → Translation → ℕ
first_now l r t = l.first_entry (base_of r t.tag) t.tag.page

abbrev pub second_now : Layout → Translation → ℕ → ℕ
second_now l t e = l.second_entry (l.frame e) t.tag.page

abbrev pub now_found : Layout → Registers → Translation → ℕ → ℕ → Translation
now_found l r t e f = found l t.tag (first_now l r t) e (second_now l t e) f

pub current_tells : (l : Layout) (r : Registers) (m : Values) (t : Translation) → current l r m t ≡ true → Current l (base_of r t.tag) m t
current_tells l r m t h = on (used_entry l (first_now l r t) m) refl
  where
    on_second : (e : ℕ) → used_entry l (first_now l r t) m ≡ Some e → (o : Option ℕ) → used_entry l (second_now l t e) m ≡ o → Current l (base_of r t.tag) m t
    on_second e q None p = absurd (true≢false (sym h ∙ rw (q, current, p)))
    on_second e q (Some f) p =
        let says : says_as t (now_found l r t e f) ≡ true = rw (q, current, p) at h in
        record {
          first = e;
          second = f;
          first_used = used_from l _ m e q;
          second_used = used_from l _ m f p;
          protection = grind (arith, nat_tests);
          frame = grind (arith, nat_tests);
          inhibit = grind (arith, nat_tests);
          modified = λ d above. grind (arith, nat_tests);
        }

    on : (o : Option ℕ) → used_entry l (first_now l r t) m ≡ o → Current l (base_of r t.tag) m t
    on None q = absurd (true≢false (sym h ∙ rw (q, current)))
    on (Some e) q = on_second e q _ refl

pub tells_current : (l : Layout) (r : Registers) (m : Values) (t : Translation) → Current l (base_of r t.tag) m t → current l r m t ≡ true
tells_current l r m t c = grind (arith, nat_tests)

-- what a walk finds now of a current translation's entries
pub current_found : (l : Layout) (r : Registers) (m : Values) (t : Translation) → (c : Current l (base_of r t.tag) m t) →
    found_now l t.tag (base_of r t.tag) m ≡ Some (now_found l r t c.first c.second)
current_found l r m t c = grind arith

-- more than current: read from the entries that a walk finds now, and modified whenever it says so
pub record Grounded (l : Layout) (base : ℕ) (m : Values) (t : Translation) : Type 0 where
  pub now : Current l base m t
  pub first_address : t.first ≡ l.first_entry base t.tag.page
  pub second_address : t.second ≡ l.second_entry (l.frame now.first) t.tag.page
  pub modified : t.modified ≡ true → l.modified Second now.second ≡ true

-- marks leave it so, on whatever entries they are made
used_grown : (l : Layout) (m n : Values) (a e : ℕ) → (u : Used l a m e) → (x : Later l e (n (dword a))) → Used l a n x.entry
used_grown l m n a e u x = record { reads = x.reads; valid = x.valid ∙ u.valid; referenced = x.referenced u.referenced }

pub current_grown : (l : Layout) (base : ℕ) (m n : Values) (t : Translation) → Grown l m n → Current l base m t → Current l base n t
current_grown l base m n t g c =
    let x = g (dword (l.first_entry base t.tag.page)) c.first c.first_used.reads in
    let y = g (dword (l.second_entry (l.frame c.first) t.tag.page)) c.second c.second_used.reads in
    record {
      first = x.entry;
      second = y.entry;
      first_used = used_grown l m n _ c.first c.first_used x;
      second_used = rw x.frame (used_grown l m n _ c.second c.second_used y);
      protection = c.protection ∙ sym (ap₂ min x.protection y.protection);
      frame = c.frame ∙ sym y.frame;
      inhibit = c.inhibit ∙ sym y.inhibit;
      modified = λ d p. y.modified (c.modified d p);
    }

pub grounded_grown : (l : Layout) (base : ℕ) (m n : Values) (t : Translation) → Grown l m n → Grounded l base m t → Grounded l base n t
unfolding current_grown
grounded_grown l base m n t g s =
    let c = s.now in
    let x = g (dword (l.first_entry base t.tag.page)) c.first c.first_used.reads in
    let y = g (dword (l.second_entry (l.frame c.first) t.tag.page)) c.second c.second_used.reads in
    record {
      now = current_grown l base m n t g c;
      first_address = s.first_address;
      second_address = s.second_address ∙ ap (λ f. l.second_entry f t.tag.page) (sym x.frame);
      modified = λ d. y.modified (s.modified d);
    }

-- it rests on the two double-words that it was read from
pub grounded_at : (l : Layout) (base : ℕ) (m n : Values) (t : Translation) → n (dword t.first) ≡ m (dword t.first) → n (dword t.second) ≡ m (dword t.second) → Grounded l base m t → Grounded l base n t
grounded_at l base m n t e f s =
    let c = s.now in
    let u = c.first_used in
    let v = c.second_used in
    let first : n (dword (l.first_entry base t.tag.page)) ≡ m (dword (l.first_entry base t.tag.page)) = rw s.first_address at e in
    let second : n (dword (l.second_entry (l.frame c.first) t.tag.page)) ≡ m (dword (l.second_entry (l.frame c.first) t.tag.page)) = rw s.second_address at f in
    record {
      now = record {
        first = c.first;
        second = c.second;
        first_used = record { reads = first ∙ u.reads; valid = u.valid; referenced = u.referenced };
        second_used = record { reads = second ∙ v.reads; valid = v.valid; referenced = v.referenced };
        protection = c.protection;
        frame = c.frame;
        inhibit = c.inhibit;
        modified = c.modified;
      };
      first_address = s.first_address;
      second_address = s.second_address;
      modified = s.modified;
    }

pub grounded_current : (l : Layout) (r : Registers) (m : Values) (t : Translation) → Grounded l (base_of r t.tag) m t → current l r m t ≡ true
grounded_current l r m t s = tells_current l r m t s.now

-- what a finished walk found: its tag, and that it is grounded in the memory that the walk left
pub finished_tag : (l : Layout) (level : ℕ) (b : Bool) (tag : Tag) (base : ℕ) (m : Values) (t : Translation) (p : Values) → Finished l level b tag base m t p → t.tag ≡ tag
finished_tag l level b tag base m t p f = ap (λ y. y.tag) f.finds

pub finished_grown : (l : Layout) (level : ℕ) (b : Bool) (tag : Tag) (base : ℕ) (m : Values) (t : Translation) (p : Values) → Finished l level b tag base m t p → Grown l m p
finished_grown l level b tag base m t p f = grown_trans l m f.between p f.first_touched.grown f.second_touched.grown

pub finished_grounded : (l : Layout) → Lawful l → (level : ℕ) (b : Bool) (tag : Tag) (base : ℕ) (m : Values) (t : Translation) (p : Values) → Finished l level b tag base m t p → Grounded l base p t
finished_grounded l laws level b tag base m t p f =
    let a = l.first_entry base tag.page in
    let x = f.first_touched in
    let y = f.second_touched in
    let later = y.grown (dword a) f.first_left x.stands in
    let top_valid : l.valid f.first_left ≡ true = ap l.valid x.left ∙ marked_valid l laws First false f.first ∙ f.first_passes.valid in
    let top_referenced : l.referenced f.first_left ≡ true = ap l.referenced x.left ∙ marked_referenced l laws First false f.first in
    rw f.finds (record {
      now = record {
        first = later.entry;
        second = f.second_left;
        first_used = record { reads = later.reads; valid = later.valid ∙ top_valid; referenced = later.referenced top_referenced };
        second_used = rw later.frame (record {
          reads = y.stands;
          valid = ap l.valid y.left ∙ marked_valid l laws Second b f.second ∙ f.second_passes.valid;
          referenced = ap l.referenced y.left ∙ marked_referenced l laws Second b f.second;
        });
        protection = ap (λ z. min z (l.protection f.second_left)) (sym later.protection);
        frame = refl;
        inhibit = refl;
        modified = λ d _. d;
      };
      first_address = refl;
      second_address = ap (λ z. l.second_entry z tag.page) (sym later.frame);
      modified = λ d. d;
    })

-- what every kept translation has: a space of the two, a protection level up to 3, and the frame of an entry
pub record Sized (l : Layout) (t : Translation) : Type 0 where
  pub spaced : t.tag.space ≤ 1
  pub small : t.protection ≤ 3
  pub entry : ℕ
  pub framed : t.frame ≡ l.frame entry

pub finished_sized : (l : Layout) → Lawful l → (level : ℕ) (b : Bool) (tag : Tag) (base : ℕ) (m : Values) (t : Translation) (p : Values) → tag.space ≤ 1 → Finished l level b tag base m t p → Sized l t
finished_sized l laws level b tag base m t p spaced f =
    let small = laws.protection_small f.second_left in
    rw f.finds (record { spaced = spaced; small = omega arith; entry = f.second_left; framed = refl })
