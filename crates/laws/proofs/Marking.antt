-- What marks leave of entries and of memories, by the laws of a layout.
use Rattle.std.proofs.Common.{◌≡◌, ℕ, Bool, true, ◌⊎◌, Some, Option, refl, ap, ◌∙◌, inl, inr, arith}
use Rattle.std.proofs.lemmas.Bool.{eq-eqb, ne_eqb, cases_eq}
use Rattle.entry.specs.Layout.{Layout, Lawful}
use Rattle.entry.specs.declared.TableLevel.{TableLevel}
use Rattle.entry.specs.declared.TableLevel.TheVariants.{First, Second}
use Rattle.physical.specs.Stores.{Values, Writable, written}
use Rattle.model.specs.Walk.{marked}

-- a write where a double-word is present and can be written
pub written_there : (m : Values) (w : Writable) (k v u : ℕ) → m k ≡ Some u → w k ≡ true → written m w k v k ≡ Some v
written_there m w k v u here can = rw (eq-eqb k k refl, here, can)

pub written_elsewhere : (m : Values) (w : Writable) (k v q : ℕ) → (q ≡ k → ⊥) → written m w k v q ≡ m q
written_elsewhere m w k v q apart = rw (ne_eqb q k apart)

module _ (l : Layout) (laws : Lawful l) where
  pub marked_valid : (t : TableLevel) (b : Bool) (e : ℕ) → l.valid (marked l t b e) ≡ l.valid e
  marked_valid t b e = grind (arith, laws.modified_valid, laws.referenced_valid)

  pub marked_protection : (t : TableLevel) (b : Bool) (e : ℕ) → l.protection (marked l t b e) ≡ l.protection e
  marked_protection t b e = grind (arith, laws.modified_protection, laws.referenced_protection)

  pub marked_frame : (t : TableLevel) (b : Bool) (e : ℕ) → l.frame (marked l t b e) ≡ l.frame e
  marked_frame t b e = grind (arith, laws.modified_frame, laws.referenced_frame)

  pub marked_inhibit : (t : TableLevel) (b : Bool) (e : ℕ) → l.inhibit Second (marked l t b e) ≡ l.inhibit Second e
  marked_inhibit t b e = grind (arith, laws.modified_inhibit, laws.referenced_inhibit)

  pub marked_referenced : (t : TableLevel) (b : Bool) (e : ℕ) → l.referenced (marked l t b e) ≡ true
  marked_referenced t b e = grind (arith, laws.modified_referenced, laws.referenced_set)

  -- modified in the second table, whichever table the mark was made for
  modified_grows : (t : TableLevel) (e : ℕ) → l.modified Second e ≡ true → l.modified Second (l.mark_modified t e) ≡ true
  modified_grows First e h = ap (l.modified Second) (laws.modified_first e) ∙ h
  modified_grows Second e h = laws.modified_set e

  pub marked_modified : (t : TableLevel) (b : Bool) (e : ℕ) → l.modified Second e ≡ true → l.modified Second (marked l t b e) ≡ true
  marked_modified t b e h = grind (arith, modified_grows, laws.referenced_modified)

  pub marked_for_write : (b : Bool) (e : ℕ) → b ≡ true → l.modified Second (marked l Second b e) ≡ true
  marked_for_write b e h = rw h (laws.modified_set (l.mark_referenced Second e))

  -- an entry that has the marks is left as it is
  pub marked_again : (t : TableLevel) (b : Bool) (e : ℕ) → l.referenced e ≡ true → (b ≡ true → l.modified t e ≡ true) → marked l t b e ≡ e
  marked_again t b e r m = grind (arith, laws.referenced_stays, laws.modified_stays)

-- what an entry can become by marks
pub record Later (l : Layout) (e : ℕ) (x : Option ℕ) : Type 0 where
  pub entry : ℕ
  pub reads : x ≡ Some entry
  pub valid : l.valid entry ≡ l.valid e
  pub protection : l.protection entry ≡ l.protection e
  pub frame : l.frame entry ≡ l.frame e
  pub inhibit : l.inhibit Second entry ≡ l.inhibit Second e
  pub referenced : l.referenced e ≡ true → l.referenced entry ≡ true
  pub modified : l.modified Second e ≡ true → l.modified Second entry ≡ true

-- n differs from m by marks alone
abbrev pub Grown : Layout → Values → Values → Type 0
Grown l m n = (q e : ℕ) → m q ≡ Some e → Later l e (n q)

pub grown_refl : (l : Layout) (m : Values) → Grown l m m
grown_refl l m q e r = record { entry = e; reads = r; valid = refl; protection = refl; frame = refl; inhibit = refl; referenced = λ h. h; modified = λ h. h }

pub grown_trans : (l : Layout) (m n p : Values) → Grown l m n → Grown l n p → Grown l m p
grown_trans l m n p f g q e r =
    let x = f q e r in
    let y = g q x.entry x.reads in
    record {
      entry = y.entry;
      reads = y.reads;
      valid = y.valid ∙ x.valid;
      protection = y.protection ∙ x.protection;
      frame = y.frame ∙ x.frame;
      inhibit = y.inhibit ∙ x.inhibit;
      referenced = λ h. y.referenced (x.referenced h);
      modified = λ h. y.modified (x.modified h);
    }

pub same_entry : (x y : ℕ) (o : Option ℕ) → o ≡ Some x → o ≡ Some y → x ≡ y
same_entry x y o h g = cc

-- the write of a mark
pub grown_marked : (l : Layout) → Lawful l → (m : Values) (w : Writable) (t : TableLevel) (b : Bool) (k e : ℕ) → m k ≡ Some e → w k ≡ true → Grown l m (written m w k (marked l t b e))
grown_marked l laws m w t b k e r can q f s = go (cases_eq q k)
  where
    go : (q ≡ k) ⊎ (q ≡ k → ⊥) → Later l f (written m w k (marked l t b e) q)
    go (inl h) =
        let same : e ≡ f = same_entry e f (m q) (ap m h ∙ r) s in
        rw (← same) (record {
          entry = marked l t b e;
          reads = ap (written m w k (marked l t b e)) h ∙ written_there m w k (marked l t b e) e r can;
          valid = marked_valid l laws t b e;
          protection = marked_protection l laws t b e;
          frame = marked_frame l laws t b e;
          inhibit = marked_inhibit l laws t b e;
          referenced = λ _. marked_referenced l laws t b e;
          modified = marked_modified l laws t b e;
        })
    go (inr h) = rw (written_elsewhere m w k (marked l t b e) q h) (grown_refl l m q f s)
