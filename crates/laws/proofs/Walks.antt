-- The ways of a walk, each with what is known there.
use Rattle.std.specs.Prelude.{◌==◌}
use Rattle.std.proofs.Common.{◌≡◌, ℕ, Bool, true, false, Some, Ok, Err, Result, sym, refl, ◌∙◌, arith}
use Rattle.std.proofs.lemmas.Bool.{eqb-true}
use Rattle.std.proofs.lemmas.Option.{same_Some}
use Rattle.entry.specs.Access.{permits}
use Rattle.entry.specs.Layout.{Layout, Lawful}
use Rattle.entry.specs.declared.TableLevel.{TableLevel}
use Rattle.entry.specs.declared.TableLevel.TheVariants.{First, Second}
use Rattle.physical.specs.Stores.{Values, Writable, dword, written}
use Rattle.physical.specs.declared.MemoryError.TheVariants.{ReadOnly}
use Rattle.physical.proofs.Written.{one_write}
use Rattle.model.specs.declared.refusal.Abort.{Abort}
use Rattle.model.specs.declared.refusal.Abort.TheVariants.{EntryRefused}
use Rattle.model.specs.declared.translation.Tag.{Tag}
use Rattle.model.specs.declared.translation.Translation.{Translation}
use Rattle.model.specs.Walk.{and_then, found, marked, passed, touched, walk, walk_second}
use Rattle.laws.proofs.Marking.{Grown, grown_refl, grown_marked, written_there}

-- an entry that lets the access pass
pub record Passes (l : Layout) (level a : ℕ) (m : Values) (e : ℕ) : Type 0 where
  pub reads : m (dword a) ≡ Some e
  pub valid : l.valid e ≡ true
  pub permitted : permits (l.protection e) level ≡ true

pub passes : (l : Layout) (t : TableLevel) (level a : ℕ) (m : Values) (e : ℕ) → passed l t level a (m (dword a)) ≡ Ok e → Passes l level a m e
passes l t level a m e h = record { reads = grind arith; valid = grind arith; permitted = grind arith }

-- a mark that was made, or was there
pub record Touched (l : Layout) (t : TableLevel) (b : Bool) (a e : ℕ) (m : Values) (g : ℕ) (n : Values) : Type 0 where
  pub left : g ≡ marked l t b e
  pub grown : Grown l m n
  pub stands : n (dword a) ≡ Some g
  pub still : n (dword a) ≡ m (dword a) → marked l t b e ≡ e

-- how an attempt to mark ends
pub data Touches (l : Layout) (t : TableLevel) (b : Bool) (a e : ℕ) (m : Values) : Result ℕ Abort × Values → Type 0 where
  refuses : (x : Abort) → Touches l t b a e m (Err x, m)
  marks : (g : ℕ) (n : Values) → Touched l t b a e m g n → Touches l t b a e m (Ok g, n)

pub touches : (l : Layout) → Lawful l → (t : TableLevel) (b : Bool) (a e : ℕ) (m : Values) (w : Writable) → m (dword a) ≡ Some e → Touches l t b a e m (touched l t b a e m w)
touches l laws t b a e m w r = on_mark (marked l t b e == e) refl (w (dword a)) refl
  where
    -- the write of the mark
    made : w (dword a) ≡ true → marked l t b e == e ≡ false → Touched l t b a e m (marked l t b e) (written m w (dword a) (marked l t b e))
    made can c =
        let stands = written_there m w (dword a) (marked l t b e) e r can in
        record {
          left = refl;
          grown = grown_marked l laws m w t b (dword a) e r can;
          stands = stands;
          still = λ same. same_Some (marked l t b e) e (sym stands ∙ same ∙ r);
        }

    on_mark : (c : Bool) → marked l t b e == e ≡ c → (x : Bool) → w (dword a) ≡ x → Touches l t b a e m (touched l t b a e m w)
    on_mark true c x _ =
        let same = eqb-true (marked l t b e) e c in
        rw (c, touched) (marks e m (record { left = sym same; grown = grown_refl l m; stands = r; still = λ _. same }))
    on_mark false c true can = rw (c, touched, r, can) (marks _ _ (made can c))
    on_mark false c false can = rw (c, touched, r, can, one_write.refused m w (dword a) (marked l t b e) ReadOnly (rw (r, can))) (refuses (EntryRefused t a ReadOnly))

-- what is known of a walk that was finished
pub record Finished (l : Layout) (level : ℕ) (modifies : Bool) (tag : Tag) (base : ℕ) (m : Values) (t : Translation) (p : Values) : Type 0 where
  pub first : ℕ
  pub first_left : ℕ
  pub between : Values
  pub second : ℕ
  pub second_left : ℕ
  pub first_passes : Passes l level (l.first_entry base tag.page) m first
  pub first_touched : Touched l First false (l.first_entry base tag.page) first m first_left between
  pub second_passes : Passes l level (l.second_entry (l.frame first_left) tag.page) between second
  pub second_touched : Touched l Second modifies (l.second_entry (l.frame first_left) tag.page) second between second_left p
  pub finds : t ≡ found l tag (l.first_entry base tag.page) first_left (l.second_entry (l.frame first_left) tag.page) second_left

-- how a walk ends
pub data Walks (l : Layout) (level : ℕ) (modifies : Bool) (tag : Tag) (base : ℕ) (m : Values) : Result Translation Abort × Values → Type 0 where
  halts : (x : Abort) (n : Values) → Grown l m n → Walks l level modifies tag base m (Err x, n)
  ends : (t : Translation) (p : Values) → Finished l level modifies tag base m t p → Walks l level modifies tag base m (Ok t, p)

pub walks : (l : Layout) → Lawful l → (level : ℕ) (modifies : Bool) (tag : Tag) (base : ℕ) (m : Values) (w : Writable) → Walks l level modifies tag base m (walk l level modifies tag base m w)
walks l laws level modifies tag base m w = on_first (passed l First level a (m (dword a))) refl
  where
    a : ℕ
    a = l.first_entry base tag.page

    Goal : Result Translation Abort × Values → Type 0
    Goal = Walks l level modifies tag base m

    on_second_touch : (e g : ℕ) (n : Values) → Passes l level a m e → Touched l First false a e m g n → (f : ℕ) → Passes l level (l.second_entry (l.frame g) tag.page) n f →
        (r : Result ℕ Abort × Values) → Touches l Second modifies (l.second_entry (l.frame g) tag.page) f n r →
        Goal (and_then r (λ k p. (Ok (found l tag a g (l.second_entry (l.frame g) tag.page) k), p)))
    on_second_touch e g n pe te f pf r (refuses x) = halts x n te.grown
    on_second_touch e g n pe te f pf r (marks k p tf) = ends _ p (record {
      first = e;
      first_left = g;
      between = n;
      second = f;
      second_left = k;
      first_passes = pe;
      first_touched = te;
      second_passes = pf;
      second_touched = tf;
      finds = refl;
    })

    on_second : (e g : ℕ) (n : Values) → Passes l level a m e → Touched l First false a e m g n → (r : Result ℕ Abort) → passed l Second level (l.second_entry (l.frame g) tag.page) (n (dword (l.second_entry (l.frame g) tag.page))) ≡ r →
        Goal (walk_second l level modifies tag a g (l.second_entry (l.frame g) tag.page) n w)
    on_second e g n pe te (Err x) q = rw (q, walk_second) (halts x n te.grown)
    on_second e g n pe te (Ok f) q =
        let pf = passes l Second level (l.second_entry (l.frame g) tag.page) n f q in
        rw (q, walk_second) (on_second_touch e g n pe te f pf _ (touches l laws Second modifies (l.second_entry (l.frame g) tag.page) f n w pf.reads))

    on_touch : (e : ℕ) → Passes l level a m e → (r : Result ℕ Abort × Values) → Touches l First false a e m r →
        Goal (and_then r (λ g p. walk_second l level modifies tag a g (l.second_entry (l.frame g) tag.page) p w))
    on_touch e pe r (refuses x) = halts x m (grown_refl l m)
    on_touch e pe r (marks g n te) = on_second e g n pe te _ refl

    on_first : (r : Result ℕ Abort) → passed l First level a (m (dword a)) ≡ r → Goal (walk l level modifies tag base m w)
    on_first (Err x) q = rw (q, walk) (halts x m (grown_refl l m))
    on_first (Ok e) q = let pe = passes l First level a m e q in rw (q, walk) (on_touch e pe _ (touches l laws First false a e m w pe.reads))
